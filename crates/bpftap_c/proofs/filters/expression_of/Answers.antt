use Rattle.filter_tree.specs.Trees.{tree_of}
use Rattle.bpftap_c.proofs.UnreadText.{read, unread}
use Rattle.bpftap_c.proofs.filters.expression_of.Goals as goal

pub returns-in-Ok-parse-clause-ok : goal.returns-in-Ok-parse-clause-ok
returns-in-Ok-parse-clause-ok c =
    read c.in-Ok-parse.expr c.args.bytes.now c.in-Ok.text.now (tree_of c.in-Ok-parse.expr) c.in-Ok.ensures.text c.in-Ok-parse.ensures.too_long c.in-Ok-parse.ensures.reads

pub returns-in-Err-parse-clause-err : goal.returns-in-Err-parse-clause-err
returns-in-Err-parse-clause-err c =
    unread c.args.bytes.now c.in-Ok.text.now c.in-Err-parse.fault c.in-Ok.ensures.text c.in-Ok.ensures.utf8 c.in-Err-parse.ensures.refused c.in-Err-parse.ensures.too_long c.in-Err-parse.ensures.accepted
