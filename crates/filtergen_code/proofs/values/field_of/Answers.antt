use Rattle.std.proofs.Common.{◌∙◌, ap}
use Rattle.std.proofs.lemmas.Option.{IfSome_then}
use Rattle.filter_tree.specs.Trees.{amount_of}
use Rattle.filter_meaning.specs.Meaning.{bytes_of}
use Rattle.filtergen_code.specs.Parts.{read_from}
use Rattle.filtergen_code.proofs.Computing.{read-accessed, index-known}
use Rattle.filtergen_code.proofs.values.field_of.Goals as goal

pub returns-in_ok-n-in-Accessor : goal.returns-in_ok-n-in-Accessor
returns-in_ok-n-in-Accessor c =
    let at = c.in-Accessor in
    let n = c.in_ok-n-in-Accessor.n in
    let size = bytes_of at.size in
    let known = rw c.deref.ensures at c.in_ok-n-in-Accessor.ensures.0 in
    rw at.is
    (IfSome_then c.field_at.result c.field_at.ensures
    (λ field reads p.
    reads p
    ∙ ap (λ base. read_from base size p n) c.base_of-base.ensures
    ∙ ap (λ read. read p n) (read-accessed at.layer size)
    ∙ index-known at.layer size (amount_of at.index.value) n p known))
