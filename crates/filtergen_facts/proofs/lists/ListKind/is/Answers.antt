use Rattle.std.proofs.Common.{◌≡◌, true, false, sym, ap, ◌∙◌, rules}
use Rattle.filtergen_facts.specs.declared.lists.ListKind.{ListKind}
use Rattle.filtergen_facts.specs.contracts.lists.Form.{the_type as the_forms}
use Rattle.filtergen_facts.specs.contracts.lists.Sides.{the_type as the_sides}
use Rattle.filter_tree.specs.contracts.tree.Layer.{the_type as the_layers}
use Rattle.filter_tree.specs.contracts.tree.Size.{the_type as the_sizes}
use Rattle.filtergen_facts.proofs.Members.{both-true, all-true, kind-same, bytes-same, equal-true, equal}
use denote.Enum.Bare.{same_true, true_same}
use Rattle.filtergen_facts.proofs.lists.ListKind.is.Goals as goal

pub returns-then-eq-clause-same : goal.returns-then-eq-clause-same
returns-then-eq-clause-same c =
    let kind = c.args.self in
    let other = c.args.other in
    let by_form = both-true _ _ c.if-eq.ensures in
    let by_sides = both-true _ _ by_form.1 in
    let by_mask = both-true _ _ by_sides.1 in
    let by_head = both-true _ _ by_mask.1 in
    let by_layer = both-true _ _ by_head.1 in
    let by_index = both-true _ _ by_layer.1 in
    let bytes : kind.bytes ≡ other.bytes =
    bytes-same kind.bytes other.bytes (same_true the_layers tt _ _ by_layer.0) (equal-true _ _ by_index.0) (same_true the_sizes tt _ _ (sym by_index.1)) in
    let same : kind ≡ other =
    kind-same kind other (same_true the_forms tt _ _ by_form.0) (same_true the_sides tt _ _ by_sides.0) (equal-true _ _ by_mask.0) (equal-true _ _ by_head.0) bytes in
    search (rules, same)

pub returns-else-eq-clause-differ : goal.returns-else-eq-clause-differ
returns-else-eq-clause-differ c = λ same.
    let by_bytes =
    all-true _ _ (true_same the_layers _ _ (ap (λ (k : ListKind). k.bytes.layer) same))
    (all-true _ _ (equal _ _ (ap (λ (k : ListKind). k.bytes.index) same)) (true_same the_sizes _ _ (ap (λ (k : ListKind). k.bytes.size) same))) in
    let wrong : false ≡ true =
    c.if-eq.ensures
    ∙ all-true _ _ (true_same the_forms _ _ (ap (λ (k : ListKind). k.form) same))
    (all-true _ _ (true_same the_sides _ _ (ap (λ (k : ListKind). k.sides) same))
    (all-true _ _ (equal _ _ (ap (λ (k : ListKind). k.mask) same)) (all-true _ _ (equal _ _ (ap (λ (k : ListKind). k.head) same)) by_bytes))) in
    cc
