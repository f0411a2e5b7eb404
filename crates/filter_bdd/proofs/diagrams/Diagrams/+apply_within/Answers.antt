use Rattle.std.proofs.Common.{◌≡◌, sym, ◌∙◌, subst}
use Rattle.filter_bdd.specs.Diagrams.{answer, Gives, Grew}
use Rattle.filter_bdd.specs.Calls.{call_answer, IsInside, IsApplied}
use Rattle.filter_bdd.proofs.Tables.{grown_more, grown-answer, halves-whole}
use Rattle.filter_bdd.proofs.Calls.{gives-as, call-on, inside_grown}
use Rattle.filter_bdd.proofs.diagrams.Diagrams.+apply_within.Goals as goal

pub apply_halves-requires-clause-whole : goal.apply_halves-requires-clause-whole
apply_halves-requires-clause-whole t c = λ v.
    let call = c.args.call in
    let r = c.spend.new.self in
    let g = c.apply_within.new.self in
    let h = c.apply_within-2.new.self in
    let low = c.half_of-low in
    let high = c.half_of-high in
    let rg = c.apply_within.ensures.grew in
    let gh = c.apply_within-2.ensures.grew in
    let rh = grown_more r g h rg gh in
    let zero : Gives g (call_answer r low.result) c.in-Node.place = subst (IsApplied r g low.result) c.in-Node.is c.in_ok-place.ensures.applied in
    let one : Gives h (call_answer g high.result) c.in-Node-2.place = subst (IsApplied g h high.result) c.in-Node-2.is c.in_ok-place-2.ensures.applied in
    let inside = subst (λ l. IsInside l call) (sym c.spend.ensures) c.requires in
    let whole = call-on r h call rh inside v in
    halves-whole (v c.in-Bit.bit) (call_answer h low.result v) (call_answer h high.result v) (answer h v c.in-Node.place) (answer h v c.in-Node-2.place) (call_answer h call v)
    (grown-answer v g h gh c.in-Node.place zero.inside ∙ zero.says v ∙ call-on r h low.result rh low.ensures.inside v)
    (one.says v ∙ call-on g h high.result gh (inside_grown r g high.result rg high.ensures.inside) v)
    (λ e. sym (call-on r h low.result rh low.ensures.inside v) ∙ low.ensures.says v e ∙ whole)
    (λ e. sym (call-on r h high.result rh high.ensures.inside v) ∙ high.ensures.says v e ∙ whole)

pub returns-clause-applied : goal.returns-clause-applied
returns-clause-applied t c =
    let s = c.args.self.now in
    let call = c.args.call in
    let h = c.apply_within-2.new.self in
    let k = c.apply_halves.new.self in
    let rh = grown_more c.spend.new.self c.apply_within.new.self h c.apply_within.ensures.grew c.apply_within-2.ensures.grew in
    let sh = subst (λ l. Grew l h) c.spend.ensures rh in
    gives-as k (call_answer h call) (call_answer s call) c.in_ok-apply_halves.field-0 (λ v. sym (call-on s h call sh c.requires v)) c.in_ok-apply_halves.ensures.gives
