-- A listener's report is that of its own steps.
use Rattle.std.proofs.Common.{◌≡◌, ℕ, ◌<◌, ◌^◌, Bool, true, false, cond, List, [], ◌∷◌, ◌++◌, Option, Some, length, take, min, refl, sym, ap, ◌∙◌, subst, arith, ◌⊎◌, inl, inr, option_map}
use Rattle.std.proofs.lemmas.Bool.{lt-ltb}
use Rattle.bpfvm.specs.declared.insn.Insn.{Insn}
use Rattle.bpfvm.specs.Machine.{verdict}
use Rattle.filterlang.specs.Trees.{Tree}
use Rattle.filter_meaning.specs.Meaning.{HasBytes, packet_of, accepts}
use Rattle.listener.specs.declared.message.Message.{Message}
use Rattle.filtergen_code.specs.Compiling.{StandsFor}
use Rattle.listener.specs.Messages.{Arrival, cut_to, kept_by}
use Rattle.listener.specs.PlainList.{Request}
use Rattle.listener.specs.Laws.{AnswersAreLegal, RunsAreKept, KeptFits}
use Rattle.tap_steps.specs.declared.playlist.PlacedPacket.{PlacedPacket}
use Rattle.tap_steps.specs.declared.report.Report.{Report}
use Rattle.tap_steps.specs.declared.step.Step.{Step}
use Rattle.tap_steps.specs.declared.answer.Answered.{Answered}
use Rattle.savefile.specs.declared.fault.Fault.{Fault as Misread}
use Rattle.tap_steps.specs.Answers.{AreLegal}
use Rattle.tap.specs.Answers.{Traces}
use Rattle.tap.specs.Filters.{kept_by_tree, FiltersAs}
use Rattle.tap_steps.specs.Reports.{terms_of, Reports}
use Rattle.tap.specs.Headline.{Replays}
use Rattle.tap_steps.specs.OwnSteps.{own, arrival_of}
use Rattle.tap_steps.specs.Watching.{AllPackets, CountsFit, Watch, Tells, IsFollowed, played}
use Rattle.tap_steps.specs.declared.filters.Filter.{Filter}
use Rattle.tap_steps.specs.declared.filters.Filter.TheVariants.{Text, Program}
use Rattle.tap.specs.Opening.{ProgramOf, Opened, ComesTo}
use Rattle.tap_steps.proofs.Owns.{goes, played_own}
use Rattle.tap_steps.proofs.OwnReports.{came_to, reports_by, legal_by, own_alike, zip_at, length_played}
use Rattle.tap_steps.proofs.Counting.{zip_length, zip_push}
use Rattle.tap.specs.Refusals.{ListenersAreRight, RefusesListener, RefusesOne}
use Rattle.tap.specs.declared.fault.Fault.{Fault}
use Rattle.tap.specs.declared.fault.Fault.TheVariants as faults
use Rattle.tap_steps.specs.declared.filters.Spec.{Spec}
use Rattle.std.specs.List.{AllZip, slice_get}

-- ---- An expression stands for its program

kept_alike_if : (program : List Insn) (tree : Tree) (snap : ℕ) (a : Arrival) (b : Bool) → 0 < snap → verdict program a.packet.bytes a.packet.len ≡ cond b snap 0 → accepts tree (packet_of a.packet.bytes a.packet.len) ≡ b →
    kept_by program snap a ≡ kept_by_tree tree snap a
unfolding kept_by kept_by_tree
kept_alike_if program tree snap a true some e f =
    rw (e, f, lt-ltb 0 snap some) (ap (λ (n : ℕ). Some (cut_to n a)) (let m : min snap snap ≡ snap = omega arith in m))
kept_alike_if program tree snap a false some e f = rw (e, f) refl

pub kept_alike : (program : List Insn) (tree : Tree) (snap : ℕ) → 0 < snap → StandsFor program tree snap → (p : PlacedPacket) → HasBytes (packet_of p.packet.bytes p.packet.len) → kept_by program snap (arrival_of p) ≡ kept_by_tree tree snap (arrival_of p)
kept_alike program tree snap some stands p real = kept_alike_if program tree snap (arrival_of p) (accepts tree (packet_of p.packet.bytes p.packet.len)) some (stands (packet_of p.packet.bytes p.packet.len) real) refl

-- ---- The headline, for one listener

-- what holds of the program's own steps holds of the filter's
told : (Says : List Request → Type 0) (filter : Filter) (program : List Insn) (snap l : ℕ) (steps : List Step) (playlist : List PlacedPacket) → 0 < snap → AllPackets playlist →
    ProgramOf filter snap program → Says (own (kept_by program snap) l steps playlist) →
    (keeps : Arrival → Option Message) × FiltersAs filter snap keeps × Says (own keeps l steps playlist)
told Says (Program p) program snap l steps playlist some real made says = (
  kept_by p snap,
  refl,
  subst (λ (q : List Insn). Says (own (kept_by q snap) l steps playlist)) made says,
)
told Says (Text text) program snap l steps playlist some real made says = (
  kept_by_tree made.0 snap,
  (made.0, made.1, refl),
  subst Says (own_alike (kept_by program snap) (kept_by_tree made.0 snap) l steps playlist (kept_alike program made.0 snap some made.2) real) says,
)

-- what holds of a listener at the end holds of one that was opened and went through its own steps
ended_at : {B : Type 0} (R : Watch → B → Type 0) (traced : Bool) (specs : List Spec) (ws done : List Watch) (ys : List B) (steps : List Step) (playlist : List PlacedPacket) →
    AllZip (Opened traced) specs ws → done ≡ played steps playlist ws → AllZip R done ys → (l : ℕ) (spec : Spec) → slice_get specs l ≡ Some spec →
    (w : Watch) × Opened traced spec w × (y : B) × (slice_get ys l ≡ Some y) × R (goes l steps playlist w) y
ended_at R traced specs ws done ys steps playlist opened is tells l spec here =
    let o = zip_at (Opened traced) specs ws l spec opened here in
    let d : slice_get done l ≡ Some (goes l steps playlist o.0) = ap (λ (us : List Watch). slice_get us l) is ∙ played_own steps playlist ws l ∙ ap (option_map (goes l steps playlist)) o.1 in
    let r = zip_at R done ys l (goes l steps playlist o.0) tells d in
    (o.0, o.2, r.0, r.1, r.2)

module _ (legal_law : AnswersAreLegal) (kept_law : RunsAreKept) (fit_law : KeptFits) (traced : Bool) (specs : List Spec) (ws done : List Watch) (steps : List Step) (playlist : List PlacedPacket)
    (opened : AllZip (Opened traced) specs ws) (is : done ≡ played steps playlist ws) (real : AllPackets playlist) where
  pub headline_at : (reports : List Report) → AllZip Tells done reports → (l : ℕ) (spec : Spec) → slice_get specs l ≡ Some spec →
      (report : Report) × (slice_get reports l ≡ Some report) × (keeps : Arrival → Option Message) × FiltersAs spec.filter spec.snap keeps × Reports (terms_of spec) (own keeps l steps playlist) report
  headline_at reports tells l spec here =
      let e = ended_at Tells traced specs ws done reports steps playlist opened is tells l spec here in
      let o = e.1 in
      let r : Tells (came_to traced o.program spec.snap (terms_of spec) (own (kept_by o.program spec.snap) l steps playlist)) e.2 =
      subst (λ (w : Watch). Tells (goes l steps playlist w) e.2) o.is e.4 in
      let k = told (λ rs. Reports (terms_of spec) rs e.2) spec.filter o.program spec.snap l steps playlist o.range.least real o.made
      (reports_by legal_law kept_law fit_law traced o.program spec.snap (terms_of spec) l steps playlist e.2 o.range.room r) in
      (e.2, e.3, k.0, k.1, k.2)

module _ (legal_law : AnswersAreLegal) (specs : List Spec) (ws done : List Watch) (steps : List Step) (playlist : List PlacedPacket)
    (opened : AllZip (Opened true) specs ws) (is : done ≡ played steps playlist ws) (real : AllPackets playlist) where
  pub answers_at : (all : List (List Answered)) → AllZip IsFollowed done all → (l : ℕ) (spec : Spec) → slice_get specs l ≡ Some spec →
      (own_answers : List Answered) × (slice_get all l ≡ Some own_answers) × (keeps : Arrival → Option Message) × FiltersAs spec.filter spec.snap keeps × AreLegal (terms_of spec) (own keeps l steps playlist) own_answers
  answers_at all followed l spec here =
      let e = ended_at IsFollowed true specs ws done all steps playlist opened is followed l spec here in
      let o = e.1 in
      let f : IsFollowed (came_to true o.program spec.snap (terms_of spec) (own (kept_by o.program spec.snap) l steps playlist)) e.2 =
      subst (λ (w : Watch). IsFollowed (goes l steps playlist w) e.2) o.is e.4 in
      let k = told (λ rs. AreLegal (terms_of spec) rs e.2) spec.filter o.program spec.snap l steps playlist o.range.least real o.made
      (legal_by legal_law o.program spec.snap (terms_of spec) (own (kept_by o.program spec.snap) l steps playlist) e.2 f) in
      (e.2, e.3, k.0, k.1, k.2)

-- as many as were wanted
ended_many : {B : Type 0} (R : Watch → B → Type 0) (traced : Bool) (specs : List Spec) (ws done : List Watch) (ys : List B) (steps : List Step) (playlist : List PlacedPacket) →
    AllZip (Opened traced) specs ws → done ≡ played steps playlist ws → AllZip R done ys → length ys ≡ length specs
ended_many R traced specs ws done ys steps playlist opened is tells =
    zip_length R done ys tells ∙ ap length is ∙ length_played steps playlist ws ∙ zip_length (Opened traced) specs ws opened

-- what the reports of a replay's end say
pub replays_by : (legal_law : AnswersAreLegal) (kept_law : RunsAreKept) (fit_law : KeptFits) (traced : Bool) (captures : List (List ℕ)) (specs : List Spec) (steps : List Step) (playlist : List PlacedPacket)
    (record_fault : Option (ℕ × Misread)) (done : List Watch) → ComesTo traced captures specs steps playlist record_fault done →
    (reports : List Report) → AllZip Tells done reports → Replays captures specs steps playlist record_fault reports
replays_by legal_law kept_law fit_law traced captures specs steps playlist record_fault done c reports tells = record {
  of_captures = c.of_captures;
  one_each = ended_many Tells traced specs c.began done reports steps playlist c.opened c.ends tells;
  each = headline_at legal_law kept_law fit_law traced specs c.began done steps playlist c.opened c.ends c.packets reports tells;
}

-- what the answers say, where they were followed
pub traces_by : (legal_law : AnswersAreLegal) (captures : List (List ℕ)) (specs : List Spec) (steps : List Step) (playlist : List PlacedPacket)
    (record_fault : Option (ℕ × Misread)) (done : List Watch) → ComesTo true captures specs steps playlist record_fault done →
    (all : List (List Answered)) → AllZip IsFollowed done all → Traces captures specs steps playlist record_fault all
traces_by legal_law captures specs steps playlist record_fault done c all followed = record {
  of_captures = c.of_captures;
  one_each = ended_many IsFollowed true specs c.began done all steps playlist c.opened c.ends followed;
  each = answers_at legal_law specs c.began done steps playlist c.opened c.ends c.packets all followed;
}

pub stand_opened : (traced : Bool) (specs : List Spec) (ws : List Watch) → AllZip (Opened traced) specs ws → ListenersAreRight specs
stand_opened traced [] ws z = tt
stand_opened traced (spec ∷ specs) [] z = absurd z
stand_opened traced (spec ∷ specs) (w ∷ ws) z = ((z.0.stands, z.0.range), stand_opened traced specs ws z.1)

-- with one more of each, all fit together
pub zip_more : {A B : Type 0} (R : A → B → Type 0) (xs grown : List A) (ys : List B) (x : A) (y : B) (more : List B) → AllZip R xs ys → R x y → grown ≡ xs ++ x ∷ [] → more ≡ ys ++ y ∷ [] → AllZip R grown more
zip_more R xs grown ys x y more before one is adds =
    subst (λ (zs : List _). AllZip R zs more) (sym is) (subst (AllZip R (xs ++ x ∷ [])) (sym adds) (zip_push R xs ys x y before one))

-- no count can pass where listeners begin
pub fit_opened : (traced : Bool) (n : ℕ) (specs : List Spec) (ws : List Watch) → n < 2 ^ 64 → AllZip (Opened traced) specs ws → CountsFit n ws
fit_opened traced n [] [] h z = tt
fit_opened traced n [] (w ∷ ws) h z = absurd z
fit_opened traced n (spec ∷ specs) [] h z = tt
fit_opened traced n (spec ∷ specs) (w ∷ ws) h z = (let r : w.listener.list.received ≡ 0 = ap (λ (v : Watch). v.listener.list.received) z.0.is in omega (arith, r), fit_opened traced n specs ws h z.1)

-- the first listener against which something stands
pub refuses_one : (specs : List Spec) (l : ℕ) (spec : Spec) (f : Fault) → slice_get specs l ≡ Some spec → ListenersAreRight (take l specs) → (f ≡ faults.NoMemory) ⊎ RefusesListener l spec f → (f ≡ faults.NoMemory) ⊎ RefusesOne specs f
refuses_one specs l spec f here before (inl none) = inl none
refuses_one specs l spec f here before (inr why) = inr (l, spec, here, why, before)
