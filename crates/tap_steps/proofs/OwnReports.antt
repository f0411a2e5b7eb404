-- What listeners reached, said of their own steps.
use Rattle.std.proofs.Common.{◌≡◌, ℕ, ◌<◌, ◌≤◌, Bool, true, false, cond, List, [], ◌∷◌, ◌++◌, Option, Some, length, ◌==◌, refl, ap, sym, ◌∙◌, subst, zero, suc, map, option_map}
use Rattle.bpfvm.specs.declared.insn.Insn.{Insn}
use Rattle.listener.specs.declared.message.Message.{Message}
use Rattle.listener.specs.Messages.{Arrival, kept_by, size}
use Rattle.listener.specs.Listening.{listening}
use Rattle.listener.specs.PlainList.{Terms, Request, Event, answers, empty, batches, requests}
use Rattle.listener.specs.PlainList as P
use Rattle.listener.specs.Laws.{AnswersAreLegal, RunsAreKept, KeptFits, FitsIn, AllFitIn, IsKept, joined}
use Rattle.tap_steps.specs.declared.playlist.PlacedPacket.{PlacedPacket}
use Rattle.tap_steps.specs.declared.report.Report.{Report}
use Rattle.tap_steps.specs.declared.step.Step.{Step}
use Rattle.tap_steps.specs.declared.step.Step.TheVariants.{Arrive, Flush, Read, Close}
use Rattle.tap_steps.specs.declared.answer.Answered.{Answered}
use Rattle.tap_steps.specs.Answers.{all_answered, AreLegal}
use Rattle.tap_steps.specs.Reports.{run_of, Reports}
use Rattle.tap_steps.specs.OwnSteps.{own, arrival_of}
use Rattle.tap_steps.specs.Watching.{AllPackets, Watch, watch, all_stepped, Tells, IsFollowed, no_answers, played, arrived_at, one_stepped}
use Rattle.tap_steps.proofs.Stepping.{all_stepped_is}
use Rattle.tap_steps.proofs.Counting.{length_one}
use Rattle.std.specs.List.{AllByRecursion, AllZip, slice_get}
use Rattle.std.proofs.lemmas.List.{length-map}

-- ---- Own steps fit

if_fits : (capacity : ℕ) (b : Bool) (r : Request) (rs : List Request) → FitsIn capacity r → AllFitIn capacity rs → AllFitIn capacity (cond b (r ∷ []) [] ++ rs)
if_fits capacity true r rs h hs = (h, hs)
if_fits capacity false r rs h hs = hs

own_fits : (keeps : Arrival → Option Message) (capacity l : ℕ) → ((a : Arrival) → FitsIn capacity (P.Arrive (keeps a))) → (steps : List Step) (playlist : List PlacedPacket) → AllFitIn capacity (own keeps l steps playlist)
own_fits keeps capacity l h [] playlist = tt
own_fits keeps capacity l h (Arrive ∷ steps) [] = own_fits keeps capacity l h steps []
own_fits keeps capacity l h (Arrive ∷ steps) (p ∷ playlist) = (h (arrival_of p), own_fits keeps capacity l h steps playlist)
own_fits keeps capacity l h (Flush k ∷ steps) playlist = if_fits capacity (k == l) P.Flush (own keeps l steps playlist) tt (own_fits keeps capacity l h steps playlist)
own_fits keeps capacity l h (Read k ∷ steps) playlist = if_fits capacity (k == l) P.Read (own keeps l steps playlist) tt (own_fits keeps capacity l h steps playlist)
own_fits keeps capacity l h (Close k ∷ steps) playlist = if_fits capacity (k == l) P.Close (own keeps l steps playlist) tt (own_fits keeps capacity l h steps playlist)

-- ---- A listener's report and answers, by its program

-- the state to which a listener's own steps lead from the beginning
abbrev pub came_to : Bool → List Insn → ℕ → Terms → List Request → Watch
came_to traced program snap t rs = all_stepped rs (watch (listening program snap t empty) [] (no_answers traced))

module _ (legal_law : AnswersAreLegal) (kept_law : RunsAreKept) (fit_law : KeptFits) where
  pub reports_by : (traced : Bool) (program : List Insn) (snap : ℕ) (t : Terms) (l : ℕ) (steps : List Step) (playlist : List PlacedPacket) (report : Report) → size snap ≤ t.capacity →
      Tells (came_to traced program snap t (own (kept_by program snap) l steps playlist)) report →
      Reports t (own (kept_by program snap) l steps playlist) report
  reports_by traced program snap t l steps playlist report room tells =
      let rs : List Request = own (kept_by program snap) l steps playlist in
      let es : List Event = answers t empty rs in
      let law = legal_law t empty rs in
      let is = all_stepped_is program snap t empty [] (no_answers traced) rs in
      let r : Tells (watch (listening program snap t (run_of t rs)) (batches es) (option_map (λ l. l ++ all_answered empty es) (no_answers traced))) report =
      subst (λ (w : Watch). Tells w report) is tells in
      let fit : AllFitIn t.capacity (requests es) = subst (AllFitIn t.capacity) (sym law.1)
      (own_fits (kept_by program snap) t.capacity l (λ a. fit_law program snap t.capacity a room) steps playlist) in
      let k : IsKept t rs (batches es) (run_of t rs) = subst (λ (q : List Request). IsKept t q (batches es) (run_of t rs)) law.1 (kept_law t es fit law.0) in
      record {
        looks_back = record {
          whole = (λ i. joined (r.read i) ++ r.held i) ∙ k.whole;
          received = r.received ∙ k.all_received;
          matched = r.matched ∙ k.all_matched;
          dropped = r.dropped ∙ k.all_dropped;
        };
        runs = record { batches = r.read; pending = r.held; received = r.received; matched = r.matched; dropped = r.dropped };
      }

-- the answers that were followed are the legal ones of a listener's own steps
pub legal_by : AnswersAreLegal → (program : List Insn) (snap : ℕ) (t : Terms) (rs : List Request) (followed : List Answered) →
    IsFollowed (came_to true program snap t rs) followed → AreLegal t rs followed
legal_by legal_law program snap t rs followed follows =
    let law = legal_law t empty rs in
    record {
      events = answers t empty rs;
      of_steps = law.1;
      legal = law.0;
      told = follows (all_answered empty (answers t empty rs)) (ap (λ (w : Watch). w.answers) (all_stepped_is program snap t empty [] (no_answers true) rs));
    }

-- ---- Two filters that keep the same

pub own_alike : (f g : Arrival → Option Message) (l : ℕ) (steps : List Step) (playlist : List PlacedPacket) → ((p : PlacedPacket) → AllByRecursion (λ byte. byte < 256) p.packet.bytes → f (arrival_of p) ≡ g (arrival_of p)) → AllPackets playlist → own f l steps playlist ≡ own g l steps playlist
own_alike f g l [] playlist h all = refl
own_alike f g l (Arrive ∷ steps) [] h all = own_alike f g l steps [] h all
own_alike f g l (Arrive ∷ steps) (p ∷ playlist) h all = λ i. P.Arrive (h p all.0 i) ∷ own_alike f g l steps playlist h all.1 i
own_alike f g l (Flush k ∷ steps) playlist h all = ap (λ (q : List Request). cond (k == l) (P.Flush ∷ []) [] ++ q) (own_alike f g l steps playlist h all)
own_alike f g l (Read k ∷ steps) playlist h all = ap (λ (q : List Request). cond (k == l) (P.Read ∷ []) [] ++ q) (own_alike f g l steps playlist h all)
own_alike f g l (Close k ∷ steps) playlist h all = ap (λ (q : List Request). cond (k == l) (P.Close ∷ []) [] ++ q) (own_alike f g l steps playlist h all)

-- ---- Two lists side by side

pub zip_at : {A B : Type 0} (R : A → B → Type 0) (xs : List A) (ys : List B) (l : ℕ) (x : A) → AllZip R xs ys → slice_get xs l ≡ Some x → (y : B) × (slice_get ys l ≡ Some y) × R x y
zip_at R [] ys l x z h = absurd (cc)
zip_at R (u ∷ xs) [] l x z h = absurd z
zip_at R (u ∷ xs) (v ∷ ys) zero x z h = let e : u ≡ x = cc in (v, refl, subst (λ w. R w v) e z.0)
zip_at R (u ∷ xs) (v ∷ ys) (suc l) x z h = zip_at R xs ys l x z.1 h

-- ---- All listeners

pub length_played : (steps : List Step) (playlist : List PlacedPacket) (ws : List Watch) → length (played steps playlist ws) ≡ length ws
length_played [] playlist ws = refl
length_played (Arrive ∷ steps) [] ws = length_played steps [] ws
length_played (Arrive ∷ steps) (p ∷ playlist) ws = length_played steps playlist (map (arrived_at p) ws) ∙ length-map ws (arrived_at p)
length_played (Flush k ∷ steps) playlist ws = length_played steps playlist (one_stepped k P.Flush ws) ∙ length_one k P.Flush ws
length_played (Read k ∷ steps) playlist ws = length_played steps playlist (one_stepped k P.Read ws) ∙ length_one k P.Read ws
length_played (Close k ∷ steps) playlist ws = length_played steps playlist (one_stepped k P.Close ws) ∙ length_one k P.Close ws
