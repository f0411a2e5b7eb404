-- One packet more that was answered and counted.
use Rattle.std.proofs.Common.{◌≡◌, ℕ, ◌+◌, ◌^◌, ◌<◌, List, [], ◌∷◌, ◌++◌, Bool, true, false, Result, Ok, Err}
use Rattle.std.specs.List.{AllByRecursion}
use Rattle.std.proofs.lemmas.List.{map-append}
use Rattle.savefile.specs.declared.fault.Fault.{Fault}
use Rattle.savefile.specs.declared.packet.Packet.{Packet}
use Rattle.savefile.specs.Reader.{Reading, Leaves}
use Rattle.cli_answers.specs.Answers.{Answer}
use Rattle.cli_count.specs.Counting.{packets_of}

pub all-more : {X : Type 0} (P : X → Type 0) (xs : List X) (x : X) → AllByRecursion P xs → P x → AllByRecursion P (xs ++ x ∷ [])
all-more P [] x all one = (one, tt)
all-more P (y ∷ xs) x (first, all) one = (first, all-more P xs x all one)

pub packets-last : (answers : List Answer) (a : Answer) → packets_of (answers ++ a ∷ []) ≡ packets_of answers ++ a.packet ∷ []
packets-last answers a = map-append (λ (b : Answer). b.packet) answers (a ∷ [])

-- one more was given, and no more than can be counted
pub gave-more : {R : Type 0} (old new : Reading R) (result : Result Bool Fault) → Leaves old new result → result ≡ Ok true → (new.given ≡ old.given + 1) × (new.given < 2 ^ 64)
gave-more old new (Ok true) (goes, one, fits) is = (one, fits)
gave-more old new (Ok false) leaves is = absurd (cc)
gave-more old new (Err fault) leaves is = absurd (cc)
