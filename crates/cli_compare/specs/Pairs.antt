-- How two filters treat packets.
use Rattle.std.specs.Prelude.{◌≡◌, ℕ, suc, ◌+◌, ◌≤◌, Bool, true, false, List, [], ◌∷◌, ◌++◌, length, map, filter}
use Rattle.std.specs.List.{AllByRecursion}
use Rattle.savefile.specs.declared.packet.Packet.{Packet}
use Rattle.cli_answers.specs.declared.form.PacketForm.{PacketForm}
use Rattle.cli_answers.specs.Answers.{Answer}
use Rattle.cli_answers.specs.Objects.{IsAnswerIn}
use Rattle.cli_watch.specs.Frames.{is_unseen}
use Rattle.cli_answers.specs.Counts.{more_if, sum_of}
use Rattle.cli_answers.specs.Seeking.{accepts}
use Rattle.cli_compare.specs.declared.each.DifferenceCounts.{DifferenceCounts}
use Rattle.cli_compare.specs.declared.pair.Agreement.{Agreement}
use Rattle.cli_compare.specs.declared.pair.Agreement.TheVariants.{Same, FirstOnly, SecondOnly}
use Rattle.cli_compare.specs.declared.pair.FilterPair.{FilterPair}

-- ---- One packet

-- by whether the first filter accepts a packet, and the second
abbrev pub agreement_of : (first second : Bool) → Agreement
agreement_of true false = FirstOnly
agreement_of false true = SecondOnly
agreement_of true true = Same
agreement_of false false = Same

abbrev pub agreement : FilterPair → Packet → Agreement
agreement pair p = agreement_of (accepts pair.first p) (accepts pair.second p)

abbrev pub is_first : Agreement → Bool
is_first FirstOnly = true
is_first SecondOnly = false
is_first Same = false

abbrev pub is_second : Agreement → Bool
is_second FirstOnly = false
is_second SecondOnly = true
is_second Same = false

abbrev pub is_different : Agreement → Bool
is_different FirstOnly = true
is_different SecondOnly = true
is_different Same = false

-- one filter accepts the packet, and the other does not
abbrev pub differs : FilterPair → Packet → Bool
differs pair p = is_different (agreement pair p)

-- ---- The counts

-- how many packets there are, how many of them only the first filter accepts, and only the second; and into how many frames no filter looks
pub record AreCounts (pair : FilterPair) (counts : DifferenceCounts) (all : List Packet) : Type 0 where
  pub packets : counts.packets ≡ length all
  pub first : counts.first ≡ length (filter (λ p. is_first (agreement pair p)) all)
  pub second : counts.second ≡ length (filter (λ p. is_second (agreement pair p)) all)
  pub unseen : counts.unseen ≡ length (filter (λ p. is_unseen p.bytes) all)

-- one packet more was treated so, whose frame is unseen or not
abbrev pub counted : Agreement → Bool → DifferenceCounts → DifferenceCounts
counted FirstOnly unseen c = record { packets = c.packets + 1; first = c.first + 1; second = c.second; unseen = more_if unseen c.unseen }
counted SecondOnly unseen c = record { packets = c.packets + 1; first = c.first; second = c.second + 1; unseen = more_if unseen c.unseen }
counted Same unseen c = record { packets = c.packets + 1; first = c.first; second = c.second; unseen = more_if unseen c.unseen }

-- none is above the number of the packets, which are at most n
pub record Fit (c : DifferenceCounts) (n : ℕ) : Type 0 where
  pub packets : c.packets ≤ n
  pub first : c.first ≤ c.packets
  pub second : c.second ≤ c.packets
  pub unseen : c.unseen ≤ c.packets

-- the counts of no packets
abbrev pub no_counts : DifferenceCounts
no_counts = record { packets = 0; first = 0; second = 0; unseen = 0 }

-- those of the packets of both
abbrev pub plus : DifferenceCounts → DifferenceCounts → DifferenceCounts
plus a b = record {
  packets = sum_of a.packets b.packets;
  first = sum_of a.first b.first;
  second = sum_of a.second b.second;
  unseen = sum_of a.unseen b.unseen;
}

-- ---- The packets that are treated differently

-- a packet at its place in its capture
pub record Placed : Type 0 where
  pub place : ℕ
  pub packet : Packet

abbrev pub at_place : ℕ → Packet → Placed
at_place place p = record { place = place; packet = p }

-- packets, each at its place, of which the first is at n
abbrev pub placed : ℕ → List Packet → List Placed
placed n [] = []
placed n (p ∷ packets) = at_place n p ∷ placed (suc n) packets

-- A packet at its place, and what each of two filters answers to it and why.
pub record Difference : Type 0 where
  pub place : ℕ
  pub first : Answer
  pub second : Answer

-- each filter answers so, to the same packet, with the reasons in this form
abbrev pub IsDifference : PacketForm → FilterPair → Difference → Type 0
IsDifference form pair d = IsAnswerIn form pair.first d.first × IsAnswerIn form pair.second d.second × (d.second.packet ≡ d.first.packet)

-- the packets, each at its place, that are treated differently
abbrev pub differing : FilterPair → List Packet → List Placed
differing pair packets = filter (λ x. differs pair x.packet) (placed 0 packets)

-- these are exactly the packets that are treated differently, in order, with their answers
pub record AreDifferences (form : PacketForm) (pair : FilterPair) (packets : List Packet) (differences : List Difference) : Type 0 where
  pub those : map (λ d. at_place d.place d.first.packet) differences ≡ differing pair packets
  pub answered : AllByRecursion (IsDifference form pair) differences
