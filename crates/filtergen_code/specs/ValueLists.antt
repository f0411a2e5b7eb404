-- What code does that tests all members of a list at once. Only private clauses use this.
use Rattle.std.specs.Prelude.{◌≡◌, ℕ, ◌+◌, ◌*◌, ◌<◌, ◌≤◌, Bool, true, false, List, [], ◌∷◌, length, Option, Some, None, Result, if◌then◌else◌, bit_and, option_map, MatchOption}
use Rattle.bpfvm.specs.declared.insn.Insn.{Insn}
use Rattle.bpfvm.specs.Codes.{Accumulator}
use Rattle.bpfvm.specs.Machine.{Registers, with_value}
use Rattle.filter_tree.specs.Trees.{Tree, tree_of}
use Rattle.filter_meaning.specs.declared.verdict.Verdict.TheVariants.{No}
use Rattle.filter_meaning.specs.Meaning.{Packet, Test, or_else, check, half, word, within, meaning}
use Rattle.filtergen_facts.specs.declared.packet_facts.PacketFacts.{PacketFacts}
use Rattle.filtergen_facts.specs.declared.lists.Chain.{Chain}
use Rattle.filtergen_facts.specs.declared.lists.Chain.TheVariants as chains
use Rattle.filtergen_facts.specs.declared.lists.Form.{Form}
use Rattle.filtergen_facts.specs.declared.lists.Form.TheVariants as forms
use Rattle.filtergen_facts.specs.declared.lists.ListKind.{ListKind}
use Rattle.filtergen_facts.specs.declared.lists.ValueRange.{ValueRange}
use Rattle.filtergen_facts.specs.Weights.{weight, need}
use Rattle.filtergen_facts.specs.declared.lists.Member.{Member}
use Rattle.filtergen_facts.specs.declared.value_lists.Group.{Group}
use Rattle.filtergen_facts.specs.Lists.{any_of, list_weight, member_test, members_weight, AreFree, chained, left_chained, left_weight, left_size, left_need, size, after_left}
use Rattle.filtergen_code.specs.declared.code.Exits.{Exits}
use Rattle.filtergen_code.specs.declared.code.Full.{Full}
use Rattle.filtergen_code.specs.declared.insns.Field.{Field}
use Rattle.filtergen_code.specs.declared.value_in_list.Location.{Location}
use Rattle.filtergen_code.specs.declared.value_in_list.Location.TheVariants as locations
use Rattle.filtergen_code.specs.declared.entries.Context.{Context}
use Rattle.filtergen_code.specs.declared.entries.Entry.{Entry}
use Rattle.filtergen_code.specs.declared.entries.Targets.{Targets}
use Rattle.filtergen_code.specs.declared.compiler.Emitted.{Emitted}
use Rattle.filtergen_code.specs.declared.compiler.RightEnd.{RightEnd}
use Rattle.filtergen_code.specs.Emission.{IsPlace, AreExits, run_from, Extends, front, field_of, same_index, Follows, OrFull, Emits}
use Rattle.filtergen_code.specs.Entries.{RelaysBoth, DecidesGiven, EmitsEntry, EmitsGiven}

-- in one of these ranges
abbrev pub in_ranges : List ValueRange → ℕ → Bool
in_ranges [] n = false
in_ranges (x ∷ xs) n = if within x.low x.high n then true else in_ranges xs n

-- How many instructions the code of a list of n members takes at most. A comparison takes 7: two jumps, and what brings their exits near.
abbrev pub comparisons_cost : ℕ → ℕ
comparisons_cost n = 7 * n

-- with a load, and perhaps a mask, in front
abbrev pub lookup_cost : ℕ → ℕ
lookup_cost n = 7 * n + 2

-- of the source and the destination
abbrev pub sides_cost : ℕ → ℕ
sides_cost n = 14 * n + 6

-- of both addresses, where the comparisons that are made last are there
abbrev pub sides_before_cost : ℕ → ℕ
sides_before_cost n = 7 * n + 5

-- of both ports, with the length of the IPv4 header
abbrev pub port_sides_cost : ℕ → ℕ
port_sides_cost n = 14 * n + 7

-- of one Ethernet address, and of both
abbrev pub tails_cost : ℕ → ℕ
tails_cost n = 7 * n + 6

abbrev pub ethernet_cost : ℕ → ℕ
ethernet_cost n = 14 * n + 12

-- of the addresses of IPv4 and of those of ARP and RARP
abbrev pub net_sides_cost : ℕ → ℕ
net_sides_cost n = 28 * n + 12

-- with the tests of their types
abbrev pub any_net_cost : ℕ → ℕ
any_net_cost n = 28 * n + 22

abbrev pub one_net_cost : ℕ → ℕ
one_net_cost n = 14 * n + 10

-- ports with the tests of type, protocol and fragment
abbrev pub ports_cost : ℕ → ℕ
ports_cost n = 14 * n + 25

-- a number of one field, after at most one other test
abbrev pub number_cost : ℕ → ℕ
number_cost n = 7 * n + 6

-- bytes with the tests of their layer
abbrev pub bytes_cost : ℕ → ℕ
bytes_cost n = 7 * n + 20

-- a list of any form
abbrev pub list_cost : Form → ℕ → ℕ
list_cost forms.Bytes n = bytes_cost n
list_cost other n = any_net_cost n

-- the number at a location
abbrev pub location_value : Location → Registers → Packet → Option ℕ
location_value (locations.At field) r p = field_of field p
location_value (locations.Masked o mask) r p = option_map (λ w. bit_and w mask) (word o p)
location_value (locations.Indirect o) r p = half (r.index + o) p

abbrev pub found_at : Location → Registers → ValueRange → Test
found_at location r x p = check (within x.low x.high) (location_value location r p)

-- a run that ends with 0 where there is no number, and else goes on with the number in the accumulator
abbrev pub onward : Option ℕ → (Registers → ℕ) → Registers → ℕ
onward None run r = 0
onward (Some n) run r = run (with_value Accumulator n r)

-- the front of new loads the number at a location, and goes on over old
pub record LoadsLocation (location : Location) (old new : List Insn) : Type 0 where
  pub extends : Extends 2 old new
  pub loads : (p : Packet) (r : Registers) → front new p r ≡ onward (location_value location r p) (front old p) r

-- places from which a run that has the number of a location in the accumulator goes on as from the exits
pub record PassesLocation (location : Location) (exits passed : Exits) (code : List Insn) : Type 0 where
  pub here : AreExits code passed
  pub yes : (p : Packet) (r : Registers) (n : ℕ) → location_value location r p ≡ Some n
      → run_from code passed.yes p (with_value Accumulator n r) ≡ run_from code exits.yes p (with_value Accumulator n r)
  pub no : (p : Packet) (r : Registers) (n : ℕ) → location_value location r p ≡ Some n
      → run_from code passed.no p (with_value Accumulator n r) ≡ run_from code exits.no p (with_value Accumulator n r)

-- from entry a run of new goes to an exit by a condition on the registers, which it leaves as they are
pub record ChoosesFrom (most : ℕ) (choice : Registers → Bool) (exits : Exits) (entry : ℕ) (old new : List Insn) : Type 0 where
  pub extends : Extends most old new
  pub here : IsPlace new entry
  pub chooses : (p : Packet) (r : Registers)
      → run_from new entry p r ≡ (if choice r then run_from old exits.yes p r else run_from old exits.no p r)

-- at a place of the code a run goes to one of its exits by a condition on the registers, which it leaves as they are
pub record IsChoice (choice : Registers → Bool) (exits : Exits) (place : ℕ) (code : List Insn) : Type 0 where
  pub here : IsPlace code place
  pub chooses : (p : Packet) (r : Registers)
      → run_from code place p r ≡ (if choice r then run_from code exits.yes p r else run_from code exits.no p r)

-- at a place of the code a run compares the accumulator with the members of a list, and goes to an exit
abbrev pub AreComparisons : List ValueRange → Exits → ℕ → List Insn → Type 0
AreComparisons ranges exits place code = IsChoice (λ r. in_ranges ranges r.accumulator) exits place code

-- a call emits such comparisons, and returns where they are entered
abbrev pub EmitsComparisons : List ValueRange → Exits → List Insn → List Insn → Result ℕ Full → Type 0
EmitsComparisons ranges exits old new result = OrFull (comparisons_cost (length ranges)) old result (λ entry.
    ChoosesFrom (comparisons_cost (length ranges)) (λ r. in_ranges ranges r.accumulator) exits entry old new × (0 < length ranges → entry ≡ length new))

-- a call emits a test of numbers at locations, whose code begins at the front
abbrev pub EmitsLookup : ℕ → (Registers → Test) → Exits → List Insn → List Insn → Result ℕ Full → Type 0
EmitsLookup cost test exits old new result = OrFull cost old result (λ entry. Follows same_index cost test exits entry old new × (entry ≡ length new))

-- a run goes on at a place in the same way whatever the accumulator is
pub record IgnoresAccumulator (place : ℕ) (code : List Insn) : Type 0 where
  pub same : (p : Packet) (r : Registers) (n : ℕ) → run_from code place p (with_value Accumulator n r) ≡ run_from code place p r

-- a place from which a run goes on as from the place
pub record GoesOnAs (place passed : ℕ) (code : List Insn) : Type 0 where
  pub here : IsPlace code passed
  pub leads : (p : Packet) (r : Registers) → run_from code passed p r ≡ run_from code place p r

-- a place from which a run with such a number in the accumulator goes on as from the place
pub record FailsTo (choice : ℕ → Bool) (place passed : ℕ) (code : List Insn) : Type 0 where
  pub here : IsPlace code passed
  pub leads : (p : Packet) (r : Registers) → choice r.accumulator ≡ true → run_from code passed p r ≡ run_from code place p r

-- a place from which a run goes on as from the place where the packet has such a number
pub record Skips (field : Field) (choice : ℕ → Bool) (place passed : ℕ) (code : List Insn) : Type 0 where
  pub here : IsPlace code passed
  pub leads : (p : Packet) (r : Registers) (n : ℕ) → field_of field p ≡ Some n → choice n ≡ true → run_from code passed p r ≡ run_from code place p r

abbrev pub targets_for_chain : Chain → Targets → Targets
targets_for_chain chains.AnyOf targets = targets
targets_for_chain chains.NoneOf targets = record { yes = targets.no; no = targets.yes }

-- a call emits the test whether any member of a group holds; its cost is that for the number of members
abbrev pub EmitsGroup : (ℕ → ℕ) → (ListKind → ValueRange → Test) → Group → Targets → List Insn → List Insn → Result Entry Full → Type 0
EmitsGroup cost test group targets old new result =
    EmitsEntry (cost (length group.ranges.items)) (any_of (test group.kind) group.ranges.items) targets old new result

-- a call emits what such a test needs of a packet of which something is known
abbrev pub EmitsGroupGiven : (ℕ → ℕ) → (ListKind → ValueRange → Test) → Group → Context → List Insn → List Insn → Result Entry Full → Type 0
EmitsGroupGiven cost test group context old new result =
    EmitsGiven context.known (cost (length group.ranges.items)) (any_of (test group.kind) group.ranges.items) context.targets old new result

-- a call emits such a test for packets that have all that the members share, with two exits
abbrev pub EmitsGroupLookup : (ℕ → ℕ) → (ListKind → ValueRange → Test) → Group → Exits → List Insn → List Insn → Result ℕ Full → Type 0
EmitsGroupLookup cost test group exits old new result =
    Emits (cost (length group.ranges.items)) (any_of (test group.kind) group.ranges.items) exits old new result

-- a call emits what a test needs of a packet of which something is known, and returns its entry and relays of its targets
abbrev pub EmitsRelayed : PacketFacts → ℕ → Test → Targets → List Insn → List Insn → Result Emitted Full → Type 0
EmitsRelayed known cost test targets old new result = OrFull cost old result (λ emitted.
    DecidesGiven known cost test targets emitted.entry old new × RelaysBoth targets emitted.targets old new)

-- The code of members of which the first one is asked before the others. Where it is No, they may be asked in another order.
pub record EmitsMembers (known : PacketFacts) (first : Member) (others : List Member) (targets relayed : Targets) (entry : Entry) (old new : List Insn) : Type 0 where
  pub test : Test
  pub same : (p : Packet) → (member_test first p ≡ No → AreFree others p) → test p ≡ or_else (member_test first p) (any_of member_test others p)
  pub decides : DecidesGiven known (list_weight first.kind.form 1 + members_weight others) test targets entry old new
  pub relays : RelaysBoth targets relayed old new

-- the code of the lists or the link that a chain ends in, after what is left of its left operand
pub record EmitsList (known : PacketFacts) (chain : Chain) (first second : Tree) (left : Option Tree) (targets relayed : Targets) (entry : Entry) (old new : List Insn) : Type 0 where
  pub test : Test
  pub most : ℕ
  pub same : (p : Packet) → chained chain (meaning first p) (meaning second p) ≡ left_chained chain left test p
  pub fits : left_weight left + most ≤ weight first + weight second
  pub smaller : left_size left ≤ size first
  pub needs : left_need left ≤ need first
  pub decides : DecidesGiven known most test targets entry old new
  pub relays : RelaysBoth targets relayed old new

-- the same code, for the packets of which something is known after what is left
abbrev pub EmitsEnd : PacketFacts → Chain → Tree → Tree → Targets → Emitted → List Insn → List Insn → Option Tree → Type 0
EmitsEnd known chain first second targets emitted old new None = EmitsList known chain first second None targets emitted.targets emitted.entry old new
EmitsEnd known chain first second targets emitted old new (Some left) =
    EmitsList (after_left chain known left) chain first second (Some left) targets emitted.targets emitted.entry old new

-- the right end of such a chain, and what is left of its left operand
abbrev pub EmitsRightEnd : PacketFacts → Chain → Tree → Tree → Targets → List Insn → List Insn → RightEnd → Type 0
EmitsRightEnd known chain first second targets old new end = MatchOption end.left
    (EmitsEnd known chain first second targets end.emitted old new None)
    (λ rest. EmitsEnd known chain first second targets end.emitted old new (Some (tree_of rest.now)))

-- a call emits the lists that such a chain ends in, if it ends in any
abbrev pub EmitsLists : PacketFacts → Chain → Tree → Tree → Targets → List Insn → List Insn → Result (Option RightEnd) Full → Type 0
EmitsLists known chain first second targets old new result = OrFull (weight first + weight second) old result (λ found.
    MatchOption found (new ≡ old) (EmitsRightEnd known chain first second targets old new))
