-- What code does whose targets depend on what is known of the packet. Only private clauses use this.
use Rattle.std.specs.Prelude.{◌≡◌, ◌≢◌, ◌⊎◌, ℕ, ◌+◌, ◌≤◌, Bool, true, false, List, length, Option, Some, None, Result}
use Rattle.bpfvm.specs.declared.insn.Insn.{Insn}
use Rattle.filter_tree.specs.declared.headers.TheConstants.{ETHERTYPE_IP}
use Rattle.filter_tree.specs.declared.tree.Transport.{Transport}
use Rattle.filtergen_code.specs.declared.entries.Entry.{Entry}
use Rattle.filtergen_code.specs.declared.entries.Targets.{Targets}
use Rattle.filter_meaning.specs.declared.verdict.Verdict.TheVariants.{Yes, No}
use Rattle.filter_meaning.specs.Meaning.{Packet, HasBytes, Test, and_test, is_type, is_first_fragment_of, protocol_number}
use Rattle.filtergen_trim.specs.declared.unreached.TheConstants.{MAX_CODE}
use Rattle.filtergen_code.specs.Parts.{is_any_first, of_transport}
use Rattle.filtergen_code.specs.Emission.{IsPlace, Answers, Extends, outcome, Decides, OrFull}
use Rattle.filtergen_code.specs.declared.code.Exits.{Exits}
use Rattle.filtergen_code.specs.declared.code.Full.{Full}
use Rattle.filtergen_facts.specs.declared.packet_facts.PacketFacts.{PacketFacts}
use Rattle.filtergen_code.specs.Remaining.{shows}

-- IPv4 of this protocol, or of any that has ports, and no later fragment
abbrev pub is_first_fragment : Option Transport → Test
is_first_fragment None = is_any_first
is_first_fragment (Some transport) = is_first_fragment_of (protocol_number transport)

-- The run from a place has one answer, whatever the registers are, and where something is known it is this one. (There is an
-- answer in any case, since a test wants one of both its exits, also of the exit that it does not take.)
pub record Suits (code : List Insn) (place : ℕ) (p : Packet) (n : ℕ) (is_known : Type 0) : Type 0 where
  pub found : ℕ
  pub answers : Answers code place p found
  pub right : is_known → found ≡ n

-- the run from each place of the entry has this answer, on the packets that the place is for
pub record Serves (code : List Insn) (entry : Entry) (p : Packet) (n : ℕ) : Type 0 where
  pub any : Answers code entry.any p n
  pub ip : Suits code entry.ip p n (is_type ETHERTYPE_IP p ≡ Yes)
  pub other : Suits code entry.other p n (is_type ETHERTYPE_IP p ≡ No)
  pub first_fragment : Suits code entry.first_fragment p n (is_first_fragment entry.transport p ≡ Yes)

-- all its places are places of the code
pub record IsEntry (code : List Insn) (entry : Entry) : Type 0 where
  pub any : IsPlace code entry.any
  pub ip : IsPlace code entry.ip
  pub other : IsPlace code entry.other
  pub first_fragment : IsPlace code entry.first_fragment

abbrev pub AreTargets : List Insn → Targets → Type 0
AreTargets code targets = IsEntry code targets.yes × IsEntry code targets.no

-- the code has room for `most` more instructions, which may go on at these targets
abbrev pub CanEmitBy : ℕ → Targets → List Insn → Type 0
CanEmitBy most targets code = (length code + most ≤ MAX_CODE) × AreTargets code targets

-- the target of an answer
abbrev pub for_answer : Bool → Targets → Entry
for_answer true targets = targets.yes
for_answer false targets = targets.no

-- two protocols
abbrev pub AreOther : Option Transport → Option Transport → Type 0
AreOther None t = ⊥
AreOther (Some own) None = ⊥
AreOther (Some own) (Some other) = protocol_number own ≢ protocol_number other

-- an entry that leads first fragments where another one does
abbrev pub with_other_protocol : Entry → Entry → Entry
with_other_protocol entry next = record { any = entry.any; ip = entry.ip; other = entry.other; first_fragment = next.first_fragment; transport = next.transport }

-- an entry of new that serves as the entry of old did
pub record Relays (entry relayed : Entry) (old new : List Insn) : Type 0 where
  pub here : IsEntry new relayed
  pub serves : (p : Packet) (n : ℕ) → Serves old entry p n → Serves new relayed p n

-- both targets of new serve as those of old did
pub record RelaysBoth (targets relayed : Targets) (old new : List Insn) : Type 0 where
  pub yes : Relays targets.yes relayed.yes old new
  pub no : Relays targets.no relayed.no old new

-- from the places of an entry a run of new decides a test, and goes on at the targets
pub record DecidesBy (most : ℕ) (test : Test) (targets : Targets) (entry : Entry) (old new : List Insn) : Type 0 where
  pub extends : Extends most old new
  pub here : IsEntry new entry
  pub decides : (p : Packet) (m n : ℕ) → HasBytes p → Serves old targets.yes p m → Serves old targets.no p n → Serves new entry p (outcome (test p) m n)

-- the run from each place of the entry has one answer, and where something is known it is this one
pub record ServesKnown (code : List Insn) (entry : Entry) (p : Packet) (n : ℕ) (is_known : Type 0) : Type 0 where
  pub found : ℕ
  pub serves : Serves code entry p found
  pub right : is_known → found ≡ n

-- from the places of an entry a run of new decides a test of a packet of which something is known, and goes on at the targets
pub record DecidesGiven (known : PacketFacts) (most : ℕ) (test : Test) (targets : Targets) (entry : Entry) (old new : List Insn) : Type 0 where
  pub extends : Extends most old new
  pub here : IsEntry new entry
  pub decides : (p : Packet) (m n : ℕ) → HasBytes p → Serves old targets.yes p m → Serves old targets.no p n
      → ServesKnown new entry p (outcome (test p) m n) (shows known p ≡ Yes)

-- a call emits a test of any packet that goes on at the targets, and returns its entry
abbrev pub EmitsEntry : ℕ → Test → Targets → List Insn → List Insn → Result Entry Full → Type 0
EmitsEntry cost test targets old new result = OrFull cost old result (λ entry. DecidesBy cost test targets entry old new)

-- a call emits what such a test needs of a packet of which something is known
abbrev pub EmitsGiven : PacketFacts → ℕ → Test → Targets → List Insn → List Insn → Result Entry Full → Type 0
EmitsGiven known cost test targets old new result = OrFull cost old result (λ entry. DecidesGiven known cost test targets entry old new)

-- a place for IPv4, or one for first fragments of this protocol or of any
abbrev pub IsFor : Option Transport → ℕ → Entry → Type 0
IsFor transport place entry = (place ≡ entry.ip) ⊎ ((place ≡ entry.first_fragment) × ((entry.transport ≡ None) ⊎ (entry.transport ≡ transport)))

-- The test of IPv4, unless it is known, comes in front of whatever test stands at a place.
pub record GuardsIp (known : PacketFacts) (place : ℕ) (targets : Targets) (entry : Entry) (old new : List Insn) : Type 0 where
  pub guards : (most : ℕ) (test : Test) (before : List Insn) → AreTargets before targets
      → Decides most test (record { yes = targets.yes.ip; no = targets.no.ip }) place before old
      → DecidesGiven known (most + 4) (and_test (is_type ETHERTYPE_IP) test) targets entry before new

-- That of a first fragment does.
pub record GuardsPorts (asked : Option Transport) (place : ℕ) (targets : Targets) (entry : Entry) (old new : List Insn) : Type 0 where
  pub guards : (most : ℕ) (test : Test) (exits : Exits) (before : List Insn) → AreTargets before targets
      → IsFor asked exits.yes targets.yes → IsFor asked exits.no targets.no → Decides most test exits place before old
      → DecidesBy (most + 18) (of_transport asked test) targets entry before new

-- It does where the packet is known to be of the protocol.
pub record GuardsKnown (known : PacketFacts) (asked : Option Transport) (transport : Transport) (place : ℕ) (targets : Targets) (entry : Entry) (old new : List Insn) : Type 0 where
  pub guards : (most : ℕ) (test : Test) (exits : Exits) (before : List Insn) → AreTargets before targets
      → IsFor (Some transport) exits.yes targets.yes → IsFor (Some transport) exits.no targets.no → Decides most test exits place before old
      → DecidesGiven known (most + 4) (of_transport asked test) targets entry before new
