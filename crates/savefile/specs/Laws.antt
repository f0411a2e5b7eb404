-- What holds of the definitions, whatever the code does.
use Rattle.std.specs.Prelude.{◌≡◌, ◌⊎◌, ◌↔◌, ℕ, ◌+◌, ◌*◌, ◌<◌, ◌≤◌, ◌^◌, List, [], ◌∷◌, ◌++◌, length, map, All, Option, None}
use Rattle.savefile.specs.declared.fault.Fault.{Fault}
use Rattle.savefile.specs.declared.header.Header.{Header}
use Rattle.savefile.specs.declared.header.Order.{Order}
use Rattle.savefile.specs.declared.header.Unit.{Unit as TimeUnit}
use Rattle.savefile.specs.declared.packet.Packet.{Packet}
use Rattle.savefile.specs.Reader.{HasGiven, Reading, WasBegun}
use Rattle.savefile.specs.Savefile.{encoded, in_units, AreRecords, Holds, IsSavefile, IsText, IsWritable, RefusesHeader}
use Rattle.savefile.specs.Writer.{IsBeginning}

-- A text is a savefile in one way: two readings of it with equally many packets have the same header, packets and rest.
abbrev pub ReadsInOneWay : Type 0
ReadsInOneWay =
    (text : List ℕ) (order order' : Order) (unit unit' : TimeUnit) (snap snap' : ℕ) (packets packets' : List Packet) (rest rest' : List ℕ)
    → IsText text → IsSavefile text order unit snap packets rest → IsSavefile text order' unit' snap' packets' rest'
    → length packets ≡ length packets'
    → (order ≡ order') × (unit ≡ unit') × (snap ≡ snap') × (packets ≡ packets') × (rest ≡ rest')

-- A savefile holds one list of packets, and one fault or none.
abbrev pub HoldsOneList : Type 0
HoldsOneList =
    (text : List ℕ) (order order' : Order) (unit unit' : TimeUnit) (snap snap' : ℕ) (packets packets' : List Packet)
    (fault fault' : Option Fault)
    → IsText text → Holds text order unit snap packets fault → Holds text order' unit' snap' packets' fault'
    → (order ≡ order') × (unit ≡ unit') × (snap ≡ snap') × (packets ≡ packets') × (fault ≡ fault')

-- A header is refused for at most one fault.
abbrev pub RefusesForOneFault : Type 0
RefusesForOneFault =
    (text : List ℕ) (fault other : Fault) → IsText text → RefusesHeader text fault → RefusesHeader text other → fault ≡ other

-- A text whose header is refused holds nothing.
abbrev pub RefusedHoldsNothing : Type 0
RefusedHoldsNothing =
    (text : List ℕ) (fault : Fault) (order : Order) (unit : TimeUnit) (snap : ℕ) (packets : List Packet) (end : Option Fault)
    → IsText text → RefusesHeader text fault → Holds text order unit snap packets end → ⊥

-- The header of a text is refused, or the text holds something.
abbrev pub IsRefusedOrHolds : Type 0
IsRefusedOrHolds =
    (text : List ℕ)
    → ((fault : Fault) × RefusesHeader text fault)
    ⊎ ((order : Order) × (unit : TimeUnit) × (snap : ℕ) × (packets : List Packet) × (end : Option Fault)
    × Holds text order unit snap packets end)

-- A savefile has no fault exactly where its records end with the text.
abbrev pub EndsCleanly : Type 0
EndsCleanly =
    (text : List ℕ) (order : Order) (unit : TimeUnit) (snap : ℕ) (packets : List Packet) (fault : Option Fault)
    → Holds text order unit snap packets fault → (fault ≡ None) ↔ IsSavefile text order unit snap packets []

-- What the written text of a list holds is that list, in whole units of time.
abbrev pub ReadsAgain : Type 0
ReadsAgain =
    (order : Order) (unit : TimeUnit) (snap : ℕ) (packets : List Packet) → snap < 2 ^ 32 → All IsWritable packets
    → Holds (encoded order unit snap packets) order unit snap (map (in_units unit) packets) None

-- What begins the text of some packets begins the text of more.
abbrev pub BeginsMore : Type 0
BeginsMore =
    (order : Order) (unit : TimeUnit) (snap : ℕ) (packets more : List Packet) (text : List ℕ)
    → IsBeginning text (encoded order unit snap packets) → IsBeginning text (encoded order unit snap (packets ++ more))

-- One packet more adds 16 bytes and its own.
abbrev pub AddsARecord : Type 0
AddsARecord =
    (order : Order) (unit : TimeUnit) (snap : ℕ) (packets : List Packet) (packet : Packet)
    → length (encoded order unit snap (packets ++ packet ∷ [])) ≡ length (encoded order unit snap packets) + 16 + length packet.bytes

-- Each packet of a savefile takes 16 bytes at least,
abbrev pub RecordsTakeRoom : Type 0
RecordsTakeRoom =
    (text : List ℕ) (order : Order) (unit : TimeUnit) (snap : ℕ) (packets : List Packet) (rest : List ℕ)
    → IsSavefile text order unit snap packets rest → 24 + 16 * length packets + length rest ≤ length text

-- and so does each one that is written.
abbrev pub WrittenTakesRoom : Type 0
WrittenTakesRoom =
    (order : Order) (unit : TimeUnit) (snap : ℕ) (packets : List Packet) → 24 + 16 * length packets ≤ length (encoded order unit snap packets)

-- What a reader has given so far begins what the text holds that its source had left.
abbrev pub GivesABeginning : {R : Type 0} → (R → Option (List ℕ)) → Reading R → Type 0
GivesABeginning left reader =
    (start : Option (List ℕ)) (header : Header) (packets : List Packet) → HasGiven left start header packets reader → WasBegun start header packets

-- A savefile whose records end with it, and after it the records of other packets and a rest, is the savefile of both lists and that rest.
abbrev pub JoinsParts : Type 0
JoinsParts =
    (part others : List ℕ) (order : Order) (unit : TimeUnit) (snap : ℕ) (packets more : List Packet) (rest : List ℕ)
    → IsSavefile part order unit snap packets [] → AreRecords order unit others more rest
    → IsSavefile (part ++ others) order unit snap (packets ++ more) rest
