-- Steps of the making of symbols. Only private clauses say this.
use Rattle.std.specs.Prelude.{◌≡◌, ℕ, ◌+◌, ◌-◌, ◌*◌, ◌%◌, ◌^◌, ◌<◌, Bool, true, List, length, Option, Some, None, option_and_then, bit_and}
use Rattle.bpfvm.specs.Machine.{number_at}
use Rattle.filter_meaning.specs.declared.verdict.Verdict.{Verdict}
use Rattle.filter_meaning.specs.declared.verdict.Verdict.TheVariants.{Abort}
use Rattle.filter_meaning.specs.Meaning.{Packet, bytes_of, byte}
use Rattle.filter_bdd.specs.declared.table.Node.{Node}
use Rattle.filter_words.specs.declared.word.Word.{Word}
use Rattle.filter_words.specs.Words.{number, bit, IsBit, IsWord, value}
use Rattle.filter_symbols.specs.declared.symbol.Symbol.{Symbol}
use Rattle.filter_symbols.specs.declared.symbol.Symbols.{Symbols}
use Rattle.filter_symbols.specs.declared.load.Access.{Access}
use Rattle.filter_symbols.specs.Packets.{bit_of, IsPacket, HasHeader}
use Rattle.filter_symbols.specs.Symbols.{IsSymbol, Is}

-- node i is this bit of each packet of a header length, if the bit with the name `last` was captured
pub record IsBitOf (x : Symbols) (last : ℕ) (f : Packet → Bool) (i : ℕ) : Type 0 where
  pub inside : IsBit x.words.diagrams i
  pub is : (p : Packet) → IsPacket p → HasHeader x.header p → last < 32 + 8 * length p.captured → bit x.words.diagrams (bit_of p) i ≡ f p

-- a word is the number that `width` bits of a packet are, of which `last` is the lowest, and the one named before it the next
pub record IsField (x : Symbols) (last width : ℕ) (w : Word) : Type 0 where
  pub inside : IsWord x.words.diagrams w
  pub is : (p : Packet) → IsPacket p → HasHeader x.header p → last < 32 + 8 * length p.captured
      → value x.words.diagrams (bit_of p) w ≡ number (λ k. bit_of p (last - k)) width

-- a verdict where there is a number, and Abort where there is none
abbrev pub if_number : Option ℕ → Verdict → Verdict
if_number None said = Abort
if_number (Some n) said = said

-- a condition holds where another one holds and a node says this
pub record IsNarrowed (old new : List Node) (condition node : ℕ) (one : Bool) (i : ℕ) : Type 0 where
  pub inside : IsBit new i
  pub holds : (v : ℕ → Bool) → bit old v condition ≡ true → bit old v node ≡ one → bit new v i ≡ true
  pub first : (v : ℕ → Bool) → bit new v i ≡ true → bit old v condition ≡ true
  pub second : (v : ℕ → Bool) → bit new v i ≡ true → bit old v node ≡ one

-- what an access reads of a packet
abbrev pub read_by : List Node → Access → Packet → Option ℕ
read_by nodes access p = number_at p.captured (access.base + value nodes (bit_of p) access.index) (bytes_of access.size)

-- a symbol is what an access reads of a packet, where a condition holds
pub record ReadsWhere (old new : Symbols) (access : Access) (condition : ℕ) (s : Symbol) : Type 0 where
  pub inside : IsSymbol new.words.diagrams s
  pub is : (p : Packet) → IsPacket p → HasHeader new.header p → bit old.words.diagrams (bit_of p) condition ≡ true
      → Is new.words.diagrams p s (read_by old.words.diagrams access p)

-- an index after the IPv4 header, from the end of the Ethernet header
abbrev pub index_behind : Packet → ℕ → Option ℕ
index_behind p i = option_and_then (λ b. Some ((i + 4 * bit_and b 15) % 2 ^ 32)) (byte 14 p)
