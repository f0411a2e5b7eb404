-- Symbols: numbers of a packet, as words of decision diagrams.
use Rattle.std.specs.Prelude.{◌≡◌, ℕ, ◌<◌, List, length, Option, Some, None}
use Rattle.filter_meaning.specs.declared.verdict.Verdict.TheVariants.{Yes, Abort}
use Rattle.filter_meaning.specs.Meaning.{Packet, Test}
use Rattle.filter_bdd.specs.declared.table.Node.{Node}
use Rattle.filter_bdd.specs.Diagrams.{Grew}
use Rattle.filter_words.specs.Words.{IsWord, value}
use Rattle.filter_symbols.specs.declared.symbol.Symbol.{Symbol}
use Rattle.filter_symbols.specs.declared.symbol.Symbols.{Symbols}
use Rattle.filter_symbols.specs.Packets.{bit_of, verdict_at, IsPacket, HasHeader}

-- the nodes of a symbol are there, and its word is a word
pub record IsSymbol (nodes : List Node) (s : Symbol) : Type 0 where
  pub guard : s.guard < length nodes
  pub word : IsWord nodes s.word

-- what a symbol is of a packet: its guard aborts where there is no number, or else it says Yes, and the word is the number
abbrev pub Is : List Node → Packet → Symbol → Option ℕ → Type 0
Is nodes p s None = verdict_at nodes s.guard p ≡ Abort
Is nodes p s (Some n) = (verdict_at nodes s.guard p ≡ Yes) × (value nodes (bit_of p) s.word ≡ n)

-- a symbol is this number of each packet of a header length
pub record StandsFor (x : Symbols) (f : Packet → Option ℕ) (s : Symbol) : Type 0 where
  pub inside : IsSymbol x.words.diagrams s
  pub is : (p : Packet) → IsPacket p → HasHeader x.header p → Is x.words.diagrams p s (f p)

-- node i says of each packet of a header length what a test answers
pub record SaysOf (x : Symbols) (t : Test) (i : ℕ) : Type 0 where
  pub inside : i < length x.words.diagrams
  pub says : (p : Packet) → IsPacket p → HasHeader x.header p → verdict_at x.words.diagrams i p ≡ t p

-- the nodes that were there are there, and more perhaps
pub record Extends (old new : Symbols) : Type 0 where
  pub header : new.header ≡ old.header
  pub grew : Grew old.words.diagrams new.words.diagrams
