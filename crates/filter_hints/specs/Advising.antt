-- What an advice says.
use Rattle.std.specs.Prelude.{◌≡◌, ℕ, List, ◌++◌, Option, Some, None, codes}
use Rattle.filter_hints.specs.declared.advice.Advice.{Advice}
use Rattle.filter_hints.specs.declared.advice.Advice.TheVariants.{Said, Elsewhere, LongProgram}
use Rattle.filter_hints.specs.declared.advice.ByLibpcap.{ByLibpcap}

-- of a text of more than 8,192 bytes
abbrev pub long_text : List ℕ
long_text = codes "an expression has at most 8192 bytes: cut it into parts, with a `bpftap cut` for each"

-- of an expression whose program is too long
abbrev pub long_program : List ℕ
long_program = codes "its program may have more than 512 instructions: cut it into parts, with a `bpftap cut` for each,"

-- of an expression with a relation that is too deep
abbrev pub deep_relation : List ℕ
deep_relation = codes "write long sums from the left, `a + b + c`, not `a + (b + c)`: a relation has 16 words of memory"

-- the sentence of an advice, where it does not depend on the text that is refused
abbrev pub sentence : Advice → Option (List ℕ)
sentence (Said said) = Some said.now
sentence LongProgram = Some long_program
sentence other = None

-- the advice is this sentence and nothing else
abbrev pub IsSaying : List ℕ → Advice → Type 0
IsSaying text (Said said) = said.now ≡ text
IsSaying text other = ⊥

-- the line of the way over libpcap's compiler
abbrev pub way_line : ByLibpcap → List ℕ
way_line way = way.0.now ++ codes ": tcpdump -y EN10MB -ddd EXPR > f.bpf, then -f f.bpf with cut, check or explain"

-- the second line of an advice, if it has one
abbrev pub second_line : Advice → Option (List ℕ)
second_line (Elsewhere before word after) = Some (codes "libpcap may read that: tcpdump -y EN10MB -ddd EXPR > f.bpf, then -f f.bpf with cut, check or explain")
second_line LongProgram = Some (codes "or try whether libpcap finds a shorter one: tcpdump -y EN10MB -ddd EXPR > f.bpf, then -f f.bpf with cut, check or explain")
second_line other = None
