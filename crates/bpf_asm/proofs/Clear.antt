-- What is assembled has 0 in each field that an instruction does not use, and each field within its range.
use Rattle.std.proofs.Common.{◌≡◌, ℕ, zero, suc, ◌+◌, ◌-◌, ◌<◌, ◌^◌, Bool, true, false, ◌&&◌, ◌||◌, List, [], ◌∷◌, Option, Some, None, Result, Ok, Err, IfSome, IfOk, map, refl, sym, ap, ◌∙◌, subst, cond, if◌then◌else◌, take, drop, length, nat_eq, arith, ◌==◌}
use Rattle.std.specs.Prelude.{nat_lt, nat_le, codes, option_map, option_and_then, slice_get}
use Rattle.std.specs.Char.{is_ascii_digit}
use Rattle.std.specs.List.{AllByRecursion, list_all, find, prefix_len, slice_split, starts_with}
use Rattle.std.specs.Option.{ok_or}
use Rattle.std.specs.Str.{bytes_eq}
use Rattle.std.proofs.lemmas.Bool.{leb-true, ltb-true, eqb-true, eqb-false}
use Rattle.std.proofs.lemmas.Option.{slice_get_within}
use Rattle.bpfvm.specs.declared.insn.Insn.{Insn}
use Rattle.bpfvm.specs.declared.fault.Invalid.TheVariants.{UnknownCode}
use Rattle.bpfvm.specs.Validity.{fault_in, fault_of, IsValidProgram}
use Rattle.bpfvm.specs.Laws.{HasFields}
use Rattle.bpfvm.specs.Codes as bpf
use Rattle.bpfvm.specs.Codes.{operation_of}
use Rattle.bpf_asm.specs.Types.{Token, Label, Name, Operand, Target, Instruction, Line, Front, Cause, BadNumber, LongLabel, LabelTwice, BadPlace, JumpTooFar, AssemblyFault}
use Rattle.bpf_asm.specs.Types.tokens
use Rattle.bpf_asm.specs.Types.names
use Rattle.bpf_asm.specs.Types.sizes
use Rattle.bpf_asm.specs.Types.operands
use Rattle.bpf_asm.specs.Types.instructions
use Rattle.bpf_asm.specs.Types.fronts
use Rattle.bpf_asm.specs.Types.faults
use Rattle.bpf_asm.specs.Words.{Entry, keywords, keyword_of, label_of, sign_of}
use Rattle.bpf_asm.specs.Numbers.{at_most, numeral, negative, decimal_of, number_of}
use Rattle.bpf_asm.specs.Tokens as front_tokens
use Rattle.bpf_asm.specs.Tokens.{is_blank, is_word_byte, begins, found_or, word_of, past_close, comment_of, comment_at, run_of, run_at, place_of, sign_or, sign_at, front, after, onto, lexed}
use Rattle.bpf_asm.specs.Operands.{◌>>=◌, number_at, open_at, close_at, open_bracket_at, close_bracket_at, plus_at, times_at, bracketed_at, indirect_at, packet_at, cell_at, literal_at, low_bits_at, header_length_at, counted_at, operand_at}
use Rattle.bpf_asm.specs.Instructions.{load_word_code, load_bytes_code, load_index_code, header_length_code, literal_code, cell_code, bare_code, return_code, pair_code, code_of, end_of, last_target, ways_at, plain_at, jump_at, branch_at, instruction_of}
use Rattle.bpf_asm.specs.Lines.{bind, place_at, colon_at, label_at, or_nothing, place_and_rest, label_and_rest, instruction_or, instruction_at, line_at, line_of}
use Rattle.bpf_asm.specs.Assembly.{distance, short, long, short_distance, insn_of, is_repeated, is_placed, insn_or, line_insn, at_line, before_others, next_place, insns_from, is_line_feed, lines_from, assembled}
use Rattle.bpf_asm.specs.Laws.{cleared_as, cleared}
use Rattle.bpf_asm.proofs.Digits.{both_true}

-- ---- What goes on from a value

abbrev Any : {A : Type 0} → A → Type 0
Any x = Unit {0}

any_some : {A : Type 0} (o : Option A) → IfSome o Any
any_some None = tt
any_some (Some x) = tt

then_some : {A B : Type 0} (P : A → Type 0) (Q : B → Type 0) (o : Option A) (f : A → Option B) → IfSome o P → ((x : A) → P x → IfSome (f x) Q) → IfSome (o >>= f) Q
then_some P Q None f known more = tt
then_some P Q (Some x) f known more = more x known

then_ok : {A B E : Type 0} (P : A → Type 0) (Q : B → Type 0) (r : Result A E) (f : A → Result B E) → IfOk r P → ((x : A) → P x → IfOk (f x) Q) → IfOk (bind r f) Q
then_ok P Q (Ok x) f known more = more x known
then_ok P Q (Err e) f known more = tt

any_ok : {A E : Type 0} (r : Result A E) → IfOk r Any
any_ok (Ok x) = tt
any_ok (Err e) = tt

at_line_ok : {A : Type 0} (P : A → Type 0) (n : ℕ) (r : Result A Cause) → IfOk r P → IfOk (at_line n r) P
at_line_ok P n (Ok x) known = known
at_line_ok P n (Err cause) known = tt

onto_ok : {A E : Type 0} (P : A → Type 0) (x : A) (r : Result (List A) E) → P x → IfOk r (AllByRecursion P) → IfOk (onto x r) (AllByRecursion P)
onto_ok P x (Ok xs) one all = (one, all)
onto_ok P x (Err e) one all = tt

-- ---- Names

abbrev takes_constant : Option bpf.Operation → Bool
takes_constant (Some (bpf.Calculate how bpf.Constant)) = true
takes_constant other = false

abbrev tests_constant : Option bpf.Operation → Bool
tests_constant (Some (bpf.Branch test bpf.Constant)) = true
tests_constant other = false

abbrev tests_index : Option bpf.Operation → Bool
tests_index (Some (bpf.Branch test bpf.InIndex)) = true
tests_index other = false

-- the codes of a name are of operations that take what they are for
abbrev has_codes : Name → Bool
has_codes (names.Calculate constant index) = takes_constant (bpf.operation_of constant)
has_codes (names.JumpIf constant index) = tests_constant (bpf.operation_of constant) && tests_index (bpf.operation_of index)
has_codes (names.JumpUnless constant index) = tests_constant (bpf.operation_of constant) && tests_index (bpf.operation_of index)
has_codes other = true

-- ---- Tokens

-- a name with such codes, a number of 32 bits, or anything else
abbrev IsKnown : Token → Type 0
IsKnown (tokens.Number n) = n < 2 ^ 32
IsKnown (tokens.Name name) = has_codes name ≡ true
IsKnown other = Unit {0}

-- so is what no number is, by a test
abbrev is_known : Token → Bool
is_known (tokens.Number n) = false
is_known (tokens.Name name) = has_codes name
is_known other = true

known_by_test : (t : Token) → is_known t ≡ true → IsKnown t
known_by_test (tokens.Number n) is = absurd cc
known_by_test (tokens.Name name) is = is
known_by_test other is = tt

abbrev AreKnown : List Token → Type 0
AreKnown ts = AllByRecursion IsKnown ts

found_known : (test : Entry → Bool) (table : List Entry) → list_all (λ entry. is_known entry.1) table ≡ true → IfSome (option_map (λ entry. entry.1) (find test table)) IsKnown
found_known test [] all = tt
found_known test (entry ∷ table) all =
    let both = both_true (is_known entry.1) (list_all (λ e. is_known e.1) table) all in
    at_test (test entry) (known_by_test entry.1 both.0) (found_known test table both.1)
  where
    at_test : (b : Bool) → IsKnown entry.1 → IfSome (option_map (λ e. e.1) (find test table)) IsKnown → IfSome (option_map (λ e. e.1) (cond b (Some entry) (find test table))) IsKnown
    at_test true here later = here
    at_test false here later = later

keyword_known : (word : List ℕ) → IfSome (keyword_of word) IsKnown
unfolding keywords operation_of
keyword_known word = found_known (λ entry. bytes_eq entry.0 word) keywords refl

abbrev IsSmall : ℕ → Type 0
IsSmall n = n < 2 ^ 32

at_most_small : (o : Option ℕ) → IfSome (at_most 4294967295 o) IsSmall
at_most_small None = tt
at_most_small (Some n) = by_test (nat_le n 4294967295) refl
  where
    by_test : (b : Bool) → nat_le n 4294967295 ≡ b → IfSome (if b then Some n else None) IsSmall
    by_test true fits = let less = leb-true n 4294967295 fits in omega arith
    by_test false over = tt

-- a negative number too, in two's complement
negative_small : (o : Option ℕ) → IfSome (option_and_then negative o) IsSmall
negative_small None = tt
negative_small (Some n) = by_tests (n == 0) (nat_le n 2147483648) refl
  where
    some : (n ≡ 0 → ⊥) → 0 < n
    some apart = grind arith

    by_tests : (zero fits : Bool) → (n == 0) ≡ zero → IfSome (if zero then Some 0 else (if fits then Some (4294967296 - n) else None)) IsSmall
    by_tests true fits is = omega arith
    by_tests false true other = let apart = eqb-false n 0 other in omega (arith, some apart)
    by_tests false false other = tt

number_small : (run : List ℕ) → IfSome (number_of run) IsSmall
number_small run = by_tests (starts_with nat_eq run (codes "-")) (starts_with nat_eq run (codes "0x") || starts_with nat_eq run (codes "0X")) (starts_with nat_eq run (codes "0"))
  where
    by_tests : (minus hexadecimal octal : Bool) → IfSome (if minus then option_and_then negative (at_most 4294967295 (numeral 10 (drop 1 run)))
        else (if hexadecimal then at_most 4294967295 (numeral 16 (drop 2 run)) else (if octal then at_most 4294967295 (numeral 8 run) else at_most 4294967295 (numeral 10 run)))) IsSmall
    by_tests true hexadecimal octal = negative_small (at_most 4294967295 (numeral 10 (drop 1 run)))
    by_tests false true octal = at_most_small (numeral 16 (drop 2 run))
    by_tests false false true = at_most_small (numeral 8 run)
    by_tests false false false = at_most_small (numeral 10 run)

word_known : (run : List ℕ) → IfOk (word_of run) IsKnown
word_known run = found_first (keyword_of run) _ (keyword_known run) (at_test (begins (λ b. is_ascii_digit b || b == 45) run))
  where
    found_first : (o : Option Token) (r : Result Token Cause) → IfSome o IsKnown → IfOk r IsKnown → IfOk (found_or o r) IsKnown
    found_first (Some t) r one other = one
    found_first None r one other = other

    as_number : (o : Option ℕ) → IfSome o IsSmall → IfOk (ok_or (option_map tokens.Number o) BadNumber) IsKnown
    as_number (Some n) small = small
    as_number None small = tt

    as_label : (o : Option Label) → IfOk (ok_or (option_map tokens.Label o) LongLabel) IsKnown
    as_label (Some label) = tt
    as_label None = tt

    at_test : (b : Bool) → IfOk (if b then ok_or (option_map tokens.Number (number_of run)) BadNumber else ok_or (option_map tokens.Label (label_of run)) LongLabel) IsKnown
    at_test true = as_number (number_of run) (number_small run)
    at_test false = as_label (label_of run)

-- the token at the front, if there is one
abbrev FrontKnown : Front → Type 0
FrontKnown (fronts.Token t n) = IsKnown t
FrontKnown other = Unit {0}

run_known : (n : ℕ) (r : Result Token Cause) → IfOk r IsKnown → FrontKnown (run_of n r)
run_known n (Ok t) known = known
run_known n (Err cause) known = tt

comment_known : (o : Option ℕ) → FrontKnown (comment_of o)
comment_known (Some n) = tt
comment_known None = tt

place_known : (n : ℕ) (o : Option ℕ) → FrontKnown (place_of n o)
place_known n (Some place) = tt
place_known n None = tt

sign_known : (b : ℕ) → IfSome (sign_of b) IsKnown
sign_known b = by_tests (b == 35) (b == 38) (b == 40) (b == 41) (b == 42) (b == 43) (b == 44) (b == 58) (b == 91) (b == 93)
  where
    by_tests : (t0 t1 t2 t3 t4 t5 t6 t7 t8 t9 : Bool) → IfSome (if t0 then Some tokens.Hash else (if t1 then Some tokens.And else (if t2 then Some tokens.Open else (if t3 then Some tokens.Close else (if t4 then Some tokens.Times else (if t5 then Some tokens.Plus else (if t6 then Some tokens.Comma else (if t7 then Some tokens.Colon else (if t8 then Some tokens.OpenBracket else (if t9 then Some tokens.CloseBracket else None)))))))))) IsKnown
    by_tests true t1 t2 t3 t4 t5 t6 t7 t8 t9 = tt
    by_tests false true t2 t3 t4 t5 t6 t7 t8 t9 = tt
    by_tests false false true t3 t4 t5 t6 t7 t8 t9 = tt
    by_tests false false false true t4 t5 t6 t7 t8 t9 = tt
    by_tests false false false false true t5 t6 t7 t8 t9 = tt
    by_tests false false false false false true t6 t7 t8 t9 = tt
    by_tests false false false false false false true t7 t8 t9 = tt
    by_tests false false false false false false false true t8 t9 = tt
    by_tests false false false false false false false false true t9 = tt
    by_tests false false false false false false false false false true = tt
    by_tests false false false false false false false false false false = tt

signed_known : (o : Option Token) → IfSome o IsKnown → FrontKnown (sign_or o)
signed_known (Some t) known = known
signed_known None known = tt

front_known : (text : List ℕ) → FrontKnown (front text)
unfolding front
front_known [] = tt
front_known (b ∷ bs) = by_tests (b == 59) (is_blank b) (starts_with nat_eq (b ∷ bs) (codes "/*")) (is_word_byte b) (b == 40 && begins is_ascii_digit bs)
  where
    by_tests : (ends blank comment word place : Bool) → FrontKnown (if ends then fronts.End else (if blank then fronts.Blank 1 else (if comment then comment_at (b ∷ bs) else (if word then run_at (b ∷ bs) else (if place then front_tokens.place_at (b ∷ bs) else sign_at b)))))
    by_tests true blank comment word place = tt
    by_tests false true comment word place = tt
    by_tests false false true word place = comment_known (past_close (drop 2 (b ∷ bs)))
    by_tests false false false true place = let n = prefix_len is_word_byte (b ∷ bs) in run_known n (word_of (take n (b ∷ bs))) (word_known (take n (b ∷ bs)))
    by_tests false false false false true = let n = prefix_len is_ascii_digit (drop 1 (b ∷ bs)) in place_known n (decimal_of (take n (drop 1 (b ∷ bs))))
    by_tests false false false false false = signed_known (sign_of b) (sign_known b)

lexed_known : (n : ℕ) (bs : List ℕ) → IfOk (lexed n bs) AreKnown
lexed_known n [] = tt
lexed_known (suc n) (b ∷ bs) = lexed_known n bs
lexed_known zero (b ∷ bs) = go_on (front (b ∷ bs)) (front_known (b ∷ bs)) (λ n. lexed n bs) (λ n. lexed_known n bs)
  where
    go_on : (f : Front) → FrontKnown f → (rest : ℕ → Result (List Token) Cause) → ((n : ℕ) → IfOk (rest n) AreKnown) → IfOk (after f rest) AreKnown
    go_on fronts.End known rest all = tt
    go_on (fronts.Blank n) known rest all = all (n - 1)
    go_on (fronts.Token t n) known rest all = onto_ok IsKnown t (rest (n - 1)) known (all (n - 1))
    go_on (fronts.Stuck cause) known rest all = tt

-- ---- Codes

-- an instruction of this code has 0 in the fields that it does not use
abbrev IsClear : (code jt jf k : ℕ) → Type 0
IsClear code jt jf k = cleared_as (bpf.operation_of code) (record { code = code; jt = jt; jf = jf; k = k }) ≡ record { code = code; jt = jt; jf = jf; k = k }

abbrev CodedClear : ℕ × ℕ → Type 0
CodedClear coded = IsClear coded.0 0 0 coded.1 × IsSmall coded.1

-- with 0 in each
zeros_clear : (o : Option bpf.Operation) (code : ℕ) → cleared_as o (record { code = code; jt = 0; jf = 0; k = 0 }) ≡ record { code = code; jt = 0; jf = 0; k = 0 }
zeros_clear (Some (bpf.Branch test bpf.Constant)) code = refl
zeros_clear (Some (bpf.Branch test bpf.InIndex)) code = refl
zeros_clear (Some (bpf.Calculate how bpf.Constant)) code = refl
zeros_clear (Some (bpf.Calculate how bpf.InIndex)) code = refl
zeros_clear other code = refl

constant_clear : (o : Option bpf.Operation) (code k : ℕ) → takes_constant o ≡ true → cleared_as o (record { code = code; jt = 0; jf = 0; k = k }) ≡ record { code = code; jt = 0; jf = 0; k = k }
constant_clear (Some (bpf.Calculate how bpf.Constant)) code k is = refl
constant_clear other code k is = absurd cc

test_clear : (o : Option bpf.Operation) (i : Insn) → tests_constant o ≡ true → cleared_as o i ≡ i
test_clear (Some (bpf.Branch test bpf.Constant)) i is = refl
test_clear other i is = absurd cc

test_index_clear : (o : Option bpf.Operation) (code jt jf : ℕ) → tests_index o ≡ true → cleared_as o (record { code = code; jt = jt; jf = jf; k = 0 }) ≡ record { code = code; jt = jt; jf = jf; k = 0 }
test_index_clear (Some (bpf.Branch test bpf.InIndex)) code jt jf is = refl
test_index_clear other code jt jf is = absurd cc

-- the number of an operand has 32 bits
abbrev OperandKnown : Operand → Type 0
OperandKnown (operands.Literal k) = IsSmall k
OperandKnown (operands.Cell k) = IsSmall k
OperandKnown (operands.Packet k) = IsSmall k
OperandKnown (operands.PacketAtIndex k) = IsSmall k
OperandKnown (operands.HeaderLength k) = IsSmall k
OperandKnown other = Unit {0}

literal_clear : (code : ℕ) → ((k : ℕ) → IsClear code 0 0 k) → (operand : Operand) → OperandKnown operand → IfSome (literal_code code operand) CodedClear
literal_clear code clear (operands.Literal k) known = (clear k, known)
literal_clear code clear other known = tt

cell_clear : (code : ℕ) → ((k : ℕ) → IsClear code 0 0 k) → (operand : Operand) → OperandKnown operand → IfSome (cell_code code operand) CodedClear
cell_clear code clear (operands.Cell k) known = (clear k, known)
cell_clear code clear other known = tt

bare_clear : (code : ℕ) (operand : Operand) → IfSome (bare_code code operand) CodedClear
bare_clear code operands.Nothing = (zeros_clear (bpf.operation_of code) code, omega arith)
bare_clear code other = tt

load_word_clear : (operand : Operand) → OperandKnown operand → IfSome (load_word_code operand) CodedClear
unfolding operation_of
load_word_clear (operands.Packet k) known = (refl, known)
load_word_clear (operands.PacketAtIndex k) known = (refl, known)
load_word_clear (operands.Literal k) known = (refl, known)
load_word_clear (operands.Cell k) known = (refl, known)
load_word_clear operands.Length known = (refl, omega arith)
load_word_clear other known = tt

load_bytes_clear : (direct indirect : ℕ) → ((k : ℕ) → IsClear direct 0 0 k) → ((k : ℕ) → IsClear indirect 0 0 k) → (operand : Operand) → OperandKnown operand → IfSome (load_bytes_code direct indirect operand) CodedClear
load_bytes_clear direct indirect clear clear' (operands.Packet k) known = (clear k, known)
load_bytes_clear direct indirect clear clear' (operands.PacketAtIndex k) known = (clear' k, known)
load_bytes_clear direct indirect clear clear' other known = tt

load_index_clear : (operand : Operand) → OperandKnown operand → IfSome (load_index_code operand) CodedClear
unfolding operation_of
load_index_clear (operands.Literal k) known = (refl, known)
load_index_clear (operands.Cell k) known = (refl, known)
load_index_clear operands.Length known = (refl, omega arith)
load_index_clear (operands.HeaderLength k) known = (refl, known)
load_index_clear other known = tt

header_length_clear : (operand : Operand) → OperandKnown operand → IfSome (header_length_code operand) CodedClear
unfolding operation_of
header_length_clear (operands.HeaderLength k) known = (refl, known)
header_length_clear other known = tt

return_clear : (operand : Operand) → OperandKnown operand → IfSome (return_code operand) CodedClear
unfolding operation_of
return_clear (operands.Literal k) known = (refl, known)
return_clear operands.Accumulator known = (refl, omega arith)
return_clear operands.Nothing known = (refl, omega arith)
return_clear other known = tt

pair_clear : (constant index : ℕ) → takes_constant (bpf.operation_of constant) ≡ true → (operand : Operand) → OperandKnown operand → IfSome (pair_code constant index operand) CodedClear
pair_clear constant index is (operands.Literal k) known = (constant_clear (bpf.operation_of constant) constant k is, known)
pair_clear constant index is operands.Index known = (zeros_clear (bpf.operation_of index) index, omega arith)
pair_clear constant index is other known = tt

code_clear : (name : Name) → has_codes name ≡ true → (operand : Operand) → OperandKnown operand → IfSome (code_of name operand) CodedClear
unfolding operation_of
code_clear (names.Load sizes.Word) is operand known = load_word_clear operand known
code_clear (names.Load sizes.Half) is operand known = load_bytes_clear 0x28 0x48 (λ k. refl) (λ k. refl) operand known
code_clear (names.Load sizes.Byte) is operand known = load_bytes_clear 0x30 0x50 (λ k. refl) (λ k. refl) operand known
code_clear names.LoadImmediate is operand known = literal_clear 0x00 (λ k. refl) operand known
code_clear names.LoadIndex is operand known = load_index_clear operand known
code_clear names.LoadIndexImmediate is operand known = literal_clear 0x01 (λ k. refl) operand known
code_clear names.LoadHeaderLength is operand known = header_length_clear operand known
code_clear names.Store is operand known = cell_clear 0x02 (λ k. refl) operand known
code_clear names.StoreIndex is operand known = cell_clear 0x03 (λ k. refl) operand known
code_clear (names.Calculate constant index) is operand known = pair_clear constant index is operand known
code_clear names.Negate is operand known = bare_clear 0x84 operand
code_clear names.ToIndex is operand known = bare_clear 0x07 operand
code_clear names.ToAccumulator is operand known = bare_clear 0x87 operand
code_clear names.Return is operand known = return_clear operand known
code_clear other is operand known = tt

-- ---- Operands

number_known : (text : List Token) → AreKnown text → IfSome (number_at text) (λ found. IsSmall found.0)
number_known [] known = tt
number_known (tokens.Number n ∷ rest) known = known.0
number_known (other ∷ rest) known = tt

open_known : (text : List Token) → AreKnown text → IfSome (open_at text) AreKnown
open_known [] known = tt
open_known (tokens.Open ∷ rest) known = known.1
open_known (other ∷ rest) known = tt

open_bracket_known : (text : List Token) → AreKnown text → IfSome (open_bracket_at text) AreKnown
open_bracket_known [] known = tt
open_bracket_known (tokens.OpenBracket ∷ rest) known = known.1
open_bracket_known (other ∷ rest) known = tt

plus_known : (text : List Token) → AreKnown text → IfSome (plus_at text) AreKnown
plus_known [] known = tt
plus_known (tokens.Plus ∷ rest) known = known.1
plus_known (other ∷ rest) known = tt

times_known : (text : List Token) → AreKnown text → IfSome (times_at text) AreKnown
times_known [] known = tt
times_known (tokens.Times ∷ rest) known = known.1
times_known (other ∷ rest) known = tt

abbrev FirstSmall : ℕ × List Token → Type 0
FirstSmall found = IsSmall found.0

abbrev FirstKnown : Operand × List Token → Type 0
FirstKnown found = OperandKnown found.0

bracketed_known : (text : List Token) → AreKnown text → IfSome (bracketed_at text) FirstSmall
bracketed_known text known =
    then_some AreKnown FirstSmall (open_bracket_at text) _ (open_bracket_known text known) (λ inner known'.
    then_some FirstSmall FirstSmall (number_at inner) _ (number_known inner known') (λ n small.
    then_some Any FirstSmall (close_bracket_at n.1) _ (any_some (close_bracket_at n.1)) (λ rest any. small)))

indirect_known : (text : List Token) → AreKnown text → IfSome (indirect_at text) FirstKnown
indirect_known text known =
    then_some AreKnown FirstKnown (plus_at text) _ (plus_known text known) (λ offset known'.
    then_some FirstSmall FirstKnown (number_at offset) _ (number_known offset known') (λ n small.
    then_some Any FirstKnown (close_bracket_at n.1) _ (any_some (close_bracket_at n.1)) (λ rest any. small)))

packet_known : (text : List Token) → AreKnown text → IfSome (packet_at text) FirstKnown
packet_known [] known = tt
packet_known (tokens.Index ∷ rest) known = indirect_known rest known.1
packet_known (tokens.Number n ∷ rest) known = then_some Any FirstKnown (close_bracket_at rest) _ (any_some (close_bracket_at rest)) (λ behind any. known.0)
packet_known (other ∷ rest) known = tt

cell_known : (text : List Token) → AreKnown text → IfSome (cell_at text) FirstKnown
cell_known text known = then_some FirstSmall FirstKnown (bracketed_at text) _ (bracketed_known text known) (λ n small. small)

literal_known : (text : List Token) → AreKnown text → IfSome (literal_at text) FirstKnown
literal_known [] known = tt
literal_known (tokens.Number n ∷ rest) known = known.0
literal_known (tokens.Length ∷ rest) known = tt
literal_known (other ∷ rest) known = tt

header_length_known : (text : List Token) → AreKnown text → IfSome (header_length_at text) FirstKnown
header_length_known text known =
    then_some AreKnown FirstKnown (times_at text) _ (times_known text known) (λ group known'.
    then_some AreKnown FirstKnown (open_at group) _ (open_known group known') (λ inner known''.
    then_some FirstSmall FirstKnown (bracketed_at inner) _ (bracketed_known inner known'') (λ n small.
    then_some Any FirstKnown (low_bits_at n.1) _ (any_some (low_bits_at n.1)) (λ rest any. small))))

counted_known : (n : ℕ) (text : List Token) → AreKnown text → IfSome (counted_at n text) FirstKnown
counted_known n text known = by_test (n == 4)
  where
    by_test : (b : Bool) → IfSome (if b then header_length_at text else None) FirstKnown
    by_test true = header_length_known text known
    by_test false = tt

operand_known : (text : List Token) → AreKnown text → IfSome (operand_at text) FirstKnown
operand_known [] known = tt
operand_known (tokens.Index ∷ rest) known = tt
operand_known (tokens.Accumulator ∷ rest) known = tt
operand_known (tokens.Length ∷ rest) known = tt
operand_known (tokens.Hash ∷ rest) known = literal_known rest known.1
operand_known (tokens.OpenBracket ∷ rest) known = packet_known rest known.1
operand_known (tokens.Memory ∷ rest) known = cell_known rest known.1
operand_known (tokens.Number n ∷ rest) known = counted_known n rest known.1
operand_known (other ∷ rest) known = tt

-- ---- Instructions

abbrev InstructionClear : Instruction → Type 0
InstructionClear (instructions.Plain code k) = IsClear code 0 0 k × IsSmall k
InstructionClear (instructions.Jump target) = Unit {0}
InstructionClear (instructions.Branch code k first second) = ((jt jf : ℕ) → IsClear code jt jf k) × IsSmall k

plain_clear : (name : Name) → has_codes name ≡ true → (text : List Token) → AreKnown text → IfSome (plain_at name text) InstructionClear
plain_clear name is text known =
    then_some FirstKnown InstructionClear (operand_at text) _ (operand_known text known) (λ operand small.
    then_some Any InstructionClear (end_of operand.1) _ (any_some (end_of operand.1)) (λ end any'.
    then_some CodedClear InstructionClear (code_of name operand.0) _ (code_clear name is operand.0 small) (λ coded clear. clear)))

jump_clear : (text : List Token) → IfSome (jump_at text) InstructionClear
jump_clear text = then_some Any InstructionClear (last_target text) _ (any_some (last_target text)) (λ target any. tt)

abbrev TestClear : ℕ × ℕ → Type 0
TestClear coded = ((jt jf : ℕ) → IsClear coded.0 jt jf coded.1) × IsSmall coded.1

test_pair_clear : (constant index : ℕ) → (tests_constant (bpf.operation_of constant) && tests_index (bpf.operation_of index)) ≡ true → (operand : Operand) → OperandKnown operand → IfSome (pair_code constant index operand) TestClear
test_pair_clear constant index is (operands.Literal k) known = (λ jt jf. test_clear (bpf.operation_of constant) (record { code = constant; jt = jt; jf = jf; k = k }) (both_true _ (tests_index (bpf.operation_of index)) is).0, known)
test_pair_clear constant index is operands.Index known = (λ jt jf. test_index_clear (bpf.operation_of index) index jt jf (both_true (tests_constant (bpf.operation_of constant)) _ is).1, omega arith)
test_pair_clear constant index is other known = tt

abbrev BranchClear : ℕ × ℕ × Target × Target → Type 0
BranchClear b = ((jt jf : ℕ) → IsClear b.0 jt jf b.1) × IsSmall b.1

branch_clear : (constant index : ℕ) → (tests_constant (bpf.operation_of constant) && tests_index (bpf.operation_of index)) ≡ true → (text : List Token) → AreKnown text → IfSome (branch_at constant index text) BranchClear
branch_clear constant index is text known =
    then_some FirstKnown BranchClear (operand_at text) _ (operand_known text known) (λ operand small.
    then_some TestClear BranchClear (pair_code constant index operand.0) _ (test_pair_clear constant index is operand.0 small) (λ coded clear.
    then_some Any BranchClear (ways_at operand.1) _ (any_some (ways_at operand.1)) (λ ways any'. clear)))

instruction_clear : (name : Name) → has_codes name ≡ true → (text : List Token) → AreKnown text → IfSome (instruction_of name text) InstructionClear
instruction_clear names.Jump is text known = jump_clear text
instruction_clear (names.JumpIf constant index) is text known = then_some BranchClear InstructionClear (branch_at constant index text) _ (branch_clear constant index is text known) (λ b clear. clear)
instruction_clear (names.JumpUnless constant index) is text known = then_some BranchClear InstructionClear (branch_at constant index text) _ (branch_clear constant index is text known) (λ b clear. clear)
instruction_clear name is text known = plain_clear name is text known

abbrev InsnClear : Insn → Type 0
InsnClear i = (cleared i ≡ i) × (i.jt < 2 ^ 8) × (i.jf < 2 ^ 8) × (i.k < 2 ^ 32)

short_small : (n : ℕ) → IfOk (short n) (λ m. m < 2 ^ 8)
short_small n = by_test (nat_le n 255) refl
  where
    by_test : (b : Bool) → nat_le n 255 ≡ b → IfOk (if b then Ok n else Err JumpTooFar) (λ m. m < 2 ^ 8)
    by_test true fits = let less = leb-true n 255 fits in omega arith
    by_test false over = tt

short_distance_small : (target : Target) (place : ℕ) (so_far rest : List Line) → IfOk (short_distance target place so_far rest) (λ m. m < 2 ^ 8)
short_distance_small target place so_far rest = then_ok Any (λ m. m < 2 ^ 8) (distance target place so_far rest) short (any_ok (distance target place so_far rest)) (λ n any. short_small n)

long_small : (n : ℕ) → IfOk (long n) IsSmall
long_small n = by_test (nat_le n 4294967295) refl
  where
    by_test : (b : Bool) → nat_le n 4294967295 ≡ b → IfOk (if b then Ok n else Err JumpTooFar) IsSmall
    by_test true fits = let less = leb-true n 4294967295 fits in omega arith
    by_test false over = tt

insn_clear : (instruction : Instruction) (place : ℕ) (so_far rest : List Line) → InstructionClear instruction → IfOk (insn_of instruction place so_far rest) InsnClear
unfolding operation_of
insn_clear (instructions.Plain code k) place so_far rest clear = (clear.0, omega arith, omega arith, clear.1)
insn_clear (instructions.Jump target) place so_far rest clear =
    then_ok Any InsnClear (distance target place so_far rest) _ (any_ok (distance target place so_far rest)) (λ n any.
    then_ok IsSmall InsnClear (long n) _ (long_small n) (λ k small. (refl, omega arith, omega arith, small)))
insn_clear (instructions.Branch code k first second) place so_far rest clear =
    then_ok (λ m. m < 2 ^ 8) InsnClear (short_distance first place so_far rest) _ (short_distance_small first place so_far rest) (λ jt jt_small.
    then_ok (λ m. m < 2 ^ 8) InsnClear (short_distance second place so_far rest) _ (short_distance_small second place so_far rest) (λ jf jf_small. (clear.0 jt jf, jt_small, jf_small, clear.1)))

-- ---- Lines

abbrev LineClear : Line → Type 0
LineClear line = IfSome line.instruction InstructionClear

abbrev RestKnown : {A : Type 0} → A × List Token → Type 0
RestKnown found = AreKnown found.1

close_known : (text : List Token) → AreKnown text → IfSome (close_at text) AreKnown
close_known [] known = tt
close_known (tokens.Close ∷ rest) known = known.1
close_known (other ∷ rest) known = tt

colon_known : (text : List Token) → AreKnown text → IfSome (colon_at text) AreKnown
colon_known [] known = tt
colon_known (tokens.Colon ∷ rest) known = known.1
colon_known (other ∷ rest) known = tt

place_at_known : (text : List Token) → AreKnown text → IfSome (place_at text) RestKnown
place_at_known [] known = tt
place_at_known (tokens.Place place ∷ rest) known = then_some AreKnown RestKnown (close_at rest) _ (close_known rest known.1) (λ behind known'. known')
place_at_known (other ∷ rest) known = tt

label_at_known : (text : List Token) → AreKnown text → IfSome (label_at text) RestKnown
label_at_known [] known = tt
label_at_known (tokens.Label label ∷ rest) known = then_some AreKnown RestKnown (colon_at rest) _ (colon_known rest known.1) (λ behind known'. known')
label_at_known (other ∷ rest) known = tt

rest_known : {A : Type 0} (o : Option (A × List Token)) (text : List Token) → IfSome o RestKnown → AreKnown text → AreKnown (or_nothing o text).1
rest_known (Some found) text one known = one
rest_known None text one known = known

instruction_known : (text : List Token) → AreKnown text → IfOk (instruction_at text) (λ o. IfSome o InstructionClear)
instruction_known [] known = tt
instruction_known (tokens.Name name ∷ rest) known = go_on (instruction_of name rest) (instruction_clear name known.0 rest known.1)
  where
    go_on : (o : Option Instruction) → IfSome o InstructionClear → IfOk (instruction_or o) (λ p. IfSome p InstructionClear)
    go_on (Some i) clear = clear
    go_on None clear = tt
instruction_known (other ∷ rest) known = tt

line_clear : (text : List ℕ) → IfOk (line_of text) LineClear
unfolding line_of
line_clear text =
    then_ok AreKnown LineClear (lexed 0 text) line_at (lexed_known 0 text) (λ ts known.
    let placed = rest_known (place_at ts) ts (place_at_known ts known) known in
    let labelled = rest_known (label_at (place_and_rest ts).1) (place_and_rest ts).1 (label_at_known (place_and_rest ts).1 placed) placed in
    then_ok (λ o. IfSome o InstructionClear) LineClear (instruction_at (label_and_rest (place_and_rest ts).1).1) _ (instruction_known _ labelled) (λ instruction clear. clear))

lines_clear : (number : ℕ) (texts : List (List ℕ)) → IfOk (lines_from number texts) (AllByRecursion LineClear)
lines_clear number [] = tt
lines_clear number (text ∷ texts) =
    then_ok LineClear (AllByRecursion LineClear) (at_line number (line_of text)) _ (at_line_ok LineClear number (line_of text) (line_clear text)) (λ line clear.
    onto_ok LineClear line (lines_from (number + 1) texts) clear (lines_clear (number + 1) texts))

abbrev FoundClear : Option Insn → Type 0
FoundClear found = IfSome found InsnClear

line_insn_clear : (line : Line) (place : ℕ) (before so_far rest : List Line) → LineClear line → IfOk (line_insn line place before so_far rest) FoundClear
line_insn_clear line place before so_far rest clear = by_tests (is_repeated line before) (is_placed line place)
  where
    of_line : (o : Option Instruction) → IfSome o InstructionClear → IfOk (insn_or o place so_far rest) FoundClear
    of_line None known = tt
    of_line (Some i) known = then_ok InsnClear FoundClear (insn_of i place so_far rest) (λ insn. Ok (Some insn)) (insn_clear i place so_far rest known) (λ insn is. is)

    by_tests : (repeated right : Bool) → IfOk (if repeated then Err LabelTwice else (if right then insn_or line.instruction place so_far rest else Err BadPlace)) FoundClear
    by_tests true right = tt
    by_tests false true = of_line line.instruction clear
    by_tests false false = tt

insns_clear : (all : List Line) (n place : ℕ) (lines : List Line) → AllByRecursion LineClear lines → IfOk (insns_from all n place lines) (AllByRecursion InsnClear)
insns_clear all n place [] clear = tt
insns_clear all n place (line ∷ lines) clear =
    let here = line_insn line place (take n all) (take (n + 1) all) (drop (n + 1) all) in
    then_ok FoundClear (AllByRecursion InsnClear) (at_line (n + 1) here) _ (at_line_ok FoundClear (n + 1) here (line_insn_clear line place _ _ _ clear.0)) (λ found known.
    before found known (insns_from all (n + 1) (next_place found place) lines) (insns_clear all (n + 1) (next_place found place) lines clear.1))
  where
    before : (found : Option Insn) → FoundClear found → (r : Result (List Insn) AssemblyFault) → IfOk r (AllByRecursion InsnClear) → IfOk (before_others found r) (AllByRecursion InsnClear)
    before None known r all' = all'
    before (Some insn) known r all' = onto_ok InsnClear insn r known all'

assembled_clear : (text : List ℕ) → IfOk (assembled text) (AllByRecursion InsnClear)
unfolding assembled
assembled_clear text = by_test (nat_le (length text) 65536)
  where
    by_test : (b : Bool) → IfOk (if b then bind (lines_from 1 (slice_split is_line_feed text)) (λ ls. insns_from ls 0 0 ls) else Err faults.TextTooLong) (AllByRecursion InsnClear)
    by_test true = then_ok (AllByRecursion LineClear) (AllByRecursion InsnClear) (lines_from 1 (slice_split is_line_feed text)) (λ ls. insns_from ls 0 0 ls) (lines_clear 1 (slice_split is_line_feed text)) (λ ls clear. insns_clear ls 0 0 ls clear)
    by_test false = tt

-- so they are themselves
same_insns : (insns : List Insn) → AllByRecursion InsnClear insns → map cleared insns ≡ insns
same_insns [] all = refl
same_insns (i ∷ insns) all = rw (all.0.0, same_insns insns all.1) refl

all_clear : (text : List ℕ) (program : List Insn) → assembled text ≡ Ok program → AllByRecursion InsnClear program
all_clear text program is = subst (λ r. IfOk r (AllByRecursion InsnClear)) is (assembled_clear text)

pub assembled_same : (text : List ℕ) (program : List Insn) → assembled text ≡ Ok program → map cleared program ≡ program
assembled_same text program is = same_insns program (all_clear text program is)

-- a code of the table is small
code_in : (table : List (ℕ × bpf.Operation)) → list_all (λ entry. nat_lt entry.0 65536) table ≡ true → (code : ℕ) → (bpf.operation_in table code ≡ None → ⊥) → code < 2 ^ 16
code_in [] all code known = absurd (known refl)
code_in (entry ∷ table) all code known =
    let both = both_true (nat_lt entry.0 65536) (list_all (λ e. nat_lt e.0 65536) table) all in
    by_test (code == entry.0) refl (ltb-true entry.0 65536 both.0) (code_in table both.1 code) known
  where
    by_test : (b : Bool) → (code == entry.0) ≡ b → entry.0 < 65536 → ((bpf.operation_in table code ≡ None → ⊥) → code < 2 ^ 16) → ((if b then Some entry.1 else bpf.operation_in table code) ≡ None → ⊥) → code < 2 ^ 16
    by_test true same small later is = let here = eqb-true code entry.0 same in omega arith
    by_test false other small later is = later is

code_small : (code : ℕ) → (operation_of code ≡ None → ⊥) → code < 2 ^ 16
unfolding operation_of
code_small code known = code_in bpf.codes refl code known

-- of no code nothing is wrong in a program
known_code : (size place : ℕ) (i : Insn) → fault_of size place i ≡ None → operation_of i.code ≡ None → ⊥
unfolding fault_of
known_code size place i sound none =
    let wrong : Some (UnknownCode place) ≡ None = sym (ap (λ o. fault_in o size place i) none) ∙ sound in absurd cc

-- so each field of a valid program is within its range
fields_from : (size place : ℕ) (insns : List Insn) → AllByRecursion InsnClear insns → ((n : ℕ) (i : Insn) → slice_get insns n ≡ Some i → fault_of size (place + n) i ≡ None) → AllByRecursion HasFields insns
fields_from size place [] all sound = tt
fields_from size place (i ∷ insns) all sound =
    let next : (n : ℕ) → place + suc n ≡ suc place + n = λ n. omega arith in
    let fields : HasFields i = record { code = code_small i.code (known_code size (place + 0) i (sound 0 i refl)); jt = all.0.1; jf = all.0.2; k = all.0.3 } in
    (fields, fields_from size (suc place) insns all.1 (λ n j at. subst (λ p. fault_of size p j ≡ None) (next n) (sound (suc n) j at)))

pub assembled_fields : (text : List ℕ) (program : List Insn) → assembled text ≡ Ok program → IsValidProgram program → AllByRecursion HasFields program
assembled_fields text program is valid =
    let from_0 : (n : ℕ) → n ≡ 0 + n = λ n. omega arith in
    fields_from (length program) 0 program (all_clear text program is) (λ n i at. subst (λ p. fault_of (length program) p i ≡ None) (from_0 n) (valid.sound n i (slice_get_within program n i at) at))
