-- Columns, and the lines of a program.
use Rattle.std.proofs.Common.{◌≡◌, ◌≢◌, ℕ, zero, suc, ◌+◌, ◌-◌, ◌<◌, ◌^◌, Bool, true, false, List, [], ◌∷◌, ◌++◌, length, take, get_or, Option, Some, None, ◌⊎◌, inl, inr, if◌then◌else◌, refl, sym, ap, subst, ◌∙◌, arith, append_assoc, rules}
use Rattle.std.specs.Prelude.{replicate, codes}
use Rattle.std.specs.List.{AllByRecursion, repeat}
use native.Mathlib.Numerals.{unary_clauses}
use Rattle.std.proofs.lemmas.List.{append-nil}
use Rattle.std.proofs.lemmas.Grind.{common_steps}
use Rattle.std.specs.declared.fmt.Formatter.{Formatter}
use Rattle.std.specs.Fmt.{HasWritten, decimal, padded, padded_integral, format_spec, char_count, take_chars}
use Rattle.std.proofs.lemmas.Fmt.{decimal_nonempty}
use Rattle.bpfvm.specs.declared.insn.Insn.{Insn}
use Rattle.bpfvm.specs.declared.image.OperandForm.{OperandForm}
use Rattle.bpfvm.specs.declared.image.OperandForm.TheVariants as form
use Rattle.bpfvm.specs.Codes.{Accumulator, Index, Add, Subtract, Multiply, Divide, Or, And, ShiftLeft, ShiftRight, Modulo, ExclusiveOr, Equal, Greater, GreaterOrEqual, AnyBit, Operation, LoadAbsolute, LoadIndirect, LoadImmediate, LoadMemory, LoadLength, LoadHeaderLength, Store, Calculate, Negate, Jump, Branch, ReturnConstant, ReturnAccumulator, Transfer, operation_of}
use Rattle.bpfvm.specs.Images.{name_of, column, spaced, line_at, lines_from}
use Rattle.bpfvm.specs.Naming.{Forms, signed_in, operand_in}
use Rattle.bpfvm.proofs.Soundness.{IsOneOf, one-of}

-- ---- What a formatter has written

pub written-then : {W : Type 0} (took : W → List ℕ → W → Type 0) (f : Formatter W) (a : List ℕ) (g : Formatter W) (b : List ℕ) (h : Formatter W) →
    HasWritten took f a g → HasWritten took g b h → HasWritten took f (a ++ b) h
written-then took f a g b h first second = first_of (grind (arith, common_steps), search rules)

pub written-as : {W : Type 0} (took : W → List ℕ → W → Type 0) (f : Formatter W) (a b : List ℕ) (g : Formatter W) → a ≡ b → HasWritten took f a g → HasWritten took f b g
written-as took f a b g same = subst (λ (text : List ℕ). HasWritten took f text g) same

-- ---- Columns

-- as `{:<8}` writes a text
abbrev in_eight : List ℕ → List ℕ
in_eight text = padded (format_spec 32 1 0 8 (2 ^ 64 - 1)) text

loads : (four two : Bool) →
    in_eight (if four then codes "ld" else (if two then codes "ldh" else codes "ldb")) ≡ column 8 (if four then codes "ld" else (if two then codes "ldh" else codes "ldb"))
unfolding padded char_count take_chars lib.Utf8.encode
loads true two = refl
loads false true = refl
loads false false = refl

pub name_column : (o : Option Operation) → in_eight (name_of o) ≡ column 8 (name_of o)
unfolding padded char_count take_chars lib.Utf8.encode
name_column None = refl
name_column (Some (LoadAbsolute size)) = loads _ _
name_column (Some (LoadIndirect size)) = loads _ _
name_column (Some (LoadImmediate Accumulator)) = refl
name_column (Some (LoadImmediate Index)) = refl
name_column (Some (LoadMemory Accumulator)) = refl
name_column (Some (LoadMemory Index)) = refl
name_column (Some (LoadLength Accumulator)) = refl
name_column (Some (LoadLength Index)) = refl
name_column (Some LoadHeaderLength) = refl
name_column (Some (Store Accumulator)) = refl
name_column (Some (Store Index)) = refl
name_column (Some (Calculate Add v)) = refl
name_column (Some (Calculate Subtract v)) = refl
name_column (Some (Calculate Multiply v)) = refl
name_column (Some (Calculate Divide v)) = refl
name_column (Some (Calculate Or v)) = refl
name_column (Some (Calculate And v)) = refl
name_column (Some (Calculate ShiftLeft v)) = refl
name_column (Some (Calculate ShiftRight v)) = refl
name_column (Some (Calculate Modulo v)) = refl
name_column (Some (Calculate ExclusiveOr v)) = refl
name_column (Some Negate) = refl
name_column (Some Jump) = refl
name_column (Some (Branch Equal v)) = refl
name_column (Some (Branch Greater v)) = refl
name_column (Some (Branch GreaterOrEqual v)) = refl
name_column (Some (Branch AnyBit v)) = refl
name_column (Some ReturnConstant) = refl
name_column (Some ReturnAccumulator) = refl
name_column (Some (Transfer Accumulator)) = refl
name_column (Some (Transfer Index)) = refl

spaces : (n : ℕ) → repeat {A = ℕ} n (32 ∷ []) ≡ replicate n 32
spaces zero = refl
spaces (suc n) = ap (λ (t : List ℕ). 32 ∷ t) (spaces n)

-- as `{:<13x}` writes a number after `#0x`
pub hex_column : (ds : List ℕ) → padded_integral (format_spec 32 1 0 13 (2 ^ 64 - 1)) false [] ds ≡ ds ++ replicate (13 - length ds) 32
unfolding padded_integral char_count lib.Utf8.encode
hex_column ds = simp unary_clauses (ap (λ (t : List ℕ). ds ++ t) (spaces (13 - length ds)))

-- the column begins before them
pub hex_operand : (ds : List ℕ) → column 16 (codes "#0x" ++ ds) ≡ codes "#0x" ++ (ds ++ replicate (13 - length ds) 32)
hex_operand ds =
    let room : 16 - length (codes "#0x" ++ ds) ≡ 13 - length ds = omega arith in
    rw room refl

-- as `{:03}` writes a number
pub three_padded : (ds : List ℕ) → padded_integral (format_spec 32 0 4 3 (2 ^ 64 - 1)) false [] ds ≡ replicate (3 - length ds) 48 ++ ds
unfolding padded_integral char_count
three_padded ds = simp unary_clauses (ap (λ (t : List ℕ). replicate (3 - length ds) 48 ++ t) (append-nil ds))

-- ---- Codes

-- codes of one name
pub name-each : (name codes : List ℕ) (code : ℕ) → IsOneOf codes code → AllByRecursion (λ code. name ≡ name_of (operation_of code)) codes → name ≡ name_of (operation_of code)
name-each name codes code is each = one-of (λ code. name ≡ name_of (operation_of code)) codes code is each

-- and of one form
pub form-each : (f : OperandForm) (codes : List ℕ) (code : ℕ) → IsOneOf codes code → AllByRecursion (λ code. Forms code f) codes → Forms code f
form-each f codes code is each = one-of (λ code. Forms code f) codes code is each

-- ---- Operands

some-spaced : (text : List ℕ) → 0 < length text → spaced text ≡ 32 ∷ text
some-spaced [] some = absurd (omega arith)
some-spaced (byte ∷ bytes) some = refl

-- each form but one has an operand
pub spaced_operand : (f : OperandForm) (next : ℕ) (i : Insn) → f ≢ form.Nothing → next + i.k < 2 ^ 64 → spaced (operand_in f next i) ≡ 32 ∷ operand_in f next i
spaced_operand form.Nothing next i other small = absurd (other refl)
spaced_operand form.InIndex next i other small = refl
spaced_operand form.Signed next i other small = refl
spaced_operand form.Hexadecimal next i other small = refl
spaced_operand form.WireLength next i other small = refl
spaced_operand form.Packet next i other small = refl
spaced_operand form.PacketAtIndex next i other small = refl
spaced_operand form.HeaderLength next i other small = refl
spaced_operand form.Cell next i other small = refl
spaced_operand form.Target next i other small = some-spaced (decimal (next + i.k)) (decimal_nonempty (next + i.k) small)
spaced_operand form.TestInIndex next i other small = refl
spaced_operand form.TestHexadecimal next i other small = refl
spaced_operand form.Code next i other small = refl

-- the forms of a number with a sign
pub signed_operand : (f : OperandForm) (next : ℕ) (i : Insn) → (f ≡ form.Signed) ⊎ ((f ≡ form.Packet) ⊎ ((f ≡ form.PacketAtIndex) ⊎ ((f ≡ form.HeaderLength) ⊎ (f ≡ form.Cell)))) →
    signed_in f i.k ≡ operand_in f next i
signed_operand f next i (inl is) = rw is refl
signed_operand f next i (inr (inl is)) = rw is refl
signed_operand f next i (inr (inr (inl is))) = rw is refl
signed_operand f next i (inr (inr (inr (inl is)))) = rw is refl
signed_operand f next i (inr (inr (inr (inr is)))) = rw is refl

-- ---- Lines

-- the first ones, and one more
lines-more : (n : ℕ) (insns : List Insn) (i : ℕ) (d : Insn) → i < length insns →
    lines_from n (take (suc i) insns) ≡ lines_from n (take i insns) ++ line_at (n + i) (get_or insns i d)
lines-more n [] i d inside = absurd (omega arith)
lines-more n (y ∷ insns) zero d inside =
    let same : n + 0 ≡ n = omega arith in
    rw same (append-nil (line_at n y))
lines-more n (y ∷ insns) (suc i) d inside =
    let same : suc n + i ≡ n + suc i = omega arith in
    ap (λ (t : List ℕ). line_at n y ++ t) (lines-more (suc n) insns i d (omega arith) ∙ ap (λ k. lines_from (suc n) (take i insns) ++ line_at k (get_or insns i d)) same)
    ∙ sym (append_assoc (line_at n y) (lines_from (suc n) (take i insns)) (line_at (n + suc i) (get_or insns i d)))

-- from the first place on
pub one-more : (insns : List Insn) (i : ℕ) (d : Insn) → i < length insns →
    lines_from 0 (take (i + 1) insns) ≡ lines_from 0 (take i insns) ++ line_at i (get_or insns i d)
one-more insns i d inside =
    let next : i + 1 ≡ suc i = omega arith in
    let here : 0 + i ≡ i = omega arith in
    rw next (lines-more 0 insns i d inside ∙ ap (λ k. lines_from 0 (take i insns) ++ line_at k (get_or insns i d)) here)
