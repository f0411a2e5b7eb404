-- What helps to fix an expression that is refused.
use Rattle.std.specs.Prelude.{◌≡◌, ◌≢◌, ◌⊎◌, ◌==◌, ◌&&◌, ◌||◌, ℕ, Bool, true, false, nat_le, List, [], ◌∷◌, ◌++◌, Option, Some, None, Result, Ok, Err, IsUtf8}
use Rattle.filter_hints.specs.Advising.{IsSaying, deep_relation, long_program, long_text, second_line, sentence}
use Rattle.filter_hints.specs.declared.advice.Advice.{Advice}
use Rattle.filter_hints.specs.declared.advice.Advice.TheVariants.{LongProgram}
use Rattle.filtergen_facts.specs.declared.refusal.Refusal.{Refusal}
use Rattle.filtergen_facts.specs.declared.refusal.Refusal.TheVariants as uncompiled
use Rattle.filterlang.specs.declared.fault.Fault.{Fault}
use Rattle.filterlang.specs.declared.fault.Fault.TheVariants as misread
use Rattle.filterlang.specs.Faults.{fault_place}
use Rattle.bpftap_c.specs.declared.outcome.Failure.{Failure}
use Rattle.bpftap_c.specs.declared.outcome.Failure.TheVariants.{NoMemory}
use Rattle.bpftap_c.specs.Filters.{IsNotText}
use Rattle.bpftap_c.specs.Outcome.{text_code, tree_code}

-- the fault is at this place, or has none
abbrev pub IsPlaced : Fault → ℕ → Type 0
IsPlaced fault place = (fault_place fault ≡ Some place) ⊎ (fault_place fault ≡ None)

-- no fault of a text has this number but that memory was refused
abbrev pub IsNoTextFault : ℕ → Type 0
IsNoTextFault code = (fault : Fault) → text_code fault ≡ code → fault ≡ misread.NoMemory

abbrev pub IsNoRefusal : ℕ → Type 0
IsNoRefusal code = (refusal : Refusal) → tree_code refusal ≡ code → refusal ≡ uncompiled.NoMemory

-- a number of a fault at which something helps: any of a text that is refused, and two of an expression that has no program
abbrev pub has_hint : ℕ → Bool
has_hint code = (nat_le 32 code && nat_le code 43) || (code == 48) || (code == 49)

-- a sentence, and after byte 10 its second line if it has one
abbrev pub with_second : List ℕ → Option (List ℕ) → List ℕ
with_second said None = said
with_second said (Some line) = said ++ 10 ∷ line

-- the text of an advice, where its sentence does not depend on the text that is refused
abbrev pub Says : Advice → List ℕ → Type 0
Says advice line = (said : List ℕ) → sentence advice ≡ Some said → line ≡ with_second said (second_line advice)

-- what helps at a fault whose number is enough to say it: a text that is too long, a program that is too long, a relation that is too deep
abbrev pub IsAdviceOn : ℕ → Option Advice → Type 0
IsAdviceOn code None = (code ≢ text_code misread.TextTooLong) × (code ≢ tree_code uncompiled.TooLong) × (code ≢ tree_code uncompiled.TooDeep)
IsAdviceOn code (Some advice) =
    (code ≡ text_code misread.TextTooLong → IsSaying long_text advice)
    × (code ≡ tree_code uncompiled.TooLong → advice ≡ LongProgram)
    × (code ≡ tree_code uncompiled.TooDeep → IsSaying deep_relation advice)

-- the text of a hint at a fault whose number is enough to say it
abbrev pub IsSettled : ℕ → List ℕ → Type 0
IsSettled code line =
    (code ≡ text_code misread.TextTooLong → line ≡ long_text)
    × (code ≡ tree_code uncompiled.TooLong → line ≡ with_second long_program (second_line LongProgram))
    × (code ≡ tree_code uncompiled.TooDeep → line ≡ deep_relation)

-- There is a text exactly if something helps at faults with this number, and it is the one that is settled.
abbrev pub IsHintOn : ℕ → List ℕ → Type 0
IsHintOn code line = (has_hint code ≡ false → line ≡ []) × (has_hint code ≡ true → line ≢ []) × IsSettled code line

-- What helps. Or the text is not UTF-8, or memory was refused.
abbrev pub IsHinted : List ℕ → ℕ → Result (List ℕ) Failure → Type 0
IsHinted text code (Ok line) = IsUtf8 text × IsHintOn code line
IsHinted text code (Err NoMemory) = IsUtf8 text
IsHinted text code (Err failure) = IsNotText text failure
