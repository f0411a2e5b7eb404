-- Where the number of a fault alone says the hint.
use Rattle.std.proofs.Common.{◌≡◌, ℕ, List, Some, None, Result, Ok, Err, IfOk, refl, sym, ◌∙◌, subst}
use Rattle.filter_hints.specs.Advising.{IsSaying, deep_relation, long_program, long_text, second_line}
use Rattle.filter_hints.specs.declared.advice.Advice.{Advice}
use Rattle.filter_hints.specs.declared.advice.Advice.TheVariants.{LongProgram, Said}
use Rattle.filtergen_facts.specs.declared.refusal.Refusal.TheVariants as uncompiled
use Rattle.filterlang.specs.declared.fault.Fault.TheVariants as misread
use Rattle.bpftap_c.specs.Hints.{IsAdviceOn, IsNoRefusal, IsNoTextFault, IsSettled, Says, with_second}

pub no-fault : (code : ℕ) → IsNoTextFault code → IsNoRefusal code → IsAdviceOn code None
no-fault code no_text no_refusal = (
  λ h. let e = no_text misread.TextTooLong (sym h) in cc,
  λ h. let e = no_refusal uncompiled.TooLong (sym h) in cc,
  λ h. let e = no_refusal uncompiled.TooDeep (sym h) in cc,
)

said-line : (text : List ℕ) (advice : Advice) (line : List ℕ) → IsSaying text advice → Says advice line → line ≡ text
said-line text (Said said) line is says = says said.now refl ∙ is
said-line text other line is says = absurd is

program-line : (advice : Advice) (line : List ℕ) → advice ≡ LongProgram → Says advice line → line ≡ with_second long_program (second_line LongProgram)
program-line advice line is says = let says_it = subst (λ (a : Advice). Says a line) is says in says_it long_program refl

pub settled : (code : ℕ) (advice : Advice) (line : List ℕ) → IsAdviceOn code (Some advice) → Says advice line → IsSettled code line
settled code advice line on says = (
  λ h. said-line long_text advice line (on.0 h) says,
  λ h. program-line advice line (on.1 h) says,
  λ h. said-line deep_relation advice line (on.2 h) says,
)

pub settled-if : {T E : Type 0} (bytes : T → List ℕ) (code : ℕ) (advice : Advice) (made : Result T E) → IsAdviceOn code (Some advice) →
    IfOk made (λ x. Says advice (bytes x)) → IfOk made (λ x. IsSettled code (bytes x))
settled-if bytes code advice (Ok x) on says = settled code advice (bytes x) on says
settled-if bytes code advice (Err error) on says = says
