-- What follows from a step that was answered, or refused.
use Rattle.std.proofs.Common.{◌≡◌, ℕ, Result, Ok, Err, ap}
use Rattle.bpf_asm.specs.declared.fault.Cause.{Cause}
use Rattle.bpf_asm.specs.declared.fault.AssemblyFault.{AssemblyFault}
use Rattle.bpf_asm.specs.declared.fault.AssemblyFault.TheVariants as faults
use Rattle.bpf_asm.specs.Lines.{bind}
use Rattle.bpf_asm.specs.Assembly.{at_line}

-- a step that failed at a line fails what goes on from it
pub at_line_fails : {A B : Type 0} (n : ℕ) (r : Result A Cause) (f : A → Result B Cause) (e : AssemblyFault) → at_line n r ≡ Err e → at_line n (bind r f) ≡ Err e
at_line_fails n (Ok x) f e is = absurd cc
at_line_fails n (Err cause) f e is = let same : faults.Line n cause ≡ e = cc in ap Err same

-- one that did not goes on from what it gave
pub at_line_then : {A B : Type 0} (n : ℕ) (r : Result A Cause) (x : A) (f : A → Result B Cause) → at_line n r ≡ Ok x → at_line n (bind r f) ≡ at_line n (f x)
at_line_then n (Ok y) x f is = let same : y ≡ x = cc in ap (λ z. at_line n (f z)) same
at_line_then n (Err cause) x f is = absurd cc

-- the same without a line
pub bind_fails : {A B E : Type 0} (r : Result A E) (f : A → Result B E) (e : E) → r ≡ Err e → bind r f ≡ Err e
bind_fails (Ok x) f e is = absurd cc
bind_fails (Err d) f e is = let same : d ≡ e = cc in ap Err same

pub bind_then : {A B E : Type 0} (r : Result A E) (x : A) (f : A → Result B E) → r ≡ Ok x → bind r f ≡ f x
bind_then (Ok y) x f is = let same : y ≡ x = cc in ap f same
bind_then (Err d) x f is = absurd cc
