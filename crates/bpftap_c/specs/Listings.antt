-- What is made of instructions and of listings.
use Rattle.std.specs.Prelude.{◌≡◌, ◌⊎◌, ℕ, List, length, Result, Ok, Err}
use Rattle.bpfvm.specs.declared.insn.Insn.{Insn}
use Rattle.bpfvm.specs.declared.fault.Invalid.{Invalid}
use Rattle.bpfvm.specs.Listing.{IsListing, IsRefusedListing}
use Rattle.bpfvm.specs.Validity.{IsValidProgram, IsRefusedAs}
use Rattle.bpftap_c.specs.declared.outcome.BpftapResult.{BpftapResult}
use Rattle.bpftap_c.specs.declared.outcome.Failure.{Failure}
use Rattle.bpftap_c.specs.declared.outcome.Failure.TheVariants.{NoMemory, Program, Listing}
use Rattle.bpftap_c.specs.Outcome.{done, failed}

-- instructions are a program; or this is wrong with them
abbrev pub Checks : List Insn → BpftapResult → Type 0
Checks insns told =
    (IsValidProgram insns × (told ≡ done (length insns)))
    ⊎ ((fault : Invalid) × IsRefusedAs insns fault × (told ≡ failed (Program fault)))

-- the program of a listing, or why there is none
abbrev pub IsReadListing : List ℕ → Result (List Insn) Failure → Type 0
IsReadListing text (Ok program) = IsListing text program × IsValidProgram program
IsReadListing text (Err (Listing fault)) = IsRefusedListing text fault
IsReadListing text (Err other) = ⊥

-- the text of a program, or why there is none
abbrev pub IsTextOf : (List Insn → List ℕ) → List Insn → Result (List ℕ) Failure → Type 0
IsTextOf text_of insns (Ok text) = IsValidProgram insns × (text ≡ text_of insns)
IsTextOf text_of insns (Err NoMemory) = IsValidProgram insns
IsTextOf text_of insns (Err (Program fault)) = IsRefusedAs insns fault
IsTextOf text_of insns (Err other) = ⊥
