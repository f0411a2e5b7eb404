-- The program in the caller's memory.
use Rattle.std.specs.Prelude.{◌≡◌, ◌≤◌, ◌⊎◌, ℕ, List, [], ◌∷◌}
use Rattle.std.specs.Allocator.{HasLayout}
use Rattle.std.specs.Borrow.{Fml, Share, fsep, lent_at}
use Rattle.std.specs.Ptr.{Ptr}
use base.Fml.{Lft, flft}
use denote.Memory.{lone}
use Rattle.bpfvm.specs.declared.insn.Insn.{Insn}
use Rattle.bpfvm.specs.declared.fault.Invalid.{Invalid}
use Rattle.bpfvm.specs.Validity.{IsValidProgram, IsRefusedAs}
use Rattle.bpfvm.specs.contracts.program.Program.{the_row}
use Rattle.bpftap_c.specs.Outcome.{invalid_code}

-- An allocator that is asked for this many bytes gives room for a program (`room_at`), and aligns it to 16 at most.
abbrev pub IsLayout : ℕ → Type 0
IsLayout size = (align : ℕ) × HasLayout (lone the_row.mir) size align × (align ≤ 16)

-- a program that is lent for a lifetime, and a share of that lifetime
pub record Lent : Type 0 where
  pub insns : List Insn
  pub lifetime : Lft
  pub share : Share

-- It lies there, and stays as it is while the lifetime lasts. Whoever has another share of that may run it at the same time.
abbrev pub lies_lent : Ptr → Lent → Fml
lies_lent at lent = fsep (flft lent.lifetime lent.share) (lent_at the_row at lent.insns lent.lifetime)

-- `ret #0`
abbrev pub reject_all : List Insn
reject_all = (record { code = 6; jt = 0; jf = 0; k = 0 }) ∷ []

-- It is what the instructions are; or something is wrong with them, and it rejects every packet.
abbrev pub Prepares : List Insn → List Insn → ℕ → Type 0
Prepares insns program fault =
    (IsValidProgram insns × (program ≡ insns) × (fault ≡ 0))
    ⊎ ((wrong : Invalid) × IsRefusedAs insns wrong × (program ≡ reject_all) × (fault ≡ invalid_code wrong))

-- the two halves of that; instructions with which nothing is wrong are not refused
abbrev pub IsSound : List Insn → Type 0
IsSound insns = IsValidProgram insns × ((wrong : Invalid) → IsRefusedAs insns wrong → ⊥)

abbrev pub IsPrepared : List Insn → List Insn → Type 0
IsPrepared insns program =
    (IsSound insns × (program ≡ insns)) ⊎ ((wrong : Invalid) × IsRefusedAs insns wrong × (program ≡ reject_all))

abbrev pub HasFault : List Insn → ℕ → Type 0
HasFault insns fault =
    (IsSound insns × (fault ≡ 0)) ⊎ ((wrong : Invalid) × IsRefusedAs insns wrong × (fault ≡ invalid_code wrong))
