-- A listener as contracts see it.
use Rattle.std.specs.Prelude.{◌≡◌, ℕ, ◌<◌, ◌≤◌, ◌⊎◌, List, Option}
use Rattle.bpfvm.specs.declared.insn.Insn.{Insn}
use Rattle.savefile.specs.declared.record.TheConstants.{MAX_SNAP}
use Rattle.listener.specs.declared.buffer.TheConstants.{MAX_CAPACITY}
use Rattle.listener.specs.declared.fault.OpenFault.{OpenFault}
use Rattle.listener.specs.declared.fault.OpenFault.TheVariants.{BadSnap, BadCapacity, NoMemory}
use Rattle.listener.specs.declared.message.Message.{Message}
use Rattle.listener.specs.Messages.{Arrival, kept_by, size}
use Rattle.listener.specs.PlainList.{Terms, PlainList, Event, IsStep}

-- A listener: its program, its snapshot length, the terms of its plain list, and that list.
pub record Listening : Type 0 where
  pub program : List Insn
  pub snap : ℕ
  pub terms : Terms
  pub list : PlainList

abbrev pub listening : List Insn → ℕ → Terms → PlainList → Listening
listening program snap terms list = record { program = program; snap = snap; terms = terms; list = list }

-- what the listener's filter keeps of an arrival
abbrev pub seen_by : Listening → Arrival → Option Message
seen_by l a = kept_by l.program l.snap a

-- a call is one step of the plain list, and changes nothing else
pub record TakesStep (old : Listening) (e : Event) (new : Listening) : Type 0 where
  pub steps : IsStep old.terms old.list e new.list
  pub program : new.program ≡ old.program
  pub snap : new.snap ≡ old.snap
  pub terms : new.terms ≡ old.terms

-- what a listener may be asked for
pub record InRange (snap capacity : ℕ) : Type 0 where
  pub least : 1 ≤ snap
  pub most : snap ≤ MAX_SNAP
  pub room : size snap ≤ capacity
  pub largest : capacity ≤ MAX_CAPACITY

-- why a listener isn't opened; memory runs out only if nothing else refuses it
abbrev pub RefusesOpen : ℕ → ℕ → OpenFault → Type 0
RefusesOpen snap capacity BadSnap = (snap < 1) ⊎ (MAX_SNAP < snap)
RefusesOpen snap capacity BadCapacity = (1 ≤ snap) × (snap ≤ MAX_SNAP) × ((capacity < size snap) ⊎ (MAX_CAPACITY < capacity))
RefusesOpen snap capacity NoMemory = InRange snap capacity
