-- What instructions do, by the actions that they are.
use Rattle.std.specs.Prelude.{◌≡◌, ℕ, ◌*◌, ◌+◌, Bool, true, false, List, Option, Some, option_map, bit_and, slice_index, if◌then◌else◌}
use Rattle.bpfvm.specs.declared.insn.Insn.{Insn}
use Rattle.bpfvm.specs.Codes as codes
use Rattle.bpfvm.specs.Machine.{Registers, Effect, Goes, Ends, effect_if, loaded, with_cell, value_in, operand, calculated, holds, number_at}
use Rattle.bpfvm.specs.Validity.{is_return_code}
use Rattle.filter_meaning.specs.Meaning.{arithmetic_of, bytes_of}
use Rattle.filter_diagrams.specs.declared.actions.Register.{Register}
use Rattle.filter_diagrams.specs.declared.actions.Register.TheVariants as registers
use Rattle.filter_diagrams.specs.declared.actions.Operand.{Operand}
use Rattle.filter_diagrams.specs.declared.actions.Operand.TheVariants as operands
use Rattle.filter_diagrams.specs.declared.actions.LoadSource.{LoadSource}
use Rattle.filter_diagrams.specs.declared.actions.LoadSource.TheVariants as sources
use Rattle.filter_diagrams.specs.declared.actions.Test.{Test}
use Rattle.filter_diagrams.specs.declared.actions.Test.TheVariants as tests
use Rattle.filter_diagrams.specs.declared.actions.Action.{Action}
use Rattle.filter_diagrams.specs.declared.actions.Action.TheVariants.{Load, Store, Jump, Branch, ReturnConstant, ReturnAccumulator}

abbrev pub register_of : Register → codes.Register
register_of registers.Accumulator = codes.Accumulator
register_of registers.Index = codes.Index

abbrev pub operand_of : Operand → codes.Operand
operand_of operands.Constant = codes.Constant
operand_of operands.InIndex = codes.InIndex

abbrev pub comparison_of : Test → codes.Comparison
comparison_of tests.Equal = codes.Equal
comparison_of tests.Greater = codes.Greater
comparison_of tests.GreaterOrEqual = codes.GreaterOrEqual
comparison_of tests.AnyBit = codes.AnyBit

-- the number that an instruction loads, if there is one
abbrev pub number_from : LoadSource → List ℕ → ℕ → Insn → Registers → Option ℕ
number_from (sources.Absolute size) packet wire i r = number_at packet i.k (bytes_of size)
number_from (sources.Indirect size) packet wire i r = number_at packet (r.index + i.k) (bytes_of size)
number_from sources.Immediate packet wire i r = Some i.k
number_from sources.Memory packet wire i r = Some (slice_index r.memory i.k)
number_from sources.Length packet wire i r = Some wire
number_from sources.HeaderLength packet wire i r = option_map (λ byte. 4 * bit_and byte 15) (number_at packet i.k 1)
number_from (sources.Calculated o v) packet wire i r = calculated (arithmetic_of o) r.accumulator (operand (operand_of v) i r)
number_from sources.Negated packet wire i r = calculated codes.Subtract 0 r.accumulator
number_from (sources.Register from) packet wire i r = Some (value_in (register_of from) r)

abbrev pub effect_by : Action → List ℕ → ℕ → Insn → Registers → Effect
effect_by (Load to source) packet wire i r = loaded (register_of to) r (number_from source packet wire i r)
effect_by (Store from) packet wire i r = Goes 0 (with_cell i.k (value_in (register_of from) r) r)
effect_by Jump packet wire i r = Goes i.k r
effect_by (Branch test v) packet wire i r = Goes (if holds (comparison_of test) r.accumulator (operand (operand_of v) i r) then i.jt else i.jf) r
effect_by ReturnConstant packet wire i r = Ends i.k
effect_by ReturnAccumulator packet wire i r = Ends r.accumulator

abbrev pub is_return : Action → Bool
is_return (Load to source) = false
is_return (Store from) = false
is_return Jump = false
is_return (Branch test v) = false
is_return ReturnConstant = true
is_return ReturnAccumulator = true

-- an action is what an operation does
pub record IsAction (o : Option codes.Operation) (a : Action) : Type 0 where
  pub returns : is_return_code o ≡ is_return a
  pub effect : (packet : List ℕ) (wire : ℕ) (i : Insn) (r : Registers) → effect_if o packet wire i r ≡ effect_by a packet wire i r
