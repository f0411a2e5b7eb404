use Rattle.std.proofs.Common.{◌+◌, ◌*◌, ap, sym, refl, ◌∙◌}
use Rattle.std.specs.Prelude.{Some, option_map, bit_and}
use Rattle.bpfvm.specs.Codes as codes
use Rattle.bpfvm.specs.Machine.{number_at, calculated}
use Rattle.filter_meaning.specs.Meaning.{arithmetic_of, bytes_of}
use Rattle.filter_words.specs.Words.{value}
use Rattle.filter_words.proofs.Nodes.{word_grown}
use Rattle.filter_symbols.specs.Packets.{bit_of}
use Rattle.filter_diagrams.specs.declared.actions.Register.TheVariants as registers
use Rattle.filter_diagrams.specs.declared.actions.LoadSource.TheVariants as sources
use Rattle.filter_diagrams.proofs.Builders.{map-ok}
use Rattle.filter_diagrams.proofs.Instructions.{load-as, load-by, register-number, register-word, cell-number, index-first, calculated-number, negated-number}
use Rattle.filter_diagrams.proofs.builder.Builder.load_of.Goals as goal

pub returns-in_ok-load_at-in-Absolute-clause-load : goal.returns-in_ok-load_at-in-Absolute-clause-load
returns-in_ok-load_at-in-Absolute-clause-load c =
    let x = c.args.self.now.symbols in
    let y = c.load_at.new.self in
    let state = c.args.state.now in
    let i = c.args.insn.now in
    let source = sources.Absolute c.in-Absolute.size in
    let s = c.in_ok-load_at-in-Absolute.field-0 in
    load-as x y state c.args.source source i s c.in-Absolute.is
    (load-by x y state source i (λ p. number_at p.captured i.k (bytes_of c.in-Absolute.size)) s (λ p r is. refl) c.in_ok-load_at-in-Absolute.ensures.stands)

pub returns-in_ok-kept-in-Indirect-clause-load : goal.returns-in_ok-kept-in-Indirect-clause-load
returns-in_ok-kept-in-Indirect-clause-load c =
    let x = c.args.self.now.symbols in
    let y = c.load_after.new.self.symbols in
    let state = c.args.state.now in
    let i = c.args.insn.now in
    let source = sources.Indirect c.in-Indirect.size in
    map-ok c.load_after.result
    (λ s h. load-as x y state c.args.source source i s c.in-Indirect.is
    (load-by x y state source i (λ p. number_at p.captured (i.k + value x.words.diagrams (bit_of p) c.in_ok-kept-in-Indirect.field-0) (bytes_of c.in-Indirect.size)) s
    (λ p r is. ap (λ n. number_at p.captured n (bytes_of c.in-Indirect.size))
    (index-first i.k (value x.words.diagrams (bit_of p) c.in_ok-kept-in-Indirect.field-0) r.index
    (register-number x.words.diagrams state registers.Index c.in_ok-kept-in-Indirect.field-0 p r c.in_ok-kept-in-Indirect.ensures is))) h))
    c.load_after.ensures.stands

pub returns-in_ok-number-in-Immediate-clause-load : goal.returns-in_ok-number-in-Immediate-clause-load
returns-in_ok-number-in-Immediate-clause-load c =
    let x = c.args.self.now.symbols in
    let y = c.number.new.self in
    let state = c.args.state.now in
    let i = c.args.insn.now in
    let s = c.in_ok-number-in-Immediate.field-0 in
    load-as x y state c.args.source sources.Immediate i s c.in-Immediate.is
    (load-by x y state sources.Immediate i (λ p. Some i.k) s (λ p r is. refl) c.in_ok-number-in-Immediate.ensures.stands)

pub returns-in_ok-symbol_of-in-Memory-clause-load : goal.returns-in_ok-symbol_of-in-Memory-clause-load
returns-in_ok-symbol_of-in-Memory-clause-load c =
    let x = c.args.self.now.symbols in
    let y = c.symbol_of.new.self.symbols in
    let state = c.args.state.now in
    let i = c.args.insn.now in
    let s = c.in_ok-symbol_of-in-Memory.field-0 in
    let w = c.in_ok-kept-in-Memory.field-0 in
    load-as x y state c.args.source sources.Memory i s c.in-Memory.is
    (load-by x y state sources.Memory i (λ p. Some (value x.words.diagrams (bit_of p) w)) s
    (λ p r is. ap Some (cell-number x.words.diagrams state i.k w p r c.cell.result c.cell.ensures c.in_ok-kept-in-Memory.ensures is))
    c.in_ok-symbol_of-in-Memory.ensures.stands)

pub returns-in_ok-wire_length-in-Length-clause-load : goal.returns-in_ok-wire_length-in-Length-clause-load
returns-in_ok-wire_length-in-Length-clause-load c =
    let x = c.args.self.now.symbols in
    let y = c.wire_length.new.self in
    let state = c.args.state.now in
    let i = c.args.insn.now in
    let s = c.in_ok-wire_length-in-Length.field-0 in
    load-as x y state c.args.source sources.Length i s c.in-Length.is
    (load-by x y state sources.Length i (λ p. Some p.wire) s (λ p r is. refl) c.in_ok-wire_length-in-Length.ensures.stands)

pub returns-in-HeaderLength-clause-load : goal.returns-in-HeaderLength-clause-load
returns-in-HeaderLength-clause-load c =
    let x = c.args.self.now.symbols in
    let y = c.header_length.new.self.symbols in
    let state = c.args.state.now in
    let i = c.args.insn.now in
    map-ok c.header_length.result
    (λ s h. load-as x y state c.args.source sources.HeaderLength i s c.in-HeaderLength.is
    (load-by x y state sources.HeaderLength i (λ p. option_map (λ b. 4 * bit_and b 15) (number_at p.captured i.k 1)) s (λ p r is. refl) h))
    c.header_length.ensures.stands

pub returns-in_ok-calculated-in-Calculated-clause-load : goal.returns-in_ok-calculated-in-Calculated-clause-load
returns-in_ok-calculated-in-Calculated-clause-load c =
    let x = c.args.self.now.symbols in
    let b = c.operand.new.self.symbols in
    let y = c.calculated.new.self.symbols in
    let state = c.args.state.now in
    let i = c.args.insn.now in
    let o = c.in-Calculated.operator in
    let v = c.in-Calculated.operand in
    let s = c.in_ok-calculated-in-Calculated.field-0 in
    let first = c.in_ok-first-in-Calculated.first in
    let second = c.in_ok-second-in-Calculated.second in
    load-as x y state c.args.source (sources.Calculated o v) i s c.in-Calculated.is
    (load-by x y state (sources.Calculated o v) i
    (λ p. calculated (arithmetic_of o) (value b.words.diagrams (bit_of p) first) (value b.words.diagrams (bit_of p) second)) s
    (λ p r is. calculated-number x.words.diagrams b.words.diagrams state o v i first second p r c.operand.ensures.extends.grew c.requires
    c.in_ok-first-in-Calculated.ensures c.in_ok-second-in-Calculated.ensures.operand is)
    c.in_ok-calculated-in-Calculated.ensures.stands)

pub returns-in_ok-calculated-in-Negated-clause-load : goal.returns-in_ok-calculated-in-Negated-clause-load
returns-in_ok-calculated-in-Negated-clause-load c =
    let x = c.args.self.now.symbols in
    let b = c.constant.new.self.diagrams in
    let y = c.calculated-in-Negated.new.self.symbols in
    let state = c.args.state.now in
    let i = c.args.insn.now in
    let s = c.in_ok-calculated-in-Negated.field-0 in
    let number = c.in_ok-number-in-Negated.number in
    let zero' = c.in_ok-zero-in-Negated.zero in
    load-as x y state c.args.source sources.Negated i s c.in-Negated.is
    (load-by x y state sources.Negated i (λ p. calculated codes.Subtract (value b (bit_of p) zero') (value b (bit_of p) number)) s
    (λ p r is. negated-number x.words.diagrams b state number zero' p r c.constant.ensures.grew c.requires c.in_ok-number-in-Negated.ensures c.in_ok-zero-in-Negated.ensures.value is)
    c.in_ok-calculated-in-Negated.ensures.stands)

pub returns-in_ok-symbol_of-in-Register-clause-load : goal.returns-in_ok-symbol_of-in-Register-clause-load
returns-in_ok-symbol_of-in-Register-clause-load c =
    let x = c.args.self.now.symbols in
    let y = c.symbol_of-in-Register.new.self.symbols in
    let state = c.args.state.now in
    let i = c.args.insn.now in
    let s = c.in_ok-symbol_of-in-Register.field-0 in
    let w = c.in_ok-kept-in-Register.field-0 in
    let from = c.in-Register.from in
    load-as x y state c.args.source (sources.Register from) i s c.in-Register.is
    (load-by x y state (sources.Register from) i (λ p. Some (value x.words.diagrams (bit_of p) w)) s
    (λ p r is. ap Some (register-number x.words.diagrams state from w p r (sym c.register.ensures ∙ c.in_ok-kept-in-Register.ensures) is))
    c.in_ok-symbol_of-in-Register.ensures.stands)

pub calculated-requires-in-Negated-clause-second : goal.calculated-requires-in-Negated-clause-second
calculated-requires-in-Negated-clause-second c =
    let a = c.args.self.now.symbols.words.diagrams in
    word_grown a c.constant.new.self.diagrams c.in_ok-number-in-Negated.number c.constant.ensures.grew
    (register-word a c.args.state.now registers.Accumulator c.in_ok-number-in-Negated.number c.in_ok-number-in-Negated.ensures c.requires)
