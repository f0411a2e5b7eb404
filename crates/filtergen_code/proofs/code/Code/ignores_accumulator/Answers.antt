use Rattle.std.proofs.Common.{◌≡◌, ◌⊎◌, inl, inr, refl}
use Rattle.bpfvm.specs.Codes.{Accumulator, LoadAbsolute, LoadLength, ReturnConstant, operation_of}
use Rattle.filtergen_code.specs.ValueLists.{IgnoresAccumulator}
use Rattle.filtergen_code.proofs.Beyond.{loads, measures, returns, fresh-there}
use Rattle.filtergen_code.proofs.code.Code.ignores_accumulator.Goals as goal

pub returns-in-32 : goal.returns-in-32
unfolding operation_of
returns-in-32 c = by_code c.in-32.is
  where
    by_code : (c.insn_at.result.code ≡ 6) ⊎ ((c.insn_at.result.code ≡ 32) ⊎ ((c.insn_at.result.code ≡ 40) ⊎ ((c.insn_at.result.code ≡ 48) ⊎ (c.insn_at.result.code ≡ 128)))) → IgnoresAccumulator c.args.place c.args.self.now
    by_code (inl is) = fresh-there c.args.place c.args.self.now c.insn_at.result 6 ReturnConstant c.insn_at.ensures.here is refl returns
    by_code (inr (inl is)) = fresh-there c.args.place c.args.self.now c.insn_at.result 32 (LoadAbsolute 4) c.insn_at.ensures.here is refl (loads 4)
    by_code (inr (inr (inl is))) = fresh-there c.args.place c.args.self.now c.insn_at.result 40 (LoadAbsolute 2) c.insn_at.ensures.here is refl (loads 2)
    by_code (inr (inr (inr (inl is)))) = fresh-there c.args.place c.args.self.now c.insn_at.result 48 (LoadAbsolute 1) c.insn_at.ensures.here is refl (loads 1)
    by_code (inr (inr (inr (inr is)))) = fresh-there c.args.place c.args.self.now c.insn_at.result 128 (LoadLength Accumulator) c.insn_at.ensures.here is refl measures
