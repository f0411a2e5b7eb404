use Rattle.std.proofs.Common.{◌≡◌, ◌++◌, ◌∷◌, length, take}
use Rattle.std.specs.Fmt.{decimal}
use Rattle.std.specs.List.{AllByRecursion, flat_map}
use Rattle.std.specs.String.{string_bytes}
use Rattle.bpfvm.specs.Laws.{HasFields}
use Rattle.bpfvm.specs.Listing.{line_text, line_feed}
use Rattle.bpfvm.proofs.listing.write_listing.Given as goal

abbrev pub invariant-loop-insn : goal.invariant-loop-insn
invariant-loop-insn l = record {
  text : string_bytes l.text ≡ decimal (length l.insns) ++ line_feed ∷ flat_map line_text (take l.insn-index l.insns);
  fields : AllByRecursion HasFields (take l.insn-index l.insns);
}
