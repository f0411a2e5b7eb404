use Rattle.std.proofs.Common.{◌≡◌, ◌+◌, get_or, Some, refl, sym, ap, ◌∙◌, subst, rules}
use Rattle.std.proofs.lemmas.Option.{slice_get-get_or}
use Rattle.std.specs.List.{slice_get}
use Rattle.bpfvm.specs.declared.insn.Insn.{Insn}
use Rattle.filter_diagrams.specs.declared.spots.Spot.{Spot}
use Rattle.filter_diagrams.specs.Walks.{IsStepOf}
use Rattle.filter_diagrams.specs.States.{AreWords}
use Rattle.filter_diagrams.proofs.States.{words_grown}
use Rattle.filter_diagrams.proofs.Walks.{nodes_grown, walk-on, walk-branch, walk-end}
use Rattle.filter_diagrams.proofs.builder.Builder.node_of.Goals as goal

pub returns-in_ok-both-in-On-clause-node : goal.returns-in_ok-both-in-On-clause-node
returns-in_ok-both-in-On-clause-node c =
    let g = c.args.self.now.symbols in
    let h = c.step.new.self.symbols in
    let insns = c.args.insns.now in
    let here = c.args.spot.now in
    let insn : Insn = get_or insns here.place (record { code = 0; jt = 0; jf = 0; k = 0 }) in
    let at : slice_get insns here.place ≡ Some insn = slice_get-get_or insns here.place (record { code = 0; jt = 0; jf = 0; k = 0 }) (search rules) in
    let step = subst (IsStepOf g h here.state insn c.in-Some.action) c.in-On.is c.in_ok-step.ensures.step in
    let next : Spot = record { place = here.place + 1 + c.in-On.passed; state = c.in-On.state } in
    let nodes = nodes_grown g h insns c.args.spots.now c.step.ensures.extends c.requires.spots in
    let rest = c.in-Some-known.ensures h insns nodes step.inside.1 in
    walk-on g h c.both.new.self.symbols insns here next insn c.in-Some.action c.in-On.guard c.in-On.passed c.in-Some-known.rest c.in_ok-both-in-On.field-0
    c.step.ensures.extends c.both.ensures.extends at refl c.requires.words c.in-Some.ensures step rest c.in_ok-both-in-On.ensures.means

pub returns-in_ok-choice-in-Branch-clause-node : goal.returns-in_ok-choice-in-Branch-clause-node
returns-in_ok-choice-in-Branch-clause-node c =
    let g = c.args.self.now.symbols in
    let h = c.step.new.self.symbols in
    let insns = c.args.insns.now in
    let here = c.args.spot.now in
    let insn : Insn = get_or insns here.place (record { code = 0; jt = 0; jf = 0; k = 0 }) in
    let at : slice_get insns here.place ≡ Some insn = slice_get-get_or insns here.place (record { code = 0; jt = 0; jf = 0; k = 0 }) (search rules) in
    let step = subst (IsStepOf g h here.state insn c.in-Some.action) c.in-Branch.is c.in_ok-step.ensures.step in
    let nodes = nodes_grown g h insns c.args.spots.now c.step.ensures.extends c.requires.spots in
    let words = words_grown g.words.diagrams h.words.diagrams here.state c.step.ensures.extends.grew c.requires.words in
    let one = c.at-holds.result in
    let other = c.at-fails.result in
    let yes' = c.in-Some-known-2.ensures h insns nodes (subst (AreWords h.words.diagrams) (sym c.at-holds.ensures.state) words) in
    let no' = c.in-Some-known-3.ensures h insns nodes (subst (AreWords h.words.diagrams) (sym c.at-fails.ensures.state) words) in
    walk-branch g h c.choice.new.self.symbols insns here one other insn c.in-Some.action c.in-Branch.test c.in-Some-known-2.yes c.in-Some-known-3.no c.in_ok-choice-in-Branch.field-0
    c.step.ensures.extends c.choice.ensures.extends at
    (c.at-holds.ensures.place ∙ ap (λ n. here.place + 1 + n) c.from.ensures) c.at-holds.ensures.state
    (c.at-fails.ensures.place ∙ ap (λ n. here.place + 1 + n) c.from-in-Branch.ensures) c.at-fails.ensures.state
    c.requires.words c.in-Some.ensures step yes' no' c.in_ok-choice-in-Branch.ensures.inside c.in_ok-choice-in-Branch.ensures.says

pub returns-in-End-clause-node : goal.returns-in-End-clause-node
returns-in-End-clause-node c =
    let g = c.args.self.now.symbols in
    let h = c.step.new.self.symbols in
    let insns = c.args.insns.now in
    let here = c.args.spot.now in
    let insn : Insn = get_or insns here.place (record { code = 0; jt = 0; jf = 0; k = 0 }) in
    let at : slice_get insns here.place ≡ Some insn = slice_get-get_or insns here.place (record { code = 0; jt = 0; jf = 0; k = 0 }) (search rules) in
    let step = subst (IsStepOf g h here.state insn c.in-Some.action) c.in-End.is c.in_ok-step.ensures.step in
    walk-end g h insns here insn c.in-Some.action c.in-End.node c.step.ensures.extends at c.requires.words c.in-Some.ensures step

pub both-requires-clause-second : goal.both-requires-clause-second
both-requires-clause-second c =
    let g = c.args.self.now.symbols in
    let h = c.step.new.self.symbols in
    let insns = c.args.insns.now in
    let here = c.args.spot.now in
    let insn : Insn = get_or insns here.place (record { code = 0; jt = 0; jf = 0; k = 0 }) in
    let step = subst (IsStepOf g h here.state insn c.in-Some.action) c.in-On.is c.in_ok-step.ensures.step in
    (c.in-Some-known.ensures h insns (nodes_grown g h insns c.args.spots.now c.step.ensures.extends c.requires.spots) step.inside.1).inside

pub choice-requires-clause-yes : goal.choice-requires-clause-yes
choice-requires-clause-yes c =
    let g = c.args.self.now.symbols in
    let h = c.step.new.self.symbols in
    let insns = c.args.insns.now in
    let words = words_grown g.words.diagrams h.words.diagrams c.args.spot.now.state c.step.ensures.extends.grew c.requires.words in
    (c.in-Some-known-2.ensures h insns (nodes_grown g h insns c.args.spots.now c.step.ensures.extends c.requires.spots)
    (subst (AreWords h.words.diagrams) (sym c.at-holds.ensures.state) words)).inside

pub choice-requires-clause-no : goal.choice-requires-clause-no
choice-requires-clause-no c =
    let g = c.args.self.now.symbols in
    let h = c.step.new.self.symbols in
    let insns = c.args.insns.now in
    let words = words_grown g.words.diagrams h.words.diagrams c.args.spot.now.state c.step.ensures.extends.grew c.requires.words in
    (c.in-Some-known-3.ensures h insns (nodes_grown g h insns c.args.spots.now c.step.ensures.extends c.requires.spots)
    (subst (AreWords h.words.diagrams) (sym c.at-fails.ensures.state) words)).inside

pub returns-in_default-known-2-clause-node : goal.returns-in_default-known-2-clause-node
returns-in_default-known-2-clause-node c =
    let g = c.args.self.now.symbols.words.diagrams in
    let h = c.step.new.self.symbols.words.diagrams in
    subst (AreWords h) (sym c.at-holds.ensures.state) (words_grown g h c.args.spot.now.state c.step.ensures.extends.grew c.requires.words)

pub returns-in_default-known-3-clause-node : goal.returns-in_default-known-3-clause-node
returns-in_default-known-3-clause-node c =
    let g = c.args.self.now.symbols.words.diagrams in
    let h = c.step.new.self.symbols.words.diagrams in
    subst (AreWords h) (sym c.at-fails.ensures.state) (words_grown g h c.args.spot.now.state c.step.ensures.extends.grew c.requires.words)
