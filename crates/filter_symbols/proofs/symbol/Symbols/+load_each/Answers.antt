use Rattle.std.proofs.Common.{◌≡◌, ℕ, ◌+◌, ◌*◌, ◌^◌, Bool, true, false, refl, sym, ◌∙◌, arith, subst, get_or}
use Rattle.bpfvm.specs.Machine.{number_at}
use Rattle.filter_bdd.proofs.Calls.{map-ok}
use Rattle.filter_meaning.specs.Meaning.{bytes_of}
use Rattle.filter_words.proofs.Nodes.{bit-grown, is_bit_grown, word_grown}
use Rattle.filter_words.specs.Words.{number, word_bit, value}
use Rattle.filter_symbols.specs.Symbols.{StandsFor}
use Rattle.filter_symbols.proofs.Stands.{extends_more, grew_more, symbol_grown}
use Rattle.filter_symbols.proofs.Accesses.{known-next, known-all, reads-known, reads-both, reads-never, map-both}
use Rattle.filter_symbols.proofs.symbol.Symbols.+load_each.Goals as goal

pub returns-then-is-clause-reads : goal.returns-then-is-clause-reads
returns-then-is-clause-reads t c =
    map-ok c.any_symbol.result
    (λ s h. reads-never c.args.self.now c.any_symbol.new.self c.args.access c.args.condition s (λ v. c.if-is.ensures refl v) h)
    c.any_symbol.ensures.inside

pub returns-in_default-clause-reads : goal.returns-in_default-clause-reads
returns-in_default-clause-reads t c =
    let s = c.args.self.now.words.diagrams in
    let none : c.args.place ≡ 0 = omega arith in
    map-ok c.load_at.result
    (λ r h. reads-known c.args.self.now c.load_at.new.self c.args.access c.args.condition c.args.known r
    (λ v said. known-all s c.args.access.index c.args.known c.args.place v none (c.requires.known v said))
    (subst (λ o. StandsFor c.load_at.new.self (λ p. number_at p.captured o (bytes_of c.args.access.size)) r) c.in_ok-offset.ensures h))
    c.load_at.ensures.stands

pub narrow-requires-2-clause-condition : goal.narrow-requires-2-clause-condition
narrow-requires-2-clause-condition t c =
    is_bit_grown c.args.self.now.words.diagrams c.narrow.new.self.words.diagrams c.args.condition c.narrow.ensures.extends.grew c.requires.condition

pub narrow-requires-2-clause-node : goal.narrow-requires-2-clause-node
narrow-requires-2-clause-node t c =
    is_bit_grown c.args.self.now.words.diagrams c.narrow.new.self.words.diagrams (get_or c.args.access.index.bits c.in-Some.below 0) c.narrow.ensures.extends.grew
    (c.requires.index c.in-Some.below (omega arith))

pub load_each-requires : goal.load_each-requires
load_each-requires t c =
    let s = c.args.self.now.words.diagrams in
    let a = c.narrow.new.self.words.diagrams in
    let b = c.narrow-2.new.self.words.diagrams in
    let sa = c.narrow.ensures.extends.grew in
    let ab = c.narrow-2.ensures.extends.grew in
    let sb = grew_more s a b sa ab in
    let index = c.args.access.index in
    let below = c.in-Some.below in
    let low = c.in_ok-low.low in
    let narrowed = c.in_ok-low.ensures.narrowed in
    let next : c.args.place ≡ below + 1 = omega arith in
    let same : c.args.known ≡ c.args.known + 2 ^ below * 0 = omega arith in
    let back = λ (v : ℕ → Bool). bit-grown a b low ab narrowed.inside v in (
      omega arith,
      (
        word_grown s b index sb c.requires.index,
        (
          is_bit_grown a b low ab narrowed.inside,
          (
            omega arith,
            λ v said. known-next s b index below c.args.known c.args.known false v sb c.requires.index (omega arith)
                (subst (λ k. value s v index ≡ c.args.known + number (word_bit s v index) k) next (c.requires.known v (narrowed.first v (sym (back v) ∙ said))))
                (narrowed.second v (sym (back v) ∙ said)) same,
          ),
        ),
      ),
    )

pub load_each-requires-2 : goal.load_each-requires-2
load_each-requires-2 t c =
    let s = c.args.self.now.words.diagrams in
    let a = c.narrow.new.self.words.diagrams in
    let b = c.narrow-2.new.self.words.diagrams in
    let d = c.load_each.new.self.words.diagrams in
    let sa = c.narrow.ensures.extends.grew in
    let ab = c.narrow-2.ensures.extends.grew in
    let bd = c.load_each.ensures.extends.grew in
    let sd = grew_more s b d (grew_more s a b sa ab) bd in
    let index = c.args.access.index in
    let below = c.in-Some.below in
    let high = c.in_ok-high.high in
    let narrowed = c.in_ok-high.ensures.narrowed in
    let bits = get_or index.bits below 0 in
    let next : c.args.place ≡ below + 1 = omega arith in
    let one : c.in_ok-more.more ≡ c.args.known + 2 ^ below * 1 = omega arith in
    let back = λ (v : ℕ → Bool). bit-grown b d high bd narrowed.inside v in
    let kept = λ (v : ℕ → Bool). bit-grown s a c.args.condition sa c.requires.condition v in
    let held = λ (v : ℕ → Bool). bit-grown s a bits sa (c.requires.index below (omega arith)) v in (
      omega arith,
      (
        word_grown s d index sd c.requires.index,
        (
          is_bit_grown b d high bd narrowed.inside,
          (
            omega arith,
            λ v said. known-next s d index below c.args.known c.in_ok-more.more true v sd c.requires.index (omega arith)
                (subst (λ k. value s v index ≡ c.args.known + number (word_bit s v index) k) next
                (c.requires.known v (sym (kept v) ∙ narrowed.first v (sym (back v) ∙ said))))
                (sym (held v) ∙ narrowed.second v (sym (back v) ∙ said)) one,
          ),
        ),
      ),
    )

pub choose-requires-clause-test : goal.choose-requires-clause-test
choose-requires-clause-test t c =
    let s = c.args.self.now.words.diagrams in
    let a = c.narrow.new.self.words.diagrams in
    let b = c.narrow-2.new.self.words.diagrams in
    let d = c.load_each.new.self.words.diagrams in
    let e = c.load_each-2.new.self.words.diagrams in
    is_bit_grown s e (get_or c.args.access.index.bits c.in-Some.below 0)
    (grew_more s d e (grew_more s b d (grew_more s a b c.narrow.ensures.extends.grew c.narrow-2.ensures.extends.grew) c.load_each.ensures.extends.grew) c.load_each-2.ensures.extends.grew)
    (c.requires.index c.in-Some.below (omega arith))

pub choose-requires-clause-zero : goal.choose-requires-clause-zero
choose-requires-clause-zero t c =
    symbol_grown c.load_each.new.self.words.diagrams c.load_each-2.new.self.words.diagrams c.in_ok-zero.zero c.load_each-2.ensures.extends.grew c.in_ok-zero.ensures.reads.inside

pub returns-clause-reads : goal.returns-clause-reads
returns-clause-reads t c =
    let x = c.args.self.now in
    let y = c.narrow-2.new.self in
    let z = c.load_each.new.self in
    let u = c.load_each-2.new.self in
    let w = c.choose.new.self in
    let s = x.words.diagrams in
    let a = c.narrow.new.self.words.diagrams in
    let b = y.words.diagrams in
    let d = z.words.diagrams in
    let index = c.args.access.index in
    let condition = c.args.condition in
    let test = get_or index.bits c.in-Some.below 0 in
    let bits = c.requires.index c.in-Some.below (omega arith) in
    let sa = c.narrow.ensures.extends.grew in
    let ab = c.narrow-2.ensures.extends.grew in
    let low = c.in_ok-low.ensures.narrowed in
    let high = c.in_ok-high.ensures.narrowed in
    map-both c.choose.result
    (λ r inside one off.
    reads-both x y z u w c.args.access condition test c.in_ok-low.low c.in_ok-high.high c.in_ok-zero.zero c.in_ok-one.one r
    (extends_more x c.narrow.new.self y c.narrow.ensures.extends c.narrow-2.ensures.extends) c.load_each.ensures.extends c.load_each-2.ensures.extends c.choose.ensures.extends
    c.requires.index bits
    (λ v said no'. bit-grown a b c.in_ok-low.low ab low.inside v ∙ low.holds v said no')
    (λ v said yes'. bit-grown b d c.in_ok-high.high c.load_each.ensures.extends.grew high.inside v
    ∙ high.holds v (bit-grown s a condition sa c.requires.condition v ∙ said) (bit-grown s a test sa bits v ∙ yes'))
    c.in_ok-zero.ensures.reads c.in_ok-one.ensures.reads inside one off)
    c.choose.ensures.inside c.choose.ensures.one c.choose.ensures.zero
