use Rattle.std.proofs.Common.{◌≡◌, ℕ, ◌+◌, ◌-◌, ◌∷◌, length, take, drop, ap, sym, ◌∙◌, subst, arith, length-take, length-drop}
use Rattle.listener.specs.Messages.{size}
use Rattle.listener.specs.Decoded.{AreRecords, messages_in}
use Rattle.listener.proofs.Decoding.{split_records, read_at, some_in, none_in, message_is, after_is}
use Rattle.listener.proofs.records.RecordsIterator.next.Goals as goal

pub returns-then-is_empty-clause-steps : goal.returns-then-is_empty-clause-steps
returns-then-is_empty-clause-steps c =
    let e = sym c.self.view_is ∙ none_in c.self.inside.rest.now _ c.is_empty.ensures c.if-is_empty.true in (e, e)

pub slice_bounds-read_u32-count : goal.slice_bounds-read_u32-count
slice_bounds-read_u32-count c =
    let s = split_records c.self.inside.rest.now c.self.invariant (some_in c.self.inside.rest.now _ c.is_empty.ensures c.if-is_empty.false) in omega (arith, s.fits)

pub slice_bounds-read_u32-start : goal.slice_bounds-read_u32-start
slice_bounds-read_u32-start c =
    let s = split_records c.self.inside.rest.now c.self.invariant (some_in c.self.inside.rest.now _ c.is_empty.ensures c.if-is_empty.false) in omega (arith, s.fits)

pub read_u32-kept-requires : goal.read_u32-kept-requires
read_u32-kept-requires c =
    let t = c.self.inside.rest.now in
    let s = split_records t c.self.invariant (some_in t _ c.is_empty.ensures c.if-is_empty.false) in
    omega (arith, s.fits, length-drop 8 t, length-take (length t - 8) (drop 8 t))

pub split_at-requires : goal.split_at-requires
split_at-requires c =
    let t = c.self.inside.rest.now in
    let s = split_records t c.self.invariant (some_in t _ c.is_empty.ensures c.if-is_empty.false) in
    let k = read_at 4 8 c.read_u32-kept.result t c.read_u32-kept.ensures in
    omega (arith, c.size.ensures, ap size k, s.fits)

pub invariant_of-self : goal.invariant_of-self
invariant_of-self c =
    let t = c.self.inside.rest.now in
    let s = split_records t c.self.invariant (some_in t _ c.is_empty.ensures c.if-is_empty.false) in
    let k = read_at 4 8 c.read_u32-kept.result t c.read_u32-kept.ensures in
    subst AreRecords (after_is t c.read_u32-kept.result k ∙ ap (λ (n : ℕ). drop n t) (sym c.size.ensures) ∙ sym c.split_at.ensures.back) s.after

pub returns-clause-steps : goal.returns-clause-steps
returns-clause-steps c =
    let t = c.self.inside.rest.now in
    let kept = c.read_u32-kept.result in
    let s = split_records t c.self.invariant (some_in t _ c.is_empty.ensures c.if-is_empty.false) in
    let k = read_at 4 8 kept t c.read_u32-kept.ensures in
    let m = message_is t c.read_u32-2.result c.read_u32-3.result kept c.read_u32-4.result c.read_u64.result c.read_u32.result (take ((32 + kept) - 32) (drop 32 t))
    c.read_u32-2.ensures (read_at 4 4 c.read_u32-3.result t c.read_u32-3.ensures) k (read_at 4 12 c.read_u32-4.result t c.read_u32-4.ensures)
    (read_at 8 16 c.read_u64.result t c.read_u64.ensures) (read_at 4 24 c.read_u32.result t c.read_u32.ensures)
    (ap (λ (n : ℕ). take n (drop 32 t)) (let e : (32 + kept) - 32 ≡ kept = omega arith in e)) in
    sym c.self.view_is ∙ s.is ∙ (λ i. m i ∷ messages_in ((after_is t kept k ∙ ap (λ (n : ℕ). drop n t) (sym c.size.ensures) ∙ sym c.split_at.ensures.back) i))

pub returns-clause-goes : goal.returns-clause-goes
returns-clause-goes c = let e = ap length (returns-clause-steps c) in omega (arith, e)
