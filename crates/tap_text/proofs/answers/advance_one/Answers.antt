use Rattle.std.proofs.Common.{◌≡◌, ◌<◌, ◌≤◌, length, rules, arith}
use Rattle.tap_text.proofs.Answering.{set_advanced, none_advanced}
use Rattle.tap_text.proofs.answers.advance_one.Goals as goal

pub returns-then-l-len : goal.returns-then-l-len
returns-then-l-len c =
    let all : c.len.result ≡ length c.args.all.now.items = search rules in
    let inside : c.args.l < length c.args.all.now.items = omega (arith, c.if-l-len.true, all) in
    set_advanced c.args.n c.args.l c.args.all.now.items _ _ inside c.index_mut-one.ensures.value c.advance.ensures

pub returns-else-l-len : goal.returns-else-l-len
returns-else-l-len c =
    let all : c.len.result ≡ length c.args.all.now.items = search rules in
    let outside : length c.args.all.now.items ≤ c.args.l = omega (arith, c.if-l-len.false, all) in
    none_advanced c.args.n c.args.l c.args.all.now.items outside
