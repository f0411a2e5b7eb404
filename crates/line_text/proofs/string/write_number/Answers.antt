use Rattle.std.proofs.Common.{◌/◌, ◌%◌, ◌<◌, arith, false, rules}
use Rattle.std.proofs.lemmas.Fmt.{hex_byte}
use Rattle.line_text.proofs.string.write_number.Goals as goal

pub returns : goal.returns
returns g c =
    let high : c.args.character / 256 < 256 = omega (arith, c.requires) in
    let low : c.args.character % 256 < 256 = omega arith in
    search (rules, hex_byte false (c.args.character / 256) high, hex_byte false (c.args.character % 256) low)
