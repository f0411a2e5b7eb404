use Rattle.std.proofs.Common.{◌∙◌}
use Rattle.cli_cut.proofs.Whole.{apart_of_file, cut_files_if, read_before, spares_file}
use Rattle.cli_cut.proofs.one.cut_accepted.Goals as goal

pub returns-in-Ok-clause-cut : goal.returns-in-Ok-clause-cut
returns-in-Ok-clause-cut g c tells =
    let place = g.F.FileStore.place in
    let text = g.F.FileStore.text in
    let old = c.args.files.now in
    let found = c.program.new.files in
    let checked = c.check_paths.new.files in
    let opened = c.open.new.self in
    let words = c.args.words.now in
    let input = c.args.input in
    let first = c.in_ok-program.ensures.kept in
    let second = c.in_ok-check_paths.ensures.kept in
    let third = c.in-Ok.ensures.kept in
    let (left, (bytes, is)) = c.in-Ok.ensures.bytes tells in
    let read = read_before (place old) (place checked) (text old) (text checked) input.now bytes (second.0 ∙ first.0) (second.1 ∙ first.1) is in
    cut_files_if (place old) (place opened) (text old) (text opened) (text c.cut_opened.new.files) (g.F.FileStore.failed c.cut_opened.new.files) (g.F.FileStore.denied c.cut_opened.new.files) words input c.cut_opened.result c.in_ok-program.program bytes
    (third.0 ∙ second.0 ∙ first.0) (third.1 ∙ second.1 ∙ first.1) (c.cut_opened.ensures.others tells)
    (c.in_ok-program.ensures.given tells)
    (apart_of_file (place old) (place found) (text old) (text found) input.now words.output.now bytes first.0 first.1 (c.in_ok-check_paths.ensures.apart tells) read)
    (spares_file (place old) (place found) (text old) (text found) words c.in_ok-program.program first.0 first.1 (c.in_ok-check_paths.ensures.spares tells) (c.in_ok-program.ensures.given tells))
    read (c.cut_opened.ensures.ends tells bytes (left ∙ is))
