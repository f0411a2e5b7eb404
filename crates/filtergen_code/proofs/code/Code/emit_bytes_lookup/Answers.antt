use Rattle.filter_meaning.specs.Meaning.{bytes_of}
use Rattle.filtergen_code.proofs.Seeking.{bytes-read, decides-sought}
use Rattle.filtergen_code.proofs.code.Code.emit_bytes_lookup.Goals as goal

pub returns : goal.returns
returns c =
    let bytes = c.args.group.now.kind.bytes in
    let choice = rw c.as_slice.ensures.value at c.in_ok-emit_comparisons.ensures in
    let read = rw c.from-index.ensures at c.emit_access_at.ensures 0 in
    decides-sought c.args.group.now.ranges.items c.len.result c.requires.exits (choice.1 c.requires.some) c.len.ensures.value choice.0
    (bytes-read bytes.layer (bytes_of bytes.size) bytes.index c.base_of.ensures read)
