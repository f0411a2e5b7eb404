-- How frames are reported that no filter looks into.
use Rattle.std.specs.Prelude.{List, ℕ, ◌++◌, codes}
use Rattle.std.specs.Fmt.{decimal}
use Rattle.line_text.specs.Texts.{end_of_line}
use Rattle.cli_watch.specs.declared.frames.FrameCounts.{FrameCounts}

-- `{"frames":F,"unseen":U}`
unfoldable pub unseen_json : FrameCounts → List ℕ
unseen_json c = codes "{\"frames\":" ++ decimal c.frames ++ codes ",\"unseen\":" ++ decimal c.unseen ++ codes "}" ++ end_of_line
