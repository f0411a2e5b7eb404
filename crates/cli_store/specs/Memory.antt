-- Files in memory, as a list.
use Rattle.std.specs.Prelude.{ℕ, List, [], ◌∷◌, Option, Some, None, if◌then◌else◌, bytes_eq}
use Rattle.cli_store.specs.declared.memory.MemoryFile.{MemoryFile}

-- the bytes of the first file of this name
abbrev pub lookup : List MemoryFile → List ℕ → Option (List ℕ)
lookup [] path = None
lookup (e ∷ es) path = if bytes_eq e.path.now path then Some e.bytes.items else lookup es path

-- each path leads to a place of its own
abbrev pub itself : List ℕ → List ℕ
itself path = path
