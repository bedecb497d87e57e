-- Files in memory.
use Rattle.std.specs.Prelude.{ℕ, List, [], ◌∷◌, Option, Some, None, if◌then◌else◌}
use Rattle.std.specs.Str.{bytes_eq}
use Rattle.sg_memory.specs.declared.files.MemoryFile.{MemoryFile}

-- the bytes of the first file of this name
abbrev pub file_of : List MemoryFile → List ℕ → Option (List ℕ)
file_of [] name = None
file_of (file ∷ files) name = if bytes_eq file.name name then Some file.bytes.items
    else file_of files name
