-- The bytes of the file with a name.
use Rattle.std.specs.Prelude.{ℕ, List, Option, option_and_then, slice_get}
use Rattle.std.specs.Option.{option_map}
use Rattle.pos_dir.specs.Files.{index_of}
use Rattle.pos_dir.specs.declared.file.File.{File}

-- the bytes of the first file with a name
abbrev pub bytes_of : List File → List ℕ → Option (List ℕ)
bytes_of files name =
    option_and_then (λ index. option_map (λ file. file.bytes) (slice_get files index)) (index_of files name)
