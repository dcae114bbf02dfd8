-- What the bytes of a profile's file give (docs/reference/profile.md, docs/reference/console.md).
use Rattle.std.specs.Prelude.{◌≡◌, ◌≢◌, ◌+◌, ℕ, List, Option, Some, Result, Ok, Err, ◌==◌, count_by, take, IsUtf8, ⊤}
use Rattle.std.specs.IoError.{error_kind}
use Rattle.std.specs.declared.io.Error.{Error}
use Rattle.std.specs.declared.io.ErrorKind.TheVariants.{OutOfMemory}
use Rattle.std.specs.Str.Lossy.{utf8_valid_len}
use Rattle.toml.specs.Data.{Members}
use Rattle.toml.specs.Parse.{parse_document}
use Rattle.pos_profile.specs.Entries.{Contents}
use Rattle.pos_profile.specs.Mistakes.{Explains}
use Rattle.pos_profile.specs.Profiles.{FromDocument}
use Rattle.pos_profile.specs.declared.profile.ProfileFault.{ProfileFault}
use Rattle.pos_profile.specs.declared.profile.ProfileFault.TheVariants as refusal
use Rattle.pos_program.specs.declared.file_system.FileSystem.{Ghosts}
use Rattle.pos_program.specs.declared.profile_fault.ProfileFileFault.{ProfileFileFault}
use Rattle.pos_program.specs.declared.profile_fault.ProfileFileFault.TheVariants as fault

-- the profile that a document is, or its refusal
abbrev pub Refuses : Option Members → ProfileFault → Type 0
Refuses document why = FromDocument document (Err why)

-- What the document of a text gives: its profile; or, for its refusal, what its writer is told.
abbrev pub Reads : Option Members → Result Contents ProfileFileFault → Type 0
Reads document (Ok contents) = FromDocument document (Ok contents)
Reads document (Err (fault.Unreadable cause)) = ⊥
Reads document (Err (fault.NotUtf8 line)) = ⊥
Reads document (Err (fault.NotToml line error)) = Refuses document refusal.BadText
Reads document (Err (fault.Unsound mistake)) =
    Refuses document (refusal.BadEntry mistake.number) × Explains document (Some mistake)
Reads document (Err (fault.Duplicate name)) = Refuses document (refusal.Duplicate name)
Reads document (Err fault.NoMemory) = ⊤

-- the line in which a place of a text lies, counted from 1
abbrev pub line_at : List ℕ → ℕ → ℕ
line_at text place = count_by (λ byte. byte == 10) (take place text) + 1

-- What the bytes of a file give: that of their text, where they are one; else the line where they stop being one.
abbrev pub ReadsBytes : List ℕ → Result Contents ProfileFileFault → Type 0
ReadsBytes bytes (Err (fault.NotUtf8 line)) = ¬ (IsUtf8 bytes) × (line ≡ line_at bytes (utf8_valid_len bytes))
ReadsBytes bytes result = IsUtf8 bytes × Reads (parse_document bytes) result

-- why a file that can't be read gives no profile: want of memory, or what the system says
abbrev pub ReportsRead : Error → ProfileFileFault → Type 0
ReportsRead cause fault.NoMemory = error_kind cause ≡ OutOfMemory
ReportsRead cause (fault.Unreadable told) = (told ≡ cause) × (error_kind cause ≢ OutOfMemory)
ReportsRead cause other = ⊥

-- what reading a file gives: what its bytes give, or why it can't be read
abbrev pub ReadsFile : Result (List ℕ) Error → Result Contents ProfileFileFault → Type 0
ReadsFile (Ok bytes) result = ReadsBytes bytes result
ReadsFile (Err cause) (Ok contents) = ⊥
ReadsFile (Err cause) (Err why) = ReportsRead cause why

-- what reading the profile in the file at a path gives: what is made of what the file system answers
abbrev pub ReadsProfile : {S F : Type 0} → Ghosts S F → S → List ℕ → Result Contents ProfileFileFault → Type 0
ReadsProfile system them path result =
    (answer : Result (List ℕ) Error) × system.reads them path answer × ReadsFile answer result
