-- The profile that a till is opened with (docs/reference/profile.md).
use Rattle.std.specs.Prelude.{◌≡◌, ◌≢◌, ◌⊎◌, ℕ, List, [], Ok, Err, IsUtf8}
use Rattle.toml.specs.Parse.{parse_document}
use Rattle.pos_profile.specs.Built.{built}
use Rattle.pos_profile.specs.Entries.{Contents}
use Rattle.pos_profile.specs.Profiles.{FromDocument}
use Rattle.pos_profile.specs.declared.profile.ProfileFault.{ProfileFault}
use Rattle.pos_profile.specs.declared.profile.ProfileFault.TheVariants as refusal
use Rattle.kijolvar.specs.Codes.{bad_profile, no_memory}

-- the profile of these bytes: the built-in one if there are none, else that of their text
abbrev pub GivesProfile : List ℕ → Contents → Type 0
GivesProfile [] contents = contents ≡ built
GivesProfile bytes contents = IsUtf8 bytes × FromDocument (parse_document bytes) (Ok contents)

-- the bytes are no profile: they are no text, or the text is refused, and not for want of memory
abbrev pub IsRefused : List ℕ → Type 0
IsRefused [] = ⊥
IsRefused bytes = ¬ (IsUtf8 bytes)
    ⊎ ((why : ProfileFault) × (why ≢ refusal.NoMemory) × FromDocument (parse_document bytes) (Err why))

-- why these bytes give no profile, by the code: there was no memory, or they are no profile
abbrev pub RefusesProfile : List ℕ → (code : ℕ) → Type 0
RefusesProfile bytes code = (code ≡ no_memory) ⊎ ((code ≡ bad_profile) × IsRefused bytes)
