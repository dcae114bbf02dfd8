-- The devices of a profile, as lines of text (abi/README.md, "Questions").
use Rattle.std.specs.Prelude.{◌≡◌, ◌++◌, ◌⊎◌, ℕ, List, [], Option, Some, codes, decimal, flat_map}
use Rattle.pos_service.specs.Categories.{name_of}
use Rattle.pos_service.specs.declared.kind.Kind.{Kind}
use Rattle.pos_service.specs.declared.kind.Kind.TheVariants as kind
use Rattle.pos_profile.specs.Entries.{Contents}
use Rattle.pos_profile.specs.Kinds.{kind_of}
use Rattle.pos_profile.specs.declared.entry.Entry.{Entry}
use Rattle.kijolvar.specs.Codes.{ok}
use Rattle.kijolvar.specs.Profiles.{GivesProfile, RefusesProfile}
use Rattle.kijolvar.specs.Questions.{WritesText}

-- the numbers of a kind, each behind its key in a profile
abbrev pub kind_text : Option Kind → List ℕ
kind_text (Some (kind.Display rows columns)) = codes " rows " ++ decimal rows ++ codes " columns " ++ decimal columns
kind_text (Some (kind.Printer chars near)) = codes " chars " ++ decimal chars ++ codes " near " ++ decimal near
kind_text other = []

-- a device: its name, its category, and the numbers of its kind
abbrev pub device_text : Entry → List ℕ
device_text entry =
    entry.name ++ codes " " ++ name_of entry.category ++ kind_text (kind_of entry) ++ codes "\n"

-- the devices in order
abbrev pub devices_text : List Entry → List ℕ
devices_text entries = flat_map device_text entries

-- The devices of a profile are told.
pub record WritesDevices (profile before after : List ℕ) (needed code : ℕ) : Type 0 where
  pub contents : Contents
  pub gives : GivesProfile profile contents
  pub tells : WritesText (devices_text contents.devices) before after needed ok code

-- The profile is refused, or there was no memory: nothing is written.
pub record WritesNoDevices (profile before after : List ℕ) (needed_before needed code : ℕ) : Type 0 where
  pub why : RefusesProfile profile code
  pub text_stays : after ≡ before
  pub needed_stays : needed ≡ needed_before

-- what is told of the devices of a profile
abbrev pub AnswersDevices : List ℕ → (before after : List ℕ) (needed_before needed code : ℕ) → Type 0
AnswersDevices profile before after needed_before needed code =
    WritesDevices profile before after needed code ⊎ WritesNoDevices profile before after needed_before needed code
