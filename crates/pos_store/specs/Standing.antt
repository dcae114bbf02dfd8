-- What the bytes of a totals disk stand for, and what a crash of the disk may leave.
use Rattle.std.specs.Prelude.{◌≡◌, ◌≢◌, ◌⊎◌, ℕ, List, [], ◌∷◌, Ok}
use Rattle.pos_disk.specs.State.{DiskState, LeavesOnly, MayLeave}
pub use Rattle.pos_disk.specs.State.{IsBytes}
use Rattle.pos_image.specs.Standing as image
use Rattle.pos_log.specs.Records.{HoldsRecords}
use Rattle.pos_dir.specs.Changes.{outcome_of_all, IsGroup}
use Rattle.pos_dir.specs.Files.{IsDirectory}
use Rattle.pos_dir.specs.Spelling.{spelling, group_spelling}
use Rattle.pos_dir.specs.declared.change.Change.{Change}
use Rattle.pos_dir.specs.declared.file.File.{File}
use Rattle.pos_dir.specs.declared.file.Limits.{Limits}
use Rattle.pos_image.specs.declared.layout.Layout.{Layout}
use Rattle.pos_store.specs.Layouts.{limits_of}

-- no totals, totals that were damaged, or files with the layout and the sequence of their image
pub data Standing : Type 0 where
  Unformatted : Standing
  Damaged : Standing
  Stands : (layout : Layout) (files : List File) (sequence : ℕ) → Standing

-- The text spells a group, which isn't empty, and these are the files after it within the limits.
pub record IsStep (limits : Limits) (files : List File) (text : List ℕ) (next : List File) : Type 0 where
  pub changes : List Change
  pub group : IsGroup changes
  pub some : changes ≢ []
  pub spelled : text ≡ group_spelling changes
  pub outcome : outcome_of_all limits files changes ≡ Ok next

-- the files after the groups that the texts spell, in order
abbrev pub Applies : Limits → List File → List (List ℕ) → List File → Type 0
Applies limits files [] last = files ≡ last
Applies limits files (text ∷ texts) last =
    (next : List File) × IsStep limits files text next × Applies limits next texts last

-- The bytes hold these files by this layout: those that the body of the current image spells, after the groups of the
-- records after it, within the limits of the layout.
pub record HoldsFiles (layout : Layout) (files : List File) (sequence : ℕ) (bytes : List ℕ) : Type 0 where
  pub base : List File
  pub texts : List (List ℕ)
  pub directory : IsDirectory (limits_of layout) base
  pub shows : image.ShowsImage layout (spelling base) sequence bytes
  pub log : HoldsRecords texts (image.log_of bytes)
  pub applies : Applies (limits_of layout) base texts files

-- the bytes stand for this; they are damaged if they have a formatted slot and hold no files
abbrev pub StandsFor : Standing → List ℕ → Type 0
StandsFor Unformatted bytes = image.image_on bytes ≡ image.NoImage
StandsFor Damaged bytes =
    (image.image_on bytes ≢ image.NoImage)
    × ((layout : Layout) (files : List File) (sequence : ℕ) → ¬ (HoldsFiles layout files sequence bytes))
StandsFor (Stands layout files sequence) bytes = HoldsFiles layout files sequence bytes

-- it is one of the candidates
abbrev pub IsOneOf : List Standing → Standing → Type 0
IsOneOf [] standing = ⊥
IsOneOf (candidate ∷ candidates) standing = (standing ≡ candidate) ⊎ IsOneOf candidates standing

-- the bytes stand for one of the candidates
abbrev pub StandsForOneOf : List Standing → List ℕ → Type 0
StandsForOneOf [] bytes = ⊥
StandsForOneOf (candidate ∷ candidates) bytes = StandsFor candidate bytes ⊎ StandsForOneOf candidates bytes

-- a crash at this moment leaves only bytes that stand for one of the candidates
abbrev pub LeavesOneOf : List Standing → DiskState → Type 0
LeavesOneOf candidates disk = (bytes : List ℕ) → MayLeave disk bytes → StandsForOneOf candidates bytes

-- the bytes stand for one of these candidates, or for one of those
abbrev pub StandsForEither : List Standing → List Standing → List ℕ → Type 0
StandsForEither before after bytes = StandsForOneOf before bytes ⊎ StandsForOneOf after bytes

-- Calls lead a disk from what a crash leaves before them to what one leaves after them: a crash at any moment of the
-- calls leaves bytes that stand for one of either, and a crash after them bytes that stand for one of the latter.
pub record Passes (old new : DiskState) (before after : List Standing) : Type 0 where
  pub any_moment : LeavesOnly old new (StandsForEither before after)
  pub now : LeavesOneOf after new
