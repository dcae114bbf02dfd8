-- What a move of a disk to layout 2 leaves of the history of its files.
use Rattle.std.specs.Prelude.{◌≡◌, ◌⊎◌, ℕ, List, None, Ok}
use Rattle.pos_dir.specs.declared.file.File.{File as PlainFile}
use Rattle.pos_image.specs.declared.layout.Layout.{Layout}
use Rattle.pos_image.specs.declared.layout.Layout.TheVariants.{Layout2}
use Rattle.pos_store.specs.Standing.{Standing, Stands}
use Rattle.pos_counter.specs.History.{Group, History, groups_in, files_after}
use Rattle.pos_counter.specs.Prefixes.{BeginsWith}

-- The history of a disk that was found with the files after these groups, by this layout: they are settled, and none is
-- in doubt.
abbrev pub resumed : Layout → History → List Group → History
resumed layout history groups = record { layout = layout; start = history.start; settled = groups; doubt = None }

-- What is left are the files after a prefix of the history, by its layout or by layout 2. The prefix holds each settled
-- group.
pub record IsPrefixThrough (history : History) (left : Standing) : Type 0 where
  pub prefix : List Group
  pub first : BeginsWith (groups_in history) prefix
  pub holds : BeginsWith prefix history.settled
  pub layout : Layout
  pub by : (layout ≡ history.layout) ⊎ (layout ≡ Layout2)
  pub files : List PlainFile
  pub sequence : ℕ
  pub made : files_after (resumed layout history prefix) prefix ≡ Ok files
  pub stands : left ≡ Stands layout files sequence
