-- What a survey tells of the bytes of a disk.
use Rattle.std.specs.Prelude.{◌≡◌, ℕ, List, length, Option}
use Rattle.pos_image.specs.Layout.{layout_of}
use Rattle.pos_image.specs.Slots.{IsCurrent}
use Rattle.pos_image.specs.Standing.{log_of}
use Rattle.pos_image.specs.declared.layout.Layout.{Layout}
use Rattle.pos_log.specs.Logs.{room_of}
use Rattle.pos_log.specs.Records.{HoldsRecords, tail_of}
use Rattle.pos_store.specs.Layouts.{limits_of}
use Rattle.pos_store.specs.Standing.{Stands, StandsFor}
use Rattle.pos_survey.specs.declared.survey.Survey.{Survey}

-- So many records are in a log span by this layout, and the longest group that fits behind them has so many bytes.
pub record HasRecords (layout : Layout) (span : List ℕ) (records : ℕ) (room : Option ℕ) : Type 0 where
  pub texts : List (List ℕ)
  pub held : HoldsRecords texts span
  pub count : records ≡ length texts
  pub room_is : room ≡ room_of layout (tail_of layout texts)

-- The bytes stand for what is told: for the files, by the layout and with the sequence, and the current image, in its
-- slot, has the records behind it.
pub record Describes (bytes : List ℕ) (it : Survey) : Type 0 where
  pub stands : StandsFor (Stands (layout_of it.slot) it.directory.files it.sequence) bytes
  pub limits : it.directory.limits ≡ limits_of (layout_of it.slot)
  pub body : List ℕ
  pub current : IsCurrent bytes it.slot body it.sequence
  pub log : HasRecords (layout_of it.slot) (log_of bytes) it.records it.room
