-- A write into the log span, up to its sync.
use Rattle.pos_log.proofs.Common.{DiskState, IsSound, KeepsSpan, LeavesOnly, List, Result, ShowsImage, View}
use Rattle.pos_log.proofs.Common.{followed_by, layout_of, length, log_of, weaker, ℕ, ◌≡◌, arith}
use Rattle.pos_image.specs.Spans.{KeepsImage, MayHold, WritesSpan, span_of}

module _ {D : Type 0} (images : View D) (at : ℕ) (bytes : List ℕ) {T E : Type 0} (result : Result T E)
    (old mid : DiskState) (sound : IsSound old images)
    (writes : WritesSpan (span_of images old) (span_of images mid) at bytes result) where
  -- a crash leaves a span that differs within the range of the write only
  keeps_span : (c : List ℕ) → ShowsImage (layout_of images.slot) images.body images.sequence c
      → MayHold (span_of images mid) (log_of c)
      → KeepsSpan (layout_of images.slot) images.body images.sequence at (length bytes) (log_of old.reading) c
  keeps_span c image may = grind arith

  -- at any moment of the write, and of the sync after it
  pub sync_moments : LeavesOnly old mid (KeepsImage images (span_of images mid)) → (now : View D) (disk : D)
      → now ≡ record images { disk = disk } → (new : DiskState) → LeavesOnly mid new (KeepsImage now (span_of now mid))
      → LeavesOnly old new
      (KeepsSpan (layout_of images.slot) images.body images.sequence at (length bytes) (log_of old.reading))
  sync_moments written now disk is new synced = grind (arith, followed_by, weaker, keeps_span)
