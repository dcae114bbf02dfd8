-- The words of specifications and of the standard library that the proofs of this crate cite, passed on from one place.
pub use Rattle.std.proofs.Common.{Err, List, None, Ok, OnOk, Option, Result, Some, [], ap, arith, false, get_or, inl}
pub use Rattle.std.proofs.Common.{inr, length, nat_eq, refl, rules, subst, sym, true, ℕ, ◌++◌, ◌+◌, ◌-◌, ◌<◌, ◌^◌, ◌↔◌}
pub use Rattle.std.proofs.Common.{◌∙◌, ◌∷◌, ◌≡◌, ◌≤◌, ◌⊎◌}
pub use Rattle.std.proofs.lemmas.Bool.{cases_Bool, cases_lt, le-leb, le-ltb, lt-leb, lt-ltb}
pub use Rattle.std.proofs.lemmas.Bool.Decides.{nat_tests}
pub use Rattle.std.specs.Int.{from_be_bytes, w32, w64}
pub use Rattle.std.specs.Prelude.{MatchOption, if◌then◌else◌, ⊤}
pub use Rattle.byteorder.specs.Endian.{big_bytes}
pub use Rattle.pos_disk.proofs.ByteLemmas.{get_or-part, in_range, length-part, length-splice, part-part, part-splice}
pub use Rattle.pos_disk.proofs.ByteLemmas.{splice_elsewhere, spliced_within}
pub use Rattle.pos_disk.proofs.MomentLemmas.{followed_by, goes_on, rest_leaves, started, watches_on, watches_read}
pub use Rattle.pos_disk.proofs.MomentLemmas.{watches_sync, weaker}
pub use Rattle.pos_disk.proofs.RangeLemmas.{kept_part, leaves_within, spliced_same, within_here, within_write}
pub use Rattle.pos_disk.specs.State.{DiskState, InRange, IsAtRest, LeavesOnly, MayLeave, Syncs, Watches, Writes, part}
pub use Rattle.pos_disk.specs.State.{splice}
pub use Rattle.pos_disk.specs.Within.{IsWithin, SameBut}
pub use Rattle.pos_disk.specs.declared.device.Disk.{Ghosts}
pub use Rattle.pos_disk.specs.declared.device.DiskFault.{DiskFault}
pub use Rattle.pos_image.specs.DiskCalls.{CrashClosing, SameAside, Stages, StagesAside}
pub use Rattle.pos_image.specs.Found.{prepared_image}
pub use Rattle.pos_image.specs.Images.{HasEither, HasPrepared, IsBeside, IsReady, IsSound, Prepared, View, image_of}
pub use Rattle.pos_image.specs.Images.{images_of, next_of, prepared_or}
pub use Rattle.pos_image.specs.Layout.{first_of, is_open, layout_of, log_place, log_size, longest, other, slot_size}
pub use Rattle.pos_image.specs.Layout.{start}
unfoldable pub use Rattle.pos_image.specs.Layout.{body_at, layout_on, length_at, sequence_at}
pub use Rattle.pos_image.specs.NewDisk.{HasClosedGates, KeepsRest, no_files}
pub use Rattle.pos_image.specs.Slots.{HasFields, HasHead, HasHeads, IsCurrent, IsFound, IsPrepared}
pub use Rattle.pos_image.specs.Spans.{IsHeld, IsInSpan, IsWritable, KeepsImage, WritesOnly, WritesSpan, span_of}
pub use Rattle.pos_image.specs.Standing.{DamagedImage, HasImage, HasNewImage, IsNewDisk, NoImage, ShowsImage}
pub use Rattle.pos_image.specs.Standing.{current_on, image_in, is_marked, is_tied, log_in}
unfoldable pub use Rattle.pos_image.specs.Standing.{image_on, log_of}
pub use Rattle.pos_image.specs.declared.new_disks.TheConstants.{GATES}
pub use Rattle.pos_image.specs.declared.layout.Layout.{Layout}
pub use Rattle.pos_image.specs.declared.heads.Head.{Head}
pub use Rattle.pos_image.specs.declared.slot.Slot.{Slot}
pub use Rattle.pos_image.specs.declared.slot.Slot.TheVariants.{First, Fourth, Second, Third}
