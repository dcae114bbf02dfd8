-- The words of specifications and of the standard library that the proofs of this crate cite, passed on from one place.
pub use Rattle.std.proofs.Common.{Bool, Err, Global, List, Ok, Result, Vec, [], ap, append_assoc, arith, cond, drop}
pub use Rattle.std.proofs.Common.{drop-cons, false, get_or, inl, inr, length, length-append, length-drop, map, nat_eq}
pub use Rattle.std.proofs.Common.{not, refl, rules, subst, suc, sym, take, true, zero, ℕ, ⊎_elim, ◌++◌, ◌+◌, ◌-◌, ◌<◌}
pub use Rattle.std.proofs.Common.{◌^◌, ◌∙◌, ◌∷◌, ◌≡◌, ◌≤◌, ◌⊎◌}
pub use Rattle.std.proofs.lemmas.Bool.{cases_Bool, cases_lt}
pub use Rattle.std.proofs.lemmas.Bool.Decides.{nat_tests, not_from_Decides}
pub use Rattle.std.proofs.lemmas.List.{append-nil, drop-drop, drop_at, get_or-append-add, get_or-drop, map-append}
pub use Rattle.std.proofs.lemmas.List.{take-append-drop, take_at}
pub use Rattle.std.proofs.lemmas.Nat.{from_be_bytes-to_be_bytes_4}
pub use Rattle.std.specs.Int.{from_be_bytes, to_be_bytes, w32}
pub use Rattle.std.specs.List.{AllByRecursion}
pub use Rattle.std.specs.Prelude.{slice_set}
pub use Rattle.pos_disk.proofs.ByteLemmas.{get_or-part, length-part, part-part, part-splice}
pub use Rattle.pos_disk.proofs.MomentLemmas.{followed_by, weaker}
pub use Rattle.pos_disk.proofs.RangeLemmas.{kept_part, same_on, spliced_same, wider}
pub use Rattle.pos_disk.specs.State.{DiskState, HasNotFailed, LeavesOnly, Rises, part}
pub use Rattle.pos_disk.specs.Within.{SameBut}
pub use Rattle.pos_disk.specs.declared.device.Disk.{Ghosts}
pub use Rattle.pos_image.proofs.PlaceLemmas.{log_some, places, same_layout}
pub use Rattle.pos_image.proofs.SpanLemmas.{image_length, span_length}
pub use Rattle.pos_image.specs.Images.{CountsFaults, HasEither, IsReady, IsSound, Prepared, View, migrated_image}
pub use Rattle.pos_image.specs.Images.{next_image, next_of}
pub use Rattle.pos_image.specs.Layout.{is_open, layout_of, log_place, log_size, slot_size}
pub use Rattle.pos_image.specs.Standing.{HasNewImage, ShowsImage, log_of}
pub use Rattle.pos_log.specs.Logs.{Appends, HasNoRecords, HasOldOrNew, IsLogReady, KeepsRecords, Renews, log_over}
pub use Rattle.pos_log.specs.Records.{BeginsWith, HasLength, HoldsMore, HoldsRecords, HoldsSome, IsShort}
pub use Rattle.pos_log.specs.Records.{record_spelling, spelling, text_behind_gate}
pub use Rattle.pos_log.specs.Writing.{KeepsSpan, PutsBytes}
