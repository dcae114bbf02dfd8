-- What the proofs of this crate cite of the crates below it and of its own definitions.
pub use Rattle.pos_dir.proofs.DirectoryLemmas.{directory_takes, layout_1_writable, layout_2_writable, no_body}
pub use Rattle.pos_dir.proofs.DirectoryLemmas.{one_spelling}
pub use Rattle.pos_dir.proofs.GroupLemmas.{group_takes, no_group, one_group_spelling}
pub use Rattle.pos_dir.proofs.FieldLemmas.{IsBytes, IsBytes-drop, IsBytes-take}
pub use Rattle.pos_dir.specs.Calls.{Decodes, IsBody}
pub use Rattle.pos_dir.specs.Changes.{IsGroup, fault_of, outcome_of_all}
pub use Rattle.pos_dir.specs.Files.{AreWritable, DirectoryView, IsDirectory}
pub use Rattle.pos_dir.specs.Reading.{directory_at, group_at}
pub use Rattle.pos_dir.specs.Spelling.{body_limit, group_spelling, spelling}
pub use Rattle.pos_dir.specs.declared.change.Change.{Change}
pub use Rattle.pos_dir.specs.declared.fault.DirectoryFault.{DirectoryFault}
pub use Rattle.pos_dir.specs.declared.file.File.{File}
pub use Rattle.pos_dir.specs.declared.file.Limits.{Limits}
pub use Rattle.pos_disk.proofs.MomentLemmas.{seen_before, started, watches_on, weaker}
pub use Rattle.pos_disk.specs.Keeps.{KeepsDisk}
pub use Rattle.pos_disk.specs.State.{CountsNow, DiskState, HasNotFailed, LeavesOnly, MayLeave, Rises, Watches}
pub use Rattle.pos_disk.specs.declared.device.Disk.{Ghosts}
pub use Rattle.pos_image.proofs.PlaceLemmas.{log_some}
pub use Rattle.pos_image.proofs.SpanLemmas.{image_length}
pub use Rattle.pos_image.specs.Images.{IsReady, View}
pub use Rattle.pos_image.specs.Layout.{layout_of, log_place, log_size, longest, sequence_at, start}
pub use Rattle.pos_image.specs.NewDisk.{no_files}
pub use Rattle.pos_image.specs.Standing.{image_on}
pub use Rattle.pos_image.specs.declared.fault.ImageFault.{ImageFault}
pub use Rattle.pos_image.specs.declared.layout.Layout.{Layout}
pub use Rattle.pos_image.specs.declared.layout.Layout.TheVariants.{Layout1, Layout2}
pub use Rattle.pos_log.proofs.DecisionLemmas.{records_or_none}
pub use Rattle.pos_log.proofs.RenewalLemmas.{no_records}
pub use Rattle.pos_log.proofs.UniquenessLemmas.{one_log}
pub use Rattle.pos_log.specs.Logs.{Appends, HasNoRecords, HasOldOrNew, IsLogReady, KeepsRecords, LogView, Renews}
pub use Rattle.pos_log.specs.Logs.{log_over}
pub use Rattle.pos_log.specs.Records.{HoldsRecords, HoldsSome}
pub use Rattle.pos_log.specs.declared.fault.LogFault.{LogFault}
pub use Rattle.pos_store.specs.Commits.{Commits, IsExhausted, IsLast, IsUnmade, fits_behind, left_by, sequence_after}
pub use Rattle.pos_store.specs.Commits.{tail_after}
pub use Rattle.pos_store.specs.Faults.{ReportsImages, ReportsLog, broken}
pub use Rattle.pos_store.specs.Layouts.{limits_of}
pub use Rattle.pos_store.specs.Migrations.{AnswersMigration, Migrates}
pub use Rattle.pos_store.specs.Recoveries.{DiskStandsFor, EndsAt, FindsStanding, Recovers, RecoversOneOf}
pub use Rattle.pos_store.specs.Standing.{Applies, Damaged, HoldsFiles, IsOneOf, IsStep, LeavesOneOf, Passes, Standing}
pub use Rattle.pos_store.specs.Standing.{Stands, StandsFor, StandsForEither, StandsForOneOf, Unformatted}
pub use Rattle.pos_store.specs.StoreViews.{HasItsFiles, LeavesItsFiles, Off, Ready, StoreState, StoreView, settled}
pub use Rattle.pos_store.specs.StoreViews.{view_of}
pub use Rattle.pos_store.specs.declared.fault.StoreFault.{StoreFault}
pub use Rattle.std.proofs.Common.{Bool, Err, Global, IsErr, IsErrOf, IsOk, List, None, Ok, OnOk, Option, Result, Some}
pub use Rattle.std.proofs.Common.{Vec, [], add-one, ap, arith, cond, drop, drop-cons, drop_at, false, get_or, inl, inr}
pub use Rattle.std.proofs.Common.{length, map, refl, rules, subst, sym, take_at, true, ℕ, ⊎_elim, ◌++◌, ◌+◌}
pub use Rattle.std.proofs.Common.{◌<◌, ◌↔◌, ◌∙◌, ◌∷◌, ◌≡◌, ◌≢◌, ◌≤◌, ◌⊎◌}
pub use Rattle.std.specs.List.{AllByRecursion}
