-- What the proofs of this crate cite of the crates below it and of its own definitions.
pub use Rattle.pos_dir.specs.Changes.{outcome, outcome_of_all}
pub use Rattle.pos_dir.specs.Files.{DirectoryView, IsDirectory, are_distinct, has_name, total_size}
pub use Rattle.pos_dir.specs.declared.change.Change.{Change as FileChange}
pub use Rattle.pos_dir.specs.declared.file.File.{File as PlainFile}
pub use Rattle.pos_dir.specs.declared.file.Limits.{Limits}
pub use Rattle.pos_disk.specs.Keeps.{KeepsDisk}
pub use Rattle.pos_disk.specs.State.{DiskState, MayLeave}
pub use Rattle.pos_disk.specs.declared.device.Disk.{Ghosts}
pub use Rattle.pos_image.specs.declared.layout.Layout.{Layout}
pub use Rattle.pos_image.specs.declared.layout.Layout.TheVariants.{Layout1}
pub use Rattle.pos_service.specs.Claims.{is_foreign}
pub use Rattle.pos_service.specs.Numbers.{is_natural, is_up_to}
pub use Rattle.pos_service.specs.Refusals.{Decided, first_refusal}
pub use Rattle.pos_service.specs.declared.answer.Answer.{Answer}
pub use Rattle.pos_service.specs.declared.answer.Value.{Value}
pub use Rattle.pos_service.specs.declared.faults.NoMemory.{NoMemory}
pub use Rattle.pos_store.proofs.CrashLemmas.{settles, stays, wider}
pub use Rattle.pos_store.proofs.RecoveryLemmas.{never_failed}
pub use Rattle.pos_store.specs.Commits.{Commits, IsApplicable, IsExhausted, PutsDown, fits_behind as store_fits_behind}
pub use Rattle.pos_store.specs.Commits.{sequence_after, tail_after}
pub use Rattle.pos_store.specs.Layouts.{limits_of}
pub use Rattle.pos_store.specs.Standing.{LeavesOneOf, Passes, Standing, Stands, StandsFor, StandsForOneOf}
pub use Rattle.pos_store.specs.StoreViews.{LeavesItsFiles, Off as StoreOff, Ready as StoreReady, StoreState as State}
pub use Rattle.pos_store.specs.StoreViews.{StoreView, files_of as store_files_of, mode_of as store_mode_of}
pub use Rattle.pos_store.specs.StoreViews.{settled as store_settled}
pub use Rattle.pos_store.specs.declared.fault.StoreFault.{StoreFault}
pub use Rattle.pos_totals.specs.Buffers.{Buffers, FitsEach, HaveBuffers, IsBuffered, IsEdit, IsGiven, MayHold}
pub use Rattle.pos_totals.specs.Buffers.{transactions_after, with_buffered}
pub use Rattle.pos_totals.specs.Changes.{Changes, CommitsBuffer, HasFailed, IsDone, IsOneGroup, PutsGroup}
pub use Rattle.pos_totals.specs.Changes.{before_or_after, in_doubt, settled}
pub use Rattle.pos_totals.specs.Checks.{ChecksAt, EndsBuffer, FindsFile, Gathers, IsSeen, LetsThroughAt, PutsBuffer}
pub use Rattle.pos_totals.specs.Checks.{answer_of, change_of, file_of, files_in}
pub use Rattle.pos_totals.specs.Edits.{FileEdit, edit_change, edit_in, edited, fits}
pub use Rattle.pos_totals.specs.Groups.{file_change, group_of, index_of}
pub use Rattle.pos_totals.specs.HardTotals.{Change, Create, Delete, Edit, File, IsAmong, Mode, Off, Ready, Rename}
pub use Rattle.pos_totals.specs.HardTotals.{Totals, changes_in, files_of, in_transaction, last_number, next_sequences}
pub use Rattle.pos_totals.specs.HardTotals.{totals_limits, transaction_at, with_files, without_transactions}
pub use Rattle.pos_totals.specs.Numbering.{HasPlace, Numbers, following, given_after, lacks, tags_from, value_after}
pub use Rattle.pos_totals.specs.Recoveries.{FindsFiles, Recovers, numbered, told_as}
pub use Rattle.pos_dir.proofs.OutlineLemmas.{list_any-map, sum_by-map}
pub use Rattle.pos_totals.specs.Tables.{HandleTable, is_meant, new_tag, reclaimed}
pub use Rattle.pos_totals.specs.TotalsArrangements.{Arranges, after_arrangement, arrangement_by, claim_after, claimed}
pub use Rattle.pos_totals.specs.TotalsChanges.{Changed, Done, RunsOut, after_changes, change_rows, files_after}
pub use Rattle.pos_totals.specs.TotalsChanges.{files_after_all, fits_behind, fits_file, given_by, group_by_change}
pub use Rattle.pos_totals.specs.TotalsChanges.{is_create, next_after, next_after_all, number_rows, refusals_of_change}
pub use Rattle.pos_totals.specs.TotalsChanges.{spent_by}
pub use Rattle.pos_totals.specs.TotalsClaims.{foreign_area, is_area_taken, is_foreign_claim, without_control}
pub use Rattle.pos_totals.specs.TotalsCommits.{Committed, group_by_commit, is_of_foreign, is_of_none}
pub use Rattle.pos_totals.specs.TotalsCommits.{refusals_of_commit}
pub use Rattle.pos_totals.specs.TotalsFiles.{free_data, has_file, is_called, is_named, size_in_sum, with_each}
pub use Rattle.pos_totals.specs.Views.{AreApart, AreDistinct, AreHandles, AreTheirFiles, HasDirectory, HasItsFiles}
pub use Rattle.pos_totals.specs.Views.{IsReady, IsSound, LeavesTheirFiles, WhenOff, called, handles_of, mode_of}
pub use Rattle.pos_totals.specs.Views.{numbers_of, plain, plain_file, stored, tag_of, tags_of, tail_of, totals_at}
pub use Rattle.pos_totals.specs.Views.{totals_of, view_of, with_tags}
pub use Rattle.pos_totals.specs.declared.fault.RecoveryFault.{RecoveryFault}
pub use Rattle.pos_totals.specs.declared.files.Files.{Files}
pub use Rattle.pos_totals.specs.declared.files.FoundFile.{FoundFile}
pub use Rattle.pos_totals.specs.declared.claims.ClaimRequest.{ClaimRequest}
pub use Rattle.pos_totals.specs.declared.handles.FileTag.{FileTag}
pub use Rattle.pos_totals.specs.declared.handles.ClaimScope.{ClaimScope}
pub use Rattle.pos_totals.specs.declared.totals.Holdings.{Holdings}
pub use Rattle.pos_totals.specs.declared.update.CheckedUpdate.{CheckedUpdate}
pub use Rattle.std.proofs.Common.{Bool, Err, IfSome, IsErrOf, List, None, Ok, Option, Result, SFits, Some, [], ap}
pub use Rattle.std.proofs.Common.{arith, bytes_eq, cond, drop, eq-eqb, false, filter, find, get_or, inl, inr, is_none}
pub use Rattle.std.proofs.Common.{is_some, leb-true, length, length-append, length-drop, length-take, lit<, map}
pub use Rattle.std.proofs.Common.{nat_abs, nat_eq, negsuc, not, one-add, option_map, pos, refl, remove, replicate}
pub use Rattle.std.proofs.Common.{rules, set, slice_get, slice_set, subst, suc, sym, take, true, zero, ℕ, ℤ, ⊎_elim}
pub use Rattle.std.proofs.Common.{◌&&◌, ◌++◌, ◌+◌, ◌<◌, ◌^◌, ◌||◌, ◌↔◌, ◌∙◌, ◌∷◌, ◌≡◌, ◌≤◌, ◌⊎◌}
pub use Rattle.std.proofs.Math.ListN.{length-replicate}
pub use Rattle.std.proofs.Math.Seq.{drop-nil, take-nil}
pub use Rattle.std.proofs.lemmas.Bool.{and_parts, cases_Bool, eqb-false, not-true}
pub use Rattle.std.proofs.lemmas.Bool.Decides.{nat_tests}
pub use Rattle.std.proofs.lemmas.Int.{to_z-of_z}
pub use Rattle.std.proofs.lemmas.List.{drop-map, get_or_default, length-map, map-append, map-set, take-map}
pub use Rattle.std.proofs.lemmas.List.Edits.{map_over_more}
pub use Rattle.std.proofs.lemmas.List.Folds.{find_at}
pub use Rattle.std.proofs.lemmas.List.Sums.{get_or-le-sum_by, prefix_len-le-length}
pub use Rattle.std.proofs.lemmas.Option.{IfSome_then, get_or_from_slice_get, same_Some, slice_get-get_or, slice_get-map}
pub use Rattle.std.proofs.lemmas.Option.{slice_get_past, slice_get_within}
pub use Rattle.std.proofs.lemmas.Simd.{map-map}
pub use Rattle.std.proofs.lemmas.Slice.Eq.{bytes_eq-Decides}
pub use Rattle.std.specs.Int.{w128}
pub use Rattle.std.specs.List.{AllByRecursion, list_any, position_or_len}
pub use Rattle.std.specs.Prelude.{⊤}
