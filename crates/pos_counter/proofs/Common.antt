-- The words of specifications and of the standard library that most proofs of this crate cite, passed on from one
-- place. Declares nothing.
pub use Rattle.std.proofs.Common.{All, Bool, Err, IfSome, IsSome, IsTrue, List, MatchOption, MatchResult, None, Ok}
pub use Rattle.std.proofs.Common.{Option, Result, Some, [], ap, append_assoc, ap₂, arith, bytes_eq, cond, false, get_or}
pub use Rattle.std.proofs.Common.{inl, inr, is_none, is_some, length, map, nat_abs, not, option_map, refl, replicate}
pub use Rattle.std.proofs.Common.{reverse, rules, set, slice_get, subst, suc, sym, to_z-of_z, true, zero, ℕ, ℤ, ⊎_elim}
pub use Rattle.std.proofs.Common.{◌&&◌, ◌++◌, ◌+◌, ◌<◌, ◌||◌, ◌∙◌, ◌∷◌, ◌≡◌, ◌≤◌, ◌⊎◌}
pub use Rattle.std.proofs.lemmas.Bool.{and_from, and_parts, and_right, cond_both, eq-eqb, false≢true, or_left, or_right}
pub use Rattle.std.proofs.lemmas.List.Elements.{All-cons, All-get_or, All-map, All-nil, All-push, All-set}
pub use Rattle.std.proofs.lemmas.List.{append-nil, get_or_default, length-map, length-replicate, length-set}
pub use Rattle.std.proofs.lemmas.List.{length_push, map-set, map_push, nil_from_length, reverse-append, reverse-reverse}
pub use Rattle.std.proofs.lemmas.List.{set-get_or, with_items_is}
pub use Rattle.std.proofs.lemmas.Option.{IfSome_then, MatchOption-at_some, get_or_from_slice_get, option_and_then_some}
pub use Rattle.std.proofs.lemmas.Option.{same_Some, slice_get-get_or, slice_get-map, slice_get_within}
pub use Rattle.std.specs.List.{AllByRecursion, cons_option, list_any}
pub use Rattle.std.specs.Prelude.{IfErr, IsErrOf, MatchBool, OnErr, filter, find, slice_set, take, vec_capacity, ⊤}
pub use Rattle.std.specs.Prelude.{◌==◌}
pub use mir.Syntax.{w128}
pub use mir.Val.{SFits}
pub use Rattle.pos_common.specs.KeptControls.{Gets, KeptControl, SetsTo, controls_of}
pub use Rattle.pos_dir.specs.Changes.{and_then, outcome, outcome_of_all}
pub use Rattle.pos_dir.specs.declared.fault.DirectoryFault.{DirectoryFault}
pub use Rattle.pos_dir.specs.declared.file.File.{File as PlainFile}
pub use Rattle.pos_dir.specs.declared.file.Limits.{Limits}
pub use Rattle.pos_disk.specs.State.{LeavesOnly, MayLeave, Rises}
pub use Rattle.pos_disk.specs.declared.device.Disk.{Ghosts as DiskGhosts}
pub use Rattle.pos_image.specs.declared.layout.Layout.TheVariants.{Layout1, Layout2}
pub use Rattle.pos_image.specs.declared.layout.Layout.{Layout}
pub use Rattle.pos_profile.specs.Places.{first_of, place_from as registered_from, place_of as registered_place}
pub use Rattle.pos_profile.specs.Registries.{Attaches, Detaches, Device as Registered, HasKindInRange, IsNamed}
pub use Rattle.pos_profile.specs.Registries.{IsServed, devices as registered, names_of, parked, parked_state}
pub use Rattle.pos_profile.specs.Registries.{planned_of, standing_at, vacant, vacant_devices, with_peripheral}
pub use Rattle.pos_profile.specs.declared.entry.Entry.{Entry}
pub use Rattle.pos_service.specs.Calls.{device_found, has_call, is_common, needs_of, takes_memory as own_takes_memory}
pub use Rattle.pos_service.specs.Categories.{is_exclusive, serves}
pub use Rattle.pos_service.specs.Claims.{after_release, claimed_by, holder_at, is_foreign, released_by}
pub use Rattle.pos_service.specs.Controls.{Control, all_listening, closed, delivered, if_listening, is_at, listens}
pub use Rattle.pos_service.specs.Controls.{new_control, open_place, opened, stopped}
pub use Rattle.pos_service.specs.Actions.{ChangesOne, Does as CarriesOut, Follows, MayWantFor, Ordered, changed}
pub use Rattle.pos_service.specs.Actions.{may_want}
pub use Rattle.pos_service.specs.Displays.{Strip, attribute_of, direction_of, fed, is_cursor_place, origin, place_left}
pub use Rattle.pos_service.specs.Displays.{returned, with_run, with_text}
pub use Rattle.pos_service.specs.Hardware.{Effect, Hardware, NothingChanges, TakenAt, TakesIn, hardware_of, reaction}
pub use Rattle.pos_service.specs.Hardware.{signs_in}
pub use Rattle.pos_service.specs.Needs.{table}
pub use Rattle.pos_service.specs.Numbers.{is_index, is_up_to}
pub use Rattle.pos_service.specs.Peripherals.{IsInRange, PeripheralState, signs_of}
pub use Rattle.pos_printer.specs.PrinterCalls.{DueRequest, WorksAt, WorksOn, after_work, due_request_at}
pub use Rattle.pos_service.specs.Properties.{after_set, cursor_after, get_rows, property_of, set_rows, takes}
pub use Rattle.pos_service.specs.Properties.{tells_power}
pub use Rattle.pos_service.specs.Refusals.{Decided, Row, first_refusal}
pub use Rattle.pos_service.specs.declared.answer.Answer.{Answer}
pub use Rattle.pos_service.specs.declared.answer.Value.{Value}
pub use Rattle.pos_service.specs.declared.call.Call.{Call}
pub use Rattle.pos_service.specs.declared.category.Category.{Category}
pub use Rattle.pos_service.specs.declared.context.OpenDevice.TheVariants.{At, Totals as TheTotals}
pub use Rattle.pos_service.specs.declared.context.OpenDevice.{OpenDevice}
pub use Rattle.pos_service.specs.declared.context.OpenTarget.{OpenTarget}
pub use Rattle.pos_service.specs.declared.code.Code.{Code}
pub use Rattle.pos_service.specs.declared.action.ControlUpdate.{ControlUpdate}
pub use Rattle.pos_service.specs.declared.action.Action.{Action}
pub use Rattle.pos_service.specs.declared.display_text.Cursor.{Cursor}
pub use Rattle.pos_service.specs.declared.display_text.Place.{Place}
pub use Rattle.pos_service.specs.declared.input.Input.{Input}
pub use Rattle.pos_service.specs.declared.kind.Kind.{Kind}
pub use Rattle.pos_service.specs.declared.faults.NoMemory.{NoMemory}
pub use Rattle.pos_service.specs.declared.peripheral.Peripheral.{Ghosts}
pub use Rattle.pos_service.specs.declared.property.Property.{Property}
pub use Rattle.pos_service.specs.declared.signs.Signs.{Signs}
pub use Rattle.pos_store.specs.Layouts.{limits_of}
pub use Rattle.pos_store.specs.Standing.{Applies, IsOneOf, LeavesOneOf, Standing, Stands, StandsForEither}
pub use Rattle.pos_store.specs.Standing.{StandsForOneOf}
pub use Rattle.pos_store.specs.StoreViews.{settled as store_settled}
pub use Rattle.pos_totals.specs.Changes.{HasFailed, IsDone, IsOneGroup, PutsGroup, in_doubt}
pub use Rattle.pos_totals.specs.HardTotals.{Change as TotalsChange, File, Mode, Off, Ready, Totals, after_disk_fault}
pub use Rattle.pos_totals.specs.HardTotals.{changes_in, files_of, is_ready, next_sequences, transaction_of}
pub use Rattle.pos_totals.specs.HardTotals.{with_control as with_place, with_files, with_transaction}
pub use Rattle.pos_totals.specs.Recoveries.{AreLeft, FindsFiles, HasTooMany, Recovers as DiskRecovers, RecoversAny}
pub use Rattle.pos_totals.specs.Recoveries.{RecoversOneOf, code_of, numbered}
pub use Rattle.pos_totals.specs.TotalsArrangements.{Arrangement, after_arrangement, claimed as with_claim}
pub use Rattle.pos_totals.specs.TotalsCalls.{Arranges, Asks, Calls, Commits, FileCall, Makes, Nothing, file_call}
pub use Rattle.pos_totals.specs.TotalsCalls.{file_rows}
pub use Rattle.pos_totals.specs.TotalsChanges.{DoesChange, DoesTogether, Done as GroupDone, RunsOut, files_after_all}
pub use Rattle.pos_totals.specs.TotalsChanges.{given_by}
pub use Rattle.pos_totals.specs.TotalsClaims.{is_own_claim, without_control}
pub use Rattle.pos_totals.specs.TotalsCommits.{DoesCommit}
pub use Rattle.pos_totals.specs.TotalsFiles.{with_each}
pub use Rattle.pos_totals.specs.Views.{IsReady, TotalsView, TurnsOff, WhenOff, plain, stored}
pub use Rattle.pos_counter.specs.AtDevices.{CallsAt, IsDoneAt, MayBeCalled}
pub use Rattle.pos_counter.specs.Counters.{GivesOrders, IsCounterSound, IsLeftDuring, IsRun, IsStep, IsStepBeside}
pub use Rattle.pos_counter.specs.Counters.{RunsAnyhow, RunsFrom, Serves, machine, machine as machine_of_counter}
pub use Rattle.pos_counter.specs.Crashes.{BeginsOver, HasBegun, HasRun, KeepsPrefix, KeepsPrefixes, history_until}
pub use Rattle.pos_counter.specs.Crashes.{machine_now}
pub use Rattle.pos_counter.specs.DiskUse.{AsksNothing, ChangesTotalsAlone, IsUndone, SparesDisk, SparesFiles}
pub use Rattle.pos_counter.specs.DiskUse.{after_enabling}
pub use Rattle.pos_counter.specs.Examples.{new_machine, sets_enabled, steps_into_doubt}
pub use Rattle.pos_counter.specs.FileCalls.{CallsFiles, FilesStepped, IsRecovering}
pub use Rattle.pos_counter.specs.History.{FilesEvent, FilesFound, Group, GroupAccepted, GroupInDoubt, History}
pub use Rattle.pos_counter.specs.History.{NothingDone, after_groups, begun, changes_asked, changes_of, decided}
pub use Rattle.pos_counter.specs.History.{event_between, event_of, files_after, has_made, history_along, history_of}
pub use Rattle.pos_counter.specs.History.{history_with, is_same, listed, told, with_settled, without_doubt}
pub use Rattle.pos_counter.specs.KeptDevices.{AreDevicesSound, device_of, devices_in, devices_of, profile_devices}
pub use Rattle.pos_counter.specs.KeptDevices.{totals_name}
pub use Rattle.pos_counter.specs.Leaving.{IsSettled, Leaves, Spared, part_of, part_with}
pub use Rattle.pos_counter.specs.Machine.{Device, Machine, device_at, found_among, found_at, found_under, hardware_in}
pub use Rattle.pos_counter.specs.Machine.{holder_in, holder_of, kind_in, kind_of, machine_with, place_of, signs_at}
pub use Rattle.pos_counter.specs.Machine.{totals_under, with_control, with_totals}
pub use Rattle.pos_counter.specs.Prefixes.{BeginsWith, IsPrefix, IsPrefixAlong, IsPrefixInside, IsPrefixOf}
pub use Rattle.pos_counter.specs.Prefixes.{LeavesPrefix, LeavesPrefixInside, StandsForSome, StartsWith, moved_with}
pub use Rattle.pos_counter.specs.Reopening.{FindsThem, enabling}
pub use Rattle.pos_counter.specs.Responses.{HandsOut, OffersInService, answered, attached, detached, request_of}
pub use Rattle.pos_counter.specs.Responses.{response_of, steps_of}
pub use Rattle.pos_counter.specs.Sparing.{StepSparing}
pub use Rattle.pos_counter.specs.Steps.{Answered, Attach, CallOf, Delivered, Detach, DeviceDoes, Does, DoesOwn}
pub use Rattle.pos_counter.specs.Steps.{FindsWork, HasItsDevice, HasItsKind, IsAttached, IsDetached, IsOpenFor}
pub use Rattle.pos_counter.specs.Steps.{IsPlaceOn, IsServed as IsServedFor, IsSound, OnHardware, OutOfMemory, Request}
pub use Rattle.pos_counter.specs.Steps.{Response, Run, Sets, SetsByRecovery, Step, WorkOn, Worked, claimed, context_of}
pub use Rattle.pos_counter.specs.Steps.{device_action, device_rows, dropped, has_open, is_open_at, is_taken}
pub use Rattle.pos_counter.specs.Steps.{most_controls, own_rows, refusals, released, takes_memory}
pub use Rattle.pos_counter.specs.Totals.{FilesCalled, PutsChanges, Recovered, RecoversNothing, TotalsDo, TotalsPart}
pub use Rattle.pos_counter.specs.Totals.{asks_recovery, is_totals_open, left_after, put_at_once, recovers, settled}
pub use Rattle.pos_counter.specs.declared.counter.Counter.{Counter}
pub use Rattle.pos_service.specs.declared.answer.Answer.TheVariants.{Done, Refused}
pub use Rattle.pos_service.specs.declared.answer.Value.TheVariants.{Empty, Truth}
pub use Rattle.pos_service.specs.declared.kind.Kind.TheVariants.{Display}
pub use Rattle.pos_service.specs.declared.property.Property.TheVariants.{DeviceEnabled}
pub use Rattle.pos_service.specs.declared.call.Call.TheVariants.{Claim, ClearText, Close, DisplayText, DisplayTextAt}
pub use Rattle.pos_service.specs.declared.call.Call.TheVariants.{Get, Open, Release, ScrollText, Set}
pub use Rattle.pos_service.specs.declared.category.Category.TheVariants.{HardTotals}
pub use Rattle.pos_service.specs.declared.code.Code.TheVariants.{Failure}
pub use Rattle.pos_service.specs.declared.action.Action.TheVariants.{Changes, Gives, Queues}
