-- What the proofs of this crate name.
pub use Rattle.pos_counter.proofs.RunLemmas.{machine_runs, one_beside, one_step, runs_from, runs_join}
pub use Rattle.pos_counter.specs.Counters.{IsCounterSound, IsRun, IsStep, IsStepBeside, machine}
pub use Rattle.pos_counter.specs.Machine.{Device, Machine, device_at, hardware_in, hardware_named, kind_in, kind_named}
pub use Rattle.pos_counter.specs.Machine.{machine_with, place_of, with_standing}
pub use Rattle.pos_counter.specs.Steps.{Attach, Attached, NotAttached, Request, Response, Run, Step}
pub use Rattle.pos_counter.specs.Totals.{TotalsPart}
pub use Rattle.pos_counter.specs.declared.counter.Counter.{Counter}
pub use Rattle.pos_disk.specs.declared.device.Disk.{Ghosts as DiskGhosts}
pub use Rattle.pos_profile.specs.Kinds.{kind_of}
pub use Rattle.pos_profile.specs.declared.entry.Entry.{Entry}
pub use Rattle.pos_run.specs.LineRuns.{RunsThrough, session_of}
pub use Rattle.pos_run.specs.Names.{names_of, number_named}
pub use Rattle.pos_run.specs.Runs.{Finishes, FinishesUnflushed, RunsScript, ScriptLeaves, Stops}
pub use Rattle.pos_run.specs.Runs.{carried_steps, device_with, lines_read, new_totals, off_over, script_steps}
pub use Rattle.pos_run.specs.Simulations.{HoldsOnlyIf, IsDeviceFor, IsSimulable, RunsOverProfile, device_for}
pub use Rattle.pos_run.specs.Simulations.{new_device, simulated_all, simulated_devices, simulated_for}
pub use Rattle.pos_run.specs.Simulations.{simulated_machine, state_of, wrapped_by, wrapped_state}
pub use Rattle.pos_run.specs.Spares.{AreSparesSound, IsEmptyAt, IsInService, SpareStates, spare_at, spares_in}
pub use Rattle.pos_run.specs.Spares.{states_in, with_spare}
pub use Rattle.pos_run.specs.Streams.{IsFlushed, Reading, ReadsOn, ReadsScript, ReadsToEnd, ReadsToFault, Streams}
pub use Rattle.pos_run.specs.Streams.{Writing, answers_of, may_read, most_reads, reading_of, streams_of, writing_of}
pub use Rattle.pos_run.specs.Transcript.{RunsLine, Leads, LineBecomes, LinesPrint, ReadingBecomes, Session}
pub use Rattle.pos_run.specs.Transcript.{begun_session, gives_name, rebuke, request_of, session_after, session_with}
pub use Rattle.pos_run.specs.declared.script_reader.ReadState.TheVariants.{Ended, Failed, Open}
pub use Rattle.pos_run.specs.declared.script_reader.ReadState.{ReadState}
pub use Rattle.pos_run.specs.declared.scripts.RunFault.{RunFault}
pub use Rattle.pos_run.specs.declared.wrapped.Wrapped.{Wrapped}
pub use Rattle.pos_script.specs.LineBuffers.{EndsInput, IsLine, StandsFor}
pub use Rattle.pos_script.specs.Lines.{complete_lines, last_line, pieces, unfinished}
pub use Rattle.pos_script.specs.Writing.{Writes}
pub use Rattle.pos_service.specs.Hardware.{Hardware, hardware_of}
pub use Rattle.pos_service.specs.Peripherals.{PeripheralState}
pub use Rattle.pos_service.specs.declared.category.Category.{Category}
pub use Rattle.pos_service.specs.declared.kind.Kind.{Kind}
pub use Rattle.pos_service.specs.declared.peripheral.Peripheral.{Ghosts}
pub use Rattle.pos_streams.proofs.StreamLemmas.{Appends-nil, Appends-trans, Fails-nil, Fails-trans, taken_none}
pub use Rattle.pos_streams.proofs.StreamLemmas.{taken_twice}
pub use Rattle.pos_streams.specs.Streams.{Appends, Fails, Flushes, Given, Taken, end_after, given_after}
pub use Rattle.pos_streams.specs.Streams.{read_fault_after, taken_after, write_fault_after}
pub use Rattle.std.proofs.Common.{All, Bool, IfSome, List, None, Ok, Option, Some, [], ap, append-nil, append_assoc}
pub use Rattle.std.proofs.Common.{arith, cond, drop, false, get_or, inl, inr, is_some, length, length-take, map, min}
pub use Rattle.std.proofs.Common.{option_and_then, option_map, refl, replicate, rules, set, slice_get, subst, suc, sym}
pub use Rattle.std.proofs.Common.{take, true, vec_capacity, vec_len, zero, ℕ, ◌++◌, ◌+◌, ◌-◌, ◌<◌, ◌^◌, ◌∙◌, ◌∷◌, ◌≡◌}
pub use Rattle.std.proofs.Common.{◌≤◌, ◌⊎◌}
pub use Rattle.std.proofs.lemmas.Bool.{false≢true, or_parts}
pub use Rattle.std.proofs.lemmas.List.{drop_all, drop_more, get_or-map, length-map, map-append, map-set, take-map}
pub use Rattle.std.proofs.lemmas.List.{take_all, take_more}
pub use Rattle.std.proofs.lemmas.Slice.Eq.{bytes_eq-Decides}
pub use Rattle.std.specs.Prelude.{Err, IsTrue, MatchResult, Result, bytes_eq, codes}
