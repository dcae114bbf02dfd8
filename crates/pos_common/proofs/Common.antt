-- What the proofs of this crate name.
pub use Rattle.pos_common.specs.KeptControls.{AreCopies, Gets, HasCopies, HasRoom, KeptControl, SetsTo, TurnsInto}
pub use Rattle.pos_common.specs.KeptControls.{controls_of, copies_from, fault_events, input_events, scan_events}
pub use Rattle.pos_common.specs.KeptControls.{sign_events}
pub use Rattle.pos_common.specs.declared.controls.ScanCopy.{ScanCopy}
pub use Rattle.pos_service.specs.Controls.{Control, all_listening, failed, if_listening, listens, queued, read}
pub use Rattle.pos_service.specs.Hardware.{Hardware, NothingChanges, TakesIn, hardware_of}
pub use Rattle.pos_service.specs.Peripherals.{Fed, PeripheralState, Takes, input_fits}
pub use Rattle.pos_service.specs.Properties.{is_in, needs_of, needs_to_set, row_of, value_rows}
pub use Rattle.pos_service.specs.Refusals.{Decided, Row, first_refusal, when}
pub use Rattle.pos_service.specs.Statuses.{heard_signs}
pub use Rattle.pos_service.specs.declared.answer.Answer.{Answer}
pub use Rattle.pos_service.specs.declared.faults.NoMemory.{NoMemory}
pub use Rattle.pos_service.specs.declared.input.Scan.{Scan}
pub use Rattle.std.proofs.Common.{All, Bool, Err, List, Ok, [], ap, arith, drop, get_or, length, length-append, map}
pub use Rattle.std.proofs.Common.{refl, set, subst, sym, take, true, ℕ, ◌++◌, ◌+◌, ◌<◌, ◌∙◌, ◌∷◌, ◌≡◌, ◌≤◌}
pub use Rattle.std.proofs.lemmas.List.{drop-drop, drop-set-lt, drop_more, get_or-map, length-map, map-set, set-get_or}
pub use Rattle.std.proofs.lemmas.List.{take_all, take_more_set}
pub use Rattle.std.proofs.lemmas.List.Elements.{All-drop, All-head, All-push, All-tail}
pub use Rattle.std.proofs.lemmas.Option.{slice_get-get_or}
pub use Rattle.std.specs.Prelude.{IsTrue, MatchOption, MatchResult, None, Option, Result, Some, is_none, not, slice_get}
pub use Rattle.std.specs.Prelude.{slice_set, ◌&&◌}
