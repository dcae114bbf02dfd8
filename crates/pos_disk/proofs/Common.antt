-- The words of specifications and of the standard library that the proofs of this crate cite, passed on from one place.
pub use Rattle.std.proofs.Common.{Bool, Err, List, Ok, OnOk, Result, [], ap, append_assoc, arith, cond, drop, false}
pub use Rattle.std.proofs.Common.{get_or, inl, inr, length, length-append, refl, replicate, rules, suc, sym, take, true}
pub use Rattle.std.proofs.Common.{zero, ℕ, ⊎_elim, ◌++◌, ◌+◌, ◌-◌, ◌<◌, ◌==◌, ◌^◌, ◌↔◌, ◌∙◌, ◌∷◌, ◌≡◌, ◌≤◌, ◌⊎◌}
pub use Rattle.std.proofs.lemmas.Bool.{cases_lt}
pub use Rattle.std.proofs.lemmas.Bool.Decides.{nat_tests}
pub use Rattle.std.proofs.lemmas.Grind.{common_steps, elements}
pub use Rattle.std.proofs.lemmas.List.{drop-map, drop-take, drop_at, ext_get_or, get_or-append_right}
pub use Rattle.std.proofs.lemmas.List.{get_or_append_left, get_or_default, length-map, length-replicate, map-append}
pub use Rattle.std.proofs.lemmas.List.{take_at}
pub use Rattle.std.specs.List.{list_any, take-map}
pub use Rattle.pos_disk.specs.Fuse.{Loosens, Spoils}
pub use Rattle.pos_disk.specs.Memory.{LeftAt, LeftSince, Memory, Moment, choose, filled, fresh, state_of, synced}
pub use Rattle.pos_disk.specs.Memory.{written}
pub use Rattle.pos_disk.specs.Stamps.{IsKept, IsSaved, loose_by, memory_of, moment_of}
pub use Rattle.pos_disk.specs.State.{DiskState, Elapses, HasCause, InRange, IsAtRest, IsSame, LeavesOnly, MayLeave}
pub use Rattle.pos_disk.specs.State.{Reads, Rises, Syncs, Watches, Writes, part, splice}
pub use Rattle.pos_disk.specs.declared.device.DiskFault.{DiskFault}
pub use base.Logic.{SProp, emp, ent, fst∗, via}
pub use contract.Monad.{Fun}
pub use contract.Running.{tables}
unfoldable pub use contract.Running.{tables_of}
pub use denote.RattleType.{owns}
pub use denote.Shadow.{pure_i}
pub use denote.Triple.Entry.{Args, alive, on_entry}
pub use denote.Triple.Spec.{Meets, triple_of}
pub use denote.Triple.Table.{entered}
pub use denote.Triple.Walked.{Goes-none_ref, Goes-none_slice, Stays, Walks, ends_at, says, stay_none_ref}
pub use denote.Triple.Walked.{stay_none_slice, walk_Meets, walk_of, walked}
pub use mir.Val.{Val, vnil, vptr, vstruct}
pub use prog.Routine.{Routine}
pub use prog.Wp.{Calls, Loops, Tables, WpFn}
pub use seplogic.Ra.Ura.{Ura}
pub use sound.WpLaws.{WpFn-mono}
pub use types.ByLocal.{alloc_all, free_all, look_at, pass_all, sets}
pub use types.Kit.{ !, done, move, qed, raw, suffices, ‵, ◌$◌, ◌∵◌}
pub use types.Logic.{Logic}
pub use types.Part.{agg}
pub use types.Run.{enter, no_more, returns}
