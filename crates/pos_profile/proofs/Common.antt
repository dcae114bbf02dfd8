-- What the proofs of this crate name.
pub use Rattle.pos_profile.specs.Categories.{is_totals}
pub use Rattle.pos_profile.specs.Entries.{Contents, entry_of, entry_with, flaky_of, number_of, numbers_of, table_entry}
pub use Rattle.pos_profile.specs.Entries.{truth_of, variation_of}
pub use Rattle.pos_profile.specs.Kinds.{built_entry, kind_of}
pub use Rattle.pos_profile.specs.Mistakes.{IsFlawedList, IsFlawedValue, IsMistake, IsSoundList, contents_of, mistake_at}
pub use Rattle.pos_profile.specs.Places.{IsIndexOf, first_of, looked_up, place_from, place_of, where_same}
pub use Rattle.pos_profile.specs.Profiles.{IsLowest, IsRead, entries_of, is_faulty, is_refused, is_refused_after}
pub use Rattle.pos_profile.specs.Profiles.{is_repeated, is_root, is_totals_entry, names_of}
pub use Rattle.pos_profile.specs.Registries.{Device, HasKindInRange, IsInUse, IsNamed, IsPut, IsRegistrySound, IsServed}
pub use Rattle.pos_profile.specs.Registries.{MayServe, device_of, devices, devices_of, parked, planned_for, planned_of}
pub use Rattle.pos_profile.specs.Registries.{standing_at, vacant, vacant_devices, with_peripheral}
pub use Rattle.pos_profile.specs.Soundness.{AreOrders, IsInItsRange, IsNamedFor, IsSoundEntry, IsSoundProfile}
pub use Rattle.pos_profile.specs.Soundness.{differs_by, number_in}
pub use Rattle.pos_profile.specs.Tables.{allowed, category_for, data_of, failing_in, flaky_in, has_only, is_key, key_of}
pub use Rattle.pos_profile.specs.Tables.{name_for, number_within, values_at}
pub use Rattle.pos_profile.specs.declared.entry.Entry.{Entry}
pub use Rattle.pos_profile.specs.declared.mistake.Reason.{Reason}
pub use Rattle.pos_profile.specs.declared.plans.Planned.{Planned}
pub use Rattle.pos_profile.specs.declared.entry_reader.Numbers.{Numbers}
pub use Rattle.pos_profile.specs.declared.entry.Role.{Role}
pub use Rattle.pos_profile.specs.declared.entry.Role.TheVariants.{Spare}
pub use Rattle.pos_profile.specs.declared.table.Keys.TheVariants.{OfEntry}
pub use Rattle.pos_profile.specs.declared.variation.Variation.{Variation}
pub use Rattle.pos_service.specs.Peripherals.{IsInRange, PeripheralState}
pub use Rattle.pos_service.specs.declared.category.Category.{Category}
pub use Rattle.std.proofs.Common.{All, Bool, Bor, Equal, Global, IfSome, List, None, Option, Ordering, Some, String}
pub use Rattle.std.proofs.Common.{Vec, [], add-one, ap, arith, bytes_eq, cond, drop, false, get_or, length, map}
pub use Rattle.std.proofs.Common.{nat_cmp, not, option_and_then, option_map, refl, set, slice_get, string_bytes, suc}
pub use Rattle.std.proofs.Common.{sym, take, true, vec_capacity, vec_len, zero, ℕ, ℤ, ◌++◌, ◌+◌, ◌-◌, ◌<◌, ◌^◌, ◌∙◌}
pub use Rattle.std.proofs.Common.{◌∷◌, ◌≡◌, ◌≤◌}
pub use Rattle.std.proofs.lemmas.Bool.{and_parts, false≢true}
pub use Rattle.std.proofs.lemmas.Grind.{common_steps}
pub use Rattle.std.proofs.lemmas.List.{append-nil, get_or-map, length-map, length-set, map-append, map-set}
pub use Rattle.std.proofs.lemmas.List.{take-append-le, take_all, take_more}
pub use Rattle.std.proofs.lemmas.Option.{gets, slice_get-map, slice_get_past, slice_get_within}
pub use Rattle.std.specs.List.{AllByRecursion, cons_option, list_all, list_any}
pub use Rattle.std.specs.Map.{keys_of, lookup}
pub use Rattle.std.specs.Prelude.{is_some}
pub use Rattle.toml.specs.Data.{Data, Members, as_table, get_member}
pub use Rattle.toml.specs.View.{items_view, members_view, table_view, view}
pub use Rattle.toml.specs.declared.value.Value.{Value}
pub use borrow.Author.Count.{below_more}
