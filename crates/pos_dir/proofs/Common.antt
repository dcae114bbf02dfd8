-- The words of specifications and of the standard library that the proofs of this crate cite, passed on from one place.
pub use Rattle.std.proofs.Common.{Bool, Err, List, None, Ok, Option, Result, Some, [], add-one, ap, append_assoc, arith}
pub use Rattle.std.proofs.Common.{cond, drop, false, get_or, inl, inr, leb, length, length-append, length-drop, lit<}
pub use Rattle.std.proofs.Common.{ltb, map, not, refl, rules, set, subst, suc, sym, take, true, vec_capacity, vec_len}
pub use Rattle.std.proofs.Common.{zero, ℕ, ◌&&◌, ◌*◌, ◌++◌, ◌+◌, ◌-◌, ◌<◌, ◌^◌, ◌||◌, ◌∙◌, ◌∷◌, ◌≡◌, ◌≤◌}
pub use Rattle.std.proofs.Math.Seq.{drop-nil, take-nil}
pub use Rattle.std.proofs.lemmas.Bool.{and_parts, cases_lt, eqb-false, le-ltb, leb-true}
pub use Rattle.std.proofs.lemmas.Bool.Decides.{nat_tests}
pub use Rattle.std.proofs.lemmas.List.{append-nil, at_drop_more, drop-map, drop_at, get_or-append-add, get_or-drop}
pub use Rattle.std.proofs.lemmas.List.{get_or-take, get_or_past, length-map, length-replicate, length-set, length-take}
pub use Rattle.std.proofs.lemmas.List.{map-append, map-set, map_push, nil_from_length, take-append-drop, take-map}
pub use Rattle.std.proofs.lemmas.List.{take_at}
pub use Rattle.std.proofs.lemmas.List.Sums.{sum_by-cons, sum_by-remove, sum_by-set, sum_by_push}
pub use Rattle.std.proofs.lemmas.Option.{get_or_from_slice_get, slice_get-get_or, slice_get-map, slice_get_within}
pub use Rattle.std.proofs.lemmas.Result.{err_from_is_err_and}
pub use Rattle.std.specs.Int.{Width, byte_len, from_be_bytes, to_be_bytes, w16, w32}
pub use Rattle.std.specs.List.{AllByRecursion, flat_map, list_all, list_any}
pub use Rattle.std.specs.Option.{option_map}
pub use Rattle.std.specs.Prelude.{insert, nat_le, remove, replicate, slice_get, slice_set, sum_by}
pub use Rattle.std.specs.Result.{result_err}
pub use Rattle.std.specs.Str.{bytes_eq}
pub use Rattle.pos_dir.specs.Calls.{Applies}
pub use Rattle.pos_dir.specs.ChangeTexts.{change_spelling}
unfoldable pub use Rattle.pos_dir.specs.ChangeTexts.{change_at, fields_at}
pub use Rattle.pos_dir.specs.Changes.{IsChange, IsGroup, and_then, fault_of, flaw_of, least_size_of, outcome}
pub use Rattle.pos_dir.specs.Changes.{outcome_of_all, splice, with_file, write_limit}
pub use Rattle.pos_dir.specs.Fields.{byte_at, name_spelling, number_at, part_at, text_spelling, ◌>>=◌}
unfoldable pub use Rattle.pos_dir.specs.Fields.{name_at, text_at}
pub use Rattle.pos_dir.specs.Files.{AreWritable, DirectoryView, IsDirectory, are_distinct, has_name, is_name}
pub use Rattle.pos_dir.specs.Files.{total_size}
pub use Rattle.pos_dir.specs.Outlines.{Agrees, AreOutlines, Shape, answer_by_size, is_named, shape_of, shape_of_file}
pub use Rattle.pos_dir.specs.Outlines.{size_in}
pub use Rattle.pos_dir.specs.Reading.{end_within, is_end, is_sound}
unfoldable pub use Rattle.pos_dir.specs.Reading.{directory_at, file_at, group_at, items_at}
pub use Rattle.pos_dir.specs.Spelling.{body_limit, change_limit, file_spelling, group_spelling, spelling}
pub use Rattle.pos_dir.specs.Supplies.{supplies_of}
pub use Rattle.pos_dir.specs.declared.change.Change.{Change}
pub use Rattle.pos_dir.specs.declared.fault.DirectoryFault.{DirectoryFault}
pub use Rattle.pos_dir.specs.declared.fault.DirectoryFault.TheVariants.{NoMemory, Range}
pub use Rattle.pos_dir.specs.declared.file.File.{File}
pub use Rattle.pos_dir.specs.declared.file.Limits.{Limits}
pub use Rattle.pos_dir.specs.declared.outlines.Outline.{Outline}
