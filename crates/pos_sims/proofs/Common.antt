-- What the proofs of this crate name.
pub use Rattle.pos_service.proofs.StripLemmas.{character_text, first_free, first_full, line_feed_text, place_at}
pub use Rattle.pos_service.proofs.StripLemmas.{strip_at, with_text_append}
pub use Rattle.pos_service.specs.Displays.{Display, Placed, Scrolls, Strip, blank, cell_at, cell_with, fed, last_at}
pub use Rattle.pos_service.specs.Displays.{right_of, rows_above, scrolled_at, shown_at, text_from, with_text}
pub use Rattle.pos_service.specs.Receipts.{CutAt, Item, Line, Printout, SegmentCharacter, Style, after_items}
pub use Rattle.pos_service.specs.Receipts.{begun_segment, characters_in, characters_of, chunks_of, first_alignment}
pub use Rattle.pos_service.specs.Receipts.{in_chunks, in_style, items_from, lines_if_begun, lines_needed, lines_of}
pub use Rattle.pos_service.specs.Receipts.{overflowed, pieces, pieces_in, plain, printed_by, printed_from}
pub use Rattle.pos_service.specs.declared.display_text.Attribute.{Attribute}
pub use Rattle.pos_service.specs.declared.display_text.Direction.{Direction}
pub use Rattle.pos_service.specs.declared.display_text.DisplayCell.{DisplayCell}
pub use Rattle.pos_service.specs.declared.display_text.Place.{Place}
pub use Rattle.pos_service.specs.declared.receipt_text.Piece.{Piece}
pub use Rattle.pos_service.specs.declared.receipt_text.PrintedCharacter.{PrintedCharacter}
pub use Rattle.pos_sims.specs.Rings.{IsAbove, IsBelow, StandsAt, blanked, shown_on, turned}
pub use Rattle.pos_sims.specs.Tapes.{Adds, Extends, Work, add_cut, end_begun, end_line, ended, pieces_asked, printed_on}
pub use Rattle.pos_sims.specs.Tapes.{put, request_on, step, steps, work_of}
pub use Rattle.pos_sims.specs.Windows.{Follows, IsWithin, MovesToEnd, MovesToFront, SameSize, ShiftsToEnd}
pub use Rattle.pos_sims.specs.Windows.{ShiftsToFront, display_of, is_character, with_run_at}
pub use Rattle.pos_sims.specs.declared.text_layout.TextStyle.{TextStyle}
pub use Rattle.std.proofs.Common.{List, [], ap, append_assoc, arith, drop, false, get_or, inl, inr, length, refl}
pub use Rattle.std.proofs.Common.{replicate, rules, set, suc, take, true, zero, ℕ, ◌%◌, ◌&&◌, ◌*◌, ◌++◌, ◌+◌, ◌-◌, ◌<◌}
pub use Rattle.std.proofs.Common.{◌∙◌, ◌∷◌, ◌≡◌, ◌≢◌, ◌≤◌, ◌⊎◌}
pub use Rattle.std.proofs.Math.Nat.{mul-le-mul_right}
pub use Rattle.std.proofs.Math.Seq.{take-add}
pub use Rattle.std.proofs.lemmas.Bool.{and_parts, cases_eq, cases_lt, cases_order, le-leb, lt-leb}
pub use Rattle.std.proofs.lemmas.Bool.Decides.{nat_tests}
pub use Rattle.std.proofs.lemmas.List.{append-nil, drop-append-le, drop-drop, drop_all, drop_at, ext_get_or}
pub use Rattle.std.proofs.lemmas.List.{get_or-append_right, get_or-drop, get_or-map, get_or-replicate, get_or-set_other}
pub use Rattle.std.proofs.lemmas.List.{get_or-set_same, get_or-take, get_or_append_left, get_or_past, length-append}
pub use Rattle.std.proofs.lemmas.List.{length-drop, length-map, length-replicate, length-set, length-take, length_push}
pub use Rattle.std.proofs.lemmas.List.{map_push, take-append-drop, take-append-le, take-replicate, take_at, take_more}
pub use Rattle.std.proofs.lemmas.List.{take_rest, with_items_is}
pub use Rattle.std.specs.List.{list_all}
pub use Rattle.std.specs.Prelude.{Some, if◌then◌else◌, nat_le, nat_lt, ◌==◌}
