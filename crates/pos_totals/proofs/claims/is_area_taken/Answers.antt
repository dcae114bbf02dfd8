use Rattle.pos_totals.proofs.Common.{Bool, Files, IsSeen, Mode, Off, Ready, Some, ap, files_in, files_of, is_foreign}
use Rattle.pos_totals.proofs.Common.{is_foreign_claim, length, list_any, mode_of, sym, ℕ, ◌||◌, ◌∙◌, ◌≡◌}
use Rattle.pos_totals.proofs.AreaLemmas.{foreign_tags}
use Rattle.pos_totals.proofs.claims.is_area_taken.Goals as goal

-- another control has claimed a file of those that are seen
foreign_seen : (mode : Mode) (files : Files) (control : ℕ) → IsSeen mode (Some (files_in files))
    → length files.tags.now ≡ length files.directory.now.files → list_any (λ tag. is_foreign control tag.claim)
    files.tags.now ≡ list_any (is_foreign_claim control) (files_of mode)
foreign_seen Off files control seen same = absurd seen
foreign_seen (Ready fs sequence) files control seen same =
    foreign_tags control files.tags.now files.directory.now.files same ∙ ap (list_any (is_foreign_claim control)) seen

pub returns-in-Some : goal.returns-in-Some
returns-in-Some g c =
    let mode = mode_of c.args.holdings.now.handles.given c.args.store.now.state in
    c.has_foreign_claim.ensures ∙ foreign_seen mode c.in-Some.files c.args.control c.in-Some.ensures.seen
    c.in-Some.ensures.files.paired ∙ sym (ap (λ (b : Bool). b || list_any (is_foreign_claim c.args.control)
    (files_of mode)) (sym c.is_foreign.ensures ∙ c.if-is_foreign.false))
