use Rattle.std.proofs.Common.{rules, subst, sym, List, ℕ, ◌≡◌, true}
use Rattle.pos_escpos.specs.DisplayBytes.{can_become, characters_of, make_of, rows_bytes}
use Rattle.pos_escpos.specs.Screens.{ShowsOnly, screen_after}
use Rattle.pos_escpos.proofs.DisplayLemmas.{becomes}
use Rattle.pos_escpos.proofs.display_bytes.rows_bytes.Goals as goal

pub returns-clause-shows : goal.returns-clause-shows
returns-clause-shows c screen showing =
    let old = c.args.before.now in
    let new = c.args.after.now in
    let is = c.args.protocol in
    let sent : c.push_rows.new.out.items ≡ rows_bytes is new.columns 1 new.rows old.cells new.cells = search rules in
    let can : can_become old new ≡ true = search rules in
    subst (λ (bytes : List ℕ). ShowsOnly screen (characters_of new.cells) (screen_after (make_of is new) screen bytes))
    (sym sent) (becomes is old new can screen showing)
