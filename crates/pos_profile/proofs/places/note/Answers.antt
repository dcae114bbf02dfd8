use Rattle.pos_profile.proofs.Common.{Global, None, Vec, ap, arith, bytes_eq, first_of, looked_up, lookup, where_same}
use Rattle.pos_profile.proofs.Common.{ℕ, ◌∙◌, ◌≡◌}
use Rattle.indexmap.proofs.CallerLemmas.{insert_entry-new}
use Rattle.pos_profile.proofs.PlaceLemmas.{lookup_more}
use Rattle.pos_profile.proofs.places.note.Goals as goal

pub returns : goal.returns
returns c = λ name.
    let old = c.args.places.now in
    let test = λ (key : Vec ℕ Global). bytes_eq name key.items in
    let absent : looked_up old c.in-Ok.copy.items ≡ None = grind arith in
    ap (lookup test) (c.in-Ok-insert.ensures.entries ∙ insert_entry-new (λ k l. bytes_eq k.items l.items) old
    c.in-Ok.copy c.args.place absent) ∙ lookup_more test old.entries c.in-Ok.copy c.args.place ∙ ap
    (λ noted. first_of (looked_up old name) (where_same name noted c.args.place)) c.in-Ok.ensures.items
