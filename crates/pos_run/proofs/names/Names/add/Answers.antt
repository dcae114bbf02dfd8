use Rattle.pos_run.proofs.Common.{[], ap, bytes_eq, map, map-append, ◌∙◌, ◌∷◌}
use Rattle.indexmap.proofs.CallerLemmas.{insert_entry-new}
use Rattle.pos_run.proofs.NameLemmas.{lookup_named}
use Rattle.pos_run.proofs.names.Names.add.Goals as goal

pub returns : goal.returns
returns c =
    let map_now = c.args.self.now.numbers in
    let absent = lookup_named (λ k. k.items) map_now.entries c.args.name.items ∙ c.requires.free in
    let entries = rw c.unwrap.ensures at c.insert.ensures.entries in
    ap (map (λ entry. (entry.0.items, entry.1))) (entries ∙ insert_entry-new (λ k l. bytes_eq k.items l.items) map_now
    c.args.name c.args.number absent) ∙ map-append _ map_now.entries ((c.args.name, c.args.number) ∷ [])
