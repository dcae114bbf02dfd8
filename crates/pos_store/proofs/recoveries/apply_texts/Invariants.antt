use Rattle.pos_store.proofs.Common.{Applies, File, List, drop, map, ◌≡◌}
use Rattle.pos_store.proofs.recoveries.apply_texts.Given as goal

abbrev pub invariant-loop-text : goal.invariant-loop-text
invariant-loop-text l = record {
  limits : l.directory.limits ≡ l.fn.directory.limits;
  onward : (last : List File)
      → Applies l.fn.directory.limits l.directory.files (map (λ t. t.items) (drop l.text-index l.texts)) last
      → Applies l.fn.directory.limits l.fn.directory.files (map (λ t. t.items) l.texts) last;
  back : (last : List File) → Applies l.fn.directory.limits l.fn.directory.files (map (λ t. t.items) l.texts) last
      → Applies l.fn.directory.limits l.directory.files (map (λ t. t.items) (drop l.text-index l.texts)) last;
}
