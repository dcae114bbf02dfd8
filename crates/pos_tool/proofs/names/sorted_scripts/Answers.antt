use Rattle.std.proofs.Common.{List, subst, ℕ}
use Rattle.std.specs.Prelude.{string_bytes}
use Rattle.std.specs.List.Sorted.{IsPermutation}
use Rattle.std.proofs.lemmas.List.Sorted.{IsPermutation-map}
use Rattle.pos_tool.proofs.NameLemmas.{sorted_texts}
use Rattle.pos_tool.specs.Texts.{texts}
use Rattle.pos_tool.proofs.names.sorted_scripts.Goals as goal

pub returns : goal.returns
returns c = record {
  all = subst (λ (scripts : List (List ℕ)). IsPermutation scripts (texts c.sort_unstable.new.self.items))
      c.in_ok-scripts.ensures (IsPermutation-map (λ name. string_bytes name) c.in_ok-scripts.scripts.items
      c.sort_unstable.new.self.items c.sort_unstable.ensures.permutation);
  sorted = sorted_texts c.sort_unstable.new.self.items c.sort_unstable.ensures.sorted;
}
