use Rattle.std.proofs.Common.{◌≡◌, ◌+◌, length, map, take}
use Rattle.pos_log.specs.Records.{spelling}
use Rattle.pos_store.specs.Standing.{Applies}
use Rattle.pos_survey.proofs.records.apply_texts.Given as goal

abbrev pub invariant-loop-text : goal.invariant-loop-text
invariant-loop-text l = record {
  limits : l.directory.limits ≡ l.fn.directory.limits;
  applied : Applies l.fn.directory.limits l.fn.directory.files
      (map (λ t. t.items) (take l.text-index l.texts)) l.directory.files;
  place : l.at ≡ l.fn.first + length (spelling (map (λ t. t.items) (take l.text-index l.texts)));
}
