use Rattle.pos_log.proofs.Common.{ap, next_of, rules}
use Rattle.pos_log.proofs.RenewalLemmas.{beside_on}
use Rattle.pos_log.proofs.renewal.renew_images.Goals as goal

pub returns-clause-replaces : goal.returns-clause-replaces
returns-clause-replaces g c = record {
  ready = search rules;
  published = search rules;
  log = search rules;
  any_moment = search rules;
  too_large = search rules;
  exhausted = search rules;
  unchanged = search rules;
  same_slot = search rules;
  device = search rules;
  counts = search rules;
  keeps = search rules;
}

pub returns-clause-rest : goal.returns-clause-rest
returns-clause-rest g c honest =
    let prepares = c.in_ok-prepare_owned.ensures.prepares in
    beside_on (ap (λ v. (next_of v).slot) prepares.prepared) (prepares.rest honest)
    (c.publish.ensures.rest (prepares.keeps.honest.0 honest))
