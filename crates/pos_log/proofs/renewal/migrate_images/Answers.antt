use Rattle.pos_log.proofs.Common.{ap, next_of, rules}
use Rattle.pos_log.proofs.RenewalLemmas.{beside_on, both_moments}
use Rattle.pos_log.proofs.renewal.migrate_images.Goals as goal

pub returns-clause-replaces : goal.returns-clause-replaces
returns-clause-replaces g c =
    let prepares = c.in_ok-prepare_layout2.ensures.prepares in
    record {
      ready = search rules;
      published = search rules;
      log = search rules;
      any_moment = λ honest.
          let now = prepares.keeps.honest.0 honest in
          both_moments _ _ _ _ _ _ prepares.prepared (prepares.ready.sound now).at_rest (prepares.log honest)
          (prepares.any_moment honest) (c.publish.ensures.any_moment now);
      too_large = search rules;
      exhausted = search rules;
      unchanged = search rules;
      same_slot = search rules;
      device = search rules;
      counts = search rules;
      keeps = search rules;
    }

pub returns-clause-rest : goal.returns-clause-rest
returns-clause-rest g c honest =
    let prepares = c.in_ok-prepare_layout2.ensures.prepares in
    beside_on (ap (λ v. (next_of v).slot) prepares.prepared) (prepares.rest honest)
    (c.publish.ensures.rest (prepares.keeps.honest.0 honest))
