use Rattle.pos_profile.proofs.Common.{arith, is_key}
use Rattle.pos_profile.proofs.TableLemmas.{has_only_keys, keys_there}
use Rattle.pos_profile.proofs.table.unknown_key.Goals as goal

pub loop-key-init : goal.loop-key-init
loop-key-init c = grind (
  arith,
  has_only_keys (is_key c.args.keys) c.args.table.now.entries,
  keys_there c.args.table.now.entries,
)
