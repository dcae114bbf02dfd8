use Rattle.std.proofs.Common.{◌≡◌, ◌^◌, ◌<◌, take}
use Rattle.pos_script.specs.Words.{number_of_digits}
use Rattle.pos_script.proofs.words.sum_digits.Given as goal

abbrev pub invariant-loop-digit : goal.invariant-loop-digit
invariant-loop-digit l = record {
  value : l.number ≡ number_of_digits (take l.digit-index l.digits);
  bound : l.number < 10 ^ l.digit-index;
}
