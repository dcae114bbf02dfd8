use Rattle.std.proofs.Common.{◌≡◌, ◌≤◌, ◌<◌, ◌^◌, ℕ, List, length, true, arith}
use Rattle.std.proofs.Math.Nat.{pow-le-pow_right}
use Rattle.std.proofs.lemmas.Bool.Decides.{nat_tests}
use Rattle.pos_script.specs.Words.{is_digits}
use Rattle.pos_script.proofs.words.sum_digits.Goals as goal

-- a word of digits is short
short : (word : List ℕ) → is_digits word ≡ true → length word ≤ 18
short word e = grind (arith, nat_tests, e)

-- a number of at most so many digits
below : (n i k : ℕ) → n < 10 ^ i → i ≤ k → n < 10 ^ k
below n i k lt le = let p : 10 ^ i ≤ 10 ^ k = pow-le-pow_right {n = 10} (omega arith) le in omega arith

pub overflow_mul-number : goal.overflow_mul-number
overflow_mul-number c =
    let s = short c.args.digits.now c.requires in
    let b : c.loop-digit.number < 10 ^ 17 =
    below _ c.loop-digit.digit-index 17 c.loop-digit.invariant.bound (omega arith) in
    omega arith

pub overflow_add-number : goal.overflow_add-number
overflow_add-number c =
    let s = short c.args.digits.now c.requires in
    let b : c.loop-digit.number < 10 ^ 17 =
    below _ c.loop-digit.digit-index 17 c.loop-digit.invariant.bound (omega arith) in
    omega arith

pub returns-clause-bound : goal.returns-clause-bound
returns-clause-bound c =
    let s = short c.args.digits.now c.requires in
    below _ c.loop-digit.digit-index 18 c.loop-digit.invariant.bound (omega arith)
