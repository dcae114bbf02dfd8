use Rattle.std.proofs.Common.{◌≡◌, ℕ, ◌+◌, ◌<◌, None, Some, ap, arith, length, refl, rules, subst, sym}
use Rattle.pos_escpos.specs.Replies.{Reader}
use Rattle.pos_wire.specs.Replies.{reader_of}
use Rattle.pos_wire.proofs.ReplyLemmas.{At, at_start, goes_past, one_ends}
use Rattle.pos_wire.proofs.replies.read_reply.Goals as goal

pub loop-place-init : goal.loop-place-init
loop-place-init c = subst (λ (reader : Reader). At (reader_of c.args.asked) reader c.args.bytes.now 0 0)
    (sym c.reader_for-reader.ensures) (at_start c.args.asked c.args.bytes.now)

pub returns-in-Some-clause-reads : goal.returns-in-Some-clause-reads
returns-in-Some-clause-reads c =
    let place = c.loop-place.place in
    let within : place < length c.args.bytes.now = omega arith in
    let told : c.take-received.result.reply ≡ Some c.in-Some.reply = search rules in
    let same : c.from-skipped.result ≡ c.take-received.result.skipped = search rules in
    one_ends c.losses_are_seen.ensures.pieces c.loop-place.invariant within refl c.take-received.ensures.step
    c.take-received.ensures.counts told refl (ap (λ (k : ℕ). c.loop-place.skipped + k) same)

pub loop-place-preserved : goal.loop-place-preserved
loop-place-preserved c =
    let place = c.loop-place.place in
    let within : place < length c.args.bytes.now = omega arith in
    let none : c.take-received.result.reply ≡ None = search rules in
    let same : c.from-skipped.result ≡ c.take-received.result.skipped = search rules in
    subst (λ (k : ℕ). At (reader_of c.args.asked) c.take-received.new.self c.args.bytes.now (place + 1)
    (c.loop-place.skipped + k)) (sym same) (goes_past c.losses_are_seen.ensures.pieces c.loop-place.invariant within
    refl c.take-received.ensures.step c.take-received.ensures.counts none)
