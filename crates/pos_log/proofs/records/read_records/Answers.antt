use Rattle.pos_log.proofs.Common.{Bool, Global, Vec, [], ap, arith, cond, map, map-append, not, part, rules, true, ℕ}
use Rattle.pos_log.proofs.Common.{◌++◌, ◌+◌, ◌-◌, ◌∙◌, ◌∷◌, ◌≡◌}
use Rattle.std.specs.Result.{is_ok}
use Rattle.pos_log.proofs.RecordLemmas.{begins_more, open_byte}
use Rattle.pos_log.proofs.ReadLemmas.{none_held}
use Rattle.pos_log.proofs.records.read_records.Goals as goal

pub returns-in_default-clause-damaged : goal.returns-in_default-clause-damaged
returns-in_default-clause-damaged c _ some =
    none_held _ c.loop-alloc.at c.args.span.now c.loop-alloc.invariant (open_byte _ (search rules)) (search rules) some

pub loop-alloc-preserved : goal.loop-alloc-preserved
loop-alloc-preserved c =
    let old = c.loop-alloc.groups.items in
    let one = c.in_ok-group.group in
    let ok : is_ok c.push.result ≡ true = c.is_err.ensures.negation ∙ ap not c.if-is_err.false in
    let items : c.push.new.self.items ≡ old ++ one ∷ [] =
    c.push.ensures.items ∙ ap (λ (b : Bool). cond b (old ++ one ∷ []) old) ok in
    let groups : map (λ (v : Vec ℕ Global). v.items) c.push.new.self.items
    ≡ map (λ (v : Vec ℕ Global). v.items) old ++ one.items ∷ [] =
    ap (map (λ (v : Vec ℕ Global). v.items)) items ∙ map-append (λ (v : Vec ℕ Global). v.items) old (one ∷ []) in
    let size : c.loop-alloc.at + 5 + c.in-Some.length - (c.loop-alloc.at + 5) ≡ c.in-Some.length = omega arith in
    rw groups (begins_more (map (λ (v : Vec ℕ Global). v.items) old) c.loop-alloc.at c.in-Some.length c.args.span.now
    one.items c.loop-alloc.invariant (open_byte _ (search rules)) c.in-Some.ensures
    (c.in_ok-group.ensures.items ∙ ap (λ (k : ℕ). part (c.loop-alloc.at + 5) k c.args.span.now) size))
