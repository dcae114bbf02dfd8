use Rattle.pos_counter.proofs.Common.{◌++◌, All, All-nil, All-push, HandsOut, IsRun, List, OffersInService, [], ap}
use Rattle.pos_counter.proofs.Common.{append_assoc, arith, length, length_push, refl}
use Rattle.pos_counter.proofs.Common.{reverse, reverse-append, reverse-reverse}
use Rattle.pos_counter.proofs.Common.{steps_of, subst, suc, sym, ◌∙◌, ◌∷◌, ◌≡◌}
use Rattle.pos_counter.proofs.RunLemmas.{runs_more, steps_push}
use Rattle.pos_counter.proofs.counter.Counter.perform.Goals as goal

pub loop-request-init : goal.loop-request-init
loop-request-init g c =
    let order = ap reverse c.reverse.ensures.items ∙ reverse-reverse c.args.requests.items in (
      [],
      record {
        all = sym order;
        run = refl;
        whole = ap length c.in-Ok.ensures.items;
        in_service = subst (All (OffersInService g.P.Peripheral)) (sym order) c.requires.in_service;
        handed_out = subst (All (HandsOut g.P.Peripheral)) (sym c.in-Ok.ensures.items)
            (All-nil (HandsOut g.P.Peripheral));
        room = omega (arith, c.in-Ok.ensures.exact, c.len.ensures);
        sound = c.requires.sound;
      },
    )

-- the next of those that wait
next : {A : Type 0} {waiting : List A} (rest : List A) {request : A} → waiting ≡ rest ++ request ∷ []
    → reverse waiting ≡ request ∷ reverse rest
next rest {request} is = ap reverse is ∙ reverse-append rest (request ∷ [])

pub respond-response-requires-clause-in_service : goal.respond-response-requires-clause-in_service
respond-response-requires-clause-in_service g c =
    let request = c.in-Some.request in
    let waiting = subst (All (OffersInService g.P.Peripheral))
    (next c.pop.new.self.items c.in-Some.ensures.items) c.loop-request.invariant.1.in_service in
    waiting 0 request (omega arith)

pub loop-request-preserved : goal.loop-request-preserved
loop-request-preserved g c =
    let (done, before) = c.loop-request.invariant in
    let request = c.in-Some.request in
    let response = c.respond-response.result in
    let responses = c.loop-request.responses.items in
    let rest = c.pop.new.self.items in
    let order = next rest c.in-Some.ensures.items in
    let waiting = subst (All (OffersInService g.P.Peripheral)) order before.in_service in
    let steps = ap (steps_of g.P.Peripheral (done ++ request ∷ [])) c.push_reserved.ensures.items
    ∙ steps_push g.P.Peripheral done responses request response before.whole in (
      done ++ request ∷ [],
      record {
        all = before.all ∙ ap (λ xs. done ++ xs) order ∙ sym (append_assoc done (request ∷ []) (reverse rest));
        run = subst (λ xs. IsRun g.D.Disk g.P.Peripheral c.args.self.now xs c.respond-response.new.self) (sym steps)
            (runs_more g.D.Disk g.P.Peripheral c.args.self.now
            (steps_of g.P.Peripheral done responses) before.run c.respond-response.ensures.step);
        whole = omega (
          arith,
          ap length c.push_reserved.ensures.items,
          length_push responses response,
          length_push done request,
          before.whole,
        );
        in_service = λ i d lt. waiting (suc i) d (omega arith);
        handed_out = subst (All (HandsOut g.P.Peripheral)) (sym c.push_reserved.ensures.items) (All-push
            (HandsOut g.P.Peripheral) responses response before.handed_out c.respond-response.ensures.handed_out);
        room = omega (arith, before.room);
        sound = c.respond-response.ensures.sound;
      },
    )
