use Rattle.std.proofs.Common.{◌+◌, ◌-◌, ◌++◌, [], ◌∷◌, length, true, sym, ap, ◌∙◌, length-set}
use Rattle.std.specs.Prelude.{slice_set}
use Rattle.std.proofs.lemmas.List.{append_assoc}
use Rattle.out_names.specs.Ordering.{first_ready, order_from}
use Rattle.out_names.proofs.OrderLemmas.{one_placed}
use Rattle.out_names.proofs.ordering.order.Goals as goal

pub loop-preserved : goal.loop-preserved
loop-preserved c =
    let calls = c.args.calls.now in
    let stands = c.loop.stands.items in
    let number = c.in-Some.number in
    let after = slice_set stands number true in
    let left = length calls - (c.loop.counter + 1) in
    let later = order_from left calls after (first_ready (length calls) calls after 0) in (
      ap (λ o. o ++ order_from left calls after c.in_ok-next-in-Some.next) c.in_ok-push-in-Some.ensures.ok
          ∙ ap (λ n. c.loop.order ++ number ∷ [] ++ order_from left calls after n) (c.in_ok-next-in-Some.ensures.value ∙ ap (λ s. first_ready (length calls) calls s 0) c.as_slice.ensures.value)
          ∙ append_assoc c.loop.order (number ∷ []) later
          ∙ ap (λ xs. c.loop.order ++ xs) (sym (one_placed (length calls) c.loop.counter calls stands number c.loop-test.true))
          ∙ ap (λ n. c.loop.order ++ order_from (length calls - c.loop.counter) calls stands n) (sym c.in-Some.is)
          ∙ c.loop.invariant.0,
      length-set _ _ _ ∙ c.loop.invariant.1,
      (λ some. c.in_ok-next-in-Some.ensures.within),
    )
