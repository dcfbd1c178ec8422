use Rattle.std.proofs.Common.{◌+◌, ◌-◌, ◌++◌, [], ◌∷◌, ap, sym, ◌∙◌}
use Rattle.std.proofs.lemmas.List.{append_assoc}
use Rattle.added_items.specs.item_table.Owners.{counted_on}
use Rattle.added_items.proofs.item_table_lemmas.Places.{counted-next}
use Rattle.added_items.proofs.item_table.row.places_named.Goals as goal

pub loop-place-preserved : goal.loop-place-preserved
loop-place-preserved c =
    let place = c.loop-place.place in
    let count = c.args.count in
    let later = counted_on (place + 1) (count - (place + 1)) in
    ap (λ ns. ns ++ later) c.in_ok-push.ensures.ok
    ∙ append_assoc c.loop-place.named (place ∷ []) later
    ∙ ap (λ ns. c.loop-place.named ++ ns) (sym (counted-next place count c.loop-place-test.true))
    ∙ c.loop-place.invariant
