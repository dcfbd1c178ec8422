use Rattle.std.proofs.Common.{subst, rules}
use Rattle.std.specs.List.Sorted.{IsPermutation}
use Rattle.std.proofs.lemmas.List.Sorted.{IsNonDecreasingBy-from_sort, answers_always}
use Rattle.procedure_split.specs.Placing.{key_of}
use Rattle.procedure_split.proofs.PlaceRows.{are-places}
use Rattle.procedure_split.proofs.placing.places_of.Goals as goal

pub returns-clause-places : goal.returns-clause-places
returns-clause-places c =
    let sorted = c.sort_unstable_by_key.new.self.items in
    are-places c.args.order.now sorted
    (subst (λ l. IsPermutation l sorted) c.in_ok-places.ensures
    c.sort_unstable_by_key.ensures.permutation)

pub returns-clause-sorted : goal.returns-clause-sorted
returns-clause-sorted c =
    IsNonDecreasingBy-from_sort key_of _ (c.sort_unstable_by_key.ensures.sorted key_of
    (answers_always _ _ _ (λ f a r g h. search rules)))
