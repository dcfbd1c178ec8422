use Rattle.std.proofs.Common.{◌≡◌}
use Rattle.cobol_run.proofs.constant_places.places.+know_place.Given as goal

abbrev pub invariant-know_subs-loop-sub : goal.invariant-know_subs-loop-sub
invariant-know_subs-loop-sub l = l.areas ≡ l.initial.areas
