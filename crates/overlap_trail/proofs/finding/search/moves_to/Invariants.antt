use Rattle.std.proofs.Common.{◌+◌, ◌≤◌}
use Rattle.overlap_trail.proofs.finding_lemmas.Taking.{Taken}
use Rattle.overlap_trail.proofs.finding.search.moves_to.Given as goal

abbrev pub invariant-loop : goal.invariant-loop
invariant-loop l = record {
  falls : l.here + l.counter ≤ l.at;
  taken : Taken l.came l.at l.here l.moves.items;
}
