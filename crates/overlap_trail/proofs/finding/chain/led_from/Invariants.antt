use Rattle.pending_returns.proofs.faults_lemmas.Led.{LedSoFar}
use Rattle.overlap_trail.specs.finding.Chain.{TracesCalls}
use Rattle.overlap_trail.proofs.finding.chain.led_from.Given as goal

abbrev pub invariant-loop-at : goal.invariant-loop-at
invariant-loop-at l = record {
  so_far : LedSoFar l.levels l.base l.route.reach.places.items l.route.reach.marks.items l.at;
  traces : TracesCalls l.levels l.base l.route.reach.places.items l.route.came.items;
}
