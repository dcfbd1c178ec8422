use Rattle.pending_returns.specs.levels.Level.{FitsTable}
use Rattle.pending_returns.proofs.Leveling.{LevelsUpTo}
use Rattle.pending_returns.proofs.facts.levels_of.Given as goal

abbrev pub invariant-loop-at : goal.invariant-loop-at
invariant-loop-at l = record {
  fits : FitsTable l.table l.level;
  levels : LevelsUpTo l.table l.returns l.at l.levels;
}
