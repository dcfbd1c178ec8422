use Rattle.std.proofs.Common.{◌-◌}
use Rattle.statement_builders.proofs.arms_lemmas.Halving.{IsSplit}
use Rattle.statement_builders.proofs.arms.placing.place_of.Given as goal

abbrev pub invariant-loop-low : goal.invariant-loop-low
invariant-loop-low l = IsSplit l.places l.entry l.exit l.low l.high

abbrev pub decreases-loop-low : goal.decreases-loop-low
decreases-loop-low l = l.high - l.low
