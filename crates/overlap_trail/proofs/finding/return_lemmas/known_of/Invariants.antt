use Rattle.std.proofs.Common.{◌-◌, length}
use Rattle.pending_returns.specs.levels.Reach.{trues}
use Rattle.overlap_trail.specs.finding.Search.{flags_of}
use Rattle.overlap_trail.specs.finding.ReturnLemmas.{Knows}
use Rattle.overlap_trail.proofs.finding.return_lemmas.known_of.Given as goal

abbrev pub invariant-rounds : goal.invariant-rounds
invariant-rounds l = Knows l.table l.known.lemmas l.known.numbers.items

abbrev pub decreases-rounds : goal.decreases-rounds
decreases-rounds l = length l.table.ranges - trues (flags_of l.known.numbers.items)
