use Rattle.std.proofs.Common.{◌≡◌, length}
use Rattle.ref_format.specs.Column.{unspaced}
use Rattle.ref_format.proofs.column.behind_spaces.Given as goal

abbrev pub invariant-loop-rest : goal.invariant-loop-rest
invariant-loop-rest l = unspaced l.rest ≡ unspaced l.bytes

abbrev pub decreases-loop-rest : goal.decreases-loop-rest
decreases-loop-rest l = length l.rest
