use Rattle.std.proofs.Common.{◌≡◌, length}
use Rattle.cobol_read.specs.LeftOut.{first_left_out}
use Rattle.cobol_read.proofs.left_out.first_left_out.Given as goal

abbrev pub invariant-tokens : goal.invariant-tokens
invariant-tokens l = first_left_out l.tokens ≡ first_left_out l.rest

abbrev pub decreases-tokens : goal.decreases-tokens
decreases-tokens l = length l.rest
