use Rattle.std.proofs.Common.{◌≡◌, [], drop, take}
use Rattle.declaration_checks.specs.Clause.{again_from}
use Rattle.declaration_checks.proofs.clause.duplicate_fault.Given as goal

abbrev pub invariant-loop-at : goal.invariant-loop-at
invariant-loop-at l = again_from (take l.at l.clauses) (drop l.at l.clauses) ≡ again_from [] l.clauses
