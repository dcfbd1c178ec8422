use Rattle.std.proofs.Common.{◌≡◌, drop}
use Rattle.std.specs.List.{fold}
use Rattle.procedure_split.specs.plan.Planned.{with_facts, table_by}
use Rattle.procedure_split.proofs.plan.returning.returning_of.Given as goal

abbrev pub invariant-loop-at : goal.invariant-loop-at
invariant-loop-at l = fold with_facts l.table.items (drop l.at l.ranges) ≡ table_by l.ranges
