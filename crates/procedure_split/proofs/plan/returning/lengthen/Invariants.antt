use Rattle.std.proofs.Common.{◌≡◌, length}
use Rattle.procedure_split.specs.plan.Planned.{lengthened}
use Rattle.procedure_split.proofs.plan.returning.lengthen.Given as goal

abbrev pub invariant-loop-at : goal.invariant-loop-at
invariant-loop-at l = (l.at ≡ length l.table.items)
    × (lengthened l.table.items l.fn.entry ≡ lengthened l.fn.table.items l.fn.entry)
