use Rattle.std.proofs.Common.{◌≡◌, take}
use Rattle.declaration_checks.specs.Tables.{names_in}
use Rattle.declaration_checks.proofs.table.names_in.Given as goal

abbrev pub invariant-loop-entry : goal.invariant-loop-entry
invariant-loop-entry l = l.names ≡ names_in (take l.entry-index l.entries)
