use Rattle.std.proofs.Common.{◌≡◌, drop}
use Rattle.meanings.specs.statements.Filing.{first_entry}
use Rattle.cob_act.proofs.files.record.first_entry.Given as goal

abbrev pub invariant-loop-at : goal.invariant-loop-at
invariant-loop-at l = first_entry l.file l.at (drop l.at l.entries) ≡ first_entry l.file 0 l.entries
