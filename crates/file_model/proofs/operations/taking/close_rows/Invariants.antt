use Rattle.std.proofs.Common.{◌≡◌, take}
use Rattle.file_model.specs.operations.Calls.{addresses_of}
use Rattle.file_model.specs.operations.Standing.{rows_closed_on}
use Rattle.file_model.proofs.operations.taking.close_rows.Given as goal

abbrev pub invariant-loop-file : goal.invariant-loop-file
invariant-loop-file l = l.table.rows ≡ rows_closed_on l.device (take l.file (addresses_of l.files)) l.initial.table.rows
