use Rattle.std.proofs.Common.{◌≡◌, false, take}
use Rattle.file_model.specs.Attempts.{address_of}
use Rattle.file_model.specs.operations.Calls.{addresses_of}
use Rattle.file_model.specs.operations.Standing.{is_open_there}
use Rattle.file_model.proofs.operations.address.is_taken.Given as goal

abbrev pub invariant-loop-file : goal.invariant-loop-file
invariant-loop-file l = is_open_there (address_of l.assign) (take l.file (addresses_of l.files)) l.rows ≡ false
