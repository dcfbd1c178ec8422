use Rattle.std.proofs.Common.{◌≡◌, ◌++◌, take, drop}
use Rattle.file_model.specs.Attempts.{before_colon}
use Rattle.file_model.proofs.operations.address.colon_at.Given as goal

abbrev pub invariant-loop-at : goal.invariant-loop-at
invariant-loop-at l = before_colon l.assign ≡ take l.at l.assign ++ before_colon (drop l.at l.assign)
