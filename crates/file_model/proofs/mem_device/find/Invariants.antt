use Rattle.file_model.proofs.Firsts.{Others}
use Rattle.file_model.proofs.mem_device.find.Given as goal

abbrev pub invariant-loop-at : goal.invariant-loop-at
invariant-loop-at l = Others l.name l.files l.at
