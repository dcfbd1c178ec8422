use Rattle.std.proofs.Common.{◌≤◌, ◌+◌, ◌-◌, ◌∙◌, arith, drop, length, length-drop}
use Rattle.file_model.proofs.operations_lemmas.AddressLemmas.{cut_name}
use Rattle.file_model.proofs.operations_lemmas.CallLemmas.{take_all}
use Rattle.file_model.proofs.operations.address.name_of.Goals as goal

pub returns-else-colon-assign : goal.returns-else-colon-assign
returns-else-colon-assign c =
    let all : length (drop (c.colon_at-colon.result + 1) c.args.assign.now) ≤ length c.args.assign.now - (c.colon_at-colon.result + 1) = simp length-drop (omega arith) in
    take_all (drop (c.colon_at-colon.result + 1) c.args.assign.now) (length c.args.assign.now - (c.colon_at-colon.result + 1)) all
    ∙ cut_name c.args.assign.now c.colon_at-colon.result c.colon_at-colon.ensures.count c.if-colon-assign.false
