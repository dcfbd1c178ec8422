use Rattle.std.proofs.lemmas.Result.{IfOk-weaker}
use Rattle.branch_tree.specs.Tree.{seen_tree}
use Rattle.body_rendering.proofs.ProcedureRows.{sentence_row}
use Rattle.body_rendering.proofs.procedure.write_procedure.Goals as goal

pub returns-in-Ok : goal.returns-in-Ok
returns-in-Ok c =
    IfOk-weaker c.sentence_of.result _ _
    (λ made s. sentence_row c.args.cells.now c.args.places.now c.args.is_main (seen_tree c.args.tree) c.new-made.result c.add_closed.new.made made c.new-made.ensures c.in-Ok.ensures s)
    c.sentence_of.ensures
