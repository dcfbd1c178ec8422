use Rattle.cob_tree.specs.declared.stmt.Stmt.TheVariants.{Perform}
use Rattle.statement_builders.specs.arms.Choosing.{IsOwnPerform}
use Rattle.statement_builders.specs.arms.Written.{IsWritten}
use Rattle.body_rendering.proofs.own_statements_lemmas.OwnRows.{perform_row}
use Rattle.body_rendering.proofs.own_statements_lemmas.Results.{if_ok}
use Rattle.body_rendering.proofs.own_statements.writing.write_perform.Goals as goal

pub returns-in-Some : goal.returns-in-Some
returns-in-Some c =
    if_ok c.perform_stmt.result (IsOwnPerform c.in-Some.place c.args.control) (IsWritten c.args.places.now (Perform c.args.entry c.args.exit c.args.control))
    (λ made h way placed. perform_row way c.args.control c.args.entry c.args.exit c.in-Some.place made h.0 (placed c.in-Some.ensures.0 _ c.in-Some.ensures.1) h.1)
    c.perform_stmt.ensures.own
