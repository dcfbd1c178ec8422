use Rattle.control_flow_theory.specs.language.Control.{seen_stmts}
use Rattle.statement_builders.proofs.arms_lemmas.ChoiceRows.{read_row}
use Rattle.statement_builders.proofs.arms.choosing.read_stmt.Goals as goal

pub returns : goal.returns
returns c =
    read_row c.args.file c.args.into c.args.has_end (seen_stmts 0 c.args.first) (seen_stmts 0 c.args.second) c.in_ok-first.first c.in_ok-second.second
    c.in_ok-first.ensures c.in_ok-second.ensures
