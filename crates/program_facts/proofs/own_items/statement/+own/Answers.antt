use Rattle.std.proofs.Common.{sym, subst, ◌∙◌}
use Rattle.cob_tree.specs.declared.stmt.Stmt.{Stmt}
use Rattle.control_flow_theory.specs.language.Control.{seen}
use Rattle.control_flow_theory.specs.language.Own.{OwnStmt}
use Rattle.program_facts.proofs.own_items_lemmas.OwnRows.{own_if, own_evaluate}
use Rattle.program_facts.proofs.own_items.statement.+own.Goals as goal

pub is_own_stmt-returns-in-If : goal.is_own_stmt-returns-in-If
is_own_stmt-returns-in-If t c = λ whole.
    let all = c.all_three.ensures whole in
    subst (λ (s : Stmt). OwnStmt (seen 0 s)) (sym c.in-If.is)
    (own_if c.in-If.cond c.in-If.yes c.in-If.no (c.is_own_test.ensures.own all.0) (c.is_own_stmts.ensures all.1) (c.is_own_stmts-in-If.ensures all.2))

pub is_own_stmt-returns-in-Evaluate : goal.is_own_stmt-returns-in-Evaluate
is_own_stmt-returns-in-Evaluate t c = λ whole.
    let all = c.all_three-in-Evaluate.ensures whole in
    subst (λ (s : Stmt). OwnStmt (seen 0 s)) (sym c.in-Evaluate.is)
    (own_evaluate c.in-Evaluate.subject c.in-Evaluate.whens c.in-Evaluate.other (sym c.is_own_subject.ensures ∙ all.0) (c.are_own_whens.ensures all.1) (c.is_own_arm.ensures all.2))
