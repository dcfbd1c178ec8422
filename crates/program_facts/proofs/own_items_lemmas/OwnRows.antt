-- IF and EVALUATE of the program's own.
use Rattle.std.proofs.Common.{◌≡◌, ℕ, Bool, true, not, List, [], ◌∷◌, map, Option, Some, None, is_some, sym, subst}
use Rattle.cob_tree.specs.declared.choice.Subject.{Subject}
use Rattle.cob_tree.specs.declared.cond.Cond.{Cond}
use Rattle.cob_tree.specs.declared.stmt.Stmt.{Stmt}
use Rattle.cob_tree.specs.declared.stmt.Stmt.TheVariants.{If, Evaluate}
use Rattle.cob_tree.specs.declared.stmt.When.{When}
use Rattle.control_flow_theory.specs.language.Language as language
use Rattle.control_flow_theory.specs.language.Control.{test_of, arm_before, else_of, picker_by, cell_chosen, count_from, tests_of, branches_before, seen, seen_stmts, seen_when}
use Rattle.control_flow_theory.specs.language.Own.{OwnTest, OwnPicker, OwnStmt, OwnStmts, OwnArms}
use Rattle.control_flow_theory.proofs.language_lemmas.Rows.{seen_if_any, seen_if, seen_evaluate}
use Rattle.program_facts.specs.own_items.Within.{OwnIfAny, OwnWhens}

own_else : (stmts : List Stmt) → OwnStmts (seen_stmts 0 stmts) →
    OwnArms (arm_before (else_of (map (seen 0) stmts)) language.done)
own_else [] h = tt
own_else (stmt ∷ stmts) h = (h, tt)

pub own_if : (cond : Cond) (met unmet : List Stmt) → OwnTest (test_of cond) → OwnStmts (seen_stmts 0 met) →
    OwnStmts (seen_stmts 0 unmet) → OwnStmt (seen 0 (If cond met unmet))
own_if cond met unmet test is other = subst OwnStmt (sym (seen_if 0 cond met unmet)) (test, (is, own_else unmet other))

own_arm : (arm : Option (List Stmt)) → OwnIfAny arm → OwnArms (arm_before (seen_if_any 0 arm) language.done)
own_arm None h = tt
own_arm (Some stmts) h = (h, tt)

own_branches : (whens : List When) (others : language.Arms) → OwnWhens whens → OwnArms others →
    OwnArms (branches_before (map (seen_when 0) whens) others)
own_branches [] others h rest = rest
own_branches (when ∷ whens) others h rest = (h.0, own_branches whens others h.1 rest)

own_picker : (cell : Option ℕ) (counted : Bool) (chooser : language.Chooser) → not (is_some cell) ≡ true →
    OwnPicker (picker_by cell counted chooser)
own_picker None counted chooser h = tt
own_picker (Some cell) counted chooser h = cc

pub own_evaluate : (subject : Subject) (whens : List When) (other : Option (List Stmt)) →
    not (is_some (cell_chosen subject)) ≡ true → OwnWhens whens → OwnIfAny other →
    OwnStmt (seen 0 (Evaluate subject whens other))
own_evaluate subject whens other h are is =
    let tests = tests_of (map (seen_when 0) whens) in
    subst OwnStmt (sym (seen_evaluate 0 subject whens other)) (
      own_picker (cell_chosen subject) (count_from 1 tests) (language.Evaluate subject tests (is_some other)) h,
      own_branches whens (arm_before (seen_if_any 0 other) language.done) are (own_arm other is),
    )
