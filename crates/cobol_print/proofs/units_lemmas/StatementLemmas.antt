-- The lines of a statement, one lemma a constructor that holds lists.
use Rattle.std.proofs.Common.{◌≡◌, ℕ, Bool, false, List, [], ◌∷◌, ◌++◌, map, Option, Some, None, ap, sym, ◌∙◌}
use Rattle.cob_tree.specs.declared.choice.Subject.{Subject}
use Rattle.cob_tree.specs.declared.cond.Cond.{Cond}
use Rattle.cob_tree.specs.declared.control.Control.{Control}
use Rattle.cob_tree.specs.declared.program.Program.{Program}
use Rattle.cob_tree.specs.declared.stmt.When.{When}
use Rattle.cob_tree.specs.declared.stmt.Stmt.{Stmt, out-Stmt, roll-Stmt, out-roll-Stmt, fold-roll-Stmt}
use Rattle.cob_tree.specs.declared.stmt.Stmt.TheOpen.{Stmt-F}
use Rattle.cob_tree.specs.declared.stmt.Stmt.TheVariants.{If, Evaluate, Loop, rolls-If, rolls-Evaluate, rolls-Loop}
use Rattle.unparser.specs.Head.{head_step}
use Rattle.cobol_print.specs.units.Unit.{unit_at, deeper}
use Rattle.cobol_print.specs.units.Statement.{Lines, ArmLines, WhenLines, list_lines, held_by_else, held_by_loop, held_by_other, whens_lines, stmt_step, arms_step, when_step, stmt_lines, when_lines}

pub lines-If : (program : Program) (stmt : Stmt) (cond : Cond) (met unmet : List Stmt) (column : ℕ) (closed : Bool) →
    stmt ≡ If cond met unmet →
    (unit_at column (head_step program (out-Stmt stmt)) ∷ [])
    ++ (list_lines (map (stmt_lines program) met) (deeper column) false ++ held_by_else (map (stmt_lines program) unmet) column)
    ≡ stmt_lines program stmt column closed
lines-If program stmt cond met unmet column closed is =
    let e : stmt ≡ roll-Stmt (Stmt-F.If cond met unmet) = is ∙ sym (rolls-If cond met unmet) in
    ap (λ l. unit_at column (head_step program l)
    ∷ (list_lines (map (stmt_lines program) met) (deeper column) false ++ held_by_else (map (stmt_lines program) unmet) column))
    (ap out-Stmt e ∙ out-roll-Stmt (Stmt-F.If cond met unmet))
    ∙ sym (ap (λ (f : Lines). f column closed)
    (ap (stmt_lines program) e ∙ fold-roll-Stmt Lines ArmLines WhenLines (stmt_step program) arms_step (when_step program) (Stmt-F.If cond met unmet)))

pub lines-Loop : (program : Program) (stmt : Stmt) (control : Control) (body : List Stmt) (column : ℕ) (closed : Bool) →
    stmt ≡ Loop control body →
    (unit_at column (head_step program (out-Stmt stmt)) ∷ []) ++ held_by_loop (map (stmt_lines program) body) column
    ≡ stmt_lines program stmt column closed
lines-Loop program stmt control body column closed is =
    let e : stmt ≡ roll-Stmt (Stmt-F.Loop control body) = is ∙ sym (rolls-Loop control body) in
    ap (λ l. unit_at column (head_step program l) ∷ held_by_loop (map (stmt_lines program) body) column)
    (ap out-Stmt e ∙ out-roll-Stmt (Stmt-F.Loop control body))
    ∙ sym (ap (λ (f : Lines). f column closed)
    (ap (stmt_lines program) e ∙ fold-roll-Stmt Lines ArmLines WhenLines (stmt_step program) arms_step (when_step program) (Stmt-F.Loop control body)))

abbrev pub others_of : Program → Option (List Stmt) → Option (List Lines)
others_of program None = None
others_of program (Some stmts) = Some (map (stmt_lines program) stmts)

pub lines-Evaluate : (program : Program) (stmt : Stmt) (subject : Subject) (whens : List When) (other : Option (List Stmt))
    (column : ℕ) (closed : Bool) → stmt ≡ Evaluate subject whens other →
    (unit_at column (head_step program (out-Stmt stmt)) ∷ []) ++ (whens_lines (map (when_lines program) whens) column ++ held_by_other (others_of program other) column)
    ≡ stmt_lines program stmt column closed
lines-Evaluate program stmt subject whens None column closed is =
    let e : stmt ≡ roll-Stmt (Stmt-F.Evaluate subject whens None) = is ∙ sym (rolls-Evaluate subject whens None) in
    ap (λ l. unit_at column (head_step program l) ∷ (whens_lines (map (when_lines program) whens) column ++ held_by_other None column))
    (ap out-Stmt e ∙ out-roll-Stmt (Stmt-F.Evaluate subject whens None))
    ∙ sym (ap (λ (f : Lines). f column closed)
    (ap (stmt_lines program) e ∙ fold-roll-Stmt Lines ArmLines WhenLines (stmt_step program) arms_step (when_step program) (Stmt-F.Evaluate subject whens None)))
lines-Evaluate program stmt subject whens (Some stmts) column closed is =
    let e : stmt ≡ roll-Stmt (Stmt-F.Evaluate subject whens (Some stmts)) = is ∙ sym (rolls-Evaluate subject whens (Some stmts)) in
    ap (λ l. unit_at column (head_step program l) ∷ (whens_lines (map (when_lines program) whens) column ++ held_by_other (Some (map (stmt_lines program) stmts)) column))
    (ap out-Stmt e ∙ out-roll-Stmt (Stmt-F.Evaluate subject whens (Some stmts)))
    ∙ sym (ap (λ (f : Lines). f column closed)
    (ap (stmt_lines program) e ∙ fold-roll-Stmt Lines ArmLines WhenLines (stmt_step program) arms_step (when_step program) (Stmt-F.Evaluate subject whens (Some stmts))))
