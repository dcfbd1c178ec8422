-- How many terms the largest condition or expression has in a statement and in those that it holds.
use Rattle.std.specs.Prelude.{ℕ, max, List, map, Option, Some, None}
use Rattle.cob_tree.specs.Depth.{largest}
use Rattle.cob_tree.specs.declared.stmt.Arms.{Arms, fold-Arms}
use Rattle.cob_tree.specs.declared.stmt.Stmt.{Stmt, fold-Stmt}
use Rattle.cob_tree.specs.declared.stmt.Stmt.TheOpen.{Stmt-F, Arms-F, When-F}
use Rattle.cob_tree.specs.declared.stmt.When.{When, fold-When}
use Rattle.program_facts.specs.term_counts.Condition.{cond_terms}
use Rattle.program_facts.specs.term_counts.Expression.{if_any, place_most, operand_most, places_most, operands_most}
use Rattle.program_facts.specs.term_counts.Part.{control_most, calc_most, targets_most, subject_most, tests_most}

-- the most terms of a statement in an arm, which may be absent
abbrev pub arm_most : Option (List ℕ) → ℕ
arm_most None = 0
arm_most (Some counts) = largest counts

-- the largest in one level of a statement
abbrev pub stmt_step : Stmt-F ℕ ℕ ℕ → ℕ
stmt_step (Stmt-F.Display items advance) = operands_most items
stmt_step (Stmt-F.Move from to) = max (operand_most from) (places_most to)
stmt_step (Stmt-F.Arith calc into arms) = max (max (calc_most calc) (targets_most into)) arms
stmt_step (Stmt-F.SetTrue place) = place_most place
stmt_step (Stmt-F.Read file into arms) = max (if_any place_most into) arms
stmt_step (Stmt-F.Write entry from) = if_any operand_most from
stmt_step (Stmt-F.Rewrite entry from) = if_any operand_most from
stmt_step (Stmt-F.If cond met unmet) = max (cond_terms cond) (max (largest met) (largest unmet))
stmt_step (Stmt-F.Evaluate subject whens other) =
    max (subject_most subject) (max (largest whens) (arm_most other))
stmt_step (Stmt-F.Loop control body) = max (control_most control) (largest body)
stmt_step (Stmt-F.Perform entry exit control) = control_most control
stmt_step (Stmt-F.GoDepending to on) = place_most on
stmt_step _ = 0

-- the largest in one level of a statement's arms
abbrev pub arms_step : Arms-F ℕ ℕ ℕ → ℕ
arms_step arms = max (arm_most arms.first) (arm_most arms.second)

-- the largest in one level of a WHEN
abbrev pub when_step : When-F ℕ ℕ ℕ → ℕ
when_step when = max (tests_most when.tests) (largest when.stmts)

-- the largest in a statement
abbrev pub stmt_most : Stmt → ℕ
stmt_most = fold-Stmt ℕ ℕ ℕ stmt_step arms_step when_step

-- the largest in a statement's arms
abbrev pub arms_most : Arms → ℕ
arms_most = fold-Arms ℕ ℕ ℕ stmt_step arms_step when_step

-- the largest in a WHEN
abbrev pub when_most : When → ℕ
when_most = fold-When ℕ ℕ ℕ stmt_step arms_step when_step

-- the largest in these statements
abbrev pub stmts_most : List Stmt → ℕ
stmts_most stmts = largest (map stmt_most stmts)

-- the largest in these WHENs
abbrev pub whens_most : List When → ℕ
whens_most whens = largest (map when_most whens)
