-- Statements with arms, by what their arms hold.
use Rattle.std.specs.Prelude.{ℕ, ◌≡◌, Bool, List, map, Option, Some, None}
use Rattle.cob_tree.specs.declared.calc.Calc.{Calc}
use Rattle.cob_tree.specs.declared.calc.Target.{Target}
use Rattle.cob_tree.specs.declared.choice.Subject.{Subject}
use Rattle.cob_tree.specs.declared.cond.Cond.{Cond}
use Rattle.cob_tree.specs.declared.control.Control.{Control}
use Rattle.cob_tree.specs.declared.place.Place.{Place}
use Rattle.cob_tree.specs.declared.stmt.Stmt.{Stmt}
use Rattle.cob_tree.specs.declared.stmt.When.{When}
use Rattle.control_flow_theory.specs.language.Control.{seen, seen_stmts, seen_when, control_in, loop_of, perform_of, test_of, evaluate_of, tests_of, branches_before}
use Rattle.control_flow_theory.specs.language.Language.{Choose, If, By, Read, Arith, Stmts, done}
use Rattle.control_flow_theory.specs.rendering.Rendering.{Continues, Goes}
use Rattle.program_facts.specs.own_items.Owning.{OwnTurns}
use Rattle.statement_builders.specs.arms.EmptyArms.{if_had, put_arm, stands_so, kept_stmts}

-- the statements of an arm that may be left out
abbrev pub seen_arm : Option (List Stmt) → Option Stmts
seen_arm None = None
seen_arm (Some stmts) = Some (seen_stmts 0 stmts)

-- the arm is there with these statements, or isn't
abbrev pub IsKept : Bool → Stmts → Option (List Stmt) → Type 0
IsKept continues stmts made = seen_arm made ≡ kept_stmts continues stmts

-- the statement is IF with these arms; an empty first arm holds CONTINUE, and an empty ELSE goes
abbrev pub IsIf : Cond → (met unmet : Stmts) → Stmt → Type 0
IsIf cond met unmet made =
    seen 0 made ≡ Choose (If (test_of cond))
    (put_arm Continues met (put_arm Goes unmet done))

-- the statement is EVALUATE with these WHENs, and with WHEN OTHER where it isn't left out
abbrev pub IsEvaluate : Subject → List When → (has_other : Bool) → Stmts → Stmt → Type 0
IsEvaluate subject whens has_other other made =
    let branches = map (seen_when 0) whens in
    seen 0 made ≡ Choose (evaluate_of subject (tests_of branches) (stands_so has_other other))
    (branches_before branches (put_arm (if_had has_other) other done))

-- the statement is READ with these arms; an empty NOT AT END goes
abbrev pub IsRead : ℕ → Option Place → (has_end : Bool) → (first second : Stmts) → Stmt → Type 0
IsRead file into has_end first second made =
    seen 0 made ≡ Choose (By (Read file into (stands_so has_end first)))
    (put_arm (if_had has_end) first (put_arm Goes second done))

-- the statement is arithmetic with these arms; an empty NOT ON SIZE ERROR goes
abbrev pub IsArith : Calc → List Target → (has_first : Bool) → (first second : Stmts) → Stmt →
    Type 0
IsArith calc into has_first first second made =
    seen 0 made ≡ Choose (By (Arith calc into))
    (put_arm (if_had has_first) first (put_arm Goes second done))

-- the statement performs the place by this control, and its turns are own
abbrev pub IsOwnPerform : ℕ → Control → Stmt → Type 0
IsOwnPerform place control made =
    OwnTurns (control_in control) × (seen 0 made ≡ perform_of (control_in control) place place)

-- the statement is an inline PERFORM over these statements, and its turns are own
abbrev pub IsOwnLoop : Control → List Stmt → Stmt → Type 0
IsOwnLoop control body made = OwnTurns (control_in control)
    × (seen 0 made ≡ loop_of (control_in control) (seen_stmts 0 body))
