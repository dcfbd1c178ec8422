-- Plain programs as a test of the tree: there is no statement on files in it, and no word on an
-- item that restructuring adds.
use Rattle.std.specs.Prelude.{Bool, true, false, not, ◌&&◌, List, [], ◌∷◌, map, is_none}
use Rattle.cob_tree.specs.declared.place.Place.{Place}
use Rattle.cob_tree.specs.declared.place.Operand.{Operand, out-Operand}
use Rattle.cob_tree.specs.declared.place.Figure.{Figure}
use Rattle.cob_tree.specs.declared.place.Figure.TheVariants.{Zero}
use Rattle.cob_tree.specs.declared.place.Expr.{Expr, out-Expr}
use Rattle.cob_tree.specs.declared.place.Expr.TheOpen.{Expr-F, Operand-F}
use Rattle.cob_tree.specs.declared.cond.Cond.{Cond, fold-Cond, out-Cond}
use Rattle.cob_tree.specs.declared.cond.Cond.TheOpen.{Cond-F}
use Rattle.cob_tree.specs.declared.cond.Rel.{Rel}
use Rattle.cob_tree.specs.declared.cond.Rel.TheVariants.{Equal}
use Rattle.cob_tree.specs.declared.control.Control.{Control}
use Rattle.cob_tree.specs.declared.control.Control.TheVariants.{Once, Times, Until, Varying}
use Rattle.cob_tree.specs.declared.calc.Target.{Target}
use Rattle.cob_tree.specs.declared.choice.Subject.{Subject}
use Rattle.cob_tree.specs.declared.stmt.Stmt.{Stmt, fold-Stmt}
use Rattle.cob_tree.specs.declared.stmt.Stmt.TheOpen.{Stmt-F, Arms-F, When-F}
use Rattle.cob_tree.specs.declared.stmt.Arms.{Arms, fold-Arms}
use Rattle.cob_tree.specs.declared.stmt.When.{When, fold-When}
use Rattle.cob_tree.specs.declared.program.Sentence.{Sentence}
use Rattle.cob_tree.specs.declared.program.Paragraph.{Paragraph}
use Rattle.cob_tree.specs.declared.program.Program.{Program}
use Rattle.control_flow_theory.specs.language.All.{all, all_if}
use Rattle.control_flow_theory.specs.language.Control.{cell_chosen, cell_in, cell_named, cell_of}

-- Added items.

-- the place isn't an added item
abbrev pub is_own_place : Place → Bool
is_own_place place = is_none (cell_of place)

-- the operand isn't an added item
abbrev pub is_own_operand : Operand → Bool
is_own_operand operand = is_none (cell_named operand)

-- the expression isn't an added item alone
abbrev pub is_own_side : Expr → Bool
is_own_side expr = is_none (cell_in expr)

-- the subject of an EVALUATE isn't an added item
abbrev pub is_own_subject : Subject → Bool
is_own_subject subject = is_none (cell_chosen subject)

-- a single receiver is no added item; of several nothing is asked
abbrev pub receives_own : List Place → Bool
receives_own [] = true
receives_own (to ∷ []) = is_own_place to
receives_own (to ∷ next ∷ others) = true

-- the one target isn't an added item; several are the program's own
abbrev pub targets_own : List Target → Bool
targets_own [] = true
targets_own (target ∷ []) = is_own_place target.place
targets_own (target ∷ next ∷ others) = true

-- Conditions.

-- one level of a condition; a test of an added item is a relation, or one under NOT
abbrev pub own_step : Cond-F Bool → Bool
own_step (Cond-F.Relation left rel right) = is_own_side left
own_step (Cond-F.Class place kind not) = true
own_step (Cond-F.SignIs expr kind not) = true
own_step (Cond-F.Named place) = true
own_step (Cond-F.Not inner) = inner
own_step (Cond-F.And left right) = true
own_step (Cond-F.Or left right) = true

-- the condition isn't a test of an added item
abbrev pub is_own_test : Cond → Bool
is_own_test = fold-Cond Bool own_step

-- the figurative constant is ZERO
abbrev pub is_zero : Figure → Bool
is_zero Zero = true
is_zero _ = false

-- the operand is ZERO
abbrev pub is_zero_word : Operand → Bool
is_zero_word operand =
    elim (out-Operand operand) [ Operand-F.Figure figure ↦ is_zero figure | _ ↦ false ]

-- the expression is ZERO
abbrev pub is_zero_side : Expr → Bool
is_zero_side expr = elim (out-Expr expr) [ Expr-F.Leaf operand ↦ is_zero_word operand | _ ↦ false ]

-- the relation is equality
abbrev pub is_equal : Rel → Bool
is_equal Equal = true
is_equal _ = false

-- the condition is that ZERO equals ZERO
abbrev pub is_always : Cond → Bool
is_always cond =
    elim (out-Cond cond) [
      | Cond-F.Relation left rel right ↦ is_equal rel && is_zero_side left && is_zero_side right
      | _ ↦ false
    ]

-- Statements.

-- the control of a loop tests no added item
abbrev pub is_plain_control : Control → Bool
is_plain_control Once = true
is_plain_control (Times amount) = true
is_plain_control (Until after cond) = is_own_test cond
is_plain_control (Varying after item from by cond) = is_own_test cond

-- the control of a loop is TIMES, UNTIL or VARYING
abbrev pub turns : Control → Bool
turns Once = false
turns (Times amount) = true
turns (Until after cond) = true
turns (Varying after item from by cond) = true

-- one level of a statement
abbrev pub plain_step : Stmt-F Bool Bool Bool → Bool
plain_step (Stmt-F.Display items advance) = true
plain_step (Stmt-F.Move from to) = receives_own to
plain_step (Stmt-F.Arith calc into arms) = targets_own into && arms
plain_step (Stmt-F.SetTrue place) = true
plain_step (Stmt-F.Opens openings) = false
plain_step (Stmt-F.Closes files) = false
plain_step (Stmt-F.Read file into arms) = false
plain_step (Stmt-F.Write entry from) = false
plain_step (Stmt-F.Rewrite entry from) = false
plain_step (Stmt-F.If cond met unmet) =
    is_own_test cond && not (is_always cond) && all met && all unmet
plain_step (Stmt-F.Evaluate subject whens other) =
    is_own_subject subject && all whens && all_if other
plain_step (Stmt-F.Loop control body) = turns control && is_plain_control control && all body
plain_step (Stmt-F.Perform entry exit control) = is_plain_control control
plain_step (Stmt-F.Go to) = true
plain_step (Stmt-F.GoDepending to on) = true
plain_step Stmt-F.NextSentence = true
plain_step Stmt-F.StopRun = true
plain_step Stmt-F.Exit = true
plain_step Stmt-F.ExitParagraph = true
plain_step Stmt-F.ExitSection = true
plain_step (Stmt-F.ExitPerform cycle) = true
plain_step Stmt-F.Continue = true

-- one level of a statement's arms
abbrev pub arms_step : Arms-F Bool Bool Bool → Bool
arms_step arms = all_if arms.first && all_if arms.second

-- one level of a WHEN
abbrev pub when_step : When-F Bool Bool Bool → Bool
when_step when = all when.stmts

-- there is no statement on files and no word on an added item in a statement
abbrev pub is_plain_stmt : Stmt → Bool
is_plain_stmt = fold-Stmt Bool Bool Bool plain_step arms_step when_step

-- there is none in arms
abbrev pub are_plain_arms : Arms → Bool
are_plain_arms = fold-Arms Bool Bool Bool plain_step arms_step when_step

-- there is none in a WHEN
abbrev pub is_plain_when : When → Bool
is_plain_when = fold-When Bool Bool Bool plain_step arms_step when_step

-- there is none in these statements
abbrev pub are_plain_stmts : List Stmt → Bool
are_plain_stmts stmts = all (map is_plain_stmt stmts)

-- there is none in these WHENs
abbrev pub are_plain_whens : List When → Bool
are_plain_whens whens = all (map is_plain_when whens)

-- there is none in a paragraph
abbrev pub is_plain_paragraph : Paragraph → Bool
is_plain_paragraph paragraph =
    all (map (λ (sentence : Sentence). are_plain_stmts sentence.stmts) paragraph.sentences)

-- there is none in these paragraphs
abbrev pub are_plain_paragraphs : List Paragraph → Bool
are_plain_paragraphs paragraphs = all (map is_plain_paragraph paragraphs)

-- the program runs without devices
abbrev pub is_plain : Program → Bool
is_plain program = are_plain_paragraphs program.paragraphs
