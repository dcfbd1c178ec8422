-- A program names its own items: each item number in it is below 2^31, where added items begin.
use Rattle.std.specs.Prelude.{◌^◌, nat_lt, Bool, true, ◌&&◌, List, map, Option, Some, None, IsTrue}
use Rattle.cob_tree.specs.declared.place.Expr.{Expr, fold-Expr}
use Rattle.cob_tree.specs.declared.place.Expr.TheOpen.{Expr-F, Operand-F, Place-F, Sub-F, Window-F}
use Rattle.cob_tree.specs.declared.place.Operand.{Operand, fold-Operand}
use Rattle.cob_tree.specs.declared.place.Place.{Place, fold-Place}
use Rattle.cob_tree.specs.declared.place.Sub.{Sub, fold-Sub}
use Rattle.cob_tree.specs.declared.place.Window.{Window, fold-Window}
use Rattle.cob_tree.specs.declared.cond.Cond.{Cond, fold-Cond}
use Rattle.cob_tree.specs.declared.cond.Cond.TheOpen.{Cond-F}
use Rattle.cob_tree.specs.declared.control.Control.{Control}
use Rattle.cob_tree.specs.declared.control.Control.TheVariants as control
use Rattle.cob_tree.specs.declared.calc.Calc.{Calc}
use Rattle.cob_tree.specs.declared.calc.Calc.TheVariants as calc
use Rattle.cob_tree.specs.declared.calc.Target.{Target}
use Rattle.cob_tree.specs.declared.choice.Subject.{Subject}
use Rattle.cob_tree.specs.declared.choice.Subject.TheVariants as subject
use Rattle.cob_tree.specs.declared.choice.Test.{Test}
use Rattle.cob_tree.specs.declared.choice.Test.TheVariants as test
use Rattle.cob_tree.specs.declared.stmt.Stmt.{Stmt, fold-Stmt}
use Rattle.cob_tree.specs.declared.stmt.Stmt.TheOpen.{Stmt-F, Arms-F, When-F}
use Rattle.cob_tree.specs.declared.stmt.Arms.{Arms, fold-Arms}
use Rattle.cob_tree.specs.declared.stmt.When.{When, fold-When}
use Rattle.cob_tree.specs.declared.program.Sentence.{Sentence}
use Rattle.cob_tree.specs.declared.program.Paragraph.{Paragraph}
use Rattle.cob_tree.specs.declared.program.Program.{Program}
use Rattle.control_flow_theory.specs.language.All.{all, all_if, if_there}

-- Places and expressions.

-- one level of a place or expression, in which each part is the answer to whether it is own
abbrev pub Layer : (Type 0 → Type 0 → Type 0 → Type 0 → Type 0 → Type 0) → Type 0
Layer F = F Bool Bool Bool Bool Bool

-- one level of an expression names own items
abbrev pub expr_step : Layer Expr-F → Bool
expr_step (Expr-F.Leaf operand) = operand
expr_step (Expr-F.Minus operand) = operand
expr_step (Expr-F.Both op left right) = left && right

-- one level of an operand names own items
abbrev pub operand_step : Layer Operand-F → Bool
operand_step (Operand-F.Place place) = place
operand_step _ = true

-- one level of a place names own items: its item is below 2^31, and its parts are own
abbrev pub place_step : Layer Place-F → Bool
place_step place = nat_lt place.item (2 ^ 31) && all place.subs && if_there place.window

-- one level of a subscript names own items
abbrev pub sub_step : Layer Sub-F → Bool
sub_step sub = if_there sub.base

-- one level of a window names own items
abbrev pub window_step : Layer Window-F → Bool
window_step window = window.from && if_there window.length

-- the place names own items alone
abbrev pub place_own : Place → Bool
place_own =
    fold-Place Bool Bool Bool Bool Bool expr_step operand_step place_step sub_step window_step

-- the operand names own items alone
abbrev pub operand_own : Operand → Bool
operand_own =
    fold-Operand Bool Bool Bool Bool Bool expr_step operand_step place_step sub_step window_step

-- the expression names own items alone
abbrev pub expr_own : Expr → Bool
expr_own =
    fold-Expr Bool Bool Bool Bool Bool expr_step operand_step place_step sub_step window_step

-- the subscript names own items alone
abbrev pub sub_own : Sub → Bool
sub_own =
    fold-Sub Bool Bool Bool Bool Bool expr_step operand_step place_step sub_step window_step

-- the window names own items alone
abbrev pub window_own : Window → Bool
window_own =
    fold-Window Bool Bool Bool Bool Bool expr_step operand_step place_step sub_step window_step

-- the places name own items alone
abbrev pub places_own : List Place → Bool
places_own places = all (map place_own places)

-- the operands name own items alone
abbrev pub operands_own : List Operand → Bool
operands_own operands = all (map operand_own operands)

-- what may be absent
abbrev pub option_own : {X : Type 0} → (X → Bool) → Option X → Bool
option_own own None = true
option_own own (Some x) = own x

-- Conditions, loops, arithmetic and choices.

-- one level of a condition names own items
abbrev pub cond_step : Cond-F Bool → Bool
cond_step (Cond-F.Relation left rel right) = expr_own left && expr_own right
cond_step (Cond-F.Class place kind not) = place_own place
cond_step (Cond-F.SignIs expr kind not) = expr_own expr
cond_step (Cond-F.Named place) = place_own place
cond_step (Cond-F.Not inner) = inner
cond_step (Cond-F.And left right) = left && right
cond_step (Cond-F.Or left right) = left && right

-- the condition names own items alone
abbrev pub cond_own : Cond → Bool
cond_own = fold-Cond Bool cond_step

-- the loop's control names own items alone
abbrev pub control_own : Control → Bool
control_own control.Once = true
control_own (control.Times amount) = operand_own amount
control_own (control.Until after until) = cond_own until
control_own (control.Varying after item from by until) =
    place_own item && operand_own from && operand_own by && cond_own until

-- the operands of the arithmetic name own items alone
abbrev pub calc_own : Calc → Bool
calc_own (calc.Add parts) = operands_own parts
calc_own (calc.AddGiving parts) = operands_own parts
calc_own (calc.Subtract parts) = operands_own parts
calc_own (calc.SubtractGiving parts from) = operands_own parts && operand_own from
calc_own (calc.Multiply by) = operand_own by
calc_own (calc.MultiplyGiving by what) = operand_own by && operand_own what
calc_own (calc.Divide by) = operand_own by
calc_own (calc.DivideGiving by what) = operand_own by && operand_own what
calc_own (calc.Compute expr) = expr_own expr

-- the target names own items alone
abbrev pub target_own : Target → Bool
target_own target = place_own target.place

-- the subject of the EVALUATE names own items alone
abbrev pub subject_own : Subject → Bool
subject_own (subject.Value expr) = expr_own expr
subject_own _ = true

-- the test of the WHEN names own items alone
abbrev pub test_own : Test → Bool
test_own test.Any = true
test_own (test.Holds cond) = cond_own cond
test_own (test.Value not from to) = expr_own from && option_own expr_own to

-- Statements.

-- one level of a statement names own items
abbrev pub stmt_step : Stmt-F Bool Bool Bool → Bool
stmt_step (Stmt-F.Display items advance) = operands_own items
stmt_step (Stmt-F.Move from to) = operand_own from && places_own to
stmt_step (Stmt-F.Arith calc into arms) = calc_own calc && all (map target_own into) && arms
stmt_step (Stmt-F.SetTrue place) = place_own place
stmt_step (Stmt-F.Read file into arms) = option_own place_own into && arms
stmt_step (Stmt-F.Write entry from) = option_own operand_own from
stmt_step (Stmt-F.Rewrite entry from) = option_own operand_own from
stmt_step (Stmt-F.If cond met unmet) = cond_own cond && all met && all unmet
stmt_step (Stmt-F.Evaluate subject whens other) = subject_own subject && all whens && all_if other
stmt_step (Stmt-F.Loop control body) = control_own control && all body
stmt_step (Stmt-F.Perform entry exit control) = control_own control
stmt_step (Stmt-F.GoDepending to on) = place_own on
stmt_step _ = true

-- one level of a statement's arms names own items
abbrev pub arms_step : Arms-F Bool Bool Bool → Bool
arms_step arms = all_if arms.first && all_if arms.second

-- one level of a WHEN names own items
abbrev pub when_step : When-F Bool Bool Bool → Bool
when_step when = all (map test_own when.tests) && all when.stmts

-- the statement names own items alone
abbrev pub stmt_own : Stmt → Bool
stmt_own = fold-Stmt Bool Bool Bool stmt_step arms_step when_step

-- the arms name own items alone
abbrev pub arms_own : Arms → Bool
arms_own = fold-Arms Bool Bool Bool stmt_step arms_step when_step

-- the WHEN names own items alone
abbrev pub when_own : When → Bool
when_own = fold-When Bool Bool Bool stmt_step arms_step when_step

-- the statements name own items alone
abbrev pub stmts_own : List Stmt → Bool
stmts_own stmts = all (map stmt_own stmts)

-- the sentences name own items alone
abbrev pub sentences_own : List Sentence → Bool
sentences_own sentences = all (map (λ sentence. stmts_own sentence.stmts) sentences)

-- the paragraphs name own items alone
abbrev pub paragraphs_own : List Paragraph → Bool
paragraphs_own paragraphs = all (map (λ paragraph. sentences_own paragraph.sentences) paragraphs)

-- each item number in its statements is below 2^31
abbrev pub NamesOwnItems : Program → Type 0
NamesOwnItems program = IsTrue (paragraphs_own program.paragraphs)
