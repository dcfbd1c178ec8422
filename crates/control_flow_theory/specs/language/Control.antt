-- A program as its control: one fold takes each statement of the tree to one of the language.
use Rattle.std.specs.Prelude.{ℕ, zero, suc, ◌-◌, ◌^◌, ◌==◌, ◌||◌, nat_le, Bool, true, false, if◌then◌else◌, List, [], ◌∷◌, length, map, Option, Some, None, is_some}
use Rattle.std.specs.Str.Parse.{digits_value}
use Rattle.cob_tree.specs.declared.number.Number.{Number}
use Rattle.cob_tree.specs.declared.place.Place.{Place, out-Place}
use Rattle.cob_tree.specs.declared.place.Operand.{Operand, out-Operand, roll-Operand}
use Rattle.cob_tree.specs.declared.place.Figure.TheVariants.{Zero}
use Rattle.cob_tree.specs.declared.place.Expr.{Expr, out-Expr, roll-Expr}
use Rattle.cob_tree.specs.declared.place.Expr.TheOpen.{Expr-F, Operand-F}
use Rattle.cob_tree.specs.declared.cond.Cond.{Cond, fold-Cond}
use Rattle.cob_tree.specs.declared.cond.Cond.TheOpen.{Cond-F}
use Rattle.cob_tree.specs.declared.cond.Cond.TheVariants as cond
use Rattle.cob_tree.specs.declared.cond.Rel.{Rel}
use Rattle.cob_tree.specs.declared.cond.Rel.TheVariants.{Equal, Greater}
use Rattle.cob_tree.specs.declared.control.Control.{Control}
use Rattle.cob_tree.specs.declared.control.Control.TheVariants as control
use Rattle.cob_tree.specs.declared.calc.Calc.{Calc}
use Rattle.cob_tree.specs.declared.calc.Calc.TheVariants as calc
use Rattle.cob_tree.specs.declared.calc.Target.{Target}
use Rattle.cob_tree.specs.declared.choice.Subject.{Subject}
use Rattle.cob_tree.specs.declared.choice.Subject.TheVariants as subject
use Rattle.cob_tree.specs.declared.choice.Test.{Test}
use Rattle.cob_tree.specs.declared.choice.Test.TheVariants as test
use Rattle.cob_tree.specs.declared.stmt.Stmt.{Stmt, fold-Stmt}
use Rattle.cob_tree.specs.declared.stmt.Stmt.TheOpen.{Stmt-F, Arms-F, When-F}
use Rattle.cob_tree.specs.declared.stmt.Stmt.TheVariants as stmt
use Rattle.cob_tree.specs.declared.stmt.Arms.{Arms, fold-Arms, roll-Arms}
use Rattle.cob_tree.specs.declared.stmt.When.{When, fold-When}
use Rattle.cob_tree.specs.declared.program.Sentence.{Sentence}
use Rattle.cob_tree.specs.declared.program.Paragraph.{Paragraph}
use Rattle.cob_tree.specs.declared.program.Program.{Program}
use Rattle.control_flow_theory.specs.language.Language as language

-- Added items. An item number from 2^31 upward is a cell, and the words on it are those that
-- restructuring writes.

-- the cell that a place names, if it names one
abbrev pub cell_of : Place → Option ℕ
cell_of place =
    if nat_le (2 ^ 31) (out-Place place).item then Some ((out-Place place).item - 2 ^ 31) else None

-- the cell that an operand names
abbrev pub cell_named : Operand → Option ℕ
cell_named operand = elim (out-Operand operand) [ Operand-F.Place place ↦ cell_of place | _ ↦ None ]

-- a whole number that isn't below zero
abbrev pub number_of : Number → Option ℕ
number_of number =
    if number.negative then None
    else (if number.scale == 0 then Some (digits_value 10 number.digits) else None)

-- it is this number
abbrev pub is_number : ℕ → Option ℕ → Bool
is_number number None = false
is_number number (Some value) = value == number

-- the number that an operand writes
abbrev pub number_written : Operand → Option ℕ
number_written operand =
    elim (out-Operand operand) [ Operand-F.Number number ↦ number_of number | _ ↦ None ]

-- the cell that an expression names, if it is an operand alone
abbrev pub cell_in : Expr → Option ℕ
cell_in expr = elim (out-Expr expr) [ Expr-F.Leaf operand ↦ cell_named operand | _ ↦ None ]

-- the number that an expression writes, if it is an operand alone
abbrev pub number_in : Expr → Option ℕ
number_in expr = elim (out-Expr expr) [ Expr-F.Leaf operand ↦ number_written operand | _ ↦ None ]

-- Conditions.

-- a relation of a cell: it holds a number, or is above zero
abbrev pub relation_of : Option ℕ → Rel → Option ℕ → Cond → language.Test
relation_of (Some cell) Equal (Some value) whole = language.Is cell value
relation_of (Some cell) Greater (Some zero) whole = language.Above cell
relation_of cell rel value whole = language.Holds whole

-- a condition, and the test that it is
pub record Tested : Type 0 where
  pub cond : Cond
  pub test : language.Test

-- a condition that is no test of a cell
abbrev pub held : Cond → Tested
held whole = record { cond = whole; test = language.Holds whole }

-- one level of a condition: the condition again, and the test that it is
abbrev pub tested_step : Cond-F Tested → Tested
tested_step (Cond-F.Relation left rel right) = record {
  cond = cond.Relation left rel right;
  test = relation_of (cell_in left) rel (number_in right) (cond.Relation left rel right);
}
tested_step (Cond-F.Class place kind not) = held (cond.Class place kind not)
tested_step (Cond-F.SignIs expr kind not) = held (cond.SignIs expr kind not)
tested_step (Cond-F.Named place) = held (cond.Named place)
tested_step (Cond-F.Not inner) =
    record { cond = cond.Not inner.cond; test = language.Not inner.test }
tested_step (Cond-F.And left right) = held (cond.And left.cond right.cond)
tested_step (Cond-F.Or left right) = held (cond.Or left.cond right.cond)

-- the condition again, with the test that it is
abbrev pub tested : Cond → Tested
tested = fold-Cond Tested tested_step

-- a condition is a test
abbrev pub test_of : Cond → language.Test
test_of whole = (tested whole).test

-- Statements that act.

-- the act of a MOVE to a cell: it sets it to a number, or takes what an operand holds
abbrev pub setting : Option ℕ → Operand → ℕ → language.Act
setting (Some value) from cell = language.Set cell value
setting None from cell = language.Take cell from

-- a MOVE to one place: to a cell, or to an item of the program
abbrev pub move_to : Option ℕ → Operand → Place → language.Act
move_to None from to = language.Own (stmt.Move from (to ∷ []))
move_to (Some cell) from to = setting (number_written from) from cell

-- a MOVE; one to several places is the program's own
abbrev pub move_of : Operand → List Place → language.Act
move_of from (to ∷ []) = move_to (cell_of to) from to
move_of from to = language.Own (stmt.Move from to)

-- no phrases
abbrev pub bare : Arms
bare = roll-Arms (record { first = None; second = None })

-- arithmetic without phrases
abbrev pub arith_alone : Calc → List Target → Stmt
arith_alone calc into = stmt.Arith calc into bare

-- the cell that SUBTRACT 1 FROM it lowers, if it does
abbrev pub lowered_cell : Calc → List Target → Option ℕ
lowered_cell (calc.Subtract (part ∷ [])) (target ∷ []) =
    if target.rounded then None
    else (if is_number 1 (number_written part) then cell_of target.place else None)
lowered_cell calc into = None

-- arithmetic that lowers this cell, or is the program's own
abbrev pub arith_act : Option ℕ → Calc → List Target → language.Act
arith_act (Some cell) calc into = language.Lower cell
arith_act None calc into = language.Own (arith_alone calc into)

-- arithmetic without phrases as an act
abbrev pub arith_of : Calc → List Target → language.Act
arith_of calc into = arith_act (lowered_cell calc into) calc into

-- Choices.

-- the number alone that a WHEN tests
abbrev pub when_number : List Test → Option ℕ
when_number (test.Value false from None ∷ []) = number_in from
when_number tests = None

-- the WHENs test this number and those that follow it
abbrev pub count_from : ℕ → List (List Test) → Bool
count_from number [] = true
count_from number (tests ∷ others) =
    if is_number number (when_number tests) then count_from (suc number) others else false

-- the cell that is the subject of an EVALUATE, if one is
abbrev pub cell_chosen : Subject → Option ℕ
cell_chosen (subject.Value expr) = cell_in expr
cell_chosen other = None

-- what EVALUATE chooses by: a cell, where the WHENs count from 1, else the chooser
abbrev pub picker_by : Option ℕ → Bool → language.Chooser → language.Picker
picker_by (Some cell) true chooser = language.ByCell cell
picker_by cell counted chooser = language.By chooser

-- what EVALUATE chooses by: a cell whose WHENs count from 1, or else the program's own choice
abbrev pub evaluate_of : Subject → List (List Test) → Bool → language.Picker
evaluate_of subject tests has_other =
    picker_by (cell_chosen subject) (count_from 1 tests) (language.Evaluate subject tests has_other)

-- Lists and arms.

-- a list of statements
abbrev pub stmts_of : List language.Stmt → language.Stmts
stmts_of [] = language.none
stmts_of (stmt ∷ stmts) = language.also stmt (stmts_of stmts)

-- statements that may be absent
abbrev pub stmts_if_any : Option (List language.Stmt) → Option language.Stmts
stmts_if_any None = None
stmts_if_any (Some stmts) = Some (stmts_of stmts)

-- an arm that may be missing, before the others
abbrev pub arm_before : Option language.Stmts → language.Arms → language.Arms
arm_before None others = language.missing others
arm_before (Some arm) others = language.given arm others

-- an empty ELSE is missing
abbrev pub else_of : List language.Stmt → Option language.Stmts
else_of [] = None
else_of (stmt ∷ stmts) = Some (stmts_of (stmt ∷ stmts))

-- a WHEN: its tests, and its statements
pub record Branch : Type 0 where
  pub tests : List Test
  -- the statements
  pub arm : language.Stmts

-- the tests of each WHEN
abbrev pub tests_of : List Branch → List (List Test)
tests_of branches = map (λ branch. branch.tests) branches

-- the arms of the WHENs, before the others
abbrev pub branches_before : List Branch → language.Arms → language.Arms
branches_before [] others = others
branches_before (branch ∷ branches) others =
    language.given branch.arm (branches_before branches others)

-- the two arms of a READ or of arithmetic
pub record Both : Type 0 where
  pub first : Option language.Stmts
  pub second : Option language.Stmts

-- the two arms, each of which may be missing
abbrev pub both_arms : Both → language.Arms
both_arms both = arm_before both.first (arm_before both.second language.done)

-- arithmetic: with a phrase it chooses, and without one it acts
abbrev pub arith_stmt : Calc → List Target → Both → language.Stmt
arith_stmt calc into both =
    if is_some both.first || is_some both.second
    then language.Choose (language.By (language.Arith calc into)) (both_arms both)
    else language.Do (arith_of calc into)

-- Loops.

-- the figurative constant ZERO as an expression
abbrev pub zero_side : Expr
zero_side = roll-Expr (Expr-F.Leaf (roll-Operand (Operand-F.Figure Zero)))

-- zero is zero
abbrev pub always : Cond
always = cond.Relation zero_side Equal zero_side

-- VARYING sets its item by a MOVE
abbrev pub setting_item : Place → Operand → language.Act
setting_item item from = language.Own (stmt.Move from (item ∷ []))

-- the ADD by which VARYING augments its item
abbrev pub augmenting : Place → Operand → Stmt
augmenting item by =
    arith_alone (calc.Add (by ∷ [])) (record { place = item; rounded = false } ∷ [])

-- VARYING's ADD as an act
abbrev pub augmented : Place → Operand → language.Act
augmented item by = language.Own (augmenting item by)

-- how a loop turns; none without TIMES, UNTIL and VARYING
abbrev pub control_in : Control → Option language.Control
control_in control.Once = None
control_in (control.Times amount) = Some (language.Times amount)
control_in (control.Until after until) = Some (language.Until after (test_of until))
control_in (control.Varying after item from by until) =
    Some (language.Varying after (setting_item item from) (augmented item by) (test_of until))

-- an inline loop over these statements; without a control it is a choice of one arm
abbrev pub loop_of : Option language.Control → language.Stmts → language.Stmt
loop_of None body =
    language.Choose (language.If (language.Holds always)) (language.given body language.done)
loop_of (Some control) body = language.Loop control (language.Nested body)

-- a PERFORM of a range: a call, or a loop over it
abbrev pub perform_of : Option language.Control → ℕ → ℕ → language.Stmt
perform_of None entry exit = language.Perform entry exit
perform_of (Some control) entry exit = language.Loop control (language.Performed entry exit)

-- Statements, in a section whose last paragraph is this one.

-- one level of a statement: the statement of the language that it is
abbrev pub seen_step : ℕ → Stmt-F language.Stmt Both Branch → language.Stmt
seen_step last (Stmt-F.Arith calc into both) = arith_stmt calc into both
seen_step last (Stmt-F.Move from to) = language.Do (move_of from to)
seen_step last (Stmt-F.Read file into both) =
    language.Choose (language.By (language.Read file into (is_some both.first))) (both_arms both)
seen_step last (Stmt-F.If cond met unmet) =
    language.Choose (language.If (test_of cond))
    (language.given (stmts_of met) (arm_before (else_of unmet) language.done))
seen_step last (Stmt-F.Evaluate subject branches other) =
    language.Choose (evaluate_of subject (tests_of branches) (is_some other))
    (branches_before branches (arm_before (stmts_if_any other) language.done))
seen_step last (Stmt-F.Loop control body) = loop_of (control_in control) (stmts_of body)
seen_step last (Stmt-F.Perform entry exit control) = perform_of (control_in control) entry exit
seen_step last (Stmt-F.Go to) = language.Go to
seen_step last (Stmt-F.GoDepending to on) =
    language.GoDepending to (language.Depending on (length to))
seen_step last Stmt-F.NextSentence = language.NextSentence
seen_step last Stmt-F.StopRun = language.StopRun
seen_step last Stmt-F.ExitParagraph = language.ExitParagraph
seen_step last Stmt-F.ExitSection = language.ExitSection last
seen_step last (Stmt-F.ExitPerform cycle) = language.ExitPerform cycle
seen_step last (Stmt-F.Display items advance) =
    language.Do (language.Own (stmt.Display items advance))
seen_step last (Stmt-F.SetTrue place) = language.Do (language.Own (stmt.SetTrue place))
seen_step last (Stmt-F.Opens openings) = language.Do (language.Own (stmt.Opens openings))
seen_step last (Stmt-F.Closes files) = language.Do (language.Own (stmt.Closes files))
seen_step last (Stmt-F.Write entry from) = language.Do (language.Own (stmt.Write entry from))
seen_step last (Stmt-F.Rewrite entry from) = language.Do (language.Own (stmt.Rewrite entry from))
seen_step last Stmt-F.Exit = language.Do (language.Own stmt.Exit)
seen_step last Stmt-F.Continue = language.Do (language.Own stmt.Continue)

-- the two arms of a statement, of which either may be absent
abbrev pub both_step : Arms-F language.Stmt Both Branch → Both
both_step arms = record { first = stmts_if_any arms.first; second = stmts_if_any arms.second }

-- a WHEN with the statements of its arm
abbrev pub branch_step : When-F language.Stmt Both Branch → Branch
branch_step when = record { tests = when.tests; arm = stmts_of when.stmts }

-- a statement of the tree as one of the language
abbrev pub seen : ℕ → Stmt → language.Stmt
seen last = fold-Stmt language.Stmt Both Branch (seen_step last) both_step branch_step

-- a WHEN of the tree, with its arm in the language
abbrev pub seen_when : ℕ → When → Branch
seen_when last = fold-When language.Stmt Both Branch (seen_step last) both_step branch_step

-- the two arms of a statement of the tree, in the language
abbrev pub seen_both : ℕ → Arms → Both
seen_both last = fold-Arms language.Stmt Both Branch (seen_step last) both_step branch_step

-- statements of the tree in the language
abbrev pub seen_stmts : ℕ → List Stmt → language.Stmts
seen_stmts last stmts = stmts_of (map (seen last) stmts)

-- Paragraphs.

-- a sentence of the tree in the language
abbrev pub seen_sentence : ℕ → Sentence → language.Sentence
seen_sentence last sentence = seen_stmts last sentence.stmts

-- a paragraph of the tree in the language
abbrev pub seen_paragraph : ℕ → Paragraph → language.Paragraph
seen_paragraph last paragraph = map (seen_sentence last) paragraph.sentences

-- the last paragraph of the section of the paragraph with this number, by those after it
abbrev pub section_last : ℕ → List Paragraph → ℕ
section_last number [] = number
section_last number (next ∷ others) =
    if is_some next.section then number else section_last (suc number) others

-- paragraphs, the first of which has this number
abbrev pub seen_paragraphs : ℕ → List Paragraph → List language.Paragraph
seen_paragraphs number [] = []
seen_paragraphs number (paragraph ∷ others) =
    seen_paragraph (section_last number others) paragraph ∷ seen_paragraphs (suc number) others

-- a program as far as control goes
abbrev pub control_of : Program → language.Program
control_of program = record { paragraphs = seen_paragraphs 0 program.paragraphs }
