-- The statement that control sees, read back.
use Rattle.std.proofs.Common.{ℕ, Bool, List, [], ◌∷◌, Option, Some, None}
use Rattle.cob_tree.specs.declared.calc.Calc.TheVariants as calc
use Rattle.cob_tree.specs.declared.choice.Test.{Test}
use Rattle.cob_tree.specs.declared.cond.Cond.{Cond}
use Rattle.cob_tree.specs.declared.cond.Cond.TheVariants as cond
use Rattle.cob_tree.specs.declared.control.Control.{Control}
use Rattle.cob_tree.specs.declared.control.Control.TheVariants as control
use Rattle.cob_tree.specs.declared.stmt.Stmt.{Stmt, out-Stmt}
use Rattle.cob_tree.specs.declared.stmt.Stmt.TheOpen.{Stmt-F}
use Rattle.cob_tree.specs.declared.stmt.Stmt.TheVariants as stmt
use Rattle.cob_tree.specs.declared.stmt.Arms.{Arms, roll-Arms}
use Rattle.cob_tree.specs.declared.stmt.When.{When, roll-When}
use Rattle.control_flow_theory.specs.language.Language as language
use Rattle.control_flow_theory.specs.language.Control.{always}

abbrev pub cond_of : language.Test → Cond
cond_of (language.Holds whole) = whole
cond_of (language.Not test) = cond.Not (cond_of test)
cond_of (language.Is cell value) = always
cond_of (language.Above cell) = always

abbrev pub simple_of : language.Act → Stmt
simple_of (language.Own simple) = simple
simple_of act = stmt.Continue

-- VARYING by its MOVE and its ADD
abbrev pub varying_by : Bool → Stmt-F Stmt Arms When → Stmt-F Stmt Arms When → Cond → Control
varying_by after (Stmt-F.Move from (item ∷ [])) (Stmt-F.Arith (calc.Add (by ∷ [])) into arms) until = control.Varying after item from by until
varying_by after set step until = control.Once

abbrev pub control_back : language.Control → Control
control_back (language.Times amount) = control.Times amount
control_back (language.Until after test) = control.Until after (cond_of test)
control_back (language.Varying after set step test) = varying_by after (out-Stmt (simple_of set)) (out-Stmt (simple_of step)) (cond_of test)

-- a list that may be absent; none where it is
abbrev pub all_or_none : Option (List Stmt) → List Stmt
all_or_none None = []
all_or_none (Some stmts) = stmts

-- WHENs and WHEN OTHER, by the tests of each WHEN
pub record Parts : Type 0 where
  pub whens : List When
  pub other : Option (List Stmt)

abbrev pub when_before : List Test → Option (List Stmt) → Parts → Parts
when_before tests arm parts = record { whens = roll-When (record { tests = tests; stmts = all_or_none arm }) ∷ parts.whens; other = parts.other }

abbrev pub parts_of : List (List Test) → List (Option (List Stmt)) → Parts
parts_of [] [] = record { whens = []; other = None }
parts_of [] (other ∷ arms) = record { whens = []; other = other }
parts_of (tests ∷ more) [] = record { whens = []; other = None }
parts_of (tests ∷ more) (arm ∷ arms) = when_before tests arm (parts_of more arms)

abbrev pub both_back : List (Option (List Stmt)) → Arms
both_back (first ∷ second ∷ []) = roll-Arms (record { first = first; second = second })
both_back arms = roll-Arms (record { first = None; second = None })

abbrev pub if_back : Cond → List (Option (List Stmt)) → Stmt
if_back test (body ∷ []) = stmt.Loop control.Once (all_or_none body)
if_back test (met ∷ unmet ∷ []) = stmt.If test (all_or_none met) (all_or_none unmet)
if_back test arms = stmt.Continue

abbrev pub chosen_back : language.Picker → List (Option (List Stmt)) → Stmt
chosen_back (language.If test) arms = if_back (cond_of test) arms
chosen_back (language.By (language.Evaluate subject tests has_other)) arms = stmt.Evaluate subject (parts_of tests arms).whens (parts_of tests arms).other
chosen_back (language.By (language.Read file into has_end)) arms = stmt.Read file into (both_back arms)
chosen_back (language.By (language.Arith calc into)) arms = stmt.Arith calc into (both_back arms)
chosen_back picker arms = stmt.Continue

abbrev pub depending_back : List ℕ → language.Chooser → Stmt
depending_back to (language.Depending on names) = stmt.GoDepending to on
depending_back to chooser = stmt.Continue

abbrev mutual
  pub unseen : language.Stmt → Stmt
  unseen (language.Do act) = simple_of act
  unseen (language.Choose picker arms) = chosen_back picker (unseen_arms arms)
  unseen (language.Loop control body) = unseen_loop (control_back control) body
  unseen (language.Perform entry exit) = stmt.Perform entry exit control.Once
  unseen (language.Go to) = stmt.Go to
  unseen (language.GoDepending to on) = depending_back to on
  unseen language.NextSentence = stmt.NextSentence
  unseen language.ExitParagraph = stmt.ExitParagraph
  unseen (language.ExitSection last) = stmt.ExitSection
  unseen (language.ExitPerform cycle) = stmt.ExitPerform cycle
  unseen language.StopRun = stmt.StopRun

  pub unseen_stmts : language.Stmts → List Stmt
  unseen_stmts language.none = []
  unseen_stmts (language.also stmt stmts) = unseen stmt ∷ unseen_stmts stmts

  pub unseen_arms : language.Arms → List (Option (List Stmt))
  unseen_arms language.done = []
  unseen_arms (language.given arm others) = Some (unseen_stmts arm) ∷ unseen_arms others
  unseen_arms (language.missing others) = None ∷ unseen_arms others

  pub unseen_loop : Control → language.Body → Stmt
  unseen_loop control (language.Nested stmts) = stmt.Loop control (unseen_stmts stmts)
  unseen_loop control (language.Performed entry exit) = stmt.Perform entry exit control
