-- Statements whose parts fit, and in which no required list is empty.
use Rattle.std.specs.Prelude.{ℕ, Bool, true, false, ◌&&◌, List, map}
use Rattle.cob_tree.specs.declared.calc.Calc.{Calc}
use Rattle.cob_tree.specs.declared.calc.Calc.TheVariants as calcs
use Rattle.cob_tree.specs.declared.calc.Target.{Target}
use Rattle.cob_tree.specs.declared.choice.Subject.{Subject}
use Rattle.cob_tree.specs.declared.choice.Subject.TheVariants as subjects
use Rattle.cob_tree.specs.declared.choice.Test.{Test}
use Rattle.cob_tree.specs.declared.choice.Test.TheVariants as tests
use Rattle.cob_tree.specs.declared.control.Control.{Control}
use Rattle.cob_tree.specs.declared.control.Control.TheVariants as controls
use Rattle.cob_tree.specs.declared.file.Opening.{Opening}
use Rattle.cob_tree.specs.declared.place.Expr.{Expr}
use Rattle.cob_tree.specs.declared.place.Operand.{Operand}
use Rattle.cob_tree.specs.declared.place.Place.{Place}
use Rattle.cob_tree.specs.declared.program.Paragraph.{Paragraph}
use Rattle.cob_tree.specs.declared.program.Sentence.{Sentence}
use Rattle.cob_tree.specs.declared.stmt.Arms.{Arms, fold-Arms}
use Rattle.cob_tree.specs.declared.stmt.Stmt.{Stmt, fold-Stmt}
use Rattle.cob_tree.specs.declared.stmt.Stmt.TheOpen.{Stmt-F, Arms-F, When-F}
use Rattle.cob_tree.specs.declared.stmt.When.{When, fold-When}
use Rattle.control_flow_theory.specs.language.All.{all}
use Rattle.program_facts.specs.well_scoped.Part.{is_filled, if_any}
use Rattle.round_trip.specs.fitting_statements.Fits.{Fits}

-- there is one at least, and each passes
abbrev pub some_pass : {X : Type 0} → (X → Bool) → List X → Bool
some_pass test list = is_filled list && all (map test list)

-- there is one statement at least, and each fits
abbrev pub held : List Bool → Bool
held list = is_filled list && all list

module _ (fits : Fits) where
  -- ---- parts

  -- a place that takes this operand
  abbrev pub fit_receiver : Operand → Place → Bool
  fit_receiver from place = fits.receives place && fits.moves from place

  -- a target that passes this test
  abbrev pub fit_target : (Place → Bool) → Target → Bool
  fit_target test target = test target.place

  -- targets that are read and changed, one at least
  abbrev pub fit_targets : List Target → Bool
  fit_targets into = some_pass (fit_target fits.number_place) into

  -- targets that are only set, one at least
  abbrev pub fit_results : List Target → Bool
  fit_results into = some_pass (fit_target fits.result_place) into

  -- operands of arithmetic, one at least
  abbrev pub fit_numbers : List Operand → Bool
  fit_numbers operands = some_pass fits.number operands

  -- arithmetic with its targets
  abbrev pub fit_calc : Calc → List Target → Bool
  fit_calc (calcs.Add operands) into = fit_numbers operands && fit_targets into
  fit_calc (calcs.AddGiving operands) into = fit_numbers operands && fit_results into
  fit_calc (calcs.Subtract operands) into = fit_numbers operands && fit_targets into
  fit_calc (calcs.SubtractGiving operands from) into =
      fit_numbers operands && (fits.number from && fit_results into)
  fit_calc (calcs.Multiply by) into = fits.number by && fit_targets into
  fit_calc (calcs.MultiplyGiving one by) into =
      fits.number one && (fits.number by && fit_results into)
  fit_calc (calcs.Divide by) into = fits.number by && fit_targets into
  fit_calc (calcs.DivideGiving by what) into =
      fits.number by && (fits.number what && fit_results into)
  fit_calc (calcs.Compute expr) into = fits.expr_number expr && fit_results into

  -- how often a PERFORM is done
  abbrev pub fit_control : Control → Bool
  fit_control controls.Once = true
  fit_control (controls.Times count) = fits.whole count
  fit_control (controls.Until after cond) = fits.cond cond
  fit_control (controls.Varying after item from by cond) =
      fits.number_place item && (fits.number from && (fits.number by && fits.cond cond))

  -- how often an inline PERFORM turns passes the tests
  abbrev pub fit_turns : Control → Bool
  fit_turns controls.Once = false
  fit_turns (controls.Times count) = fits.whole count && fits.turns count
  fit_turns (controls.Until after cond) = fit_control (controls.Until after cond)
  fit_turns (controls.Varying after item from by cond) =
      fit_control (controls.Varying after item from by cond)

  -- the subject of EVALUATE passes the tests
  abbrev pub fit_subject : Subject → Bool
  fit_subject subjects.True = true
  fit_subject subjects.False = true
  fit_subject (subjects.Value expr) = fits.expr_value expr

  -- an expression that is compared with the subject
  abbrev pub fit_compared : Expr → Expr → Bool
  fit_compared subject expr = fits.expr_value expr && fits.compares subject expr

  -- a test of a WHEN, under this subject
  abbrev pub fit_test : Subject → Test → Bool
  fit_test subject tests.Any = true
  fit_test (subjects.Value expr) (tests.Value not from to) =
      fit_compared expr from && if_any (fit_compared expr) to
  fit_test (subjects.Value expr) (tests.Holds cond) = false
  fit_test subject (tests.Holds cond) = fits.cond cond
  fit_test subject (tests.Value not from to) = false

  -- the place of INTO, for records of this file
  abbrev pub fit_into : ℕ → Place → Bool
  fit_into file place = fits.receives place && fits.into file place

  -- the operand of FROM, for this record
  abbrev pub fit_from : ℕ → Operand → Bool
  fit_from entry from = fits.value from && fits.writes entry from

  -- the file of an OPEN
  abbrev pub fit_opening : Opening → Bool
  fit_opening opening = fits.file opening.file

  -- ---- statements: a branch fits under a subject

  -- one level of a statement
  abbrev pub stmt_step : Stmt-F Bool Bool (Subject → Bool) → Bool
  stmt_step (Stmt-F.Display items advance) = some_pass fits.value items
  stmt_step (Stmt-F.Move from to) = fits.value from && some_pass (fit_receiver from) to
  stmt_step (Stmt-F.Arith calc into arms) = fit_calc calc into && arms
  stmt_step (Stmt-F.SetTrue place) = fits.condition_place place
  stmt_step (Stmt-F.Opens openings) = some_pass fit_opening openings
  stmt_step (Stmt-F.Closes files) = some_pass fits.file files
  stmt_step (Stmt-F.Read file into arms) =
      fits.file file && (if_any (fit_into file) into && arms)
  stmt_step (Stmt-F.Write entry from) = fits.entry_record entry && if_any (fit_from entry) from
  stmt_step (Stmt-F.Rewrite entry from) = fits.entry_record entry && if_any (fit_from entry) from
  stmt_step (Stmt-F.If cond met unmet) = fits.cond cond && (held met && all unmet)
  stmt_step (Stmt-F.Evaluate subject whens other) =
      fit_subject subject
      && (some_pass (λ (when : Subject → Bool). when subject) whens && if_any held other)
  stmt_step (Stmt-F.Loop control body) = fit_turns control && held body
  stmt_step (Stmt-F.Perform entry exit control) = fits.range entry exit && fit_control control
  stmt_step (Stmt-F.Go to) = fits.label to
  stmt_step (Stmt-F.GoDepending to on) = some_pass fits.label to && fits.whole_place on
  stmt_step _ = true

  -- one level of a statement's arms
  abbrev pub arms_step : Arms-F Bool Bool (Subject → Bool) → Bool
  arms_step arms = if_any held arms.first && if_any held arms.second

  -- one level of a WHEN
  abbrev pub when_step : When-F Bool Bool (Subject → Bool) → Subject → Bool
  when_step when subject = some_pass (fit_test subject) when.tests && held when.stmts

  -- a statement
  abbrev pub fit_stmt : Stmt → Bool
  fit_stmt = fold-Stmt Bool Bool (Subject → Bool) stmt_step arms_step when_step

  -- a statement's arms
  abbrev pub fit_arms : Arms → Bool
  fit_arms = fold-Arms Bool Bool (Subject → Bool) stmt_step arms_step when_step

  -- a WHEN, under this subject
  abbrev pub fit_when : When → Subject → Bool
  fit_when = fold-When Bool Bool (Subject → Bool) stmt_step arms_step when_step

  -- these statements pass
  abbrev pub are_fit_stmts : List Stmt → Bool
  are_fit_stmts list = all (map fit_stmt list)

  -- a sentence
  abbrev pub fit_sentence : Sentence → Bool
  fit_sentence sentence = are_fit_stmts sentence.stmts

  -- these sentences pass
  abbrev pub are_fit_sentences : List Sentence → Bool
  are_fit_sentences sentences = all (map fit_sentence sentences)

  -- a paragraph
  abbrev pub fit_paragraph : Paragraph → Bool
  fit_paragraph paragraph = are_fit_sentences paragraph.sentences

  -- these paragraphs pass
  abbrev pub are_fit_paragraphs : List Paragraph → Bool
  are_fit_paragraphs paragraphs = all (map fit_paragraph paragraphs)
