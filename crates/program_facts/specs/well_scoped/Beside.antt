-- What is in statements beside operands: conditions, arithmetic, choices and loops.
use Rattle.std.specs.Prelude.{Bool, true, false, ◌&&◌, List, map}
use Rattle.cob_tree.specs.declared.cond.Cond.{Cond, fold-Cond}
use Rattle.cob_tree.specs.declared.cond.Cond.TheOpen.{Cond-F}
use Rattle.cob_tree.specs.declared.control.Control.{Control}
use Rattle.cob_tree.specs.declared.control.Control.TheVariants as control
use Rattle.cob_tree.specs.declared.calc.Calc.{Calc}
use Rattle.cob_tree.specs.declared.calc.Calc.TheVariants as calc
use Rattle.cob_tree.specs.declared.calc.Target.{Target}
use Rattle.cob_tree.specs.declared.choice.Subject.{Subject}
use Rattle.cob_tree.specs.declared.choice.Subject.TheVariants as subject
use Rattle.cob_tree.specs.declared.choice.Test.{Test}
use Rattle.cob_tree.specs.declared.choice.Test.TheVariants as test
use Rattle.cob_tree.specs.declared.place.Operand.{Operand}
use Rattle.control_flow_theory.specs.language.All.{all}
use Rattle.program_facts.specs.well_scoped.Part.{Counts, is_filled, if_any, place_named, operand_named, operands_named, expr_named}

-- the control is TIMES, UNTIL or VARYING
abbrev pub turns : Control → Bool
turns control.Once = false
turns _ = true

-- a test that may be under a subject TRUE or FALSE
abbrev pub is_truth : Test → Bool
is_truth test.Any = true
is_truth (test.Holds cond) = true
is_truth (test.Value not from to) = false

-- the test may be under a value
abbrev pub is_value : Test → Bool
is_value test.Any = true
is_value (test.Holds cond) = false
is_value (test.Value not from to) = true

module _ (counts : Counts) where
  -- one level of a condition
  abbrev pub cond_step : Cond-F Bool → Bool
  cond_step (Cond-F.Relation left rel right) = expr_named counts left && expr_named counts right
  cond_step (Cond-F.Class place kind not) = place_named counts place
  cond_step (Cond-F.SignIs expr kind not) = expr_named counts expr
  cond_step (Cond-F.Named place) = place_named counts place
  cond_step (Cond-F.Not inner) = inner
  cond_step (Cond-F.And left right) = left && right
  cond_step (Cond-F.Or left right) = left && right

  -- what a condition names is there
  abbrev pub cond_named : Cond → Bool
  cond_named = fold-Cond Bool cond_step

  -- what the control of a loop names is there
  abbrev pub control_named : Control → Bool
  control_named control.Once = true
  control_named (control.Times amount) = operand_named counts amount
  control_named (control.Until after until) = cond_named until
  control_named (control.Varying after item from by until) =
      place_named counts item && operand_named counts from && operand_named counts by
      && cond_named until

  -- the operands of ADD or SUBTRACT name what is there, and there is one at least
  abbrev pub added_named : List Operand → Bool
  added_named operands = is_filled operands && operands_named counts operands

  -- what the operands of arithmetic name is there; ADD and SUBTRACT have one at least
  abbrev pub calc_named : Calc → Bool
  calc_named (calc.Add parts) = added_named parts
  calc_named (calc.AddGiving parts) = added_named parts
  calc_named (calc.Subtract parts) = added_named parts
  calc_named (calc.SubtractGiving parts from) = added_named parts && operand_named counts from
  calc_named (calc.Multiply by) = operand_named counts by
  calc_named (calc.MultiplyGiving by what) = operand_named counts by && operand_named counts what
  calc_named (calc.Divide by) = operand_named counts by
  calc_named (calc.DivideGiving by what) = operand_named counts by && operand_named counts what
  calc_named (calc.Compute expr) = expr_named counts expr

  -- what a target names is there
  abbrev pub target_named : Target → Bool
  target_named target = place_named counts target.place

  -- what the subject of an EVALUATE names is there
  abbrev pub subject_named : Subject → Bool
  subject_named subject.True = true
  subject_named subject.False = true
  subject_named (subject.Value expr) = expr_named counts expr

  -- what a test of a WHEN names is there
  abbrev pub test_named : Test → Bool
  test_named test.Any = true
  test_named (test.Holds cond) = cond_named cond
  test_named (test.Value not from to) = expr_named counts from && if_any (expr_named counts) to
