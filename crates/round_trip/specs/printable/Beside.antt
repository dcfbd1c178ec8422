-- Conditions, arithmetic, choices and loops that can be printed.
use Rattle.std.specs.Prelude.{Bool, true, ◌&&◌}
use Rattle.cob_tree.specs.declared.calc.Calc.{Calc}
use Rattle.cob_tree.specs.declared.calc.Calc.TheVariants as calc
use Rattle.cob_tree.specs.declared.calc.Target.{Target}
use Rattle.cob_tree.specs.declared.choice.Subject.{Subject}
use Rattle.cob_tree.specs.declared.choice.Subject.TheVariants as subject
use Rattle.cob_tree.specs.declared.choice.Test.{Test}
use Rattle.cob_tree.specs.declared.choice.Test.TheVariants as test
use Rattle.cob_tree.specs.declared.cond.Cond.{Cond, fold-Cond}
use Rattle.cob_tree.specs.declared.cond.Cond.TheOpen.{Cond-F}
use Rattle.cob_tree.specs.declared.control.Control.{Control}
use Rattle.cob_tree.specs.declared.control.Control.TheVariants as control
use Rattle.program_facts.specs.well_scoped.Part.{if_any}
use Rattle.round_trip.specs.printable.Part.{is_printable_place, is_printable_operand, are_printable_operands, is_printable_expr}

-- one level of a condition
abbrev pub cond_step : Cond-F Bool → Bool
cond_step (Cond-F.Relation left rel right) = is_printable_expr left && is_printable_expr right
cond_step (Cond-F.Class place kind not) = is_printable_place place
cond_step (Cond-F.SignIs expr kind not) = is_printable_expr expr
cond_step (Cond-F.Named place) = is_printable_place place
cond_step (Cond-F.Not inner) = inner
cond_step (Cond-F.And left right) = left && right
cond_step (Cond-F.Or left right) = left && right

-- a condition
abbrev pub is_printable_cond : Cond → Bool
is_printable_cond = fold-Cond Bool cond_step

-- the control of a loop
abbrev pub is_printable_control : Control → Bool
is_printable_control control.Once = true
is_printable_control (control.Times amount) = is_printable_operand amount
is_printable_control (control.Until after until) = is_printable_cond until
is_printable_control (control.Varying after item from by until) =
    is_printable_place item && is_printable_operand from && is_printable_operand by
    && is_printable_cond until

-- the operands of arithmetic
abbrev pub is_printable_calc : Calc → Bool
is_printable_calc (calc.Add parts) = are_printable_operands parts
is_printable_calc (calc.AddGiving parts) = are_printable_operands parts
is_printable_calc (calc.Subtract parts) = are_printable_operands parts
is_printable_calc (calc.SubtractGiving parts from) =
    are_printable_operands parts && is_printable_operand from
is_printable_calc (calc.Multiply by) = is_printable_operand by
is_printable_calc (calc.MultiplyGiving by what) =
    is_printable_operand by && is_printable_operand what
is_printable_calc (calc.Divide by) = is_printable_operand by
is_printable_calc (calc.DivideGiving by what) =
    is_printable_operand by && is_printable_operand what
is_printable_calc (calc.Compute expr) = is_printable_expr expr

-- a target
abbrev pub is_printable_target : Target → Bool
is_printable_target target = is_printable_place target.place

-- the subject of EVALUATE
abbrev pub is_printable_subject : Subject → Bool
is_printable_subject subject.True = true
is_printable_subject subject.False = true
is_printable_subject (subject.Value expr) = is_printable_expr expr

-- a test of a WHEN
abbrev pub is_printable_test : Test → Bool
is_printable_test test.Any = true
is_printable_test (test.Holds cond) = is_printable_cond cond
is_printable_test (test.Value not from to) =
    is_printable_expr from && if_any is_printable_expr to
