-- How many terms the largest condition or expression has in what statements are made of.
use Rattle.std.specs.Prelude.{ℕ, max, List, map}
use Rattle.cob_tree.specs.Depth.{largest}
use Rattle.cob_tree.specs.declared.calc.Calc.{Calc}
use Rattle.cob_tree.specs.declared.calc.Calc.TheVariants as calc
use Rattle.cob_tree.specs.declared.calc.Target.{Target}
use Rattle.cob_tree.specs.declared.choice.Subject.{Subject}
use Rattle.cob_tree.specs.declared.choice.Subject.TheVariants as subject
use Rattle.cob_tree.specs.declared.choice.Test.{Test}
use Rattle.cob_tree.specs.declared.choice.Test.TheVariants as test
use Rattle.cob_tree.specs.declared.control.Control.{Control}
use Rattle.cob_tree.specs.declared.control.Control.TheVariants as control
use Rattle.program_facts.specs.term_counts.Condition.{cond_terms}
use Rattle.program_facts.specs.term_counts.Expression.{if_any, expr_terms, place_most, operand_most, operands_most}

-- the largest in a loop's control
abbrev pub control_most : Control → ℕ
control_most control.Once = 0
control_most (control.Times amount) = operand_most amount
control_most (control.Until after until) = cond_terms until
control_most (control.Varying after item from by until) =
    max (max (place_most item) (max (operand_most from) (operand_most by))) (cond_terms until)

-- the largest in the operands of arithmetic
abbrev pub calc_most : Calc → ℕ
calc_most (calc.Add parts) = operands_most parts
calc_most (calc.AddGiving parts) = operands_most parts
calc_most (calc.Subtract parts) = operands_most parts
calc_most (calc.SubtractGiving parts from) = max (operands_most parts) (operand_most from)
calc_most (calc.Multiply by) = operand_most by
calc_most (calc.MultiplyGiving by what) = max (operand_most by) (operand_most what)
calc_most (calc.Divide by) = operand_most by
calc_most (calc.DivideGiving by what) = max (operand_most by) (operand_most what)
calc_most (calc.Compute expr) = expr_terms expr

-- the largest in a target
abbrev pub target_most : Target → ℕ
target_most target = place_most target.place

-- the largest in these targets
abbrev pub targets_most : List Target → ℕ
targets_most targets = largest (map target_most targets)

-- the largest in the subject of an EVALUATE
abbrev pub subject_most : Subject → ℕ
subject_most (subject.Value expr) = expr_terms expr
subject_most _ = 0

-- the largest in a test of a WHEN
abbrev pub test_most : Test → ℕ
test_most test.Any = 0
test_most (test.Holds cond) = cond_terms cond
test_most (test.Value not from to) = max (expr_terms from) (if_any expr_terms to)

-- the largest in these tests
abbrev pub tests_most : List Test → ℕ
tests_most tests = largest (map test_most tests)
