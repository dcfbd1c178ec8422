-- Which arm IF and EVALUATE take.
use Rattle.std.specs.Prelude.{ℕ, suc, Bool, true, false, not, if◌then◌else◌, List, [], ◌∷◌, Option, Some, None, Ok}
use Rattle.std.specs.Ordering.{is_eq, is_le, is_ge}
use Rattle.cob_tree.specs.declared.cond.Cond.{Cond}
use Rattle.cob_tree.specs.declared.entry.Entry.{Entry}
use Rattle.cob_tree.specs.declared.place.Expr.{Expr}
use Rattle.cob_tree.specs.declared.choice.Subject.{Subject}
use Rattle.cob_tree.specs.declared.choice.Subject.TheVariants as subjects
use Rattle.cob_tree.specs.declared.choice.Test.{Test}
use Rattle.cob_tree.specs.declared.choice.Test.TheVariants as tests
use Rattle.cob_store.specs.Answer.{Answer, and_then}
use Rattle.cob_store.specs.Place.{Memory}
use Rattle.meanings.specs.statements.Side.{Side, expr_side, compared}
use Rattle.meanings.specs.statements.Condition.{holds, turned}

-- the arms count from 1
abbrev pub if_chosen : List Entry → Memory → Cond → Answer ℕ
if_chosen entries memory cond =
    and_then (holds cond entries memory) (λ test. Ok (if test then 1 else 2))

-- the subject as it was read: a truth, or one side of a comparison
pub data Asked : Type 0 where
  Truth : Bool → Asked
  Beside : Side → Asked

-- the subject, read once
abbrev pub asked : Memory → Subject → Answer Asked
asked memory subjects.True = Ok (Truth true)
asked memory subjects.False = Ok (Truth false)
asked memory (subjects.Value expr) = and_then (expr_side memory expr) (λ side. Ok (Beside side))

-- the subject equals the value, or is between the two, both included
abbrev pub in_range : Memory → Side → Expr → Option Expr → Answer Bool
in_range memory side from None =
    and_then (expr_side memory from) (λ low. and_then (compared side low) (λ order.
    Ok (is_eq order)))
in_range memory side from (Some to) =
    and_then (expr_side memory from) (λ low. and_then (expr_side memory to) (λ high.
    and_then (compared side low) (λ order.
    if is_ge order then and_then (compared side high) (λ upper. Ok (is_le upper)) else Ok false)))

-- the test holds just where EVALUATE asks for it
abbrev pub same_truth : Bool → Bool → Bool
same_truth true test = test
same_truth false test = not test

-- one test of a WHEN holds of the subject
abbrev pub test_holds : List Entry → Memory → Asked → Test → Answer Bool
test_holds entries memory subject tests.Any = Ok true
test_holds entries memory (Truth truth) (tests.Holds cond) =
    and_then (holds cond entries memory) (λ test. Ok (same_truth truth test))
test_holds entries memory (Beside side) (tests.Value turn from to) =
    and_then (in_range memory side from to) (λ test. Ok (turned turn test))
test_holds entries memory _ _ = Ok false

-- one of the tests of a WHEN holds; the later ones aren't looked at
abbrev pub one_holds : List Entry → Memory → Asked → List Test → Answer Bool
one_holds entries memory subject [] = Ok false
one_holds entries memory subject (test ∷ others) =
    and_then (test_holds entries memory subject test) (λ here.
    if here then Ok true else one_holds entries memory subject others)

-- the number of the first WHEN of which a test holds; where there is none, the number after the
-- last
abbrev pub when_chosen : List Entry → Memory → Asked → ℕ → List (List Test) → Answer ℕ
when_chosen entries memory subject number [] = Ok number
when_chosen entries memory subject number (when ∷ whens) =
    and_then (one_holds entries memory subject when) (λ here.
    if here then Ok number else when_chosen entries memory subject (suc number) whens)

-- the arm that EVALUATE takes, from 1
abbrev pub evaluated : List Entry → Memory → Subject → List (List Test) → Answer ℕ
evaluated entries memory subject whens =
    and_then (asked memory subject) (λ read. when_chosen entries memory read 1 whens)
