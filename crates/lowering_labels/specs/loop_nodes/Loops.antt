-- Loops as the tree has them: without a control there is none.
use Rattle.std.specs.Prelude.{ℕ, ◌≡◌, Bool, true, false, if◌then◌else◌, [], ◌∷◌, Option, Some, None}
use Rattle.control_flow_theory.specs.language.Language.{Act, Lower, Above, Control, Times, Until, Varying, Stmts, none, also, Do}
use Rattle.control_flow_theory.specs.semantics.Graph.{Label, Tree, tree, End, Jump, Dead, body_of, end_of}
use Rattle.control_flow_theory.specs.graph_rules.Shapes.{followed}
use Rattle.control_flow_theory.specs.lowering.Lower.{loop_head_label, loop_step_label, loop_back_label, end_alone, by_test, loop_start, node, loop_nodes}

-- the label to which its body comes back
abbrev pub back_by : Option Control → ℕ → Label
back_by None place = loop_head_label place
back_by (Some control) place = loop_back_label control place

-- what comes before its head
abbrev pub start_by : Option Control → ℕ → Stmts
start_by None place = none
start_by (Some control) place = body_of (loop_start control place)

-- statements before a tree
abbrev pub before : Stmts → Tree → Tree
before stmts t = tree (followed stmts (body_of t)) (end_of t)

-- what begins each turn: a loop by TIMES counts it
abbrev pub turn_start : Option Control → ℕ → Stmts
turn_start (Some (Times amount)) place = also (Do (Lower place)) none
turn_start control place = none

-- the tree at its head, by that of a whole turn and the continuation
abbrev pub chosen_by : Option Control → ℕ → Tree → End → Tree
chosen_by None place turn after = end_alone Dead
chosen_by (Some (Times amount)) place turn after = by_test (Above place) turn (end_alone after)
chosen_by (Some (Until false test)) place turn after = by_test test (end_alone after) turn
chosen_by (Some (Until true test)) place turn after = turn
chosen_by (Some (Varying false set step test)) place turn after =
    by_test test (end_alone after) turn
chosen_by (Some (Varying true set step test)) place turn after = turn

-- the tree at the head of a loop by its control and its body
abbrev pub head_by : Option Control → ℕ → Tree → End → Tree
head_by control place body after =
    chosen_by control place (before (turn_start control place) body) after

-- the tree at a loop's step: the step, and then its head
abbrev pub stepped : Act → ℕ → Tree
stepped step place = tree (also (Do step) none) (Jump (loop_head_label place))

-- the loop has a label for its test after the body, or for its step
abbrev pub has_third : Control → Bool
has_third (Times amount) = false
has_third (Until after test) = after
has_third (Varying after set step test) = true

-- the tree there; where it has no such label, Dead
abbrev pub third_by : Option Control → ℕ → End → Tree
third_by None place after = end_alone Dead
third_by (Some (Times amount)) place after = end_alone Dead
third_by (Some (Until false test)) place after = end_alone Dead
third_by (Some (Until true test)) place after =
    by_test test (end_alone after) (end_alone (Jump (loop_head_label place)))
third_by (Some (Varying false set step test)) place after = stepped step place
third_by (Some (Varying true set step test)) place after =
    by_test test (end_alone after) (stepped step place)

-- these are the nodes of a loop
abbrev pub LoopsHaveTheseNodes : Type 0
LoopsHaveTheseNodes =
    (control : Control) (place : ℕ) (body : Tree) (after : End) →
    loop_nodes control place body after
    ≡ node (loop_head_label place) (head_by (Some control) place body after)
    ∷ (if has_third control then node (loop_step_label place) (third_by (Some control) place after)
    ∷ []
    else [])
