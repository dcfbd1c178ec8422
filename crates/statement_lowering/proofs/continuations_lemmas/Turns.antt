-- What a graph has at the labels of a statement that has its nodes.
use Rattle.std.proofs.Common.{◌≡◌, ℕ, ◌+◌, ◌*◌, ◌≤◌, ◌<◌, Bool, true, false, if◌then◌else◌, [], ◌∷◌, ◌++◌, Some, refl, ap, ◌∙◌, arith}
use Rattle.control_flow_theory.specs.language.Language.{Control, Times, Until, Varying, Stmt, Do, Choose, Loop, Perform, Go, GoDepending, NextSentence, ExitParagraph, ExitSection, ExitPerform, StopRun, Stmts, also, Nested, Performed}
use Rattle.control_flow_theory.specs.semantics.Graph.{Label, Tree, End, Jump}
use Rattle.control_flow_theory.specs.lowering.FlowFacts.{FlowFacts}
use Rattle.control_flow_theory.specs.lowering.Completes.{size, sizes}
use Rattle.control_flow_theory.specs.lowering.Lower.{loop_back_label, build, loop_head_label, loop_step_label, point, leaf, EscapeTargets, loop_nodes, node, nodes, nodes_in, nodes_of_arms, end_alone, within_loop}
use Rattle.control_flow_theory.specs.lowering.Lowered.{find}
use Rattle.lowering_labels.specs.loop_nodes.Loops.{head_by, has_third, third_by}
use Rattle.lowering_labels.proofs.loop_nodes_lemmas.NodeRows.{nodes_are}
use Rattle.statement_lowering.specs.LoopParts.{body_tree, loop_at}
use Rattle.statement_lowering.specs.continuations.Statements.{Agrees, turn_by}
use Rattle.statement_lowering.proofs.continuations_lemmas.Within.{within-le, within-in, within-nodes, within-arms, within-loop, find_below, find_first, find_left, find_other, agrees_first, agrees_right, agrees_behind}

abbrev turn_label : Bool → ℕ → Label
turn_label is_head place = if is_head then loop_head_label place else loop_step_label place

above : (is_head : Bool) (place : ℕ) → 3 * place < turn_label is_head place
above true place = omega arith
above false place = omega arith

below : (is_head : Bool) (place : ℕ) → turn_label is_head place < 3 * (place + 1)
below true place = omega arith
below false place = omega arith

-- of the nodes of a loop
third_row : (control : Control) (place : ℕ) (after : End) →
    find (loop_step_label place) (if has_third control then node (loop_step_label place) (third_by (Some control) place after) ∷ [] else []) ≡ third_by (Some control) place after
third_row (Times amount) place after = refl
third_row (Until false test) place after = refl
third_row (Until true test) place after = find_first (node (loop_step_label place) (third_by (Some (Until true test)) place after)) []
third_row (Varying false set step test) place after = find_first (node (loop_step_label place) (third_by (Some (Varying false set step test)) place after)) []
third_row (Varying true set step test) place after = find_first (node (loop_step_label place) (third_by (Some (Varying true set step test)) place after)) []

abbrev loop_tree : Bool → Control → ℕ → Tree → End → Tree
loop_tree true control place body after = head_by (Some control) place body after
loop_tree false control place body after = third_by (Some control) place after

loop_row : (is_head : Bool) (control : Control) (place : ℕ) (body : Tree) (after : End) → find (turn_label is_head place) (loop_nodes control place body after) ≡ loop_tree is_head control place body after
loop_row true control place body after =
    ap (find (loop_head_label place)) (nodes_are control place body after)
    ∙ find_first (node (loop_head_label place) (head_by (Some control) place body after)) (if has_third control then node (loop_step_label place) (third_by (Some control) place after) ∷ [] else [])
loop_row false control place body after =
    ap (find (loop_step_label place)) (nodes_are control place body after)
    ∙ find_other (loop_step_label place) (node (loop_head_label place) (head_by (Some control) place body after)) (if has_third control then node (loop_step_label place) (third_by (Some control) place after) ∷ [] else []) (omega arith)
    ∙ third_row control place after

-- as the tree of a loop has it
loops_alike : (told : FlowFacts) (place_of : ℕ → ℕ) (is_head : Bool) (control : Control) (body : Stmts) (place : ℕ) (leaving : EscapeTargets) (after : End) →
    loop_tree is_head control place (body_tree told place_of (Some control) body place leaving after) after ≡ loop_at told place_of is_head (Some control) body place leaving after
loops_alike told place_of true control body place leaving after = refl
loops_alike told place_of false control body place leaving after = refl

module _ (told : FlowFacts) (place_of : ℕ → ℕ) (is_head : Bool) (others : Stmts) (place : ℕ) (leaving : EscapeTargets) (after : End) (behind : Tree) where
  -- of those of a statement
  turn_row : (built : Tree) (stmt : Stmt) →
      find (turn_label is_head place) (nodes_in told place_of stmt place leaving (leaf told place_of others (place + size stmt) after) built)
      ≡ turn_by told place_of is_head (also stmt others) place leaving after
  turn_row built (Do act) = refl
  turn_row built (Choose picker arms) =
      find_below (turn_label is_head place) (3 * (place + 1)) _ (nodes_of_arms told place_of arms (place + 1) leaving (leaf told place_of others (place + size (Choose picker arms)) after) built)
      (within-arms told place_of arms (place + 1) leaving (leaf told place_of others (place + size (Choose picker arms)) after) built) (below is_head place)
  turn_row built (Loop control (Nested body)) =
      let next = leaf told place_of others (place + size (Loop control (Nested body))) after in
      let turn = Jump (loop_back_label control place) in
      let inner = within_loop leaving next turn in
      let body_built = build told place_of body (place + 1) inner turn (end_alone turn) in
      find_left (turn_label is_head place) (3 * place + 1) (3 * (place + 1)) _ (loop_nodes control place body_built next) (nodes told place_of body (place + 1) inner turn (end_alone turn))
      (within-loop control place body_built next) (within-nodes told place_of body (place + 1) inner turn (end_alone turn)) (below is_head place)
      ∙ loop_row is_head control place body_built next
      ∙ loops_alike told place_of is_head control body place leaving next
  turn_row built (Loop control (Performed entry exit)) = refl
  turn_row built (Perform entry exit) = refl
  turn_row built (Go to) = refl
  turn_row built (GoDepending to on) = refl
  turn_row built NextSentence = refl
  turn_row built ExitParagraph = refl
  turn_row built (ExitSection last) = refl
  turn_row built (ExitPerform cycle) = refl
  turn_row built StopRun = refl

  -- of a graph that has the nodes of a rest

  module _ (graph : Label → Tree) (stmt : Stmt) (b : ℕ) (le : 3 * (place + size stmt) ≤ b) (h : Agrees graph (3 * place) b (nodes told place_of (also stmt others) place leaving after behind)) where
    abbrev next : End
    next = leaf told place_of others (place + size stmt) after

    abbrev further : Tree
    further = build told place_of others (place + size stmt) leaving after behind

    behind_point : Agrees graph (3 * place + 1) b (nodes_in told place_of stmt place leaving next further ++ nodes told place_of others (place + size stmt) leaving after behind)
    behind_point = agrees_behind graph b (node (point place) (build told place_of (also stmt others) place leaving after behind)) _ h

    pub inner_agrees : Agrees graph (3 * place + 1) (3 * (place + size stmt)) (nodes_in told place_of stmt place leaving next further)
    inner_agrees =
        agrees_first graph (3 * place + 1) (3 * (place + size stmt)) b (3 * (place + size stmt + sizes others)) _ _ (within-in told place_of stmt place leaving next further)
        (within-nodes told place_of others (place + size stmt) leaving after behind) le behind_point

    pub others_agree : Agrees graph (3 * (place + size stmt)) b (nodes told place_of others (place + size stmt) leaving after behind)
    others_agree =
        agrees_right graph (3 * place + 1) (3 * (place + size stmt)) b _ _ (within-in told place_of stmt place leaving next further)
        (within-le (3 * place + 1) (3 * (place + size stmt)) (nodes_in told place_of stmt place leaving next further) (within-in told place_of stmt place leaving next further)) behind_point

    lower_below : 3 * place + 3 ≤ b
    lower_below = omega (arith, le, within-le (3 * place + 1) (3 * (place + size stmt)) (nodes_in told place_of stmt place leaving next further) (within-in told place_of stmt place leaving next further))

    pub point_agrees : graph (point place) ≡ build told place_of (also stmt others) place leaving after behind
    point_agrees =
        h (point place) (omega arith) (omega (arith, lower_below))
        ∙ find_first (node (point place) (build told place_of (also stmt others) place leaving after behind)) _

    pub turn_agrees : graph (turn_label is_head place) ≡ turn_by told place_of is_head (also stmt others) place leaving after
    turn_agrees =
        behind_point (turn_label is_head place) (omega (arith, above is_head place)) (omega (arith, lower_below, below is_head place))
        ∙ find_left (turn_label is_head place) (3 * place + 1) (3 * (place + size stmt)) _ _ _ (within-in told place_of stmt place leaving next further)
        (within-nodes told place_of others (place + size stmt) leaving after behind)
        (omega (arith, below is_head place, within-le (3 * place + 1) (3 * (place + size stmt)) (nodes_in told place_of stmt place leaving next further) (within-in told place_of stmt place leaving next further)))
        ∙ turn_row further stmt
