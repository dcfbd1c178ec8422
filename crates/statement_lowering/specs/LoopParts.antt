-- The trees at the labels of a loop with an escape.
use Rattle.std.specs.Prelude.{ℕ, ◌≡◌, ◌+◌, Bool, true, false, List, Option, Some, None}
use Rattle.cob_tree.specs.declared.control.Control.{Control}
use Rattle.cob_tree.specs.declared.stmt.Stmt.{Stmt}
use Rattle.control_flow_theory.specs.language.Control.{always, control_in, seen_stmts}
use Rattle.control_flow_theory.specs.language.Language as language
use Rattle.control_flow_theory.specs.semantics.Graph as graph
use Rattle.control_flow_theory.specs.lowering.FlowFacts.{FlowFacts}
use Rattle.control_flow_theory.specs.lowering.Lower as lower
use Rattle.control_flow_theory.specs.graph_rules.Shapes.{followed}
use Rattle.branch_tree.specs.Tree.{seen_body, seen_end, seen_tree}
use Rattle.branch_tree.specs.declared.tree.Piece.{Piece}
use Rattle.branch_tree.specs.declared.tree.End.{End}
use Rattle.branch_tree.specs.declared.tree.Tree as code
use Rattle.lowering_labels.specs.points.JumpTarget.{seen_target}
use Rattle.lowering_labels.specs.declared.points.jump_target.JumpTarget.{JumpTarget}
use Rattle.lowering_labels.specs.loop_nodes.Loops.{back_by, before, head_by, start_by, third_by, turn_start}
use Rattle.statement_lowering.specs.declared.context.LoweringContext.{LoweringContext}
use Rattle.statement_lowering.specs.declared.context.EscapeTargets.{EscapeTargets}
use Rattle.statement_lowering.specs.LowerList.{Setting, flow_facts_by}

-- where a turn of a loop comes back
abbrev pub turn_end : Option language.Control → ℕ → graph.End
turn_end control place = graph.Jump (back_by control place)

-- the tree of a loop's body, in a paragraph and sentence that are left so, before the next turn
abbrev pub body_tree : FlowFacts → (ℕ → ℕ) → Option language.Control → language.Stmts → ℕ →
    lower.EscapeTargets → graph.End → graph.Tree
body_tree told place_of control body place leaving after =
    lower.build told place_of body (place + 1)
    (lower.within_loop leaving after (turn_end control place)) (turn_end control place)
    (lower.end_alone (turn_end control place))

-- the tree at its head, or at its test or step
abbrev pub loop_at : FlowFacts → (ℕ → ℕ) → Bool → Option language.Control → language.Stmts → ℕ →
    lower.EscapeTargets → graph.End → graph.Tree
loop_at told place_of true control body place leaving after =
    head_by control place (body_tree told place_of control body place leaving after) after
loop_at told place_of false control body place leaving after = third_by control place after

module _ (telling : LoweringContext) (leaving : EscapeTargets) where
  -- the tree is that of a whole turn
  abbrev pub IsTurn : Control → List Stmt → ℕ → JumpTarget → code.Tree → Type 0
  IsTurn control turns place after made =
      (s : Setting telling leaving) →
      seen_tree made
      ≡ before (turn_start (control_in control) place)
      (body_tree (flow_facts_by telling) s.place_of (control_in control) (seen_stmts s.last turns)
      place
      s.theirs (seen_target after))

  -- the tree is that at a loop's label
  abbrev pub IsLoopTree : Bool → Control → List Stmt → ℕ → JumpTarget → code.Tree → Type 0
  IsLoopTree is_head control turns place after made =
      (s : Setting telling leaving) →
      seen_tree made
      ≡ loop_at (flow_facts_by telling) s.place_of is_head (control_in control)
      (seen_stmts s.last turns) place s.theirs (seen_target after)

-- how a tree ends that went along to this end, or comes to that continuation
abbrev pub end_or : Option End → JumpTarget → graph.End
end_or None after = seen_target after
end_or (Some end) after = seen_end end

-- the tree ends before the loop's head, after what is there
abbrev pub Begins : Option language.Control → ℕ → (old new : List Piece) → End → Type 0
Begins control place old new end =
    (seen_body new ≡ followed (seen_body old) (start_by control place))
    × (seen_end end ≡ graph.Jump (lower.loop_head_label place))

-- the tree at an inline loop with an escape; without a control it is a choice of one arm
abbrev pub loop_begun : FlowFacts → (ℕ → ℕ) → Option language.Control → language.Stmts → ℕ →
    lower.EscapeTargets → graph.End → graph.Tree
loop_begun told place_of None body place leaving after =
    lower.end_alone (graph.Pick (language.If (language.Holds always))
    (lower.build_arms told place_of false (language.given body language.done) (place + 1) leaving
    after))
loop_begun told place_of (Some control) body place leaving after = lower.loop_start control place

-- a body goes on with it
abbrev pub EndsLoop : LoweringContext → EscapeTargets → Control → List Stmt → ℕ → JumpTarget →
    (old new : List Piece) → End → Type 0
EndsLoop telling leaving control turns place after old new end =
    (s : Setting telling leaving) →
    before (seen_body old) (loop_begun (flow_facts_by telling) s.place_of (control_in control)
    (seen_stmts s.last turns) place s.theirs (seen_target after))
    ≡ graph.tree (seen_body new) (seen_end end)
