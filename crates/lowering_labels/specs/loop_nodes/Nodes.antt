-- What calls make of trees and of bodies.
use Rattle.std.specs.Prelude.{ℕ, ◌≡◌, List}
use Rattle.cob_tree.specs.declared.cond.Cond.{Cond}
use Rattle.cob_tree.specs.declared.control.Control.{Control}
use Rattle.control_flow_theory.specs.language.Control.{control_in, test_of}
use Rattle.control_flow_theory.specs.language.Language.{Stmts}
use Rattle.control_flow_theory.specs.semantics.Graph.{Tree, more, no_more}
use Rattle.control_flow_theory.specs.graph_rules.Shapes.{followed}
use Rattle.control_flow_theory.specs.lowering.Lower.{end_alone, by_test}
use Rattle.branch_tree.specs.declared.tree.Piece.{Piece}
use Rattle.branch_tree.specs.declared.tree.Tree as code
use Rattle.branch_tree.specs.Tree.{seen_body, seen_tree, seen_trees}
use Rattle.lowering_labels.specs.declared.points.jump_target.JumpTarget.{JumpTarget}
use Rattle.lowering_labels.specs.points.JumpTarget.{seen_target}
use Rattle.lowering_labels.specs.loop_nodes.Loops.{third_by, chosen_by}

-- it is this tree
abbrev pub IsTree : Tree → code.Tree → Type 0
IsTree t made = seen_tree made ≡ t

-- two arms, in this order
abbrev pub AreBoth : Tree → Tree → List code.Tree → Type 0
AreBoth holds fails arms = seen_trees arms ≡ more holds (more fails no_more)

-- these statements after a body
abbrev pub Adds : Stmts → List Piece → List Piece → Type 0
Adds stmts old new = seen_body new ≡ followed (seen_body old) stmts

-- the choice between what follows where the condition holds, and another tree
abbrev pub left_or : Cond → JumpTarget → Tree → Tree
left_or cond after other = by_test (test_of cond) (end_alone (seen_target after)) other

-- the tree at the third label of a loop
abbrev pub third_of : Control → ℕ → JumpTarget → Tree
third_of control place after = third_by (control_in control) place (seen_target after)

-- the tree at the head of a loop: its test, or one more turn
abbrev pub head_of : Control → ℕ → Tree → JumpTarget → Tree
head_of control place turn after = chosen_by (control_in control) place turn (seen_target after)
