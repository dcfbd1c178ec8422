-- How large what is in trees is.
use Rattle.std.specs.Prelude.{ℕ, Bool, if◌then◌else◌}
use Rattle.control_flow_theory.specs.lowering.Completes.{size, sizes}
use Rattle.control_flow_theory.specs.graph_rules.Shapes.{arm_stmts}
use Rattle.branch_tree.specs.Tree.{seen_piece, seen_tree, stated}
use Rattle.branch_tree.specs.declared.tree.Leaves.{Leaves}
use Rattle.branch_tree.specs.declared.tree.Piece.{Piece}
use Rattle.branch_tree.specs.declared.tree.Tree.{Tree}

-- how many statements a piece of a body is
abbrev pub piece_size : Piece → ℕ
piece_size piece = size (seen_piece piece)

-- an arm that became statements
abbrev pub arm_size : Tree → ℕ
arm_size arm = sizes (arm_stmts (seen_tree arm))

-- how many statements a tree takes within a loop
abbrev pub within_size : Leaves → Tree → ℕ
within_size leaves tree = sizes (stated leaves (seen_tree tree))

-- none where there is nothing, else one
abbrev pub unless : Bool → ℕ
unless nothing = if nothing then 0 else 1
