-- Trees, seen as the trees of the theory of control.
use Rattle.std.specs.Prelude.{suc, List, [], ◌∷◌, map}
use Rattle.control_flow_theory.specs.language.Control.{seen, stmts_of}
use Rattle.control_flow_theory.specs.language.Language.{Set, Take, Lower, Do, Choose, Loop, Until, Nested, Stmts, none}
use Rattle.control_flow_theory.specs.language.Language as language
use Rattle.control_flow_theory.specs.semantics.Graph.{Label}
use Rattle.control_flow_theory.specs.semantics.Graph as graph
use Rattle.control_flow_theory.specs.graph_rules.Loops.{turned_test}
use Rattle.control_flow_theory.specs.graph_rules.Shapes.{arms_stmts}
use Rattle.control_flow_theory.specs.structuring.Closes.{none_left_out}
use Rattle.control_flow_theory.specs.structuring.Dispatches.{stated_tree, flag_jump, exit_jump, state_jump, set_to, length_of}
use Rattle.branch_tree.specs.Choosers.{seen_test, seen_picker}
use Rattle.branch_tree.specs.declared.tree.Leaves.{Leaves}
use Rattle.branch_tree.specs.declared.tree.Leaves.TheVariants as leaves
use Rattle.branch_tree.specs.declared.tree.Tree.{Tree, fold-Tree}
use Rattle.branch_tree.specs.declared.tree.End.{End, fold-End}
use Rattle.branch_tree.specs.declared.tree.Piece.{Piece, fold-Piece}
use Rattle.branch_tree.specs.declared.tree.End.TheOpen.{Tree-F, End-F, Piece-F}

-- a jump within a loop
abbrev pub jump_within : Leaves → Label → Stmts
jump_within leaves.Silent to = none
jump_within (leaves.Flag cell label) to = flag_jump cell label to
jump_within (leaves.Exit cell label targets) to = exit_jump cell label targets to
jump_within (leaves.State cell labels) to = state_jump cell labels to

-- the statements that stand for a return within a loop
abbrev pub return_within : Leaves → Stmts
return_within leaves.Silent = none
return_within (leaves.Flag cell label) = set_to cell 1
return_within (leaves.Exit cell label targets) = set_to cell (suc (length_of targets))
return_within (leaves.State cell labels) = set_to cell 0

-- the statements that a tree is within a loop
abbrev pub stated : Leaves → graph.Tree → Stmts
stated leaves body = stated_tree none_left_out (jump_within leaves) (return_within leaves) body

-- a list of trees
abbrev pub trees_of : List graph.Tree → graph.Trees
trees_of [] = graph.no_more
trees_of (t ∷ ts) = graph.more t (trees_of ts)

-- one level of a piece of a body
abbrev pub piece_step : Piece-F graph.End language.Stmt graph.Tree → language.Stmt
piece_step (Piece-F.Own stmt) = seen 0 stmt
piece_step (Piece-F.Set cell value) = Do (Set cell value)
piece_step (Piece-F.Take cell amount) = Do (Take cell amount)
piece_step (Piece-F.Lower cell) = Do (Lower cell)
piece_step (Piece-F.Choose by arms) = Choose (seen_picker by) (arms_stmts (trees_of arms))
piece_step (Piece-F.Loop after turned test leaves body) =
    Loop (Until after (turned_test turned (seen_test test))) (Nested (stated leaves body))

-- one level of a tree
abbrev pub tree_step : Tree-F graph.End language.Stmt graph.Tree → graph.Tree
tree_step t = graph.tree (stmts_of t.body.items) t.end

-- one level of an end
abbrev pub end_step : End-F graph.End language.Stmt graph.Tree → graph.End
end_step (End-F.Pick by arms) = graph.Pick (seen_picker by) (trees_of arms)
end_step (End-F.Jump to) = graph.Jump to
end_step End-F.Return = graph.Return
end_step End-F.Stop = graph.Stop
end_step End-F.Dead = graph.Dead

-- a piece of a body
abbrev pub seen_piece : Piece → language.Stmt
seen_piece = fold-Piece graph.End language.Stmt graph.Tree end_step piece_step tree_step

-- a tree
abbrev pub seen_tree : Tree → graph.Tree
seen_tree = fold-Tree graph.End language.Stmt graph.Tree end_step piece_step tree_step

-- the end of a tree
abbrev pub seen_end : End → graph.End
seen_end = fold-End graph.End language.Stmt graph.Tree end_step piece_step tree_step

-- the body of a tree
abbrev pub seen_body : List Piece → Stmts
seen_body pieces = stmts_of (map seen_piece pieces)

-- the trees of a choice
abbrev pub seen_trees : List Tree → graph.Trees
seen_trees trees = trees_of (map seen_tree trees)
