-- How large what stands in trees is, row by row.
use Rattle.std.proofs.Common.{◌≡◌, ℕ, suc, ◌+◌, Bool, true, false, if◌then◌else◌, ◌==◌, List, [], ◌∷◌, sum_by, refl, ap, sym, ◌∙◌, arith}
use Rattle.std.proofs.lemmas.List.Sums.{sum_by-cons}
use Rattle.cob_tree.specs.Places.{stmt_places}
use Rattle.cob_tree.specs.declared.stmt.Stmt.{Stmt}
use Rattle.control_flow_theory.specs.language.Language.{Picker, Stmts, none, also}
use Rattle.control_flow_theory.specs.semantics.Graph.{Label}
use Rattle.control_flow_theory.specs.lowering.Completes.{size, sizes, size_arms}
use Rattle.lowering_labels.proofs.points_lemmas.SizeLemmas.{size-seen}
use Rattle.control_flow_theory.specs.graph_rules.Shapes.{followed, arm_stmts, arms_stmts, last_stmts}
use Rattle.control_flow_theory.specs.structuring.Dispatches.{set_to, number_in}
use Rattle.branch_tree.specs.Choosers.{seen_picker}
use Rattle.branch_tree.specs.declared.chooser.Picker as code
use Rattle.branch_tree.specs.declared.chooser.Test as tests
use Rattle.branch_tree.specs.declared.graph.Node as nodes
use Rattle.branch_tree.specs.declared.tree.End.TheVariants as end
use Rattle.branch_tree.specs.declared.tree.Leaves.{Leaves}
use Rattle.branch_tree.specs.declared.tree.Leaves.TheVariants as leaves
use Rattle.branch_tree.specs.declared.tree.Piece.{Piece}
use Rattle.branch_tree.specs.declared.tree.Piece.TheVariants as piece
use Rattle.branch_tree.specs.declared.tree.Tree.{Tree}
use Rattle.branch_tree.specs.Graph.{seen_node, seen_nodes}
use Rattle.branch_tree.specs.Tree.{seen_piece, seen_tree, seen_trees, seen_body, seen_end, jump_within, stated}
use Rattle.branch_tree.proofs.TreeRows.{seen_tree_is, seen_own, seen_choose, seen_loop, seen_pick}
use Rattle.branch_tree.specs.Within.{end_within, arms_within}
use Rattle.flow_graph.specs.graph_sizes.Parts.{arm_size, piece_size, unless, within_size}
use Rattle.flow_graph.specs.graph_sizes.Sizing.{tree_size, end_size, trees_size, node_size}

-- leaves within a loop

set_size : (cell number : ℕ) (z : Bool) → sizes (if z then none else set_to cell number) ≡ unless z
set_size cell number true = refl
set_size cell number false = refl

pub flag_size : (cell : ℕ) (label to : Label) →
    sizes (jump_within (leaves.Flag cell label) to) ≡ unless (to == label)
flag_size cell label to = set_size cell 1 (to == label)

pub exit_size : (cell : ℕ) (label : Label) (targets : List Label) (to : Label) →
    sizes (jump_within (leaves.Exit cell label targets) to) ≡ unless (to == label)
exit_size cell label targets to = set_size cell (number_in targets to) (to == label)

-- lists

pub followed_sizes : (a b : Stmts) → sizes (followed a b) ≡ sizes a + sizes b
followed_sizes none b = let h : sizes b ≡ 0 + sizes b = omega arith in h
followed_sizes (also stmt a) b = omega (arith, followed_sizes a b)

pub body_size : (pieces : List Piece) →
    sizes (seen_body pieces) ≡ sum_by piece_size pieces
body_size [] = refl
body_size (one ∷ pieces) =
    ap (λ n. size (seen_piece one) + n) (body_size pieces)
    ∙ sym (sum_by-cons piece_size one pieces)

arms_size : (arms : List Tree) → size_arms (arms_stmts (seen_trees arms)) ≡ sum_by arm_size arms
arms_size [] = refl
arms_size (arm ∷ arms) =
    ap (λ n. arm_size arm + n) (arms_size arms) ∙ sym (sum_by-cons arm_size arm arms)

within_sizes : (leaves : Leaves) (picker : Picker) (k : ℕ) (arms : List Tree) →
    size_arms (arms_within leaves picker k (seen_trees arms)) ≡ sum_by (within_size leaves) arms
within_sizes leaves picker k [] = refl
within_sizes leaves picker k (arm ∷ arms) =
    ap (λ n. within_size leaves arm + n) (within_sizes leaves picker (suc k) arms)
    ∙ sym (sum_by-cons (within_size leaves) arm arms)

trees_sum : (arms : List Tree) →
    trees_size (seen_trees arms) ≡ sum_by (λ arm. tree_size (seen_tree arm)) arms
trees_sum [] = refl
trees_sum (arm ∷ arms) =
    ap (λ n. tree_size (seen_tree arm) + n) (trees_sum arms)
    ∙ sym (sum_by-cons (λ arm. tree_size (seen_tree arm)) arm arms)

pub nodes_size_is : (all : List nodes.Node) →
    sum_by node_size (seen_nodes all) ≡ sum_by (λ node. node_size (seen_node node)) all
nodes_size_is [] = refl
nodes_size_is (node ∷ others) =
    sum_by-cons node_size (seen_node node) (seen_nodes others)
    ∙ ap (λ n. node_size (seen_node node) + n) (nodes_size_is others)
    ∙ sym (sum_by-cons (λ node. node_size (seen_node node)) node others)

-- pieces

pub own_size : (stmt : Stmt) → size (seen_piece (piece.Own stmt)) ≡ stmt_places stmt
own_size stmt = ap size (seen_own stmt) ∙ size-seen 0 stmt

pub chosen_size : (by : code.Picker) (arms : List Tree) →
    size (seen_piece (piece.Choose by arms)) ≡ 1 + sum_by arm_size arms
chosen_size by arms = ap size (seen_choose by arms) ∙ ap (λ n. 1 + n) (arms_size arms)

pub loop_size : (after turned : Bool) (test : tests.Test) (leaves : Leaves) (body : Tree) →
    size (seen_piece (piece.Loop after turned test leaves body)) ≡ 1 + within_size leaves body
loop_size after turned test leaves body = ap size (seen_loop after turned test leaves body)

-- trees

pub arm_size_is : (t : Tree) →
    arm_size t ≡ sum_by piece_size t.body.items + sizes (last_stmts (seen_end t.end))
arm_size_is t =
    ap (λ x. sizes (arm_stmts x)) (seen_tree_is t)
    ∙ followed_sizes (seen_body t.body.items) (last_stmts (seen_end t.end))
    ∙ ap (λ n. n + sizes (last_stmts (seen_end t.end))) (body_size t.body.items)

pub within_size_is : (leaves : Leaves) (t : Tree) →
    within_size leaves t
    ≡ sum_by piece_size t.body.items + sizes (end_within leaves (seen_end t.end))
within_size_is leaves t =
    ap (λ x. sizes (stated leaves x)) (seen_tree_is t)
    ∙ followed_sizes (seen_body t.body.items) (end_within leaves (seen_end t.end))
    ∙ ap (λ n. n + sizes (end_within leaves (seen_end t.end))) (body_size t.body.items)

pub pick_within : (leaves : Leaves) (by : code.Picker) (arms : List Tree) →
    sizes (end_within leaves (seen_end (end.Pick by arms)))
    ≡ 1 + sum_by (within_size leaves) arms
pick_within leaves by arms =
    ap (λ x. sizes (end_within leaves x)) (seen_pick by arms)
    ∙ let h : (1 + size_arms (arms_within leaves (seen_picker by) 0 (seen_trees arms))) + 0
    ≡ 1 + sum_by (within_size leaves) arms =
    omega (arith, within_sizes leaves (seen_picker by) 0 arms) in h

pub tree_size_is : (t : Tree) →
    tree_size (seen_tree t) ≡ sum_by piece_size t.body.items + end_size (seen_end t.end)
tree_size_is t =
    ap tree_size (seen_tree_is t)
    ∙ ap (λ n. n + end_size (seen_end t.end)) (body_size t.body.items)

pub trees_size_is : (by : code.Picker) (arms : List Tree) →
    end_size (seen_end (end.Pick by arms)) ≡ sum_by (λ arm. tree_size (seen_tree arm)) arms
trees_size_is by arms = ap end_size (seen_pick by arms) ∙ trees_sum arms
