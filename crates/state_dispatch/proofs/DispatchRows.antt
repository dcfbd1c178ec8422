-- What the dispatch makes.
use Rattle.std.proofs.Common.{◌≡◌, ℕ, Bool, true, false, List, [], ◌∷◌, length, arith, refl, ap, sym, ◌∙◌}
use Rattle.control_flow_theory.specs.language.Language.{Picker, ByCell, Choose, Do, Set, Is, Until, Loop, Stmts, Nested, none, also, given}
use Rattle.control_flow_theory.specs.semantics.Doing.{is_above}
use Rattle.control_flow_theory.specs.semantics.Graph.{Label, tree}
use Rattle.control_flow_theory.specs.graph_rules.Shapes.{leaves_to, end_leaves_to}
use Rattle.control_flow_theory.specs.graph_rules.Reduced.{Node}
use Rattle.control_flow_theory.specs.structuring.Closes.{none_left_out}
use Rattle.control_flow_theory.specs.structuring.Dispatches.{stated_tree, stated_arms, state_jump, set_to, node_arms, dispatched, labels_of, number_in, return_if, trees_return, some_returns, either, tree_returns}
use Rattle.control_flow_theory.specs.semantics.Graph as graph
use Rattle.branch_tree.specs.declared.graph.Node as code
use Rattle.branch_tree.specs.declared.tree.Tree as code_tree
use Rattle.branch_tree.specs.Graph.{seen_nodes}
use Rattle.branch_tree.specs.declared.chooser.Picker.TheVariants as picker
use Rattle.branch_tree.specs.declared.tree.End.TheVariants as end
use Rattle.graph_rewriting.specs.Rewriting.{bare, Fits}
use Rattle.branch_tree.specs.Tree.{seen_tree, seen_trees, seen_body, seen_end, trees_of}
use Rattle.branch_tree.proofs.TreeRows.{seen_tree_is, seen_pick}
use Rattle.loop_rules.specs.Forms.{looped_by}
use Rattle.state_dispatch.specs.Trees.{node_trees, choice_of, state_loop}
use Rattle.state_dispatch.specs.Dispatching.{one_node}

-- the arms of the choice are those of the dispatch
arms_are : (picker : Picker) (state : ℕ) (labels : List ℕ) (k : ℕ) (nodes : List Node) →
    stated_arms none_left_out (state_jump state labels) (set_to state 0) picker k (trees_of (node_trees nodes))
    ≡ node_arms none_left_out state labels nodes
arms_are picker state labels k [] = refl
arms_are picker state labels k (node ∷ nodes) =
    ap (given (stated_tree none_left_out (state_jump state labels) (set_to state 0) node.tree))
    (arms_are picker state labels _ nodes)

pub returns_are : (nodes : List Node) → trees_return (trees_of (node_trees nodes)) ≡ some_returns nodes
returns_are [] = refl
returns_are (node ∷ nodes) = ap (either (tree_returns node.tree)) (returns_are nodes)

pub dispatched_row : (state entry : ℕ) (nodes : List Node) →
    looped_by (state_loop state (labels_of nodes)) (set_to state (number_in (labels_of nodes) entry))
    (choice_of state (trees_of (node_trees nodes))) (return_if (some_returns nodes))
    ≡ dispatched none_left_out state entry nodes
dispatched_row state entry nodes =
    let labels = labels_of nodes in
    ap (λ arms. tree (also (Do (Set state (number_in labels entry)))
    (also (Loop (Until false (Is state 0)) (Nested (also (Choose (ByCell state) arms) none))) none))
    (return_if (some_returns nodes)))
    (arms_are (ByCell state) state labels 0 nodes)

pub choice_row : (state : ℕ) (t : code_tree.Tree) (arms : List code_tree.Tree) → t.body.items ≡ [] →
    t.end ≡ end.Pick (picker.ByCell state) arms → seen_tree t ≡ choice_of state (seen_trees arms)
choice_row state t arms h k =
    seen_tree_is t ∙ ap (λ b. tree (seen_body b) (seen_end t.end)) h
    ∙ ap (λ e. tree none (seen_end e)) k ∙ ap (tree none) (seen_pick (picker.ByCell state) arms)

-- the node that the dispatch leaves
pub dispatch_row : (state entry : ℕ) (nodes : List Node) (labels : List ℕ) (before : Stmts)
    (arms : List graph.Tree) (returns : Bool) (t : graph.Tree) → labels ≡ labels_of nodes →
    before ≡ set_to state (number_in (labels_of nodes) entry) → arms ≡ node_trees nodes →
    returns ≡ trees_return (trees_of arms) →
    t ≡ looped_by (state_loop state labels) before (choice_of state (trees_of arms)) (return_if returns) →
    t ≡ dispatched none_left_out state entry nodes
dispatch_row state entry nodes labels before arms returns t hl hb ha hr h =
    let all = labels_of nodes in
    let first = set_to state (number_in all entry) in
    h
    ∙ ap (λ l. looped_by (state_loop state l) before (choice_of state (trees_of arms)) (return_if returns)) hl
    ∙ ap (λ b. looped_by (state_loop state all) b (choice_of state (trees_of arms)) (return_if returns)) hb
    ∙ ap (λ r. looped_by (state_loop state all) first (choice_of state (trees_of arms)) (return_if r)) hr
    ∙ ap (λ l. looped_by (state_loop state all) first (choice_of state (trees_of l)) (return_if (trees_return (trees_of l)))) ha
    ∙ ap (λ r. looped_by (state_loop state all) first (choice_of state (trees_of (node_trees nodes))) (return_if r)) (returns_are nodes)
    ∙ dispatched_row state entry nodes

pub labels_len : (nodes : List code.Node) → length (labels_of (seen_nodes nodes)) ≡ length nodes
labels_len [] = refl
labels_len (node ∷ nodes) = let h = labels_len nodes in omega (arith, h)

-- no leaf of the dispatch jumps

end_leaves : (l : Label) (returns : Bool) (state entry : ℕ) (nodes : List Node) → some_returns nodes ≡ returns →
    leaves_to l (dispatched none_left_out state entry nodes) ≡ 0
end_leaves l true state entry nodes is = ap (λ r. end_leaves_to l (return_if r)) is
end_leaves l false state entry nodes is = ap (λ r. end_leaves_to l (return_if r)) is

pub fits_one : (entry state : ℕ) (nodes : List Node) →
    Fits (dispatched none_left_out state entry nodes) (one_node entry bare)
fits_one entry state nodes =
    let none_jumps = λ (l : Label). end_leaves l (some_returns nodes) state entry nodes refl in
    record {
      few = λ l. let h = none_jumps l in omega (arith, h);
      closed = λ l above. let no : is_above 0 ≡ true = sym (ap is_above (none_jumps l)) ∙ above in absurd (cc);
    }
