-- What the rules make of a graph and of the labels on which they are to be tried.
use Rattle.std.proofs.Common.{◌≡◌, ℕ, true, refl, ap, sym, ◌∙◌, subst}
use Rattle.std.specs.BTreeSet.{BTreeSet}
use Rattle.control_flow_theory.specs.semantics.Doing.{is_above}
use Rattle.control_flow_theory.specs.semantics.Graph.{Label, Tree}
use Rattle.control_flow_theory.specs.graph_rules.Shapes.{joined, leaves_to, other_targets}
use Rattle.control_flow_theory.specs.graph_rules.Reduced.{Graph, tree_in, has_node, count, loops, close_graph, looped_graph, at_most_one, join_graph}
use Rattle.control_flow_theory.specs.structuring.Closes.{none_left_out, has_exits, exits_graph}
use Rattle.control_flow_theory.specs.structuring.Dispatches.{Rising}
use Rattle.control_flow_theory.specs.structuring.Targets.{with_exits}
use Rattle.graph_rewriting.proofs.NodeRows.{has_with, rising_with, tree_with}
use Rattle.tree_rules.specs.Joining.{joined_at}
use Rattle.tree_rules.proofs.LeafRows.{joined_leaves}
use Rattle.tree_rules.proofs.MoveRows.{both}
use Rattle.loop_rules.specs.Nodes.{closed, may_loop}
use Rattle.loop_rules.proofs.NodeRows.{close_row}
use Rattle.loop_rules.proofs.LeafRows.{closed_leaves}
use Rattle.region_rewrite.specs.exit_rule.Exits.{may_exit}
use Rattle.region_rewrite.proofs.exit_rule_lemmas.LeafRows.{exits_leaves}
use Rattle.region_rewrite.specs.Candidates.{Enters, Grows, Holds, HoldsBut, TargetsIn}
use Rattle.region_rewrite.proofs.CandidateRows.{changed_but, entered, join_is}
use Rattle.region_rewrite.proofs.JoinedRows.{closed_joined, joined_twice}

-- Inline is to be tried on more labels
pub grown_but : (label : Label) (g : Graph) (ls is is' es : BTreeSet ℕ) → HoldsBut label g ls is es → Grows is is' → HoldsBut label g ls is' es
grown_but label g ls is is' es holds more = record {
  joined = holds.joined;
  loops = holds.loops;
  inlines = λ l n a. more l (holds.inlines l n a);
  exits = holds.exits;
}

-- Loop on a label.
module _ (g : Graph) (label : Label) (rising : Rising g.nodes) (applies : may_loop g label ≡ true) where
  abbrev t : Tree
  t = tree_in g.nodes label

  abbrev node : Tree
  node = (closed label (count g.added) t).node

  has : has_node g.nodes label ≡ true
  has = (both (has_node g.nodes label) (loops g label) applies).0

  few : at_most_one (other_targets label t) ≡ true
  few =
      (both (is_above (leaves_to label t)) (at_most_one (other_targets label t))
      (both (has_node g.nodes label) (loops g label) applies).1).1

  close_is : close_graph label g ≡ looped_graph label node (closed label (count g.added) t).kinds g
  close_is = sym (close_row label g applies (count g.added) node (closed label (count g.added) t).kinds refl refl)

  pub loop_but : (ls is es : BTreeSet ℕ) → HoldsBut label g ls is es → TargetsIn t is → HoldsBut label (close_graph label g) ls is es
  loop_but ls is es holds targets =
      changed_but g (close_graph label g) label node (ap (λ x. x.nodes) close_is) (ap (λ x. x.entry) close_is) rising has
      (λ l. closed_leaves l label (count g.added) t) ls is es holds targets

  pub loop_joined : joined (tree_in (close_graph label g).nodes label) ≡ tree_in (close_graph label g).nodes label
  loop_joined =
      let here : tree_in (close_graph label g).nodes label ≡ node =
      ap (λ x. tree_in x.nodes label) close_is ∙ tree_with label node g.nodes has in
      ap joined here ∙ closed_joined label (count g.added) t (other_targets label t) few ∙ sym here

-- Exits on a label.
module _ (g : Graph) (label : Label) (rising : Rising g.nodes) (applies : may_exit g label ≡ true) where
  pub exits_has : has_node (exits_graph label g).nodes label ≡ true
  exits_has =
      has_with label label (with_exits none_left_out (count g.added) label (tree_in g.nodes label)) g.nodes
      ∙ (both (has_node g.nodes label) (has_exits g label) applies).0

  pub exits_but : (ls is es : BTreeSet ℕ) → HoldsBut label g ls is es → TargetsIn (tree_in g.nodes label) is → HoldsBut label (exits_graph label g) ls is es
  exits_but ls is es holds targets =
      changed_but g (exits_graph label g) label (with_exits none_left_out (count g.added) label (tree_in g.nodes label)) refl refl rising
      (both (has_node g.nodes label) (has_exits g label) applies).0
      (λ l. exits_leaves l label (count g.added) (tree_in g.nodes label)) ls is es holds targets

-- Join at a label.
module _ (g : Graph) (label : Label) (rising : Rising g.nodes) (has : has_node g.nodes label ≡ true) where
  pub settled_but : (ls is es : BTreeSet ℕ) → HoldsBut label g ls is es → TargetsIn (tree_in g.nodes label) is → HoldsBut label (joined_at label g) ls is es
  settled_but ls is es holds targets =
      changed_but g (joined_at label g) label (joined (tree_in g.nodes label)) refl refl rising has
      (λ l. joined_leaves l (tree_in g.nodes label)) ls is es holds targets

  pub settled_joined : joined (tree_in (joined_at label g).nodes label) ≡ tree_in (joined_at label g).nodes label
  settled_joined =
      let here = tree_with label (joined (tree_in g.nodes label)) g.nodes has in
      ap joined here ∙ joined_twice (tree_in g.nodes label) ∙ sym here

  pub settled_is : (ls is es : BTreeSet ℕ) → HoldsBut label g ls is es → joined_at label g ≡ join_graph g
  settled_is ls is es holds = join_is label g ls is es rising has holds

  pub settled : (ls is more es ls' is' es' : BTreeSet ℕ) → HoldsBut label g ls is es → Grows is more → TargetsIn (tree_in g.nodes label) more →
      (new : Graph) → new ≡ joined_at label g → Enters label ls ls' → Enters label more is' → Enters label es es' → Holds new ls' is' es'
  settled ls is more es ls' is' es' holds grows targets new new_is to_loop to_inline to_exit =
      subst (λ x. Holds x ls' is' es') (sym new_is)
      (entered label (joined_at label g) ls more es ls' is' es' (rising_with label (joined (tree_in g.nodes label)) g.nodes rising)
      (settled_but ls more es (grown_but label g ls is more es holds grows) targets) settled_joined to_loop to_inline to_exit)

-- A loop stands at the label.
pub looped_on : (g : Graph) (label : Label) → Rising g.nodes → may_loop g label ≡ true → (ls is more es ls' is' es' : BTreeSet ℕ) → HoldsBut label g ls is es →
    Grows is more → TargetsIn (tree_in g.nodes label) more → (new : Graph) → new ≡ close_graph label g →
    Enters label ls ls' → Enters label more is' → Enters label es es' → Holds new ls' is' es'
looped_on g label rising applies ls is more es ls' is' es' holds grows targets new new_is to_loop to_inline to_exit =
    subst (λ x. Holds x ls' is' es') (sym new_is)
    (entered label (close_graph label g) ls more es ls' is' es'
    (subst Rising (sym (ap (λ x. x.nodes) (close_is g label rising applies))) (rising_with label (node g label rising applies) g.nodes rising))
    (loop_but g label rising applies ls more es (grown_but label g ls is more es holds grows) targets) (loop_joined g label rising applies)
    to_loop to_inline to_exit)
