-- A graph while it is rewritten, as it is stored.
use Rattle.std.specs.Prelude.{ℕ, ◌≡◌, true, List, [], ◌∷◌, Option, Some, None}
use Rattle.std.specs.Ordering.{nat_cmp}
use Rattle.std.specs.BTreeMap.{BTreeMap, IsOrdered}
use Rattle.std.specs.BTreeMap as map
use Rattle.slab.specs.Slab.{Slab, get}
use Rattle.control_flow_theory.specs.semantics.Doing.{is_above}
use Rattle.control_flow_theory.specs.semantics.Graph.{Label}
use Rattle.control_flow_theory.specs.graph_rules.Shapes.{leaves_to}
use Rattle.control_flow_theory.specs.graph_rules.Reduced.{tree_in, all_leaves_to}
use Rattle.branch_tree.specs.Tree.{seen_tree}
use Rattle.branch_tree.specs.Graph.{seen_nodes}
use Rattle.graph_rewriting.specs.Helds.{Held, seen_work}
use Rattle.graph_rewriting.specs.Rewriting.{IsSound}
use Rattle.graph_rewriting.specs.Counting.{Holds}
use Rattle.branch_tree.specs.declared.graph.Node as code
use Rattle.graph_rewriting.specs.declared.kept.Kept.{Kept}
use Rattle.graph_rewriting.specs.declared.work.Work.TheInside.{Inside}

-- the node of the slot, where it has one, and the others
abbrev pub and_kept : Option Kept → List code.Node → List code.Node
and_kept None nodes = nodes
and_kept (Some kept) nodes = kept.node ∷ nodes

-- the nodes that these keys lead to
abbrev pub nodes_by : Slab Kept → List (ℕ × ℕ) → List code.Node
nodes_by slots [] = []
nodes_by slots (entry ∷ entries) = and_kept (get slots entry.1) (nodes_by slots entries)

-- what contracts see
abbrev pub held_of : Inside → Held
held_of work = record {
  entry = work.entry;
  nodes = nodes_by work.slots work.keys.entries;
  added = work.added;
}

-- The nodes are those that the keys lead to, the counts are those of their leaves, and the graph is
-- sound.
pub record IsWhole (work : Inside) : Type 0 where
  -- the labels rise
  pub ordered : IsOrdered nat_cmp work.keys
  -- each key leads to the node of its label, with the count of the leaves to it
  pub holds : Holds work.keys work.slots
      (tree_in (seen_nodes (nodes_by work.slots work.keys.entries)))
      (λ label. all_leaves_to label (seen_nodes (nodes_by work.slots work.keys.entries)))
  pub sound : IsSound (seen_work (held_of work))

-- a leaf of the node that this label leads to jumps to the label
pub record JumpsFrom (label : Label) (keys : BTreeMap ℕ ℕ) (slots : Slab Kept) (from : Label)
    : Type 0 where
  pub key : ℕ
  pub kept : Kept
  -- the label has this key
  pub led : map.get nat_cmp keys from ≡ Some key
  -- which leads to this node
  pub here : get slots key ≡ Some kept
  -- a leaf of the node jumps to the label
  pub jumps : is_above (leaves_to label (seen_tree kept.node.tree)) ≡ true

-- such a label, or there is no such leaf
abbrev pub AnySource : Option Label → Label → BTreeMap ℕ ℕ → Slab Kept → Type 0
AnySource None label keys slots =
    all_leaves_to label (seen_nodes (nodes_by slots keys.entries)) ≡ 0
AnySource (Some from) label keys slots = JumpsFrom label keys slots from
