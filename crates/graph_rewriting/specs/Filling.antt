-- The nodes of a graph into slots, and back.
use Rattle.std.specs.Prelude.{ℕ, ◌≡◌, ◌-◌, ◌^◌, ◌<◌, true, if◌then◌else◌, ◌==◌, List, [], ◌∷◌, Some, None}
use Rattle.std.specs.Ordering.{nat_cmp}
use Rattle.std.specs.Map.{keys_of}
use Rattle.std.specs.BTreeMap.{BTreeMap, IsOrdered, insert_entry, Updates}
use Rattle.slab.specs.Slab.{Slab, get}
use Rattle.slab.specs.Slab as slab
use Rattle.control_flow_theory.specs.semantics.Graph.{Label, Tree}
use Rattle.control_flow_theory.specs.graph_rules.Shapes.{leaves_to}
use Rattle.control_flow_theory.specs.graph_rules.Reduced.{Node, has_node, tree_in, all_leaves_to}
use Rattle.control_flow_theory.specs.structuring.Dispatches.{labels_of}
use Rattle.branch_tree.specs.Tree.{seen_tree}
use Rattle.graph_rewriting.specs.Rewriting.{bare}
use Rattle.graph_rewriting.specs.Counting.{Holds, turned}
use Rattle.graph_rewriting.specs.declared.kept.Kept.{Kept}

-- one more label leads to a bare tree, to which no leaf is counted
pub record AddsBare (label : Label) (keys : BTreeMap ℕ ℕ) (old : Slab Kept)
    (others : BTreeMap ℕ ℕ) (new : Slab Kept) : Type 0 where
  pub key : ℕ
  pub kept : Kept
  pub label_is : kept.node.label ≡ label
  pub tree_is : seen_tree kept.node.tree ≡ bare
  -- no leaf is counted to it
  pub count_is : kept.incoming ≡ 0
  -- the slot was empty
  pub vacant : get old key ≡ None
  -- it has the node now
  pub slots : slab.Updates old new key (Some kept)
  -- the label has the slot's key
  pub entries : others.entries ≡ insert_entry nat_cmp keys.entries label key
  -- and every other label the key that it had
  pub keys_are : Updates nat_cmp keys others label (Some key)
  -- the labels rise
  pub ordered : IsOrdered nat_cmp others

-- each label of these nodes leads to a bare tree
pub record Emptied (nodes : List Node) (keys : BTreeMap ℕ ℕ) (slots : Slab Kept) : Type 0 where
  -- there is a key for the label of each node
  pub labels : keys_of keys.entries ≡ labels_of nodes
  -- the labels rise
  pub ordered : IsOrdered nat_cmp keys
  -- each key leads to a bare tree
  pub holds : Holds keys slots (λ label. bare) (λ label. 0)

-- the tree is at the label, and its leaves are counted
abbrev pub FillsAt : Label → Tree → BTreeMap ℕ ℕ → Slab Kept → Slab Kept → Type 0
FillsAt label t keys old new = (nodes : List Node) → has_node nodes label ≡ true →
    keys_of keys.entries ≡ labels_of nodes →
    (trees : Label → Tree) (counts : Label → ℕ) → Holds keys old trees counts →
    Holds keys new (λ l. if label == l then t else trees l)
    (λ l. turned true (leaves_to l t) (counts l))

-- each label of these nodes leads to its tree, with the count of its leaves as far as it goes
pub record Filled (nodes : List Node) (keys : BTreeMap ℕ ℕ) (slots : Slab Kept) : Type 0 where
  -- there is a key for the label of each node
  pub labels : keys_of keys.entries ≡ labels_of nodes
  -- the labels rise
  pub ordered : IsOrdered nat_cmp keys
  -- each key leads to the label's tree and count
  pub holds : Holds keys slots (tree_in nodes) (λ label. turned true (all_leaves_to label nodes) 0)

-- no count is the type's last number
abbrev pub NoneFull : Slab Kept → List (ℕ × ℕ) → Type 0
NoneFull slots [] = Unit {0}
NoneFull slots (entry ∷ entries) =
    ((kept : Kept) → get slots entry.1 ≡ Some kept → kept.incoming < 2 ^ 32 - 1)
    × NoneFull slots entries

-- each key leads to a node with its label
pub record Leads (keys : BTreeMap ℕ ℕ) (slots : Slab Kept) : Type 0 where
  pub trees : Label → Tree
  pub counts : Label → ℕ
  pub holds : Holds keys slots trees counts
