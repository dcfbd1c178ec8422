-- The counts of the leaves that jump to nodes, as trees come and go.
use Rattle.std.specs.Prelude.{ℕ, ◌≡◌, ◌≢◌, ◌+◌, ◌-◌, ◌^◌, min, Bool, true, false, if◌then◌else◌, ◌==◌, Option, Some, None}
use Rattle.std.specs.Ordering.{nat_cmp}
use Rattle.std.specs.BTreeMap.{BTreeMap}
use Rattle.std.specs.BTreeMap as map
use Rattle.slab.specs.Slab.{Slab, get}
use Rattle.control_flow_theory.specs.semantics.Graph.{Label, Tree}
use Rattle.branch_tree.specs.Tree.{seen_tree}
use Rattle.graph_rewriting.specs.Rewriting.{bare}
use Rattle.branch_tree.specs.declared.tree.Tree as code
use Rattle.graph_rewriting.specs.declared.kept.Kept.{Kept}

-- there is a node with this label, this tree and this count in the slot
pub record Stands (slots : Slab Kept) (label : Label) (key : ℕ) (tree : Tree) (count : ℕ)
    : Type 0 where
  pub kept : Kept
  pub here : get slots key ≡ Some kept
  pub label_is : kept.node.label ≡ label
  pub tree_is : seen_tree kept.node.tree ≡ tree
  -- so many leaves are counted to it
  pub count_is : kept.incoming ≡ count

-- each key leads to a node with its label, with the tree and the count of that label
abbrev pub Holds : BTreeMap ℕ ℕ → Slab Kept → (Label → Tree) → (Label → ℕ) → Type 0
Holds keys slots trees counts = (label : Label) (key : ℕ) →
    map.get nat_cmp keys label ≡ Some key →
    Stands slots label key (trees label) (counts label)

-- the count with so many leaves more, as far as the type's last number, or less
abbrev pub turned : Bool → ℕ → ℕ → ℕ
turned true more count = count + min more (2 ^ 32 - 1 - count)
turned false more count = count - more

-- each label has so many leaves more or less
abbrev pub Counts : Bool → (Label → ℕ) → BTreeMap ℕ ℕ → Slab Kept → Slab Kept → Type 0
Counts comes more keys old new = (trees : Label → Tree) (counts : Label → ℕ) →
    Holds keys old trees counts →
    Holds keys new trees (λ label. turned comes (more label) (counts label))

-- one leaf to this label, and none to others
abbrev pub once_at : Label → Label → ℕ
once_at label l = if label == l then 1 else 0

-- there is another node in one slot
pub record Rewrites (key : ℕ) (before after : Kept) (old new : Slab Kept) : Type 0 where
  -- this node was in the slot
  pub had : get old key ≡ Some before
  -- that node is in it now
  pub has : get new key ≡ Some after
  -- every other slot is the same
  pub others : (other : ℕ) → other ≢ key → get new other ≡ get old other

-- the node has another tree, and the same label and count
abbrev pub Retrees : Kept → Kept → Type 0
Retrees before after = (after.node.label ≡ before.node.label) × (after.incoming ≡ before.incoming)

-- the tree comes out, and a bare one is there; or the slot is empty
abbrev pub TakesOut : Option code.Tree → ℕ → Slab Kept → Slab Kept → Type 0
TakesOut None key old new = (get old key ≡ None) × (new ≡ old)
TakesOut (Some t) key old new = (before : Kept) × (after : Kept)
    × Rewrites key before after old new × Retrees before after × (t ≡ before.node.tree)
    × (seen_tree after.node.tree ≡ bare)

-- the tree is in the slot, where it isn't empty
abbrev pub PutsIn : code.Tree → ℕ → Slab Kept → Slab Kept → Type 0
PutsIn t key old new = (before : Kept) → get old key ≡ Some before →
    (after : Kept) × Rewrites key before after old new × Retrees before after
    × (after.node.tree ≡ t)
