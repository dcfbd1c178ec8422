-- The labels on which rules are to be tried.
use Rattle.std.specs.Prelude.{ℕ, ◌≡◌, ◌≢◌, ◌<◌, Bool, true, false, List, [], ◌∷◌, Option, Some, None}
use Rattle.std.specs.Ordering.{nat_cmp}
use Rattle.std.specs.BTreeSet.{BTreeSet, contains}
use Rattle.control_flow_theory.specs.semantics.Doing.{is_above}
use Rattle.control_flow_theory.specs.semantics.Graph.{Label, Tree, Trees}
use Rattle.control_flow_theory.specs.graph_rules.Shapes.{joined, leaves_to, arms_leaves_to}
use Rattle.control_flow_theory.specs.graph_rules.Reduced.{Node, Graph, without}
use Rattle.tree_rules.specs.Inlining.{may_inline}
use Rattle.loop_rules.specs.Nodes.{may_loop}
use Rattle.region_rewrite.specs.exit_rule.Exits.{may_exit}

-- each label on which the rule applies is in the set
abbrev pub AllIn : (Label → Bool) → BTreeSet ℕ → Type 0
AllIn applies set = (l : Label) → applies l ≡ true → contains nat_cmp set l ≡ true

-- each but this one
abbrev pub AllInBut : Label → (Label → Bool) → BTreeSet ℕ → Type 0
AllInBut label applies set = (l : Label) → l ≢ label → applies l ≡ true →
    contains nat_cmp set l ≡ true

-- each label to which a leaf of the tree jumps is in the set
abbrev pub TargetsIn : Tree → BTreeSet ℕ → Type 0
TargetsIn t set = (l : Label) → is_above (leaves_to l t) ≡ true → contains nat_cmp set l ≡ true

-- each label to which a leaf of these trees jumps is in the set
abbrev pub ArmTargetsIn : Trees → BTreeSet ℕ → Type 0
ArmTargetsIn arms set = (l : Label) → is_above (arms_leaves_to l arms) ≡ true →
    contains nat_cmp set l ≡ true

-- the set has what it had
abbrev pub Grows : BTreeSet ℕ → BTreeSet ℕ → Type 0
Grows old new = (l : Label) → contains nat_cmp old l ≡ true → contains nat_cmp new l ≡ true

-- the set has the label, and what it had
abbrev pub Enters : Label → BTreeSet ℕ → BTreeSet ℕ → Type 0
Enters label old new = Grows old new × (contains nat_cmp new label ≡ true)

-- the lowest label on which the rule applies, and each other is in the set; or it applies on none
abbrev pub IsLowest : Option ℕ → (Label → Bool) → BTreeSet ℕ → Type 0
IsLowest None applies set = (l : Label) → applies l ≡ false
IsLowest (Some label) applies set = (applies label ≡ true)
    × ((l : Label) → l < label → applies l ≡ false) × AllInBut label applies set

-- the change leaves each tree as it is
abbrev pub Fixed : (Tree → Tree) → List Node → Type 0
Fixed f [] = Unit {0}
Fixed f (node ∷ nodes) = (f node.tree ≡ node.tree) × Fixed f nodes

-- all trees are joined, and each rule applies only on labels that are in its set
pub record Holds (graph : Graph) (to_loop to_inline to_exit : BTreeSet ℕ) : Type 0 where
  -- every tree is joined
  pub joined : Fixed joined graph.nodes
  -- Loop applies only on labels of this set
  pub loops : AllIn (may_loop graph) to_loop
  -- Inline applies only on labels of this set
  pub inlines : AllIn (may_inline graph) to_inline
  -- Exits applies only on labels of this set
  pub exits : AllIn (may_exit graph) to_exit

-- the same holds, but for this label
pub record HoldsBut (label : Label) (graph : Graph) (to_loop to_inline to_exit : BTreeSet ℕ)
    : Type 0 where
  -- every other tree is joined
  pub joined : Fixed joined (without label graph.nodes)
  -- elsewhere Loop applies only on labels of this set
  pub loops : AllInBut label (may_loop graph) to_loop
  -- elsewhere Inline applies only on labels of this set
  pub inlines : AllInBut label (may_inline graph) to_inline
  -- elsewhere Exits applies only on labels of this set
  pub exits : AllInBut label (may_exit graph) to_exit
