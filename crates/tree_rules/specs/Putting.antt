-- What becomes of a tree that is put in the place of a jump.
use Rattle.std.specs.Prelude.{◌≡◌, Option, Some, None}
use Rattle.control_flow_theory.specs.semantics.Graph.{Label, Tree, Trees}
use Rattle.control_flow_theory.specs.graph_rules.Shapes.{inlined, inlined_arms, leaves_to, arms_leaves_to}
use Rattle.branch_tree.specs.Tree.{seen_tree}
use Rattle.branch_tree.specs.declared.tree.Tree as code
use Rattle.tree_rules.specs.declared.putting.Substituted.{Substituted}
use Rattle.tree_rules.specs.declared.putting.Substituted.TheVariants as placed

-- the tree has taken the place of the jumps to the label; or it is given back, and nothing changed
abbrev pub Puts : Option code.Tree → Label → Tree → Tree → Tree → Type 0
Puts None label by old new = new ≡ inlined label by old
Puts (Some back) label by old new = (new ≡ old) × (seen_tree back ≡ by)

-- the same where it is known whether there is such a jump
abbrev pub Places : Substituted → Label → Tree → Tree → Tree → Type 0
Places placed.Done label by old new = (new ≡ inlined label by old) × (leaves_to label old ≡ 1)
Places (placed.Elsewhere back) label by old new =
    (new ≡ old) × (seen_tree back ≡ by) × (leaves_to label old ≡ 0)
Places (placed.NoRoom back) label by old new = (new ≡ old) × (seen_tree back ≡ by)

-- the same of the arms of a choice
abbrev pub PlacesOne : Substituted → Label → Tree → Trees → Trees → Type 0
PlacesOne placed.Done label by old new =
    (new ≡ inlined_arms label by old) × (arms_leaves_to label old ≡ 1)
PlacesOne (placed.Elsewhere back) label by old new =
    (new ≡ old) × (seen_tree back ≡ by) × (arms_leaves_to label old ≡ 0)
PlacesOne (placed.NoRoom back) label by old new = (new ≡ old) × (seen_tree back ≡ by)
