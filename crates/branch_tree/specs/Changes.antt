-- What calls make of trees.
use Rattle.std.specs.Prelude.{◌≡◌, Option, Some, None}
use Rattle.control_flow_theory.specs.semantics.Graph.{Tree, tree, body_of, end_of}
use Rattle.control_flow_theory.specs.graph_rules.Shapes.{followed}
use Rattle.branch_tree.specs.Tree.{seen_tree}
use Rattle.branch_tree.specs.declared.tree.Tree as code

-- one tree in the place of the other's end
abbrev pub gone_on : Tree → Tree → Tree
gone_on first next = tree (followed (body_of first) (body_of next)) (end_of next)

-- the tree goes on with the other; or the other is given back, and nothing changed
abbrev pub GoesOn : Option code.Tree → Tree → Tree → Tree → Type 0
GoesOn None by old new = new ≡ gone_on old by
GoesOn (Some back) by old new = (new ≡ old) × (seen_tree back ≡ by)
