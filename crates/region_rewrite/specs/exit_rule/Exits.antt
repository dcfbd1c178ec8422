-- What Exits answers, and leaves.
use Rattle.std.specs.Prelude.{◌≡◌, Bool, true, false, if◌then◌else◌, Result, Ok, Err, List, [], ◌∷◌}
use Rattle.cob_base.specs.declared.memory.NoMemory.{NoMemory}
use Rattle.control_flow_theory.specs.language.Language.{none}
use Rattle.control_flow_theory.specs.semantics.Doing.{is_above}
use Rattle.control_flow_theory.specs.semantics.Graph.{Label, Tree, tree, Jump, Return}
use Rattle.control_flow_theory.specs.graph_rules.Shapes.{leaves_to, other_targets}
use Rattle.control_flow_theory.specs.graph_rules.Reduced.{Graph, has_node}
use Rattle.control_flow_theory.specs.structuring.Closes.{are_several, has_exits, exits_graph}

-- bare jumps to labels
abbrev pub jump_trees : List Label → List Tree
jump_trees [] = []
jump_trees (label ∷ labels) = tree none (Jump label) ∷ jump_trees labels

-- a bare return, where there is to be one
abbrev pub return_trees : Bool → List Tree
return_trees true = tree none Return ∷ []
return_trees false = []

-- a leaf of the tree at the label jumps to it, and the other live leaves have several targets
abbrev pub leaves_by_exits : Label → Tree → Bool
leaves_by_exits label t =
    if is_above (leaves_to label t) then are_several (other_targets label t) else false

-- the label is that of a node on which Exits applies
abbrev pub may_exit : Graph → Label → Bool
may_exit graph label = if has_node graph.nodes label then has_exits graph label else false

-- true with the node as a loop, exactly where the rule applies; else, and without memory, the graph
-- is as it was
abbrev pub CloseExits : Result Bool NoMemory → Label → Graph → Graph → Type 0
CloseExits (Ok true) label old new = (may_exit old label ≡ true) × (new ≡ exits_graph label old)
CloseExits (Ok false) label old new = (may_exit old label ≡ false) × (new ≡ old)
CloseExits (Err fault) label old new = new ≡ old
