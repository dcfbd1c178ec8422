-- What Inline answers, and leaves.
use Rattle.std.specs.Prelude.{ℕ, ◌≡◌, Bool, true, false, if◌then◌else◌, Result, Ok, Err, Option, Some, None}
use Rattle.cob_base.specs.declared.memory.NoMemory.{NoMemory}
use Rattle.control_flow_theory.specs.semantics.Doing.{is_above}
use Rattle.control_flow_theory.specs.semantics.Graph.{Label}
use Rattle.control_flow_theory.specs.graph_rules.Shapes.{leaves_to}
use Rattle.control_flow_theory.specs.graph_rules.Reduced.{Graph, has_node, tree_in, inlines, inline_graph}

-- the label is that of a node, and exactly one leaf jumps to it, from another node
abbrev pub may_inline : Graph → Label → Bool
may_inline graph label = if has_node graph.nodes label then inlines graph label else false

-- true with the node in place of the jump, exactly where the rule applies; else, and without
-- memory, the graph is as it was
abbrev pub Inlines : Result Bool NoMemory → Label → Graph → Graph → Type 0
Inlines (Ok true) label old new = (may_inline old label ≡ true) × (new ≡ inline_graph label old)
Inlines (Ok false) label old new = (may_inline old label ≡ false) × (new ≡ old)
Inlines (Err fault) label old new = new ≡ old

-- the same with the label of the node whose leaf jumped
abbrev pub InlinesInto : Result (Option ℕ) NoMemory → Label → Graph → Graph → Type 0
InlinesInto (Ok (Some from)) label old new = (may_inline old label ≡ true)
    × (new ≡ inline_graph label old) × (has_node old.nodes from ≡ true)
    × (is_above (leaves_to label (tree_in old.nodes from)) ≡ true)
InlinesInto (Ok None) label old new = (may_inline old label ≡ false) × (new ≡ old)
InlinesInto (Err fault) label old new = new ≡ old
