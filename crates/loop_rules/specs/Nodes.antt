-- A node's tree as a loop, with the added items that it brings.
use Rattle.std.specs.Prelude.{ℕ, ◌≡◌, Bool, true, false, if◌then◌else◌, List, [], ◌∷◌, Option, Some, None, Result, Ok, Err}
use Rattle.cob_base.specs.declared.memory.NoMemory.{NoMemory}
use Rattle.control_flow_theory.specs.semantics.Doing.{is_above}
use Rattle.control_flow_theory.specs.semantics.Graph.{Label, Tree, tree, Dead}
use Rattle.control_flow_theory.specs.graph_rules.Families.{Added, Never, Flag}
use Rattle.control_flow_theory.specs.graph_rules.Loops.{Flagged, Endless, loop_of}
use Rattle.control_flow_theory.specs.graph_rules.Shapes.{Targets, NoTarget, Only, Several, leaves_to, other_targets, flat}
use Rattle.control_flow_theory.specs.graph_rules.Reduced.{Graph, has_node, at_most_one, loops, close_graph}
use Rattle.control_flow_theory.specs.graph_rules.Reduced as reduced
use Rattle.branch_tree.specs.Graph.{seen_added}
use Rattle.branch_tree.specs.declared.graph.Added as code
use Rattle.loop_rules.specs.Forms.{formed_if, form_for, end_by}

-- the loop, what follows it, and its added items
pub record Closed : Type 0 where
  pub node : Tree
  -- what the items that it adds are for
  pub kinds : List Added

-- the node at a label as a loop with one target: with a test of its own, or with a flag
abbrev pub closed_form : Label → ℕ → Tree → Targets → Option reduced.Form → Closed
closed_form label cell t targets (Some form) =
    record { node = formed_if targets (Some form) t; kinds = [] }
closed_form label cell t targets None = record {
  node = tree (loop_of Flagged cell (flat Flagged cell label t)) (end_by targets);
  kinds = Flag ∷ [];
}

-- the node at a label as a loop, by the first form that fits
abbrev pub closed_live : Label → ℕ → Tree → Targets → Closed
closed_live label cell t targets = closed_form label cell t targets (form_for label targets t)

-- the node at a label as a loop, by the targets of its other leaves; as it was where they are
-- several
abbrev pub closed_by : Label → ℕ → Tree → Targets → Closed
closed_by label cell t NoTarget = record {
  node = tree (loop_of Endless cell (flat Endless cell label t)) Dead;
  kinds = Never ∷ [];
}
closed_by label cell t (Only live) = closed_live label cell t (Only live)
closed_by label cell t Several = record { node = t; kinds = [] }

-- the node at a label as a loop
abbrev pub closed : Label → ℕ → Tree → Closed
closed label cell t = closed_by label cell t (other_targets label t)

-- the added item as a list
abbrev pub kinds_of : Option code.Added → List Added
kinds_of None = []
kinds_of (Some kind) = seen_added kind ∷ []

-- the tree, with the added item that it brings
abbrev pub with_kinds : Tree → Option code.Added → Closed
with_kinds t kind = record { node = t; kinds = kinds_of kind }

-- the tree as a loop, with its added item; without memory the tree stays
abbrev pub Closes : Result (Option code.Added) NoMemory → Closed → Tree → Tree → Type 0
Closes (Ok kind) closed old new = with_kinds new kind ≡ closed
Closes (Err fault) closed old new = new ≡ old

-- a leaf of the tree at the label jumps to it, and the other live leaves have at most one target
abbrev pub turns : Label → Tree → Bool
turns label t =
    if is_above (leaves_to label t) then at_most_one (other_targets label t) else false

-- the label is that of a node on which Loop applies
abbrev pub may_loop : Graph → Label → Bool
may_loop graph label = if has_node graph.nodes label then loops graph label else false

-- true with the node as a loop, exactly where the rule applies; else, and without memory, the graph
-- is as it was
abbrev pub CloseLoop : Result Bool NoMemory → Label → Graph → Graph → Type 0
CloseLoop (Ok true) label old new = (may_loop old label ≡ true) × (new ≡ close_graph label old)
CloseLoop (Ok false) label old new = (may_loop old label ≡ false) × (new ≡ old)
CloseLoop (Err fault) label old new = new ≡ old
