-- What a graph has of cells, the closed one has.
use Rattle.std.proofs.Common.{◌≡◌, ℕ, zero, suc, ◌-◌, ◌*◌, true, false, if◌then◌else◌, [], ◌∷◌, Option, Some, None}
use Rattle.control_flow_theory.specs.semantics.Doing.{is_above}
use Rattle.control_flow_theory.specs.semantics.Graph.{Label}
use Rattle.control_flow_theory.specs.graph_rules.Families.{Added, Never, Flag, State, Exit}
use Rattle.control_flow_theory.specs.graph_rules.Shapes.{Live, Targets, NoTarget, Only, Several, other_targets}
use Rattle.control_flow_theory.specs.graph_rules.Reduced.{Graph, tree_in, kind_at, join_graph, inlines, lowest, loops, Form, form_of, close_form, close_by, inline_step, loop_step, rule_step, stepped, size, reduced, shaped}
use Rattle.control_flow_theory.proofs.graph_rules_lemmas.shapes.Reducing.{kind-before}
use Rattle.control_flow_theory.specs.structuring.Closes.{has_exits, exits_step, or_exits, any_step, reduced_by_all, dispatch_graph, dispatch_rest, closed_graph}

-- the second has all cells of the first, each of its kind
abbrev Keeps : Graph → Graph → Type 0
Keeps old new = (cell : ℕ) (kind : Added) → kind_at old.added cell ≡ Some kind → kind_at new.added cell ≡ Some kind

form-keeps : (label : Label) (live : Live) (graph : Graph) (form : Option Form) → Keeps graph (close_form label live graph form)
form-keeps label live graph None = λ cell kind is. kind-before graph.added (Flag ∷ []) cell kind is
form-keeps label live graph (Some form) = λ cell kind is. kind-before graph.added [] cell kind is

by-keeps : (label : Label) (graph : Graph) (targets : Targets) → Keeps graph (close_by label graph targets)
by-keeps label graph NoTarget = λ cell kind is. kind-before graph.added (Never ∷ []) cell kind is
by-keeps label graph (Only live) = form-keeps label live graph (form_of label live (tree_in graph.nodes label))
by-keeps label graph Several = λ cell kind is. is

inline-keeps : (graph : Graph) (found : Option Label) → Keeps graph (stepped graph (inline_step graph found))
inline-keeps graph None = λ cell kind is. is
inline-keeps graph (Some label) = λ cell kind is. is

loop-keeps : (graph : Graph) (found : Option Label) → Keeps graph (stepped graph (loop_step graph found))
loop-keeps graph None = inline-keeps graph (lowest (inlines graph) graph.nodes)
loop-keeps graph (Some label) = by-keeps label graph (other_targets label (tree_in graph.nodes label))

rule-keeps : (graph : Graph) → Keeps graph (stepped graph (rule_step graph))
rule-keeps graph = loop-keeps graph (lowest (loops graph) graph.nodes)

exits-keeps : (graph : Graph) (found : Option Label) → Keeps graph (stepped graph (exits_step graph found))
exits-keeps graph None = λ cell kind is. is
exits-keeps graph (Some label) = λ cell kind is. kind-before graph.added (Exit ∷ []) cell kind is

or-exits-keeps : (graph : Graph) (next : Option Graph) → Keeps graph (stepped graph next) → Keeps graph (stepped graph (or_exits graph next))
or-exits-keeps graph None k = exits-keeps graph (lowest (has_exits graph) graph.nodes)
or-exits-keeps graph (Some next) k = k

any-keeps : (graph : Graph) → Keeps graph (stepped graph (any_step graph))
any-keeps graph = or-exits-keeps graph (rule_step graph) (rule-keeps graph)

reduced-keeps : (most : ℕ) (graph : Graph) → Keeps graph (reduced most graph)
reduced-keeps zero graph = λ cell kind is. is
reduced-keeps (suc most) graph = λ cell kind is.
    reduced-keeps most (stepped graph (rule_step graph)) cell kind (rule-keeps graph cell kind is)

by-all-keeps : (most : ℕ) (graph : Graph) → Keeps graph (reduced_by_all most graph)
by-all-keeps zero graph = λ cell kind is. is
by-all-keeps (suc most) graph = λ cell kind is.
    by-all-keeps most (stepped graph (any_step graph)) cell kind (any-keeps graph cell kind is)

rest-keeps : (graph : Graph) → Keeps graph (dispatch_rest graph)
rest-keeps graph = elim (is_above (size graph.nodes - 1)) as (λ b. Keeps graph (if b then dispatch_graph graph else graph)) [
  | true ↦ λ cell kind is. kind-before graph.added (State ∷ []) cell kind is
  | false ↦ λ cell kind is. is
]

pub closed-keeps : (graph : Graph) → Keeps graph (closed_graph graph)
closed-keeps graph = λ cell kind is.
    let most = 3 * size graph.nodes in
    rest-keeps (reduced_by_all most (shaped graph)) cell kind
    (by-all-keeps most (shaped graph) cell kind (reduced-keeps most (join_graph graph) cell kind is))
