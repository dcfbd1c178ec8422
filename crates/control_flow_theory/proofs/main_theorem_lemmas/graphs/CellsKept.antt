-- What a graph on the way has of cells and of choices by them, the closed one has.
use Rattle.std.proofs.Common.{◌≡◌, ℕ, zero, suc, ◌-◌, true, false, if◌then◌else◌, List, [], ◌∷◌, Option, Some, None}
use Rattle.control_flow_theory.specs.language.Language.{Stmts}
use Rattle.control_flow_theory.specs.semantics.Doing.{is_above}
use Rattle.control_flow_theory.specs.semantics.Graph.{Label}
use Rattle.control_flow_theory.specs.graph_rules.Families.{Added, Never, Flag, State, Exit}
use Rattle.control_flow_theory.specs.graph_rules.Shapes.{Live, Targets, NoTarget, Only, Several, other_targets}
use Rattle.control_flow_theory.specs.graph_rules.Reduced.{Graph, tree_in, kind_at, inlines, lowest, loops, Form, form_of, close_form, close_by, inline_step, loop_step, rule_step, stepped, size, reduced}
use Rattle.control_flow_theory.specs.structuring.Closes.{has_exits, exits_step, or_exits, any_step, reduced_by_all, dispatch_graph, dispatch_rest, IsClosed}
use Rattle.control_flow_theory.proofs.main_theorem_lemmas.graphs.Choosing.{stmts_choose}
use Rattle.control_flow_theory.proofs.graph_rules_lemmas.shapes.Reducing.{kind-before}
use Rattle.control_flow_theory.proofs.structuring_lemmas.closing.InOrder.{reduced-kept, by-all-kept}
use Rattle.control_flow_theory.proofs.structuring_lemmas.closing.SomeKept.{Stays, rules-lose-none, rest-some}
use Rattle.control_flow_theory.proofs.main_theorem_lemmas.graphs.ChoicesKept.{Chooses, ArmsChoose, Picks, finds, NodesChoose}

-- the second has all cells of the first, each of its kind
abbrev pub HasCells : Graph → Graph → Type 0
HasCells old new = (cell : ℕ) (kind : Added) → kind_at old.added cell ≡ Some kind → kind_at new.added cell ≡ Some kind

form-cells : (label : Label) (live : Live) (graph : Graph) (form : Option Form) → HasCells graph (close_form label live graph form)
form-cells label live graph None = λ cell kind is. kind-before graph.added (Flag ∷ []) cell kind is
form-cells label live graph (Some form) = λ cell kind is. kind-before graph.added [] cell kind is

by-cells : (label : Label) (graph : Graph) (targets : Targets) → HasCells graph (close_by label graph targets)
by-cells label graph NoTarget = λ cell kind is. kind-before graph.added (Never ∷ []) cell kind is
by-cells label graph (Only live) = form-cells label live graph (form_of label live (tree_in graph.nodes label))
by-cells label graph Several = λ cell kind is. is

inline-cells : (graph : Graph) (found : Option Label) → HasCells graph (stepped graph (inline_step graph found))
inline-cells graph None = λ cell kind is. is
inline-cells graph (Some label) = λ cell kind is. is

loop-cells : (graph : Graph) (found : Option Label) → HasCells graph (stepped graph (loop_step graph found))
loop-cells graph None = inline-cells graph (lowest (inlines graph) graph.nodes)
loop-cells graph (Some label) = by-cells label graph (other_targets label (tree_in graph.nodes label))

exits-cells : (graph : Graph) (found : Option Label) → HasCells graph (stepped graph (exits_step graph found))
exits-cells graph None = λ cell kind is. is
exits-cells graph (Some label) = λ cell kind is. kind-before graph.added (Exit ∷ []) cell kind is

or-exits-cells : (graph : Graph) (next : Option Graph) → HasCells graph (stepped graph next) → HasCells graph (stepped graph (or_exits graph next))
or-exits-cells graph None k = exits-cells graph (lowest (has_exits graph) graph.nodes)
or-exits-cells graph (Some next) k = k

reduced-cells : (most : ℕ) (graph : Graph) → HasCells graph (reduced most graph)
reduced-cells zero graph = λ cell kind is. is
reduced-cells (suc most) graph = λ cell kind is.
    reduced-cells most (stepped graph (rule_step graph)) cell kind (loop-cells graph (lowest (loops graph) graph.nodes) cell kind is)

by-all-cells : (most : ℕ) (graph : Graph) → HasCells graph (reduced_by_all most graph)
by-all-cells zero graph = λ cell kind is. is
by-all-cells (suc most) graph = λ cell kind is.
    by-all-cells most (stepped graph (any_step graph)) cell kind (or-exits-cells graph (rule_step graph) (loop-cells graph (lowest (loops graph) graph.nodes)) cell kind is)

rest-cells : (graph : Graph) → HasCells graph (dispatch_rest graph)
rest-cells graph = elim (is_above (size graph.nodes - 1)) as (λ b. HasCells graph (if b then dispatch_graph graph else graph)) [
  | true ↦ λ cell kind is. kind-before graph.added (State ∷ []) cell kind is
  | false ↦ λ cell kind is. is
]

-- these cells and this body are of the closed graph
module _ (cells : List Added) (body : Stmts) where
  abbrev pub Leads : Graph → Type 0
  Leads graph =
      ((cell : ℕ) (kind : Added) → kind_at graph.added cell ≡ Some kind → kind_at cells cell ≡ Some kind)
      × ((cell arms : ℕ) → NodesChoose cell arms graph.nodes → stmts_choose cell arms body ≡ true)

  pub reduced-leads : (most : ℕ) (graph : Graph) → IsClosed graph → Leads (reduced most graph) → Leads graph
  reduced-leads most graph closed leads = (
    λ cell kind is. leads.0 cell kind (reduced-cells most graph cell kind is),
    λ cell arms h.
        (let kept = reduced-kept (Stays (Chooses cell arms) (ArmsChoose cell arms) (Picks cell arms) (finds cell arms)) (rules-lose-none (Chooses cell arms) (ArmsChoose cell arms) (Picks cell arms) (finds cell arms)) most graph (closed, h) in
        leads.1 cell arms kept.1),
  )

  pub by-all-leads : (most : ℕ) (graph : Graph) → IsClosed graph → Leads (reduced_by_all most graph) → Leads graph
  by-all-leads most graph closed leads = (
    λ cell kind is. leads.0 cell kind (by-all-cells most graph cell kind is),
    λ cell arms h.
        (let kept = by-all-kept (Stays (Chooses cell arms) (ArmsChoose cell arms) (Picks cell arms) (finds cell arms)) (rules-lose-none (Chooses cell arms) (ArmsChoose cell arms) (Picks cell arms) (finds cell arms)) most graph (closed, h) in
        leads.1 cell arms kept.1),
  )

  pub rest-leads : (graph : Graph) → Leads (dispatch_rest graph) → Leads graph
  rest-leads graph leads = (
    λ cell kind is. leads.0 cell kind (rest-cells graph cell kind is),
    λ cell arms h. leads.1 cell arms (rest-some (Chooses cell arms) (ArmsChoose cell arms) (Picks cell arms) (finds cell arms) graph h),
  )
