-- All choices of a closed graph by one cell have equally many arms: each rule chooses by a new cell alone.
use Rattle.std.proofs.Common.{◌≡◌, ℕ, suc, ◌<◌, ◌≤◌, arith, true, if◌then◌else◌, ◌==◌, List, [], ◌∷◌, ◌++◌, Option, Some, None, refl, ap, sym, subst, inl, inr}
use Rattle.std.proofs.lemmas.Bool.Decides.{eqb_tells}
use Rattle.control_flow_theory.specs.semantics.Graph.{Label, body_of}
use Rattle.control_flow_theory.specs.lowering.WellFormed.{tree_count}
use Rattle.control_flow_theory.specs.graph_rules.EachTree.{EachNode}
use Rattle.control_flow_theory.specs.graph_rules.Families.{Added, Never, Flag, State, Exit}
use Rattle.control_flow_theory.specs.graph_rules.Shapes.{Live, Targets, NoTarget, Only, Several, other_targets}
use Rattle.control_flow_theory.specs.graph_rules.Reduced.{Node, Graph, tree_in, count, Form, form_of, close_form, close_by, close_graph}
use Rattle.control_flow_theory.specs.structuring.Dispatches.{tree_returns, bare}
use Rattle.control_flow_theory.specs.structuring.Targets.{targets_of}
use Rattle.control_flow_theory.specs.structuring.Closes.{exits_graph, dispatch_graph, closed_graph}
use Rattle.control_flow_theory.specs.main_theorem.Chain.{stmts_arms}
use Rattle.control_flow_theory.proofs.semantics_lemmas.Ranges.{eq-self}
use Rattle.control_flow_theory.proofs.structuring_lemmas.closing.InOrder.{Kept, closed-kept}
use Rattle.control_flow_theory.proofs.structuring_lemmas.closing.EachKept.{trees_of, join-graph-each, inline-graph-each, close-graph-each, exits-each, dispatch-each, at-each, body-each}
use Rattle.control_flow_theory.proofs.main_theorem_lemmas.graphs.OneCount.{ChoiceIs, EndIs, bears, nodes-turned}
use Rattle.control_flow_theory.proofs.main_theorem_lemmas.graphs.Choosing.{stmts_choose, first-is}

more-cells : (kinds more : List Added) → count kinds ≤ count (kinds ++ more)
more-cells [] more = omega arith
more-cells (first ∷ kinds) more = let k = more-cells kinds more in omega (arith, k)

one-more : (kinds : List Added) (kind : Added) → count (kinds ++ kind ∷ []) ≡ suc (count kinds)
one-more [] kind = refl
one-more (first ∷ kinds) kind = ap suc (one-more kinds kind)

abbrev NoFewer : Graph → Graph → Type 0
NoFewer old new = count old.added ≤ count new.added

form-more : (label : Label) (live : Live) (graph : Graph) (form : Option Form) → NoFewer graph (close_form label live graph form)
form-more label live graph None = more-cells graph.added (Flag ∷ [])
form-more label live graph (Some form) = more-cells graph.added []

by-more : (label : Label) (graph : Graph) (targets : Targets) → NoFewer graph (close_by label graph targets)
by-more label graph NoTarget = more-cells graph.added (Never ∷ [])
by-more label graph (Only live) = form-more label live graph (form_of label live (tree_in graph.nodes label))
by-more label graph Several = omega arith

-- each choice is by a cell below this number, and has the number of arms of its cell
abbrev Counted : ℕ → (ℕ → ℕ) → ℕ → ℕ → Type 0
Counted below number cell arms = (cell < below) × (arms ≡ number cell)

abbrev Choices : (ℕ → ℕ → Type 0) → List Node → Type 0
Choices P nodes = EachNode (ChoiceIs P) (EndIs P) nodes

abbrev OneCount : Graph → Type 0
OneCount graph = (number : ℕ → ℕ) × Choices (Counted (count graph.added) number) graph.nodes

-- with this number of arms at this cell
abbrev with_number : (ℕ → ℕ) → ℕ → ℕ → ℕ → ℕ
with_number number cell arms = λ c. if c == cell then arms else number c

older : (number : ℕ → ℕ) (cell arms below : ℕ) → cell < below → (c n : ℕ) → Counted cell number c n → Counted below (with_number number cell arms) c n
older number cell arms below lt c n h =
    let less = h.0 in (
      omega (arith, less, lt),
      elim (eqb_tells c cell) [
        | inl e ↦ absurd (let is = e.1 in omega (arith, is, less))
        | inr e ↦ subst (λ b. n ≡ (if b then arms else number c)) (sym e.0) h.1
      ],
    )

newest : (number : ℕ → ℕ) (cell arms below : ℕ) → cell < below → Counted below (with_number number cell arms) cell arms
newest number cell arms below lt = (lt, sym (ap (λ b. if b then arms else number cell) (eq-self cell)))

loop-counted : (graph : Graph) (label : Label) → OneCount graph → OneCount (close_graph label graph)
loop-counted graph label h =
    let next = close_graph label graph in
    let more = by-more label graph (other_targets label (tree_in graph.nodes label)) in
    let old = Counted (count graph.added) h.0 in
    (h.0, nodes-turned old (Counted (count next.added) h.0) (λ c n k. (let less = k.0 in (omega (arith, less, more), k.1))) next.nodes (close-graph-each (ChoiceIs old) (EndIs old) (bears old) label graph h.1))

exits-counted : (graph : Graph) (label : Label) → OneCount graph → OneCount (exits_graph label graph)
exits-counted graph label h =
    let exit = count graph.added in
    let t = tree_in graph.nodes label in
    let arms = tree_count (bare (targets_of label t) (tree_returns t)) in
    let next = exits_graph label graph in
    let one = one-more graph.added Exit in
    let lt : exit < count next.added = omega (arith, one) in
    let each = Counted (count next.added) (with_number h.0 exit arms) in
    (with_number h.0 exit arms, exits-each (ChoiceIs each) (EndIs each) (bears each) label graph (newest h.0 exit arms (count next.added) lt) (nodes-turned (Counted exit h.0) each (older h.0 exit arms (count next.added) lt) graph.nodes h.1))

dispatch-counted : (graph : Graph) → OneCount graph → OneCount (dispatch_graph graph)
dispatch-counted graph h =
    let state = count graph.added in
    let arms = tree_count (trees_of graph.nodes) in
    let next = dispatch_graph graph in
    let one = one-more graph.added State in
    let lt : state < count next.added = omega (arith, one) in
    let each = Counted (count next.added) (with_number h.0 state arms) in
    (with_number h.0 state arms, dispatch-each (ChoiceIs each) (EndIs each) (bears each) graph (newest h.0 state arms (count next.added) lt) (nodes-turned (Counted state h.0) each (older h.0 state arms (count next.added) lt) graph.nodes h.1))

rules-count : Kept OneCount
rules-count = record {
  joins = λ graph h. (let old = Counted (count graph.added) h.0 in (h.0, join-graph-each (ChoiceIs old) (EndIs old) (bears old) graph h.1));
  inlines = λ graph label e h. (let old = Counted (count graph.added) h.0 in (h.0, inline-graph-each (ChoiceIs old) (EndIs old) (bears old) label graph h.1));
  closes = λ graph label e h. loop-counted graph label h;
  exits = λ graph label e h. exits-counted graph label h;
  dispatches = λ graph e h. dispatch-counted graph h;
}

-- where a graph doesn't choose by cells, the first choice by a cell in what is written of the closed one has what any has
pub first-of-closed : (graph : Graph) → Choices (λ c n. ⊥) graph.nodes → (cell arms : ℕ) → stmts_choose cell arms (body_of (tree_in (closed_graph graph).nodes (closed_graph graph).entry)) ≡ true → stmts_arms cell (body_of (tree_in (closed_graph graph).nodes (closed_graph graph).entry)) ≡ Some arms
first-of-closed graph never cell arms h =
    let zeros : ℕ → ℕ = λ c. 0 in
    let begins = nodes-turned (λ c n. ⊥) (Counted (count graph.added) zeros) (λ c n k. absurd k) graph.nodes never in
    let counted = closed-kept OneCount rules-count graph (zeros, begins) in
    let closed = closed_graph graph in
    let number = counted.0 in
    let each : ℕ → ℕ → Type 0 = λ c n. n ≡ number c in
    let all = nodes-turned (Counted (count closed.added) number) each (λ c n k. k.1) closed.nodes counted.1 in
    let t = tree_in closed.nodes closed.entry in
    first-is number cell arms (body_of t) (body-each (ChoiceIs each) (EndIs each) (bears each) t (at-each (ChoiceIs each) (EndIs each) (bears each) closed.nodes closed.entry all)) h
