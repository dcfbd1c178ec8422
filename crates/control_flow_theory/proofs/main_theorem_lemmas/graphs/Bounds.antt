-- How large the numbers are that the rules put into cells: no larger than the number of a range's nodes, and one more.
use Rattle.std.proofs.Common.{◌≡◌, ℕ, zero, suc, ◌*◌, ◌<◌, ◌≤◌, Bool, true, false, if◌then◌else◌, ◌==◌, List, [], ◌∷◌, Option, Some, None, ap, sym, subst, arith, inl, inr, refl}
use Rattle.std.proofs.lemmas.Bool.Decides.{eqb_tells}
use Rattle.control_flow_theory.specs.language.Language.{Until, Loop, Nested}
use Rattle.control_flow_theory.specs.semantics.Graph.{Label, Tree, tree, Dead}
use Rattle.control_flow_theory.specs.lowering.WellFormed.{tree_count}
use Rattle.control_flow_theory.specs.rendering.Rendering.{count_arms}
use Rattle.control_flow_theory.specs.graph_rules.Families.{Added, Never, Flag}
use Rattle.control_flow_theory.specs.graph_rules.Loops.{Flagged, Endless, loop_of, turned_test}
use Rattle.control_flow_theory.specs.graph_rules.Shapes.{alone, end_at, flat, Targets, NoTarget, Only, Several, Live, joined, inlined, other_targets}
use Rattle.control_flow_theory.specs.graph_rules.Reduced.{Node, Graph, tree_in, count, with_tree, looped_graph, without, join_graph, inline_graph, inlines, lowest, loops, Form, form_of, close_form, close_by, inline_step, loop_step, rule_step, stepped, size, reduced, shaped}
use Rattle.control_flow_theory.specs.structuring.Dispatches.{one_further, number_in, Numbered, labels_of, length_of, bare, node_arms}
use Rattle.control_flow_theory.specs.structuring.Targets.{RisingLabels, targets_of, with_exits}
use Rattle.control_flow_theory.specs.structuring.Closes.{none_left_out, has_exits, exits_graph, exits_step, or_exits, any_step, reduced_by_all, IsClosed}
use Rattle.control_flow_theory.proofs.graph_rules_lemmas.shapes.Ending.{each-size}
use Rattle.control_flow_theory.proofs.structuring_lemmas.gathering.Targets.{numbered-cases, targets-rise}
use Rattle.control_flow_theory.proofs.structuring_lemmas.closing.StayClosed.{All, tree-all, by-labels, tree-numbered}

-- Labels that rise and stand among labels that rise are no more than these.

rest-rises : (first : Label) (others : List Label) → RisingLabels (first ∷ others) → RisingLabels others
rest-rises first [] rising = tt
rest-rises first (next ∷ others) rising = rising.1

abbrev Above : Label → List Label → Type 0
Above label xs = All (λ other. label < other) xs

above-more : (low label : Label) (xs : List Label) → low < label → Above label xs → Above low xs
above-more low label [] lt all = tt
above-more low label (x ∷ xs) lt all = ((let e = all.0 in omega (arith, e, lt)), above-more low label xs lt all.1)

heads-above : (first : Label) (others : List Label) → RisingLabels (first ∷ others) → Above first others
heads-above first [] rising = tt
heads-above first (next ∷ others) rising = (rising.0, above-more first next others rising.0 (heads-above next others rising.1))

numbered-all : (P : Label → Type 0) (labels : List Label) (label : Label) → All P labels → Numbered labels label → P label
numbered-all P [] label all n = absurd (let e = n.1 in omega (arith, e))
numbered-all P (first ∷ others) label all n = elim (numbered-cases first label others n) [
  | inl is ↦ subst P is all.0
  | inr k ↦ numbered-all P others label all.1 k
]

behind : (first : Label) (others xs : List Label) → Above first xs → All (Numbered (first ∷ others)) xs → All (Numbered others) xs
behind first others [] above all = tt
behind first others (x ∷ xs) above all = (
  elim (numbered-cases first x others all.0) [
    | inl is ↦ absurd (let lt = above.0 in omega (arith, is, lt))
    | inr k ↦ k
  ],
  behind first others xs above.1 all.1,
)

rising-fewer : (labels xs : List Label) → RisingLabels labels → RisingLabels xs → All (Numbered labels) xs → length_of xs ≤ length_of labels
rising-fewer labels [] rises xs_rise all = omega arith
rising-fewer [] (x ∷ xs) rises xs_rise all = absurd (let e = all.0.1 in omega (arith, e))
rising-fewer (first ∷ others) (x ∷ xs) rises xs_rise all =
    let after = rest-rises first others rises in
    let above = heads-above x xs xs_rise in
    elim (eqb_tells first x) [
      | inl e ↦
          let k = rising-fewer others xs after (rest-rises x xs xs_rise) (behind first others xs (subst (λ y. Above y xs) (sym e.1) above) all.1) in
          omega (arith, k)
      | inr e ↦
          let there : Numbered others x = elim (numbered-cases first x others all.0) [ inl is ↦ absurd (e.1 is) | inr k ↦ k ] in
          let lt : first < x = numbered-all (λ other. first < other) others x (heads-above first others rises) there in
          let k = rising-fewer others (x ∷ xs) after xs_rise (there, behind first others xs (above-more first x xs lt above) all.1) in
          omega (arith, k)
    ]

further : (n m : ℕ) → n ≤ m → one_further n ≤ suc m
further zero m le = omega arith
further (suc n) m le = omega (arith, le)

pub number-most : (labels : List Label) (label : Label) → number_in labels label ≤ length_of labels
number-most [] label = omega arith
number-most (first ∷ others) label =
    let k = number-most others label in
    elim (first == label) as (λ b. (if b then 1 else one_further (number_in others label)) ≤ suc (length_of others)) [
      | true ↦ omega arith
      | false ↦ further (number_in others label) (length_of others) k
    ]

pub labels-size : (nodes : List Node) → length_of (labels_of nodes) ≡ size nodes
labels-size [] = refl
labels-size (node ∷ nodes) = ap suc (labels-size nodes)

-- the targets of a node are no more than the nodes
pub targets-most : (graph : Graph) (label : Label) → IsClosed graph → length_of (targets_of label (tree_in graph.nodes label)) ≤ size graph.nodes
targets-most graph label closed =
    let labels = labels_of graph.nodes in
    let t = tree_in graph.nodes label in
    subst (λ n. length_of (targets_of label t) ≤ n) (labels-size graph.nodes)
    (rising-fewer labels (targets_of label t) (by-labels graph.nodes closed.rising) (targets-rise label t)
    (tree-all (Numbered labels) label t [] (tree-numbered labels label graph.nodes closed.jumps) tt))

pub bare-most : (targets : List Label) (returns : Bool) → tree_count (bare targets returns) ≤ suc (length_of targets)
bare-most [] false = omega arith
bare-most [] true = omega arith
bare-most (first ∷ others) returns = let k = bare-most others returns in omega (arith, k)

pub bare-least : (targets : List Label) (returns : Bool) → length_of targets ≤ tree_count (bare targets returns)
bare-least [] returns = omega arith
bare-least (first ∷ others) returns = let k = bare-least others returns in omega (arith, k)

pub bare-returns : (targets : List Label) (returns : Bool) → returns ≡ true → suc (length_of targets) ≤ tree_count (bare targets returns)
bare-returns [] false is = absurd (let e : false ≡ true = is in cc)
bare-returns [] true is = omega arith
bare-returns (first ∷ others) returns is = let k = bare-returns others returns is in omega (arith, k)

pub node-arms-count : (state : ℕ) (labels : List Label) (nodes : List Node) → count_arms (node_arms none_left_out state labels nodes) ≡ size nodes
node-arms-count state labels [] = refl
node-arms-count state labels (node ∷ nodes) = ap suc (node-arms-count state labels nodes)

-- No rule adds a node.

with-size : (label : Label) (t : Tree) (nodes : List Node) → size (with_tree label t nodes) ≡ size nodes
with-size label t [] = refl
with-size label t (node ∷ nodes) =
    let next = with-size label t nodes in
    elim (node.label == label) as (λ b. size (if b then (let first : Node = record { label = node.label; tree = t } in first ∷ with_tree label t nodes) else node ∷ with_tree label t nodes) ≡ suc (size nodes)) [
      | true ↦ ap suc next
      | false ↦ ap suc next
    ]

without-size : (label : Label) (nodes : List Node) → size (without label nodes) ≤ size nodes
without-size label [] = omega arith
without-size label (node ∷ nodes) =
    let next = without-size label nodes in
    elim (node.label == label) as (λ b. size (if b then without label nodes else node ∷ without label nodes) ≤ suc (size nodes)) [
      | true ↦ omega (arith, next)
      | false ↦ omega (arith, next)
    ]

abbrev Fewer : Graph → Graph → Type 0
Fewer new old = size new.nodes ≤ size old.nodes

looped-fewer : (label : Label) (t : Tree) (cells : List Added) (graph : Graph) → Fewer (looped_graph label t cells graph) graph
looped-fewer label t cells graph = let e = with-size label t graph.nodes in omega (arith, e)

form-fewer : (label : Label) (live : Live) (graph : Graph) (form : Option Form) → Fewer (close_form label live graph form) graph
form-fewer label live graph None =
    looped-fewer label (tree (loop_of Flagged (count graph.added) (flat Flagged (count graph.added) label (tree_in graph.nodes label))) (end_at live)) (Flag ∷ []) graph
form-fewer label live graph (Some form) =
    looped-fewer label (tree (alone (Loop (Until form.after (turned_test form.turned form.test)) (Nested form.body))) (end_at live)) [] graph

by-fewer : (label : Label) (graph : Graph) (targets : Targets) → Fewer (close_by label graph targets) graph
by-fewer label graph NoTarget =
    looped-fewer label (tree (loop_of Endless (count graph.added) (flat Endless (count graph.added) label (tree_in graph.nodes label))) Dead) (Never ∷ []) graph
by-fewer label graph (Only live) = form-fewer label live graph (form_of label live (tree_in graph.nodes label))
by-fewer label graph Several = omega arith

inline-fewer : (graph : Graph) (found : Option Label) → Fewer (stepped graph (inline_step graph found)) graph
inline-fewer graph None = omega arith
inline-fewer graph (Some label) =
    let nodes = without label graph.nodes in
    let a = each-size joined (inline_graph label graph).nodes in
    let b = each-size (inlined label (tree_in graph.nodes label)) nodes in
    let c = without-size label graph.nodes in
    omega (arith, a, b, c)

loop-fewer : (graph : Graph) (found : Option Label) → Fewer (stepped graph (loop_step graph found)) graph
loop-fewer graph None = inline-fewer graph (lowest (inlines graph) graph.nodes)
loop-fewer graph (Some label) = by-fewer label graph (other_targets label (tree_in graph.nodes label))

exits-fewer : (graph : Graph) (found : Option Label) → Fewer (stepped graph (exits_step graph found)) graph
exits-fewer graph None = omega arith
exits-fewer graph (Some label) =
    let a = each-size joined (exits_graph label graph).nodes in
    let b = with-size label (with_exits none_left_out (count graph.added) label (tree_in graph.nodes label)) graph.nodes in
    omega (arith, a, b)

or-exits-fewer : (graph : Graph) (next : Option Graph) → Fewer (stepped graph next) graph → Fewer (stepped graph (or_exits graph next)) graph
or-exits-fewer graph None k = exits-fewer graph (lowest (has_exits graph) graph.nodes)
or-exits-fewer graph (Some next) k = k

pub step-fewer : (graph : Graph) → Fewer (stepped graph (any_step graph)) graph
step-fewer graph = or-exits-fewer graph (rule_step graph) (loop-fewer graph (lowest (loops graph) graph.nodes))

pub reduced-fewer : (most : ℕ) (graph : Graph) → Fewer (reduced most graph) graph
reduced-fewer zero graph = omega arith
reduced-fewer (suc most) graph =
    let a = loop-fewer graph (lowest (loops graph) graph.nodes) in
    let b = reduced-fewer most (stepped graph (rule_step graph)) in
    omega (arith, a, b)

pub by-all-fewer : (most : ℕ) (graph : Graph) → Fewer (reduced_by_all most graph) graph
by-all-fewer zero graph = omega arith
by-all-fewer (suc most) graph =
    let a = step-fewer graph in
    let b = by-all-fewer most (stepped graph (any_step graph)) in
    omega (arith, a, b)

pub shaped-fewer : (graph : Graph) → Fewer (shaped graph) graph
shaped-fewer graph =
    let a = reduced-fewer (3 * size graph.nodes) (join_graph graph) in
    let b = each-size joined graph.nodes in
    omega (arith, a, b)
