-- No rule adds a node, and each step adds one item at most.
use Rattle.std.proofs.Common.{◌≡◌, ◌≤◌, ◌<◌, ◌+◌, ◌*◌, ◌^◌, ◌++◌, ℕ, zero, suc, List, [], ◌∷◌, map, length, length-append, Option, Some, None, ap, sym, ◌∙◌, subst, arith}
use Rattle.std.proofs.lemmas.List.{length-map}
use Rattle.std.specs.Vec.{vec_len}
use Rattle.control_flow_theory.specs.semantics.Graph.{Label}
use Rattle.control_flow_theory.specs.graph_rules.Families.{Never, Flag}
use Rattle.control_flow_theory.specs.graph_rules.Shapes.{Targets, NoTarget, Only, Several, Live, joined, other_targets}
use Rattle.control_flow_theory.specs.graph_rules.Reduced.{Graph, tree_in, join_graph, inlines, lowest, loops, Form, form_of, close_form, close_by, inline_step, loop_step, rule_step, stepped, size, reduced}
use Rattle.control_flow_theory.specs.structuring.Closes.{has_exits, exits_step, or_exits, any_step, reduced_by_all}
use Rattle.control_flow_theory.specs.graph_rules.Families as kinds
use Rattle.control_flow_theory.proofs.graph_rules_lemmas.shapes.Ending.{each-size}
use Rattle.control_flow_theory.proofs.main_theorem_lemmas.graphs.Bounds.{reduced-fewer, by-all-fewer}
use Rattle.branch_tree.specs.Graph.{seen_added}
use Rattle.region_rewrite.specs.Reducing.{graph_in}
use Rattle.region_rewrite.specs.Shaping.{IsSmall}
use Rattle.region_rewrite.specs.declared.reducing.Reducing.{Reducing}
use Rattle.region_rewrite.proofs.StepRows.{size_is}

abbrev More : Graph → Graph → Type 0
More new old = length new.added ≤ length old.added + 1

form-more : (label : Label) (live : Live) (graph : Graph) (form : Option Form) → More (close_form label live graph form) graph
form-more label live graph None = let e : length (graph.added ++ Flag ∷ []) ≡ length graph.added + 1 = length-append graph.added (Flag ∷ []) in omega (arith, e)
form-more label live graph (Some form) = let e : length (graph.added ++ []) ≡ length graph.added + 0 = length-append graph.added [] in omega (arith, e)

by-more : (label : Label) (graph : Graph) (targets : Targets) → More (close_by label graph targets) graph
by-more label graph NoTarget = let e : length (graph.added ++ Never ∷ []) ≡ length graph.added + 1 = length-append graph.added (Never ∷ []) in omega (arith, e)
by-more label graph (Only live) = form-more label live graph (form_of label live (tree_in graph.nodes label))
by-more label graph Several = omega arith

inline-more : (graph : Graph) (found : Option Label) → More (stepped graph (inline_step graph found)) graph
inline-more graph None = omega arith
inline-more graph (Some label) = omega arith

loop-more : (graph : Graph) (found : Option Label) → More (stepped graph (loop_step graph found)) graph
loop-more graph None = inline-more graph (lowest (inlines graph) graph.nodes)
loop-more graph (Some label) = by-more label graph (other_targets label (tree_in graph.nodes label))

rule-more : (graph : Graph) → More (stepped graph (rule_step graph)) graph
rule-more graph = loop-more graph (lowest (loops graph) graph.nodes)

exits-more : (graph : Graph) (found : Option Label) → More (stepped graph (exits_step graph found)) graph
exits-more graph None = omega arith
exits-more graph (Some label) = let e : length (graph.added ++ kinds.Exit ∷ []) ≡ length graph.added + 1 = length-append graph.added (kinds.Exit ∷ []) in omega (arith, e)

or-exits-more : (graph : Graph) (next : Option Graph) → More (stepped graph next) graph → More (stepped graph (or_exits graph next)) graph
or-exits-more graph None k = exits-more graph (lowest (has_exits graph) graph.nodes)
or-exits-more graph (Some next) k = k

any-more : (graph : Graph) → More (stepped graph (any_step graph)) graph
any-more graph = or-exits-more graph (rule_step graph) (rule-more graph)

reduced-more : (most : ℕ) (graph : Graph) → length (reduced most graph).added ≤ length graph.added + most
reduced-more zero graph = omega arith
reduced-more (suc most) graph =
    let a = rule-more graph in
    let b = reduced-more most (stepped graph (rule_step graph)) in
    omega (arith, a, b)

by-all-more : (most : ℕ) (graph : Graph) → length (reduced_by_all most graph).added ≤ length graph.added + most
by-all-more zero graph = omega arith
by-all-more (suc most) graph =
    let a = any-more graph in
    let b = by-all-more most (stepped graph (any_step graph)) in
    omega (arith, a, b)

-- the items of the vector are those of the graph
pub added-is : (state : Reducing) → vec_len state.work.added ≡ length (graph_in state).added
added-is state = let held = state.work.added.ok.0 in let same = length-map state.work.added.items seen_added in omega (arith, held, same)

nodes-are : (state : Reducing) → length state.work.nodes ≡ size (graph_in state).nodes
nodes-are state = sym (size_is state.work.nodes)

-- ---- one step

pub rule-room : (old new : Reducing) → rule_step (graph_in old) ≡ Some (graph_in new) → vec_len new.work.added ≤ vec_len old.work.added + 1
rule-room old new is =
    let a = added-is old in
    let b = added-is new in
    let more : length (graph_in new).added ≤ length (graph_in old).added + 1 = subst (λ s. More (stepped (graph_in old) s) (graph_in old)) is (rule-more (graph_in old)) in
    omega (arith, a, b, more)

pub any-room : (old new : Reducing) → any_step (graph_in old) ≡ Some (graph_in new) → vec_len new.work.added ≤ vec_len old.work.added + 1
any-room old new is =
    let a = added-is old in
    let b = added-is new in
    let more : length (graph_in new).added ≤ length (graph_in old).added + 1 = subst (λ s. More (stepped (graph_in old) s) (graph_in old)) is (any-more (graph_in old)) in
    omega (arith, a, b, more)

-- the graph is as it was
pub same-room : (old new : Reducing) → graph_in new ≡ graph_in old → vec_len new.work.added ≡ vec_len old.work.added
same-room old new is =
    let a = added-is old in
    let b = added-is new in
    let c = ap (λ (g : Graph). length g.added) is in
    omega (arith, a, b, c)

-- ---- all steps

pub room-after : (old new : Reducing) (most : ℕ) → graph_in new ≡ reduced most (graph_in old) → vec_len new.work.added ≤ vec_len old.work.added + most
room-after old new most is =
    let a = added-is old in
    let b = added-is new in
    let c = ap (λ (g : Graph). length g.added) is in
    let more = reduced-more most (graph_in old) in
    omega (arith, a, b, c, more)

pub room-after-all : (old new : Reducing) (most : ℕ) → graph_in new ≡ reduced_by_all most (graph_in old) → vec_len new.work.added ≤ vec_len old.work.added + most
room-after-all old new most is =
    let a = added-is old in
    let b = added-is new in
    let c = ap (λ (g : Graph). length g.added) is in
    let more = by-all-more most (graph_in old) in
    omega (arith, a, b, c, more)

pub fewer-after : (old new : Reducing) (most : ℕ) → graph_in new ≡ reduced most (graph_in old) → length new.work.nodes ≤ length old.work.nodes
fewer-after old new most is =
    let a = nodes-are old in
    let b = nodes-are new in
    let c = ap (λ (g : Graph). size g.nodes) is in
    let fewer = reduced-fewer most (graph_in old) in
    omega (arith, a, b, c, fewer)

pub fewer-after-all : (old new : Reducing) (most : ℕ) → graph_in new ≡ reduced_by_all most (graph_in old) → length new.work.nodes ≤ length old.work.nodes
fewer-after-all old new most is =
    let a = nodes-are old in
    let b = nodes-are new in
    let c = ap (λ (g : Graph). size g.nodes) is in
    let fewer = by-all-fewer most (graph_in old) in
    omega (arith, a, b, c, fewer)

-- ---- a joined graph

pub begun-nodes : (graph : Graph) (state : Reducing) → graph_in state ≡ join_graph graph → IsSmall graph → suc (length state.work.nodes) < 2 ^ 32
begun-nodes graph state is small =
    let a = nodes-are state in
    let b = ap (λ (g : Graph). size g.nodes) is in
    let c = each-size joined graph.nodes in
    let few = small.nodes in
    omega (arith, a, b, c, few)

pub begun-room : (graph : Graph) (state : Reducing) (most : ℕ) → graph_in state ≡ join_graph graph → most ≡ 3 * size graph.nodes → IsSmall graph → vec_len state.work.added + 2 * most < 2 ^ 32
begun-room graph state most is three small =
    let a = added-is state in
    let b = ap (λ (g : Graph). length g.added) is in
    let few = small.nodes in
    let added = small.added in
    omega (arith, a, b, three, few, added)
