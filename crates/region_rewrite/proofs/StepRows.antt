-- The steps of the rules.
use Rattle.std.proofs.Common.{◌≡◌, ◌<◌, ◌≤◌, ◌++◌, ℕ, zero, suc, ◌-◌, Bool, true, false, if◌then◌else◌, List, [], ◌∷◌, length, take, drop, get_or, set, Option, Some, None, Result, Ok, Err, refl, ap, sym, ◌∙◌, subst, arith}
use Rattle.cob_base.specs.declared.memory.NoMemory.{NoMemory}
use Rattle.control_flow_theory.specs.semantics.Doing.{is_above}
use Rattle.control_flow_theory.specs.semantics.Graph.{Label, Tree}
use Rattle.control_flow_theory.specs.graph_rules.Shapes.{joined}
use Rattle.control_flow_theory.specs.graph_rules.Reduced.{Node, Graph, each_tree, join_graph, close_graph, size, rule_step, stepped, reduced}
use Rattle.control_flow_theory.specs.structuring.Closes.{IsClosed, dispatch_graph, dispatch_rest, any_step, or_exits, exits_graph, reduced_by_all}
use Rattle.std.specs.Prelude.{OnOk}
use Rattle.loop_rules.specs.Nodes.{may_loop, CloseLoop}
use Rattle.region_rewrite.specs.exit_rule.Exits.{may_exit, CloseExits}
use Rattle.control_flow_theory.proofs.structuring_lemmas.closing.RulesStayClosed.{join-closed}
use Rattle.branch_tree.specs.declared.graph.Node as code
use Rattle.branch_tree.specs.Graph.{seen_node, seen_nodes}
use Rattle.region_rewrite.specs.Candidates.{Fixed}
use Rattle.region_rewrite.specs.Steps.{Steps, LoopSteps}
use Rattle.region_rewrite.proofs.JoinedRows.{each_joined}

-- all trees one after the other
pub each_next : (f : Tree → Tree) (nodes : List Node) (at : ℕ) (d : Node) → at < length nodes →
    set (each_tree f (take at nodes) ++ drop at nodes) at (record { label = (get_or nodes at d).label; tree = f (get_or nodes at d).tree })
    ≡ each_tree f (take (suc at) nodes) ++ drop (suc at) nodes
each_next f [] at d within = let no : ⊥ = omega (arith, within) in absurd no
each_next f (node ∷ nodes) zero d within = refl
each_next f (node ∷ nodes) (suc at) d within =
    let less : at < length nodes = omega (arith, within) in
    ap (λ l. record { label = node.label; tree = f node.tree } ∷ l) (each_next f nodes at d less)

pub each_all : (f : Tree → Tree) (nodes : List Node) (at : ℕ) → length nodes ≤ at →
    each_tree f (take at nodes) ++ drop at nodes ≡ each_tree f nodes
each_all f [] zero most = refl
each_all f [] (suc at) most = refl
each_all f (node ∷ nodes) zero most = let no : ⊥ = omega (arith, most) in absurd no
each_all f (node ∷ nodes) (suc at) most =
    let less : length nodes ≤ at = omega (arith, most) in
    ap (λ l. record { label = node.label; tree = f node.tree } ∷ l) (each_all f nodes at less)

pub seen_node_at : (nodes : List code.Node) (at : ℕ) (d : code.Node) → get_or (seen_nodes nodes) at (seen_node d) ≡ seen_node (get_or nodes at d)
seen_node_at [] at d = refl
seen_node_at (node ∷ nodes) zero d = refl
seen_node_at (node ∷ nodes) (suc at) d = seen_node_at nodes at d

pub size_is : (nodes : List code.Node) → size (seen_nodes nodes) ≡ length nodes
size_is [] = refl
size_is (node ∷ nodes) = let h = size_is nodes in omega (arith, h)

pub get_changed : (f : Tree → Tree) (nodes : List Node) (at : ℕ) (d : Node) → at < length nodes →
    get_or (each_tree f (take at nodes) ++ drop at nodes) at d ≡ get_or nodes at d
get_changed f [] at d within = let no : ⊥ = omega (arith, within) in absurd no
get_changed f (node ∷ nodes) zero d within = refl
get_changed f (node ∷ nodes) (suc at) d within =
    let less : at < length nodes = omega (arith, within) in get_changed f nodes at d less

-- the dispatch, where several nodes are left

above_is : (n : ℕ) → 2 ≤ n → is_above (n - 1) ≡ true
above_is zero h = let no : ⊥ = omega (arith, h) in absurd no
above_is (suc zero) h = let no : ⊥ = omega (arith, h) in absurd no
above_is (suc (suc n)) h = let e : suc (suc n) - 1 ≡ suc n = omega (arith) in ap is_above e

below_is : (n : ℕ) → n < 2 → is_above (n - 1) ≡ false
below_is zero h = let e : 0 - 1 ≡ 0 = omega (arith) in ap is_above e
below_is (suc zero) h = let e : 1 - 1 ≡ 0 = omega (arith) in ap is_above e
below_is (suc (suc n)) h = let no : ⊥ = omega (arith, h) in absurd no

pub dispatches : (g : Graph) → 2 ≤ size g.nodes → dispatch_rest g ≡ dispatch_graph g
dispatches g h = ap (λ z. if z then dispatch_graph g else g) (above_is (size g.nodes) h)

pub no_dispatch : (g : Graph) → size g.nodes < 2 → dispatch_rest g ≡ g
no_dispatch g h = ap (λ z. if z then dispatch_graph g else g) (below_is (size g.nodes) h)

-- a joined graph

pub joined_closed : (g new : Graph) → new ≡ join_graph g → IsClosed g → IsClosed new
joined_closed g new h closed = subst IsClosed (sym h) (join-closed g closed)

pub joined_fixed : (g new : Graph) → new ≡ join_graph g → Fixed joined new.nodes
joined_fixed g new h = subst (λ x. Fixed joined x.nodes) (sym h) (each_joined g.nodes)

-- One step, and several.

pub stays : (n : ℕ) (g : Graph) → rule_step g ≡ None → reduced n g ≡ g
stays zero g h = refl
stays (suc n) g h = ap (λ s. reduced n (stepped g s)) h ∙ stays n g h

pub reduced_next : (n : ℕ) (g new : Graph) → 0 < n → rule_step g ≡ Some new → reduced (n - 1) new ≡ reduced n g
reduced_next zero g new less h = let no : ⊥ = omega (arith, less) in absurd no
reduced_next (suc n) g new less h =
    let e : suc n - 1 ≡ n = omega (arith) in
    ap (λ k. reduced k new) e ∙ ap (λ s. reduced n (stepped g s)) (sym h)

pub stays_all : (n : ℕ) (g : Graph) → any_step g ≡ None → reduced_by_all n g ≡ g
stays_all zero g h = refl
stays_all (suc n) g h = ap (λ s. reduced_by_all n (stepped g s)) h ∙ stays_all n g h

pub all_reduced_next : (n : ℕ) (g new : Graph) → 0 < n → any_step g ≡ Some new → reduced_by_all (n - 1) new ≡ reduced_by_all n g
all_reduced_next zero g new less h = let no : ⊥ = omega (arith, less) in absurd no
all_reduced_next (suc n) g new less h =
    let e : suc n - 1 ≡ n = omega (arith) in
    ap (λ k. reduced_by_all k new) e ∙ ap (λ s. reduced_by_all n (stepped g s)) (sym h)

-- what a step says

pub took : (z : Bool) (step : Option Graph) (old new : Graph) → z ≡ true → Steps (Ok z) step old new → step ≡ Some new
took true step old new e h = h
took false step old new e h = let no : ⊥ = cc in absurd no

pub kept : (z : Bool) (step : Option Graph) (old new : Graph) → z ≡ false → Steps (Ok z) step old new → (step ≡ None) × (new ≡ old)
kept true step old new e h = let no : ⊥ = cc in absurd no
kept false step old new e h = h

pub looped : (z : Bool) (old new : Graph) → z ≡ true → LoopSteps (Ok z) old new → rule_step old ≡ Some new
looped true old new e h = h
looped false old new e h = let no : ⊥ = cc in absurd no

pub loopless : (z : Bool) (old new : Graph) → z ≡ false → LoopSteps (Ok z) old new → ((l : Label) → may_loop old l ≡ false) × (new ≡ old)
loopless true old new e h = let no : ⊥ = cc in absurd no
loopless false old new e h = h

-- where neither Loop nor Inline applies it is a step of Exits
pub exits_else : (result : Result Bool NoMemory) (g same new : Graph) → rule_step g ≡ None → same ≡ g →
    Steps result (or_exits same None) same new → Steps result (any_step g) g new
exits_else result g same new none is steps =
    subst (λ s. Steps result s g new) (sym (ap (or_exits g) none))
    (subst (λ x. Steps result (or_exits x None) x new) is steps)

-- where a rule applies it is done

pub closed_there : (z : Bool) (label : Label) (old new : Graph) → may_loop old label ≡ true → CloseLoop (Ok z) label old new → new ≡ close_graph label old
closed_there true label old new applies h = h.1
closed_there false label old new applies h = let none = h.0 in let no : ⊥ = cc in absurd no

pub exited_there : (z : Bool) (label : Label) (old new : Graph) → may_exit old label ≡ true → CloseExits (Ok z) label old new → new ≡ exits_graph label old
exited_there true label old new applies h = h.1
exited_there false label old new applies h = let none = h.0 in let no : ⊥ = cc in absurd no

pub all_three : (result : Result (Unit {0}) NoMemory) (A B C : Type 0) → OnOk result A → OnOk result B → OnOk result C → OnOk result (A × B × C)
all_three (Ok done) A B C a b c = (a, b, c)
all_three (Err fault) A B C a b c = tt
