-- The rules end: where none applies one node is left, or the dispatch makes one; it has no jump.
use Rattle.std.proofs.Common.{◌≡◌, ◌≢◌, ℕ, zero, suc, ◌-◌, ◌*◌, ◌≤◌, ◌<◌, Bool, true, false, if◌then◌else◌, List, [], ◌∷◌, Option, Some, None, refl, ap, sym, ◌∙◌, subst, arith, ◌⊎◌, inl, inr}
use Rattle.std.proofs.lemmas.Bool.Decides.{eqb_tells}
use Rattle.control_flow_theory.specs.language.Language.{none}
use Rattle.control_flow_theory.specs.semantics.Doing.{is_above}
use Rattle.control_flow_theory.specs.semantics.Graph.{Label, Tree, tree, End, Pick, Jump, Return, Stop, Dead, Trees, no_more, more}
use Rattle.control_flow_theory.specs.graph_rules.Families.{Added, Exit}
use Rattle.control_flow_theory.specs.graph_rules.Shapes.{joined, ToLabel, Back, Targets, NoTarget, Only, Several, both_targets, leaves_to, end_leaves_to, arms_leaves_to, other_targets, end_targets, other_arms_targets}
use Rattle.control_flow_theory.specs.graph_rules.Reduced.{Node, Graph, tree_in, count, join_graph, at_most_one, loops, lowest, loop_step, rule_step, stepped, reduced, shaped, size}
use Rattle.control_flow_theory.specs.structuring.Dispatches.{LeavesEnd, LeavesTree, LeavesTrees, Numbered, bare, some_returns, dispatched, tree_returns}
use Rattle.control_flow_theory.specs.structuring.Targets.{inserted, tree_targets, trees_targets, targets_of, with_exits}
use Rattle.control_flow_theory.specs.structuring.Targets as targets
use Rattle.control_flow_theory.specs.structuring.Closes.{none_left_out, are_several, has_exits, exits_graph, exits_step, or_exits, any_step, reduced_by_all, dispatch_graph, closed_graph, IsClosed}
use Rattle.control_flow_theory.specs.structuring.Laws.{ClosedEnds, RulesEnd}
use Rattle.control_flow_theory.proofs.semantics_lemmas.Ranges.{eq-self}
use Rattle.control_flow_theory.proofs.structuring_lemmas.gathering.Targets.{numbered-cases}
use Rattle.control_flow_theory.proofs.structuring_lemmas.closing.StayClosed.{All, inserted-all, return-leaves}
use Rattle.control_flow_theory.proofs.structuring_lemmas.closing.RulesStayClosed.{tree-stays, lowest-is, shaped-closed, all-reduced-closed}
use Rattle.control_flow_theory.proofs.structuring_lemmas.closing.StayJoined.{AllJoined, closed-joined, plain-end}
use Rattle.control_flow_theory.proofs.graph_rules_lemmas.shapes.Ending.{left_to_do, looped-less, step-falls, Falls, each-size, selfs-most, joined-selfs}

-- Exits takes a node's jumps to itself away.
module _ (label : Label) where
  abbrev Other : Label → Type 0
  Other to = to ≢ label

  mutual
    end-others : (end : End) (found : List Label) → All Other found → All Other (targets.end_targets label end found)
    end-others (Pick picker arms) = λ found all. trees-others arms found all
    end-others (Jump to) = λ found all.
        elim (eqb_tells to label) [
          | inl e ↦ subst (λ b. All Other (if b then found else inserted to found)) (sym e.0) all
          | inr e ↦ subst (λ b. All Other (if b then found else inserted to found)) (sym e.0) (inserted-all Other to found e.1 all)
        ]
    end-others Return = λ found all. all
    end-others Stop = λ found all. all
    end-others Dead = λ found all. all

    tree-others : (t : Tree) (found : List Label) → All Other found → All Other (tree_targets label t found)
    tree-others (tree body end) = λ found all. end-others end found all

    trees-others : (arms : Trees) (found : List Label) → All Other found → All Other (trees_targets label arms found)
    trees-others no_more = λ found all. all
    trees-others (more first others) = λ found all. trees-others others (tree_targets label first found) (tree-others first found all)

  bare-clean : (found : List Label) (returns : Bool) → All Other found → arms_leaves_to label (bare found returns) ≡ 0
  bare-clean [] false all = refl
  bare-clean [] true all = omega arith
  bare-clean (first ∷ others) returns all =
      let rest = bare-clean others returns all.1 in
      let one : end_leaves_to label (Jump first) ≡ 0 = elim (eqb_tells first label) [ inl e ↦ absurd (all.0 e.1) | inr e ↦ ap (λ b. if b then 1 else 0) e.0 ] in
      omega (arith, one, rest)

exits-less : (graph : Graph) (label : Label) → has_exits graph label ≡ true → left_to_do (exits_graph label graph) < left_to_do graph
exits-less graph label applies =
    let t = tree_in graph.nodes label in
    looped-less label (with_exits none_left_out (count graph.added) label t) (Exit ∷ []) graph (bare-clean label (targets_of label t) (tree_returns t) (tree-others label t [] tt))
    (λ zero_is. (let q : false ≡ true = sym (ap (λ n. if is_above n then are_several (other_targets label t) else false) zero_is) ∙ applies in cc))

exits-falls : (graph : Graph) (found : Option Label) → lowest (has_exits graph) graph.nodes ≡ found → Falls graph (exits_step graph found)
exits-falls graph None e = tt
exits-falls graph (Some label) e =
    let a = exits-less graph label (lowest-is (has_exits graph) graph.nodes label e) in
    let b = each-size joined (exits_graph label graph).nodes in
    let c = joined-selfs (exits_graph label graph).nodes in
    omega (arith, a, b, c)

any-falls : (graph : Graph) → Falls graph (any_step graph)
any-falls graph =
    elim (rule_step graph) as (λ o. Falls graph o → Falls graph (or_exits graph o)) [
      | Some next ↦ λ f. f
      | None ↦ λ f. exits-falls graph (lowest (has_exits graph) graph.nodes) refl
    ] (step-falls graph)

all-stays : (most : ℕ) (graph : Graph) → any_step graph ≡ None → reduced_by_all most graph ≡ graph
all-stays zero graph e = refl
all-stays (suc most) graph e = ap (λ x. reduced_by_all most (stepped graph x)) e ∙ all-stays most graph e

all-ends : (most : ℕ) (graph : Graph) → left_to_do graph ≤ most → any_step (reduced_by_all most graph) ≡ None
all-ends zero graph le =
    elim (any_step graph) as (λ found. any_step graph ≡ found → Falls graph found → any_step graph ≡ None) [
      | None ↦ λ e falls. e
      | Some next ↦ λ e falls. absurd (omega (arith, falls, le))
    ] refl (any-falls graph)
all-ends (suc most) graph le =
    elim (any_step graph) as (λ found. any_step graph ≡ found → Falls graph found → any_step (reduced_by_all most (stepped graph found)) ≡ None) [
      | None ↦ λ e falls. ap any_step (all-stays most graph e) ∙ e
      | Some next ↦ λ e falls. all-ends most next (omega (arith, falls, le))
    ] refl (any-falls graph)

stepped-less : (graph : Graph) (found : Option Graph) → Falls graph found → left_to_do (stepped graph found) ≤ left_to_do graph
stepped-less graph None f = omega arith
stepped-less graph (Some next) f = omega (arith, f)

reduced-less : (most : ℕ) (graph : Graph) → left_to_do (reduced most graph) ≤ left_to_do graph
reduced-less zero graph = omega arith
reduced-less (suc most) graph =
    let a = stepped-less graph (rule_step graph) (step-falls graph) in
    let b = reduced-less most (stepped graph (rule_step graph)) in
    omega (arith, a, b)

shaped-left : (graph : Graph) → left_to_do (shaped graph) ≤ 3 * size graph.nodes
shaped-left graph =
    let a = reduced-less (3 * size graph.nodes) (join_graph graph) in
    let b = each-size joined graph.nodes in
    let c = selfs-most (join_graph graph).nodes in
    omega (arith, a, b, c)

-- what is left when no rule applies
abbrev last_of : Graph → Graph
last_of graph = reduced_by_all (3 * size graph.nodes) (shaped graph)

pub last-ends : (graph : Graph) → any_step (last_of graph) ≡ None
last-ends graph = all-ends (3 * size graph.nodes) (shaped graph) (shaped-left graph)

-- One node that jumps at most to itself, where Loop doesn't apply, doesn't jump.

no-rule : (graph : Graph) → any_step graph ≡ None → rule_step graph ≡ None
no-rule graph e = elim (rule_step graph) as (λ o. or_exits graph o ≡ None → o ≡ None) [ Some next ↦ λ f. absurd (cc) | None ↦ λ f. refl ] e

no-loop : (graph : Graph) → rule_step graph ≡ None → lowest (loops graph) graph.nodes ≡ None
no-loop graph e = elim (lowest (loops graph) graph.nodes) as (λ o. loop_step graph o ≡ None → o ≡ None) [ Some label ↦ λ f. absurd (cc) | None ↦ λ f. refl ] e

abbrev NoLabel : Targets → Type 0
NoLabel NoTarget = Unit {0}
NoLabel (Only (ToLabel to)) = ⊥
NoLabel (Only Back) = Unit {0}
NoLabel Several = ⊥

both-none : (one two : Targets) → NoLabel one → NoLabel two → NoLabel (both_targets one two)
both-none NoTarget two h k = k
both-none (Only (ToLabel to)) two h k = absurd h
both-none (Only Back) NoTarget h k = tt
both-none (Only Back) (Only (ToLabel to)) h k = absurd k
both-none (Only Back) (Only Back) h k = tt
both-none (Only Back) Several h k = absurd k
both-none Several two h k = absurd h

few-is : (targets : Targets) → NoLabel targets → at_most_one targets ≡ true
few-is NoTarget h = refl
few-is (Only live) h = refl
few-is Several h = absurd h

module _ (label : Label) where
  mutual
    end-self : (end : End) → LeavesEnd (λ to. to ≡ label) (Unit {0}) end → NoLabel (end_targets label end)
    end-self (Pick picker arms) = λ l. arms-self arms l
    end-self (Jump to) = λ l. elim (eqb_tells to label) [
      | inl e ↦ subst (λ b. NoLabel (if b then NoTarget else Only (ToLabel to))) (sym e.0) tt
      | inr e ↦ absurd (e.1 l)
    ]
    end-self Return = λ l. tt
    end-self Stop = λ l. tt
    end-self Dead = λ l. tt

    tree-self : (t : Tree) → LeavesTree (λ to. to ≡ label) (Unit {0}) t → NoLabel (other_targets label t)
    tree-self (tree body end) = λ l. end-self end l

    arms-self : (arms : Trees) → LeavesTrees (λ to. to ≡ label) (Unit {0}) arms → NoLabel (other_arms_targets label arms)
    arms-self no_more = λ l. tt
    arms-self (more first others) = λ l. both-none (other_targets label first) (other_arms_targets label others) (tree-self first l.0) (arms-self others l.1)

module _ (P Q : Label → Type 0) (f : (l : Label) → P l → Q l) where
  mutual
    end-wider : (end : End) → LeavesEnd P (Unit {0}) end → LeavesEnd Q (Unit {0}) end
    end-wider (Pick picker arms) = λ l. arms-wider arms l
    end-wider (Jump to) = λ l. f to l
    end-wider Return = λ l. tt
    end-wider Stop = λ l. tt
    end-wider Dead = λ l. tt

    tree-wider : (t : Tree) → LeavesTree P (Unit {0}) t → LeavesTree Q (Unit {0}) t
    tree-wider (tree body end) = λ l. end-wider end l

    arms-wider : (arms : Trees) → LeavesTrees P (Unit {0}) arms → LeavesTrees Q (Unit {0}) arms
    arms-wider no_more = λ l. tt
    arms-wider (more first others) = λ l. (tree-wider first l.0, arms-wider others l.1)

zero-or : (n : ℕ) → (n ≡ 0) ⊎ (is_above n ≡ true)
zero-or zero = inl refl
zero-or (suc n) = inr refl

-- nowhere
abbrev Nowhere : Label → Type 0
Nowhere l = ⊥

alone-still : (node : Node) (entry : Label) (added : List Added) →
    (let graph : Graph = record { entry = entry; nodes = node ∷ []; added = added } in any_step graph ≡ None × LeavesTree (Numbered (node.label ∷ [])) (Unit {0}) node.tree → LeavesTree Nowhere (Unit {0}) node.tree)
alone-still node entry added h =
    let graph : Graph = record { entry = entry; nodes = node ∷ []; added = added } in
    let label = node.label in
    let found : tree_in (node ∷ []) label ≡ node.tree = ap (λ b. if b then node.tree else tree none Dead) (eq-self label) in
    let self : LeavesTree (λ to. to ≡ label) (Unit {0}) node.tree =
    tree-wider (Numbered (label ∷ [])) (λ to. to ≡ label) (λ l n. elim (numbered-cases label l [] n) [ inl e ↦ sym e | inr k ↦ absurd (let e = k.1 in omega (arith, e)) ]) node.tree h.1 in
    let none_is : lowest (loops graph) (node ∷ []) ≡ None = no-loop graph (no-rule graph h.0) in
    let few : at_most_one (other_targets label (tree_in (node ∷ []) label)) ≡ true = ap (λ t. at_most_one (other_targets label t)) found ∙ few-is (other_targets label node.tree) (tree-self label node.tree self) in
    elim (zero-or (leaves_to label node.tree)) [
      | inl z ↦ tree-stays (λ to. to ≡ label) Nowhere label (λ to p d. d p) node.tree self z
      | inr above ↦
          let applies : loops graph label ≡ true = ap (λ b. if b then at_most_one (other_targets label (tree_in (node ∷ []) label)) else false) (ap (λ t. is_above (leaves_to label t)) found ∙ above) ∙ few in
          let some : Some label ≡ None = sym (ap (λ b. if b then Some label else None) applies) ∙ none_is in
          absurd (cc)
    ]

-- what is left, by its nodes
one-left : (entry : Label) (nodes : List Node) (added : List Added) →
    (let graph : Graph = record { entry = entry; nodes = nodes; added = added } in any_step graph ≡ None × IsClosed graph → is_above (size nodes - 1) ≡ false → (t : Tree) × (nodes ≡ record { label = entry; tree = t } ∷ []) × LeavesTree Nowhere (Unit {0}) t)
one-left entry [] added h few = absurd (let n = h.1.entry in let e = n.1 in omega (arith, e))
one-left entry (node ∷ []) added h few =
    let is : node.label ≡ entry = elim (numbered-cases node.label entry [] h.1.entry) [ inl e ↦ e | inr k ↦ absurd (let e = k.1 in omega (arith, e)) ] in
    (node.tree, ap (λ l. (let n : Node = record { label = l; tree = node.tree } in n ∷ [])) is, alone-still node entry added (h.0, h.1.jumps.0))
one-left entry (node ∷ next ∷ nodes) added h few = absurd (
    let e : size (node ∷ next ∷ nodes) - 1 ≡ suc (size nodes) = omega arith in
    let f : false ≡ true = sym few ∙ ap is_above e in cc)

no-jump : (graph : Graph) → IsClosed graph → (t : Tree) × ((closed_graph graph).nodes ≡ record { label = (closed_graph graph).entry; tree = t } ∷ []) × LeavesTree Nowhere (Unit {0}) t
no-jump graph closed =
    let last = last_of graph in
    let k = all-reduced-closed (3 * size graph.nodes) (shaped graph) (shaped-closed graph closed) in
    elim (is_above (size last.nodes - 1)) as (λ b. is_above (size last.nodes - 1) ≡ b → (t : Tree) × ((if b then dispatch_graph last else last).nodes ≡ record { label = (if b then dispatch_graph last else last).entry; tree = t } ∷ []) × LeavesTree Nowhere (Unit {0}) t) [
      | true ↦ λ e. (dispatched none_left_out (count last.added) last.entry last.nodes, refl, return-leaves Nowhere (some_returns last.nodes))
      | false ↦ λ e. one-left last.entry last.nodes last.added (last-ends graph, k) e
    ] refl

pub closed-ends : ClosedEnds
closed-ends = λ graph closed.
    let k = no-jump graph closed in
    (k.0, k.1, plain-end k.0 (subst AllJoined k.1 (closed-joined graph)).0 k.2)

pub rules-end : RulesEnd
rules-end = last-ends
