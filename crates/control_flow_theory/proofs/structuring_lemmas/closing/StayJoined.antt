-- Join is done always: each tree of a graph that the rules reduce is as Join leaves it.
use Rattle.std.proofs.Common.{◌≡◌, ℕ, zero, suc, ◌-◌, ◌*◌, Bool, true, false, if◌then◌else◌, ◌==◌, List, [], ◌∷◌, Option, Some, None, refl, ap, ◌∙◌, subst}
use Rattle.control_flow_theory.specs.language.Language.{Picker, Stmts}
use Rattle.control_flow_theory.specs.semantics.Doing.{is_above}
use Rattle.control_flow_theory.specs.semantics.Graph.{Label, Tree, tree, End, Pick, Jump, Return, Stop, Dead, Trees, no_more, more, end_of}
use Rattle.control_flow_theory.specs.graph_rules.Shapes.{Live, ToLabel, Back, end_at, Targets, NoTarget, Only, Several, both_targets, leaf_targets, arms_targets, join_by, joined, join_end, joined_arms, other_targets}
use Rattle.control_flow_theory.specs.graph_rules.Reduced.{Node, Graph, tree_in, each_tree, with_tree, join_graph, inline_graph, inlines, Form, form_of, close_form, close_by, lowest, inline_step, loop_step, loops, rule_step, stepped, reduced, shaped, size}
use Rattle.control_flow_theory.specs.structuring.Dispatches.{LeavesEnd, LeavesTree, LeavesTrees, return_if, some_returns}
use Rattle.control_flow_theory.specs.structuring.Closes.{has_exits, exits_step, or_exits, any_step, reduced_by_all, dispatch_graph, closed_graph}
use Rattle.control_flow_theory.specs.structuring.Laws.{PlainEnd}

abbrev pub IsJoined : Tree → Type 0
IsJoined t = joined t ≡ t

abbrev pub AllJoined : List Node → Type 0
AllJoined [] = Unit {0}
AllJoined (node ∷ nodes) = IsJoined node.tree × AllJoined nodes

-- a leaf is joined
live-joined : (body : Stmts) (live : Live) → IsJoined (tree body (end_at live))
live-joined body (ToLabel to) = refl
live-joined body Back = refl

by-joined : (body : Stmts) (picker : Picker) (arms : Trees) → joined_arms arms ≡ arms → (targets : Targets) → arms_targets arms ≡ targets → IsJoined (join_by body picker arms targets)
by-joined body picker arms same NoTarget e = refl
by-joined body picker arms same (Only live) e = live-joined _ live
by-joined body picker arms same Several e = ap (λ a. join_by body picker a (arms_targets a)) same ∙ ap (join_by body picker arms) e

-- Join once more changes nothing
mutual
  joined-twice : (t : Tree) → IsJoined (joined t)
  joined-twice (tree body end) = end-twice body end

  end-twice : (body : Stmts) (end : End) → IsJoined (join_end body end)
  end-twice body (Pick picker arms) = by-joined body picker (joined_arms arms) (arms-twice arms) (arms_targets (joined_arms arms)) refl
  end-twice body (Jump to) = refl
  end-twice body Return = refl
  end-twice body Stop = refl
  end-twice body Dead = refl

  arms-twice : (arms : Trees) → joined_arms (joined_arms arms) ≡ joined_arms arms
  arms-twice no_more = refl
  arms-twice (more first others) = ap (λ a. more a (joined_arms (joined_arms others))) (joined-twice first) ∙ ap (more (joined first)) (arms-twice others)

each-joined : (nodes : List Node) → AllJoined (each_tree joined nodes)
each-joined [] = tt
each-joined (node ∷ nodes) = (joined-twice node.tree, each-joined nodes)

with-joined : (label : Label) (t : Tree) (nodes : List Node) → IsJoined t → AllJoined nodes → AllJoined (with_tree label t nodes)
with-joined label t [] j all = tt
with-joined label t (node ∷ nodes) j all =
    let next = with-joined label t nodes j all.1 in
    elim (node.label == label) as (λ b. AllJoined (if b then (let first : Node = record { label = node.label; tree = t } in first ∷ with_tree label t nodes) else node ∷ with_tree label t nodes)) [ true ↦ (j, next) | false ↦ (all.0, next) ]

form-joined : (graph : Graph) (label : Label) (live : Live) (form : Option Form) → AllJoined graph.nodes → AllJoined (close_form label live graph form).nodes
form-joined graph label live (Some form) all = with-joined label _ graph.nodes (live-joined _ live) all
form-joined graph label live None all = with-joined label _ graph.nodes (live-joined _ live) all

by-targets : (graph : Graph) (label : Label) (targets : Targets) → AllJoined graph.nodes → AllJoined (close_by label graph targets).nodes
by-targets graph label NoTarget all = with-joined label _ graph.nodes refl all
by-targets graph label (Only live) all = form-joined graph label live (form_of label live (tree_in graph.nodes label)) all
by-targets graph label Several all = all

inline-step-joined : (graph : Graph) (found : Option Label) → AllJoined graph.nodes → AllJoined (stepped graph (inline_step graph found)).nodes
inline-step-joined graph None all = all
inline-step-joined graph (Some label) all = each-joined (inline_graph label graph).nodes

loop-step-joined : (graph : Graph) (found : Option Label) → AllJoined graph.nodes → AllJoined (stepped graph (loop_step graph found)).nodes
loop-step-joined graph None all = inline-step-joined graph (lowest (inlines graph) graph.nodes) all
loop-step-joined graph (Some label) all = by-targets graph label (other_targets label (tree_in graph.nodes label)) all

rule-step-joined : (graph : Graph) → AllJoined graph.nodes → AllJoined (stepped graph (rule_step graph)).nodes
rule-step-joined graph all = loop-step-joined graph (lowest (loops graph) graph.nodes) all

reduced-joined : (most : ℕ) (graph : Graph) → AllJoined graph.nodes → AllJoined (reduced most graph).nodes
reduced-joined zero graph all = all
reduced-joined (suc most) graph all = reduced-joined most (stepped graph (rule_step graph)) (rule-step-joined graph all)

pub shaped-joined : (graph : Graph) → AllJoined (shaped graph).nodes
shaped-joined graph = reduced-joined (3 * size graph.nodes) (join_graph graph) (each-joined graph.nodes)

exits-step-joined : (graph : Graph) (found : Option Label) → AllJoined graph.nodes → AllJoined (stepped graph (exits_step graph found)).nodes
exits-step-joined graph None all = all
exits-step-joined graph (Some label) all = each-joined _

any-step-joined : (graph : Graph) → AllJoined graph.nodes → AllJoined (stepped graph (any_step graph)).nodes
any-step-joined graph all =
    elim (rule_step graph) as (λ o. rule_step graph ≡ o → AllJoined (stepped graph (or_exits graph o)).nodes) [
      | Some next ↦ λ e. subst (λ o. AllJoined (stepped graph o).nodes) e (rule-step-joined graph all)
      | None ↦ λ e. exits-step-joined graph (lowest (has_exits graph) graph.nodes) all
    ] refl

all-reduced-joined : (most : ℕ) (graph : Graph) → AllJoined graph.nodes → AllJoined (reduced_by_all most graph).nodes
all-reduced-joined zero graph all = all
all-reduced-joined (suc most) graph all = all-reduced-joined most (stepped graph (any_step graph)) (any-step-joined graph all)

return-joined : (body : Stmts) (b : Bool) → IsJoined (tree body (return_if b))
return-joined body true = refl
return-joined body false = refl

pub closed-joined : (graph : Graph) → AllJoined (closed_graph graph).nodes
closed-joined graph =
    let last = reduced_by_all (3 * size graph.nodes) (shaped graph) in
    let k = all-reduced-joined (3 * size graph.nodes) (shaped graph) (shaped-joined graph) in
    elim (is_above (size last.nodes - 1)) as (λ b. AllJoined (if b then dispatch_graph last else last).nodes) [ true ↦ (return-joined _ (some_returns last.nodes), tt) | false ↦ k ]

-- A joined tree without a jump ends in a leaf.

abbrev NoLabel : Targets → Type 0
NoLabel NoTarget = Unit {0}
NoLabel (Only (ToLabel to)) = ⊥
NoLabel (Only Back) = Unit {0}
NoLabel Several = ⊥

both-none : (one two : Targets) → NoLabel one → NoLabel two → NoLabel (both_targets one two)
both-none NoTarget two h k = k
both-none (Only (ToLabel to)) two h k = absurd h
both-none (Only Back) NoTarget h k = tt
both-none (Only Back) (Only (ToLabel to)) h k = absurd k
both-none (Only Back) (Only Back) h k = tt
both-none (Only Back) Several h k = absurd k
both-none Several two h k = absurd h

plain-leaf : (end : End) → PlainEnd end → NoLabel (leaf_targets end)
plain-leaf (Pick picker arms) p = absurd p
plain-leaf (Jump to) p = absurd p
plain-leaf Return p = tt
plain-leaf Stop p = tt
plain-leaf Dead p = tt

by-plain : (body : Stmts) (picker : Picker) (arms : Trees) (targets : Targets) → NoLabel targets → PlainEnd (end_of (join_by body picker arms targets))
by-plain body picker arms NoTarget h = tt
by-plain body picker arms (Only (ToLabel to)) h = absurd h
by-plain body picker arms (Only Back) h = tt
by-plain body picker arms Several h = absurd h

mutual
  joined-plain : (t : Tree) → LeavesTree (λ l. ⊥) (Unit {0}) t → PlainEnd (end_of (joined t))
  joined-plain (tree body end) = λ l. end-plain body end l

  end-plain : (body : Stmts) (end : End) → LeavesEnd (λ l. ⊥) (Unit {0}) end → PlainEnd (end_of (join_end body end))
  end-plain body (Pick picker arms) = λ l. by-plain body picker (joined_arms arms) (arms_targets (joined_arms arms)) (arms-plain arms l)
  end-plain body (Jump to) = λ l. absurd l
  end-plain body Return = λ l. tt
  end-plain body Stop = λ l. tt
  end-plain body Dead = λ l. tt

  arms-plain : (arms : Trees) → LeavesTrees (λ l. ⊥) (Unit {0}) arms → NoLabel (arms_targets (joined_arms arms))
  arms-plain no_more = λ l. tt
  arms-plain (more first others) = λ l. both-none (leaf_targets (end_of (joined first))) (arms_targets (joined_arms others)) (plain-leaf (end_of (joined first)) (joined-plain first l.0)) (arms-plain others l.1)

pub plain-end : (t : Tree) → IsJoined t → LeavesTree (λ l. ⊥) (Unit {0}) t → PlainEnd (end_of t)
plain-end t is l = subst (λ x. PlainEnd (end_of x)) is (joined-plain t l)
