-- What each rule keeps, all rules in their order keep.
use Rattle.std.proofs.Common.{◌≡◌, ℕ, zero, suc, ◌*◌, ◌-◌, true, false, if◌then◌else◌, Option, Some, None, refl}
use Rattle.control_flow_theory.specs.semantics.Doing.{is_above}
use Rattle.control_flow_theory.specs.semantics.Graph.{Label}
use Rattle.control_flow_theory.specs.graph_rules.Reduced as reducing
use Rattle.control_flow_theory.specs.graph_rules.Reduced.{Graph, join_graph, inline_graph, close_graph, lowest, loops, inline_step, loop_step, rule_step, stepped, reduced, shaped, size}
use Rattle.control_flow_theory.specs.structuring.Closes.{has_exits, exits_graph, exits_step, or_exits, any_step, reduced_by_all, dispatch_graph, dispatch_rest, closed_graph}

-- Each rule keeps it: Join, Inline, Loop, Exits and the dispatch, where it applies.
pub record Kept (Has : Graph → Type 0) : Type 0 where
  pub joins : (graph : Graph) → Has graph → Has (join_graph graph)
  pub inlines : (graph : Graph) (label : Label) → lowest (reducing.inlines graph) graph.nodes ≡ Some label → Has graph → Has (inline_graph label graph)
  pub closes : (graph : Graph) (label : Label) → lowest (loops graph) graph.nodes ≡ Some label → Has graph → Has (close_graph label graph)
  pub exits : (graph : Graph) (label : Label) → lowest (has_exits graph) graph.nodes ≡ Some label → Has graph → Has (exits_graph label graph)
  pub dispatches : (graph : Graph) → is_above (size graph.nodes - 1) ≡ true → Has graph → Has (dispatch_graph graph)

module _ (Has : Graph → Type 0) (kept : Kept Has) where
  inline-step-kept : (graph : Graph) (found : Option Label) → lowest (reducing.inlines graph) graph.nodes ≡ found → Has graph → Has (stepped graph (inline_step graph found))
  inline-step-kept graph None e h = h
  inline-step-kept graph (Some label) e h = kept.joins (inline_graph label graph) (kept.inlines graph label e h)

  loop-step-kept : (graph : Graph) (found : Option Label) → lowest (loops graph) graph.nodes ≡ found → Has graph → Has (stepped graph (loop_step graph found))
  loop-step-kept graph None e h = inline-step-kept graph (lowest (reducing.inlines graph) graph.nodes) refl h
  loop-step-kept graph (Some label) e h = kept.closes graph label e h

  pub rule-step-kept : (graph : Graph) → Has graph → Has (stepped graph (rule_step graph))
  rule-step-kept graph h = loop-step-kept graph (lowest (loops graph) graph.nodes) refl h

  exits-step-kept : (graph : Graph) (found : Option Label) → lowest (has_exits graph) graph.nodes ≡ found → Has graph → Has (stepped graph (exits_step graph found))
  exits-step-kept graph None e h = h
  exits-step-kept graph (Some label) e h = kept.joins (exits_graph label graph) (kept.exits graph label e h)

  or-exits-kept : (graph : Graph) (next : Option Graph) → Has (stepped graph next) → Has graph → Has (stepped graph (or_exits graph next))
  or-exits-kept graph None k h = exits-step-kept graph (lowest (has_exits graph) graph.nodes) refl h
  or-exits-kept graph (Some next) k h = k

  pub any-step-kept : (graph : Graph) → Has graph → Has (stepped graph (any_step graph))
  any-step-kept graph h = or-exits-kept graph (rule_step graph) (rule-step-kept graph h) h

  pub reduced-kept : (most : ℕ) (graph : Graph) → Has graph → Has (reduced most graph)
  reduced-kept zero graph h = h
  reduced-kept (suc most) graph h = reduced-kept most (stepped graph (rule_step graph)) (rule-step-kept graph h)

  pub shaped-kept : (graph : Graph) → Has graph → Has (shaped graph)
  shaped-kept graph h = reduced-kept (3 * size graph.nodes) (join_graph graph) (kept.joins graph h)

  pub by-all-kept : (most : ℕ) (graph : Graph) → Has graph → Has (reduced_by_all most graph)
  by-all-kept zero graph h = h
  by-all-kept (suc most) graph h = by-all-kept most (stepped graph (any_step graph)) (any-step-kept graph h)

  pub rest-kept : (graph : Graph) → Has graph → Has (dispatch_rest graph)
  rest-kept graph h =
      elim (is_above (size graph.nodes - 1)) as (λ b. is_above (size graph.nodes - 1) ≡ b → Has (if b then dispatch_graph graph else graph)) [ true ↦ λ e. kept.dispatches graph e h | false ↦ λ e. h ] refl

  pub closed-kept : (graph : Graph) → Has graph → Has (closed_graph graph)
  closed-kept graph h =
      let most = 3 * size graph.nodes in
      rest-kept (reduced_by_all most (shaped graph)) (by-all-kept most (shaped graph) (shaped-kept graph h))
