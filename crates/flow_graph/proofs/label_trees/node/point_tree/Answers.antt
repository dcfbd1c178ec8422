use Rattle.std.proofs.Common.{◌+◌, Some, refl, ap, sym, ◌∙◌, arith, subst}
use Rattle.control_flow_theory.specs.semantics.Graph as graph
use Rattle.control_flow_theory.specs.lowering.Lower as lower
use Rattle.branch_tree.specs.Tree.{seen_body}
use Rattle.lowering_labels.specs.points.FallThrough.{seen_range}
use Rattle.statement_lowering.proofs.Bodies.{before_nothing}
use Rattle.lowering_labels.specs.loop_nodes.Loops.{before}
use Rattle.statement_lowering.specs.continuations.Successors.{after_by, GoesLater, tree_behind}
use Rattle.statement_lowering.specs.continuations.Statements.{Fits, IsRest}
use Rattle.flow_graph.specs.label_trees.Node.{node_in}
use Rattle.flow_graph.proofs.label_trees_lemmas.NodeSteps.{before_only, fit_at, goes_alike, graph_in, here_is, leaves_alike, rest_at_index, run_ends, run_goes}
use Rattle.flow_graph.proofs.label_trees.node.point_tree.Goals as goal

pub loop-turn-init : goal.loop-turn-init
loop-turn-init c = (
  c.requires.there,
  omega arith,
  λ other alike. (
    alike.here,
    λ program table.
        let node = node_in c.args.telling.now program other (lower.point c.args.place) in
        ap (λ l. before (seen_body l) node) c.new-body.ensures.items ∙ before_nothing node,
  ),
)

pub lower_rest-requires-clause-own : goal.lower_rest-requires-clause-own
lower_rest-requires-clause-own c =
    let telling = c.args.telling.now in
    let layout = telling.layout.now in
    let spots = c.args.spots.now in
    let here = c.loop-turn.here in
    let spot = c.index-spots-here.result in
    let inv = c.loop-turn.invariant in
    let whole = c.requires.whole in
    let fit : Fits layout.end (0 + here) spot = fit_at layout.end 0 spots here spot inv.0 c.index-spots-here.is whole.fit in
    fit.own

pub lower_rest-requires-clause-fits : goal.lower_rest-requires-clause-fits
lower_rest-requires-clause-fits c =
    let telling = c.args.telling.now in
    let layout = telling.layout.now in
    let spots = c.args.spots.now in
    let here = c.loop-turn.here in
    let spot = c.index-spots-here.result in
    let inv = c.loop-turn.invariant in
    let whole = c.requires.whole in
    let fit : Fits layout.end (0 + here) spot = fit_at layout.end 0 spots here spot inv.0 c.index-spots-here.is whole.fit in
    omega (arith, fit.within, whole.small)

pub loop-turn-preserved : goal.loop-turn-preserved
loop-turn-preserved c =
    let telling = c.args.telling.now in
    let layout = telling.layout.now in
    let spots = c.args.spots.now in
    let here = c.loop-turn.here in
    let spot = c.index-spots-here.result in
    let inv = c.loop-turn.invariant in
    let whole = c.requires.whole in
    let fit : Fits layout.end (0 + here) spot = fit_at layout.end 0 spots here spot inv.0 c.index-spots-here.is whole.fit in
    let bodies = c.loop-turn.body.items in
    let news = c.lower_rest.new.body.items in
    let leaving = c.leaving_of-leaving.result in
    let after = c.after_of-after.result in
    let next = c.in-Some-behind.next in
    let later : GoesLater (0 + here + 1) layout.end (Some next) = subst (GoesLater (0 + here + 1) layout.end) c.in-Some-behind.is fit.later in (
      omega (arith, later.1, whole.count),
      omega (arith, later.0, inv.1),
      λ other alike.
          let so = inv.2 other alike in
          let found = here_is spots here spot inv.0 c.index-spots-here.is in
          let same = alike.alike here spot so.0 found in
          let leaves = leaves_alike telling c.args.range other spot.onward leaving same c.leaving_of-leaving.ensures in
          let goes = goes_alike telling c.args.range other spot.onward after same c.after_of-after.ensures in (
            alike.behind here next spot so.0 found c.in-Some-behind.is,
            λ program table.
                let g = graph_in telling other program table.placed in
                let rest : IsRest layout g here spot = subst (λ n. IsRest layout g n spot) (omega arith) (rest_at_index layout g 0 spots here spot inv.0 c.index-spots-here.is (table.rests.rests (seen_range other) table.placed)) in
                ap (before (seen_body news)) (sym (ap (λ b. tree_behind layout g b (after_by layout g spot.onward)) c.in-Some-behind.is))
                ∙ sym (run_goes telling other program table.placed here spot leaving after rest leaves goes (seen_body bodies) bodies news _ refl c.in_ok-end.ensures c.in-None.is)
                ∙ so.1 program table,
          ),
    )

pub returns-in-Some : goal.returns-in-Some
returns-in-Some c =
    let telling = c.args.telling.now in
    let layout = telling.layout.now in
    let spots = c.args.spots.now in
    let here = c.loop-turn.here in
    let spot = c.index-spots-here.result in
    let inv = c.loop-turn.invariant in
    let whole = c.requires.whole in
    let fit : Fits layout.end (0 + here) spot = fit_at layout.end 0 spots here spot inv.0 c.index-spots-here.is whole.fit in
    let bodies = c.loop-turn.body.items in
    let news = c.lower_rest.new.body.items in
    let leaving = c.leaving_of-leaving.result in
    let after = c.after_of-after.result in
    λ other alike.
    let so = inv.2 other alike in
    let same = alike.alike here spot so.0 (here_is spots here spot inv.0 c.index-spots-here.is) in
    let leaves = leaves_alike telling c.args.range other spot.onward leaving same c.leaving_of-leaving.ensures in
    let goes = goes_alike telling c.args.range other spot.onward after same c.after_of-after.ensures in
    λ program table.
    let g = graph_in telling other program table.placed in
    let rest : IsRest layout g here spot = subst (λ n. IsRest layout g n spot) (omega arith) (rest_at_index layout g 0 spots here spot inv.0 c.index-spots-here.is (table.rests.rests (seen_range other) table.placed)) in
    c.body_with_end.ensures
    ∙ sym (run_ends telling other program table.placed here spot leaving after rest leaves goes (seen_body bodies) bodies news _ refl c.in_ok-end.ensures c.in-Some.end c.in-Some.is)
    ∙ so.1 program table

pub returns-in-None-behind : goal.returns-in-None-behind
returns-in-None-behind c =
    let telling = c.args.telling.now in
    let layout = telling.layout.now in
    let spots = c.args.spots.now in
    let here = c.loop-turn.here in
    let spot = c.index-spots-here.result in
    let inv = c.loop-turn.invariant in
    let whole = c.requires.whole in
    let fit : Fits layout.end (0 + here) spot = fit_at layout.end 0 spots here spot inv.0 c.index-spots-here.is whole.fit in
    let bodies = c.loop-turn.body.items in
    let news = c.lower_rest.new.body.items in
    let leaving = c.leaving_of-leaving.result in
    let after = c.after_of-after.result in
    λ other alike.
    let so = inv.2 other alike in
    let same = alike.alike here spot so.0 (here_is spots here spot inv.0 c.index-spots-here.is) in
    let leaves = leaves_alike telling c.args.range other spot.onward leaving same c.leaving_of-leaving.ensures in
    let goes = goes_alike telling c.args.range other spot.onward after same c.after_of-after.ensures in
    λ program table.
    let g = graph_in telling other program table.placed in
    let rest : IsRest layout g here spot = subst (λ n. IsRest layout g n spot) (omega arith) (rest_at_index layout g 0 spots here spot inv.0 c.index-spots-here.is (table.rests.rests (seen_range other) table.placed)) in
    let end = after_by layout g spot.onward in
    c.body_with_end-in-None-behind.ensures ∙ ap (graph.tree (seen_body news)) (c.end_at.ensures ∙ goes program table.placed) ∙ sym (before_only (seen_body news) end)
    ∙ ap (before (seen_body news)) (sym (ap (λ b. tree_behind layout g b end) c.in-None-behind.is))
    ∙ sym (run_goes telling other program table.placed here spot leaving after rest leaves goes (seen_body bodies) bodies news _ refl c.in_ok-end.ensures c.in-None.is)
    ∙ so.1 program table

pub returns : goal.returns
returns c = λ other alike program table. absurd (omega (arith, c.loop-turn.invariant.0, c.loop-turn.invariant.1, c.loop-turn-test.false))
