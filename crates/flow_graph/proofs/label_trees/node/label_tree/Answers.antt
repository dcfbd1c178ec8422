use Rattle.std.proofs.Common.{◌≡◌, ◌/◌, ◌<◌, length, true, false, ap, sym, ◌∙◌, arith, subst}
use Rattle.control_flow_theory.specs.lowering.Lower as lower
use Rattle.lowering_labels.specs.points.FallThrough.{seen_range}
use Rattle.statement_lowering.specs.continuations.Statements.{Fits, IsRest}
use Rattle.flow_graph.specs.label_trees.Node.{node_in}
use Rattle.flow_graph.proofs.label_trees_lemmas.NodeSteps.{fit_at, goes_same, graph_in, here_is, rest_at_index}
use Rattle.flow_graph.proofs.label_trees.node.label_tree.Goals as goal

pub returns-then-part-eq0-clause-alike : goal.returns-then-part-eq0-clause-alike
returns-then-part-eq0-clause-alike c = λ other alike program table.
    let e : lower.point (c.args.label / 3) ≡ c.args.label = omega (arith, c.if-part-eq0.true) in
    c.in_ok-tree.ensures other alike program table ∙ ap (node_in c.args.telling.now program other) e

pub returns-then-part-eq0-clause-own : goal.returns-then-part-eq0-clause-own
returns-then-part-eq0-clause-own c =
    returns-then-part-eq0-clause-alike c c.args.range (goes_same c.args.spots.now c.args.range (c.args.label / 3))

pub turn_tree-requires-clause-fits : goal.turn_tree-requires-clause-fits
turn_tree-requires-clause-fits c =
    let telling = c.args.telling.now in
    let layout = telling.layout.now in
    let spots = c.args.spots.now in
    let place = c.args.label / 3 in
    let spot = c.index-spots-place.result in
    let lt : place < length spots = omega (arith, c.requires.there) in
    subst (λ n. Fits layout.end n spot) (omega arith) (fit_at layout.end 0 spots place spot lt c.index-spots-place.is c.requires.whole.fit)

pub turn_tree-requires-2-clause-fits : goal.turn_tree-requires-2-clause-fits
turn_tree-requires-2-clause-fits c =
    let telling = c.args.telling.now in
    let layout = telling.layout.now in
    let spots = c.args.spots.now in
    let place = c.args.label / 3 in
    let spot = c.index-spots-place.result in
    let lt : place < length spots = omega (arith, c.requires.there) in
    subst (λ n. Fits layout.end n spot) (omega arith) (fit_at layout.end 0 spots place spot lt c.index-spots-place.is c.requires.whole.fit)

pub returns-then-part-eq1-clause-alike : goal.returns-then-part-eq1-clause-alike
returns-then-part-eq1-clause-alike c =
    let telling = c.args.telling.now in
    let layout = telling.layout.now in
    let spots = c.args.spots.now in
    let place = c.args.label / 3 in
    let spot = c.index-spots-place.result in
    let lt : place < length spots = omega (arith, c.requires.there) in
    let e : lower.loop_head_label (c.args.label / 3) ≡ c.args.label = omega (arith, c.if-part-eq1.true) in
    λ other alike program table.
    let same = alike.alike place spot alike.here (here_is spots place spot lt c.index-spots-place.is) in
    let g = graph_in telling other program table.placed in
    let rest : IsRest layout g place spot = subst (λ n. IsRest layout g n spot) (omega arith) (rest_at_index layout g 0 spots place spot lt c.index-spots-place.is (table.rests.rests (seen_range other) table.placed)) in
    c.in_ok-tree-2.ensures other same program table.placed ∙ sym (rest.turn true) ∙ ap (node_in telling program other) e

pub returns-then-part-eq1-clause-own : goal.returns-then-part-eq1-clause-own
returns-then-part-eq1-clause-own c =
    returns-then-part-eq1-clause-alike c c.args.range (goes_same c.args.spots.now c.args.range (c.args.label / 3))

pub returns-clause-alike : goal.returns-clause-alike
returns-clause-alike c =
    let telling = c.args.telling.now in
    let layout = telling.layout.now in
    let spots = c.args.spots.now in
    let place = c.args.label / 3 in
    let spot = c.index-spots-place.result in
    let lt : place < length spots = omega (arith, c.requires.there) in
    let e : lower.loop_step_label (c.args.label / 3) ≡ c.args.label = omega (arith, c.if-part-eq0.false, c.if-part-eq1.false) in
    λ other alike program table.
    let same = alike.alike place spot alike.here (here_is spots place spot lt c.index-spots-place.is) in
    let g = graph_in telling other program table.placed in
    let rest : IsRest layout g place spot = subst (λ n. IsRest layout g n spot) (omega arith) (rest_at_index layout g 0 spots place spot lt c.index-spots-place.is (table.rests.rests (seen_range other) table.placed)) in
    c.in_ok-tree-3.ensures other same program table.placed ∙ sym (rest.turn false) ∙ ap (node_in telling program other) e

pub returns-clause-own : goal.returns-clause-own
returns-clause-own c =
    returns-clause-alike c c.args.range (goes_same c.args.spots.now c.args.range (c.args.label / 3))
