use Rattle.std.proofs.Common.{◌≡◌, ◌*◌, ◌/◌, length, arith, subst}
use Rattle.control_flow_theory.specs.lowering.Lower.{point}
use Rattle.flow_graph.specs.Reaching.{NodeJumpsBelow}
use Rattle.flow_graph.specs.range_sizes.Cache.{IsPartAt}
use Rattle.flow_graph.proofs.range_sizes.visiting.part_at.Goals as goal

pub point_part-requires-clause-below : goal.point_part-requires-clause-below
point_part-requires-clause-below c =
    let there : c.args.label ≡ point (c.args.label / 3) = omega arith in
    subst (λ n. NodeJumpsBelow c.args.telling.now c.args.spots.now c.args.range n
    (3 * length c.args.spots.now)) there c.requires.below

pub returns-then-label-eq0-clause-part : goal.returns-then-label-eq0-clause-part
returns-then-label-eq0-clause-part c =
    let there : point (c.args.label / 3) ≡ c.args.label = omega (arith, c.if-label-eq0.true) in
    subst (λ n. IsPartAt c.args.telling.now c.args.spots.now c.point_part.new.known.jumps.items n
    c.args.passing c.in_ok-part.part) there c.in_ok-part.ensures.part
