use Rattle.std.proofs.Common.{drop, refl, sym, subst}
use Rattle.program_points.specs.paths.Accepted.{walk, Meets}
use Rattle.program_points.specs.paths.Accepted as accepted
use Rattle.overlap_trail.specs.Follow.{sought_of}
use Rattle.overlap_trail.specs.Checking.{aim_of}
use Rattle.overlap_trail.proofs.Legs.{never-stuck, arrives-behind}
use Rattle.overlap_trail.proofs.leg.call_leg.Goals as goal

pub returns-then-meets_call-clause-leg : goal.returns-then-meets_call-clause-leg
returns-then-meets_call-clause-leg c = λ known program from met.
    let aim = aim_of c.args.context.goal c.args.context.hops.now in
    let moves = drop c.args.taken c.args.context.moves.now in
    let end = walk met.0 moves in
    arrives-behind known (sought_of program c.args.context.range aim) from end met.2
    (end, accepted.here end, subst (λ now. Meets aim c.args.context.range now moves) (sym met.3) ((c.if-meets_call.ensures met.1).0 refl))

pub returns-else-meets_call-clause-leg : goal.returns-else-meets_call-clause-leg
returns-else-meets_call-clause-leg c = λ known program from met.
    let aim = aim_of c.args.context.goal c.args.context.hops.now in
    let moves = drop c.args.taken c.args.context.moves.now in
    let end = walk met.0 moves in
    never-stuck known (sought_of program c.args.context.range aim) from
    (end, met.2, (λ h. (let f = (c.if-meets_call.ensures met.1).1 (subst (λ now. Meets aim c.args.context.range now moves) met.3 h) in let k : ⊥ = cc in k)), met.4)
