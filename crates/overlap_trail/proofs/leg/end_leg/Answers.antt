use Rattle.std.proofs.Common.{[], drop, refl, sym, arith}
use Rattle.program_points.specs.paths.Step.{at}
use Rattle.program_points.specs.paths.Accepted.{walk}
use Rattle.program_points.specs.paths.Accepted as accepted
use Rattle.overlap_trail.specs.Checking.{aim_of}
use Rattle.overlap_trail.proofs.Legs.{falls-on, falls-off, at-exit}
use Rattle.overlap_trail.proofs.leg.end_leg.Goals as goal

pub returns-then-meets_end-clause-leg : goal.returns-then-meets_end-clause-leg
returns-then-meets_end-clause-leg c = λ known.
    let here = walk (at c.args.paragraph []) (drop c.args.taken c.args.context.moves.now) in
    (here, accepted.here here, c.if-meets_end.ensures.0 refl)

pub returns-then-ends_at-clause-leg : goal.returns-then-ends_at-clause-leg
returns-then-ends_at-clause-leg c = λ known.
    at-exit c.args.program.now known c.args.context.range (aim_of c.args.context.goal c.args.context.hops.now) c.args.paragraph (drop c.args.taken c.args.context.moves.now)
    (λ h. (let f = c.if-meets_end.ensures.1 h in let k : ⊥ = cc in k)) (sym c.if-ends_at.ensures)

pub returns-then-behind-gt1-clause-leg : goal.returns-then-behind-gt1-clause-leg
returns-then-behind-gt1-clause-leg c = λ known. (
  falls-on c.args.program.now known c.args.context.range (aim_of c.args.context.goal c.args.context.hops.now) c.args.paragraph (drop c.args.taken c.args.context.moves.now)
      (λ h. (let f = c.if-meets_end.ensures.1 h in let k : ⊥ = cc in k)) (sym c.if-ends_at.ensures) (omega (arith, c.saturating_sub-behind.ensures, c.len.ensures, c.if-behind-gt1.true)),
  (omega arith, c.requires),
)

pub returns-else-behind-gt1-clause-leg : goal.returns-else-behind-gt1-clause-leg
returns-else-behind-gt1-clause-leg c = λ known.
    falls-off c.args.program.now known c.args.context.range (aim_of c.args.context.goal c.args.context.hops.now) c.args.paragraph (drop c.args.taken c.args.context.moves.now)
    (λ h. (let f = c.if-meets_end.ensures.1 h in let k : ⊥ = cc in k)) (omega (arith, c.saturating_sub-behind.ensures, c.len.ensures, c.if-behind-gt1.false))
