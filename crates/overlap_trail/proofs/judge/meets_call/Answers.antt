use Rattle.std.proofs.Common.{drop, subst}
use Rattle.program_points.specs.paths.Step.{Calls}
use Rattle.program_points.specs.paths.Accepted.{Meets}
use Rattle.overlap_trail.specs.Checking.{aim_of}
use Rattle.overlap_trail.proofs.Meeting.{some-left}
use Rattle.overlap_trail.proofs.judge.meets_call.Goals as goal

pub returns-then-taken-context : goal.returns-then-taken-context
returns-then-taken-context c = λ after. (
  (λ h. absurd (let k : ⊥ = cc in k)),
  (λ h. absurd (some-left c.args.context.moves.now c.args.taken c.if-taken-context.true
      (subst (λ g. Meets (aim_of g c.args.context.hops.now) c.args.context.range (Calls c.args.entry c.args.exit after) (drop c.args.taken c.args.context.moves.now)) c.in-Fault-Reentry.is h).0)),
)
