use Rattle.std.proofs.Common.{drop}
use Rattle.overlap_trail.specs.Checking.{aim_of}
use Rattle.overlap_trail.proofs.Meeting.{end-moves, some-left}
use Rattle.overlap_trail.proofs.judge.meets_end.Goals as goal

pub returns-then-taken-context : goal.returns-then-taken-context
returns-then-taken-context c = (
  (λ h. absurd (let k : ⊥ = cc in k)),
  (λ h. absurd (some-left c.args.context.moves.now c.args.taken c.if-taken-context.true (end-moves (aim_of c.args.context.goal c.args.context.hops.now) c.args.context.range c.args.paragraph (drop c.args.taken c.args.context.moves.now) h))),
)
