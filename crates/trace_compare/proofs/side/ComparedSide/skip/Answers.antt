use Rattle.std.proofs.Common.{◌+◌, refl}
use Rattle.trace_compare.specs.Side.{last_events}
use Rattle.trace_compare.proofs.SideLemmas.{drop_more, skipped}
use Rattle.trace_compare.proofs.side.ComparedSide.skip.Goals as goal

pub returns-clause-stands : goal.returns-clause-stands
returns-clause-stands c = λ program files devices steps compared stands.
    skipped program files c.args.self.now devices steps compared stands (record c.args.self.now { compared = c.args.self.now.compared + c.args.count }) c.args.count refl refl refl
    (drop_more c.args.self.now.compared c.args.count (last_events c.args.self.now))
