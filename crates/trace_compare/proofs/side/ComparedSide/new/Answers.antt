use Rattle.std.proofs.Common.{arith}
use Rattle.trace_compare.proofs.side.ComparedSide.new.Goals as goal

pub returns-clause-stands : goal.returns-clause-stands
returns-clause-stands c = λ devices files tell. record {
  done = 0;
  counted = omega arith;
  reached = c.in_ok-machine.ensures.tracks devices files tell;
}
