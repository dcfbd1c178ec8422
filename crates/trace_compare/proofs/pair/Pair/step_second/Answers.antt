use Rattle.std.proofs.Common.{arith}
use Rattle.trace_compare.proofs.pair.Pair.step_second.Goals as goal

pub returns-in-On-clause-turned : goal.returns-in-On-clause-turned
returns-in-On-clause-turned g c = λ p q files other_files devices steps own both. record {
  compared = both.compared;
  count = both.count;
  first = both.first;
  second = c.in-On.ensures.stands q other_files steps both.compared own c.requires.going c.requires.empty both.second;
}

pub returns-in-Failed-clause-turned : goal.returns-in-Failed-clause-turned
returns-in-Failed-clause-turned g c = λ p q files other_files devices steps own both. (both.compared, both.first)

pub returns-in-On-clause-fewer : goal.returns-in-On-clause-fewer
returns-in-On-clause-fewer g c =
    let less = c.in-On.ensures.fewer in
    (omega (arith, less), c.requires.room)
