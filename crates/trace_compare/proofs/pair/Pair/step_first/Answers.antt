use Rattle.std.proofs.Common.{arith, refl}
use Rattle.trace_compare.proofs.PairLemmas.{room_stepped}
use Rattle.trace_compare.proofs.pair.Pair.step_first.Goals as goal

pub returns-in-On-clause-turned : goal.returns-in-On-clause-turned
returns-in-On-clause-turned g c = λ p q files other_files others steps own both. record {
  compared = both.compared;
  count = both.count;
  first = c.in-On.ensures.stands p files steps both.compared own c.requires.going c.requires.empty both.first;
  second = both.second;
}

pub returns-in-Failed-clause-turned : goal.returns-in-Failed-clause-turned
returns-in-Failed-clause-turned g c = λ p q files other_files others steps own both. (both.compared, both.second)

pub returns-in-On-clause-fewer : goal.returns-in-On-clause-fewer
returns-in-On-clause-fewer g c =
    let less = c.in-On.ensures.fewer in
    (omega (arith, less), room_stepped c.args.self.now (record { first = c.step.new.self; second = c.args.self.now.second; same = c.args.self.now.same }) c.requires.room c.requires.empty refl less c.in-On.ensures.few)
