use Rattle.std.proofs.Common.{map, take}
use Rattle.file_model.specs.contracts.operations.watched.BoxDynDeviceWatched.TheImpl.{seen-value}
use Rattle.trace_compare.specs.declared.next.Decision.TheVariants as next
use Rattle.trace_compare.proofs.PairLemmas.{going_is, knows_budget, knows_differ, knows_same, next_is_right}
use Rattle.trace_compare.proofs.pair.Pair.turn.Goals as goal

pub step_first-requires : goal.step_first-requires
step_first-requires g c =
    let right = next_is_right c.match_events.new.self next.First c.in-First.ensures in record {
      room = c.match_events.ensures.room;
      empty = right.0;
      going = going_is c.match_events.new.self.first.ended right.1;
      left = right.2;
    }

pub step_second-requires : goal.step_second-requires
step_second-requires g c =
    let right = next_is_right c.match_events.new.self next.Second c.in-Second.ensures in record {
      room = c.match_events.ensures.room;
      empty = right.0;
      going = going_is c.match_events.new.self.second.ended right.1;
      left = right.2;
    }

pub returns-in-First-clause-turned : goal.returns-in-First-clause-turned
returns-in-First-clause-turned g c = λ p q files other_files steps own own_too both.
    let devices = take c.args.bench.now.left (map (seen-value g.dyn-1).it c.args.bench.now.devices.items) in
    let others = take c.args.other.now.left (map (seen-value g.dyn-1).it c.args.other.now.devices.items) in
    c.step_first.ensures.turned p q files other_files others steps own (c.match_events.ensures.stands p q files other_files devices others steps both)

pub returns-in-Second-clause-turned : goal.returns-in-Second-clause-turned
returns-in-Second-clause-turned g c = λ p q files other_files steps own own_too both.
    let devices = take c.args.bench.now.left (map (seen-value g.dyn-1).it c.args.bench.now.devices.items) in
    let others = take c.args.other.now.left (map (seen-value g.dyn-1).it c.args.other.now.devices.items) in
    c.step_second.ensures.turned p q files other_files devices steps own_too (c.match_events.ensures.stands p q files other_files devices others steps both)

pub returns-in-Same-clause-turned : goal.returns-in-Same-clause-turned
returns-in-Same-clause-turned g c = λ p q files other_files steps own own_too both.
    let devices = take c.args.bench.now.left (map (seen-value g.dyn-1).it c.args.bench.now.devices.items) in
    let others = take c.args.other.now.left (map (seen-value g.dyn-1).it c.args.other.now.devices.items) in
    let still = c.match_events.ensures.stands p q files other_files devices others steps both in
    (knows_same p q files other_files c.match_events.new.self devices others steps still (next_is_right c.match_events.new.self next.Same c.in-Same.ensures), still)

pub returns-in-Differ-clause-turned : goal.returns-in-Differ-clause-turned
returns-in-Differ-clause-turned g c = λ p q files other_files steps own own_too both.
    let devices = take c.args.bench.now.left (map (seen-value g.dyn-1).it c.args.bench.now.devices.items) in
    let others = take c.args.other.now.left (map (seen-value g.dyn-1).it c.args.other.now.devices.items) in
    let still = c.match_events.ensures.stands p q files other_files devices others steps both in
    (knows_differ p q files other_files c.match_events.new.self devices others steps still (next_is_right c.match_events.new.self next.Differ c.in-Differ.ensures) c.match_events.ensures.apart, still)

pub returns-in-Budget-clause-turned : goal.returns-in-Budget-clause-turned
returns-in-Budget-clause-turned g c = λ p q files other_files steps own own_too both.
    let devices = take c.args.bench.now.left (map (seen-value g.dyn-1).it c.args.bench.now.devices.items) in
    let others = take c.args.other.now.left (map (seen-value g.dyn-1).it c.args.other.now.devices.items) in
    let still = c.match_events.ensures.stands p q files other_files devices others steps both in
    (knows_budget p q files other_files c.match_events.new.self devices others steps still (next_is_right c.match_events.new.self next.Budget c.in-Budget.ensures), still)
