use Rattle.std.proofs.Common.{◌+◌, arith, refl}
use Rattle.trace_compare.specs.Side.{pending_of}
use Rattle.trace_compare.proofs.NextLemmas.{front_within, front_within_second}
use Rattle.trace_compare.proofs.PairLemmas.{apart_then, both_still, room_still}
use Rattle.trace_compare.proofs.pair.Pair.match_events.Goals as goal

pub skip-requires : goal.skip-requires
skip-requires c =
    let w = front_within (pending_of c.args.self.now.first) (pending_of c.args.self.now.second) in
    omega (arith, c.same_events-more.ensures, w)

pub skip-requires-2 : goal.skip-requires-2
skip-requires-2 c =
    let w = front_within_second (pending_of c.args.self.now.first) (pending_of c.args.self.now.second) in
    omega (arith, c.same_events-more.ensures, w)

pub returns-clause-room : goal.returns-clause-room
returns-clause-room c =
    room_still c.args.self.now (record { first = c.skip.new.self; second = c.skip-2.new.self; same = c.args.self.now.same + c.same_events-more.result }) c.same_events-more.result c.same_events-more.ensures refl
    c.skip.ensures.pending c.skip-2.ensures.pending c.skip.ensures.left c.requires.room

pub returns-clause-apart : goal.returns-clause-apart
returns-clause-apart c =
    apart_then c.args.self.now (record { first = c.skip.new.self; second = c.skip-2.new.self; same = c.args.self.now.same + c.same_events-more.result }) c.same_events-more.result c.same_events-more.ensures refl
    c.skip.ensures.pending c.skip-2.ensures.pending c.skip.ensures.left

pub returns-clause-stands : goal.returns-clause-stands
returns-clause-stands c = λ p q files other_files devices others steps both.
    both_still c.args.self.now (record { first = c.skip.new.self; second = c.skip-2.new.self; same = c.args.self.now.same + c.same_events-more.result }) c.same_events-more.result c.same_events-more.ensures refl
    c.skip.ensures.pending c.skip-2.ensures.pending c.skip.ensures.left c.skip.ensures.machine c.skip-2.ensures.machine c.skip.ensures.ended c.skip-2.ensures.ended c.skip-2.ensures.left p q files other_files devices others steps both
