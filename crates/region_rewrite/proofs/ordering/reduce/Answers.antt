use Rattle.std.proofs.Common.{arith}
use Rattle.region_rewrite.proofs.RoomRows.{fewer-after, fewer-after-all, room-after, room-after-all}
use Rattle.region_rewrite.proofs.ordering.reduce.Goals as goal

pub all_steps-requires-clause-room : goal.all_steps-requires-clause-room
all_steps-requires-clause-room c =
    let some = room-after c.args.state.now c.steps.new.state c.args.most c.in_ok-steps.ensures.graph in
    let room = c.requires.room in
    omega (arith, some, room)

pub dispatch_rest-requires-clause-numbered : goal.dispatch_rest-requires-clause-numbered
dispatch_rest-requires-clause-numbered c =
    let some = fewer-after c.args.state.now c.steps.new.state c.args.most c.in_ok-steps.ensures.graph in
    let others = fewer-after-all c.steps.new.state c.all_steps.new.state c.args.most c.in_ok-all_steps.ensures in
    let few = c.requires.numbered in
    omega (arith, some, others, few)

pub dispatch_rest-requires-clause-room : goal.dispatch_rest-requires-clause-room
dispatch_rest-requires-clause-room c =
    let some = room-after c.args.state.now c.steps.new.state c.args.most c.in_ok-steps.ensures.graph in
    let others = room-after-all c.steps.new.state c.all_steps.new.state c.args.most c.in_ok-all_steps.ensures in
    let room = c.requires.room in
    omega (arith, some, others, room)
