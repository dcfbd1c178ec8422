use Rattle.std.proofs.Common.{arith}
use Rattle.control_flow_theory.specs.graph_rules.Reduced.{rule_step}
use Rattle.region_rewrite.specs.Reducing.{graph_in}
use Rattle.region_rewrite.proofs.StepRows.{kept}
use Rattle.region_rewrite.proofs.RoomRows.{same-room}
use Rattle.region_rewrite.proofs.exiting.any_step.Goals as goal

pub exits_lowest-requires-clause-room : goal.exits_lowest-requires-clause-room
exits_lowest-requires-clause-room c =
    let g = graph_in c.args.state.now in
    let new = graph_in c.step.new.state in
    let same = kept _ (rule_step g) g new c.if-branch.false c.in_ok-step.ensures.step in
    let room = same-room c.args.state.now c.step.new.state same.1 in
    let was = c.requires.room in
    omega (arith, room, was)
