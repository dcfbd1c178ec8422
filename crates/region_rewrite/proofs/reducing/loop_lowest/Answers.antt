use Rattle.std.proofs.Common.{Some, ap, ◌∙◌, sym}
use Rattle.region_rewrite.specs.Reducing.{graph_in}
use Rattle.region_rewrite.proofs.CandidateRows.{loop_popped, rule_loop}
use Rattle.region_rewrite.proofs.reducing.loop_lowest.Goals as goal

pub loop_on-requires-clause-but : goal.loop_on-requires-clause-but
loop_on-requires-clause-but c =
    let old = c.args.state.now in
    loop_popped c.in-Some.label (graph_in old) old.loops c.next.new.labels old.inlines old.exits c.requires.holds c.in-Some.ensures.2

pub returns-in_ok-loop_on-in-Some-clause-step : goal.returns-in_ok-loop_on-in-Some-clause-step
returns-in_ok-loop_on-in-Some-clause-step c =
    let old = c.args.state.now in
    rule_loop (graph_in old) c.sound.ensures.rising c.in-Some.label c.in-Some.ensures.0 c.in-Some.ensures.1
    ∙ ap Some (sym c.in_ok-loop_on-in-Some.ensures.graph)
