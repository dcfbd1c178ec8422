use Rattle.std.proofs.Common.{Some, ap, ◌∙◌, sym, refl}
use Rattle.region_rewrite.specs.Reducing.{graph_in}
use Rattle.region_rewrite.proofs.CandidateRows.{exits_popped, exits_at, exits_none}
use Rattle.region_rewrite.proofs.exiting.exits_lowest.Goals as goal

pub exits_on-requires-clause-but : goal.exits_on-requires-clause-but
exits_on-requires-clause-but c =
    let old = c.args.state.now in
    exits_popped c.in-Some.label (graph_in old) old.loops old.inlines old.exits c.next.new.labels c.requires.holds c.in-Some.ensures.2

pub returns-in-None-clause-step : goal.returns-in-None-clause-step
returns-in-None-clause-step c = (exits_none (graph_in c.args.state.now) c.sound.ensures.rising c.in-None.ensures, refl)

pub returns-in_ok-exits_on-in-Some-clause-step : goal.returns-in_ok-exits_on-in-Some-clause-step
returns-in_ok-exits_on-in-Some-clause-step c =
    exits_at (graph_in c.args.state.now) c.sound.ensures.rising c.in-Some.label c.in-Some.ensures.0 c.in-Some.ensures.1
    ∙ ap Some (sym c.in_ok-exits_on-in-Some.ensures.graph)
