use Rattle.std.proofs.Common.{Some, ap, ◌∙◌, sym, refl}
use Rattle.region_rewrite.specs.Reducing.{graph_in}
use Rattle.region_rewrite.proofs.CandidateRows.{inline_popped, rule_inline, rule_none}
use Rattle.region_rewrite.proofs.reducing.inline_lowest.Goals as goal

pub inline_on-requires-clause-but : goal.inline_on-requires-clause-but
inline_on-requires-clause-but c =
    let old = c.args.state.now in
    inline_popped c.in-Some.label (graph_in old) old.loops old.inlines c.next.new.labels old.exits c.requires.holds c.in-Some.ensures.2

pub returns-in-None-clause-step : goal.returns-in-None-clause-step
returns-in-None-clause-step c =
    (rule_none (graph_in c.args.state.now) c.sound.ensures.rising c.requires.none c.in-None.ensures, refl)

pub returns-in_ok-inline_on-in-Some-clause-step : goal.returns-in_ok-inline_on-in-Some-clause-step
returns-in_ok-inline_on-in-Some-clause-step c =
    rule_inline (graph_in c.args.state.now) c.sound.ensures.rising c.requires.none c.in-Some.label c.in-Some.ensures.0 c.in-Some.ensures.1
    ∙ ap Some (sym c.in_ok-inline_on-in-Some.ensures.graph)
