use Rattle.std.proofs.Common.{ap, ◌∙◌}
use Rattle.std.proofs.lemmas.Result.{on_ok_weaker}
use Rattle.graph_rewriting.specs.Helds.{seen_work}
use Rattle.region_rewrite.specs.Reducing.{graph_in}
use Rattle.region_rewrite.proofs.ReduceRows.{looped_on}
use Rattle.region_rewrite.proofs.StepRows.{all_three, closed_there}
use Rattle.region_rewrite.proofs.reducing.loop_on.Goals as goal

pub returns-clause-graph : goal.returns-clause-graph
returns-clause-graph c =
    let old = c.args.state.now in
    on_ok_weaker c.enter.result
    (λ entered. ap seen_work c.enter.ensures.work
    ∙ closed_there c.in_ok-close_loop.field-0 c.args.label (graph_in old) (seen_work c.close_loop.new.work) c.requires.applies c.in_ok-close_loop.ensures)
    c.enter.ensures.loops

pub returns-clause-holds : goal.returns-clause-holds
returns-clause-holds c =
    let old = c.args.state.now in
    let new = c.enter.new.state in
    on_ok_weaker c.enter.result
    (λ entered. looped_on (graph_in old) c.args.label c.sound.ensures.rising c.requires.applies
    old.loops old.inlines c.put_node_targets.new.labels old.exits new.loops new.inlines new.exits c.requires.but
    c.in_ok-put_node_targets.ensures.grows c.in_ok-put_node_targets.ensures.targets (graph_in new)
    (ap seen_work c.enter.ensures.work
    ∙ closed_there c.in_ok-close_loop.field-0 c.args.label (graph_in old) (seen_work c.close_loop.new.work) c.requires.applies c.in_ok-close_loop.ensures)
    entered.0 entered.1 entered.2)
    (all_three c.enter.result _ _ _ c.enter.ensures.loops c.enter.ensures.inlines c.enter.ensures.exits)
