use Rattle.std.proofs.Common.{ap, ◌∙◌}
use Rattle.std.proofs.lemmas.Result.{on_ok_weaker}
use Rattle.graph_rewriting.specs.Helds.{seen_work}
use Rattle.region_rewrite.specs.Reducing.{graph_in}
use Rattle.region_rewrite.proofs.ReduceRows.{settled, settled_is}
use Rattle.region_rewrite.proofs.StepRows.{all_three}
use Rattle.region_rewrite.proofs.reducing.settle.Goals as goal

pub returns-clause-graph : goal.returns-clause-graph
returns-clause-graph c =
    let old = c.args.state.now in
    on_ok_weaker c.enter.result
    (λ entered. ap seen_work c.enter.ensures.work ∙ c.in_ok-join_at.ensures.1
    ∙ settled_is (graph_in old) c.args.label c.sound.ensures.rising c.requires.has old.loops old.inlines old.exits c.requires.but)
    c.enter.ensures.loops

pub returns-clause-holds : goal.returns-clause-holds
returns-clause-holds c =
    let old = c.args.state.now in
    let new = c.enter.new.state in
    on_ok_weaker c.enter.result
    (λ entered. settled (graph_in old) c.args.label c.sound.ensures.rising c.requires.has
    old.loops old.inlines c.put_node_targets.new.labels old.exits new.loops new.inlines new.exits c.requires.but
    c.in_ok-put_node_targets.ensures.grows c.in_ok-put_node_targets.ensures.targets (graph_in new)
    (ap seen_work c.enter.ensures.work ∙ c.in_ok-join_at.ensures.1) entered.0 entered.1 entered.2)
    (all_three c.enter.result _ _ _ c.enter.ensures.loops c.enter.ensures.inlines c.enter.ensures.exits)
