use Rattle.std.proofs.Common.{ap, ◌∙◌, sym, subst}
use Rattle.control_flow_theory.specs.graph_rules.Reduced.{has_node}
use Rattle.graph_rewriting.specs.Helds.{seen_work}
use Rattle.region_rewrite.specs.Candidates.{HoldsBut}
use Rattle.region_rewrite.specs.Reducing.{graph_in}
use Rattle.region_rewrite.proofs.ReduceRows.{exits_but, exits_has, grown_but}
use Rattle.region_rewrite.proofs.StepRows.{exited_there}
use Rattle.region_rewrite.proofs.exiting.exits_on.Goals as goal

pub settle-requires-clause-has : goal.settle-requires-clause-has
settle-requires-clause-has c =
    let g = graph_in c.args.state.now in
    ap (λ x. has_node x.nodes c.args.label)
    (exited_there c.in_ok-close_exits.field-0 c.args.label g (seen_work c.close_exits.new.work) c.requires.applies c.in_ok-close_exits.ensures)
    ∙ exits_has g c.args.label c.sound.ensures.rising c.requires.applies

pub settle-requires-clause-but : goal.settle-requires-clause-but
settle-requires-clause-but c =
    let old = c.args.state.now in
    let g = graph_in old in
    let more = c.put_node_targets.new.labels in
    subst (λ x. HoldsBut c.args.label x old.loops more old.exits)
    (sym (exited_there c.in_ok-close_exits.field-0 c.args.label g (seen_work c.close_exits.new.work) c.requires.applies c.in_ok-close_exits.ensures))
    (exits_but g c.args.label c.sound.ensures.rising c.requires.applies old.loops more old.exits
    (grown_but c.args.label g old.loops old.inlines more old.exits c.requires.but c.in_ok-put_node_targets.ensures.grows)
    c.in_ok-put_node_targets.ensures.targets)
