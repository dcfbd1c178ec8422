use Rattle.std.proofs.Common.{Ok, ap, ◌∙◌, sym, subst}
use Rattle.control_flow_theory.specs.graph_rules.Reduced.{has_node}
use Rattle.graph_rewriting.specs.Helds.{seen_work}
use Rattle.tree_rules.specs.Inlining.{InlinesInto}
use Rattle.region_rewrite.specs.Candidates.{HoldsBut}
use Rattle.region_rewrite.specs.Reducing.{graph_in}
use Rattle.region_rewrite.proofs.CandidateRows.{inline_but, inline_has}
use Rattle.region_rewrite.proofs.reducing.inline_on.Goals as goal

pub settle-requires-clause-has : goal.settle-requires-clause-has
settle-requires-clause-has c =
    let g = graph_in c.args.state.now in
    let into = subst (λ r. InlinesInto (Ok r) c.args.label g (seen_work c.inline_into.new.work)) c.in-Some.is c.in_ok-inline_into.ensures in
    ap (λ x. has_node x.nodes c.in-Some.from) into.1
    ∙ inline_has g c.args.label c.in-Some.from c.sound.ensures c.requires.applies into.2 into.3

pub settle-requires-clause-but : goal.settle-requires-clause-but
settle-requires-clause-but c =
    let old = c.args.state.now in
    let g = graph_in old in
    let into = subst (λ r. InlinesInto (Ok r) c.args.label g (seen_work c.inline_into.new.work)) c.in-Some.is c.in_ok-inline_into.ensures in
    subst (λ x. HoldsBut c.in-Some.from x old.loops old.inlines old.exits) (sym into.1)
    (inline_but g c.args.label c.in-Some.from c.sound.ensures c.requires.applies into.2 into.3 old.loops old.inlines old.exits c.requires.but)
