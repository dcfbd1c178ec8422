use Rattle.std.proofs.Common.{ap, sym, ◌∙◌}
use Rattle.std.specs.Option.{option_copied}
use Rattle.control_flow_theory.specs.graph_rules.Reduced.{has_node, tree_in}
use Rattle.graph_rewriting.specs.Helds.{seen_work}
use Rattle.graph_rewriting.proofs.WorkRows.{no_key, some_key, no_slot, its_label, its_tree}
use Rattle.graph_rewriting.proofs.work.Work.node.Goals as goal

pub returns-in-None : goal.returns-in-None
returns-in-None c =
    ap (λ held. has_node (seen_work held).nodes c.args.label) (sym c.self.view_is)
    ∙ no_key c.self.inside c.self.invariant c.args.label (sym c.get.ensures.value ∙ ap option_copied c.in-None.is)

pub returns-in-None-get : goal.returns-in-None-get
returns-in-None-get c =
    absurd (no_slot c.self.inside c.self.invariant c.args.label c.in-Some.key.now
    (sym c.get.ensures.value ∙ ap option_copied c.in-Some.is)
    (sym c.get-in-Some.ensures ∙ ap option_copied c.in-None-get.is))

pub returns-in-Some-get : goal.returns-in-Some-get
returns-in-Some-get c =
    let key = c.in-Some.key.now in
    let kept = c.in-Some-get.kept.now in
    let led = sym c.get.ensures.value ∙ ap option_copied c.in-Some.is in
    let here = sym c.get-in-Some.ensures ∙ ap option_copied c.in-Some-get.is in
    let inside = c.self.inside in
    let whole = c.self.invariant in (
      ap (λ held. has_node (seen_work held).nodes c.args.label) (sym c.self.view_is) ∙ some_key inside whole c.args.label key led,
      its_label inside whole c.args.label key kept led here,
      its_tree inside whole c.args.label key kept led here ∙ ap (λ held. tree_in (seen_work held).nodes c.args.label) c.self.view_is,
    )
