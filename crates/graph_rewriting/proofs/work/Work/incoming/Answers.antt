use Rattle.std.proofs.Common.{ap, sym, ◌∙◌}
use Rattle.std.specs.Option.{option_copied}
use Rattle.control_flow_theory.specs.graph_rules.Reduced.{all_leaves_to}
use Rattle.graph_rewriting.specs.Helds.{seen_work}
use Rattle.graph_rewriting.proofs.WorkRows.{no_leaves, no_slot, its_count}
use Rattle.graph_rewriting.proofs.work.Work.incoming.Goals as goal

pub returns-in-None : goal.returns-in-None
returns-in-None c =
    no_leaves c.self.inside c.self.invariant c.args.label (sym c.get.ensures.value ∙ ap option_copied c.in-None.is)
    ∙ ap (λ held. all_leaves_to c.args.label (seen_work held).nodes) c.self.view_is

pub returns-in-None-get : goal.returns-in-None-get
returns-in-None-get c =
    absurd (no_slot c.self.inside c.self.invariant c.args.label c.in-Some.key.now
    (sym c.get.ensures.value ∙ ap option_copied c.in-Some.is)
    (sym c.get-in-Some.ensures ∙ ap option_copied c.in-None-get.is))

pub returns-in-Some-get : goal.returns-in-Some-get
returns-in-Some-get c =
    its_count c.self.inside c.self.invariant c.args.label c.in-Some.key.now c.in-Some-get.kept.now
    (sym c.get.ensures.value ∙ ap option_copied c.in-Some.is)
    (sym c.get-in-Some.ensures ∙ ap option_copied c.in-Some-get.is)
    ∙ ap (λ held. all_leaves_to c.args.label (seen_work held).nodes) c.self.view_is
