use Rattle.std.proofs.Common.{refl, ap, sym, ◌∙◌}
use Rattle.std.specs.Option.{option_copied}
use Rattle.control_flow_theory.specs.graph_rules.Reduced.{has_node, tree_in, with_tree}
use Rattle.graph_rewriting.specs.Helds.{seen_work}
use Rattle.graph_rewriting.specs.Rewriting.{bare}
use Rattle.graph_rewriting.proofs.WorkRows.{no_key, some_key, no_slot}
use Rattle.graph_rewriting.proofs.StoredRows.{with_slots, had_tree, taken_stored, seen_change}
use Rattle.graph_rewriting.proofs.work.Work.take.Goals as goal

pub invariant_of-self-in-Some-take_out : goal.invariant_of-self-in-Some-take_out
invariant_of-self-in-Some-take_out c =
    let t = c.in-Some-take_out.tree in
    (taken_stored c.self.inside c.self.invariant c.args.label c.in-Some.key.now
    (sym c.get.ensures.value ∙ ap option_copied c.in-Some.is) t c.take_out.new.slots c.count_tree.new.slots
    c.in-Some-take_out.ensures c.count_tree.ensures).whole

pub invariant_of-self : goal.invariant_of-self
invariant_of-self c =
    absurd (no_slot c.self.inside c.self.invariant c.args.label c.in-Some.key.now
    (sym c.get.ensures.value ∙ ap option_copied c.in-Some.is) c.in-None-take_out.ensures.0)

pub returns-in-None : goal.returns-in-None
returns-in-None c = (
  ap (λ held. has_node (seen_work held).nodes c.args.label) (sym c.self.view_is)
      ∙ no_key c.self.inside c.self.invariant c.args.label (sym c.get.ensures.value ∙ ap option_copied c.in-None.is),
  refl,
)

pub returns-in-None-take_out : goal.returns-in-None-take_out
returns-in-None-take_out c =
    absurd (no_slot c.self.inside c.self.invariant c.args.label c.in-Some.key.now
    (sym c.get.ensures.value ∙ ap option_copied c.in-Some.is) c.in-None-take_out.ensures.0)

pub returns-in-Some-take_out : goal.returns-in-Some-take_out
returns-in-Some-take_out c =
    let t = c.in-Some-take_out.tree in
    let key = c.in-Some.key.now in
    let led = sym c.get.ensures.value ∙ ap option_copied c.in-Some.is in
    let inside = c.self.inside in
    let whole = c.self.invariant in (
      ap (λ held. has_node (seen_work held).nodes c.args.label) (sym c.self.view_is) ∙ some_key inside whole c.args.label key led,
      had_tree inside whole c.args.label key led t c.take_out.new.slots c.in-Some-take_out.ensures
          ∙ ap (λ held. tree_in (seen_work held).nodes c.args.label) c.self.view_is,
      seen_change (with_tree c.args.label bare) inside (with_slots inside c.count_tree.new.slots) c.args.self.now c.self.view_is
          (taken_stored inside whole c.args.label key led t c.take_out.new.slots c.count_tree.new.slots
          c.in-Some-take_out.ensures c.count_tree.ensures).are refl refl,
    )
