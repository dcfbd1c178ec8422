use Rattle.std.proofs.Common.{◌≡◌, ◌≢◌, refl, ap, sym, ◌∙◌, subst}
use Rattle.control_flow_theory.specs.graph_rules.Reduced.{has_node, tree_in, without, all_leaves_to}
use Rattle.graph_rewriting.specs.Helds.{seen_work}
use Rattle.graph_rewriting.specs.Rewriting.{bare}
use Rattle.graph_rewriting.proofs.WorkRows.{no_key, no_slot}
use Rattle.graph_rewriting.proofs.StoredRows.{with_keys, removed_stored, seen_change}
use Rattle.graph_rewriting.proofs.work.Work.remove.Goals as goal

pub invariant_of-self-in-None-try_remove : goal.invariant_of-self-in-None-try_remove
invariant_of-self-in-None-try_remove c =
    absurd (no_slot c.self.inside c.self.invariant c.args.label c.in-Some.key
    (sym c.remove.ensures.value ∙ c.in-Some.is) (sym c.try_remove.ensures.value ∙ c.in-None-try_remove.is))

pub invariant_of-self-in-Some-try_remove : goal.invariant_of-self-in-Some-try_remove
invariant_of-self-in-Some-try_remove c =
    let back = sym c.self.view_is in
    (removed_stored c.self.inside c.self.invariant c.args.label c.in-Some.key (sym c.remove.ensures.value ∙ c.in-Some.is)
    (subst (λ h. tree_in (seen_work h).nodes c.args.label ≡ bare) back c.requires.bare)
    c.remove.new.self c.try_remove.new.self c.remove.ensures.ordered c.remove.ensures.entries c.remove.ensures.updates
    c.try_remove.ensures.updates
    (subst (λ h. c.args.label ≢ (seen_work h).entry) back c.requires.entry)
    (subst (λ h. all_leaves_to c.args.label (seen_work h).nodes ≡ 0) back c.requires.unused)).whole

pub returns-in-None : goal.returns-in-None
returns-in-None c =
    let none = ap (λ held. has_node (seen_work held).nodes c.args.label) (sym c.self.view_is)
    ∙ no_key c.self.inside c.self.invariant c.args.label (sym c.remove.ensures.value ∙ c.in-None.is) in
    let has = c.requires.has in
    let no : ⊥ = cc in
    absurd no

pub returns-in-None-try_remove : goal.returns-in-None-try_remove
returns-in-None-try_remove c =
    absurd (no_slot c.self.inside c.self.invariant c.args.label c.in-Some.key
    (sym c.remove.ensures.value ∙ c.in-Some.is) (sym c.try_remove.ensures.value ∙ c.in-None-try_remove.is))

pub returns-in-Some-try_remove : goal.returns-in-Some-try_remove
returns-in-Some-try_remove c =
    let back = sym c.self.view_is in
    seen_change (without c.args.label) c.self.inside (with_keys c.self.inside c.remove.new.self c.try_remove.new.self) c.args.self.now c.self.view_is
    (removed_stored c.self.inside c.self.invariant c.args.label c.in-Some.key (sym c.remove.ensures.value ∙ c.in-Some.is)
    (subst (λ h. tree_in (seen_work h).nodes c.args.label ≡ bare) back c.requires.bare)
    c.remove.new.self c.try_remove.new.self c.remove.ensures.ordered c.remove.ensures.entries c.remove.ensures.updates
    c.try_remove.ensures.updates
    (subst (λ h. c.args.label ≢ (seen_work h).entry) back c.requires.entry)
    (subst (λ h. all_leaves_to c.args.label (seen_work h).nodes ≡ 0) back c.requires.unused)).are refl refl
