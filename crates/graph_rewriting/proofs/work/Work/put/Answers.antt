use Rattle.std.proofs.Common.{◌≡◌, refl, ap, sym, ◌∙◌, subst}
use Rattle.std.specs.Option.{option_copied}
use Rattle.control_flow_theory.specs.graph_rules.Reduced.{has_node, tree_in, with_tree}
use Rattle.branch_tree.specs.Tree.{seen_tree}
use Rattle.graph_rewriting.specs.Helds.{seen_work}
use Rattle.graph_rewriting.specs.Rewriting.{bare, Fits}
use Rattle.graph_rewriting.proofs.WorkRows.{no_key}
use Rattle.graph_rewriting.proofs.StoredRows.{with_slots, put_stored, seen_change}
use Rattle.graph_rewriting.proofs.work.Work.put.Goals as goal

pub invariant_of-self : goal.invariant_of-self
invariant_of-self c =
    let back = sym c.self.view_is in
    (put_stored c.self.inside c.self.invariant c.args.label c.in-Some.key.now
    (sym c.get.ensures.value ∙ ap option_copied c.in-Some.is)
    (subst (λ h. tree_in (seen_work h).nodes c.args.label ≡ bare) back c.requires.bare)
    c.args.tree c.count_tree.new.slots c.put_in.new.slots
    (subst (λ h. Fits (seen_tree c.args.tree) (seen_work h).nodes) back c.requires.fits)
    c.count_tree.ensures c.put_in.ensures).whole

pub returns-in-None : goal.returns-in-None
returns-in-None c =
    let none = ap (λ held. has_node (seen_work held).nodes c.args.label) (sym c.self.view_is)
    ∙ no_key c.self.inside c.self.invariant c.args.label (sym c.get.ensures.value ∙ ap option_copied c.in-None.is) in
    let has = c.requires.has in
    let no : ⊥ = cc in
    absurd no

pub returns-in-Some : goal.returns-in-Some
returns-in-Some c =
    let back = sym c.self.view_is in
    seen_change (with_tree c.args.label (seen_tree c.args.tree)) c.self.inside
    (with_slots c.self.inside c.put_in.new.slots) c.args.self.now c.self.view_is
    (put_stored c.self.inside c.self.invariant c.args.label c.in-Some.key.now
    (sym c.get.ensures.value ∙ ap option_copied c.in-Some.is)
    (subst (λ h. tree_in (seen_work h).nodes c.args.label ≡ bare) back c.requires.bare)
    c.args.tree c.count_tree.new.slots c.put_in.new.slots
    (subst (λ h. Fits (seen_tree c.args.tree) (seen_work h).nodes) back c.requires.fits)
    c.count_tree.ensures c.put_in.ensures).are refl refl
