use Rattle.std.proofs.Common.{◌≡◌, ℕ, suc, true, false, Some, refl, subst, sym, ap, ◌∙◌, arith, add-one, slice_get}
use Rattle.program_points.specs.declared.point_table.table.ProgramPoint.TheVariants.{Goes, Calls, Ends}
use Rattle.program_points.specs.point_table.Table.{IsTidyPlace}
use Rattle.pending_returns.specs.levels.Reach.{Adds, AddsNext, AddsAll}
use Rattle.pending_returns.proofs.levels_lemmas.Marking.{on-ok, one-next, none-next, all-next, flag-is}
use Rattle.pending_returns.proofs.levels.reach.Reach.visit_next.Goals as goal

pub returns-in-Goes-clause-adds : goal.returns-in-Goes-clause-adds
returns-in-Goes-clause-adds c =
    let before = c.args.self.now.places.items in
    let after = c.visit.new.self.places.items in
    on-ok c.visit.result (Adds before after c.in-Goes.to) (AddsNext c.args.table.now c.args.returns.now c.args.range c.args.place.now before after)
    (λ h. subst (λ p. AddsNext c.args.table.now c.args.returns.now c.args.range p before after) (sym c.in-Goes.is)
    (one-next c.args.table.now c.args.returns.now c.args.range (Goes c.in-Goes.to) before after c.in-Goes.to h refl (λ next s. s)))
    c.visit.ensures.adds

pub returns-in-Chooses-clause-adds : goal.returns-in-Chooses-clause-adds
returns-in-Chooses-clause-adds c =
    let before = c.args.self.now.places.items in
    let after = c.visit_all.new.self.places.items in
    on-ok c.visit_all.result (AddsAll c.as_slice.result.now before after) (AddsNext c.args.table.now c.args.returns.now c.args.range c.args.place.now before after)
    (λ h. subst (λ p. AddsNext c.args.table.now c.args.returns.now c.args.range p before after) (sym c.in-Chooses.is)
    (all-next c.args.table.now c.args.returns.now c.args.range c.in-Chooses.ways before after (subst (λ ws. AddsAll ws before after) c.as_slice.ensures h)))
    c.visit_all.ensures.adds

pub returns-then-returns-called-clause-adds : goal.returns-then-returns-called-clause-adds
returns-then-returns-called-clause-adds c =
    let before = c.args.self.now.places.items in
    let after = c.visit-then-returns-called.new.self.places.items in
    let tidy = subst (λ p. IsTidyPlace c.args.table.now p) c.in-Calls.is c.requires.tidy_place in
    let flag = flag-is c.args.returns.now c.in-Calls.called true (omega (arith, tidy.0, c.requires.known)) c.if-returns-called.true in
    on-ok c.visit-then-returns-called.result (Adds before after c.in-Calls.after) (AddsNext c.args.table.now c.args.returns.now c.args.range c.args.place.now before after)
    (λ h. subst (λ p. AddsNext c.args.table.now c.args.returns.now c.args.range p before after) (sym c.in-Calls.is)
    (one-next c.args.table.now c.args.returns.now c.args.range (Calls c.in-Calls.called c.in-Calls.after) before after c.in-Calls.after h (flag, refl) (λ next s. s.1)))
    c.visit-then-returns-called.ensures.adds

pub returns-else-returns-called-clause-adds : goal.returns-else-returns-called-clause-adds
returns-else-returns-called-clause-adds c =
    let before = c.args.self.now.places.items in
    let tidy = subst (λ p. IsTidyPlace c.args.table.now p) c.in-Calls.is c.requires.tidy_place in
    let flag = flag-is c.args.returns.now c.in-Calls.called false (omega (arith, tidy.0, c.requires.known)) c.if-returns-called.false in
    subst (λ p. AddsNext c.args.table.now c.args.returns.now c.args.range p before before) (sym c.in-Calls.is)
    (none-next c.args.table.now c.args.returns.now c.args.range (Calls c.in-Calls.called c.in-Calls.after) before
    (λ next s. (let both : Some false ≡ Some true = sym flag ∙ s.0 in let k : ⊥ = cc in k)))

pub returns-in-Some-clause-adds : goal.returns-in-Some-clause-adds
returns-in-Some-clause-adds c =
    let before = c.args.self.now.places.items in
    let after = c.visit-in-Some.new.self.places.items in
    let start : slice_get c.args.table.now.starts (suc c.in-Ends.paragraph) ≡ Some c.in-Some.start.now = ap (λ (n : ℕ). slice_get c.args.table.now.starts n) (sym (add-one c.in-Ends.paragraph)) ∙ sym c.in-Some.ensures in
    on-ok c.visit-in-Some.result (Adds before after c.in-Some.start.now) (AddsNext c.args.table.now c.args.returns.now c.args.range c.args.place.now before after)
    (λ h. subst (λ p. AddsNext c.args.table.now c.args.returns.now c.args.range p before after) (sym c.in-Ends.is)
    (one-next c.args.table.now c.args.returns.now c.args.range (Ends c.in-Ends.paragraph) before after c.in-Some.start.now h (sym c.if-ends_at.ensures, start)
    (λ next s. (let both : Some c.in-Some.start.now ≡ Some next = sym start ∙ s.1 in let k : c.in-Some.start.now ≡ next = cc in sym k))))
    c.visit-in-Some.ensures.adds
