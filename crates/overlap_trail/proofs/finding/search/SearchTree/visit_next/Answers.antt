use Rattle.std.proofs.Common.{◌≡◌, ℕ, List, Option, Some, None, refl, subst, sym, ap, arith}
use Rattle.program_points.specs.declared.paths.trail.Move.TheVariants.{Over}
use Rattle.program_points.specs.declared.point_table.table.ProgramPoint.TheVariants.{Goes, Calls, Ends}
use Rattle.program_points.specs.point_table.Table.{IsTidyPlace}
use Rattle.pending_returns.specs.levels.Reach.{Adds, AddsNext, AddsAll}
use Rattle.pending_returns.proofs.levels_lemmas.Marking.{on-ok, one-next, none-next, all-next, way-is}
use Rattle.overlap_trail.specs.declared.finding.search.Predecessor.{Predecessor}
use Rattle.overlap_trail.specs.finding.Search.{flags_of, Tracks, ByWay, ByStep}
use Rattle.overlap_trail.proofs.finding_lemmas.Tracing.{tracks-none, tracks-as}
use Rattle.overlap_trail.proofs.finding_lemmas.Flags.{flag-there, flag-not}
use Rattle.overlap_trail.proofs.finding.search.SearchTree.visit_next.Goals as goal

pub returns-in-Goes-clause-adds : goal.returns-in-Goes-clause-adds
returns-in-Goes-clause-adds c =
    let before = c.args.self.now.reach.places.items in
    let after = c.visit.new.self.reach.places.items in
    on-ok c.visit.result (Adds before after c.in-Goes.to) (AddsNext c.args.table.now (flags_of c.args.numbers.now) c.args.range c.args.place.now before after)
    (λ h. subst (λ p. AddsNext c.args.table.now (flags_of c.args.numbers.now) c.args.range p before after) (sym c.in-Goes.is)
    (one-next c.args.table.now (flags_of c.args.numbers.now) c.args.range (Goes c.in-Goes.to) before after c.in-Goes.to h refl (λ next s. s)))
    c.visit.ensures.adds

pub returns-in-Chooses-clause-adds : goal.returns-in-Chooses-clause-adds
returns-in-Chooses-clause-adds c =
    let before = c.args.self.now.reach.places.items in
    let after = c.visit_all.new.self.reach.places.items in
    on-ok c.visit_all.result (AddsAll c.as_slice.result.now before after) (AddsNext c.args.table.now (flags_of c.args.numbers.now) c.args.range c.args.place.now before after)
    (λ h. subst (λ p. AddsNext c.args.table.now (flags_of c.args.numbers.now) c.args.range p before after) (sym c.in-Chooses.is)
    (all-next c.args.table.now (flags_of c.args.numbers.now) c.args.range c.in-Chooses.ways before after (subst (λ ws. AddsAll ws before after) c.as_slice.ensures h)))
    c.visit_all.ensures.adds

pub returns-in-Chooses-clause-tracks : goal.returns-in-Chooses-clause-tracks
returns-in-Chooses-clause-tracks c =
    let before = c.args.self.now.reach.places.items in
    let after = c.visit_all.new.self.reach.places.items in
    let came = c.args.self.now.came.items in
    let later = c.visit_all.new.self.came.items in
    on-ok c.visit_all.result (Tracks (λ to how. ByWay c.as_slice.result.now c.args.before to how) before after came later) (Tracks (λ to how. ByStep c.args.table.now c.args.numbers.now c.args.range c.args.place.now c.args.before to how) before after came later)
    (λ h. subst (λ p. Tracks (λ to how. ByStep c.args.table.now c.args.numbers.now c.args.range p c.args.before to how) before after came later) (sym c.in-Chooses.is)
    (subst (λ ws. Tracks (λ to how. ByWay ws c.args.before to how) before after came later) c.as_slice.ensures h))
    c.visit_all.ensures.tracks

pub returns-in-Some-clause-adds : goal.returns-in-Some-clause-adds
returns-in-Some-clause-adds c =
    let before = c.args.self.now.reach.places.items in
    let after = c.visit-in-Some.new.self.reach.places.items in
    let numbers = c.args.numbers.now in
    let tidy = subst (λ p. IsTidyPlace c.args.table.now p) c.in-Calls.is c.requires.tidy_place in
    let number = way-is numbers c.in-Calls.called (Some c.in-Some.lemma) (omega (arith, tidy.0, c.requires.known)) c.in-Some.is in
    let flag = flag-there numbers c.in-Calls.called c.in-Some.lemma number in
    on-ok c.visit-in-Some.result (Adds before after c.in-Calls.after) (AddsNext c.args.table.now (flags_of numbers) c.args.range c.args.place.now before after)
    (λ h. subst (λ p. AddsNext c.args.table.now (flags_of numbers) c.args.range p before after) (sym c.in-Calls.is)
    (one-next c.args.table.now (flags_of numbers) c.args.range (Calls c.in-Calls.called c.in-Calls.after) before after c.in-Calls.after h (flag, refl) (λ next s. s.1)))
    c.visit-in-Some.ensures.adds

pub returns-in-Some-clause-tracks : goal.returns-in-Some-clause-tracks
returns-in-Some-clause-tracks c =
    let before = c.args.self.now.reach.places.items in
    let after = c.visit-in-Some.new.self.reach.places.items in
    let came = c.args.self.now.came.items in
    let later = c.visit-in-Some.new.self.came.items in
    let numbers = c.args.numbers.now in
    let tidy = subst (λ p. IsTidyPlace c.args.table.now p) c.in-Calls.is c.requires.tidy_place in
    let number = way-is numbers c.in-Calls.called (Some c.in-Some.lemma) (omega (arith, tidy.0, c.requires.known)) c.in-Some.is in
    let how : Predecessor = record { before = c.args.before; moved = Some (Over c.in-Some.lemma) } in
    let place = Calls c.in-Calls.called c.in-Calls.after in
    let by : (to : ℕ) (h : Predecessor) → (to ≡ c.in-Calls.after) × (h ≡ how) → ByStep c.args.table.now numbers c.args.range place c.args.before to h = λ to h e. (
      ap (λ (x : Predecessor). x.before) e.1,
      (c.in-Some.lemma, number, ap (λ (x : Predecessor). x.moved) e.1, e.0),
    ) in
    on-ok c.visit-in-Some.result (Tracks (λ to h. (to ≡ c.in-Calls.after) × (h ≡ how)) before after came later) (Tracks (λ to h. ByStep c.args.table.now numbers c.args.range c.args.place.now c.args.before to h) before after came later)
    (λ t. subst (λ p. Tracks (λ to h. ByStep c.args.table.now numbers c.args.range p c.args.before to h) before after came later) (sym c.in-Calls.is)
    (tracks-as (λ to h. (to ≡ c.in-Calls.after) × (h ≡ how)) (λ to h. ByStep c.args.table.now numbers c.args.range place c.args.before to h) by before after came later t))
    c.visit-in-Some.ensures.tracks

pub returns-in-None-clause-adds : goal.returns-in-None-clause-adds
returns-in-None-clause-adds c =
    let before = c.args.self.now.reach.places.items in
    let numbers = c.args.numbers.now in
    let tidy = subst (λ p. IsTidyPlace c.args.table.now p) c.in-Calls.is c.requires.tidy_place in
    let missing = way-is numbers c.in-Calls.called None (omega (arith, tidy.0, c.requires.known)) c.in-None.is in
    subst (λ p. AddsNext c.args.table.now (flags_of numbers) c.args.range p before before) (sym c.in-Calls.is)
    (none-next c.args.table.now (flags_of numbers) c.args.range (Calls c.in-Calls.called c.in-Calls.after) before (λ next s. flag-not numbers c.in-Calls.called missing s.0))

pub returns-in-None-clause-tracks : goal.returns-in-None-clause-tracks
returns-in-None-clause-tracks c =
    tracks-none (λ to how. ByStep c.args.table.now c.args.numbers.now c.args.range c.args.place.now c.args.before to how) c.args.self.now.reach.places.items c.args.self.now.came.items c.requires.size

pub returns-in-Stops-clause-tracks : goal.returns-in-Stops-clause-tracks
returns-in-Stops-clause-tracks c =
    tracks-none (λ to how. ByStep c.args.table.now c.args.numbers.now c.args.range c.args.place.now c.args.before to how) c.args.self.now.reach.places.items c.args.self.now.came.items c.requires.size

pub returns-in-Ends-clause-tracks : goal.returns-in-Ends-clause-tracks
returns-in-Ends-clause-tracks c =
    let before = c.args.self.now.reach.places.items in
    let after = c.visit_past.new.self.reach.places.items in
    let came = c.args.self.now.came.items in
    let later = c.visit_past.new.self.came.items in
    on-ok c.visit_past.result ((numbers : List (Option ℕ)) → Tracks (λ to how. ByStep c.args.table.now numbers c.args.range (Ends c.in-Ends.paragraph) c.args.before to how) before after came later) (Tracks (λ to how. ByStep c.args.table.now c.args.numbers.now c.args.range c.args.place.now c.args.before to how) before after came later)
    (λ h. subst (λ p. Tracks (λ to how. ByStep c.args.table.now c.args.numbers.now c.args.range p c.args.before to how) before after came later) (sym c.in-Ends.is) (h c.args.numbers.now))
    c.visit_past.ensures.tracks
