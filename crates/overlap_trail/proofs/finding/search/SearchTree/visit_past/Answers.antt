use Rattle.std.proofs.Common.{◌≡◌, ℕ, suc, Bool, List, Some, slice_get, ap, sym, ◌∙◌, add-one}
use Rattle.program_points.specs.declared.point_table.table.ProgramPoint.TheVariants.{Ends}
use Rattle.pending_returns.specs.levels.Reach.{Adds, AddsNext}
use Rattle.pending_returns.proofs.levels_lemmas.Marking.{on-ok, one-next}
use Rattle.overlap_trail.specs.finding.Search.{ByStep}
use Rattle.overlap_trail.proofs.finding_lemmas.Tracing.{tracks-none}
use Rattle.overlap_trail.proofs.finding.search.SearchTree.visit_past.Goals as goal

pub returns-in-Some-clause-adds : goal.returns-in-Some-clause-adds
returns-in-Some-clause-adds c =
    let before = c.args.self.now.reach.places.items in
    let after = c.visit.new.self.reach.places.items in
    let start : slice_get c.args.table.now.starts (suc c.args.paragraph) ≡ Some c.in-Some.start.now = ap (λ (n : ℕ). slice_get c.args.table.now.starts n) (sym (add-one c.args.paragraph)) ∙ sym c.in-Some.ensures in
    on-ok c.visit.result (Adds before after c.in-Some.start.now) ((returns : List Bool) → AddsNext c.args.table.now returns c.args.range (Ends c.args.paragraph) before after)
    (λ h. λ returns. one-next c.args.table.now returns c.args.range (Ends c.args.paragraph) before after c.in-Some.start.now h (sym c.if-ends_at.ensures, start)
    (λ next s. (let both : Some c.in-Some.start.now ≡ Some next = sym start ∙ s.1 in let k : c.in-Some.start.now ≡ next = cc in sym k)))
    c.visit.ensures.adds

pub returns-in-None-clause-tracks : goal.returns-in-None-clause-tracks
returns-in-None-clause-tracks c = λ numbers.
    tracks-none (λ to how. ByStep c.args.table.now numbers c.args.range (Ends c.args.paragraph) c.args.before to how) c.args.self.now.reach.places.items c.args.self.now.came.items c.requires.size
