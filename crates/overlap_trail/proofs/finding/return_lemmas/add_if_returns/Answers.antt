use Rattle.std.proofs.Common.{◌≡◌, ◌<◌, ℕ, List, length, get_or, Option, Some, None, refl, subst, sym, ◌∙◌, arith}
use Rattle.cob_tree.specs.declared.program.Range.{Range}
use Rattle.pending_returns.proofs.levels_lemmas.Searching.{range-at}
use Rattle.pending_returns.proofs.faults_lemmas.Standing.{get-below}
use Rattle.overlap_trail.specs.declared.finding.goal.SearchGoal.TheVariants.{End}
use Rattle.overlap_trail.specs.declared.finding.goal.SearchOutcome.{SearchOutcome}
use Rattle.overlap_trail.specs.declared.finding.goal.SearchOutcome.TheVariants.{Moves, Nowhere}
use Rattle.program_points.specs.point_table.Table.{ReturnsHere}
use Rattle.overlap_trail.specs.finding.Search.{flags_of}
use Rattle.overlap_trail.specs.finding.Goal.{IsRoute}
use Rattle.overlap_trail.proofs.finding_lemmas.Knowing.{knows-more, more-flags, met-never}
use Rattle.overlap_trail.proofs.finding.return_lemmas.add_if_returns.Goals as goal

pub returns-in_ok-add-in-Moves-clause-knows : goal.returns-in_ok-add-in-Moves-clause-knows
returns-in_ok-add-in-Moves-clause-knows c =
    let none : Range = record { entry = 0; exit = None } in
    let table = c.args.table.now in
    let numbers = c.args.known.now.numbers.items in
    let lemmas = c.args.known.now.lemmas in
    let number = c.args.number in
    let known : number < length numbers = get-below numbers number None c.requires.new in
    let range = get_or c.as_slice.result.now number none in
    let there = range-at c.as_slice.result.now table.ranges number none c.as_slice.ensures (omega (arith, known, c.requires.knows.size)) in
    let route = subst (λ (f : SearchOutcome). IsRoute table c.as_slice-2.result.now range (End c.in-Some.end) f) c.in-Moves.is c.in_ok-moves.ensures in
    let met = subst (λ (ns : List (Option ℕ)). IsRoute table ns range (End c.in-Some.end) (Moves c.in-Moves.moves)) c.as_slice-2.ensures.value route in
    knows-more table lemmas numbers number c.in-Some.end range c.in-Moves.moves c.requires.knows there c.in-Some.is met c.requires.once c.requires.new
    c.add.new.self.lemmas c.add.new.self.numbers.items c.in_ok-add-in-Moves.ensures.lemmas c.in_ok-add-in-Moves.ensures.numbers

pub returns-in_ok-add-in-Moves-clause-more : goal.returns-in_ok-add-in-Moves-clause-more
returns-in_ok-add-in-Moves-clause-more c =
    more-flags c.args.known.now.numbers.items c.add.new.self.numbers.items c.args.number (length c.args.known.now.lemmas) c.requires.new c.in_ok-add-in-Moves.ensures.numbers

pub returns-in-Nowhere-clause-more : goal.returns-in-Nowhere-clause-more
returns-in-Nowhere-clause-more c =
    let none : Range = record { entry = 0; exit = None } in
    let table = c.args.table.now in
    let numbers = c.args.known.now.numbers.items in
    let number = c.args.number in
    let known : number < length numbers = get-below numbers number None c.requires.new in
    let range = get_or c.as_slice.result.now number none in
    let there = range-at c.as_slice.result.now table.ranges number none c.as_slice.ensures (omega (arith, known, c.requires.knows.size)) in
    let route = subst (λ (f : SearchOutcome). IsRoute table c.as_slice-2.result.now range (End c.in-Some.end) f) c.in-Nowhere.is c.in_ok-moves.ensures in
    let nowhere = subst (λ (ns : List (Option ℕ)). IsRoute table ns range (End c.in-Some.end) (Nowhere c.in-Nowhere.places)) c.as_slice-2.ensures.value route in (
      refl,
      λ other e here.
          let both : Some range ≡ Some other = sym there ∙ e in
          let same : range ≡ other = cc in
          met-never table (flags_of numbers) range c.in-Some.end c.in-Some.is nowhere (subst (λ (r : Range). ReturnsHere table (flags_of numbers) r) (sym same) here),
    )
