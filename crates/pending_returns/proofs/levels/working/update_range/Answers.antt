use Rattle.std.proofs.Common.{◌≡◌, ◌<◌, length, get_or, Some, None, List, ℕ, Bool, subst, arith, slice_get}
use Rattle.cob_tree.specs.declared.program.Range.{Range}
use Rattle.program_points.specs.point_table.Table.{ComesIn, ReturnsHere}
use Rattle.pending_returns.specs.levels.Reach.{Holds}
use Rattle.pending_returns.proofs.levels_lemmas.Searching.{comes-below, sound-more, range-at}
use Rattle.pending_returns.proofs.levels.working.update_range.Goals as goal

pub has_end-requires : goal.has_end-requires
has_end-requires c = λ place h.
    let none : Range = record { entry = 0; exit = None } in
    comes-below c.args.table.now c.as_slice-2.result.now (get_or c.as_slice.result.now c.args.number none) c.requires.tidy place
    (c.in_ok-reached.ensures.reach.0 place (subst (λ ps. Holds ps place) c.as_slice-3.ensures.value h))

pub returns-then-has_end-clause-sound : goal.returns-then-has_end-clause-sound
returns-then-has_end-clause-sound c = λ never_first program points is sound.
    let table = c.args.table.now in
    let k = c.args.number in
    let flags = c.args.returns.now.items in
    let none : Range = record { entry = 0; exit = None } in
    let range = get_or c.as_slice.result.now k none in
    let lt : k < length table.ranges = omega (arith, c.if-number-len.false, c.len.ensures, c.requires.size) in
    let at : slice_get table.ranges k ≡ Some range = range-at c.as_slice.result.now table.ranges k none c.as_slice.ensures lt in
    let h = c.has_end.ensures.0 c.if-has_end.true in
    let comes : ComesIn table flags range h.0 = subst (λ (fs : List Bool). ComesIn table fs range h.0) c.as_slice-2.ensures.value (c.in_ok-reached.ensures.reach.0 h.0 (subst (λ (ps : List ℕ). Holds ps h.0) c.as_slice-3.ensures.value h.2)) in
    let back : ReturnsHere table flags range = (h.0, h.1, comes, h.3, h.4) in
    sound-more never_first program table points flags k range is sound at back
