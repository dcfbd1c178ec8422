use Rattle.std.proofs.Common.{get_or, None, arith}
use Rattle.std.proofs.lemmas.Option.{slice_get-get_or}
use Rattle.cob_tree.specs.declared.program.Range.{Range}
use Rattle.program_points.proofs.table_building_lemmas.Tables.{bounds-none, bounds-more, bounds-all}
use Rattle.program_points.proofs.table_building.finish.bounds_entries.Goals as goal

pub loop-range-init : goal.loop-range-init
loop-range-init c = bounds-none c.args.count c.args.ranges.now

pub loop-range-preserved : goal.loop-range-preserved
loop-range-preserved c =
    let none : Range = record { entry = 0; exit = None } in
    let list = c.args.ranges.now in
    let i = c.loop-range.range-index in
    bounds-more c.args.count i list (get_or list i none) (slice_get-get_or list i none c.loop-range-test.true) (omega (arith, c.if-range-count.false)) c.loop-range.invariant

pub returns : goal.returns
returns c = λ h. bounds-all c.args.count c.loop-range.range-index c.args.ranges.now c.loop-range-test.false c.loop-range.invariant
