use Rattle.std.proofs.Common.{◌∙◌, length, get_or, None, List, ap, arith}
use Rattle.std.proofs.lemmas.Option.{slice_get-get_or}
use Rattle.cob_tree.specs.declared.program.Range.{Range}
use Rattle.pending_returns.proofs.Getting.{get-read}
use Rattle.pending_returns.proofs.Passed.{marks-through, levels-more, levels-all, places-owned, owners-below}
use Rattle.pending_returns.proofs.passing.marked_owners.Goals as goal

pub loop-at-preserved : goal.loop-at-preserved
loop-at-preserved c =
    let table = c.args.table.now in
    let kept = c.args.kept.now in
    let at = c.loop-at.at in
    let none : Range = record { entry = 0; exit = None } in
    let here = slice_get-get_or kept at 0 c.loop-at-test.true in
    let number = get_or kept at 0 in
    let range = get_or c.as_slice.result.now number none in
    let is_range = get-read c.as_slice.result.now table.ranges number none c.as_slice.ensures (c.requires.below number (at, here)) in
    record {
      marks = levels-more table c.args.returns.now kept at number range c.reached.new.reach.places.items c.loop-at.flags.items c.mark_owners.new.flags.items here is_range c.in_ok-reached.ensures.reach
          (marks-through table.owners c.as_slice-in-loop-at.result.now c.reached.new.reach.places.items c.as_slice-in-loop-at-2.result.now c.loop-at.flags.items c.mark_owners.new.flags.items c.as_slice-in-loop-at.ensures c.as_slice-in-loop-at-2.ensures.value c.mark_owners.ensures.marks) c.loop-at.invariant.marks;
      marked = c.in_ok-reached.ensures.marked;
      places = c.in_ok-reached.ensures.size;
      size = c.mark_owners.ensures.size ∙ c.loop-at.invariant.size;
    }

pub returns-clause-marks : goal.returns-clause-marks
returns-clause-marks c = levels-all c.args.table.now c.args.returns.now c.args.kept.now c.loop-at.at c.loop-at.flags.items (omega (arith, c.loop-at-test.false)) c.loop-at.invariant.marks

pub bounds-as_slice-kept : goal.bounds-as_slice-kept
bounds-as_slice-kept c =
    let kept = c.args.kept.now in
    let at = c.loop-at.at in
    let less = c.requires.below (get_or kept at 0) (at, slice_get-get_or kept at 0 c.loop-at-test.true) in
    omega (arith, less, ap (λ (rs : List Range). length rs) c.as_slice.ensures)

pub mark_owners-requires-clause-places : goal.mark_owners-requires-clause-places
mark_owners-requires-clause-places c =
    let range = get_or c.as_slice.result.now (get_or c.args.kept.now c.loop-at.at 0) (let none : Range = record { entry = 0; exit = None } in none) in
    places-owned c.args.table.now c.args.returns.now range c.reached.new.reach.places.items c.as_slice-in-loop-at-2.result.now c.as_slice-in-loop-at.result.now c.requires.tidy c.in_ok-reached.ensures.reach c.as_slice-in-loop-at-2.ensures.value c.as_slice-in-loop-at.ensures

pub mark_owners-requires-clause-owners : goal.mark_owners-requires-clause-owners
mark_owners-requires-clause-owners c = owners-below c.args.table.now c.as_slice-in-loop-at.result.now (length c.loop-at.flags.items) c.requires.tidy c.as_slice-in-loop-at.ensures c.loop-at.invariant.size
