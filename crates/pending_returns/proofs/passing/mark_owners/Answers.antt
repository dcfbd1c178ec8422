use Rattle.std.proofs.Common.{get_or, true, ◌∙◌, arith}
use Rattle.std.proofs.lemmas.Option.{slice_get-get_or}
use Rattle.std.proofs.Math.ListN.{length-set}
use Rattle.pending_returns.proofs.Passed.{marks-more, marks-all}
use Rattle.pending_returns.proofs.passing.mark_owners.Goals as goal

pub loop-place-preserved : goal.loop-place-preserved
loop-place-preserved c =
    let owners = c.args.owners.now in
    let places = c.args.places.now in
    let i = c.loop-place.place-index in
    let place = get_or places i 0 in
    let here = slice_get-get_or places i 0 c.loop-place-test.true in
    let owner = get_or owners place 0 in
    let owns = slice_get-get_or owners place 0 (c.requires.places place (i, here)) in
    record {
      marks = marks-more owners places i place owner c.args.flags.now.items c.loop-place.flags.items here owns (omega (arith, c.requires.owners place owner owns, c.loop-place.invariant.size)) c.loop-place.invariant.marks;
      size = length-set c.loop-place.flags.items owner true ∙ c.loop-place.invariant.size;
    }

pub returns-clause-marks : goal.returns-clause-marks
returns-clause-marks c = marks-all c.args.owners.now c.args.places.now c.loop-place.place-index c.args.flags.now.items c.loop-place.flags.items c.loop-place-test.false c.loop-place.invariant.marks

pub bounds-owners-place : goal.bounds-owners-place
bounds-owners-place c =
    let places = c.args.places.now in
    let i = c.loop-place.place-index in
    c.requires.places (get_or places i 0) (i, slice_get-get_or places i 0 c.loop-place-test.true)

pub index_mut-requires : goal.index_mut-requires
index_mut-requires c =
    let owners = c.args.owners.now in
    let places = c.args.places.now in
    let i = c.loop-place.place-index in
    let place = get_or places i 0 in
    let owns = slice_get-get_or owners place 0 (c.requires.places place (i, slice_get-get_or places i 0 c.loop-place-test.true)) in
    omega (arith, c.requires.owners place (get_or owners place 0) owns, c.loop-place.invariant.size)
