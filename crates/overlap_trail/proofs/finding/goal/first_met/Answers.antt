use Rattle.std.proofs.Common.{◌≡◌, ◌<◌, length, get_or, true, false, refl, ap, arith}
use Rattle.std.proofs.lemmas.Option.{slice_get-get_or}
use Rattle.pending_returns.proofs.levels_lemmas.Searching.{at-place}
use Rattle.overlap_trail.proofs.finding_lemmas.Aiming.{none-met-more, none-met-all}
use Rattle.overlap_trail.proofs.finding.goal.first_met.Goals as goal

pub bounds-as_slice-number : goal.bounds-as_slice-number
bounds-as_slice-number c =
    let places = c.args.places.now in
    let number = get_or places c.loop-at.at 0 in
    let is = slice_get-get_or places c.loop-at.at 0 (omega (arith, c.loop-at-test.true)) in
    let lt : number < length c.args.table.now.places = c.requires number (c.loop-at.at, is) in
    omega (arith, lt, ap (λ xs. length xs) c.as_slice.ensures)

pub returns-then-is_met : goal.returns-then-is_met
returns-then-is_met c =
    let places = c.args.places.now in
    let number = get_or places c.loop-at.at 0 in
    let here = c.index-as_slice-number.result in
    let is = slice_get-get_or places c.loop-at.at 0 (omega (arith, c.loop-at-test.true)) in
    let lt : number < length c.args.table.now.places = c.requires number (c.loop-at.at, is) in
    let there = at-place c.as_slice.result.now c.args.table.now.places number here c.as_slice.ensures (omega (arith, lt, ap (λ xs. length xs) c.as_slice.ensures)) c.index-as_slice-number.is in
    (number, here, is, there, c.if-is_met.ensures.0 refl)

pub loop-at-preserved : goal.loop-at-preserved
loop-at-preserved c =
    let places = c.args.places.now in
    let number = get_or places c.loop-at.at 0 in
    let here = c.index-as_slice-number.result in
    let is = slice_get-get_or places c.loop-at.at 0 (omega (arith, c.loop-at-test.true)) in
    let lt : number < length c.args.table.now.places = c.requires number (c.loop-at.at, is) in
    let there = at-place c.as_slice.result.now c.args.table.now.places number here c.as_slice.ensures (omega (arith, lt, ap (λ xs. length xs) c.as_slice.ensures)) c.index-as_slice-number.is in
    none-met-more c.args.table.now c.args.aim places c.loop-at.at number here is there
    (λ met. (let wrong : false ≡ true = c.if-is_met.ensures.1 met in let k : ⊥ = cc in k)) c.loop-at.invariant

pub returns : goal.returns
returns c =
    none-met-all c.args.table.now c.args.aim c.args.places.now c.loop-at.at (omega (arith, c.loop-at-test.false)) c.loop-at.invariant
