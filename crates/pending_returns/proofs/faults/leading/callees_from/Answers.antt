use Rattle.std.proofs.Common.{◌<◌, ◌≤◌, ℕ, List, get_or, length, true, refl, subst, ◌∙◌, arith}
use Rattle.std.proofs.lemmas.Option.{slice_get-get_or, slice_get_within, slice_get_read}
use Rattle.pending_returns.proofs.levels_lemmas.Searching.{few}
use Rattle.pending_returns.specs.Tabled.{AddsCalls}
use Rattle.pending_returns.proofs.faults_lemmas.Led.{kept-calls}
use Rattle.pending_returns.proofs.faults_lemmas.Led.{led-begins, led-more, led-all}
use Rattle.pending_returns.proofs.faults.leading.callees_from.Goals as goal

pub loop-at-init : goal.loop-at-init
loop-at-init c = led-begins c.args.levels.now c.args.base c.clear.new.self.places.items c.visit.new.self.places.items c.visit.new.self.marks.items c.clear.ensures.none c.in_ok-visit.ensures.adds c.in_ok-visit.ensures.marked
    (c.in_ok-visit.ensures.size ∙ c.clear.ensures.size ∙ c.requires.size)

pub returns-then-at-len : goal.returns-then-at-len
returns-then-at-len c = record {
  led = led-all c.args.levels.now c.args.base c.loop-at.reach.places.items c.loop-at.reach.marks.items c.loop-at.at (omega (arith, c.if-at-len.true)) c.loop-at.invariant;
  marked = c.loop-at.invariant.marked;
  size = c.loop-at.invariant.size;
}

pub returns : goal.returns
returns c =
    let up : length c.loop-at.reach.places.items ≤ length c.loop-at.reach.marks.items = few c.loop-at.reach.places.items c.loop-at.reach.marks.items c.loop-at.invariant.marked in
    record {
      led = led-all c.args.levels.now c.args.base c.loop-at.reach.places.items c.loop-at.reach.marks.items c.loop-at.at (omega (arith, up, c.loop-at.invariant.size, c.loop-at-test.false)) c.loop-at.invariant;
      marked = c.loop-at.invariant.marked;
      size = c.loop-at.invariant.size;
    }

pub bounds-levels-number : goal.bounds-levels-number
bounds-levels-number c =
    let places = c.loop-at.reach.places.items in
    let is = slice_get_read places (length places) c.loop-at.at c.index.result.now refl (omega (arith, c.if-at-len.false)) c.index.ensures in
    let lt : c.index.result.now < length c.loop-at.reach.marks.items = slice_get_within c.loop-at.reach.marks.items c.index.result.now true (c.loop-at.invariant.marked.marked c.index.result.now (c.loop-at.at, is)) in
    omega (arith, lt, c.loop-at.invariant.size)

pub visit_calls-requires-clause-below : goal.visit_calls-requires-clause-below
visit_calls-requires-clause-below c =
    let levels = c.args.levels.now in
    let places = c.loop-at.reach.places.items in
    let here = c.index.result.now in
    let is = slice_get_read places (length places) c.loop-at.at here refl (omega (arith, c.if-at-len.false)) c.index.ensures in
    let lt : here < length c.loop-at.reach.marks.items = slice_get_within c.loop-at.reach.marks.items here true (c.loop-at.invariant.marked.marked here (c.loop-at.at, is)) in
    let inside : here < length levels = omega (arith, lt, c.loop-at.invariant.size) in
    let facts = get_or levels here c.index-levels-number.result in
    let below = kept-calls levels (length levels) here facts c.as_slice.result.now c.requires.known (slice_get-get_or levels here c.index-levels-number.result inside) c.as_slice.ensures in
    λ call has. (let less : call < length levels = below call has in omega (arith, less, c.loop-at.invariant.size))

pub loop-at-preserved : goal.loop-at-preserved
loop-at-preserved c =
    let levels = c.args.levels.now in
    let places = c.loop-at.reach.places.items in
    let here = c.index.result.now in
    let is = slice_get_read places (length places) c.loop-at.at here refl (omega (arith, c.if-at-len.false)) c.index.ensures in
    let lt : here < length c.loop-at.reach.marks.items = slice_get_within c.loop-at.reach.marks.items here true (c.loop-at.invariant.marked.marked here (c.loop-at.at, is)) in
    let inside : here < length levels = omega (arith, lt, c.loop-at.invariant.size) in
    let facts = get_or levels here c.index-levels-number.result in
    let later = c.visit_calls.new.reach in
    led-more levels c.args.base places later.places.items c.loop-at.reach.marks.items later.marks.items c.loop-at.at here facts is (slice_get-get_or levels here c.index-levels-number.result inside)
    (subst (λ (cs : List ℕ). AddsCalls cs places later.places.items) c.as_slice.ensures c.in_ok-visit_calls.ensures.adds) c.in_ok-visit_calls.ensures.marked c.in_ok-visit_calls.ensures.size c.loop-at.invariant
