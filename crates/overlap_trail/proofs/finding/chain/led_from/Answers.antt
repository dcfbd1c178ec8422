use Rattle.std.proofs.Common.{◌≡◌, ◌<◌, ◌≤◌, ℕ, List, get_or, length, None, true, refl, subst, ◌∙◌, arith}
use Rattle.std.proofs.lemmas.Option.{slice_get-get_or, slice_get_within, slice_get_read}
use Rattle.pending_returns.specs.levels.Reach.{Holds}
use Rattle.pending_returns.proofs.levels_lemmas.Searching.{few}
use Rattle.pending_returns.specs.Tabled.{AddsCalls}
use Rattle.pending_returns.proofs.faults_lemmas.Led.{kept-calls, led-begins, led-more, led-all}
use Rattle.overlap_trail.specs.finding.Chain.{ByCall, CallsTo}
use Rattle.overlap_trail.proofs.finding_lemmas.Tracing.{traces-first, traces-more}
use Rattle.overlap_trail.proofs.finding.chain.led_from.Goals as goal

pub loop-at-init : goal.loop-at-init
loop-at-init c =
    let made = c.in_ok-route.route in
    let ensured = c.in_ok-route.ensures in
    let first = c.visit.new.self in
    record {
      so_far = led-begins c.args.levels.now c.args.base made.reach.places.items first.reach.places.items first.reach.marks.items ensured.none c.in_ok-visit.ensures.adds c.in_ok-visit.ensures.marked (c.in_ok-visit.ensures.marks ∙ ensured.marks);
      traces = traces-first (λ place. place ≡ c.args.base) (λ from moved to. CallsTo c.args.levels.now from to) made.reach.places.items first.reach.places.items first.reach.marks.items made.came.items first.came.items c.args.base (record { before = 0; moved = None })
          refl ensured.none c.in_ok-visit.ensures.adds c.in_ok-visit.ensures.marked c.in_ok-visit.ensures.tracks;
    }

pub returns-then-at-len-clause-led : goal.returns-then-at-len-clause-led
returns-then-at-len-clause-led c = led-all c.args.levels.now c.args.base c.loop-at.route.reach.places.items c.loop-at.route.reach.marks.items c.loop-at.at (omega (arith, c.if-at-len.true)) c.loop-at.invariant.so_far

pub returns-clause-led : goal.returns-clause-led
returns-clause-led c =
    let up : length c.loop-at.route.reach.places.items ≤ length c.loop-at.route.reach.marks.items = few c.loop-at.route.reach.places.items c.loop-at.route.reach.marks.items c.loop-at.invariant.so_far.marked in
    led-all c.args.levels.now c.args.base c.loop-at.route.reach.places.items c.loop-at.route.reach.marks.items c.loop-at.at (omega (arith, up, c.loop-at.invariant.so_far.size, c.loop-at-test.false)) c.loop-at.invariant.so_far

pub bounds-levels-number : goal.bounds-levels-number
bounds-levels-number c =
    let places = c.loop-at.route.reach.places.items in
    let is = slice_get_read places (length places) c.loop-at.at c.index.result.now refl (omega (arith, c.if-at-len.false)) c.index.ensures in
    let lt : c.index.result.now < length c.loop-at.route.reach.marks.items = slice_get_within c.loop-at.route.reach.marks.items c.index.result.now true (c.loop-at.invariant.so_far.marked.marked c.index.result.now (c.loop-at.at, is)) in
    omega (arith, lt, c.loop-at.invariant.so_far.size)

pub come_by_calls-requires-clause-below : goal.come_by_calls-requires-clause-below
come_by_calls-requires-clause-below c =
    let levels = c.args.levels.now in
    let places = c.loop-at.route.reach.places.items in
    let here = c.index.result.now in
    let is = slice_get_read places (length places) c.loop-at.at here refl (omega (arith, c.if-at-len.false)) c.index.ensures in
    let lt : here < length c.loop-at.route.reach.marks.items = slice_get_within c.loop-at.route.reach.marks.items here true (c.loop-at.invariant.so_far.marked.marked here (c.loop-at.at, is)) in
    let inside : here < length levels = omega (arith, lt, c.loop-at.invariant.so_far.size) in
    let facts = get_or levels here c.index-levels-number.result in
    let below = kept-calls levels (length levels) here facts c.as_slice.result.now c.requires.known (slice_get-get_or levels here c.index-levels-number.result inside) c.as_slice.ensures in
    λ call has. (let less : call < length levels = below call has in omega (arith, less, c.loop-at.invariant.so_far.size))

pub loop-at-preserved : goal.loop-at-preserved
loop-at-preserved c =
    let levels = c.args.levels.now in
    let places = c.loop-at.route.reach.places.items in
    let here = c.index.result.now in
    let is = slice_get_read places (length places) c.loop-at.at here refl (omega (arith, c.if-at-len.false)) c.index.ensures in
    let lt : here < length c.loop-at.route.reach.marks.items = slice_get_within c.loop-at.route.reach.marks.items here true (c.loop-at.invariant.so_far.marked.marked here (c.loop-at.at, is)) in
    let inside : here < length levels = omega (arith, lt, c.loop-at.invariant.so_far.size) in
    let facts = get_or levels here c.index-levels-number.result in
    let there = slice_get-get_or levels here c.index-levels-number.result inside in
    let later = c.come_by_calls.new.route in
    let ensured = c.in_ok-come_by_calls.ensures in
    record {
      so_far = led-more levels c.args.base places later.reach.places.items c.loop-at.route.reach.marks.items later.reach.marks.items c.loop-at.at here facts is there
          (subst (λ (cs : List ℕ). AddsCalls cs places later.reach.places.items) c.as_slice.ensures ensured.adds) ensured.marked ensured.marks c.loop-at.invariant.so_far;
      traces = traces-more (λ place. place ≡ c.args.base) (λ from moved to. CallsTo levels from to) (λ to how. ByCall c.as_slice.result.now c.in_ok-before.before to how) places later.reach.places.items c.loop-at.route.came.items later.came.items c.loop-at.at here
          c.loop-at.invariant.traces is (λ to how by. (by.0 ∙ c.in_ok-before.ensures, (facts, there, subst (λ (cs : List ℕ). Holds cs to) c.as_slice.ensures by.1))) ensured.adds.kept ensured.tracks;
    }
