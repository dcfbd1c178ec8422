use Rattle.std.proofs.Common.{◌≡◌, ◌<◌, ℕ, List, length, Some, slice_get, subst, ap, arith}
use Rattle.pending_returns.proofs.faults_lemmas.Standing.{get-below}
use Rattle.overlap_trail.specs.declared.finding.search.Predecessor.{Predecessor}
use Rattle.overlap_trail.specs.finding.Chain.{CallsTo, Along, WentTo}
use Rattle.overlap_trail.proofs.finding_lemmas.Getting.{if-ok}
use Rattle.overlap_trail.proofs.finding_lemmas.Tracing.{traces-back}
use Rattle.overlap_trail.proofs.finding_lemmas.Chaining.{went-along}
use Rattle.overlap_trail.proofs.finding.chain.path_between.Goals as goal

pub way_to-requires-clause-back : goal.way_to-requires-clause-back
way_to-requires-clause-back c = λ at how lt e.
    let route = c.in_ok-route.route in
    traces-back (λ place. place ≡ c.args.from) (λ from moved to. CallsTo c.args.levels.now from to) route.reach.places.items route.came.items c.in_ok-route.ensures.traces at how lt
    (subst (λ (cs : List Predecessor). slice_get cs at ≡ Some how) c.as_slice.ensures.value e)

pub way_to-requires-clause-there : goal.way_to-requires-clause-there
way_to-requires-clause-there c =
    let lt : c.in-Some.at < length c.as_slice-places.result.now = get-below c.as_slice-places.result.now c.in-Some.at c.args.to c.in-Some.ensures in
    omega (arith, lt, ap (λ cs. length cs) c.as_slice.ensures.value, ap (λ ps. length ps) c.as_slice-places.ensures.value, c.in_ok-route.ensures.traces.size)

pub returns-in-Some : goal.returns-in-Some
returns-in-Some c =
    let route = c.in_ok-route.route in
    let places = route.reach.places.items in
    let came = route.came.items in
    let at = c.in-Some.at in
    if-ok c.way_to.result (λ path. WentTo c.as_slice.result.now c.as_slice-places.result.now at path.items) (λ path. Along c.args.levels.now c.args.from path.items c.args.to)
    (λ path h. went-along c.args.levels.now c.args.from places came c.in_ok-route.ensures.traces at path.items
    (subst (λ (cs : List Predecessor). WentTo cs places at path.items) c.as_slice.ensures.value (subst (λ (ps : List ℕ). WentTo c.as_slice.result.now ps at path.items) c.as_slice-places.ensures.value h)) c.args.to
    (subst (λ (ps : List ℕ). slice_get ps at ≡ Some c.args.to) c.as_slice-places.ensures.value c.in-Some.ensures))
    c.way_to.ensures
