use Rattle.std.proofs.Common.{◌≡◌, ◌<◌, ℕ, List, length, Some, slice_get, subst, ap, arith}
use Rattle.pending_returns.specs.levels.Reach.{Holds}
use Rattle.pending_returns.proofs.faults_lemmas.Standing.{get-below}
use Rattle.overlap_trail.specs.declared.finding.search.Predecessor.{Predecessor}
use Rattle.overlap_trail.specs.finding.Search.{TakenTo}
use Rattle.overlap_trail.specs.finding.Goal.{MeetsAt}
use Rattle.overlap_trail.proofs.finding_lemmas.Aiming.{reach-below, level-back, met-by}
use Rattle.overlap_trail.proofs.finding.goal.route_to.Goals as goal

pub first_met-requires : goal.first_met-requires
first_met-requires c = λ place h.
    reach-below c.args.table.now c.args.numbers.now c.args.range c.args.aim c.in_ok-route.route.reach.places.items c.requires.tidy c.in_ok-route.ensures.reach
    place (subst (λ (ps : List ℕ). Holds ps place) c.as_slice.ensures.value h)

pub moves_to-requires-clause-back : goal.moves_to-requires-clause-back
moves_to-requires-clause-back c = λ at how lt e.
    let route = c.in_ok-route.route in
    level-back c.args.table.now c.args.numbers.now c.args.range c.args.aim route.reach.places.items route.came.items c.in_ok-route.ensures.traces at how lt
    (subst (λ (cs : List Predecessor). slice_get cs at ≡ Some how) c.as_slice-in-Some.ensures.value e)

pub moves_to-requires-clause-there : goal.moves_to-requires-clause-there
moves_to-requires-clause-there c =
    let lt : c.in-Some.at < length c.as_slice.result.now = get-below c.as_slice.result.now c.in-Some.at c.in-Some.ensures.0 c.in-Some.ensures.2 in
    omega (arith, lt, ap (λ ps. length ps) c.as_slice.ensures.value, ap (λ cs. length cs) c.as_slice-in-Some.ensures.value, c.in_ok-route.ensures.traces.size)

pub returns-in_ok-moves-in-Some : goal.returns-in_ok-moves-in-Some
returns-in_ok-moves-in-Some c =
    let route = c.in_ok-route.route in
    met-by c.args.table.now c.args.numbers.now c.args.range c.args.aim route.reach.places.items route.came.items c.in-Some.at c.in_ok-moves-in-Some.moves c.in_ok-route.ensures.traces
    (subst (λ (ps : List ℕ). MeetsAt c.args.table.now c.args.aim ps c.in-Some.at) c.as_slice.ensures.value c.in-Some.ensures)
    (subst (λ (cs : List Predecessor). TakenTo cs c.in-Some.at c.in_ok-moves-in-Some.moves) c.as_slice-in-Some.ensures.value c.in_ok-moves-in-Some.ensures)
