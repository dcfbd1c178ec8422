use Rattle.std.proofs.Common.{◌≡◌, ◌≤◌, length, None, refl, sym, subst, arith}
use Rattle.overlap_trail.specs.declared.finding.search.Predecessor.{Predecessor}
use Rattle.overlap_trail.specs.finding.Search.{Tracks}
use Rattle.overlap_trail.specs.finding.Chain.{ByCall}
use Rattle.overlap_trail.proofs.finding_lemmas.Getting.{kept-length}
use Rattle.overlap_trail.proofs.finding_lemmas.Calling.{Told, told-none, told-all}
use Rattle.overlap_trail.proofs.finding.chain.come_by_calls.Goals as goal

pub loop-init : goal.loop-init
loop-init c =
    let how : Predecessor = record { before = c.args.before; moved = None } in
    let came = c.args.route.now.came.items in
    let before = c.args.route.now.reach.places.items in
    let after = c.visit_calls.new.reach.places.items in
    let up : length before ≤ length after = kept-length before after c.in_ok-visit_calls.ensures.adds.kept in
    let count : c.len-counter.result ≡ length came = omega (arith, c.len-counter.ensures) in
    record {
      reach = refl;
      told = subst (λ n. Told came came how n) (sym count) (told-none came how);
      within = omega (arith, up, c.len-counter.ensures, c.requires.size);
    }

pub returns-clause-tracks : goal.returns-clause-tracks
returns-clause-tracks c =
    let how : Predecessor = record { before = c.args.before; moved = None } in
    let came = c.args.route.now.came.items in
    let before = c.args.route.now.reach.places.items in
    let after = c.visit_calls.new.reach.places.items in
    let later = c.loop.route.came.items in
    let whole : length after ≡ c.loop.counter = omega (arith, c.loop-test.false, c.len-end.ensures, c.loop.invariant.within) in
    subst (λ r. Tracks (λ to h. ByCall c.args.calls.now c.args.before to h) before r.places.items came later) (sym c.loop.invariant.reach)
    (told-all c.args.calls.now before after c.visit_calls.new.reach.marks.items came later how c.loop.counter c.in_ok-visit_calls.ensures.adds c.in_ok-visit_calls.ensures.marked c.requires.size whole c.loop.invariant.told)
