use Rattle.std.proofs.Common.{◌<◌, ◌≤◌, length, None, true, refl, subst, sym, ap, ◌∙◌, arith}
use Rattle.std.proofs.lemmas.Option.{slice_get_within, slice_get_read}
use Rattle.pending_returns.proofs.levels_lemmas.Searching.{begin-none, begin-some, go-on, all-reached, few, at-place}
use Rattle.pending_returns.specs.levels.Reach.{IsSoFar}
use Rattle.overlap_trail.specs.finding.Search.{flags_of, BeginsLevel, StepsLevel, ByStep, TracesLevel}
use Rattle.overlap_trail.proofs.finding_lemmas.Tracing.{traces-none, traces-first, traces-more}
use Rattle.overlap_trail.proofs.finding.search.followed.Goals as goal
use Rattle.overlap_trail.proofs.finding.search.followed.Goals.{in-Some+in_ok-visit-in-Some, in-None}

pub loop-at-init : goal.loop-at-init
loop-at-init c =
    let table = c.args.table.now in
    let numbers = c.args.numbers.now in
    let range = c.args.range in
    let made = c.in_ok-route.route in
    let ensured = c.in_ok-route.ensures in
    elim c.match-get.branch [
      | in-Some+in_ok-visit-in-Some w ↦ record {
        so_far = subst (λ r. IsSoFar table (flags_of numbers) range r.reach.places.items r.reach.marks.items 0) (sym w.route-is)
            (begin-some table (flags_of numbers) range made.reach.places.items w.visit.new.self.reach.places.items w.visit.new.self.reach.marks.items w.in-Some.start.now
            ensured.none w.in_ok-visit-in-Some.ensures.marked (w.in_ok-visit-in-Some.ensures.marks ∙ ensured.marks ∙ c.len.ensures) (sym w.in-Some.ensures) w.in_ok-visit-in-Some.ensures.adds);
        traces = subst (λ r. TracesLevel table numbers range r.reach.places.items r.came.items) (sym w.route-is)
            (traces-first (λ place. BeginsLevel table range place) (λ from moved to. StepsLevel table numbers range from moved to) made.reach.places.items w.visit.new.self.reach.places.items w.visit.new.self.reach.marks.items made.came.items w.visit.new.self.came.items w.in-Some.start.now (record { before = 0; moved = None })
            (sym w.in-Some.ensures) ensured.none w.in_ok-visit-in-Some.ensures.adds w.in_ok-visit-in-Some.ensures.marked w.in_ok-visit-in-Some.ensures.tracks);
      }
      | in-None w ↦ record {
        so_far = subst (λ r. IsSoFar table (flags_of numbers) range r.reach.places.items r.reach.marks.items 0) (sym w.route-is)
            (begin-none table (flags_of numbers) range made.reach.places.items made.reach.marks.items
            ensured.none ensured.marked (ensured.marks ∙ c.len.ensures) (sym w.in-None.ensures));
        traces = subst (λ r. TracesLevel table numbers range r.reach.places.items r.came.items) (sym w.route-is)
            (traces-none (λ place. BeginsLevel table range place) (λ from moved to. StepsLevel table numbers range from moved to) made.reach.places.items made.came.items ensured.none ensured.came);
      }
    ]

pub returns-then-at-len : goal.returns-then-at-len
returns-then-at-len c = record {
  reach = all-reached c.args.table.now (flags_of c.args.numbers.now) c.args.range c.loop-at.route.reach.places.items c.loop-at.route.reach.marks.items c.loop-at.at c.loop-at.invariant.so_far (omega (arith, c.if-at-len.true));
  traces = c.loop-at.invariant.traces;
}

pub returns : goal.returns
returns c =
    let up : length c.loop-at.route.reach.places.items ≤ length c.loop-at.route.reach.marks.items = few c.loop-at.route.reach.places.items c.loop-at.route.reach.marks.items c.loop-at.invariant.so_far.marked in
    record {
      reach = all-reached c.args.table.now (flags_of c.args.numbers.now) c.args.range c.loop-at.route.reach.places.items c.loop-at.route.reach.marks.items c.loop-at.at c.loop-at.invariant.so_far (omega (arith, up, c.loop-at.invariant.so_far.size, c.len-at-end.ensures, c.loop-at-test.false));
      traces = c.loop-at.invariant.traces;
    }

pub bounds-as_slice-number : goal.bounds-as_slice-number
bounds-as_slice-number c =
    let is = slice_get_read c.loop-at.route.reach.places.items (length c.loop-at.route.reach.places.items) c.loop-at.at c.index.result.now refl (omega (arith, c.if-at-len.false)) c.index.ensures in
    let lt : c.index.result.now < length c.loop-at.route.reach.marks.items = slice_get_within c.loop-at.route.reach.marks.items c.index.result.now true (c.loop-at.invariant.so_far.marked.marked c.index.result.now (c.loop-at.at, is)) in
    omega (arith, lt, c.loop-at.invariant.so_far.size, ap (λ xs. length xs) c.as_slice.ensures)

pub visit_next-requires-clause-marked : goal.visit_next-requires-clause-marked
visit_next-requires-clause-marked c = c.loop-at.invariant.so_far.marked

pub visit_next-requires-clause-marks : goal.visit_next-requires-clause-marks
visit_next-requires-clause-marks c = c.loop-at.invariant.so_far.size

pub visit_next-requires-clause-size : goal.visit_next-requires-clause-size
visit_next-requires-clause-size c = c.loop-at.invariant.traces.size

pub visit_next-requires-clause-tidy_place : goal.visit_next-requires-clause-tidy_place
visit_next-requires-clause-tidy_place c =
    let is = slice_get_read c.loop-at.route.reach.places.items (length c.loop-at.route.reach.places.items) c.loop-at.at c.index.result.now refl (omega (arith, c.if-at-len.false)) c.index.ensures in
    let lt : c.index.result.now < length c.loop-at.route.reach.marks.items = slice_get_within c.loop-at.route.reach.marks.items c.index.result.now true (c.loop-at.invariant.so_far.marked.marked c.index.result.now (c.loop-at.at, is)) in
    c.requires.tidy.places c.index.result.now c.index-as_slice-number.result
    (at-place c.as_slice.result.now c.args.table.now.places c.index.result.now c.index-as_slice-number.result c.as_slice.ensures (omega (arith, lt, c.loop-at.invariant.so_far.size, ap (λ xs. length xs) c.as_slice.ensures)) c.index-as_slice-number.is)

pub loop-at-preserved : goal.loop-at-preserved
loop-at-preserved c =
    let table = c.args.table.now in
    let numbers = c.args.numbers.now in
    let range = c.args.range in
    let places = c.loop-at.route.reach.places.items in
    let later = c.visit_next.new.self.reach.places.items in
    let here = c.index-as_slice-number.result in
    let is = slice_get_read places (length places) c.loop-at.at c.index.result.now refl (omega (arith, c.if-at-len.false)) c.index.ensures in
    let lt : c.index.result.now < length c.loop-at.route.reach.marks.items = slice_get_within c.loop-at.route.reach.marks.items c.index.result.now true (c.loop-at.invariant.so_far.marked.marked c.index.result.now (c.loop-at.at, is)) in
    let there = at-place c.as_slice.result.now table.places c.index.result.now here c.as_slice.ensures (omega (arith, lt, c.loop-at.invariant.so_far.size, ap (λ xs. length xs) c.as_slice.ensures)) c.index-as_slice-number.is in
    let ensured = c.in_ok-visit_next.ensures in
    record {
      so_far = go-on table (flags_of numbers) range places later c.loop-at.route.reach.marks.items c.visit_next.new.self.reach.marks.items c.loop-at.at c.index.result.now here
          c.loop-at.invariant.so_far (omega (arith, c.if-at-len.false)) is there ensured.adds ensured.marked ensured.marks;
      traces = traces-more (λ place. BeginsLevel table range place) (λ from moved to. StepsLevel table numbers range from moved to) (λ to how. ByStep table numbers range here c.in_ok-before.before to how) places later c.loop-at.route.came.items c.visit_next.new.self.came.items c.loop-at.at c.index.result.now
          c.loop-at.invariant.traces is (λ to how by. (by.0 ∙ c.in_ok-before.ensures, (here, there, by.1))) ensured.adds.kept ensured.tracks;
    }
