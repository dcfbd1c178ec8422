use Rattle.std.proofs.Common.{◌≡◌, ◌<◌, ◌+◌, ℕ, length, Some, None, subst, sym, ap, ◌∙◌, refl, arith}
use Rattle.pending_returns.specs.levels.Reach.{IsMarked, AddsSome}
use Rattle.pending_returns.proofs.levels_lemmas.Marking.{below-at, way-is, some-none, some-skip, some-more, some-all}
use Rattle.overlap_trail.specs.declared.finding.search.Predecessor.{Predecessor}
use Rattle.overlap_trail.specs.finding.Search.{arm_of, Tracks, ByWay}
use Rattle.overlap_trail.proofs.finding_lemmas.Tracing.{tracks-none, tracks-as, tracks-through}
use Rattle.overlap_trail.proofs.finding.search.SearchTree.visit_all.Goals as goal
use Rattle.overlap_trail.proofs.finding.search.SearchTree.visit_all.Goals.{in-Some+in_ok-visit-in-Some, in-None}

pub visit-requires-clause-room : goal.visit-requires-clause-room
visit-requires-clause-room c =
    let lt : c.in-Some.to < length c.args.self.now.reach.marks.items = below-at (length c.args.self.now.reach.marks.items) c.args.ways.now c.loop-number.number c.in-Some.to c.requires.below (way-is c.args.ways.now c.loop-number.number (Some c.in-Some.to) c.loop-number-test.true c.in-Some.is) in
    omega (arith, lt, c.loop-number.invariant.marks)

pub visit-requires-clause-marked : goal.visit-requires-clause-marked
visit-requires-clause-marked c = c.loop-number.invariant.marked

pub visit-requires-clause-size : goal.visit-requires-clause-size
visit-requires-clause-size c = c.loop-number.invariant.tracks.size

pub returns-clause-adds : goal.returns-clause-adds
returns-clause-adds c = some-all c.args.ways.now c.loop-number.number c.args.self.now.reach.places.items c.loop-number.self.reach.places.items c.loop-number-test.false c.loop-number.invariant.some

pub returns-clause-tracks : goal.returns-clause-tracks
returns-clause-tracks c = c.loop-number.invariant.tracks

pub loop-number-init : goal.loop-number-init
loop-number-init c = record {
  marked = c.requires.marked;
  marks = refl;
  some = some-none c.args.ways.now c.args.self.now.reach.places.items;
  tracks = tracks-none (λ to how. ByWay c.args.ways.now c.args.before to how) c.args.self.now.reach.places.items c.args.self.now.came.items c.requires.size;
}

pub loop-number-preserved : goal.loop-number-preserved
loop-number-preserved c =
    let before = c.args.self.now.reach.places.items in
    let here = c.loop-number.self.reach.places.items in
    elim c.match-way.branch [
      | in-Some+in_ok-visit-in-Some w ↦
          let way = way-is c.args.ways.now c.loop-number.number (Some w.in-Some.to) c.loop-number-test.true w.in-Some.is in
          let how : Predecessor = record { before = c.args.before; moved = c.in_ok-moved.moved } in
          let by : (place : ℕ) (h : Predecessor) → (place ≡ w.in-Some.to) × (h ≡ how) → ByWay c.args.ways.now c.args.before place h = λ place h e. (
            ap (λ (x : Predecessor). x.before) e.1,
            (
              c.loop-number.number,
              way ∙ ap (λ (n : ℕ). Some (Some n)) (sym e.0),
              ap (λ (x : Predecessor). x.moved) e.1 ∙ c.in_ok-moved.ensures ∙ ap (λ b. arm_of b c.loop-number.number) c.is_alone-alone.ensures,
            ),
          ) in
          record {
            marked = subst (λ s. IsMarked s.reach.places.items s.reach.marks.items) (sym w.self-is) w.in_ok-visit-in-Some.ensures.marked;
            marks = ap (λ s. length s.reach.marks.items) w.self-is ∙ w.in_ok-visit-in-Some.ensures.marks ∙ c.loop-number.invariant.marks;
            some = subst (λ s. AddsSome c.args.ways.now (c.loop-number.number + 1) before s.reach.places.items) (sym w.self-is)
                (some-more c.args.ways.now c.loop-number.number w.in-Some.to before here w.visit.new.self.reach.places.items way c.loop-number.invariant.some w.in_ok-visit-in-Some.ensures.adds);
            tracks = subst (λ s. Tracks (λ to h. ByWay c.args.ways.now c.args.before to h) before s.reach.places.items c.args.self.now.came.items s.came.items) (sym w.self-is)
                (tracks-through (λ to h. ByWay c.args.ways.now c.args.before to h) before here w.visit.new.self.reach.places.items c.args.self.now.came.items c.loop-number.self.came.items w.visit.new.self.came.items c.loop-number.invariant.tracks
                (tracks-as (λ to h. (to ≡ w.in-Some.to) × (h ≡ how)) (λ to h. ByWay c.args.ways.now c.args.before to h) by here w.visit.new.self.reach.places.items c.loop-number.self.came.items w.visit.new.self.came.items w.in_ok-visit-in-Some.ensures.tracks)
                w.in_ok-visit-in-Some.ensures.adds.kept);
          }
      | in-None w ↦ record {
        marked = subst (λ s. IsMarked s.reach.places.items s.reach.marks.items) (sym w.self-is) c.loop-number.invariant.marked;
        marks = ap (λ s. length s.reach.marks.items) w.self-is ∙ c.loop-number.invariant.marks;
        some = subst (λ s. AddsSome c.args.ways.now (c.loop-number.number + 1) before s.reach.places.items) (sym w.self-is)
            (some-skip c.args.ways.now c.loop-number.number before here
            (way-is c.args.ways.now c.loop-number.number None c.loop-number-test.true w.in-None.is) c.loop-number.invariant.some);
        tracks = subst (λ s. Tracks (λ to h. ByWay c.args.ways.now c.args.before to h) before s.reach.places.items c.args.self.now.came.items s.came.items) (sym w.self-is) c.loop-number.invariant.tracks;
      }
    ]
