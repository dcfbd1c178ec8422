use Rattle.std.proofs.Common.{◌<◌, ◌+◌, length, Some, None, subst, sym, ap, ◌∙◌, arith}
use Rattle.pending_returns.specs.levels.Reach.{IsMarked, AddsSome}
use Rattle.pending_returns.proofs.levels_lemmas.Marking.{below-at, way-is, some-skip, some-more, some-all}
use Rattle.pending_returns.proofs.levels.reach.Reach.visit_all.Goals as goal
use Rattle.pending_returns.proofs.levels.reach.Reach.visit_all.Goals.{in-Some+in_ok-visit-in-Some, in-None}

pub visit-requires-clause-room : goal.visit-requires-clause-room
visit-requires-clause-room c =
    let lt : c.in-Some.to < length c.args.self.now.marks.items = below-at (length c.args.self.now.marks.items) c.args.ways.now c.loop-way.way-index c.in-Some.to c.requires.below (way-is c.args.ways.now c.loop-way.way-index (Some c.in-Some.to) c.loop-way-test.true c.in-Some.is) in
    omega (arith, lt, c.loop-way.invariant.size)

pub loop-way-preserved : goal.loop-way-preserved
loop-way-preserved c =
    elim c.match-way.branch [
      | in-Some+in_ok-visit-in-Some w ↦ record {
        marked = subst (λ s. IsMarked s.places.items s.marks.items) (sym w.self-is) w.in_ok-visit-in-Some.ensures.marked;
        size = ap (λ s. length s.marks.items) w.self-is ∙ w.in_ok-visit-in-Some.ensures.size ∙ c.loop-way.invariant.size;
        some = subst (λ s. AddsSome c.args.ways.now (c.loop-way.way-index + 1) c.args.self.now.places.items s.places.items) (sym w.self-is)
            (some-more c.args.ways.now c.loop-way.way-index w.in-Some.to c.args.self.now.places.items c.loop-way.self.places.items w.visit.new.self.places.items
            (way-is c.args.ways.now c.loop-way.way-index (Some w.in-Some.to) c.loop-way-test.true w.in-Some.is) c.loop-way.invariant.some w.in_ok-visit-in-Some.ensures.adds);
      }
      | in-None w ↦ record {
        marked = subst (λ s. IsMarked s.places.items s.marks.items) (sym w.self-is) c.loop-way.invariant.marked;
        size = ap (λ s. length s.marks.items) w.self-is ∙ c.loop-way.invariant.size;
        some = subst (λ s. AddsSome c.args.ways.now (c.loop-way.way-index + 1) c.args.self.now.places.items s.places.items) (sym w.self-is)
            (some-skip c.args.ways.now c.loop-way.way-index c.args.self.now.places.items c.loop-way.self.places.items
            (way-is c.args.ways.now c.loop-way.way-index None c.loop-way-test.true w.in-None.is) c.loop-way.invariant.some);
      }
    ]

pub returns-clause-adds : goal.returns-clause-adds
returns-clause-adds c = some-all c.args.ways.now c.loop-way.way-index c.args.self.now.places.items c.loop-way.self.places.items c.loop-way-test.false c.loop-way.invariant.some
