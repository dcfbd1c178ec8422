use Rattle.std.proofs.Common.{◌<◌, ◌≤◌, length, true, refl, subst, sym, ap, ◌∙◌, arith}
use Rattle.std.proofs.lemmas.Option.{slice_get_within, slice_get_read}
use Rattle.pending_returns.specs.levels.Reach.{IsSoFar}
use Rattle.pending_returns.proofs.levels_lemmas.Searching.{begin-none, begin-some, go-on, all-reached, few, at-place}
use Rattle.pending_returns.proofs.levels.reach.reached.Goals as goal
use Rattle.pending_returns.proofs.levels.reach.reached.Goals.{in-Some+in_ok-visit-in-Some, in-None}

pub loop-at-init : goal.loop-at-init
loop-at-init c =
    let cleared = c.clear.new.self in
    elim c.match-get.branch [
      | in-Some+in_ok-visit-in-Some w ↦ subst (λ r. IsSoFar c.args.table.now c.args.returns.now c.args.range r.places.items r.marks.items 0) (sym w.reach-is)
          (begin-some c.args.table.now c.args.returns.now c.args.range cleared.places.items w.visit.new.self.places.items w.visit.new.self.marks.items w.in-Some.start.now
          c.clear.ensures.none w.in_ok-visit-in-Some.ensures.marked (w.in_ok-visit-in-Some.ensures.size ∙ c.clear.ensures.size ∙ c.requires.size) (sym w.in-Some.ensures) w.in_ok-visit-in-Some.ensures.adds)
      | in-None w ↦ subst (λ r. IsSoFar c.args.table.now c.args.returns.now c.args.range r.places.items r.marks.items 0) (sym w.reach-is)
          (begin-none c.args.table.now c.args.returns.now c.args.range cleared.places.items cleared.marks.items
          c.clear.ensures.none c.clear.ensures.marked (c.clear.ensures.size ∙ c.requires.size) (sym w.in-None.ensures))
    ]

pub returns-then-at-len : goal.returns-then-at-len
returns-then-at-len c = record {
  reach = all-reached c.args.table.now c.args.returns.now c.args.range c.loop-at.reach.places.items c.loop-at.reach.marks.items c.loop-at.at c.loop-at.invariant (omega (arith, c.if-at-len.true));
  marked = c.loop-at.invariant.marked;
  size = c.loop-at.invariant.size;
}

pub returns : goal.returns
returns c =
    let up : length c.loop-at.reach.places.items ≤ length c.loop-at.reach.marks.items = few c.loop-at.reach.places.items c.loop-at.reach.marks.items c.loop-at.invariant.marked in
    record {
      reach = all-reached c.args.table.now c.args.returns.now c.args.range c.loop-at.reach.places.items c.loop-at.reach.marks.items c.loop-at.at c.loop-at.invariant (omega (arith, up, c.loop-at.invariant.size, c.len-at-end.ensures, c.loop-at-test.false));
      marked = c.loop-at.invariant.marked;
      size = c.loop-at.invariant.size;
    }

pub bounds-as_slice-number : goal.bounds-as_slice-number
bounds-as_slice-number c =
    let is = slice_get_read c.loop-at.reach.places.items (length c.loop-at.reach.places.items) c.loop-at.at c.index.result.now refl (omega (arith, c.if-at-len.false)) c.index.ensures in
    let lt : c.index.result.now < length c.loop-at.reach.marks.items = slice_get_within c.loop-at.reach.marks.items c.index.result.now true (c.loop-at.invariant.marked.marked c.index.result.now (c.loop-at.at, is)) in
    omega (arith, lt, c.loop-at.invariant.size, ap (λ xs. length xs) c.as_slice.ensures)

pub visit_next-requires-clause-tidy_place : goal.visit_next-requires-clause-tidy_place
visit_next-requires-clause-tidy_place c =
    let is = slice_get_read c.loop-at.reach.places.items (length c.loop-at.reach.places.items) c.loop-at.at c.index.result.now refl (omega (arith, c.if-at-len.false)) c.index.ensures in
    let lt : c.index.result.now < length c.loop-at.reach.marks.items = slice_get_within c.loop-at.reach.marks.items c.index.result.now true (c.loop-at.invariant.marked.marked c.index.result.now (c.loop-at.at, is)) in
    c.requires.tidy.places c.index.result.now c.index-as_slice-number.result
    (at-place c.as_slice.result.now c.args.table.now.places c.index.result.now c.index-as_slice-number.result c.as_slice.ensures (omega (arith, lt, c.loop-at.invariant.size, ap (λ xs. length xs) c.as_slice.ensures)) c.index-as_slice-number.is)

pub loop-at-preserved : goal.loop-at-preserved
loop-at-preserved c =
    let is = slice_get_read c.loop-at.reach.places.items (length c.loop-at.reach.places.items) c.loop-at.at c.index.result.now refl (omega (arith, c.if-at-len.false)) c.index.ensures in
    let lt : c.index.result.now < length c.loop-at.reach.marks.items = slice_get_within c.loop-at.reach.marks.items c.index.result.now true (c.loop-at.invariant.marked.marked c.index.result.now (c.loop-at.at, is)) in
    go-on c.args.table.now c.args.returns.now c.args.range c.loop-at.reach.places.items c.visit_next.new.self.places.items c.loop-at.reach.marks.items c.visit_next.new.self.marks.items c.loop-at.at c.index.result.now c.index-as_slice-number.result
    c.loop-at.invariant (omega (arith, c.if-at-len.false)) is
    (at-place c.as_slice.result.now c.args.table.now.places c.index.result.now c.index-as_slice-number.result c.as_slice.ensures (omega (arith, lt, c.loop-at.invariant.size, ap (λ xs. length xs) c.as_slice.ensures)) c.index-as_slice-number.is)
    c.in_ok-visit_next.ensures.adds c.in_ok-visit_next.ensures.marked c.in_ok-visit_next.ensures.size
