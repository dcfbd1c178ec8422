use Rattle.std.proofs.Common.{◌+◌, length, get_or, Some, subst, sym, ap, ◌∙◌, arith}
use Rattle.std.proofs.lemmas.Option.{slice_get-get_or}
use Rattle.program_points.specs.declared.point_table.table.ProgramPoint.{ProgramPoint}
use Rattle.program_points.specs.point_table.Table.{IsTidyPlace}
use Rattle.pending_returns.specs.levels.Reach.{IsMarked, GathersCalls}
use Rattle.pending_returns.proofs.levels_lemmas.Searching.{at-place}
use Rattle.pending_returns.proofs.levels_lemmas.Telling.{calls-none, calls-more, calls-skip, calls-all}
use Rattle.pending_returns.proofs.levels.facts.calls_of.Goals as goal
use Rattle.pending_returns.proofs.levels.facts.calls_of.Goals.{in-Calls+in_ok-visit-in-Calls, in_default}

pub bounds-as_slice-number : goal.bounds-as_slice-number
bounds-as_slice-number c =
    let places = c.args.places.now in
    let i = c.loop-number.number-index in
    let n = get_or places i 0 in
    let here = slice_get-get_or places i 0 c.loop-number-test.true in
    let lt = c.requires.places n (i, here) in
    omega (arith, lt, ap (λ xs. length xs) c.as_slice.ensures)

pub visit-requires-clause-room : goal.visit-requires-clause-room
visit-requires-clause-room c =
    let table = c.args.table.now in
    let places = c.args.places.now in
    let i = c.loop-number.number-index in
    let n = get_or places i 0 in
    let here = slice_get-get_or places i 0 c.loop-number-test.true in
    let lt = c.requires.places n (i, here) in
    let place = at-place c.as_slice.result.now table.places n c.index-as_slice-number.result c.as_slice.ensures (omega (arith, lt, ap (λ xs. length xs) c.as_slice.ensures)) c.index-as_slice-number.is in
    let tidy = subst (λ p. IsTidyPlace table p) c.in-Calls.is (c.requires.tidy.places n c.index-as_slice-number.result place) in
    omega (arith, tidy.0, c.loop-number.invariant.size)

pub loop-number-init : goal.loop-number-init
loop-number-init c = record {
  marked = c.clear.ensures.marked;
  size = c.clear.ensures.size ∙ c.requires.size;
  calls = calls-none c.args.table.now c.args.places.now c.clear.new.self.places.items c.clear.ensures.none;
}

pub loop-number-preserved : goal.loop-number-preserved
loop-number-preserved c =
    let table = c.args.table.now in
    let places = c.args.places.now in
    let i = c.loop-number.number-index in
    let n = get_or places i 0 in
    let here = slice_get-get_or places i 0 c.loop-number-test.true in
    let lt = c.requires.places n (i, here) in
    let place = at-place c.as_slice.result.now table.places n c.index-as_slice-number.result c.as_slice.ensures (omega (arith, lt, ap (λ xs. length xs) c.as_slice.ensures)) c.index-as_slice-number.is in
    let inv = c.loop-number.invariant in
    let calls = c.loop-number.calls in
    elim c.match-as_slice-number.branch [
      | in-Calls+in_ok-visit-in-Calls w ↦ record {
        marked = subst (λ r. IsMarked r.places.items r.marks.items) (sym w.calls-is) w.in_ok-visit-in-Calls.ensures.marked;
        size = ap (λ r. length r.marks.items) w.calls-is ∙ w.in_ok-visit-in-Calls.ensures.size ∙ inv.size;
        calls = subst (λ r. GathersCalls table places r.places.items (i + 1)) (sym w.calls-is)
            (calls-more table places calls.places.items w.visit.new.self.places.items i n w.in-Calls.range w.in-Calls.after inv.calls here (place ∙ ap (λ (p : ProgramPoint). Some p) w.in-Calls.is) w.in_ok-visit-in-Calls.ensures.adds);
      }
      | in_default w ↦ record {
        marked = subst (λ r. IsMarked r.places.items r.marks.items) (sym w.calls-is) inv.marked;
        size = ap (λ r. length r.marks.items) w.calls-is ∙ inv.size;
        calls = subst (λ r. GathersCalls table places r.places.items (i + 1)) (sym w.calls-is)
            (calls-skip table places calls.places.items i n c.index-as_slice-number.result inv.calls here place (λ range after e. w.in_default.not-Calls range after e));
      }
    ]

pub returns-clause-calls : goal.returns-clause-calls
returns-clause-calls c = calls-all c.args.table.now c.args.places.now c.loop-number.calls.places.items c.loop-number.number-index c.loop-number.invariant.calls c.loop-number-test.false
