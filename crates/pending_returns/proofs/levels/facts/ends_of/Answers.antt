use Rattle.std.proofs.Common.{◌≡◌, ◌+◌, ℕ, length, get_or, Some, true, false, subst, sym, ap, ◌∙◌, arith}
use Rattle.std.proofs.lemmas.Option.{slice_get-get_or}
use Rattle.program_points.specs.paths.Flow.{is_exit}
use Rattle.program_points.specs.declared.point_table.table.ProgramPoint.{ProgramPoint}
use Rattle.program_points.specs.declared.point_table.table.ProgramPoint.TheVariants.{Ends}
use Rattle.program_points.specs.point_table.Table.{IsTidyPlace}
use Rattle.pending_returns.specs.levels.Reach.{IsMarked, GathersEnds}
use Rattle.pending_returns.proofs.levels_lemmas.Searching.{at-place}
use Rattle.pending_returns.proofs.levels_lemmas.Telling.{ends-none, ends-more, ends-skip, ends-all}
use Rattle.pending_returns.proofs.levels.facts.ends_of.Goals as goal
use Rattle.pending_returns.proofs.levels.facts.ends_of.Goals.{in-Ends+then-not-ends_at+in_ok-visit-in-Ends, in-Ends+else-not-ends_at, in_default}

pub bounds-as_slice-number : goal.bounds-as_slice-number
bounds-as_slice-number c =
    let places = c.args.places.now in
    let i = c.loop-number.number-index in
    let n = get_or places i 0 in
    let here = slice_get-get_or places i 0 c.loop-number-test.true in
    let lt = c.requires.places n (i, here) in
    omega (arith, lt, ap (λ xs. length xs) c.as_slice.ensures)

pub visit-requires-clause-room : goal.visit-requires-clause-room
visit-requires-clause-room c =
    let table = c.args.table.now in
    let places = c.args.places.now in
    let i = c.loop-number.number-index in
    let n = get_or places i 0 in
    let here = slice_get-get_or places i 0 c.loop-number-test.true in
    let lt = c.requires.places n (i, here) in
    let place = at-place c.as_slice.result.now table.places n c.index-as_slice-number.result c.as_slice.ensures (omega (arith, lt, ap (λ xs. length xs) c.as_slice.ensures)) c.index-as_slice-number.is in
    let tidy = subst (λ p. IsTidyPlace table p) c.in-Ends.is (c.requires.tidy.places n c.index-as_slice-number.result place) in
    omega (arith, tidy, c.loop-number.invariant.size)

pub loop-number-init : goal.loop-number-init
loop-number-init c = record {
  marked = c.clear.ensures.marked;
  size = c.clear.ensures.size ∙ c.requires.size;
  ends = ends-none c.args.table.now c.args.range c.args.places.now c.clear.new.self.places.items c.clear.ensures.none;
}

pub loop-number-preserved : goal.loop-number-preserved
loop-number-preserved c =
    let table = c.args.table.now in
    let places = c.args.places.now in
    let range = c.args.range in
    let i = c.loop-number.number-index in
    let n = get_or places i 0 in
    let here = slice_get-get_or places i 0 c.loop-number-test.true in
    let lt = c.requires.places n (i, here) in
    let place = at-place c.as_slice.result.now table.places n c.index-as_slice-number.result c.as_slice.ensures (omega (arith, lt, ap (λ xs. length xs) c.as_slice.ensures)) c.index-as_slice-number.is in
    let inv = c.loop-number.invariant in
    let ends = c.loop-number.ends.places.items in
    elim c.match-as_slice-number.branch [
      | in-Ends+then-not-ends_at+in_ok-visit-in-Ends w ↦ record {
        marked = subst (λ r. IsMarked r.places.items r.marks.items) (sym w.ends-is) w.in_ok-visit-in-Ends.ensures.marked;
        size = ap (λ r. length r.marks.items) w.ends-is ∙ w.in_ok-visit-in-Ends.ensures.size ∙ inv.size;
        ends = subst (λ r. GathersEnds table range places r.places.items (i + 1)) (sym w.ends-is)
            (ends-more table range places ends w.visit.new.self.places.items i n w.in-Ends.paragraph inv.ends here (place ∙ ap (λ (p : ProgramPoint). Some p) w.in-Ends.is) (sym w.if-not-ends_at.ensures) w.in_ok-visit-in-Ends.ensures.adds);
      }
      | in-Ends+else-not-ends_at w ↦ record {
        marked = subst (λ r. IsMarked r.places.items r.marks.items) (sym w.ends-is) inv.marked;
        size = ap (λ r. length r.marks.items) w.ends-is ∙ inv.size;
        ends = subst (λ r. GathersEnds table range places r.places.items (i + 1)) (sym w.ends-is)
            (ends-skip table range places ends i n c.index-as_slice-number.result inv.ends here place
            (λ paragraph e out.
            (let e1 : Ends w.in-Ends.paragraph ≡ Ends paragraph = sym w.in-Ends.is ∙ e in
            let same : w.in-Ends.paragraph ≡ paragraph = cc in
            let both : true ≡ false = w.if-not-ends_at.ensures ∙ ap (λ (k : ℕ). is_exit range.exit k) same ∙ out in
            let l : ⊥ = cc in l)));
      }
      | in_default w ↦ record {
        marked = subst (λ r. IsMarked r.places.items r.marks.items) (sym w.ends-is) inv.marked;
        size = ap (λ r. length r.marks.items) w.ends-is ∙ inv.size;
        ends = subst (λ r. GathersEnds table range places r.places.items (i + 1)) (sym w.ends-is)
            (ends-skip table range places ends i n c.index-as_slice-number.result inv.ends here place (λ paragraph e out. w.in_default.not-Ends paragraph e));
      }
    ]

pub returns-clause-ends : goal.returns-clause-ends
returns-clause-ends c = ends-all c.args.table.now c.args.range c.args.places.now c.loop-number.ends.places.items c.loop-number.number-index c.loop-number.invariant.ends c.loop-number-test.false
