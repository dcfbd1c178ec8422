use Rattle.std.proofs.Common.{◌≡◌, ◌<◌, inl, inr, ℕ, length, get_or, Some, true, false, refl, sym, ap, ◌∙◌, arith, slice_get}
use Rattle.std.proofs.lemmas.Option.{slice_get_within, slice_get-get_or}
use Rattle.program_points.specs.declared.point_table.table.ProgramPoint.{ProgramPoint}
use Rattle.program_points.specs.declared.point_table.table.ProgramPoint.TheVariants.{Ends}
use Rattle.program_points.specs.paths.Flow.{is_exit}
use Rattle.pending_returns.proofs.levels_lemmas.Searching.{at-place, at-or-behind}
use Rattle.pending_returns.proofs.levels.settling.has_end.Goals as goal
use Rattle.pending_returns.proofs.levels.settling.has_end.Goals.{in-Ends+else-ends_at, in_default}

pub bounds-as_slice-number : goal.bounds-as_slice-number
bounds-as_slice-number c =
    let lt = c.requires (get_or c.args.places.now c.loop-number.number-index 0) (c.loop-number.number-index, slice_get-get_or c.args.places.now c.loop-number.number-index 0 c.loop-number-test.true) in
    omega (arith, lt, ap (λ xs. length xs) c.as_slice.ensures)

pub returns-then-ends_at : goal.returns-then-ends_at
returns-then-ends_at c =
    let n = get_or c.args.places.now c.loop-number.number-index 0 in
    let here = slice_get-get_or c.args.places.now c.loop-number.number-index 0 c.loop-number-test.true in
    let lt = c.requires n (c.loop-number.number-index, here) in
    let place = at-place c.as_slice.result.now c.args.table.now.places n c.index-as_slice-number.result c.as_slice.ensures (omega (arith, lt, ap (λ xs. length xs) c.as_slice.ensures)) c.index-as_slice-number.is in
    ((λ h. (n, c.in-Ends.paragraph, (c.loop-number.number-index, here), place ∙ ap (λ (p : ProgramPoint). Some p) c.in-Ends.is, sym c.if-ends_at.ensures)), (λ h. refl))

pub loop-number-preserved : goal.loop-number-preserved
loop-number-preserved c = λ h.
    let n = get_or c.args.places.now c.loop-number.number-index 0 in
    let i = c.loop-number.number-index in
    let here = slice_get-get_or c.args.places.now i 0 c.loop-number-test.true in
    let lt = c.requires n (i, here) in
    let place = at-place c.as_slice.result.now c.args.table.now.places n c.index-as_slice-number.result c.as_slice.ensures (omega (arith, lt, ap (λ xs. length xs) c.as_slice.ensures)) c.index-as_slice-number.is in
    let f = c.loop-number.invariant h in
    elim (at-or-behind i f.0 f.3) [
      | inr behind ↦ (f.0, f.1, f.2, behind, f.4, f.5, f.6)
      | inl same ↦ absurd (
          let e1 : Some n ≡ Some f.1 = sym here ∙ ap (λ (k : ℕ). slice_get c.args.places.now k) same ∙ f.4 in
          let e2 : n ≡ f.1 = cc in
          let e3 : Some c.index-as_slice-number.result ≡ Some (Ends f.2) = sym place ∙ ap (λ (k : ℕ). slice_get c.args.table.now.places k) e2 ∙ f.5 in
          let e4 : c.index-as_slice-number.result ≡ Ends f.2 = cc in
          elim c.match-as_slice-number.branch [
            | in-Ends+else-ends_at w ↦
                (let e5 : Ends w.in-Ends.paragraph ≡ Ends f.2 = sym w.in-Ends.is ∙ e4 in
                let e6 : w.in-Ends.paragraph ≡ f.2 = cc in
                let e7 : false ≡ true = w.if-ends_at.ensures ∙ ap (λ (k : ℕ). is_exit c.args.range.exit k) e6 ∙ f.6 in
                let k : ⊥ = cc in k)
            | in_default w ↦ w.in_default.not-Ends f.2 e4
          ])
    ]

pub returns : goal.returns
returns c = (
  (λ h. absurd (let k : ⊥ = cc in k)),
  (λ h. absurd (let f = c.loop-number.invariant h in let lt : f.0 < length c.args.places.now = slice_get_within c.args.places.now f.0 f.1 f.4 in let le = f.3 in omega (arith, lt, le, c.loop-number-test.false))),
)
