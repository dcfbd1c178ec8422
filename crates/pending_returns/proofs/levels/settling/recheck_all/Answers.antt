use Rattle.std.proofs.Common.{◌≡◌, ◌<◌, inl, inr, suc, length, get_or, Some, None, true, false, subst, sym, ap, ◌∙◌, arith, slice_get}
use Rattle.std.proofs.lemmas.Option.{slice_get_within}
use Rattle.std.proofs.Math.ListN.{length-set}
use Rattle.cob_tree.specs.declared.program.Range.{Range}
use Rattle.program_points.specs.point_table.Table.{IsSound, ReturnsHere}
use Rattle.pending_returns.specs.levels.Reach.{IsMarked, trues}
use Rattle.pending_returns.proofs.levels_lemmas.Searching.{trues-set, sound-more, flag-at, range-at, before-or-now}
use Rattle.pending_returns.proofs.levels.settling.recheck_all.Goals as goal
use Rattle.pending_returns.proofs.levels.settling.recheck_all.Goals.{then-not-index+in_ok-comes_back+then-branch, then-not-index+in_ok-comes_back+else-branch, else-not-index}

pub loop-number-preserved : goal.loop-number-preserved
loop-number-preserved c =
    let table = c.args.table.now in
    let k = c.loop-number.number in
    let flags = c.loop-number.returns.items in
    let inv = c.loop-number.invariant in
    let in_ranges : k < length table.ranges = omega (arith, c.loop-number-test.true, c.len-number-end.ensures) in
    let in_flags : k < length flags = omega (arith, in_ranges, inv.size) in
    let flag = flag-at flags k c.index.result.now in_flags c.index.ensures in
    elim c.if-not-index.branch [
      | then-not-index+in_ok-comes_back+then-branch w ↦
          let none : Range = record { entry = 0; exit = None } in
          let range = get_or w.as_slice.result.now k none in
          let at = range-at w.as_slice.result.now table.ranges k none w.as_slice.ensures in_ranges in
          let unmarked = flag ∙ ap (λ b. Some b) w.if-not-index.true in
          let back = subst (λ fs. ReturnsHere table fs range) w.as_slice-then-not-index.ensures.value (w.in_ok-comes_back.ensures.back.0 w.if-branch.true) in
          let one_more : trues c.if-not-index.returns.items ≡ suc (trues flags) = ap (λ v. trues v.items) w.returns-is ∙ trues-set flags k unmarked in
          record {
            marked = subst (λ r. IsMarked r.places.items r.marks.items) (sym w.reach-is) w.in_ok-comes_back.ensures.marked;
            places = ap (λ r. length r.marks.items) w.reach-is ∙ w.in_ok-comes_back.ensures.size;
            size = ap (λ v. length v.items) w.returns-is ∙ length-set flags k true ∙ inv.size;
            sound = λ never_first program points is sound. subst (λ v. IsSound never_first program table v.items) (sym w.returns-is)
                (sound-more never_first program table points flags k range is (inv.sound never_first program points is sound) at back);
            grown = omega (arith, one_more, inv.grown);
            more = λ h. omega (arith, one_more, inv.grown);
            closed = λ h. absurd (let both : true ≡ false = sym w.more-is ∙ h in let l : ⊥ = cc in l);
          }
      | then-not-index+in_ok-comes_back+else-branch w ↦
          let none : Range = record { entry = 0; exit = None } in
          let range = get_or w.as_slice.result.now k none in
          let at = range-at w.as_slice.result.now table.ranges k none w.as_slice.ensures in_ranges in
          record {
            marked = subst (λ r. IsMarked r.places.items r.marks.items) (sym w.reach-is) w.in_ok-comes_back.ensures.marked;
            places = ap (λ r. length r.marks.items) w.reach-is ∙ w.in_ok-comes_back.ensures.size;
            size = ap (λ v. length v.items) w.returns-is ∙ inv.size;
            sound = λ never_first program points is sound. subst (λ v. IsSound never_first program table v.items) (sym w.returns-is) (inv.sound never_first program points is sound);
            grown = omega (arith, ap (λ v. trues v.items) w.returns-is, inv.grown);
            more = λ h. (let g = inv.more (sym w.more-is ∙ h) in omega (arith, ap (λ v. trues v.items) w.returns-is, g));
            closed = λ h number other lt there here.
                let here_old = subst (λ v. ReturnsHere table v.items other) w.returns-is here in
                subst (λ v. slice_get v.items number ≡ Some true) (sym w.returns-is)
                (elim (before-or-now number k lt) [
                  | inl less ↦ inv.closed (sym w.more-is ∙ h) number other less there here_old
                  | inr same ↦ absurd (
                      let both : Some range ≡ Some other = sym at ∙ ap (λ n. slice_get table.ranges n) (sym same) ∙ there in
                      let one : range ≡ other = cc in
                      let back = w.in_ok-comes_back.ensures.back.1 (subst (λ fs. ReturnsHere table fs range) (sym w.as_slice-then-not-index.ensures.value) (subst (λ r. ReturnsHere table flags r) (sym one) here_old)) in
                      let clash : true ≡ false = sym back ∙ w.if-branch.false in
                      (let l : ⊥ = cc in l))
                ]);
          }
      | else-not-index w ↦
          record {
            marked = subst (λ r. IsMarked r.places.items r.marks.items) (sym w.reach-is) inv.marked;
            places = ap (λ r. length r.marks.items) w.reach-is ∙ inv.places;
            size = ap (λ v. length v.items) w.returns-is ∙ inv.size;
            sound = λ never_first program points is sound. subst (λ v. IsSound never_first program table v.items) (sym w.returns-is) (inv.sound never_first program points is sound);
            grown = omega (arith, ap (λ v. trues v.items) w.returns-is, inv.grown);
            more = λ h. (let g = inv.more (sym w.more-is ∙ h) in omega (arith, ap (λ v. trues v.items) w.returns-is, g));
            closed = λ h number other lt there here.
                subst (λ v. slice_get v.items number ≡ Some true) (sym w.returns-is)
                (elim (before-or-now number k lt) [
                  | inl less ↦ inv.closed (sym w.more-is ∙ h) number other less there (subst (λ v. ReturnsHere table v.items other) w.returns-is here)
                  | inr same ↦ ap (λ n. slice_get flags n) same ∙ flag ∙ ap (λ b. Some b) w.if-not-index.false
                ]);
          }
    ]

pub returns-clause-closed : goal.returns-clause-closed
returns-clause-closed c = λ h number range at here.
    c.loop-number.invariant.closed h number range
    (let lt : number < length c.args.table.now.ranges = slice_get_within c.args.table.now.ranges number range at in omega (arith, lt, c.loop-number-test.false, c.len-number-end.ensures)) at here
