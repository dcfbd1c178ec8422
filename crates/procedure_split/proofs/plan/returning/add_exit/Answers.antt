use Rattle.std.proofs.Common.{◌≡◌, ℕ, List, [], ◌∷◌, ◌++◌, Some, slice_get, slice_set, length, ap, sym, ◌∙◌, subst, refl}
use Rattle.std.proofs.lemmas.Option.{slice_get_read}
use Rattle.procedure_split.specs.plan.Planned.{with_exit}
use Rattle.procedure_split.proofs.plan_lemmas.Tabling.{put-exit}
use Rattle.procedure_split.proofs.plan.returning.add_exit.Goals as goal

pub returns : goal.returns
returns c =
    let before = c.args.table.now.items in
    let long = c.lengthen.new.table.items in
    let row = c.index_mut.result.now in
    let there = slice_get_read long (length long) c.args.entry row refl c.in_ok-lengthen.ensures.long c.index_mut.ensures.value in
    ap (λ r. slice_set long c.args.entry r) c.in_ok-push.ensures.ok
    ∙ subst (λ (rows : List (List ℕ)). slice_get rows c.args.entry ≡ Some row → slice_set rows c.args.entry (row ++ c.args.exit ∷ []) ≡ with_exit before c.args.entry c.args.exit)
    (sym c.in_ok-lengthen.ensures.is) (put-exit before c.args.entry c.args.exit row) there
