use Rattle.std.proofs.Common.{◌≡◌, suc, ◌-◌, Err, sym, subst, arith}
use Rattle.std.proofs.lemmas.Result.{err_from_is_err_and}
use Rattle.parser_combinators.specs.declared.why.Why.TheVariants.{Parens}
use Rattle.parser_combinators.specs.Part.{is_mark}
use Rattle.parser_combinators.specs.Reading.{Reads}
use Rattle.parser_combinators.specs.Example as example
use Rattle.parser_combinators.proofs.Loops.{goes_on, ends_err, is_done, shrinks, too_deep_err}
use Rattle.parser_combinators.proofs.ExampleLaws as laws
use Rattle.parser_combinators.proofs.example.+sum.Goals as goal

pub inner-returns-then-levels-eq0 : goal.inner-returns-then-levels-eq0
unfolding example.inner
inner-returns-then-levels-eq0 t c =
    subst (λ n. Reads ((example.inner n).reads c.args.cursor.now) (Err c.too_deep.result) c.args.cursor.now) (sym c.if-levels-eq0.true)
    (too_deep_err _ Parens (is_mark example.opening) c.args.cursor.now c.sees_mark-begins.result c.too_deep.result c.sees_mark-begins.ensures c.too_deep.ensures)

pub inner-returns : goal.inner-returns
unfolding example.inner
inner-returns t c =
    let e : suc (c.args.levels - 1) ≡ c.args.levels = omega arith in
    subst (λ n. Reads ((example.inner n).reads c.args.cursor.now) c.in_parens.result c.in_parens.new.cursor) e c.in_parens.ensures

pub sum-returns-in_err-value-2 : goal.sum-returns-in_err-value-2
sum-returns-in_err-value-2 t c =
    let p = err_from_is_err_and c.from_residual-in_err-value-2.result c.from_residual-in_err-value-2.ensures.1 in
    rw (p.1, p.2) (ends_err (is_mark example.minus) (laws.less (laws.term c.args.levels)) c.terms.value c.in_err-value-2.field-0.0 c.terms.cursor c.less.new.cursor _ c.terms-test.ensures c.in_err-value-2.ensures c.terms.invariant)

pub sum-terms-smaller : goal.sum-terms-smaller
sum-terms-smaller t c = shrinks (laws.less (laws.term c.args.levels) c.terms.value) _ _ _ c.in_ok-value-2.ensures

pub sum-terms-preserved : goal.sum-terms-preserved
sum-terms-preserved t c = goes_on (is_mark example.minus) (laws.less (laws.term c.args.levels)) c.terms.value _ c.terms.cursor _ _ c.terms-test.ensures c.in_ok-value-2.ensures c.terms.invariant

pub sum-returns : goal.sum-returns
sum-returns t c = is_done (is_mark example.minus) (laws.less (laws.term c.args.levels)) c.terms.value c.terms.cursor _ c.terms-test.ensures c.terms.invariant
