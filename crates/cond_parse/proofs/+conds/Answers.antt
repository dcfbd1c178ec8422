use Rattle.std.proofs.Common.{◌≡◌, suc, ◌-◌, Err, sym, subst, arith}
use Rattle.std.proofs.lemmas.Result.{err_from_is_err_and}
use Rattle.cob_base.specs.Bytes.{left_parenthesis}
use Rattle.parser_combinators.specs.declared.why.Why.TheVariants.{Parens}
use Rattle.parser_combinators.specs.Part.{is_mark}
use Rattle.parser_combinators.specs.Reading.{Reads}
use Rattle.parser_combinators.proofs.Loops.{goes_on, ends_err, is_done, shrinks, too_deep_err}
use Rattle.cobol_grammar.proofs.expr_forms_lemmas.ExpressionLaws as laws
use Rattle.cobol_grammar.specs.cond_forms.Condition as conditions
use Rattle.cobol_grammar.specs.cond_forms.Token as tokens
use Rattle.cobol_grammar.proofs.cond_forms_lemmas.ConditionLaws as claws
use Rattle.cond_parse.proofs.+conds.Goals as goal

pub condition::content-returns-then-context-eq0 : goal.condition::content-returns-then-context-eq0
unfolding conditions.content
condition::content-returns-then-context-eq0 t c =
    subst (λ n. Reads ((conditions.content c.args.context.names.now n c.args.count).reads c.args.cursor.now) (Err c.too_deep.result) c.args.cursor.now) (sym c.if-context-eq0.true)
    (too_deep_err _ Parens (is_mark left_parenthesis) c.args.cursor.now c.sees_mark-begins.result c.too_deep.result c.sees_mark-begins.ensures c.too_deep.ensures)

pub condition::content-returns : goal.condition::content-returns
unfolding conditions.content
condition::content-returns t c =
    let e : suc (c.args.context.levels - 1) ≡ c.args.context.levels = omega arith in
    subst (λ n. Reads ((conditions.content c.args.context.names.now n c.args.count).reads c.args.cursor.now) c.in_content.result c.in_content.new.cursor) e c.in_content.ensures

pub condition::joins_from-returns-in_err-state : goal.condition::joins_from-returns-in_err-state
condition::joins_from-returns-in_err-state t c =
    let p = err_from_is_err_and c.from_residual.result c.from_residual.ensures.1 in
    rw (p.1, p.2) (ends_err tokens.joins (claws.join c.args.context.names.now (laws.inner c.args.context.names.now c.args.context.levels) (claws.content c.args.context.names.now c.args.context.levels)) c.parts.state c.in_err-state.field-0.0 c.parts.cursor _ _ c.parts-test.ensures c.in_err-state.ensures c.parts.invariant)

pub condition::joins_from-parts-smaller : goal.condition::joins_from-parts-smaller
condition::joins_from-parts-smaller t c = shrinks (claws.join c.args.context.names.now (laws.inner c.args.context.names.now c.args.context.levels) (claws.content c.args.context.names.now c.args.context.levels) c.parts.state) _ _ _ c.in_ok-state.ensures

pub condition::joins_from-parts-preserved : goal.condition::joins_from-parts-preserved
condition::joins_from-parts-preserved t c = goes_on tokens.joins (claws.join c.args.context.names.now (laws.inner c.args.context.names.now c.args.context.levels) (claws.content c.args.context.names.now c.args.context.levels)) c.parts.state _ c.parts.cursor _ _ c.parts-test.ensures c.in_ok-state.ensures c.parts.invariant

pub condition::joins_from-returns : goal.condition::joins_from-returns
condition::joins_from-returns t c = is_done tokens.joins (claws.join c.args.context.names.now (laws.inner c.args.context.names.now c.args.context.levels) (claws.content c.args.context.names.now c.args.context.levels)) c.parts.state c.parts.cursor _ c.parts-test.ensures c.parts.invariant
