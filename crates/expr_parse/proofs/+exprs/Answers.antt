use Rattle.std.proofs.Common.{◌≡◌, suc, ◌-◌, Err, sym, subst, arith}
use Rattle.std.proofs.lemmas.Result.{err_from_is_err_and}
use Rattle.cob_base.specs.Bytes.{left_parenthesis}
use Rattle.parser_combinators.specs.declared.why.Why.TheVariants.{Parens}
use Rattle.parser_combinators.specs.Part.{is_mark}
use Rattle.parser_combinators.specs.Reading.{Reads}
use Rattle.parser_combinators.proofs.Loops.{goes_on, ends_err, is_done, shrinks, too_deep_err}
use Rattle.cobol_grammar.specs.expr_forms.Levels.{inner}
use Rattle.cobol_grammar.specs.expr_forms.Token as tokens
use Rattle.cobol_grammar.proofs.expr_forms_lemmas.ExpressionLaws as laws
use Rattle.expr_parse.proofs.NameFront.{same_front}
use Rattle.expr_parse.proofs.+exprs.Goals as goal

pub levels::nested-returns-then-context-eq0 : goal.levels::nested-returns-then-context-eq0
unfolding inner
levels::nested-returns-then-context-eq0 t c =
    subst (λ n. Reads (((inner c.args.context.names.now n).nested c.args.count).reads c.args.cursor.now) (Err c.too_deep.result) c.args.cursor.now) (sym c.if-context-eq0.true)
    (too_deep_err _ Parens (is_mark left_parenthesis) c.args.cursor.now c.sees_mark-begins.result c.too_deep.result c.sees_mark-begins.ensures c.too_deep.ensures)

pub levels::nested-returns : goal.levels::nested-returns
unfolding inner
levels::nested-returns t c =
    let e : suc (c.args.context.levels - 1) ≡ c.args.context.levels = omega arith in
    subst (λ n. Reads (((inner c.args.context.names.now n).nested c.args.count).reads c.args.cursor.now) c.in_nested.result c.in_nested.new.cursor) e c.in_nested.ensures

pub levels::suffix-returns-then-context-eq0 : goal.levels::suffix-returns-then-context-eq0
unfolding inner
levels::suffix-returns-then-context-eq0 t c =
    subst (λ n. Reads (((inner c.args.context.names.now n).suffix c.args.count).reads c.args.cursor.now) (Err c.too_deep.result) c.args.cursor.now) (sym c.if-context-eq0.true)
    (too_deep_err _ Parens (is_mark left_parenthesis) c.args.cursor.now c.sees_mark-begins.result c.too_deep.result c.sees_mark-begins.ensures c.too_deep.ensures)

pub levels::suffix-returns : goal.levels::suffix-returns
unfolding inner
levels::suffix-returns t c =
    let e : suc (c.args.context.levels - 1) ≡ c.args.context.levels = omega arith in
    subst (λ n. Reads (((inner c.args.context.names.now n).suffix c.args.count).reads c.args.cursor.now) c.in_suffix.result c.in_suffix.new.cursor) e c.in_suffix.ensures

pub levels::window-returns-then-context-eq0 : goal.levels::window-returns-then-context-eq0
unfolding inner
levels::window-returns-then-context-eq0 t c =
    subst (λ n. Reads (((inner c.args.context.names.now n).window c.args.count).reads c.args.cursor.now) (Err c.too_deep.result) c.args.cursor.now) (sym c.if-context-eq0.true)
    (too_deep_err _ Parens (is_mark left_parenthesis) c.args.cursor.now c.sees_mark-begins.result c.too_deep.result c.sees_mark-begins.ensures c.too_deep.ensures)

pub levels::window-returns : goal.levels::window-returns
unfolding inner
levels::window-returns t c =
    let e : suc (c.args.context.levels - 1) ≡ c.args.context.levels = omega arith in
    subst (λ n. Reads (((inner c.args.context.names.now n).window c.args.count).reads c.args.cursor.now) c.in_window.result c.in_window.new.cursor) e c.in_window.ensures

pub expression::turns-returns-in_err-state : goal.expression::turns-returns-in_err-state
expression::turns-returns-in_err-state t c =
    let p = err_from_is_err_and c.from_residual.result c.from_residual.ensures.1 in
    rw (p.1, p.2) (ends_err tokens.begins_turn (laws.turn c.args.context.names.now (laws.inner c.args.context.names.now c.args.context.levels)) c.terms.state c.in_err-state.field-0.0 c.terms.cursor _ _ c.terms-test.ensures c.in_err-state.ensures c.terms.invariant)

pub expression::turns-terms-smaller : goal.expression::turns-terms-smaller
expression::turns-terms-smaller t c = shrinks (laws.turn c.args.context.names.now (laws.inner c.args.context.names.now c.args.context.levels) c.terms.state) _ _ _ c.in_ok-state.ensures

pub expression::turns-terms-preserved : goal.expression::turns-terms-preserved
expression::turns-terms-preserved t c = goes_on tokens.begins_turn (laws.turn c.args.context.names.now (laws.inner c.args.context.names.now c.args.context.levels)) c.terms.state _ c.terms.cursor _ _ c.terms-test.ensures c.in_ok-state.ensures c.terms.invariant

pub expression::turns-returns : goal.expression::turns-returns
expression::turns-returns t c = is_done tokens.begins_turn (laws.turn c.args.context.names.now (laws.inner c.args.context.names.now c.args.context.levels)) c.terms.state c.terms.cursor _ c.terms-test.ensures c.terms.invariant

pub front::front_turns-returns-in_err-front : goal.front::front_turns-returns-in_err-front
front::front_turns-returns-in_err-front t c =
    let p = err_from_is_err_and c.from_residual.result c.from_residual.ensures.1 in
    rw (p.1, p.2) (ends_err tokens.begins_turn (laws.front_turn c.args.context.names.now (laws.inner c.args.context.names.now c.args.context.levels) c.args.count) c.fronts.front c.in_err-front.field-0.0 c.fronts.cursor _ _ c.fronts-test.ensures c.in_err-front.ensures c.fronts.invariant)

pub front::front_turns-fronts-smaller : goal.front::front_turns-fronts-smaller
front::front_turns-fronts-smaller t c = shrinks (laws.front_turn c.args.context.names.now (laws.inner c.args.context.names.now c.args.context.levels) c.args.count c.fronts.front) _ _ _ c.in_ok-front.ensures

pub front::front_turns-fronts-preserved : goal.front::front_turns-fronts-preserved
front::front_turns-fronts-preserved t c = goes_on tokens.begins_turn (laws.front_turn c.args.context.names.now (laws.inner c.args.context.names.now c.args.context.levels) c.args.count) c.fronts.front _ c.fronts.cursor _ _ c.fronts-test.ensures c.in_ok-front.ensures c.fronts.invariant

pub front::front_turns-returns : goal.front::front_turns-returns
front::front_turns-returns t c = is_done tokens.begins_turn (laws.front_turn c.args.context.names.now (laws.inner c.args.context.names.now c.args.context.levels) c.args.count) c.fronts.front c.fronts.cursor _ c.fronts-test.ensures c.fronts.invariant

pub front::name_front-returns : goal.front::name_front-returns
front::name_front-returns t c = subst (λ o. Reads o c.named_front.result c.named_front.new.cursor)
    (same_front c.args.context.names.now (inner c.args.context.names.now c.args.context.levels) c.args.count c.args.cursor.now) c.named_front.ensures
