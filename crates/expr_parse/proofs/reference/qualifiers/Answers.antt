use Rattle.std.proofs.lemmas.Result.{err_from_is_err_and}
use Rattle.parser_combinators.proofs.Loops.{item_goes_on, item_ends_err, item_is_done, shrinks}
use Rattle.cobol_grammar.specs.expr_forms.Token as tokens
use Rattle.cobol_grammar.proofs.expr_forms_lemmas.ExpressionLaws as laws
use Rattle.expr_parse.proofs.reference.qualifiers.Goals as goal

pub returns-in_err-qualifier : goal.returns-in_err-qualifier
returns-in_err-qualifier c =
    let p = err_from_is_err_and c.from_residual.result c.from_residual.ensures.1 in
    rw (p.1, p.2) (item_ends_err tokens.is_of (laws.qualifier) c.words.found c.in_err-qualifier.field-0.0 c.words.cursor _ _ c.words-test.ensures c.in_err-qualifier.ensures c.words.invariant)

pub words-smaller : goal.words-smaller
words-smaller c = shrinks (laws.qualifier) _ _ _ c.in_ok-qualifier.ensures

pub words-preserved : goal.words-preserved
words-preserved c = rw c.in_ok-push.ensures.ok (item_goes_on tokens.is_of (laws.qualifier) c.words.found _ c.words.cursor _ _ c.words-test.ensures c.in_ok-qualifier.ensures c.words.invariant)

pub returns : goal.returns
returns c = item_is_done tokens.is_of (laws.qualifier) c.words.found c.words.cursor _ c.words-test.ensures c.words.invariant
