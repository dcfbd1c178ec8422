use Rattle.std.proofs.lemmas.Result.{err_from_is_err_and}
use Rattle.parser_combinators.proofs.Loops.{goes_on, ends_err, is_done, shrinks}
use Rattle.parser_combinators.proofs.MakerLaws.{added}
use Rattle.cobol_grammar.specs.expr_forms.Subscript as subscripts
use Rattle.cobol_grammar.proofs.expr_forms_lemmas.ExpressionLaws as laws
use Rattle.expr_parse.proofs.subscript.more_subs.Goals as goal

pub returns-in_err-subs : goal.returns-in_err-subs
returns-in_err-subs c =
    let p = err_from_is_err_and c.from_residual.result c.from_residual.ensures.1 in
    rw (p.1, p.2) (ends_err subscripts.begins_sub (λ front. added front (laws.sub c.args.names.now)) c.subs.subs c.in_err-subs.field-0.0 c.subs.cursor _ _ c.subs-test.ensures c.in_err-subs.ensures c.subs.invariant)

pub subs-smaller : goal.subs-smaller
subs-smaller c = shrinks (added c.subs.subs (laws.sub c.args.names.now)) _ _ _ c.in_ok-subs.ensures

pub subs-preserved : goal.subs-preserved
subs-preserved c = goes_on subscripts.begins_sub (λ front. added front (laws.sub c.args.names.now)) c.subs.subs _ c.subs.cursor _ _ c.subs-test.ensures c.in_ok-subs.ensures c.subs.invariant

pub returns : goal.returns
returns c = is_done subscripts.begins_sub (λ front. added front (laws.sub c.args.names.now)) c.subs.subs c.subs.cursor _ c.subs-test.ensures c.subs.invariant
