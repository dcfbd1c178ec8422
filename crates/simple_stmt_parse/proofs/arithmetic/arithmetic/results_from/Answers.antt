use Rattle.std.proofs.lemmas.Result.{err_from_is_err_and}
use Rattle.cobol_grammar.proofs.stmt_forms_lemmas.SimpleLaws as laws
use Rattle.parser_combinators.proofs.Loops.{goes_on, ends_err, is_done, shrinks}
use Rattle.parser_combinators.proofs.MakerLaws.{added}
use Rattle.simple_stmt_parse.proofs.arithmetic.arithmetic.results_from.Goals as goal

pub returns-in_err-found : goal.returns-in_err-found
returns-in_err-found g c =
    let p = err_from_is_err_and c.from_residual.result c.from_residual.ensures.1 in
    rw (p.1, p.2) (ends_err ((g.P.Parts.parts c.args.parts.now).is_name) (λ front. added front (laws.result (g.met.P.Parts.lawful c.args.parts.now))) c.items.found c.in_err-found.field-0.0 c.items.cursor c.result_behind.new.cursor _ c.items-test.ensures c.in_err-found.ensures c.items.invariant)

pub items-smaller : goal.items-smaller
items-smaller g c = shrinks (added c.items.found (laws.result (g.met.P.Parts.lawful c.args.parts.now))) _ _ _ c.in_ok-found.ensures

pub items-preserved : goal.items-preserved
items-preserved g c = goes_on ((g.P.Parts.parts c.args.parts.now).is_name) (λ front. added front (laws.result (g.met.P.Parts.lawful c.args.parts.now))) c.items.found _ c.items.cursor _ _ c.items-test.ensures c.in_ok-found.ensures c.items.invariant

pub returns : goal.returns
returns g c = is_done ((g.P.Parts.parts c.args.parts.now).is_name) (λ front. added front (laws.result (g.met.P.Parts.lawful c.args.parts.now))) c.items.found c.items.cursor _ c.items-test.ensures c.items.invariant
