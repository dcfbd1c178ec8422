use Rattle.cobol_grammar.specs.stmt_forms.Verb.{begins_stmt}
use Rattle.std.proofs.lemmas.Result.{err_from_is_err_and}
use Rattle.cobol_grammar.proofs.stmt_forms_lemmas.ParagraphLaws as laws
use Rattle.parser_combinators.proofs.Loops.{goes_on, ends_err, is_done, shrinks}
use Rattle.parser_combinators.proofs.MakerLaws.{added}
use Rattle.procedure_parse.proofs.paragraph.sentences_from.Goals as goal

pub returns-in_err-found : goal.returns-in_err-found
returns-in_err-found g c =
    let p = err_from_is_err_and c.from_residual.result c.from_residual.ensures.1 in
    rw (p.1, p.2) (ends_err begins_stmt (λ front. added front (laws.sentence (g.met.P.Parts.lawful c.args.parts.now) c.args.scope)) c.items.found c.in_err-found.field-0.0 c.items.cursor c.sentence_behind.new.cursor _ c.items-test.ensures c.in_err-found.ensures c.items.invariant)

pub items-smaller : goal.items-smaller
items-smaller g c = shrinks (added c.items.found (laws.sentence (g.met.P.Parts.lawful c.args.parts.now) c.args.scope)) _ _ _ c.in_ok-found.ensures

pub items-preserved : goal.items-preserved
items-preserved g c = goes_on begins_stmt (λ front. added front (laws.sentence (g.met.P.Parts.lawful c.args.parts.now) c.args.scope)) c.items.found _ c.items.cursor _ _ c.items-test.ensures c.in_ok-found.ensures c.items.invariant

pub returns : goal.returns
returns g c = is_done begins_stmt (λ front. added front (laws.sentence (g.met.P.Parts.lawful c.args.parts.now) c.args.scope)) c.items.found c.items.cursor _ c.items-test.ensures c.items.invariant
