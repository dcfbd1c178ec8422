use Rattle.cobol_grammar.specs.stmt_forms.Jump as jump
use Rattle.std.proofs.lemmas.Result.{err_from_is_err_and}
use Rattle.cobol_grammar.proofs.stmt_forms_lemmas.ParagraphLaws as laws
use Rattle.parser_combinators.proofs.Loops.{goes_on, ends_err, is_done, shrinks}
use Rattle.procedure_parse.proofs.paragraph.headed_from.Goals as goal

pub returns-in_err-state : goal.returns-in_err-state
returns-in_err-state g c =
    let p = err_from_is_err_and c.from_residual.result c.from_residual.ensures.1 in
    rw (p.1, p.2) (ends_err ((jump.begins_procedure (g.P.Parts.parts c.args.parts.now))) (laws.headed (g.met.P.Parts.lawful c.args.parts.now)) c.headers.state c.in_err-state.field-0.0 c.headers.cursor c.headed.new.cursor _ c.headers-test.ensures c.in_err-state.ensures c.headers.invariant)

pub headers-smaller : goal.headers-smaller
headers-smaller g c = shrinks ((laws.headed (g.met.P.Parts.lawful c.args.parts.now)) c.headers.state) _ _ _ c.in_ok-state.ensures

pub headers-preserved : goal.headers-preserved
headers-preserved g c = goes_on ((jump.begins_procedure (g.P.Parts.parts c.args.parts.now))) (laws.headed (g.met.P.Parts.lawful c.args.parts.now)) c.headers.state _ c.headers.cursor _ _ c.headers-test.ensures c.in_ok-state.ensures c.headers.invariant

pub returns : goal.returns
returns g c = is_done ((jump.begins_procedure (g.P.Parts.parts c.args.parts.now))) (laws.headed (g.met.P.Parts.lawful c.args.parts.now)) c.headers.state c.headers.cursor _ c.headers-test.ensures c.headers.invariant
