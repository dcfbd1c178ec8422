use Rattle.std.proofs.lemmas.Result.{err_from_is_err_and}
use Rattle.cobol_grammar.specs.stmt_forms.Jump as jump
use Rattle.cobol_grammar.proofs.stmt_forms_lemmas.SimpleLaws as laws
use Rattle.parser_combinators.proofs.Loops.{item_goes_on, item_ends_err, item_is_done, shrinks}
use Rattle.simple_stmt_parse.proofs.verbs.jump.more_entries.Goals as goal

pub returns-in_err-procedure_entry : goal.returns-in_err-procedure_entry
returns-in_err-procedure_entry g c =
    let p = err_from_is_err_and c.from_residual.result c.from_residual.ensures.1 in
    rw (p.1, p.2) (item_ends_err ((jump.begins_procedure (g.P.Parts.parts c.args.parts.now))) (laws.procedure_entry (g.met.P.Parts.lawful c.args.parts.now)) c.items.found c.in_err-procedure_entry.field-0.0 c.items.cursor c.procedure_entry.new.cursor _ c.items-test.ensures c.in_err-procedure_entry.ensures c.items.invariant)

pub items-smaller : goal.items-smaller
items-smaller g c = shrinks (laws.procedure_entry (g.met.P.Parts.lawful c.args.parts.now)) _ _ _ c.in_ok-procedure_entry.ensures

pub items-preserved : goal.items-preserved
items-preserved g c =
    rw c.in_ok-push.ensures.ok (item_goes_on ((jump.begins_procedure (g.P.Parts.parts c.args.parts.now))) (laws.procedure_entry (g.met.P.Parts.lawful c.args.parts.now)) c.items.found _ c.items.cursor _ _ c.items-test.ensures c.in_ok-procedure_entry.ensures c.items.invariant)

pub returns : goal.returns
returns g c = item_is_done ((jump.begins_procedure (g.P.Parts.parts c.args.parts.now))) (laws.procedure_entry (g.met.P.Parts.lawful c.args.parts.now)) c.items.found c.items.cursor _ c.items-test.ensures c.items.invariant
