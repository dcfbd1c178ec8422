use Rattle.std.proofs.lemmas.Result.{err_from_is_err_and}
use Rattle.parser_combinators.proofs.Loops.{goes_on, ends_err, is_done, shrinks}
use Rattle.cobol_grammar.specs.data_forms.Environment.{begins_select_clause}
use Rattle.cobol_grammar.proofs.data_forms_lemmas.DivisionLaws as laws
use Rattle.data_parse.proofs.file_control.select_clauses.Goals as goal

pub returns-in_err-found : goal.returns-in_err-found
returns-in_err-found g c =
    let p = err_from_is_err_and c.from_residual.result c.from_residual.ensures.1 in
    rw (p.1, p.2) (ends_err begins_select_clause (laws.select_clause (g.met.S.StatusReader.lawful c.args.reader.now)) c.items.found c.in_err-found.field-0.0 c.items.cursor c.select_clause.new.cursor _ c.items-test.ensures c.in_err-found.ensures c.items.invariant)

pub items-smaller : goal.items-smaller
items-smaller g c = shrinks ((laws.select_clause (g.met.S.StatusReader.lawful c.args.reader.now)) c.items.found) _ _ _ c.in_ok-found.ensures

pub items-preserved : goal.items-preserved
items-preserved g c = goes_on begins_select_clause (laws.select_clause (g.met.S.StatusReader.lawful c.args.reader.now)) c.items.found _ c.items.cursor _ _ c.items-test.ensures c.in_ok-found.ensures c.items.invariant

pub returns : goal.returns
returns g c = is_done begins_select_clause (laws.select_clause (g.met.S.StatusReader.lawful c.args.reader.now)) c.items.found c.items.cursor _ c.items-test.ensures c.items.invariant
