use Rattle.std.proofs.lemmas.Result.{err_from_is_err_and}
use Rattle.parser_combinators.proofs.Loops.{goes_on, ends_err, is_done, shrinks}
use Rattle.cobol_grammar.specs.data_forms.Data.{begins_fd_clause}
use Rattle.cobol_grammar.proofs.data_forms_lemmas.DivisionLaws as laws
use Rattle.data_parse.proofs.fd.fd_clauses.Goals as goal

pub returns-in_err-fd_clause : goal.returns-in_err-fd_clause
returns-in_err-fd_clause c =
    let p = err_from_is_err_and c.from_residual.result c.from_residual.ensures.1 in
    rw (p.1, p.2) (ends_err begins_fd_clause laws.fd_clause tt c.in_err-fd_clause.field-0.0 c.items.cursor c.fd_clause.new.cursor _ c.items-test.ensures c.in_err-fd_clause.ensures c.items.invariant)

pub items-smaller : goal.items-smaller
items-smaller c = shrinks (laws.fd_clause tt) _ _ _ c.in_ok-fd_clause.ensures

pub items-preserved : goal.items-preserved
items-preserved c = goes_on begins_fd_clause laws.fd_clause tt _ c.items.cursor _ _ c.items-test.ensures c.in_ok-fd_clause.ensures c.items.invariant

pub returns : goal.returns
returns c = is_done begins_fd_clause laws.fd_clause tt c.items.cursor _ c.items-test.ensures c.items.invariant
