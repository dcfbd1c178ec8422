use Rattle.std.proofs.lemmas.Result.{err_from_is_err_and}
use Rattle.parser_combinators.proofs.Loops.{goes_on, ends_err, is_done, shrinks}
use Rattle.parser_combinators.specs.words.Word.{is_name}
use Rattle.cobol_grammar.proofs.data_forms_lemmas.DivisionLaws as laws
use Rattle.data_parse.proofs.fd.more_names.Goals as goal

pub returns-in_err-next_name : goal.returns-in_err-next_name
returns-in_err-next_name c =
    let p = err_from_is_err_and c.from_residual.result c.from_residual.ensures.1 in
    rw (p.1, p.2) (ends_err is_name laws.next_name tt c.in_err-next_name.field-0.0 c.items.cursor c.next_name.new.cursor _ c.items-test.ensures c.in_err-next_name.ensures c.items.invariant)

pub items-smaller : goal.items-smaller
items-smaller c = shrinks (laws.next_name tt) _ _ _ c.in_ok-next_name.ensures

pub items-preserved : goal.items-preserved
items-preserved c = goes_on is_name laws.next_name tt _ c.items.cursor _ _ c.items-test.ensures c.in_ok-next_name.ensures c.items.invariant

pub returns : goal.returns
returns c = is_done is_name laws.next_name tt c.items.cursor _ c.items-test.ensures c.items.invariant
