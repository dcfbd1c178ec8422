use Rattle.std.proofs.lemmas.Result.{err_from_is_err_and}
use Rattle.cobol_grammar.proofs.stmt_forms_lemmas.SimpleLaws as laws
use Rattle.parser_combinators.proofs.Loops.{item_goes_on, item_ends_err, item_is_done, shrinks}
use Rattle.simple_stmt_parse.proofs.verbs.file.file_names.Goals as goal

pub returns-in_err-file_name-2 : goal.returns-in_err-file_name-2
returns-in_err-file_name-2 g c =
    let p = err_from_is_err_and c.from_residual-in_err-file_name-2.result c.from_residual-in_err-file_name-2.ensures.1 in
    rw (p.1, p.2) (item_ends_err ((g.P.Parts.parts c.args.parts.now).is_name) (laws.file_name (g.met.P.Parts.lawful c.args.parts.now)) c.items.found c.in_err-file_name-2.field-0.0 c.items.cursor c.file_name-in-items.new.cursor _ c.items-test.ensures c.in_err-file_name-2.ensures c.items.invariant)

pub items-smaller : goal.items-smaller
items-smaller g c = shrinks (laws.file_name (g.met.P.Parts.lawful c.args.parts.now)) _ _ _ c.in_ok-file_name-2.ensures

pub items-preserved : goal.items-preserved
items-preserved g c =
    rw c.in_ok-push-2.ensures.ok (item_goes_on ((g.P.Parts.parts c.args.parts.now).is_name) (laws.file_name (g.met.P.Parts.lawful c.args.parts.now)) c.items.found _ c.items.cursor _ _ c.items-test.ensures c.in_ok-file_name-2.ensures c.items.invariant)

pub returns : goal.returns
returns g c = item_is_done ((g.P.Parts.parts c.args.parts.now).is_name) (laws.file_name (g.met.P.Parts.lawful c.args.parts.now)) c.items.found c.items.cursor _ c.items-test.ensures c.items.invariant
