use Rattle.std.proofs.lemmas.Result.{err_from_is_err_and}
use Rattle.cobol_grammar.specs.stmt_forms.File as forms
use Rattle.cobol_grammar.proofs.stmt_forms_lemmas.SimpleLaws as laws
use Rattle.parser_combinators.proofs.Loops.{goes_on, ends_err, is_done, shrinks}
use Rattle.simple_stmt_parse.proofs.verbs.file.open_groups.Goals as goal

pub returns-in_err-found : goal.returns-in_err-found
returns-in_err-found g c =
    let p = err_from_is_err_and c.from_residual.result c.from_residual.ensures.1 in
    rw (p.1, p.2) (ends_err (forms.begins_opening) (laws.open_group (g.met.P.Parts.lawful c.args.parts.now)) c.groups.found c.in_err-found.field-0.0 c.groups.cursor c.open_group.new.cursor _ c.groups-test.ensures c.in_err-found.ensures c.groups.invariant)

pub groups-smaller : goal.groups-smaller
groups-smaller g c = shrinks ((laws.open_group (g.met.P.Parts.lawful c.args.parts.now)) c.groups.found) _ _ _ c.in_ok-found.ensures

pub groups-preserved : goal.groups-preserved
groups-preserved g c = goes_on (forms.begins_opening) (laws.open_group (g.met.P.Parts.lawful c.args.parts.now)) c.groups.found _ c.groups.cursor _ _ c.groups-test.ensures c.in_ok-found.ensures c.groups.invariant

pub returns : goal.returns
returns g c = is_done (forms.begins_opening) (laws.open_group (g.met.P.Parts.lawful c.args.parts.now)) c.groups.found c.groups.cursor _ c.groups-test.ensures c.groups.invariant
