use Rattle.std.proofs.Common.{◌≡◌, length}
use Rattle.parser_combinators.specs.Form.{loop}
use Rattle.cobol_grammar.specs.data_forms.Environment as environments
use Rattle.data_parse.proofs.file_control.select_clauses.Given as goal

abbrev pub invariant-items : goal.invariant-items
invariant-items g l = (environments.select_clauses (g.S.StatusReader.form l.reader)).reads l.fn.cursor ≡ (loop environments.begins_select_clause (environments.select_clause (g.S.StatusReader.form l.reader)) l.found).reads l.cursor

abbrev pub decreases-items : goal.decreases-items
decreases-items g l = length l.cursor.rest
