use Rattle.std.proofs.Common.{◌≡◌, length}
use Rattle.parser_combinators.specs.Form.{loop, added}
use Rattle.cobol_grammar.specs.data_forms.Clause as clauses
use Rattle.data_parse.proofs.entries.description.clauses_from.Given as goal

abbrev pub invariant-items : goal.invariant-items
invariant-items l =
    (loop clauses.begins_clause (added clauses.clause) l.fn.found).reads l.fn.cursor ≡ (loop clauses.begins_clause (added clauses.clause) l.found).reads l.cursor

abbrev pub decreases-items : goal.decreases-items
decreases-items l = length l.cursor.rest
