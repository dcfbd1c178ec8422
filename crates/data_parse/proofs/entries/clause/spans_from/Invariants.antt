use Rattle.std.proofs.Common.{◌≡◌, length}
use Rattle.parser_combinators.specs.Form.{loop, added}
use Rattle.parser_combinators.specs.words.Constant.{begins_literal}
use Rattle.cobol_grammar.specs.data_forms.Clause as clauses
use Rattle.data_parse.proofs.entries.clause.spans_from.Given as goal

abbrev pub invariant-items : goal.invariant-items
invariant-items l =
    (loop begins_literal (added clauses.span) l.fn.found).reads l.fn.cursor ≡ (loop begins_literal (added clauses.span) l.found).reads l.cursor

abbrev pub decreases-items : goal.decreases-items
decreases-items l = length l.cursor.rest
