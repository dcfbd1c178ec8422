use Rattle.std.proofs.Common.{◌≡◌, length}
use Rattle.parser_combinators.specs.Form.{loop, added}
use Rattle.cobol_grammar.specs.stmt_forms.Move as forms
use Rattle.simple_stmt_parse.proofs.verbs.moving.operands_from.Given as goal

abbrev pub invariant-items : goal.invariant-items
invariant-items g l =
    (loop (g.P.Parts.parts l.parts).begins_operand (added (forms.value_operand (g.P.Parts.parts l.parts))) l.fn.found).reads l.fn.cursor ≡ (loop (g.P.Parts.parts l.parts).begins_operand (added (forms.value_operand (g.P.Parts.parts l.parts))) l.found).reads l.cursor

abbrev pub decreases-items : goal.decreases-items
decreases-items g l = length l.cursor.rest
