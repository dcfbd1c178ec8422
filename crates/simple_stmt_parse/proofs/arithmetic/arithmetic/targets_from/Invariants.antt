use Rattle.std.proofs.Common.{◌≡◌, length}
use Rattle.parser_combinators.specs.Form.{loop, added}
use Rattle.cobol_grammar.specs.stmt_forms.Arithmetic as forms
use Rattle.simple_stmt_parse.proofs.arithmetic.arithmetic.targets_from.Given as goal

abbrev pub invariant-items : goal.invariant-items
invariant-items g l =
    (loop (g.P.Parts.parts l.parts).is_name (added (forms.target (g.P.Parts.parts l.parts))) l.fn.found).reads l.fn.cursor ≡ (loop (g.P.Parts.parts l.parts).is_name (added (forms.target (g.P.Parts.parts l.parts))) l.found).reads l.cursor

abbrev pub decreases-items : goal.decreases-items
decreases-items g l = length l.cursor.rest
