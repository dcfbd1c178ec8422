use Rattle.cobol_grammar.specs.stmt_forms.Jump as jump
use Rattle.std.proofs.Common.{◌≡◌, length}
use Rattle.parser_combinators.specs.Form.{loop}
use Rattle.cobol_grammar.specs.stmt_forms.Paragraph as forms
use Rattle.procedure_parse.proofs.paragraph.headed_from.Given as goal

abbrev pub invariant-headers : goal.invariant-headers
invariant-headers g l =
    (forms.headed_from (g.P.Parts.parts l.parts) l.fn.state).reads l.fn.cursor ≡ (loop (jump.begins_procedure (g.P.Parts.parts l.parts)) (forms.headed (g.P.Parts.parts l.parts)) l.state).reads l.cursor

abbrev pub decreases-headers : goal.decreases-headers
decreases-headers g l = length l.cursor.rest
