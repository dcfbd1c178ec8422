use Rattle.cobol_grammar.specs.stmt_forms.Verb.{begins_stmt}
use Rattle.std.proofs.Common.{◌≡◌, length}
use Rattle.parser_combinators.specs.Form.{loop, added}
use Rattle.cobol_grammar.specs.stmt_forms.Paragraph as forms
use Rattle.procedure_parse.proofs.paragraph.sentences_from.Given as goal

abbrev pub invariant-items : goal.invariant-items
invariant-items g l =
    (forms.sentences_from (g.P.Parts.parts l.parts) l.fn.scope l.fn.found).reads l.fn.cursor ≡ (loop begins_stmt (added (forms.sentence (g.P.Parts.parts l.parts) l.scope)) l.found).reads l.cursor

abbrev pub decreases-items : goal.decreases-items
decreases-items g l = length l.cursor.rest
