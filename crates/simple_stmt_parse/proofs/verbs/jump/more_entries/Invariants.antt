use Rattle.std.proofs.Common.{◌≡◌, length}
use Rattle.parser_combinators.specs.Form.{loop, added}
use Rattle.cobol_grammar.specs.stmt_forms.Jump as forms
use Rattle.simple_stmt_parse.proofs.verbs.jump.more_entries.Given as goal

abbrev pub invariant-items : goal.invariant-items
invariant-items g l =
    (forms.more_entries (g.P.Parts.parts l.parts) l.fn.found).reads l.fn.cursor ≡ (loop (forms.begins_procedure (g.P.Parts.parts l.parts)) (added (forms.procedure_entry (g.P.Parts.parts l.parts))) l.found).reads l.cursor

abbrev pub decreases-items : goal.decreases-items
decreases-items g l = length l.cursor.rest
