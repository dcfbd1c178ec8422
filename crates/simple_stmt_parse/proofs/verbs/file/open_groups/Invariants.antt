use Rattle.std.proofs.Common.{◌≡◌, length}
use Rattle.parser_combinators.specs.Form.{loop}
use Rattle.cobol_grammar.specs.stmt_forms.File as forms
use Rattle.simple_stmt_parse.proofs.verbs.file.open_groups.Given as goal

abbrev pub invariant-groups : goal.invariant-groups
invariant-groups g l =
    (forms.open_groups (g.P.Parts.parts l.parts) l.fn.found).reads l.fn.cursor ≡ (loop forms.begins_opening (forms.open_group (g.P.Parts.parts l.parts)) l.found).reads l.cursor

abbrev pub decreases-groups : goal.decreases-groups
decreases-groups g l = length l.cursor.rest
