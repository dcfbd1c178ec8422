use Rattle.std.specs.Prelude.{codes}
use Rattle.parser_combinators.specs.Part.{is_key}
use Rattle.std.proofs.Common.{◌≡◌, length}
use Rattle.parser_combinators.specs.Form.{loop, added}
use Rattle.cobol_grammar.specs.stmt_forms.Choice as forms
use Rattle.stmt_head_parse.proofs.heads.choice.more_tests.Given as goal

abbrev pub invariant-items : goal.invariant-items
invariant-items g l =
    (forms.more_tests (g.P.Parts.parts l.parts) l.fn.known l.fn.found).reads l.fn.cursor ≡ (loop (is_key (codes "WHEN")) (added (forms.next_test (g.P.Parts.parts l.parts) l.known)) l.found).reads l.cursor

abbrev pub decreases-items : goal.decreases-items
decreases-items g l = length l.cursor.rest
