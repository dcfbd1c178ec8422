use Rattle.std.proofs.Common.{◌≡◌, length}
use Rattle.parser_combinators.specs.Form.{loop, added}
use Rattle.std.specs.Prelude.{codes}
use Rattle.parser_combinators.specs.Part.{is_key}
use Rattle.cobol_grammar.specs.data_forms.Environment as environments
use Rattle.data_parse.proofs.file_control.selects_from.Given as goal

abbrev pub invariant-items : goal.invariant-items
invariant-items g l =
    (loop (is_key (codes "SELECT")) (added (environments.select (g.S.StatusReader.form l.reader))) l.fn.found).reads l.fn.cursor ≡ (loop (is_key (codes "SELECT")) (added (environments.select (g.S.StatusReader.form l.reader))) l.found).reads l.cursor

abbrev pub decreases-items : goal.decreases-items
decreases-items g l = length l.cursor.rest
