use Rattle.std.proofs.Common.{◌≡◌, length}
use Rattle.parser_combinators.specs.Form.{loop, added}
use Rattle.parser_combinators.specs.words.Constant.{is_digits}
use Rattle.cobol_grammar.specs.data_forms.Entry as entry_forms
use Rattle.data_parse.proofs.fd.entries_from.Given as goal

abbrev pub invariant-items : goal.invariant-items
invariant-items l =
    (loop is_digits (added entry_forms.entry) l.fn.found).reads l.fn.cursor ≡ (loop is_digits (added entry_forms.entry) l.found).reads l.cursor

abbrev pub decreases-items : goal.decreases-items
decreases-items l = length l.cursor.rest
