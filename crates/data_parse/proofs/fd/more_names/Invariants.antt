use Rattle.std.proofs.Common.{◌≡◌, length}
use Rattle.parser_combinators.specs.Form.{loop}
use Rattle.parser_combinators.specs.words.Word.{is_name}
use Rattle.cobol_grammar.specs.data_forms.Data as datas
use Rattle.data_parse.proofs.fd.more_names.Given as goal

abbrev pub invariant-items : goal.invariant-items
invariant-items l = (datas.more_names tt).reads l.fn.cursor ≡ (loop is_name datas.next_name tt).reads l.cursor

abbrev pub decreases-items : goal.decreases-items
decreases-items l = length l.cursor.rest
