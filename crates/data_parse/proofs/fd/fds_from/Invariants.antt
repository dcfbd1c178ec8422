use Rattle.std.proofs.Common.{◌≡◌, length}
use Rattle.parser_combinators.specs.Form.{loop, added}
use Rattle.std.specs.Prelude.{codes}
use Rattle.parser_combinators.specs.Part.{is_key}
use Rattle.cobol_grammar.specs.data_forms.Data as datas
use Rattle.data_parse.proofs.fd.fds_from.Given as goal

abbrev pub invariant-items : goal.invariant-items
invariant-items l =
    (loop (is_key (codes "FD")) (added datas.fd) l.fn.found).reads l.fn.cursor ≡ (loop (is_key (codes "FD")) (added datas.fd) l.found).reads l.cursor

abbrev pub decreases-items : goal.decreases-items
decreases-items l = length l.cursor.rest
