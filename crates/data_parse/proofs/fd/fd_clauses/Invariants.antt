use Rattle.std.proofs.Common.{◌≡◌, length}
use Rattle.parser_combinators.specs.Form.{loop}
use Rattle.cobol_grammar.specs.data_forms.Data as datas
use Rattle.data_parse.proofs.fd.fd_clauses.Given as goal

abbrev pub invariant-items : goal.invariant-items
invariant-items l = (datas.fd_clauses tt).reads l.fn.cursor ≡ (loop datas.begins_fd_clause datas.fd_clause tt).reads l.cursor

abbrev pub decreases-items : goal.decreases-items
decreases-items l = length l.cursor.rest
