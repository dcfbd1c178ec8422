-- The form of a whole program is lawful.
use Rattle.std.proofs.Common.{true}
use Rattle.std.specs.Prelude.{codes}
use Rattle.parser_combinators.proofs.MakerLaws.{Law, pure, key, period, ◌>>=◌, ◌>>◌}
use Rattle.cobol_grammar.proofs.data_forms_lemmas.DivisionLaws.{divisions}
use Rattle.cobol_grammar.proofs.stmt_forms_lemmas.ParagraphLaws.{division}
use Rattle.cobol_grammar.proofs.PartLaws.{parts}
use Rattle.cobol_read.specs.declared.program.Declarations.{Declarations}
use Rattle.cobol_read.specs.Program as forms
use Rattle.cobol_read.specs.StatusLaws.{status}

header : Law true forms.header
unfolding forms.header
header = key (codes "PROCEDURE") >> (key (codes "DIVISION") >> (period >> pure))

procedure_division : (known : Declarations) → Law true (forms.procedure_division known)
unfolding forms.procedure_division
procedure_division known = header >> division (parts known.names known.entries known.procedures)

pub program : (known : Declarations) → Law true (forms.program known)
unfolding forms.program
program known = do
  before ← divisions (status known.names known.entries)
  found ← procedure_division known
  pure
