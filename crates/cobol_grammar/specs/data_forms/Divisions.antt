-- All that comes before the PROCEDURE DIVISION.
use Rattle.std.specs.Prelude.{ℕ, codes, List}
use Rattle.cob_tree.specs.declared.place.Place.{Place}
use Rattle.cobol_grammar.specs.declared.data_forms.draft.Divisions.{Divisions}
use Rattle.parser_combinators.specs.Form.{Form, pure, ◌>>=◌, ◌>>◌}
use Rattle.parser_combinators.specs.Part.{period}
use Rattle.parser_combinators.specs.words.Word.{name}
use Rattle.cobol_grammar.specs.data_forms.Choice.{either, headed}
use Rattle.cobol_grammar.specs.data_forms.Environment.{environment}
use Rattle.cobol_grammar.specs.data_forms.Data.{data_part}

-- (IDENTIFICATION | ID) DIVISION . PROGRAM-ID . word .
unfoldable pub identification : Form (List ℕ)
identification = do
  either (codes "IDENTIFICATION") (codes "ID")
  headed (codes "DIVISION")
  headed (codes "PROGRAM-ID")
  found ← name
  period
  pure found.0

-- the IDENTIFICATION, ENVIRONMENT and DATA DIVISION
unfoldable pub divisions : Form Place → Form Divisions
divisions status = do
  name ← identification
  selects ← environment status
  found ← data_part
  pure (record { name = name; selects = selects; data_part = found })
