-- Data description entries (ISO 1989:1985, the data description entry).
use Rattle.std.specs.Prelude.{ℕ, codes, List, Option, Some, None}
use Rattle.cobol_grammar.specs.declared.data_forms.draft.Clause.{Clause}
use Rattle.cobol_grammar.specs.declared.data_forms.draft.EntryDraft.{EntryDraft}
use Rattle.parser_combinators.specs.Form.{Form, pure, ◌>>=◌, ◌>>◌, where_next, many}
use Rattle.parser_combinators.specs.Part.{key, digits, period, is_key}
use Rattle.parser_combinators.specs.words.Word.{name, is_name}
use Rattle.cobol_grammar.specs.data_forms.Clause.{clause, begins_clause}

-- [word | FILLER]
unfoldable pub entry_name : Form (Option (List ℕ))
entry_name =
    where_next (is_key (codes "FILLER")) (key (codes "FILLER") >> pure None)
    (where_next is_name (name >>= (λ found. pure (Some found.0))) (pure None))

-- any number of clauses of an entry: {clause}
unfoldable pub entry_clauses : Form (List Clause)
entry_clauses = many begins_clause clause

-- level [word | FILLER] {clause} .
unfoldable pub entry : Form EntryDraft
entry = do
  level ← digits
  name ← entry_name
  clauses ← entry_clauses
  period
  pure (record { at = level.1; level = level.0; name = name; clauses = clauses })
