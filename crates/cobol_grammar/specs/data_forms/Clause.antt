-- Clauses of a data description entry (ISO 1989:1985, the data description entry). Of the usages,
-- COMP and COMPUTATIONAL are BINARY, as the standard leaves it open, and PACKED-DECIMAL, COMP-3 and
-- COMPUTATIONAL-3 are the packed form.
use Rattle.std.specs.Prelude.{Bool, true, false, ◌||◌, codes, List, Option, Some, None}
use Rattle.cob_tree.specs.declared.picture.Usage.{Usage}
use Rattle.cob_tree.specs.declared.picture.Usage.TheVariants as usages
use Rattle.cobol_lex.specs.declared.token.TokenKind.{TokenKind}
use Rattle.cobol_grammar.specs.declared.data_forms.draft.Clause.{Clause}
use Rattle.cobol_grammar.specs.declared.data_forms.draft.Clause.TheVariants as clauses
use Rattle.cobol_grammar.specs.declared.data_forms.draft.SpanDraft.{SpanDraft}
use Rattle.cobol_grammar.specs.declared.data_forms.draft.ThruDraft.{ThruDraft}
use Rattle.parser_combinators.specs.declared.note.Position.{Position}
use Rattle.parser_combinators.specs.Form.{Form, pure, ◌>>=◌, ◌>>◌, where_next, some}
use Rattle.parser_combinators.specs.Part.{key, maybe, digits, picture, is_key}
use Rattle.parser_combinators.specs.words.Word.{name}
use Rattle.parser_combinators.specs.words.Constant.{literal, begins_literal}
use Rattle.cobol_grammar.specs.data_forms.Choice.{either, is_either, maybe_either}

-- ---- REDEFINES word

-- REDEFINES word
unfoldable pub redefines_clause : Form Clause
redefines_clause = do
  at ← key (codes "REDEFINES")
  found ← name
  pure (clauses.Redefines at found.0 found.1)

-- ---- (PIC | PICTURE) [IS] picture

-- PIC or PICTURE
abbrev pub is_pic : TokenKind → Bool
is_pic kind = is_either (codes "PIC") (codes "PICTURE") kind

-- the PICTURE clause: (PIC | PICTURE) [IS] picture
unfoldable pub picture_clause : Form Clause
picture_clause = do
  at ← either (codes "PIC") (codes "PICTURE")
  maybe (codes "IS")
  found ← picture
  pure (clauses.Picture at found.0 found.1)

-- ---- [USAGE [IS]] (DISPLAY | BINARY | COMP | COMPUTATIONAL | PACKED-DECIMAL | COMP-3
-- ---- | COMPUTATIONAL-3)

-- BINARY, COMP or COMPUTATIONAL
abbrev pub is_binary : TokenKind → Bool
is_binary kind =
    is_key (codes "BINARY") kind || is_either (codes "COMP") (codes "COMPUTATIONAL") kind

-- PACKED-DECIMAL, COMP-3 or COMPUTATIONAL-3
abbrev pub is_packed : TokenKind → Bool
is_packed kind =
    is_key (codes "PACKED-DECIMAL") kind
    || is_either (codes "COMP-3") (codes "COMPUTATIONAL-3") kind

-- USAGE, or the word of a usage
abbrev pub is_usage : TokenKind → Bool
is_usage kind =
    is_either (codes "USAGE") (codes "DISPLAY") kind || (is_binary kind || is_packed kind)

-- BINARY, COMP or COMPUTATIONAL, with where it is
unfoldable pub binary : Form Position
binary =
    where_next (is_key (codes "BINARY")) (key (codes "BINARY"))
    (either (codes "COMP") (codes "COMPUTATIONAL"))

-- PACKED-DECIMAL, COMP-3 or COMPUTATIONAL-3, with where it is
unfoldable pub packed : Form Position
packed =
    where_next (is_key (codes "PACKED-DECIMAL")) (key (codes "PACKED-DECIMAL"))
    (either (codes "COMP-3") (codes "COMPUTATIONAL-3"))

-- the word of a usage: which usage it is, and where the word is
unfoldable pub usage : Form (Usage × Position)
usage =
    where_next is_binary (binary >>= (λ at. pure (usages.Binary, at)))
    (where_next is_packed (packed >>= (λ at. pure (usages.Packed, at)))
    (key (codes "DISPLAY") >>= (λ at. pure (usages.Display, at))))

-- the USAGE clause after its first word: [IS] usage
unfoldable pub usage_behind : Position → Form Clause
usage_behind at = do
  maybe (codes "IS")
  found ← usage
  pure (clauses.Usage at found.0)

-- the USAGE clause without that word: usage
unfoldable pub usage_alone : Form Clause
usage_alone = usage >>= (λ found. pure (clauses.Usage found.1 found.0))

-- the USAGE clause: [USAGE [IS]] usage
unfoldable pub usage_clause : Form Clause
usage_clause =
    where_next (is_key (codes "USAGE")) (key (codes "USAGE") >>= usage_behind) usage_alone

-- ---- [SIGN [IS]] (LEADING | TRAILING) [SEPARATE [CHARACTER]]

-- LEADING or TRAILING
abbrev pub is_side : TokenKind → Bool
is_side kind = is_either (codes "LEADING") (codes "TRAILING") kind

-- SIGN, LEADING or TRAILING
abbrev pub is_sign : TokenKind → Bool
is_sign kind = is_key (codes "SIGN") kind || is_side kind

-- LEADING or TRAILING: whether it is LEADING, and where the word is
unfoldable pub side : Form (Bool × Position)
side =
    where_next (is_key (codes "LEADING")) (key (codes "LEADING") >>= (λ at. pure (true, at)))
    (key (codes "TRAILING") >>= (λ at. pure (false, at)))

-- whether the sign is separate: [SEPARATE [CHARACTER]]
unfoldable pub separate : Form Bool
separate =
    where_next (is_key (codes "SEPARATE"))
    (key (codes "SEPARATE") >> maybe (codes "CHARACTER") >> pure true)
    (pure false)

-- the SIGN clause after its first word: [IS] (LEADING | TRAILING) [SEPARATE [CHARACTER]]
unfoldable pub sign_behind : Position → Form Clause
sign_behind at = do
  maybe (codes "IS")
  found ← side
  apart ← separate
  pure (clauses.Sign at found.0 apart)

-- the SIGN clause without that word: (LEADING | TRAILING) [SEPARATE [CHARACTER]]
unfoldable pub side_clause : Form Clause
side_clause = do
  found ← side
  apart ← separate
  pure (clauses.Sign found.1 found.0 apart)

-- the SIGN clause: [SIGN [IS]] (LEADING | TRAILING) [SEPARATE [CHARACTER]]
unfoldable pub sign_clause : Form Clause
sign_clause =
    where_next (is_key (codes "SIGN")) (key (codes "SIGN") >>= sign_behind) side_clause

-- ---- OCCURS n [TIMES]

-- the OCCURS clause: OCCURS n [TIMES]
unfoldable pub occurs_clause : Form Clause
occurs_clause = do
  at ← key (codes "OCCURS")
  found ← digits
  maybe (codes "TIMES")
  pure (clauses.Occurs at found.0 found.1)

-- ---- (VALUE | VALUES) [IS | ARE] lit [THRU lit] {lit [THRU lit]}

-- VALUE or VALUES
abbrev pub is_value : TokenKind → Bool
is_value kind = is_either (codes "VALUE") (codes "VALUES") kind

-- THRU or THROUGH
abbrev pub is_thru : TokenKind → Bool
is_thru kind = is_either (codes "THRU") (codes "THROUGH") kind

-- the end of a range of values: (THRU | THROUGH) lit
unfoldable pub thru : Form ThruDraft
thru = do
  at ← either (codes "THRU") (codes "THROUGH")
  found ← literal
  pure (record { at = at; to = found.0; to_at = found.1 })

-- the end of a range of values, if there is one: [THRU lit]
unfoldable pub maybe_thru : Form (Option ThruDraft)
maybe_thru = where_next is_thru (thru >>= (λ found. pure (Some found))) (pure None)

-- a value or a range of values: lit [THRU lit]
unfoldable pub span : Form SpanDraft
span = do
  found ← literal
  end ← maybe_thru
  pure (record { from = found.0; from_at = found.1; thru = end })

-- values and ranges of values, one at least: lit [THRU lit] {lit [THRU lit]}
unfoldable pub spans : Form (List SpanDraft)
spans = some begins_literal span

-- the VALUE clause: (VALUE | VALUES) [IS | ARE] lit [THRU lit] {lit [THRU lit]}
unfoldable pub value_clause : Form Clause
value_clause = do
  at ← either (codes "VALUE") (codes "VALUES")
  maybe_either (codes "IS") (codes "ARE")
  found ← spans
  pure (clauses.Value at found)

-- ---- a clause

-- a word with which a clause begins
unfoldable pub begins_clause : TokenKind → Bool
begins_clause kind =
    is_key (codes "REDEFINES") kind
    || (is_pic kind || (is_usage kind || (is_sign kind
    || (is_key (codes "OCCURS") kind || is_value kind))))

-- OCCURS or VALUE
unfoldable pub counted_clause : Form Clause
counted_clause = where_next (is_key (codes "OCCURS")) occurs_clause value_clause

-- USAGE, SIGN, OCCURS or VALUE
unfoldable pub stored_clause : Form Clause
stored_clause = where_next is_usage usage_clause (where_next is_sign sign_clause counted_clause)

-- a clause of an entry
unfoldable pub clause : Form Clause
clause =
    where_next (is_key (codes "REDEFINES")) redefines_clause
    (where_next is_pic picture_clause stored_clause)
