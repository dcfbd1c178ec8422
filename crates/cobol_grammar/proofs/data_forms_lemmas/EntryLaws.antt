-- Clauses and entries are lawful.
use Rattle.std.proofs.Common.{ℕ, true, false, List}
use Rattle.std.specs.Prelude.{codes}
use Rattle.parser_combinators.proofs.MakerLaws.{Law, pure, key, maybe, period, digits, picture, where_next, many, some, loose, ◌>>=◌, ◌>>◌}
use Rattle.parser_combinators.proofs.words_lemmas.WordLaws.{name, literal}
use Rattle.cobol_grammar.specs.data_forms.Choice as choices
use Rattle.cobol_grammar.specs.data_forms.Clause as clauses
use Rattle.cobol_grammar.specs.data_forms.Entry as entries

-- ---- words that may be one or another

pub either : (one other : List ℕ) → Law true (choices.either one other)
unfolding choices.either
either one other = where_next (key one) (key other)

pub maybe_either : (one other : List ℕ) → Law false (choices.maybe_either one other)
unfolding choices.maybe_either
maybe_either one other = where_next (loose (key one >> pure)) (maybe other)

pub headed : (word : List ℕ) → Law true (choices.headed word)
unfolding choices.headed
headed word = key word >> period >> pure

pub header : (name kind : List ℕ) → Law true (choices.header name kind)
unfolding choices.header
header name kind = key name >> headed kind

-- ---- clauses

redefines_clause : Law true clauses.redefines_clause
unfolding clauses.redefines_clause
redefines_clause = do
  at ← key (codes "REDEFINES")
  found ← name
  pure

picture_clause : Law true clauses.picture_clause
unfolding clauses.picture_clause
picture_clause = do
  at ← either (codes "PIC") (codes "PICTURE")
  maybe (codes "IS")
  found ← picture
  pure

pub binary : Law true clauses.binary
unfolding clauses.binary
binary = where_next (key (codes "BINARY")) (either (codes "COMP") (codes "COMPUTATIONAL"))

pub packed : Law true clauses.packed
unfolding clauses.packed
packed = where_next (key (codes "PACKED-DECIMAL")) (either (codes "COMP-3") (codes "COMPUTATIONAL-3"))

pub usage : Law true clauses.usage
unfolding clauses.usage
usage =
    where_next (binary >>= (λ at. pure))
    (where_next (packed >>= (λ at. pure)) (key (codes "DISPLAY") >>= (λ at. pure)))

usage_clause : Law true clauses.usage_clause
unfolding clauses.usage_clause clauses.usage_behind clauses.usage_alone
usage_clause =
    where_next (key (codes "USAGE") >>= (λ at. maybe (codes "IS") >> (usage >>= (λ found. pure))))
    (usage >>= (λ found. pure))

pub side : Law true clauses.side
unfolding clauses.side
side = where_next (key (codes "LEADING") >>= (λ at. pure)) (key (codes "TRAILING") >>= (λ at. pure))

pub separate : Law false clauses.separate
unfolding clauses.separate
separate = where_next (loose (key (codes "SEPARATE") >> maybe (codes "CHARACTER") >> pure)) pure

sign_clause : Law true clauses.sign_clause
unfolding clauses.sign_clause clauses.sign_behind clauses.side_clause
sign_clause =
    where_next (key (codes "SIGN") >>= (λ at. maybe (codes "IS") >> (side >>= (λ found. separate >>= (λ apart. pure)))))
    (side >>= (λ found. separate >>= (λ apart. pure)))

occurs_clause : Law true clauses.occurs_clause
unfolding clauses.occurs_clause
occurs_clause = do
  at ← key (codes "OCCURS")
  found ← digits
  maybe (codes "TIMES")
  pure

pub maybe_thru : Law false clauses.maybe_thru
unfolding clauses.maybe_thru clauses.thru
maybe_thru = where_next (loose (either (codes "THRU") (codes "THROUGH") >>= (λ at. literal >>= (λ found. pure)) >>= (λ found. pure))) pure

pub span : Law true clauses.span
unfolding clauses.span
span = literal >>= (λ found. maybe_thru >>= (λ end. pure))

pub spans : Law true clauses.spans
unfolding clauses.spans
spans = some span

value_clause : Law true clauses.value_clause
unfolding clauses.value_clause
value_clause = do
  at ← either (codes "VALUE") (codes "VALUES")
  maybe_either (codes "IS") (codes "ARE")
  found ← spans
  pure

pub clause : Law true clauses.clause
unfolding clauses.clause clauses.stored_clause clauses.counted_clause
clause =
    where_next redefines_clause
    (where_next picture_clause
    (where_next usage_clause
    (where_next sign_clause (where_next occurs_clause value_clause))))

-- ---- entries

entry_name : Law false entries.entry_name
unfolding entries.entry_name
entry_name =
    where_next (loose (key (codes "FILLER") >> pure))
    (where_next (loose (name >>= (λ found. pure))) pure)

pub entry_clauses : Law false entries.entry_clauses
unfolding entries.entry_clauses
entry_clauses = many clause

pub entry : Law true entries.entry
unfolding entries.entry
entry = do
  level ← digits
  name ← entry_name
  clauses ← entry_clauses
  period
  pure
