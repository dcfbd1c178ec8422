-- Which tokens begin relation signs and tests, and which join conditions.
use Rattle.std.specs.Prelude.{ℕ, Bool, true, false, ◌||◌, ◌==◌, codes, List, Option, Some, None, if◌then◌else◌}
use Rattle.std.specs.Option.{is_some}
use Rattle.std.specs.Str.{bytes_eq}
use Rattle.cob_base.specs.Bytes.{equal_sign, greater_sign, less_sign}
use Rattle.cob_tree.specs.declared.cond.ClassKind.{ClassKind}
use Rattle.cob_tree.specs.declared.cond.ClassKind.TheVariants as classes
use Rattle.cob_tree.specs.declared.cond.Rel.{Rel}
use Rattle.cob_tree.specs.declared.cond.Rel.TheVariants as rels
use Rattle.cob_tree.specs.declared.cond.SignKind.{SignKind}
use Rattle.cob_tree.specs.declared.cond.SignKind.TheVariants as signs
use Rattle.cobol_lex.specs.declared.token.TokenKind.{TokenKind}
use Rattle.cobol_lex.specs.declared.token.TokenKind.TheVariants as kinds
use Rattle.parser_combinators.specs.Part.{is_key}

-- ---- relation signs

-- the relation of a sign of one byte
abbrev pub rel_of_byte : ℕ → Option Rel
rel_of_byte byte =
    if byte == equal_sign then Some rels.Equal
    else if byte == greater_sign then Some rels.Greater
    else if byte == less_sign then Some rels.Less
    else None

-- the relation sign that a token is, unless it is a word
abbrev pub rel_of : TokenKind → Option Rel
rel_of (kinds.Mark b) = rel_of_byte b
rel_of kinds.LessEqual = Some rels.LessEqual
rel_of kinds.GreaterEqual = Some rels.GreaterEqual
rel_of _ = None

-- one of the signs = > and <
abbrev pub is_rel_byte : TokenKind → Bool
is_rel_byte (kinds.Mark b) = is_some (rel_of_byte b)
is_rel_byte _ = false

-- EQUAL, GREATER or LESS
abbrev pub is_rel_word : TokenKind → Bool
is_rel_word kind =
    is_key (codes "EQUAL") kind || (is_key (codes "GREATER") kind || is_key (codes "LESS") kind)

-- a token with which a relation sign begins that NOT may come before
unfoldable pub begins_plain_rel : TokenKind → Bool
begins_plain_rel kind = is_rel_byte kind || is_rel_word kind

-- any relation sign
unfoldable pub begins_rel : TokenKind → Bool
begins_rel kind = is_some (rel_of kind) || is_rel_word kind

-- a token with which a relation sign begins; after NOT only some may come
unfoldable pub begins_rel_behind : Bool → TokenKind → Bool
begins_rel_behind true kind = begins_plain_rel kind
begins_rel_behind false kind = begins_rel kind

-- ---- words of tests

-- the sign that a word tests
abbrev pub sign_of_word : List ℕ → Option SignKind
sign_of_word word =
    if bytes_eq word (codes "POSITIVE") then Some signs.Positive
    else if bytes_eq word (codes "NEGATIVE") then Some signs.Negative
    else if bytes_eq word (codes "ZERO") then Some signs.Zero
    else None

-- the sign that a token tests
abbrev pub sign_of : TokenKind → Option SignKind
sign_of (kinds.Word word) = sign_of_word word
sign_of _ = None

-- POSITIVE, NEGATIVE or ZERO
unfoldable pub begins_sign : TokenKind → Bool
begins_sign kind = is_some (sign_of kind)

-- the class that a word tests
abbrev pub class_of_word : List ℕ → Option ClassKind
class_of_word word =
    if bytes_eq word (codes "NUMERIC") then Some classes.Numeric
    else if bytes_eq word (codes "ALPHABETIC") then Some classes.Alphabetic
    else None

-- the class that a token tests
abbrev pub class_of : TokenKind → Option ClassKind
class_of (kinds.Word word) = class_of_word word
class_of _ = None

-- NUMERIC or ALPHABETIC
unfoldable pub begins_class : TokenKind → Bool
begins_class kind = is_some (class_of kind)

-- ---- AND and OR

-- AND or OR
unfoldable pub joins : TokenKind → Bool
joins kind = is_key (codes "AND") kind || is_key (codes "OR") kind
