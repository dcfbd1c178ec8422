-- sub = [+] Digits | name {(OF | IN) name} [(+ | -) Digits]
use Rattle.std.specs.Prelude.{ℕ, Bool, true, false, ◌||◌, List, [], None}
use Rattle.cob_tree.specs.declared.place.Place.{Place}
use Rattle.cob_tree.specs.declared.place.Sub.{Sub}
use Rattle.cobol_grammar.specs.expr_forms.Fault.{whole_fault_at, found_fault, kind_of}
use Rattle.cobol_grammar.specs.expr_forms.Side.{place_of}
use Rattle.cobol_grammar.specs.expr_forms.Either.{number_sub, item_sub, bare_sub}
use Rattle.parser_combinators.specs.words.Word.{is_name, name}
use Rattle.parser_combinators.specs.words.Constant.{is_digits}
use Rattle.cob_base.specs.Bytes.{plus_sign, hyphen}
use Rattle.cobol_lex.specs.declared.token.TokenKind.{TokenKind}
use Rattle.parser_combinators.specs.Form.{Form, pure, note, ◌>>=◌, ◌>>◌, loop, where_next, added}
use Rattle.parser_combinators.specs.Part.{mark, digits, is_mark}
use Rattle.symbol_tables.specs.data_names.Names.{Names}
use Rattle.symbol_tables.specs.data_names.Look.{look}
use Rattle.cobol_grammar.specs.expr_forms.Reference.{qualifiers}

-- a token with which a subscript begins
abbrev pub begins_sub : TokenKind → Bool
begins_sub kind = is_mark plus_sign kind || (is_digits kind || is_name kind)

-- a subscript that is a number after a plus sign
unfoldable pub plus_sub_form : Form Sub
plus_sub_form = do
  mark plus_sign
  found ← digits
  pure (number_sub found.0)

-- a subscript that is a number
unfoldable pub number_sub_form : Form Sub
number_sub_form = digits >>= (λ found. pure (number_sub found.0))

-- the sign and the digits after an item
unfoldable pub item_sub_by : ℕ → Bool → Place → Form Sub
item_sub_by byte negative place = do
  mark byte
  found ← digits
  pure (item_sub place negative found.0)

-- what is added to the item of a subscript: [(+ | -) Digits]
unfoldable pub item_sub_behind : Place → Form Sub
item_sub_behind place =
    where_next (is_mark plus_sign) (item_sub_by plus_sign false place)
    (where_next (is_mark hyphen) (item_sub_by hyphen true place)
    (pure (bare_sub place)))

-- a subscript that is an item: name {(OF | IN) name} [(+ | -) Digits]
unfoldable pub item_sub_form : Names → Form Sub
item_sub_form names = do
  first ← name
  of ← qualifiers
  note (found_fault (look names first.0 of) 0 false first.1)
  note (whole_fault_at first.1 (kind_of (look names first.0 of)))
  item_sub_behind (place_of (look names first.0 of) of [] None)

-- [+] Digits | name {(OF | IN) name} [(+ | -) Digits]
unfoldable pub sub : Names → Form Sub
sub names =
    where_next (is_mark plus_sign) plus_sub_form
    (where_next is_digits number_sub_form (item_sub_form names))

-- any number of subscripts, after those before
abbrev pub more_subs : Names → List Sub → Form (List Sub)
more_subs names first = loop begins_sub (added (sub names)) first
