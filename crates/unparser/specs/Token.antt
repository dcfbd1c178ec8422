-- Single tokens, as the parts of a program are printed with.
use Rattle.std.specs.Prelude.{ℕ, ◌-◌, [], ◌∷◌, ◌++◌, ◌&&◌, ◌||◌, ◌==◌, not, Bool, nat_le, List, length, slice_index, if◌then◌else◌}
use Rattle.std.specs.List.{list_all}
use Rattle.cob_base.specs.Bytes.{hyphen, left_parenthesis, right_parenthesis, capital_a, capital_z}
use Rattle.cob_tree.specs.declared.number.Number.{Number}
use Rattle.cobol_lex.specs.Byte.{is_digit}
use Rattle.cobol_lex.specs.declared.token.TokenKind.{TokenKind}
use Rattle.cobol_lex.specs.declared.token.TokenKind.TheVariants as kind

-- the byte is a capital letter
abbrev pub is_capital : ℕ → Bool
is_capital b = nat_le capital_a b && nat_le b capital_z

-- the byte is a capital letter or a hyphen
abbrev pub is_reserved_byte : ℕ → Bool
is_reserved_byte b = is_capital b || b == hyphen

-- one to thirty capitals and hyphens, without a hyphen first or last, as reserved words are
abbrev pub is_reserved_shape : List ℕ → Bool
is_reserved_shape text =
    nat_le 1 (length text) && (nat_le (length text) 30
    && (is_capital (slice_index text 0) && (is_capital (slice_index text (length text - 1))
    && list_all is_reserved_byte text)))

-- the name of a paragraph or a section, which may be digits
abbrev pub procedure_token : List ℕ → TokenKind
procedure_token name = if list_all is_digit name then kind.Digits name else kind.Word name

-- a number as a token, with the digits that it was written with
abbrev pub number_token : Number → TokenKind
number_token number =
    if not number.negative && number.scale == 0 then kind.Digits number.digits
    else kind.Decimal number

-- tokens as they are printed, without their lines
abbrev pub Tokens : Type 0
Tokens = List TokenKind

-- one after the other
abbrev pub joined : List Tokens → Tokens
joined [] = []
joined (part ∷ parts) = part ++ joined parts

-- a parenthesis where one is asked for
abbrev pub opened_by : (asked : Bool) → Tokens
opened_by asked = if asked then kind.Mark left_parenthesis ∷ [] else []

-- the end of a parenthesis where one is asked for
abbrev pub closed_by : (asked : Bool) → Tokens
closed_by asked = if asked then kind.Mark right_parenthesis ∷ [] else []

-- these tokens in parentheses
abbrev pub in_parentheses : Tokens → Tokens
in_parentheses tokens = kind.Mark left_parenthesis ∷ tokens ++ kind.Mark right_parenthesis ∷ []

-- the tokens in parentheses where they are within another part
abbrev pub enclosed : (within : Bool) → Tokens → Tokens
enclosed within tokens = opened_by within ++ tokens ++ closed_by within
