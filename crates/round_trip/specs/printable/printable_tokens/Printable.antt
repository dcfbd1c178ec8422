-- Tokens that can be printed, as far as a tree has what they hold: words, numbers, literals and
-- pictures.
use Rattle.std.specs.Prelude.{ℕ, ◌≡◌, ◌≤◌, nat_le, Bool, true, false, not, ◌&&◌, List, length, slice_index}
use Rattle.std.specs.List.{list_all}
use Rattle.cob_base.specs.Bytes.{space}
use Rattle.cob_base.specs.Spelling.{IsCapitalWord}
use Rattle.cobol_lex.specs.Byte.{is_digit, is_separator}
use Rattle.cobol_lex.specs.Written.{AreDigits}
use Rattle.cobol_lex.specs.declared.token.TokenKind.{TokenKind}
use Rattle.cobol_lex.specs.declared.token.TokenKind.TheVariants as kinds

-- a word in capitals that isn't digits alone
abbrev pub IsPrintableWord : List ℕ → Type 0
IsPrintableWord word = IsCapitalWord word × (list_all is_digit word ≡ false)

-- a text can be printed: it has 1 to 160 bytes, and no control characters
abbrev pub is_printable_text : List ℕ → Bool
is_printable_text text =
    nat_le 1 (length text) && nat_le (length text) 160 && list_all (nat_le space) text

-- a picture doesn't begin as what is between tokens
abbrev pub begins_well : List ℕ → Bool
begins_well picture = not (is_separator (slice_index picture 0))

-- a token that can be printed
abbrev pub IsPrintable : TokenKind → Type 0
IsPrintable (kinds.Word word) = IsPrintableWord word
IsPrintable (kinds.Digits digits) = AreDigits digits
IsPrintable (kinds.Decimal number) =
    AreDigits number.digits × (number.scale ≤ length number.digits)
IsPrintable (kinds.Literal text) = is_printable_text text ≡ true
IsPrintable (kinds.Picture picture) = begins_well picture ≡ true
IsPrintable _ = Unit {0}
