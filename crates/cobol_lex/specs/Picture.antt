-- Pictures.
use Rattle.std.specs.Prelude.{ℕ, ◌-◌, Bool, ◌||◌, ◌==◌, not, List, [], ◌∷◌, length, take, slice_index, Result, Ok, Err, if◌then◌else◌}
use Rattle.std.specs.List.{take_while}
use Rattle.cob_base.specs.Bytes.{period, comma, semicolon}
use Rattle.cobol_lex.specs.Byte.{is_white}
use Rattle.cobol_lex.specs.declared.token.TokenKind.TheVariants as kind
use Rattle.cobol_lex.specs.declared.lexeme.Lexeme.{Lexeme}
use Rattle.cobol_lex.specs.declared.fault.LexError.{LexError}
use Rattle.cobol_lex.specs.declared.fault.LexFault.TheVariants as fault
use Rattle.cobol_lex.specs.declared.fault.LexError.TheVariants as error

-- `.`, `,` or `;`
abbrev pub ends_picture : ℕ → Bool
ends_picture b = b == period || b == comma || b == semicolon

-- the list less its last byte, where that is one of these
abbrev pub less_last : (ℕ → Bool) → List ℕ → List ℕ
less_last kind run =
    if kind (slice_index run (length run - 1)) then take (length run - 1) run else run

-- the bytes up to a space or the end of the line
abbrev pub filled_run : List ℕ → List ℕ
filled_run bytes = take_while (λ b. not (is_white b)) bytes

-- the bytes of a picture: the run that begins here, less one last `.`, `,` or `;`
abbrev pub picture_run : List ℕ → List ℕ
picture_run bytes = less_last ends_picture (filled_run bytes)

-- the picture of these bytes; none is a fault
abbrev pub picture_lexeme : (line : ℕ) → List ℕ → Result Lexeme LexError
picture_lexeme line [] = Err (error.Fault (fault.BadWord line))
picture_lexeme line (b ∷ rest) =
    Ok (record { kind = kind.Picture (b ∷ rest); length = length (b ∷ rest) })
