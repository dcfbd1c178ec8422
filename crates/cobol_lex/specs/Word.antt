-- Words.
use Rattle.std.specs.Prelude.{ℕ, ◌-◌, Bool, ◌&&◌, ◌==◌, not, nat_le, nat_lt, List, length, slice_index, Result, Ok, Err, if◌then◌else◌}
use Rattle.std.specs.List.{take_while, list_all}
use Rattle.std.specs.Str.{bytes_eq}
use Rattle.cob_base.specs.Bytes.{hyphen}
use Rattle.cob_base.specs.Spelling.{word_byte, folded}
use Rattle.cobol_lex.specs.declared.token.TokenKind.{TokenKind}
use Rattle.cobol_lex.specs.declared.token.TokenKind.TheVariants as kind
use Rattle.cobol_lex.specs.declared.fault.LexError.{LexError}
use Rattle.cobol_lex.specs.declared.fault.LexFault.TheVariants as fault
use Rattle.cobol_lex.specs.declared.fault.LexError.TheVariants as error

-- the letters, digits and hyphens at the front
abbrev pub word_run : List ℕ → List ℕ
word_run bytes = take_while word_byte bytes

-- one to thirty letters, digits and hyphens, without a hyphen first or last
abbrev pub fits_word : List ℕ → Bool
fits_word run =
    nat_lt 0 (length run) && nat_le (length run) 30 && list_all word_byte run
    && not (slice_index run 0 == hyphen) && not (slice_index run (length run - 1) == hyphen)

-- the token of a run that is no number
abbrev pub word_kind : (line : ℕ) → List ℕ → Result TokenKind LexError
word_kind line run =
    if fits_word run then Ok (kind.Word (folded run)) else Err (error.Fault (fault.BadWord line))

-- the run is this word, in either case
abbrev pub spells : (word run : List ℕ) → Bool
spells word run = bytes_eq (folded run) word
