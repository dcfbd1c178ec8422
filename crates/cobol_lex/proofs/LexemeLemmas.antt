-- The token that begins a text, case by case.
use Rattle.std.proofs.Common.{ℕ, ◌≡◌, ◌<◌, ◌-◌, true, false, List, [], ◌∷◌, take, drop, length, get_or, ap, arith, refl}
use Rattle.std.proofs.lemmas.Grind.{common_steps}
use Rattle.std.specs.Prelude.{Result, Ok, Err}
use Rattle.cob_base.specs.Answers.{Answers}
use Rattle.cobol_lex.specs.Byte.{is_quote, is_letter}
use Rattle.cobol_lex.specs.Number.{begins_number, number_run, number_kind}
use Rattle.cobol_lex.specs.Lexeme.{lexeme_of, mark_lexeme, plain_lexeme}
use Rattle.cobol_lex.specs.declared.token.TokenKind.{TokenKind}
use Rattle.cobol_lex.specs.declared.fault.LexError.{LexError}
use Rattle.cobol_lex.specs.declared.fault.LexError.TheVariants as error

-- what stands behind the first byte
pub rest_whole : (bytes : List ℕ) → take (length bytes - 1) (drop 1 bytes) ≡ drop 1 bytes
rest_whole bytes = grind (arith, common_steps)

pub lexeme_answers : (n : ℕ) (meant answer : Result TokenKind LexError) → Answers error.NoMemory meant answer → Answers error.NoMemory (lexeme_of n meant) (lexeme_of n answer)
lexeme_answers n meant (Ok kind) h = ap (lexeme_of n) h
lexeme_answers n meant (Err e) h = λ other. ap (lexeme_of n) (h other)

pub plain_lexeme-number : (before line : ℕ) (bytes : List ℕ) → is_quote (get_or bytes 0 0) ≡ false → begins_number before bytes ≡ true →
    plain_lexeme before line bytes ≡ lexeme_of (length (number_run bytes)) (number_kind line (number_run bytes))
plain_lexeme-number before line [] no_quote number = cc
plain_lexeme-number before line (b ∷ rest) no_quote number = rw (no_quote, number)

pub plain_lexeme-mark : (before line : ℕ) (bytes : List ℕ) → 0 < length bytes → is_quote (get_or bytes 0 0) ≡ false → begins_number before bytes ≡ false → is_letter (get_or bytes 0 0) ≡ false →
    plain_lexeme before line bytes ≡ mark_lexeme line (get_or bytes 0 0) (drop 1 bytes)
plain_lexeme-mark before line [] some no_quote no_number no_letter = absurd (omega arith)
plain_lexeme-mark before line (b ∷ rest) some no_quote no_number no_letter = rw (no_quote, no_number, no_letter)

pub answers_itself : {A : Type 0} → (answer : Result A LexError) → Answers error.NoMemory answer answer
answers_itself (Ok value) = refl
answers_itself (Err e) = λ other. refl

pub answers_along : {A : Type 0} → (meant meant' answer answer' : Result A LexError) → meant ≡ meant' → answer ≡ answer' → Answers error.NoMemory meant' answer' → Answers error.NoMemory meant answer
answers_along meant meant' answer answer' same given h = rw (same, given) h
