-- The numbers of the tokens of a text are numbers.
use Rattle.std.proofs.Common.{◌≡◌, ℕ, zero, suc, ◌-◌, Bool, true, false, not, ◌&&◌, List, [], ◌∷◌, length, Option, Some, None, refl, sym, ◌∙◌, subst, cond}
use Rattle.std.specs.Prelude.{◌||◌, ◌==◌, nat_le, nat_lt, Result, Ok, Err, if◌then◌else◌}
use Rattle.std.specs.List.{list_all, list_any, count_by}
use Rattle.std.proofs.lemmas.Bool.{and_parts, le-leb, ltb-false}
use Rattle.cob_base.specs.Bytes.{asterisk, less_sign, equal_sign, greater_sign}
use Rattle.ref_format.specs.declared.placed.Placed.{Placed}
use Rattle.ref_format.specs.Placed.{bytes_of}
use Rattle.cobol_lex.specs.Byte.{is_separator, is_digit, is_point, is_sign, is_quote, is_letter, is_mark, begins}
use Rattle.cobol_lex.specs.Awaits.{awaits_behind, awaits_picture}
use Rattle.cobol_lex.specs.Lexeme.{lexeme_of, mark_lexeme, plain_lexeme, next_lexeme}
use Rattle.cobol_lex.specs.Literal.{quoted_by, quoted_lexeme}
use Rattle.cobol_lex.specs.Number.{begins_number, number_run, number_kind, decimal_kind, digits_kind, unsigned, digits_of, decimals, is_decimal}
use Rattle.cobol_lex.specs.Picture.{picture_run, picture_lexeme}
use Rattle.cobol_lex.specs.Token.{with_token, after_lexeme, tokens_from}
use Rattle.cobol_lex.specs.Word.{word_run, word_kind, fits_word}
use Rattle.cobol_lex.specs.declared.awaits.Awaits.{Awaits}
use Rattle.cobol_lex.specs.declared.awaits.Awaits.TheVariants as awaits
use Rattle.cobol_lex.specs.declared.fault.LexError.{LexError}
use Rattle.cobol_lex.specs.declared.lexeme.Lexeme.{Lexeme}
use Rattle.cobol_lex.specs.declared.literal.Quoted.{Quoted}
use Rattle.cobol_lex.specs.declared.token.Token.{Token}
use Rattle.cobol_lex.specs.declared.token.TokenKind.{TokenKind}
use Rattle.cobol_lex.proofs.RunLemmas.{decimals_within}
use Rattle.program_facts.specs.well_scoped.Part.{is_filled}
use Rattle.program_facts.proofs.well_scoped_lemmas.Made.{both}
use Rattle.grammar_laws.specs.form_results.Giving.{AreOf}
use Rattle.grammar_laws.specs.form_results.Numbered.{IsNumbered}
use Rattle.grammar_laws.proofs.well_scoped_lemmas.named_tokens_lemmas.Digits.{number_front}
use Rattle.grammar_laws.specs.well_scoped.named_tokens.Laws.{TokensAreNumbered}

-- ---- what is read, if anything is

abbrev KindFine : Result TokenKind LexError → Type 0
KindFine (Ok kind) = IsNumbered kind
KindFine (Err fault) = Unit {0}

abbrev LexemeFine : Result Lexeme LexError → Type 0
LexemeFine (Ok lexeme) = IsNumbered lexeme.kind
LexemeFine (Err fault) = Unit {0}

abbrev AreFine : Result (List Token) LexError → Type 0
AreFine (Ok tokens) = AreOf IsNumbered tokens
AreFine (Err fault) = Unit {0}

either : {R : Type 0} (P : R → Type 0) (v : Bool) (x y : R) → (v ≡ true → P x) → (v ≡ false → P y) → P (if v then x else y)
either P true x y h k = h refl
either P false x y h k = k refl

-- ---- numbers

digits-all : (bytes : List ℕ) → list_all (λ b. is_digit b || is_point b) bytes ≡ true → list_all is_digit (digits_of bytes) ≡ true
digits-all [] h = refl
digits-all (b ∷ bytes) h = let e = and_parts (is_digit b || is_point b) (list_all (λ b. is_digit b || is_point b) bytes) h in go (is_point b) refl e.0 (digits-all bytes e.1)
  where
    digit_of : (d p : Bool) → p ≡ false → (d || p) ≡ true → d ≡ true
    digit_of true p e h = refl
    digit_of false p e h = sym e ∙ h

    go : (p : Bool) → is_point b ≡ p → (is_digit b || is_point b) ≡ true → list_all is_digit (digits_of bytes) ≡ true →
        list_all is_digit (cond (not p) (b ∷ digits_of bytes) (digits_of bytes)) ≡ true
    go true is e others = others
    go false is e others = both (digit_of (is_digit b) (is_point b) is e) others

few : (digits : List ℕ) → nat_lt 18 (length digits) ≡ false → nat_le (length digits) 18 ≡ true
few digits h = le-leb (length digits) 18 (ltb-false 18 (length digits) h)

decimal_fine : (line : ℕ) (run bytes : List ℕ) → is_filled (digits_of bytes) ≡ true → KindFine (decimal_kind line run bytes)
decimal_fine line run bytes filled =
    either KindFine (not (is_decimal bytes)) _ _ (λ _. tt) (λ decimal. either KindFine (nat_lt 18 (length (digits_of bytes))) _ _ (λ _. tt)
    (λ short. both (both (both filled (few (digits_of bytes) short)) (digits-all bytes (and_parts _ (nat_le (count_by is_point bytes) 1) (no_not (is_decimal bytes) decimal)).0))
    (le-leb (length (decimals bytes)) (length (digits_of bytes)) (decimals_within bytes))))
  where
    no_not : (v : Bool) → not v ≡ false → v ≡ true
    no_not true e = refl
    no_not false e = sym e

digits_fine : (line : ℕ) (run : List ℕ) → is_filled run ≡ true → list_all is_digit run ≡ true → KindFine (digits_kind line run)
digits_fine line run filled digits = either KindFine (nat_lt 18 (length run)) _ _ (λ _. tt) (λ short. both (both filled (few run short)) digits)

word_fine : (line : ℕ) (run : List ℕ) → KindFine (word_kind line run)
word_fine line run = either KindFine (fits_word run) _ _ (λ _. tt) (λ _. tt)

run_filled : (run : List ℕ) → is_filled (digits_of (unsigned run)) ≡ true → is_filled run ≡ true
run_filled [] h = h
run_filled (b ∷ run) h = refl

number_fine : (line : ℕ) (run : List ℕ) → is_filled (digits_of (unsigned run)) ≡ true → KindFine (number_kind line run)
number_fine line run filled =
    either KindFine (begins is_sign run || list_any is_point run) _ _ (λ _. decimal_fine line run (unsigned run) filled)
    (λ _. either KindFine (list_all is_digit run) _ _ (λ digits. digits_fine line run (run_filled run filled) digits) (λ _. word_fine line run))

-- ---- lexemes

of_kind : (length : ℕ) (kind : Result TokenKind LexError) → KindFine kind → LexemeFine (lexeme_of length kind)
of_kind length (Ok kind) h = h
of_kind length (Err fault) h = tt

quoted_fine : (line : ℕ) (quoted : Option Quoted) → LexemeFine (quoted_lexeme line quoted)
quoted_fine line None = tt
quoted_fine line (Some quoted) = either LexemeFine (nat_le 1 (length quoted.value) && nat_le (length quoted.value) 160) _ _ (λ _. tt) (λ _. tt)

mark_fine : (line b : ℕ) (rest : List ℕ) → LexemeFine (mark_lexeme line b rest)
mark_fine line b rest =
    either LexemeFine (is_point b) _ _ (λ _. tt) (λ _. either LexemeFine (b == asterisk && begins (λ c. c == asterisk) rest) _ _ (λ _. tt)
    (λ _. either LexemeFine (b == less_sign && begins (λ c. c == equal_sign) rest) _ _ (λ _. tt)
    (λ _. either LexemeFine (b == greater_sign && begins (λ c. c == equal_sign) rest) _ _ (λ _. tt)
    (λ _. either LexemeFine (is_mark b) _ _ (λ _. tt) (λ _. tt)))))

plain_fine : (before line : ℕ) (bytes : List ℕ) → LexemeFine (plain_lexeme before line bytes)
plain_fine before line [] = tt
plain_fine before line (b ∷ rest) =
    either LexemeFine (is_quote b) _ _ (λ _. quoted_fine line (quoted_by b rest))
    (λ _. either LexemeFine (begins_number before (b ∷ rest)) _ _
    (λ begun. of_kind _ (number_kind line (number_run (b ∷ rest))) (number_fine line (number_run (b ∷ rest)) (number_front before (b ∷ rest) begun)))
    (λ _. either LexemeFine (is_letter b) _ _ (λ _. of_kind _ (word_kind line (word_run (b ∷ rest))) (word_fine line (word_run (b ∷ rest)))) (λ _. mark_fine line b rest)))

picture_fine : (line : ℕ) (run : List ℕ) → LexemeFine (picture_lexeme line run)
picture_fine line [] = tt
picture_fine line (b ∷ run) = tt

next_fine : (awaits : Awaits) (before line : ℕ) (bytes : List ℕ) → LexemeFine (next_lexeme awaits before line bytes)
next_fine awaits before line bytes =
    either LexemeFine (awaits_picture awaits bytes) _ _ (λ _. picture_fine line (picture_run bytes)) (λ _. plain_fine before line bytes)

-- ---- tokens

token_fine : (token : Token) (tokens : Result (List Token) LexError) → IsNumbered token.kind → AreFine tokens → AreFine (with_token token tokens)
token_fine token (Ok tokens) h k = (h, k)
token_fine token (Err fault) h k = tt

lexeme_fine : (lexeme : Result Lexeme LexError) (follows : Lexeme → Result (List Token) LexError) → LexemeFine lexeme → ((found : Lexeme) → IsNumbered found.kind → AreFine (follows found)) → AreFine (after_lexeme lexeme follows)
lexeme_fine (Ok lexeme) follows h k = k lexeme h
lexeme_fine (Err fault) follows h k = tt

fine : (taken : ℕ) (awaits : Awaits) (before : ℕ) (text : List Placed) → AreFine (tokens_from taken awaits before text)
fine taken awaits before [] = tt
fine (suc taken) awaits before (p ∷ rest) = fine taken awaits p.byte rest
fine zero awaits before (p ∷ rest) =
    either AreFine (is_separator p.byte) _ _ (λ _. fine 0 awaits p.byte rest)
    (λ _. lexeme_fine (next_lexeme awaits before p.line (bytes_of (p ∷ rest))) _ (next_fine awaits before p.line (bytes_of (p ∷ rest)))
    (λ lexeme h. token_fine (record { kind = lexeme.kind; line = p.line }) _ h (fine (lexeme.length - 1) (awaits_behind awaits lexeme.kind) p.byte rest)))

pub numbered : TokensAreNumbered
numbered text tokens is = subst AreFine is (fine 0 awaits.Any 0 text)
