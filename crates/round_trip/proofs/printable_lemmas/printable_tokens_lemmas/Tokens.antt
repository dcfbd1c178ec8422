-- The tokens of a source can be printed.
use Rattle.std.proofs.Common.{◌≡◌, ℕ, zero, suc, ◌<◌, ◌+◌, ◌-◌, Bool, true, false, not, ◌&&◌, List, [], ◌∷◌, length, take, Option, Some, None, refl, ap, sym, ◌∙◌, subst, arith, cond}
use Rattle.std.specs.Prelude.{All, slice_index, ◌||◌, ◌==◌, nat_le, nat_lt, Result, Ok, Err, if◌then◌else◌}
use Rattle.std.specs.Char.{to_ascii_uppercase}
use Rattle.std.specs.List.{list_all, list_any, prefix_len}
use Rattle.std.proofs.lemmas.Bool.{and_parts, leb-true}
use Rattle.std.proofs.lemmas.Bool.Decides.{nat_tests}
use Rattle.std.proofs.lemmas.List.Elements.{All-nil, All-cons, All-head, All-tail}
use Rattle.cob_base.specs.Bytes.{space, line_feed, asterisk, less_sign, equal_sign, greater_sign}
use Rattle.cob_base.specs.Spelling.{folded, word_byte}
use Rattle.cob_base.proofs.Capitals.{folded-capital}
use Rattle.ref_format.specs.declared.placed.Placed.{Placed}
use Rattle.ref_format.specs.Placed.{bytes_of}
use Rattle.cobol_lex.specs.Byte.{is_white, is_separator, is_digit, is_point, is_sign, is_quote, is_letter, is_mark, begins}
use Rattle.cobol_lex.specs.Awaits.{awaits_behind, awaits_picture}
use Rattle.cobol_lex.specs.Lexeme.{lexeme_of, mark_lexeme, plain_lexeme, next_lexeme}
use Rattle.cobol_lex.specs.Literal.{with_byte, quoted_by, quoted_lexeme}
use Rattle.cobol_lex.specs.Number.{begins_number, number_run, number_kind, decimal_kind, digits_kind, digits_of, unsigned, is_decimal}
use Rattle.cobol_lex.specs.Picture.{ends_picture, less_last, filled_run, picture_run, picture_lexeme}
use Rattle.cobol_lex.specs.Token.{with_token, after_lexeme, tokens_from}
use Rattle.cobol_lex.specs.Word.{word_run, word_kind, fits_word}
use Rattle.cobol_lex.specs.Written.{AreDigits}
use Rattle.cobol_lex.specs.declared.awaits.Awaits.{Awaits}
use Rattle.cobol_lex.specs.declared.awaits.Awaits.TheVariants as awaits
use Rattle.cobol_lex.specs.declared.fault.LexError.{LexError}
use Rattle.cobol_lex.specs.declared.lexeme.Lexeme.{Lexeme}
use Rattle.cobol_lex.specs.declared.literal.Quoted.{Quoted}
use Rattle.cobol_lex.specs.declared.token.Token.{Token}
use Rattle.cobol_lex.specs.declared.token.TokenKind.{TokenKind}
use Rattle.cobol_lex.specs.declared.token.TokenKind.TheVariants as kinds
use Rattle.cobol_lex.proofs.WordLemmas.{fits-IsWord}
use Rattle.program_facts.specs.well_scoped.Part.{is_filled, are_digits}
use Rattle.program_facts.proofs.well_scoped_lemmas.Made.{both}
use Rattle.grammar_laws.specs.form_results.Giving.{AreOf}
use Rattle.grammar_laws.specs.form_results.Numbered.{IsNumbered}
use Rattle.grammar_laws.proofs.well_scoped_lemmas.named_tokens_lemmas.Tokens.{numbered}
use Rattle.round_trip.proofs.printable_lemmas.printable_tokens_lemmas.Clean.{is_clean, Clean, text-clean}
use Rattle.round_trip.specs.printable.printable_tokens.Laws.{TokensArePrintable}
use Rattle.round_trip.specs.printable.printable_tokens.Printable.{IsPrintableWord, is_printable_text, begins_well, IsPrintable}

abbrev CleanBytes : List ℕ → Type 0
CleanBytes bytes = All (λ b. is_clean b ≡ true) bytes

-- words, literals and pictures can be printed
abbrev IsSpelled : TokenKind → Type 0
IsSpelled (kinds.Word word) = IsPrintableWord word
IsSpelled (kinds.Literal text) = is_printable_text text ≡ true
IsSpelled (kinds.Picture picture) = begins_well picture ≡ true
IsSpelled _ = Unit {0}

abbrev KindFine : Result TokenKind LexError → Type 0
KindFine (Ok kind) = IsSpelled kind
KindFine (Err fault) = Unit {0}

abbrev LexemeFine : Result Lexeme LexError → Type 0
LexemeFine (Ok lexeme) = IsSpelled lexeme.kind
LexemeFine (Err fault) = Unit {0}

abbrev AreFine : Result (List Token) LexError → Type 0
AreFine (Ok tokens) = AreOf IsSpelled tokens
AreFine (Err fault) = Unit {0}

either : {R : Type 0} (P : R → Type 0) (v : Bool) (x y : R) → (v ≡ true → P x) → (v ≡ false → P y) → P (if v then x else y)
either P true x y h k = h refl
either P false x y h k = k refl

-- ---- words

upper-digit : (b : ℕ) → is_digit (to_ascii_uppercase b) ≡ is_digit b
upper-digit b = grind (arith, nat_tests)

folded-digits : (run : List ℕ) → list_all is_digit (folded run) ≡ list_all is_digit run
folded-digits [] = refl
folded-digits (b ∷ run) = ap (λ v. v && list_all is_digit (folded run)) (upper-digit b) ∙ ap (λ v. is_digit b && v) (folded-digits run)

word_fine : (line : ℕ) (run : List ℕ) → list_all is_digit run ≡ false → KindFine (word_kind line run)
word_fine line run other =
    either KindFine (fits_word run) _ _ (λ fits. (folded-capital run (fits-IsWord run fits), folded-digits run ∙ other)) (λ _. tt)

letter_is_word : (b : ℕ) → is_letter b ≡ true → word_byte b ≡ true
letter_is_word b h = grind (arith, nat_tests)

letter_no_digit : (b : ℕ) → is_letter b ≡ true → is_digit b ≡ false
letter_no_digit b h = grind (arith, nat_tests)

-- one byte more is taken where it belongs to the run
taken-one : (v : Bool) (n b : ℕ) (rest : List ℕ) → v ≡ true → take (cond v (1 + n) 0) (b ∷ rest) ≡ b ∷ take n rest
taken-one true n b rest h = let one : 1 + n ≡ suc n = omega arith in ap (λ k. take k (b ∷ rest)) one
taken-one false n b rest h = absurd cc

-- a run that begins with a letter isn't digits alone
lettered : (b : ℕ) (rest : List ℕ) → is_letter b ≡ true → list_all is_digit (word_run (b ∷ rest)) ≡ false
lettered b rest h =
    ap (list_all is_digit) (taken-one (word_byte b) (prefix_len word_byte rest) b rest (letter_is_word b h))
    ∙ ap (λ v. v && list_all is_digit (word_run rest)) (letter_no_digit b h)

-- ---- numbers

decimal_fine : (line : ℕ) (run bytes : List ℕ) → KindFine (decimal_kind line run bytes)
decimal_fine line run bytes =
    either KindFine (not (is_decimal bytes)) _ _ (λ _. tt) (λ _. either KindFine (nat_lt 18 (length (digits_of bytes))) _ _ (λ _. tt) (λ _. tt))

digits_fine : (line : ℕ) (run : List ℕ) → KindFine (digits_kind line run)
digits_fine line run = either KindFine (nat_lt 18 (length run)) _ _ (λ _. tt) (λ _. tt)

number_fine : (line : ℕ) (run : List ℕ) → KindFine (number_kind line run)
number_fine line run =
    either KindFine (begins is_sign run || list_any is_point run) _ _ (λ _. decimal_fine line run (unsigned run))
    (λ _. either KindFine (list_all is_digit run) _ _ (λ _. digits_fine line run) (λ other. word_fine line run other))

-- ---- literals

abbrev QuotedFine : Option Quoted → Type 0
QuotedFine None = Unit {0}
QuotedFine (Some quoted) = list_all (nat_le space) quoted.value ≡ true

byte_fine : (b : ℕ) (found : Option Quoted) (taken : ℕ) → nat_le space b ≡ true → QuotedFine found → QuotedFine (with_byte b taken found)
byte_fine b None taken h f = tt
byte_fine b (Some quoted) taken h f = both h f

-- within a line a byte is no control character
within_line : (fits ends : Bool) → ends ≡ false → (fits || ends) ≡ true → fits ≡ true
within_line true ends inside h = refl
within_line false ends inside h = sym inside ∙ h

quoted_clean : (mark : ℕ) → nat_le space mark ≡ true → (bytes : List ℕ) → CleanBytes bytes → QuotedFine (quoted_by mark bytes)
quoted_clean mark m [] h = tt
quoted_clean mark m (b ∷ []) h = either QuotedFine (b == mark) _ _ (λ _. refl) (λ _. tt)
quoted_clean mark m (b ∷ c ∷ rest) h =
    let behind : CleanBytes (c ∷ rest) = All-tail (λ b. is_clean b ≡ true) b (c ∷ rest) h in
    let twice = quoted_clean mark m rest (All-tail (λ b. is_clean b ≡ true) c rest behind) in
    let once = quoted_clean mark m (c ∷ rest) behind in
    either QuotedFine (b == mark) _ _
    (λ _. either QuotedFine (c == mark) _ _ (λ _. byte_fine mark (quoted_by mark rest) 2 m twice) (λ _. refl))
    (λ _. either QuotedFine (b == line_feed) _ _ (λ _. tt)
    (λ within. byte_fine b (quoted_by mark (c ∷ rest)) 1 (within_line (nat_le space b) (b == line_feed) within (All-head (λ b. is_clean b ≡ true) b (c ∷ rest) h)) once))

quoted_fine : (line : ℕ) (found : Option Quoted) → QuotedFine found → LexemeFine (quoted_lexeme line found)
quoted_fine line None h = tt
quoted_fine line (Some quoted) h =
    either LexemeFine (nat_le 1 (length quoted.value) && nat_le (length quoted.value) 160) _ _
    (λ fits. both fits h) (λ _. tt)

quote_prints : (b : ℕ) → is_quote b ≡ true → nat_le space b ≡ true
quote_prints b h = grind (arith, nat_tests)

-- ---- lexemes

of_kind : (length : ℕ) (kind : Result TokenKind LexError) → KindFine kind → LexemeFine (lexeme_of length kind)
of_kind length (Ok kind) h = h
of_kind length (Err fault) h = tt

mark_fine : (line b : ℕ) (rest : List ℕ) → LexemeFine (mark_lexeme line b rest)
mark_fine line b rest =
    either LexemeFine (is_point b) _ _ (λ _. tt) (λ _. either LexemeFine (b == asterisk && begins (λ c. c == asterisk) rest) _ _ (λ _. tt)
    (λ _. either LexemeFine (b == less_sign && begins (λ c. c == equal_sign) rest) _ _ (λ _. tt)
    (λ _. either LexemeFine (b == greater_sign && begins (λ c. c == equal_sign) rest) _ _ (λ _. tt)
    (λ _. either LexemeFine (is_mark b) _ _ (λ _. tt) (λ _. tt)))))

plain_fine : (before line : ℕ) (bytes : List ℕ) → CleanBytes bytes → LexemeFine (plain_lexeme before line bytes)
plain_fine before line [] h = tt
plain_fine before line (b ∷ rest) h =
    either LexemeFine (is_quote b) _ _ (λ mark. quoted_fine line (quoted_by b rest) (quoted_clean b (quote_prints b mark) rest (All-tail (λ b. is_clean b ≡ true) b rest h)))
    (λ _. either LexemeFine (begins_number before (b ∷ rest)) _ _
    (λ _. of_kind _ (number_kind line (number_run (b ∷ rest))) (number_fine line (number_run (b ∷ rest))))
    (λ _. either LexemeFine (is_letter b) _ _
    (λ letter. of_kind _ (word_kind line (word_run (b ∷ rest))) (word_fine line (word_run (b ∷ rest)) (lettered b rest letter))) (λ _. mark_fine line b rest)))

no-white : (b : ℕ) → is_separator b ≡ false → not (is_white b) ≡ true
no-white b h = grind (arith, nat_tests)

-- a picture begins with the first byte
begun_fine : (line b : ℕ) (run : List ℕ) → is_separator b ≡ false → LexemeFine (picture_lexeme line (less_last ends_picture (b ∷ run)))
begun_fine line b run h =
    either (λ run. LexemeFine (picture_lexeme line run)) (ends_picture (slice_index (b ∷ run) (length (b ∷ run) - 1))) _ _ (λ _. less (length (b ∷ run) - 1)) (λ _. ap not h)
  where
    less : (n : ℕ) → LexemeFine (picture_lexeme line (take n (b ∷ run)))
    less zero = tt
    less (suc n) = ap not h

picture_fine : (line : ℕ) (bytes : List ℕ) → is_separator (slice_index bytes 0) ≡ false → LexemeFine (picture_lexeme line (picture_run bytes))
picture_fine line [] h = tt
picture_fine line (b ∷ rest) h =
    subst (λ run. LexemeFine (picture_lexeme line (less_last ends_picture run)))
    (sym (taken-one (not (is_white b)) (prefix_len (λ c. not (is_white c)) rest) b rest (no-white b h)))
    (begun_fine line b (filled_run rest) h)

next_fine : (awaits : Awaits) (before line : ℕ) (bytes : List ℕ) → CleanBytes bytes → is_separator (slice_index bytes 0) ≡ false → LexemeFine (next_lexeme awaits before line bytes)
next_fine awaits before line bytes h apart =
    either LexemeFine (awaits_picture awaits bytes) _ _ (λ _. picture_fine line bytes apart) (λ _. plain_fine before line bytes h)

-- ---- tokens

bytes_clean : (text : List Placed) → Clean text → CleanBytes (bytes_of text)
bytes_clean [] h = All-nil (λ b. is_clean b ≡ true)
bytes_clean (p ∷ text) h =
    All-cons (λ b. is_clean b ≡ true) p.byte (bytes_of text) (All-head (λ p. is_clean p.byte ≡ true) p text h)
    (bytes_clean text (All-tail (λ p. is_clean p.byte ≡ true) p text h))

token_fine : (token : Token) (tokens : Result (List Token) LexError) → IsSpelled token.kind → AreFine tokens → AreFine (with_token token tokens)
token_fine token (Ok tokens) h k = (h, k)
token_fine token (Err fault) h k = tt

lexeme_fine : (lexeme : Result Lexeme LexError) (follows : Lexeme → Result (List Token) LexError) → LexemeFine lexeme → ((found : Lexeme) → IsSpelled found.kind → AreFine (follows found)) → AreFine (after_lexeme lexeme follows)
lexeme_fine (Ok lexeme) follows h k = k lexeme h
lexeme_fine (Err fault) follows h k = tt

fine : (taken : ℕ) (awaits : Awaits) (before : ℕ) (text : List Placed) → Clean text → AreFine (tokens_from taken awaits before text)
fine taken awaits before [] h = tt
fine (suc taken) awaits before (p ∷ rest) h = fine taken awaits p.byte rest (All-tail (λ p. is_clean p.byte ≡ true) p rest h)
fine zero awaits before (p ∷ rest) h =
    let behind : Clean rest = All-tail (λ p. is_clean p.byte ≡ true) p rest h in
    either AreFine (is_separator p.byte) _ _ (λ _. fine 0 awaits p.byte rest behind)
    (λ apart. lexeme_fine (next_lexeme awaits before p.line (bytes_of (p ∷ rest))) _ (next_fine awaits before p.line (bytes_of (p ∷ rest)) (bytes_clean (p ∷ rest) h) apart)
    (λ lexeme k. token_fine (record { kind = lexeme.kind; line = p.line }) _ k (fine (lexeme.length - 1) (awaits_behind awaits lexeme.kind) p.byte rest behind)))

-- ---- with their numbers

filled-some : (digits : List ℕ) → is_filled digits ≡ true → 0 < length digits
filled-some [] h = absurd cc
filled-some (d ∷ digits) h = omega arith

digits-are : (digits : List ℕ) → are_digits digits ≡ true → AreDigits digits
digits-are digits h =
    let e = and_parts (is_filled digits && nat_le (length digits) 18) (list_all is_digit digits) h in
    let f = and_parts (is_filled digits) (nat_le (length digits) 18) e.0 in
    record { some = filled-some digits f.0; few = leb-true (length digits) 18 f.1; digits_only = e.1 }

one-printable : (kind : TokenKind) → IsNumbered kind → IsSpelled kind → IsPrintable kind
one-printable (kinds.Word word) n s = s
one-printable (kinds.Digits digits) n s = digits-are digits n
one-printable (kinds.Decimal number) n s =
    let e = and_parts (are_digits number.digits) (nat_le number.scale (length number.digits)) n in
    (digits-are number.digits e.0, leb-true number.scale (length number.digits) e.1)
one-printable (kinds.Literal text) n s = s
one-printable (kinds.Picture picture) n s = s
one-printable (kinds.Mark b) n s = tt
one-printable kinds.Period n s = tt
one-printable kinds.LessEqual n s = tt
one-printable kinds.GreaterEqual n s = tt
one-printable kinds.Power n s = tt

all-printable : (tokens : List Token) → AreOf IsNumbered tokens → AreOf IsSpelled tokens → AreOf IsPrintable tokens
all-printable [] n s = tt
all-printable (token ∷ tokens) n s = (one-printable token.kind n.0 s.0, all-printable tokens n.1 s.1)

pub printable : TokensArePrintable
printable bytes text tokens has lexed =
    all-printable tokens (numbered text tokens lexed) (subst AreFine lexed (fine 0 awaits.Any 0 text (text-clean bytes text has)))
