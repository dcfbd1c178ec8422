-- A token that is written is read back.
use Rattle.std.proofs.Common.{ℕ, ◌≡◌, ◌≢◌, ◌<◌, ◌≤◌, ◌+◌, suc, true, false, not, List, [], ◌∷◌, ◌++◌, length, ap, sym, ◌∙◌, arith, refl, rules, tests, append_assoc, length-append}
use Rattle.std.specs.Prelude.{Result, Ok, Some, ◌==◌, ◌||◌, ◌&&◌, nat_le}
use Rattle.std.specs.List.{list_any, list_all}
use Rattle.std.proofs.lemmas.List.Sums.{list_all-from_AllPass}
use Rattle.cob_base.specs.Spelling.{IsCapitalWord, word_byte}
use Rattle.cobol_lex.specs.Byte.{is_quote, is_letter, is_digit, is_point, is_sign, is_mark, leads_sign, begins}
use Rattle.cobol_lex.specs.Word.{word_run, word_kind}
use Rattle.cobol_lex.specs.Number.{begins_number, number_kind}
use Rattle.cobol_lex.specs.Literal.{quoted_by}
use Rattle.cobol_lex.specs.Lexeme.{mark_lexeme, plain_lexeme}
use Rattle.cobol_lex.specs.Written.{doubled, runs_on}
use Rattle.cobol_lex.specs.Laws.{TokenReadsBack}
use Rattle.cobol_lex.specs.declared.token.TokenKind.TheVariants as kind
use Rattle.cobol_lex.specs.declared.literal.Quoted.{Quoted}
use Rattle.cobol_lex.specs.declared.lexeme.Lexeme.{Lexeme}
use Rattle.cobol_lex.specs.declared.fault.LexError.{LexError}
use Rattle.cobol_lex.proofs.LiteralLemmas.{quoted-cons}
use Rattle.cobol_lex.proofs.WordLemmas.{word_kind-word}
use Rattle.cobol_lex.proofs.BoolLemmas.{or_left, or_right, and_left, and_right, or_true, either_way, not_false, and_no, same_byte}
use Rattle.cobol_lex.proofs.RunsOnLemmas.{stop_word, stop_other, stop_unsigned, run_stops, words_run, no_points, word_run-on}
use Rattle.cobol_lex.proofs.NumberLemmas.{reads_number, reads_digits, reads_decimal}

reads_word : (before line : ℕ) (word rest : List ℕ) → IsCapitalWord word → list_all is_digit word ≡ false → runs_on rest ≡ false →
    plain_lexeme before line (word ++ rest) ≡ Ok (record { kind = kind.Word word; length = length word })
reads_word before line [] rest is letter stops = absurd (omega (arith, is.word.begun))
reads_word before line (b ∷ w) rest is letter stops =
    let words : list_all word_byte (b ∷ w) ≡ true = list_all-from_AllPass word_byte (b ∷ w) is.word.spelled in
    let first : word_byte b ≡ true = and_left _ _ words in
    let no_hyphen : b ≢ 45 = is.word.first in
    let quote : is_quote b ≡ false = grind (arith, tests) in
    let sign : is_sign b ≡ false = grind (arith, tests) in
    let point : is_point b ≡ false = grind (arith, tests) in
    let points : list_any is_point (b ∷ w) ≡ false = no_points (b ∷ w) words in
    let spelled : word_kind line (b ∷ w) ≡ Ok (kind.Word (b ∷ w)) = sym (word_kind-word line (b ∷ w) (b ∷ w) is.word (sym is.capital)) in
    let token_is : number_kind line (b ∷ w) ≡ Ok (kind.Word (b ∷ w)) = rw (sign, points, letter) spelled in
    let by_digit : is_digit b ≡ true → plain_lexeme before line (b ∷ w ++ rest) ≡ Ok (record { kind = kind.Word (b ∷ w); length = length (b ∷ w) }) =
    λ digit. reads_number before line b w rest _ (or_true _ _ digit) quote sign (words_run (b ∷ w) words) (run_stops rest stops) token_is in
    let by_letter : is_digit b ≡ false → plain_lexeme before line (b ∷ w ++ rest) ≡ Ok (record { kind = kind.Word (b ∷ w); length = length (b ∷ w) }) =
    λ digit.
    let is_letter_b : is_letter b ≡ true = grind (arith, tests) in
    let number : begins_number before (b ∷ w ++ rest) ≡ false = rw (digit, point, sign) in
    let run : word_run (b ∷ w ++ rest) ≡ b ∷ w = word_run-on (b ∷ w) rest words (stop_word rest stops) in
    rw (quote, number, is_letter_b, run, spelled) in
    either_way (is_digit b) _ by_digit by_letter

quoted_same : (a b : ℕ) (value : List ℕ) (n m : ℕ) → a ≡ b → n ≡ m → ◌≡◌ {A = Quoted} (record { value = a ∷ value; taken = n }) (record { value = b ∷ value; taken = m })
quoted_same a b value n m same_byte same_count = cc

reads_quoted : (value rest : List ℕ) → list_all (λ b. not (b == 10)) value ≡ true → begins (λ b. b == 34) rest ≡ false →
    quoted_by 34 (doubled value ++ 34 ∷ rest) ≡ Some (record { value = value; taken = length (doubled value) + 1 })
reads_quoted [] rest inside stops = quoted-cons 34 34 rest ∙ rw stops
reads_quoted (b ∷ value) rest inside stops =
    let more = reads_quoted value rest (and_right (not (b == 10)) _ inside) stops in
    let byte : not (b == 10) ≡ true = and_left _ _ inside in
    either_way (b == 34) _
    (λ is_quote_b.
    let same : b ≡ 34 = search (rules, tests) in
    rw is_quote_b (rw more (ap (λ q. Some q) (quoted_same 34 b _ _ _ (sym same) (omega arith)))))
    (λ other.
    let no_end : (b == 10) ≡ false = not_false (b == 10) byte in
    rw other (quoted-cons 34 b (doubled value ++ 34 ∷ rest) ∙ rw (other, no_end, more) (ap (λ q. Some q) (quoted_same b b _ _ _ refl (omega arith)))))

literal_same : (value : List ℕ) (n m : ℕ) → n ≡ m →
    ◌≡◌ {A = Result Lexeme LexError} (Ok (record { kind = kind.Literal value; length = n })) (Ok (record { kind = kind.Literal value; length = m }))
literal_same value n m h = ap (λ k. Ok (record { kind = kind.Literal value; length = k })) h

quote_stops : (rest : List ℕ) → begins (λ b. b == 34 || b == 61 || b == 42) rest ≡ false → begins (λ b. b == 34) rest ≡ false
quote_stops [] h = refl
quote_stops (b ∷ rest) h = or_left _ _ (or_left _ _ h)

equals_stops : (rest : List ℕ) → begins (λ b. b == 34 || b == 61 || b == 42) rest ≡ false → begins (λ b. b == 61) rest ≡ false
equals_stops [] h = refl
equals_stops (b ∷ rest) h = or_right (b == 34) _ (or_left _ _ h)

star_stops : (rest : List ℕ) → begins (λ b. b == 34 || b == 61 || b == 42) rest ≡ false → begins (λ b. b == 42) rest ≡ false
star_stops [] h = refl
star_stops (b ∷ rest) h = or_right (b == 34 || b == 61) _ h

reads_literal : (before line : ℕ) (value rest : List ℕ) → 0 < length value → length value ≤ 160 → list_all (λ b. not (b == 10)) value ≡ true → runs_on rest ≡ false →
    plain_lexeme before line ((34 ∷ doubled value ++ 34 ∷ []) ++ rest) ≡ Ok (record { kind = kind.Literal value; length = length (34 ∷ doubled value ++ 34 ∷ []) })
reads_literal before line value rest some few inside stops =
    let whole : (doubled value ++ 34 ∷ []) ++ rest ≡ doubled value ++ 34 ∷ rest = append_assoc (doubled value) (34 ∷ []) rest in
    let quoted = reads_quoted value rest inside (quote_stops rest (stop_other rest stops)) in
    let least : nat_le 1 (length value) ≡ true = search (rules, tests) in
    let most : nat_le (length value) 160 ≡ true = search (rules, tests) in
    let counts : 1 + (length (doubled value) + 1) ≡ suc (length (doubled value ++ 34 ∷ [])) = omega (arith, length-append (doubled value) (34 ∷ [])) in
    rw (whole, quoted, least, most) (literal_same value _ _ counts)

reads_period : (before line : ℕ) (rest : List ℕ) → runs_on rest ≡ false → plain_lexeme before line (46 ∷ rest) ≡ Ok (record { kind = kind.Period; length = 1 })
reads_period before line rest stops =
    let digit : begins is_digit rest ≡ false = or_left _ _ (stop_unsigned rest stops) in
    rw digit

reads_mark : (before line b : ℕ) (rest : List ℕ) → is_mark b ≡ true → runs_on rest ≡ false → plain_lexeme before line (b ∷ rest) ≡ Ok (record { kind = kind.Mark b; length = 1 })
reads_mark before line b rest mark stops =
    let quote : is_quote b ≡ false = grind (arith, tests) in
    let digit : is_digit b ≡ false = grind (arith, tests) in
    let point : is_point b ≡ false = grind (arith, tests) in
    let letter : is_letter b ≡ false = grind (arith, tests) in
    let unsigned_stops = stop_unsigned rest stops in
    let number : begins_number before (b ∷ rest) ≡ false = rw (digit, point, unsigned_stops) (and_no (is_sign b && leads_sign before)) in
    let star = star_stops rest (stop_other rest stops) in
    let equals = equals_stops rest (stop_other rest stops) in
    rw (quote, number, letter) (marks_alone line b rest point mark star equals)
  where
    marks_alone : (line b : ℕ) (rest : List ℕ) → is_point b ≡ false → is_mark b ≡ true → begins (λ c. c == 42) rest ≡ false → begins (λ c. c == 61) rest ≡ false →
        mark_lexeme line b rest ≡ Ok (record { kind = kind.Mark b; length = 1 })
    marks_alone line b rest point mark star equals =
        rw (point, star, equals, and_no (b == 42), and_no (b == 60), and_no (b == 62), mark)

pub token_reads_back : TokenReadsBack
token_reads_back (kind.Word word) before line rest plain leads stops = reads_word before line word rest plain.0 plain.1 stops
token_reads_back (kind.Digits digits) before line rest plain leads stops = reads_digits before line digits rest plain stops
token_reads_back (kind.Decimal number) before line rest plain leads stops = reads_decimal before line number.negative number.digits rest number.scale plain.0 plain.1 leads stops
token_reads_back (kind.Literal value) before line rest plain leads stops = reads_literal before line value rest plain.0 plain.1 plain.2 stops
token_reads_back (kind.Picture picture) before line rest plain leads stops = absurd plain
token_reads_back kind.Period before line rest plain leads stops = reads_period before line rest stops
token_reads_back (kind.Mark b) before line rest plain leads stops = reads_mark before line b rest plain stops
token_reads_back kind.LessEqual before line rest plain leads stops = refl
token_reads_back kind.GreaterEqual before line rest plain leads stops = refl
token_reads_back kind.Power before line rest plain leads stops = refl
