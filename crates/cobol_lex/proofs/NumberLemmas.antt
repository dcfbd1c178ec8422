-- A number that is written is read back.
use Rattle.std.proofs.Common.{ℕ, ◌≡◌, ◌<◌, ◌≤◌, ◌+◌, ◌-◌, suc, Bool, true, false, not, List, [], ◌∷◌, ◌++◌, take, drop, length, filter, ap, sym, ◌∙◌, arith, refl, rules, tests, append-nil, length-drop, subst}
use Rattle.std.proofs.Math.Seq.{take-append_seam}
use Rattle.std.specs.Prelude.{Ok, if◌then◌else◌, ◌==◌, ◌||◌, ◌&&◌, nat_lt}
use Rattle.std.specs.List.{list_any, list_all, prefix_len, count_by}
use Rattle.std.proofs.lemmas.List.{take-append-drop}
use Rattle.std.proofs.lemmas.List.Folds.{list_all-append}
use Rattle.std.proofs.lemmas.List.Sums.{length-filter}
use Rattle.cob_base.specs.Spelling.{word_byte}
use Rattle.cobol_lex.specs.Byte.{is_quote, is_digit, is_point, is_sign, leads_sign, begins}
use Rattle.cobol_lex.specs.Number.{begins_unsigned, begins_number, number_run, number_kind, decimal_kind, unsigned_length, is_decimal, digits_of, decimals}
use Rattle.cobol_lex.specs.Lexeme.{plain_lexeme}
use Rattle.cobol_lex.specs.Written.{pointed, sign_of, AreDigits, runs_on}
use Rattle.cobol_lex.specs.declared.token.TokenKind.{TokenKind}
use Rattle.cobol_lex.specs.declared.token.TokenKind.TheVariants as kind
use Rattle.cobol_lex.proofs.BoolLemmas.{and_left, and_right, or_true, either_way}
use Rattle.cobol_lex.proofs.RunsOnLemmas.{run_stops, run_on, words_run, no_points, digits_are_words, number_run-on}

-- the token that begins with a digit, or with a period before one
pub reads_number : (before line b : ℕ) (w rest : List ℕ) (token : TokenKind) → begins_unsigned (b ∷ w ++ rest) ≡ true → is_quote b ≡ false → is_sign b ≡ false →
    unsigned_length (b ∷ w) ≡ length (b ∷ w) → unsigned_length rest ≡ 0 → number_kind line (b ∷ w) ≡ Ok token →
    plain_lexeme before line (b ∷ w ++ rest) ≡ Ok (record { kind = token; length = length (b ∷ w) })
reads_number before line b w rest token begun quote sign covers stops token_is =
    let run : number_run (b ∷ w ++ rest) ≡ b ∷ w = number_run-on (b ∷ w) rest sign covers stops in
    let number : begins_number before (b ∷ w ++ rest) ≡ true = or_true _ _ begun in
    rw (quote, number, run, token_is)

pub reads_digits : (before line : ℕ) (digits rest : List ℕ) → AreDigits digits → runs_on rest ≡ false →
    plain_lexeme before line (digits ++ rest) ≡ Ok (record { kind = kind.Digits digits; length = length digits })
reads_digits before line [] rest are stops = absurd (omega (arith, are.some))
reads_digits before line (b ∷ w) rest are stops =
    let digit : is_digit b ≡ true = and_left _ _ are.digits_only in
    let quote : is_quote b ≡ false = grind (arith, tests) in
    let sign : is_sign b ≡ false = grind (arith, tests) in
    let words = digits_are_words (b ∷ w) are.digits_only in
    let points : list_any is_point (b ∷ w) ≡ false = no_points (b ∷ w) words in
    let few : nat_lt 18 (length (b ∷ w)) ≡ false = grind (arith, tests, are.few) in
    let token_is : number_kind line (b ∷ w) ≡ Ok (kind.Digits (b ∷ w)) = rw (sign, points, are.digits_only, few) in
    reads_number before line b w rest _ (or_true _ _ digit) quote sign (words_run (b ∷ w) words) (run_stops rest stops) token_is

-- digits before more text
digit_facts : (b : ℕ) → is_digit b ≡ true → (word_byte b ≡ true) × (is_point b ≡ false)
digit_facts b digit = (grind (arith, tests), grind (arith, tests))

or_points_on : (d more : List ℕ) → list_all is_digit d ≡ true → list_all (λ b. is_digit b || is_point b) (d ++ more) ≡ list_all (λ b. is_digit b || is_point b) more
or_points_on [] more h = refl
or_points_on (b ∷ d) more h =
    let digit : is_digit b ≡ true = and_left _ _ h in
    rw (or_true _ (is_point b) digit) (or_points_on d more (and_right (is_digit b) _ h))

points_on : (d more : List ℕ) → list_all is_digit d ≡ true → filter is_point (d ++ more) ≡ filter is_point more
points_on [] more h = refl
points_on (b ∷ d) more h =
    let digit : is_digit b ≡ true = and_left _ _ h in
    let point = (digit_facts b digit).1 in
    rw point (points_on d more (and_right (is_digit b) _ h))

count_on : (d more : List ℕ) → list_all is_digit d ≡ true → count_by is_point (d ++ more) ≡ count_by is_point more
count_on d more h = sym (length-filter is_point (d ++ more)) ∙ ap length (points_on d more h) ∙ length-filter is_point more

count_point : (e : List ℕ) → filter is_point e ≡ [] → count_by is_point (46 ∷ e) ≡ 1
count_point e none = sym (length-filter is_point (46 ∷ e)) ∙ ap (λ t. length (46 ∷ t)) none

digits_on : (d more : List ℕ) → list_all is_digit d ≡ true → digits_of (d ++ more) ≡ d ++ digits_of more
digits_on [] more h = refl
digits_on (b ∷ d) more h =
    let digit : is_digit b ≡ true = and_left _ _ h in
    let point = (digit_facts b digit).1 in
    rw point (ap (λ t. b ∷ t) (digits_on d more (and_right (is_digit b) _ h)))

before_point_on : (d more : List ℕ) → list_all is_digit d ≡ true → prefix_len (λ b. not (is_point b)) more ≡ 0 → prefix_len (λ b. not (is_point b)) (d ++ more) ≡ length d
before_point_on [] more h none = none
before_point_on (b ∷ d) more h none =
    let digit : is_digit b ≡ true = and_left _ _ h in
    let point = (digit_facts b digit).1 in
    let rest = before_point_on d more (and_right (is_digit b) _ h) none in
    rw point (omega arith)

covers_on : (d more : List ℕ) → list_all is_digit d ≡ true → unsigned_length more ≡ length more → unsigned_length (d ++ more) ≡ length (d ++ more)
covers_on [] more h rest = rest
covers_on (b ∷ d) more h rest =
    let digit : is_digit b ≡ true = and_left _ _ h in
    let word = (digit_facts b digit).0 in
    let longer = covers_on d more (and_right (is_digit b) _ h) rest in
    rw (or_true _ (is_point b && begins is_digit (d ++ more)) word) (omega arith)

has_point_on : (d more : List ℕ) → list_any is_point more ≡ true → list_any is_point (d ++ more) ≡ true
has_point_on [] more h = h
has_point_on (b ∷ d) more h = let rest = has_point_on d more h in rw rest (or_yes (is_point b))
  where
    or_yes : (v : Bool) → (v || true) ≡ true
    or_yes true = refl
    or_yes false = refl

drop_front : (a more : List ℕ) → drop (length a) (a ++ more) ≡ more
drop_front [] more = refl
drop_front (b ∷ a) more = drop_front a more

-- a number without its sign, with the digits that it has and how many of them stand behind the period
record IsBody (body digits : List ℕ) (scale : ℕ) : Type 0 where
  covers : unsigned_length body ≡ length body
  begun : (rest : List ℕ) → begins_unsigned (body ++ rest) ≡ true
  decimal : is_decimal body ≡ true
  digits_are : digits_of body ≡ digits
  scale_is : length (decimals body) ≡ scale

digits_begin : (d more : List ℕ) → 0 < length d → list_all is_digit d ≡ true → begins_unsigned (d ++ more) ≡ true
digits_begin [] more some h = absurd (omega arith)
digits_begin (b ∷ d) more some h =
    let first : is_digit b ≡ true = and_left _ _ h in
    or_true (is_digit b) _ first

whole_body : (digits : List ℕ) → AreDigits digits → IsBody digits digits 0
whole_body digits are = record {
  covers = words_run digits (digits_are_words digits are.digits_only);
  begun = λ rest. digits_begin digits rest are.some are.digits_only;
  decimal = rw (or_points, points);
  digits_are = same;
  scale_is = ap length (ap (λ n. digits_of (drop n digits)) before ∙ ap digits_of none_left);
}
  where
    alone : digits ++ [] ≡ digits
    alone = append-nil digits

    or_points : list_all (λ b. is_digit b || is_point b) digits ≡ true
    or_points = ap (list_all (λ b. is_digit b || is_point b)) (sym alone) ∙ or_points_on digits [] are.digits_only

    points : count_by is_point digits ≡ 0
    points = ap (count_by is_point) (sym alone) ∙ count_on digits [] are.digits_only

    same : digits_of digits ≡ digits
    same = ap digits_of (sym alone) ∙ digits_on digits [] are.digits_only ∙ alone

    before : prefix_len (λ b. not (is_point b)) digits ≡ length digits
    before = ap (prefix_len (λ b. not (is_point b))) (sym alone) ∙ before_point_on digits [] are.digits_only refl

    none_left : drop (length digits) digits ≡ []
    none_left = ap (drop (length digits)) (sym alone) ∙ drop_front digits []

pointed_body : (a e : List ℕ) → list_all is_digit a ≡ true → list_all is_digit e ≡ true → 0 < length e → IsBody (a ++ 46 ∷ e) (a ++ e) (length e)
pointed_body a e a_digits e_digits some = record {
  covers = covers_on a (46 ∷ e) a_digits (point_covers e e_digits some);
  begun = point_begins a a_digits;
  decimal = rw (or_points_on a (46 ∷ e) a_digits, count_on a (46 ∷ e) a_digits, or_points, points);
  digits_are = digits_on a (46 ∷ e) a_digits ∙ ap (λ t. a ++ t) same;
  scale_is = ap length (ap (λ n. digits_of (drop n (a ++ 46 ∷ e))) (before_point_on a (46 ∷ e) a_digits refl) ∙ ap digits_of (drop_front a (46 ∷ e)) ∙ same);
}
  where
    alone : e ++ [] ≡ e
    alone = append-nil e

    or_points : list_all (λ b. is_digit b || is_point b) e ≡ true
    or_points = ap (list_all (λ b. is_digit b || is_point b)) (sym alone) ∙ or_points_on e [] e_digits

    points : count_by is_point (46 ∷ e) ≡ 1
    points = count_point e (ap (filter is_point) (sym alone) ∙ points_on e [] e_digits)

    same : digits_of e ≡ e
    same = ap digits_of (sym alone) ∙ digits_on e [] e_digits ∙ alone

    taken_if : (v : Bool) (n m : ℕ) → v ≡ true → n ≡ m → (if v then 1 + n else 0) ≡ suc m
    taken_if true n m h same_count = omega arith
    taken_if false n m h same_count = cc

    point_covers : (e : List ℕ) → list_all is_digit e ≡ true → 0 < length e → unsigned_length (46 ∷ e) ≡ length (46 ∷ e)
    point_covers [] h lt = absurd (omega arith)
    point_covers (b ∷ t) h lt =
        let digit : is_digit b ≡ true = and_left _ _ h in
        let longer = words_run (b ∷ t) (digits_are_words (b ∷ t) h) in
        taken_if (is_digit b) (unsigned_length (b ∷ t)) (length (b ∷ t)) digit longer

    digit_behind : (e rest : List ℕ) → list_all is_digit e ≡ true → 0 < length e → begins is_digit (e ++ rest) ≡ true
    digit_behind [] rest h lt = absurd (omega arith)
    digit_behind (b ∷ t) rest h lt = and_left _ _ h

    point_begins : (a : List ℕ) → list_all is_digit a ≡ true → (rest : List ℕ) → begins_unsigned ((a ++ 46 ∷ e) ++ rest) ≡ true
    point_begins [] h rest = digit_behind e rest e_digits some
    point_begins (b ∷ t) h rest =
        let first : is_digit b ≡ true = and_left _ _ h in
        or_true (is_digit b) _ first

body_kind : (line : ℕ) (run body digits : List ℕ) (scale : ℕ) (negative : Bool) → IsBody body digits scale → length digits ≤ 18 → begins (λ b. b == 45) run ≡ negative →
    decimal_kind line run body ≡ Ok (kind.Decimal (record { negative = negative; digits = digits; scale = scale }))
body_kind line run body digits scale negative is few sign =
    let fits : nat_lt 18 (length digits) ≡ false = grind (arith, tests) in
    rw (is.decimal, is.digits_are, fits, sign, is.scale_is)

reads_signed : (before line c : ℕ) (body digits rest : List ℕ) (scale : ℕ) (negative : Bool) → is_sign c ≡ true → (c == 45) ≡ negative → leads_sign before ≡ true →
    IsBody body digits scale → length digits ≤ 18 → runs_on rest ≡ false →
    plain_lexeme before line (c ∷ body ++ rest) ≡ Ok (record { kind = kind.Decimal (record { negative = negative; digits = digits; scale = scale }); length = suc (length body) })
reads_signed before line c body digits rest scale negative sign minus leads is few stops =
    let quote : is_quote c ≡ false = grind (arith, tests) in
    let digit : is_digit c ≡ false = grind (arith, tests) in
    let point : is_point c ≡ false = grind (arith, tests) in
    let begun = is.begun rest in
    let number : begins_number before (c ∷ body ++ rest) ≡ true = rw (digit, point, sign, leads, begun) in
    let covered = run_on body rest is.covers (run_stops rest stops) in
    let run : number_run (c ∷ body ++ rest) ≡ c ∷ body = rw (sign, covered) (taken_behind c body rest) in
    let token_is = body_kind line (c ∷ body) body digits scale negative is few minus in
    let kind_is : number_kind line (c ∷ body) ≡ Ok (kind.Decimal (record { negative = negative; digits = digits; scale = scale })) = rw sign token_is in
    rw (quote, number, run, kind_is)
  where
    taken_behind : (c : ℕ) (body rest : List ℕ) → take (1 + length body) (c ∷ body ++ rest) ≡ c ∷ body
    taken_behind c body rest =
        let one : 1 + length body ≡ suc (length body) = omega arith in
        rw one (ap (λ t. c ∷ t) (take-append_seam body rest))

reads_unsigned : (before line : ℕ) (body digits rest : List ℕ) (scale : ℕ) → IsBody body digits scale → length digits ≤ 18 → list_any is_point body ≡ true → runs_on rest ≡ false →
    plain_lexeme before line (body ++ rest) ≡ Ok (record { kind = kind.Decimal (record { negative = false; digits = digits; scale = scale }); length = length body })
reads_unsigned before line [] digits rest scale is few has stops = cc
reads_unsigned before line (b ∷ body) digits rest scale is few has stops =
    let all : list_all (λ b. is_digit b || is_point b) (b ∷ body) ≡ true = and_left _ _ is.decimal in
    let first : (is_digit b || is_point b) ≡ true = and_left _ _ all in
    let quote : is_quote b ≡ false = grind (arith, tests) in
    let sign : is_sign b ≡ false = grind (arith, tests) in
    let minus : (b == 45) ≡ false = grind (arith, tests) in
    let token_is = body_kind line (b ∷ body) (b ∷ body) digits scale false is few minus in
    let kind_is : number_kind line (b ∷ body) ≡ Ok (kind.Decimal (record { negative = false; digits = digits; scale = scale })) = rw (sign, has) token_is in
    reads_number before line b body rest _ (is.begun rest) quote sign is.covers (run_stops rest stops) kind_is

body_along : (body digits digits' : List ℕ) (scale scale' : ℕ) → digits ≡ digits' → scale ≡ scale' → IsBody body digits scale → IsBody body digits' scale'
body_along body digits digits' scale scale' same_digits same_scale is = record {
  covers = is.covers;
  begun = is.begun;
  decimal = is.decimal;
  digits_are = is.digits_are ∙ same_digits;
  scale_is = is.scale_is ∙ same_scale;
}

point_in : (a e : List ℕ) → list_any is_point (a ++ 46 ∷ e) ≡ true
point_in a e = has_point_on a (46 ∷ e) refl

-- the number's body, as it is written
written_body : (digits : List ℕ) (scale : ℕ) → AreDigits digits → scale ≤ length digits → IsBody (pointed scale digits) digits scale
written_body digits scale are fits =
    let before = length digits - scale in
    let whole : take before digits ++ drop before digits ≡ digits = take-append-drop before digits in
    let both : (list_all is_digit (take before digits) && list_all is_digit (drop before digits)) ≡ true =
    sym (list_all-append is_digit (take before digits) (drop before digits)) ∙ ap (list_all is_digit) whole ∙ are.digits_only in
    let behind : length (drop before digits) ≡ scale = omega (arith, length-drop before digits) in
    either_way (scale == 0) _
    (λ none.
    let is_zero : 0 ≡ scale = search (rules, tests) in
    let P : ℕ → Type 0 = λ n. IsBody digits digits n in
    rw none (subst P is_zero (whole_body digits are)))
    (λ more.
    let some : 0 < scale = search (rules, tests) in
    let body = pointed_body (take before digits) (drop before digits) (and_left _ _ both) (and_right (list_all is_digit (take before digits)) _ both) (omega (arith, behind, some)) in
    rw more (body_along _ _ _ _ _ whole behind body))

-- a number that is written without a sign has a period
has_pointed : (digits : List ℕ) (scale : ℕ) → (scale == 0) ≡ false → list_any is_point (pointed scale digits) ≡ true
has_pointed digits scale more =
    rw more (point_in (take (length digits - scale) digits) (drop (length digits - scale) digits))

reads_positive : (before line : ℕ) (v : Bool) (body digits rest : List ℕ) (scale : ℕ) → IsBody body digits scale → length digits ≤ 18 → (v ≡ false → list_any is_point body ≡ true) →
    leads_sign before ≡ true → runs_on rest ≡ false →
    plain_lexeme before line (((if v then 43 ∷ [] else []) ++ body) ++ rest)
    ≡ Ok (record { kind = kind.Decimal (record { negative = false; digits = digits; scale = scale }); length = length ((if v then 43 ∷ [] else []) ++ body) })
reads_positive before line true body digits rest scale is few has leads stops = reads_signed before line 43 body digits rest scale false refl refl leads is few stops
reads_positive before line false body digits rest scale is few has leads stops = reads_unsigned before line body digits rest scale is few (has refl) stops

pub reads_decimal : (before line : ℕ) (negative : Bool) (digits rest : List ℕ) (scale : ℕ) → AreDigits digits → scale ≤ length digits → leads_sign before ≡ true → runs_on rest ≡ false →
    plain_lexeme before line ((sign_of (record { negative = negative; digits = digits; scale = scale }) ++ pointed scale digits) ++ rest)
    ≡ Ok (record { kind = kind.Decimal (record { negative = negative; digits = digits; scale = scale }); length = length (sign_of (record { negative = negative; digits = digits; scale = scale }) ++ pointed scale digits) })
reads_decimal before line true digits rest scale are fits leads stops =
    reads_signed before line 45 (pointed scale digits) digits rest scale true refl refl leads (written_body digits scale are fits) are.few stops
reads_decimal before line false digits rest scale are fits leads stops =
    reads_positive before line (scale == 0) (pointed scale digits) digits rest scale (written_body digits scale are fits) are.few (has_pointed digits scale) leads stops
