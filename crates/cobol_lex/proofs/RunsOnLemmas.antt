-- Runs that end where what follows does not run on with them.
use Rattle.std.proofs.Common.{ℕ, ◌≡◌, true, false, List, [], ◌∷◌, ◌++◌, take, length, ap, ◌∙◌, arith, refl, tests}
use Rattle.std.proofs.Math.Seq.{take-append_seam}
use Rattle.std.specs.Prelude.{◌==◌, ◌||◌, ◌&&◌}
use Rattle.std.specs.List.{list_any, list_all, prefix_len}
use Rattle.cob_base.specs.Spelling.{word_byte}
use Rattle.cobol_lex.specs.Byte.{is_digit, is_point, is_sign, begins}
use Rattle.cobol_lex.specs.Word.{word_run}
use Rattle.cobol_lex.specs.Number.{begins_unsigned, number_run, unsigned_length}
use Rattle.cobol_lex.specs.Written.{runs_on}
use Rattle.cobol_lex.proofs.BoolLemmas.{or_left, or_right, and_left, and_right, counted, word_alone, or_true}

-- what stands behind the token ends it
pub stop_word : (rest : List ℕ) → runs_on rest ≡ false → begins word_byte rest ≡ false
stop_word rest h = or_left _ _ (or_left _ _ h)

pub stop_other : (rest : List ℕ) → runs_on rest ≡ false → begins (λ b. b == 34 || b == 61 || b == 42) rest ≡ false
stop_other rest h = or_right (begins word_byte rest) _ (or_left _ (begins_unsigned rest) h)

pub stop_unsigned : (rest : List ℕ) → runs_on rest ≡ false → begins_unsigned rest ≡ false
stop_unsigned rest h = or_right (begins word_byte rest || begins (λ b. b == 34 || b == 61 || b == 42) rest) _ h

pub run_stops : (rest : List ℕ) → runs_on rest ≡ false → unsigned_length rest ≡ 0
run_stops [] h = refl
run_stops (b ∷ rest) h =
    let no_word : word_byte b ≡ false = stop_word (b ∷ rest) h in
    let no_point : (is_point b && begins is_digit rest) ≡ false = or_right (is_digit b) _ (stop_unsigned (b ∷ rest) h) in
    rw (no_word, no_point)

-- a run that covers a text alone covers it before what ends it
pub run_on : (w rest : List ℕ) → unsigned_length w ≡ length w → unsigned_length rest ≡ 0 → unsigned_length (w ++ rest) ≡ length w
run_on [] rest h stops = stops
run_on (b ∷ []) rest h stops =
    let is_word = word_alone (word_byte b) (is_point b) (counted _ 0 0 h).0 in
    let inside : (word_byte b || is_point b && begins is_digit rest) ≡ true = or_true _ _ is_word in
    rw (inside, stops) (omega arith)
run_on (b ∷ c ∷ w) rest h stops =
    let both = counted (word_byte b || is_point b && is_digit c) (unsigned_length (c ∷ w)) (length (c ∷ w)) h in
    let more = run_on (c ∷ w) rest both.1 stops in
    rw both.0 (omega arith)

-- a run of letters, digits and hyphens
pub words_run : (w : List ℕ) → list_all word_byte w ≡ true → unsigned_length w ≡ length w
words_run [] h = refl
words_run (b ∷ w) h =
    let first : word_byte b ≡ true = and_left _ _ h in
    let more = words_run w (and_right (word_byte b) _ h) in
    rw (or_true _ (is_point b && begins is_digit w) first) (omega arith)

prefix_on : (w rest : List ℕ) → list_all word_byte w ≡ true → begins word_byte rest ≡ false → prefix_len word_byte (w ++ rest) ≡ length w
prefix_on [] [] h stops = refl
prefix_on [] (b ∷ rest) h stops = rw stops
prefix_on (b ∷ w) rest h stops =
    let first : word_byte b ≡ true = and_left _ _ h in
    let more = prefix_on w rest (and_right (word_byte b) _ h) stops in
    rw first (omega arith)

pub no_points : (w : List ℕ) → list_all word_byte w ≡ true → list_any is_point w ≡ false
no_points [] h = refl
no_points (b ∷ w) h =
    let first : word_byte b ≡ true = and_left _ _ h in
    let point : is_point b ≡ false = grind (arith, tests) in
    let more = no_points w (and_right (word_byte b) _ h) in
    rw point more

pub digits_are_words : (d : List ℕ) → list_all is_digit d ≡ true → list_all word_byte d ≡ true
digits_are_words [] h = refl
digits_are_words (b ∷ d) h =
    let digit : is_digit b ≡ true = and_left _ _ h in
    let first : word_byte b ≡ true = grind (arith, tests) in
    let more = digits_are_words d (and_right (is_digit b) _ h) in
    rw first more

pub number_run-on : (w rest : List ℕ) → begins is_sign (w ++ rest) ≡ false → unsigned_length w ≡ length w → unsigned_length rest ≡ 0 → number_run (w ++ rest) ≡ w
number_run-on w rest unsigned_text covers stops =
    let run = run_on w rest covers stops in
    rw (unsigned_text, run) (take-append_seam w rest)

pub word_run-on : (w rest : List ℕ) → list_all word_byte w ≡ true → begins word_byte rest ≡ false → word_run (w ++ rest) ≡ w
word_run-on w rest words stops = ap (λ n. take n (w ++ rest)) (prefix_on w rest words stops) ∙ take-append_seam w rest
