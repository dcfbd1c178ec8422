-- A token takes some bytes, and no more than there are.
use Rattle.std.proofs.Common.{ℕ, ◌≡◌, ◌<◌, ◌≤◌, ◌+◌, ◌-◌, Bool, true, false, not, List, [], ◌∷◌, take, length, slice_index, arith, refl, rules, tests, length-take}
use Rattle.cob_base.specs.Answers.{Answers}
use Rattle.cobol_lex.specs.Byte.{is_quote, is_letter, is_digit, is_point, is_sign, is_mark, is_white, begins}
use Rattle.cobol_lex.specs.Word.{word_run}
use Rattle.cobol_lex.specs.Number.{begins_unsigned, begins_number, number_run, unsigned_length}
use Rattle.cobol_lex.specs.Literal.{quoted_by, quoted_lexeme}
use Rattle.cobol_lex.specs.Awaits.{awaits_picture}
use Rattle.cobol_lex.specs.Picture.{ends_picture, less_last, filled_run, picture_run, picture_lexeme}
use Rattle.cobol_lex.specs.Lexeme.{lexeme_of, mark_lexeme, plain_lexeme, next_lexeme}
use Rattle.std.specs.Prelude.{IfOk, Result, Ok, Err, Option, Some, None, if◌then◌else◌, ◌==◌, ◌||◌, ◌&&◌, nat_le}
use Rattle.std.specs.List.{prefix_len}
use Rattle.std.proofs.lemmas.List.Folds.{length-prefix_len}
use Rattle.cob_base.specs.Spelling.{word_byte}
use Rattle.cobol_lex.specs.declared.token.TokenKind.{TokenKind}
use Rattle.cobol_lex.specs.declared.awaits.Awaits.{Awaits}
use Rattle.cobol_lex.specs.declared.lexeme.Lexeme.{Lexeme}
use Rattle.cobol_lex.specs.declared.literal.Quoted.{Quoted}
use Rattle.cobol_lex.specs.declared.fault.LexError.{LexError}
use Rattle.cobol_lex.specs.declared.fault.LexError.TheVariants as error
use Rattle.cobol_lex.proofs.LiteralLemmas.{quoted_within}
use Rattle.cobol_lex.proofs.RunLemmas.{run_within}

-- the token takes at least one byte, and at most so many
abbrev pub Takes : ℕ → Result Lexeme LexError → Type 0
Takes most lexeme = (c : Lexeme) → lexeme ≡ Ok c → (0 < c.length) × (c.length ≤ most)

takes_choice : (v : Bool) (most : ℕ) (x y : Result Lexeme LexError) → (v ≡ true → Takes most x) → (v ≡ false → Takes most y) → Takes most (if v then x else y)
takes_choice true most x y in_x in_y = in_x refl
takes_choice false most x y in_x in_y = in_y refl

takes_none : (most : ℕ) (fault : LexError) → Takes most (Err fault)
takes_none most fault c is = cc

takes : (most length : ℕ) (kind : TokenKind) → 0 < length → length ≤ most → Takes most (Ok (record { kind = kind; length = length }))
takes most length kind some within c is =
    let same : length ≡ c.length = cc in
    (omega arith, omega arith)

takes_lexeme_of : (most length : ℕ) (kind : Result TokenKind LexError) → 0 < length → length ≤ most → Takes most (lexeme_of length kind)
takes_lexeme_of most length (Ok kind) some within = takes most length kind some within
takes_lexeme_of most length (Err fault) some within = takes_none most fault

takes_picture : (line most : ℕ) (run : List ℕ) → length run ≤ most → Takes most (picture_lexeme line run)
takes_picture line most [] within = takes_none most _
takes_picture line most (b ∷ rest) within = takes most _ _ (omega arith) within

less_last_within : (kind : ℕ → Bool) (run : List ℕ) → length (less_last kind run) ≤ length run
less_last_within kind run =
    elim (kind (slice_index run (length run - 1))) as (λ v. length (if v then take (length run - 1) run else run) ≤ length run) [
      | true ↦ simp length-take (omega arith)
      | false ↦ omega arith
    ]

picture_within : (bytes : List ℕ) → length (picture_run bytes) ≤ length bytes
picture_within bytes =
    let filled = run_within (λ b. not (is_white b)) bytes in
    let less = less_last_within ends_picture (filled_run bytes) in
    omega arith

takes_quoted : (line most : ℕ) (quoted : Option Quoted) → ((q : Quoted) → quoted ≡ Some q → 1 + q.taken ≤ most) → Takes most (quoted_lexeme line quoted)
takes_quoted line most None within = takes_none most _
takes_quoted line most (Some quoted) within =
    let fits = within quoted refl in
    takes_choice (nat_le 1 (length quoted.value) && nat_le (length quoted.value) 160) most _ _ (λ _. takes most _ _ (omega arith) fits) (λ _. takes_none most _)

begins_some : (kind : ℕ → Bool) (bytes : List ℕ) → begins kind bytes ≡ true → 0 < length bytes
begins_some kind [] is = cc
begins_some kind (b ∷ rest) is = omega arith

takes_mark : (line b : ℕ) (rest : List ℕ) → Takes (length (b ∷ rest)) (mark_lexeme line b rest)
takes_mark line b rest =
    let most = length (b ∷ rest) in
    takes_choice (is_point b) most _ _ (λ _. takes most 1 _ (omega arith) (omega arith)) (λ _.
    takes_choice (b == 42 && begins (λ c. c == 42) rest) most _ _ (λ is. takes most 2 _ (omega arith) (pair_fits 42 42 is)) (λ _.
    takes_choice (b == 60 && begins (λ c. c == 61) rest) most _ _ (λ is. takes most 2 _ (omega arith) (pair_fits 60 61 is)) (λ _.
    takes_choice (b == 62 && begins (λ c. c == 61) rest) most _ _ (λ is. takes most 2 _ (omega arith) (pair_fits 62 61 is)) (λ _.
    takes_choice (is_mark b) most _ _ (λ _. takes most 1 _ (omega arith) (omega arith)) (λ _. takes_none most _)))))
  where
    pair_fits : (first second : ℕ) → (b == first && begins (λ c. c == second) rest) ≡ true → 2 ≤ length (b ∷ rest)
    pair_fits first second is =
        let second_is : begins (λ c. c == second) rest ≡ true = search (rules, tests) in
        let some = begins_some (λ c. c == second) rest second_is in
        omega arith

word_some : (b : ℕ) (rest : List ℕ) → word_byte b ≡ true → 0 < length (word_run (b ∷ rest))
word_some b rest is =
    let counted = length-prefix_len word_byte (b ∷ rest) in
    let first : prefix_len word_byte (b ∷ rest) ≡ 1 + prefix_len word_byte rest = rw is in
    omega arith

letter_word : (b : ℕ) → is_letter b ≡ true → word_byte b ≡ true
letter_word b is = grind (arith, tests)

digit_word : (b : ℕ) → is_digit b ≡ true → word_byte b ≡ true
digit_word b is = grind (arith, tests)

unsigned_some : (b : ℕ) (rest : List ℕ) → begins_unsigned (b ∷ rest) ≡ true → 0 < unsigned_length (b ∷ rest)
unsigned_some b rest is =
    let inside : (word_byte b || is_point b && begins is_digit rest) ≡ true = either is in
    rw inside (omega arith)
  where
    or_word : (y v : Bool) → (v ≡ true → word_byte b ≡ true) → (v || y) ≡ true → (word_byte b || y) ≡ true
    or_word y true word h = rw (word refl)
    or_word true false word h = elim (word_byte b) as (λ w. (w || true) ≡ true) [ true ↦ refl | false ↦ refl ]
    or_word false false word h = cc

    either : (is_digit b || is_point b && begins is_digit rest) ≡ true → (word_byte b || is_point b && begins is_digit rest) ≡ true
    either h = or_word (is_point b && begins is_digit rest) (is_digit b) (digit_word b) h

number_some : (before b : ℕ) (rest : List ℕ) → begins_number before (b ∷ rest) ≡ true → 0 < length (number_run (b ∷ rest))
number_some before b rest is =
    let some : 0 < (if is_sign b then 1 + unsigned_length rest else unsigned_length (b ∷ rest)) = either (is_sign b) (unsigned_length rest) _ (λ isnt. unsigned_some b rest (plain (begins_unsigned (b ∷ rest)) (is_sign b) _ isnt is)) in
    simp length-take (omega arith)
  where
    either : (v : Bool) (x y : ℕ) → (v ≡ false → 0 < y) → 0 < (if v then 1 + x else y)
    either true x y h = omega arith
    either false x y h = h refl

    plain : (u v w : Bool) → v ≡ false → (u || v && w && begins_unsigned rest) ≡ true → u ≡ true
    plain true v w isnt h = refl
    plain false true w isnt h = cc
    plain false false w isnt h = cc

number_within : (bytes : List ℕ) → length (number_run bytes) ≤ length bytes
number_within bytes = simp length-take (omega arith)

takes_plain : (before line : ℕ) (bytes : List ℕ) → Takes (length bytes) (plain_lexeme before line bytes)
takes_plain before line [] = takes_none _ _
takes_plain before line (b ∷ rest) =
    takes_choice (is_quote b) _ _ _ (λ _. takes_quoted line _ (quoted_by b rest) (λ q is. let taken = quoted_within b rest q is in omega arith)) (λ _.
    takes_choice (begins_number before (b ∷ rest)) _ _ _ (λ is. takes_lexeme_of _ _ _ (number_some before b rest is) (number_within (b ∷ rest))) (λ _.
    takes_choice (is_letter b) _ _ _ (λ is. takes_lexeme_of _ _ _ (word_some b rest (letter_word b is)) (run_within word_byte (b ∷ rest))) (λ _.
    takes_mark line b rest)))

pub takes_next : (awaits : Awaits) (before line : ℕ) (bytes : List ℕ) → Takes (length bytes) (next_lexeme awaits before line bytes)
takes_next awaits before line bytes =
    takes_choice (awaits_picture awaits bytes) _ _ _ (λ _. takes_picture line _ (picture_run bytes) (picture_within bytes)) (λ _. takes_plain before line bytes)

pub answer_takes : (awaits : Awaits) (before line : ℕ) (bytes : List ℕ) (answer : Result Lexeme LexError) → Answers error.NoMemory (next_lexeme awaits before line bytes) answer →
    IfOk answer (λ lexeme. (0 < lexeme.length) × (lexeme.length ≤ length bytes))
answer_takes awaits before line bytes (Ok lexeme) h = takes_next awaits before line bytes lexeme h
answer_takes awaits before line bytes (Err fault) h = tt
