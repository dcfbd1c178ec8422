-- A picture that is written is read back.
use Rattle.std.proofs.Common.{ℕ, ◌≡◌, ◌<◌, ◌+◌, ◌-◌, true, false, not, List, [], ◌∷◌, ◌++◌, take, length, slice_index, ap, ◌∙◌, arith, refl, append-nil, length-append}
use Rattle.std.proofs.Math.Seq.{take-append_seam, take-append-add}
use Rattle.std.specs.Prelude.{Ok, ◌&&◌}
use Rattle.std.specs.List.{list_all, prefix_len}
use Rattle.std.proofs.lemmas.Grind.{common_steps}
use Rattle.cobol_lex.specs.Byte.{is_white}
use Rattle.cobol_lex.specs.Picture.{ends_picture, filled_run, less_last, picture_run, picture_lexeme}
use Rattle.cobol_lex.specs.Written.{IsPicture, ends_picture_run, is_open}
use Rattle.cobol_lex.specs.Laws.{PictureReadsBack}
use Rattle.cobol_lex.specs.declared.token.TokenKind.TheVariants as kind
use Rattle.cobol_lex.proofs.BoolLemmas.{and_left, and_right, either_way}

-- a picture
filled_on : (w rest : List ℕ) → list_all (λ b. not (is_white b)) w ≡ true → prefix_len (λ b. not (is_white b)) (w ++ rest) ≡ length w + prefix_len (λ b. not (is_white b)) rest
filled_on [] rest h = zero_more _
  where
    zero_more : (n : ℕ) → n ≡ 0 + n
    zero_more n = omega arith
filled_on (b ∷ w) rest h =
    let first : not (is_white b) ≡ true = and_left _ _ h in
    let more = filled_on w rest (and_right (not (is_white b)) _ h) in
    rw first (omega arith)

filled_run-on : (w rest : List ℕ) (n : ℕ) → list_all (λ b. not (is_white b)) w ≡ true → prefix_len (λ b. not (is_white b)) rest ≡ n → filled_run (w ++ rest) ≡ w ++ take n rest
filled_run-on w rest n h stops = ap (λ k. take k (w ++ rest)) (filled_on w rest h ∙ ap (λ k. length w + k) stops) ∙ take-append-add w rest n

last_of : (w : List ℕ) (b : ℕ) → slice_index (w ++ b ∷ []) (length (w ++ b ∷ []) - 1) ≡ b
last_of w b = grind (arith, common_steps)

front_of : (w : List ℕ) (b : ℕ) → take (length (w ++ b ∷ []) - 1) (w ++ b ∷ []) ≡ w
front_of w b =
    let count : length (w ++ b ∷ []) - 1 ≡ length w = omega (arith, length-append w (b ∷ [])) in
    ap (λ n. take n (w ++ b ∷ [])) count ∙ take-append_seam w (b ∷ [])

less_none : (w : List ℕ) → ends_picture (slice_index w (length w - 1)) ≡ false → less_last ends_picture w ≡ w
less_none w h = rw h

less_one : (w : List ℕ) (b : ℕ) → ends_picture b ≡ true → less_last ends_picture (w ++ b ∷ []) ≡ w
less_one w b h =
    let ended : ends_picture (slice_index (w ++ b ∷ []) (length (w ++ b ∷ []) - 1)) ≡ true = ap ends_picture (last_of w b) ∙ h in
    rw ended (front_of w b)

blank_stops : (b : ℕ) (rest : List ℕ) → is_white b ≡ true → prefix_len (λ c. not (is_white c)) (b ∷ rest) ≡ 0
blank_stops b rest blank = rw blank

open_stops : (rest : List ℕ) → is_open rest ≡ true → prefix_len (λ c. not (is_white c)) rest ≡ 0
open_stops [] h = refl
open_stops (b ∷ rest) h = blank_stops b rest h

one_filled : (b : ℕ) (rest : List ℕ) → is_white b ≡ false → prefix_len (λ c. not (is_white c)) rest ≡ 0 → prefix_len (λ c. not (is_white c)) (b ∷ rest) ≡ 1
one_filled b rest filled stops = rw (filled, stops)

picture_run-on : (w rest : List ℕ) → IsPicture w → ends_picture_run rest ≡ true → picture_run (w ++ rest) ≡ w
picture_run-on w [] is ends =
    ap (less_last ends_picture) (filled_run-on w [] 0 is.filled refl ∙ append-nil w) ∙ less_none w is.ended
picture_run-on w (b ∷ rest) is ends =
    either_way (is_white b) _
    (λ blank. ap (less_last ends_picture) (filled_run-on w (b ∷ rest) 0 is.filled (blank_stops b rest blank) ∙ append-nil w) ∙ less_none w is.ended)
    (λ filled.
    let behind : (ends_picture b && is_open rest) ≡ true = rw filled at ends in
    ap (less_last ends_picture) (filled_run-on w (b ∷ rest) 1 is.filled (one_filled b rest filled (open_stops rest (and_right (ends_picture b) _ behind))))
    ∙ less_one w b (and_left _ _ behind))

picture_lexeme-is : (line : ℕ) (w : List ℕ) → 0 < length w → picture_lexeme line w ≡ Ok (record { kind = kind.Picture w; length = length w })
picture_lexeme-is line [] some = absurd (omega arith)
picture_lexeme-is line (b ∷ w) some = refl

pub picture_reads_back : PictureReadsBack
picture_reads_back picture awaits before line rest is comes ends =
    let run = picture_run-on picture rest is ends in
    rw (comes, run) (picture_lexeme-is line picture is.some)
