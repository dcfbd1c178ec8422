-- A card that is filled from the left.
use Rattle.std.proofs.Common.{◌≡◌, ℕ, zero, suc, ◌==◌, ◌||◌, Bool, true, false, refl, ◌+◌, ◌-◌, ◌<◌, ◌≤◌, List, [], ◌∷◌, ◌++◌, length, take, drop, set, replicate, sym, ap, ◌∙◌, append_assoc, arith}
use Rattle.std.proofs.Math.ListN.{take-append-drop}
use Rattle.std.proofs.Math.Seq.{drop-drop, take-add, take-append-add}
use Rattle.std.proofs.lemmas.List.{length-replicate, take-replicate, drop-replicate, take_more_set, drop-set-lt, take-append-le}
use Rattle.ref_format.specs.Column.{card_of, plain_card, untabbed, has_tab}

-- spaces that the card has already
pub spaces_step : (card rest : List ℕ) (n w k : ℕ) → drop n card ≡ replicate (w + k) 32 → take n card ++ take (w + k) (replicate w 32 ++ rest) ≡ take (n + w) card ++ take k rest
spaces_step card rest n w k e =
    let front : take (w + k) (replicate w 32 ++ rest) ≡ replicate w 32 ++ take k rest = rw length-replicate at (take-append-add (replicate w 32) rest k) in
    let grown : take (n + w) card ≡ take n card ++ replicate w 32 = take-add n w card ∙ ap (λ xs. take n card ++ take w xs) e ∙ ap (λ xs. take n card ++ xs) (take-replicate w (w + k) 32 (omega arith)) in
    ap (λ xs. take n card ++ xs) front ∙ sym (append_assoc (take n card) (replicate w 32) (take k rest)) ∙ ap (λ xs. xs ++ take k rest) (sym grown)

pub spaces_left : (card : List ℕ) (n w k : ℕ) → drop n card ≡ replicate (w + k) 32 → drop (n + w) card ≡ replicate k 32
spaces_left card n w k e =
    let less : w + k - w ≡ k = omega arith in
    sym (drop-drop w n card) ∙ ap (drop w) e ∙ drop-replicate w (w + k) 32 ∙ ap (λ m. replicate m 32) less

pub byte_step : (card rest : List ℕ) (n k b : ℕ) → n < length card → take n card ++ take (suc k) (b ∷ rest) ≡ take (n + 1) (set card n b) ++ take k rest
byte_step card rest n k b h =
    sym (append_assoc (take n card) (b ∷ []) (take k rest)) ∙ ap (λ xs. xs ++ take k rest) (sym (take_more_set card n b h))

pub byte_left : (card : List ℕ) (n k b : ℕ) → drop n card ≡ replicate (1 + k) 32 → drop (n + 1) (set card n b) ≡ replicate k 32
byte_left card n k b e = drop-set-lt (n + 1) card n b (omega arith) ∙ spaces_left card n 1 k e

pub filled_all : (card : List ℕ) (n k : ℕ) → k ≤ 72 → drop n card ≡ replicate k 32 → take n card ++ take k (replicate 72 32) ≡ card
filled_all card n k h e =
    ap (λ xs. take n card ++ xs) (take-replicate k 72 32 h ∙ sym e) ∙ take-append-drop n card

-- ---- a line without tabs

pub plain_card-long : (line : List ℕ) → 72 ≤ length line → take 72 line ≡ plain_card line
plain_card-long line h = sym (take-append-le 72 line (replicate 72 32) h)

pub plain_card-short : (line : List ℕ) → length line ≤ 72 → line ++ drop (length line) (replicate 72 32) ≡ plain_card line
plain_card-short line h =
    let n : ℕ = 72 - length line in
    let room : length line + n ≡ 72 = omega arith in
    let front : take (length line + n) (line ++ replicate 72 32) ≡ line ++ take n (replicate 72 32) = take-append-add line (replicate 72 32) n in
    let spaces : drop (length line) (replicate 72 32) ≡ take n (replicate 72 32) = drop-replicate (length line) 72 32 ∙ sym (take-replicate n 72 32 (omega arith)) in
    ap (λ xs. line ++ xs) spaces ∙ sym front ∙ ap (λ m. take m (line ++ replicate 72 32)) room

or_false : (a b : Bool) → (a || b) ≡ false → (a ≡ false) × (b ≡ false)
or_false true b e = absurd cc
or_false false b e = (refl, e)

untabbed_front : (k before : ℕ) (line rest : List ℕ) → has_tab (take k (line ++ rest)) ≡ false → take k (untabbed before line ++ rest) ≡ take k (line ++ rest)
untabbed_front zero before line rest e = refl
untabbed_front (suc k) before [] rest e = refl
untabbed_front (suc k) before (b ∷ line) rest e =
    let both = or_false (b == 9) (has_tab (take k (line ++ rest))) e in
    rw both.0 (ap (λ xs. b ∷ xs) (untabbed_front k (before + 1) line rest both.1))

pub card_of-plain : (line : List ℕ) → has_tab (plain_card line) ≡ false → plain_card line ≡ card_of line
unfolding card_of
card_of-plain line e = sym (untabbed_front 72 0 line (replicate 72 32) e)
