-- A text that is judged on by one byte, or at its end.
use Rattle.std.proofs.Common.{◌≡◌, ℕ, ◌+◌, ◌<◌, Bool, true, false, ◌||◌, if◌then◌else◌, List, ◌∷◌, length, get_or, drop, Option, Some, None, refl, sym, ap, ◌∙◌, add-one, drop-cons}
use Rattle.std.proofs.Math.Seq.{drop-length}
use Rattle.std.specs.Char.{to_ascii_uppercase}
use Rattle.picture_data.specs.Edited.{counts_behind, first_plain, is_edit_byte, is_edited_from, is_plain_symbol}

-- the byte at a place, and those behind it
behind : (text : List ℕ) (n : ℕ) → n < length text → drop n text ≡ get_or text n 0 ∷ drop (n + 1) text
behind text n h = drop-cons text n 0 h ∙ ap (λ k. get_or text n 0 ∷ drop k text) (sym (add-one n))

edited_next : (counts : Bool) (byte : ℕ) (rest : List ℕ) → is_edited_from counts (byte ∷ rest) ≡ (is_edit_byte byte counts || is_edited_from (counts_behind byte counts) rest)
unfolding is_edited_from
edited_next counts byte rest = refl

edited_at : (text : List ℕ) (n : ℕ) (counts : Bool) → n < length text → is_edited_from counts (drop n text) ≡ (is_edit_byte (get_or text n 0) counts || is_edited_from (counts_behind (get_or text n 0) counts) (drop (n + 1) text))
edited_at text n counts h = ap (is_edited_from counts) (behind text n h) ∙ edited_next counts (get_or text n 0) (drop (n + 1) text)

-- a symbol that masks alone have
pub edited_here : (text : List ℕ) (n : ℕ) (counts all : Bool) → n < length text → is_edit_byte (get_or text n 0) counts ≡ true → all ≡ is_edited_from counts (drop n text) → true ≡ all
edited_here text n counts all h here is =
    sym (is ∙ edited_at text n counts h ∙ ap (λ b. b || is_edited_from (counts_behind (get_or text n 0) counts) (drop (n + 1) text)) here)

-- no such symbol
pub edited_on : (text : List ℕ) (n : ℕ) (counts all : Bool) → n < length text → is_edit_byte (get_or text n 0) counts ≡ false → all ≡ is_edited_from counts (drop n text) → all ≡ is_edited_from (counts_behind (get_or text n 0) counts) (drop (n + 1) text)
edited_on text n counts all h here is =
    is ∙ edited_at text n counts h ∙ ap (λ b. b || is_edited_from (counts_behind (get_or text n 0) counts) (drop (n + 1) text)) here

pub edited_ends : (text : List ℕ) (n : ℕ) (counts all : Bool) → n ≡ length text → all ≡ is_edited_from counts (drop n text) → false ≡ all
unfolding is_edited_from
edited_ends text n counts all e is =
    sym (is ∙ ap (λ k. is_edited_from counts (drop k text)) e ∙ ap (is_edited_from counts) (drop-length text))

plain_next : (n byte : ℕ) (rest : List ℕ) → first_plain n (byte ∷ rest) ≡ (if is_plain_symbol (to_ascii_uppercase byte) then Some (n + 1) else first_plain (n + 1) rest)
unfolding first_plain
plain_next n byte rest = refl

-- an X, A or S
pub plain_here : (text : List ℕ) (n : ℕ) (all : Option ℕ) → n < length text → is_plain_symbol (to_ascii_uppercase (get_or text n 0)) ≡ true → all ≡ first_plain n (drop n text) → Some (n + 1) ≡ all
plain_here text n all h here is =
    sym (is ∙ ap (first_plain n) (behind text n h) ∙ plain_next n (get_or text n 0) (drop (n + 1) text)
    ∙ ap (λ b. if b then Some (n + 1) else first_plain (n + 1) (drop (n + 1) text)) here)

-- another byte
pub plain_on : (text : List ℕ) (n : ℕ) (all : Option ℕ) → n < length text → is_plain_symbol (to_ascii_uppercase (get_or text n 0)) ≡ false → all ≡ first_plain n (drop n text) → all ≡ first_plain (n + 1) (drop (n + 1) text)
plain_on text n all h here is =
    is ∙ ap (first_plain n) (behind text n h) ∙ plain_next n (get_or text n 0) (drop (n + 1) text)
    ∙ ap (λ b. if b then Some (n + 1) else first_plain (n + 1) (drop (n + 1) text)) here

pub plain_ends : (text : List ℕ) (n : ℕ) (all : Option ℕ) → n ≡ length text → all ≡ first_plain n (drop n text) → None ≡ all
unfolding first_plain
plain_ends text n all e is =
    sym (is ∙ ap (λ k. first_plain n (drop k text)) e ∙ ap (first_plain n) (drop-length text))
