-- A mask as a program holds it: how its counts are written out, and that it is short and in capitals.
use Rattle.std.proofs.Common.{◌≡◌, ℕ, zero, suc, ◌+◌, ◌-◌, ◌<◌, ◌≤◌, ◌==◌, true, false, if◌then◌else◌, List, [], ◌∷◌, ◌++◌, length, map, get_or, drop, replicate, Option, Some, None, refl, sym, ap, ◌∙◌, subst, arith, add-one, drop-cons}
use Rattle.std.proofs.Math.Seq.{drop-length}
use Rattle.std.proofs.lemmas.List.{length-append, map-append}
use Rattle.std.proofs.lemmas.Bool.{eq-eqb, ne_eqb}
use Rattle.std.proofs.lemmas.Str.Ascii.{uppercase-uppercase}
use Rattle.std.specs.Char.{to_ascii_uppercase}
use Rattle.edit_fields.specs.Symbol.{symbol_v}
use Rattle.edit_fields.specs.declared.shape.Shape.{Shape}
use Rattle.edit_fields.specs.Shape.{empty}
use Rattle.edit_fields.specs.Field.{IsNumber, shape_of}
use Rattle.edit_fields.specs.Extent.{no_extent}
use Rattle.edit_fields.specs.declared.reading.SymbolPlace.TheVariants as places
use Rattle.edit_fields.specs.Reading.{counted, is_digit, left_parenthesis, mask_fault_of, written_from, written_out}
use Rattle.edit_fields.specs.Edited.{one_more, shown_size}
use Rattle.edit_fields.specs.Mask.{IsHeldMask}
use Rattle.edit_fields.proofs.BranchLemmas.{either_way, then_taken, else_taken}
use Rattle.edit_fields.proofs.MaskLemmas.{mask_number}
use Rattle.edit_fields.proofs.MasksAreWrittenOut.{masks_are_written_out}
use Rattle.edit_fields.proofs.PrintedMasksAreRead.{mask_short}

-- ---- what a mask shows

one_at_most : (symbol size n : ℕ) → size ≤ n → one_more symbol size ≤ suc n
one_at_most symbol size n h = either_way (λ m. m ≤ suc n) (symbol == symbol_v) size (size + 1) (λ _. omega arith) (λ _. omega arith)

-- a mask shows no more bytes than it has symbols
pub shown_short : (mask : List ℕ) → shown_size mask ≤ length mask
unfolding shown_size
shown_short [] = omega arith
shown_short (byte ∷ rest) = one_at_most (to_ascii_uppercase byte) (shown_size rest) (length rest) (shown_short rest)

-- ---- one byte more of a text

next_byte : (count : Option ℕ) (last n : ℕ) (text : List ℕ) → n < length text → written_from count last (drop n text) ≡ written_from count last (get_or text n 0 ∷ drop (n + 1) text)
next_byte count last n text h =
    ap (written_from count last) (drop-cons text n 0 h ∙ ap (λ k. get_or text n 0 ∷ drop k text) (sym (add-one n)))

outside_count : (last byte : ℕ) (rest : List ℕ) → written_from None last (byte ∷ rest) ≡ (if to_ascii_uppercase byte == left_parenthesis then written_from (Some 0) last rest else to_ascii_uppercase byte ∷ written_from None (to_ascii_uppercase byte) rest)
unfolding written_from
outside_count last byte rest = refl

in_count : (count last byte : ℕ) (rest : List ℕ) → written_from (Some count) last (byte ∷ rest) ≡ (if is_digit (to_ascii_uppercase byte) then written_from (Some (counted count (to_ascii_uppercase byte - 48))) last rest else replicate (count - 1) last ++ written_from None last rest)
unfolding written_from
in_count count last byte rest = refl

outside_at : (last n upper : ℕ) (text : List ℕ) → n < length text → upper ≡ to_ascii_uppercase (get_or text n 0) → written_from None last (drop n text) ≡ (if upper == left_parenthesis then written_from (Some 0) last (drop (n + 1) text) else upper ∷ written_from None upper (drop (n + 1) text))
outside_at last n upper text h u =
    next_byte None last n text h ∙ outside_count last (get_or text n 0) (drop (n + 1) text)
    ∙ ap (λ b. if b == left_parenthesis then written_from (Some 0) last (drop (n + 1) text) else b ∷ written_from None b (drop (n + 1) text)) (sym u)

in_at : (count last n upper : ℕ) (text : List ℕ) → n < length text → upper ≡ to_ascii_uppercase (get_or text n 0) → written_from (Some count) last (drop n text) ≡ (if is_digit upper then written_from (Some (counted count (upper - 48))) last (drop (n + 1) text) else replicate (count - 1) last ++ written_from None last (drop (n + 1) text))
in_at count last n upper text h u =
    next_byte (Some count) last n text h ∙ in_count count last (get_or text n 0) (drop (n + 1) text)
    ∙ ap (λ b. if is_digit b then written_from (Some (counted count (b - 48))) last (drop (n + 1) text) else replicate (count - 1) last ++ written_from None last (drop (n + 1) text)) (sym u)

-- ---- all of a text, by the symbols that are written and those to come

-- a count begins
pub count_begins : (all symbols text : List ℕ) (last n upper : ℕ) → n < length text → upper ≡ to_ascii_uppercase (get_or text n 0) → upper ≡ 40 → all ≡ symbols ++ written_from None last (drop n text) → all ≡ symbols ++ written_from (Some 0) last (drop (n + 1) text)
count_begins all symbols text last n upper h u left is =
    is ∙ ap (λ l. symbols ++ l) (outside_at last n upper text h u ∙ then_taken (upper == left_parenthesis) _ _ (eq-eqb upper 40 left))

-- a symbol is written
pub symbol_comes : (all symbols text : List ℕ) (last n upper : ℕ) → n < length text → upper ≡ to_ascii_uppercase (get_or text n 0) → (upper ≡ 40 → ⊥) → all ≡ symbols ++ written_from None last (drop n text) → all ≡ symbols ++ (upper ∷ written_from None upper (drop (n + 1) text))
symbol_comes all symbols text last n upper h u other is =
    is ∙ ap (λ l. symbols ++ l) (outside_at last n upper text h u ∙ else_taken (upper == left_parenthesis) _ _ (ne_eqb upper 40 other))

append_one : (xs : List ℕ) (y : ℕ) (ys : List ℕ) → xs ++ y ∷ ys ≡ (xs ++ y ∷ []) ++ ys
append_one [] y ys = refl
append_one (x ∷ xs) y ys = ap (λ l. x ∷ l) (append_one xs y ys)

append_all : (xs ys zs : List ℕ) → xs ++ (ys ++ zs) ≡ (xs ++ ys) ++ zs
append_all [] ys zs = refl
append_all (x ∷ xs) ys zs = ap (λ l. x ∷ l) (append_all xs ys zs)

-- and stands among the written ones
pub symbol_written : (all symbols rest new : List ℕ) (upper : ℕ) → new ≡ symbols ++ upper ∷ [] → all ≡ symbols ++ (upper ∷ rest) → all ≡ new ++ rest
symbol_written all symbols rest new upper e is = is ∙ append_one symbols upper rest ∙ ap (λ l. l ++ rest) (sym e)

-- a digit of a count
pub count_goes_on : (all symbols text : List ℕ) (count last n upper : ℕ) → n < length text → upper ≡ to_ascii_uppercase (get_or text n 0) → is_digit upper ≡ true → all ≡ symbols ++ written_from (Some count) last (drop n text) → all ≡ symbols ++ written_from (Some (counted count (upper - 48))) last (drop (n + 1) text)
count_goes_on all symbols text count last n upper h u digit is =
    is ∙ ap (λ l. symbols ++ l) (in_at count last n upper text h u ∙ then_taken (is_digit upper) _ _ digit)

-- a count ends
pub count_ends : (all symbols text : List ℕ) (count last n upper : ℕ) → n < length text → upper ≡ to_ascii_uppercase (get_or text n 0) → is_digit upper ≡ false → all ≡ symbols ++ written_from (Some count) last (drop n text) → all ≡ symbols ++ (replicate (count - 1) last ++ written_from None last (drop (n + 1) text))
count_ends all symbols text count last n upper h u other is =
    is ∙ ap (λ l. symbols ++ l) (in_at count last n upper text h u ∙ else_taken (is_digit upper) _ _ other)

-- and its symbols stand among the written ones
pub run_written : (all symbols run rest new : List ℕ) → new ≡ symbols ++ run → all ≡ symbols ++ (run ++ rest) → all ≡ new ++ rest
run_written all symbols run rest new e is = is ∙ append_all symbols run rest ∙ ap (λ l. l ++ rest) (sym e)

-- what is still to come has room
pub room_for_run : (all symbols run rest : List ℕ) → all ≡ symbols ++ (run ++ rest) → length all ≤ 160 → length symbols + length run ≤ 160
room_for_run all symbols run rest is h =
    let whole : length all ≡ length symbols + length (run ++ rest) = ap length is ∙ length-append symbols (run ++ rest) in
    let part : length (run ++ rest) ≡ length run + length rest = length-append run rest in
    omega (arith, whole, part, h)

pub room_for_symbol : (all symbols rest : List ℕ) (upper : ℕ) → all ≡ symbols ++ (upper ∷ rest) → length all ≤ 160 → length symbols < 160
room_for_symbol all symbols rest upper is h =
    let whole : length all ≡ length symbols + suc (length rest) = ap length is ∙ length-append symbols (upper ∷ rest) in
    omega (arith, whole, h)

nothing_more : (count : Option ℕ) (last : ℕ) → written_from count last [] ≡ []
unfolding written_from
nothing_more count last = refl

append_none : (xs : List ℕ) → xs ++ [] ≡ xs
append_none [] = refl
append_none (x ∷ xs) = ap (λ l. x ∷ l) (append_none xs)

-- all is written at the end
pub all_written : (all symbols text : List ℕ) (count : Option ℕ) (last n : ℕ) → n ≡ length text → all ≡ symbols ++ written_from count last (drop n text) → symbols ≡ all
all_written all symbols text count last n e is =
    sym (is ∙ ap (λ k. symbols ++ written_from count last (drop k text)) e ∙ ap (λ l. symbols ++ written_from count last l) (drop-length text)
    ∙ ap (λ l. symbols ++ l) (nothing_more count last) ∙ append_none symbols)

-- ---- capitals

capital_run : (n symbol : ℕ) → to_ascii_uppercase symbol ≡ symbol → map to_ascii_uppercase (replicate n symbol) ≡ replicate n symbol
capital_run zero symbol e = refl
capital_run (suc n) symbol e = ap (λ b. b ∷ map to_ascii_uppercase (replicate n symbol)) e ∙ ap (λ l. symbol ∷ l) (capital_run n symbol e)

written_capital : (text : List ℕ) (count : Option ℕ) (last : ℕ) → to_ascii_uppercase last ≡ last → map to_ascii_uppercase (written_from count last text) ≡ written_from count last text
unfolding written_from
written_capital [] count last e = refl
written_capital (byte ∷ rest) None last e =
    either_way (λ (l : List ℕ). map to_ascii_uppercase l ≡ l) (to_ascii_uppercase byte == left_parenthesis) _ _
    (λ _. written_capital rest (Some 0) last e)
    (λ _. ap (λ b. b ∷ map to_ascii_uppercase (written_from None (to_ascii_uppercase byte) rest)) (uppercase-uppercase byte)
    ∙ ap (λ l. to_ascii_uppercase byte ∷ l) (written_capital rest None (to_ascii_uppercase byte) (uppercase-uppercase byte)))
written_capital (byte ∷ rest) (Some count) last e =
    either_way (λ (l : List ℕ). map to_ascii_uppercase l ≡ l) (is_digit (to_ascii_uppercase byte)) _ _
    (λ _. written_capital rest (Some (counted count (to_ascii_uppercase byte - 48))) last e)
    (λ _. map-append to_ascii_uppercase (replicate (count - 1) last) (written_from None last rest)
    ∙ ap (λ l. l ++ map to_ascii_uppercase (written_from None last rest)) (capital_run (count - 1) last e)
    ∙ ap (λ l. replicate (count - 1) last ++ l) (written_capital rest None last e))

-- ---- masks

-- what a text without faults stands for is held
pub held_of : (text : List ℕ) → mask_fault_of text ≡ None → IsHeldMask (written_out text)
held_of text h = record { is_mask = masks_are_written_out text h; capitals = written_capital text None 0 refl }

-- it has at most 160 symbols
pub held_short : (mask : List ℕ) → IsHeldMask mask → length mask ≤ 160
held_short mask h =
    let short : 0 + length mask ≤ 160 = mask_short mask 0 empty no_extent places.Open refl h.capitals h.is_mask.written_out h.is_mask.no_fault in
    omega (arith, short)

-- it has as many digits as a number
pub held_number : (mask : List ℕ) (shape : Shape) → IsHeldMask mask → shape ≡ shape_of mask → IsNumber shape.whole shape.part
held_number mask shape h is = subst (λ (s : Shape). IsNumber s.whole s.part) (sym is) (mask_number mask h.is_mask)
