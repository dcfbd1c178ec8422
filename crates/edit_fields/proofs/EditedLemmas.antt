-- The bytes of a mask, one symbol on, as the code writes them.
use Rattle.std.proofs.Common.{◌≡◌, ℕ, suc, ◌+◌, ◌-◌, ◌<◌, ◌≤◌, Bool, true, false, not, ◌==◌, ◌&&◌, ◌||◌, if◌then◌else◌, List, [], ◌∷◌, ◌++◌, length, get_or, take, drop, set, length-set, Option, slice_get, inl, inr, refl, sym, ap, ◌∙◌, arith, add-one, drop-cons}
use Rattle.std.proofs.Math.Seq.{drop-length}
use Rattle.std.proofs.lemmas.List.{drop_all, drop_more, take-set, take_all, take_more_set}
use Rattle.std.proofs.lemmas.Bool.{and_right, cases_Bool, eq-eqb, eqb-true, ne_eqb, or_parts}
use Rattle.std.specs.Char.{to_ascii_uppercase}
use Rattle.edit_fields.specs.declared.field.Field.{Field}
use Rattle.edit_fields.specs.Symbol.{symbol_9, symbol_period, symbol_v}
use Rattle.edit_fields.specs.Field.{digit_of}
use Rattle.edit_fields.specs.Edited.{blank_byte, hidden_byte, one_more, shown_size, with_byte}
use Rattle.edit_fields.specs.LightPen.{LightPen, blank_written, floated, is_counted, is_seen, left_byte, light_byte_of, light_passed, light_shows, light_written, other_byte, right_behind, shown_by}
use Rattle.edit_fields.proofs.BranchLemmas.{then_taken, else_taken}

append_one : (xs : List ℕ) (y : ℕ) (ys : List ℕ) → xs ++ y ∷ ys ≡ (xs ++ y ∷ []) ++ ys
append_one [] y ys = refl
append_one (x ∷ xs) y ys = ap (λ l. x ∷ l) (append_one xs y ys)

append_none : (xs : List ℕ) → xs ++ [] ≡ xs
append_none [] = refl
append_none (x ∷ xs) = ap (λ l. x ∷ l) (append_none xs)

both : {A : Type 0} (b : Bool) → b ≡ true → b ≡ false → A
both true e f = absurd cc
both false e f = absurd cc

-- ---- one byte more is there

pub put_next : (into all rest more : List ℕ) (at byte : ℕ) → at < length into → all ≡ take at into ++ rest → rest ≡ byte ∷ more → all ≡ take (at + 1) (set into at byte) ++ more
put_next into all rest more at byte inside is e =
    is ∙ ap (λ l. take at into ++ l) e ∙ append_one (take at into) byte more
    ∙ ap (λ l. l ++ more) (sym (take_more_set into at byte inside))

-- all are there
pub all_put : (into all rest : List ℕ) (at : ℕ) → length into ≤ at → all ≡ take at into ++ rest → rest ≡ [] → into ≡ all
all_put into all rest at full is e =
    sym (is ∙ ap (λ l. take at into ++ l) e ∙ append_none (take at into) ∙ take_all at into full)

-- ---- how many bytes there are

size_next : (byte : ℕ) (rest : List ℕ) → shown_size (byte ∷ rest) ≡ one_more (to_ascii_uppercase byte) (shown_size rest)
unfolding shown_size
size_next byte rest = refl

size_at : (mask : List ℕ) (n upper : ℕ) → n < length mask → upper ≡ to_ascii_uppercase (get_or mask n 0) → shown_size (drop n mask) ≡ one_more upper (shown_size (drop (n + 1) mask))
size_at mask n upper h u =
    ap shown_size (drop-cons mask n 0 h) ∙ size_next (get_or mask n 0) (drop (suc n) mask)
    ∙ ap (λ b. one_more b (shown_size (drop (suc n) mask))) (sym u)
    ∙ ap (λ k. one_more upper (shown_size (drop k mask))) (sym (add-one n))

pub size_skips : (mask : List ℕ) (n upper : ℕ) → n < length mask → upper ≡ to_ascii_uppercase (get_or mask n 0) → upper ≡ symbol_v → shown_size (drop n mask) ≡ shown_size (drop (n + 1) mask)
size_skips mask n upper h u v = size_at mask n upper h u ∙ then_taken (upper == symbol_v) _ _ (eq-eqb upper symbol_v v)

pub size_puts : (mask : List ℕ) (n upper : ℕ) → n < length mask → upper ≡ to_ascii_uppercase (get_or mask n 0) → (upper ≡ symbol_v → ⊥) → shown_size (drop n mask) ≡ shown_size (drop (n + 1) mask) + 1
size_puts mask n upper h u v = size_at mask n upper h u ∙ else_taken (upper == symbol_v) _ _ (ne_eqb upper symbol_v v)

pub size_past : (mask : List ℕ) (n : ℕ) → length mask ≤ n → shown_size (drop n mask) ≡ 0
unfolding shown_size
size_past mask n past = ap shown_size (drop_all n mask past)

pub size_ends : (mask : List ℕ) (n size : ℕ) → n ≡ length mask → shown_size mask ≡ size + shown_size (drop n mask) → size ≡ shown_size mask
unfolding shown_size
size_ends mask n size e is =
    let past : drop n mask ≡ [] = ap (λ k. drop k mask) e ∙ drop-length mask in
    omega (arith, is, ap shown_size past)

-- ---- a field of which nothing is shown

blank_next : (field : Field) (byte : ℕ) (rest : List ℕ) → blank_written field (byte ∷ rest) ≡ with_byte (to_ascii_uppercase byte) (blank_byte field (to_ascii_uppercase byte)) (blank_written field rest)
unfolding blank_written
blank_next field byte rest = refl

blank_at : (field : Field) (mask : List ℕ) (n c : ℕ) → n < length mask → c ≡ to_ascii_uppercase (get_or mask n 0) → blank_written field (drop n mask) ≡ with_byte c (blank_byte field c) (blank_written field (drop (n + 1) mask))
blank_at field mask n c h u =
    ap (blank_written field) (drop_more mask n 0 h) ∙ blank_next field (get_or mask n 0) (drop (n + 1) mask)
    ∙ ap (λ b. with_byte b (blank_byte field b) (blank_written field (drop (n + 1) mask))) (sym u)

pub blank_skips : (field : Field) (mask : List ℕ) (n c : ℕ) → n < length mask → c ≡ to_ascii_uppercase (get_or mask n 0) → c ≡ symbol_v → blank_written field (drop n mask) ≡ blank_written field (drop (n + 1) mask)
blank_skips field mask n c h u v = blank_at field mask n c h u ∙ then_taken (c == symbol_v) _ _ (eq-eqb c symbol_v v)

pub blank_puts : (field : Field) (mask : List ℕ) (n c : ℕ) → n < length mask → c ≡ to_ascii_uppercase (get_or mask n 0) → (c ≡ symbol_v → ⊥) → blank_written field (drop n mask) ≡ blank_byte field c ∷ blank_written field (drop (n + 1) mask)
blank_puts field mask n c h u v = blank_at field mask n c h u ∙ else_taken (c == symbol_v) _ _ (ne_eqb c symbol_v v)

pub blank_ends : (field : Field) (mask : List ℕ) (n : ℕ) → length mask ≤ n → blank_written field (drop n mask) ≡ []
unfolding blank_written
blank_ends field mask n past = ap (blank_written field) (drop_all n mask past)

-- it shows these bytes
pub blank_is : (field : Field) → field.blank ≡ true → (mask : List ℕ) (pen : LightPen) → light_written field pen mask ≡ blank_written field mask
unfolding light_written blank_written
blank_is field blank [] pen = refl
blank_is field blank (byte ∷ rest) pen =
    let c : ℕ = to_ascii_uppercase byte in
    ap (λ n. with_byte c n (light_written field (light_passed field c pen) rest)) (then_taken field.blank (blank_byte field c) _ blank)
    ∙ ap (λ l. with_byte c (blank_byte field c) l) (blank_is field blank rest (light_passed field c pen))

-- ---- a field of which something is shown

-- the pen as the code has it
abbrev pub light : ℕ → ℕ → Bool → Bool → LightPen
light last right begun shown = record { last = last; right = right; begun = begun; shown = shown }

light_next : (field : Field) (pen : LightPen) (byte : ℕ) (rest : List ℕ) → light_written field pen (byte ∷ rest) ≡ with_byte (to_ascii_uppercase byte) (light_byte_of field (to_ascii_uppercase byte) pen (slice_get rest 0)) (light_written field (light_passed field (to_ascii_uppercase byte) pen) rest)
unfolding light_written
light_next field pen byte rest = refl

light_at : (field : Field) (pen : LightPen) (mask : List ℕ) (n c : ℕ) → n < length mask → c ≡ to_ascii_uppercase (get_or mask n 0) → light_written field pen (drop n mask) ≡ with_byte c (light_byte_of field c pen (slice_get (drop (n + 1) mask) 0)) (light_written field (light_passed field c pen) (drop (n + 1) mask))
light_at field pen mask n c h u =
    ap (light_written field pen) (drop_more mask n 0 h) ∙ light_next field pen (get_or mask n 0) (drop (n + 1) mask)
    ∙ ap (λ b. with_byte b (light_byte_of field b pen (slice_get (drop (n + 1) mask) 0)) (light_written field (light_passed field b pen) (drop (n + 1) mask))) (sym u)

light_ends : (field : Field) (pen : LightPen) (mask : List ℕ) (n : ℕ) → length mask ≤ n → light_written field pen (drop n mask) ≡ []
unfolding light_written
light_ends field pen mask n past = ap (light_written field pen) (drop_all n mask past)

-- whether the next place is shown
shows_at : (field : Field) (pen : LightPen) (mask : List ℕ) (n c : ℕ) → n < length mask → c ≡ to_ascii_uppercase (get_or mask n 0) → light_shows field pen (slice_get (drop n mask) 0) ≡ (light_passed field c pen).shown
shows_at field pen mask n c h u =
    ap (λ l. light_shows field pen (slice_get l 0)) (drop_more mask n 0 h)
    ∙ ap (λ b. (light_passed field b pen).shown) (sym u)

shows_end : (field : Field) (pen : LightPen) (mask : List ℕ) (n : ℕ) → length mask ≤ n → light_shows field pen (slice_get (drop n mask) 0) ≡ false
shows_end field pen mask n past = ap (λ l. light_shows field pen (slice_get l 0)) (drop_all n mask past)

-- ---- from the first shown place on

module _ (field : Field) (visible : field.blank ≡ false) (mask : List ℕ) (n c last right : ℕ) (begun : Bool) (h : n < length mask) (u : c ≡ to_ascii_uppercase (get_or mask n 0)) where
  abbrev counted : Bool
  counted = is_counted field c begun

  abbrev behind : ℕ
  behind = right_behind counted right

  abbrev over : Bool
  over = begun || c == field.string

  shown_there : (ahead : Option ℕ) → light_byte_of field c (light last right begun true) ahead ≡ shown_by field counted behind last c
  shown_there ahead =
      else_taken field.blank (blank_byte field c) _ visible
      ∙ else_taken (over && not true) (hidden_byte field (light_shows field (light c behind over true) ahead)) _ (and_right over (not true) refl)

  shown_passes : (back : ℕ) (now : Bool) → back ≡ behind → now ≡ over → light_written field (light c behind over true) (drop (n + 1) mask) ≡ light_written field (light c back now true) (drop (n + 1) mask)
  shown_passes back now same_back same_now =
      ap (λ b. light_written field (light c behind b true) (drop (n + 1) mask)) (sym same_now)
      ∙ ap (λ k. light_written field (light c k now true) (drop (n + 1) mask)) (sym same_back)

  module _ (counts : Bool) (back : ℕ) (now : Bool) (e_counts : counts ≡ counted) (e_back : back ≡ right_behind counts right) (e_now : now ≡ over) where
    same_back : back ≡ behind
    same_back = e_back ∙ ap (λ b. right_behind b right) e_counts

    pub shown_skips : c ≡ symbol_v → light_written field (light last right begun true) (drop n mask) ≡ light_written field (light c back now true) (drop (n + 1) mask)
    shown_skips v =
        light_at field (light last right begun true) mask n c h u ∙ then_taken (c == symbol_v) _ _ (eq-eqb c symbol_v v)
        ∙ shown_passes back now same_back e_now

    pub shown_puts : (c ≡ symbol_v → ⊥) → light_written field (light last right begun true) (drop n mask) ≡ shown_by field counts back last c ∷ light_written field (light c back now true) (drop (n + 1) mask)
    shown_puts v =
        light_at field (light last right begun true) mask n c h u ∙ else_taken (c == symbol_v) _ _ (ne_eqb c symbol_v v)
        ∙ ap (λ b. b ∷ light_written field (light c behind over true) (drop (n + 1) mask))
        (shown_there (slice_get (drop (n + 1) mask) 0)
        ∙ ap (λ b. shown_by field b behind last c) (sym e_counts)
        ∙ ap (λ k. shown_by field counts k last c) (sym same_back))
        ∙ ap (λ l. shown_by field counts back last c ∷ l) (shown_passes back now same_back e_now)

pub shown_ends : (field : Field) (mask : List ℕ) (n last right : ℕ) (begun : Bool) → length mask ≤ n → light_written field (light last right begun true) (drop n mask) ≡ []
shown_ends field mask n last right begun past = light_ends field (light last right begun true) mask n past

-- ---- left of the first shown place

-- the bytes so far, where it is known whether the next place is shown
abbrev pub left_of : Field → Bool → Bool → ℕ → List ℕ → List ℕ
left_of field begun next place into =
    if begun then take (place - 1) into ++ hidden_byte field next ∷ [] else take place into

-- of them the last one is hidden, where the string has begun
abbrev pub EndsHidden : Field → Bool → ℕ → List ℕ → Type 0
EndsHidden field begun place into =
    begun ≡ true → take place into ≡ take (place - 1) into ++ hidden_byte field false ∷ []

left_hidden : (field : Field) (begun : Bool) (place : ℕ) (into : List ℕ) → EndsHidden field begun place into → left_of field begun false place into ≡ take place into
left_hidden field true place into ends = sym (ends refl)
left_hidden field false place into ends = refl

left_floated : (field : Field) (begun : Bool) (place : ℕ) (into : List ℕ) → (begun ≡ true → 1 ≤ place) → place ≤ length into → left_of field begun true place into ≡ take place (floated field begun place into)
left_floated field true place into some within =
    let first : 1 ≤ place = some refl in
    let one : place ≡ place - 1 + 1 = omega (arith, first) in
    let inside : place - 1 < length into = omega (arith, first, within) in
    sym (ap (λ k. take k (set into (place - 1) (hidden_byte field true))) one ∙ take_more_set into (place - 1) (hidden_byte field true) inside)
left_floated field false place into some within = refl

pub length_floated : (field : Field) (begun : Bool) (place : ℕ) (into : List ℕ) → length (floated field begun place into) ≡ length into
length_floated field true place into = length-set into (place - 1) (hidden_byte field true)
length_floated field false place into = refl

left_more : (field : Field) (over next : Bool) (place last c byte : ℕ) (into : List ℕ) → place < length into → byte ≡ left_byte field over last c → left_of field over next (place + 1) (set into place byte) ≡ take place into ++ (if over then hidden_byte field next else other_byte field last c) ∷ []
left_more field true next place last c byte into inside is =
    let one : place + 1 - 1 ≡ place = omega arith in
    ap (λ l. l ++ hidden_byte field next ∷ []) (ap (λ k. take k (set into place byte)) one ∙ take-set into place byte)
left_more field false next place last c byte into inside is =
    take_more_set into place byte inside ∙ ap (λ b. take place into ++ b ∷ []) is

pub ends_more : (field : Field) (over : Bool) (place last c byte : ℕ) (into : List ℕ) → place < length into → byte ≡ left_byte field over last c → EndsHidden field over (place + 1) (set into place byte)
ends_more field true place last c byte into inside is within =
    let one : place + 1 - 1 ≡ place = omega arith in
    take_more_set into place byte inside ∙ ap (λ b. take place into ++ b ∷ []) is
    ∙ ap (λ l. l ++ hidden_byte field false ∷ []) (sym (ap (λ k. take k (set into place byte)) one ∙ take-set into place byte))
ends_more field false place last c byte into inside is within = absurd cc

-- a symbol that isn't the string's and isn't seen is no 9 and no V
pub record Unseen (field : Field) (c : ℕ) : Type 0 where
  pub nine : (c == symbol_9) ≡ false
  pub v : (c == symbol_v) ≡ false

other_unseen : (field : Field) (c right : ℕ) (counts : Bool) → (c == field.string) ≡ false → is_seen field c counts right ≡ false → Unseen field c
other_unseen field c right counts other seen =
    let told = sym (else_taken (c == field.string) (counts && not (digit_of right field.number == 0)) (c == symbol_9 || c == symbol_period || c == symbol_v) other) ∙ seen in
    let parts = or_parts (c == symbol_9 || c == symbol_period) (c == symbol_v) told in
    record { nine = (or_parts (c == symbol_9) (c == symbol_period) parts.0).0; v = parts.1 }

module _ (field : Field) (visible : field.blank ≡ false) (plain : field.string ≡ symbol_v → ⊥) (mask : List ℕ) (n c last right : ℕ) (begun : Bool) (h : n < length mask) (u : c ≡ to_ascii_uppercase (get_or mask n 0)) where
  abbrev left_counted : Bool
  left_counted = is_counted field c begun

  abbrev left_behind : ℕ
  left_behind = right_behind left_counted right

  abbrev left_over : Bool
  left_over = begun || c == field.string

  abbrev seen_here : Bool
  seen_here = is_seen field c left_counted left_behind

  pub no_v : seen_here ≡ false → c ≡ symbol_v → ⊥
  no_v unseen v = elim (cases_Bool (c == field.string)) [
    | inl same ↦ plain (sym (eqb-true c field.string same) ∙ v)
    | inr other ↦ both (c == symbol_v) (eq-eqb c symbol_v v) (other_unseen field c left_behind left_counted other unseen).v
  ]

  -- what isn't in the string yet is no digit
  no_digit : seen_here ≡ false → left_over ≡ false → left_counted ≡ false
  no_digit unseen out =
      let other = (or_parts begun (c == field.string) out).1 in
      else_taken (c == field.string) _ (c == symbol_9) other ∙ (other_unseen field c left_behind left_counted other unseen).nine

  left_there : seen_here ≡ false → (ahead : Option ℕ) → light_byte_of field c (light last right begun false) ahead ≡ (if left_over then hidden_byte field (light_shows field (light c left_behind left_over false) ahead) else other_byte field last c)
  left_there unseen ahead =
      else_taken field.blank (blank_byte field c) _ visible
      ∙ ap (λ s. if left_over && not s then hidden_byte field (light_shows field (light c left_behind left_over s) ahead) else shown_by field left_counted left_behind last c) unseen
      ∙ elim (cases_Bool left_over) [
        | inl in_it ↦ ap (λ b. if b && true then hidden_byte field (light_shows field (light c left_behind left_over false) ahead) else shown_by field left_counted left_behind last c) in_it ∙ sym (then_taken left_over _ _ in_it)
        | inr out ↦
            ap (λ b. if b && true then hidden_byte field (light_shows field (light c left_behind left_over false) ahead) else shown_by field left_counted left_behind last c) out
            ∙ else_taken left_counted _ (other_byte field last c) (no_digit unseen out)
            ∙ sym (else_taken left_over (hidden_byte field (light_shows field (light c left_behind left_over false) ahead)) (other_byte field last c) out)
      ]

  left_puts : seen_here ≡ false → light_written field (light last right begun false) (drop n mask) ≡ (if left_over then hidden_byte field (light_shows field (light c left_behind left_over false) (slice_get (drop (n + 1) mask) 0)) else other_byte field last c) ∷ light_written field (light c left_behind left_over false) (drop (n + 1) mask)
  left_puts unseen =
      light_at field (light last right begun false) mask n c h u ∙ else_taken (c == symbol_v) _ _ (ne_eqb c symbol_v (no_v unseen))
      ∙ ap (λ b. b ∷ light_written field (light c left_behind left_over seen_here) (drop (n + 1) mask)) (left_there unseen (slice_get (drop (n + 1) mask) 0))
      ∙ ap (λ s. (if left_over then hidden_byte field (light_shows field (light c left_behind left_over false) (slice_get (drop (n + 1) mask) 0)) else other_byte field last c) ∷ light_written field (light c left_behind left_over s) (drop (n + 1) mask)) unseen

  -- one byte more is there
  abbrev after : (into : List ℕ) (byte : ℕ) → ℕ → Bool → List ℕ
  after into byte back now =
      left_of field now (light_shows field (light c back now false) (slice_get (drop (n + 1) mask) 0)) (n + 1) (set into n byte)
      ++ light_written field (light c back now false) (drop (n + 1) mask)

  left_passes : (into all : List ℕ) (byte : ℕ) → seen_here ≡ false → byte ≡ left_byte field left_over last c → n < length into → EndsHidden field begun n into → all ≡ left_of field begun (light_shows field (light last right begun false) (slice_get (drop n mask) 0)) n into ++ light_written field (light last right begun false) (drop n mask) → all ≡ after into byte left_behind left_over
  left_passes into all byte unseen is inside ends same =
      let ahead : Bool = light_shows field (light c left_behind left_over false) (slice_get (drop (n + 1) mask) 0) in
      let more : List ℕ = light_written field (light c left_behind left_over false) (drop (n + 1) mask) in
      same
      ∙ ap (λ b. left_of field begun b n into ++ light_written field (light last right begun false) (drop n mask)) (shows_at field (light last right begun false) mask n c h u ∙ unseen)
      ∙ ap (λ l. l ++ light_written field (light last right begun false) (drop n mask)) (left_hidden field begun n into ends)
      ∙ ap (λ l. take n into ++ l) (left_puts unseen)
      ∙ append_one (take n into) (if left_over then hidden_byte field ahead else other_byte field last c) more
      ∙ ap (λ l. l ++ more) (sym (left_more field left_over ahead n last c byte into inside is))

  module _ (counts : Bool) (back : ℕ) (e_counts : counts ≡ left_counted) (e_back : back ≡ right_behind counts right) where
    left_same_back : back ≡ left_behind
    left_same_back = e_back ∙ ap (λ b. right_behind b right) e_counts

    same_seen : seen_here ≡ is_seen field c counts back
    same_seen = ap (λ b. is_seen field c b left_behind) (sym e_counts) ∙ ap (λ k. is_seen field c counts k) (sym left_same_back)

    -- it isn't V
    pub left_no_v : is_seen field c counts back ≡ false → c ≡ symbol_v → ⊥
    left_no_v unseen = no_v (same_seen ∙ unseen)

    -- one byte more is there
    pub left_next : (into all : List ℕ) (byte : ℕ) (now : Bool) → now ≡ left_over → is_seen field c counts back ≡ false → byte ≡ left_byte field now last c → n < length into → EndsHidden field begun n into → all ≡ left_of field begun (light_shows field (light last right begun false) (slice_get (drop n mask) 0)) n into ++ light_written field (light last right begun false) (drop n mask) → all ≡ left_of field now (light_shows field (light c back now false) (slice_get (drop (n + 1) mask) 0)) (n + 1) (set into n byte) ++ light_written field (light c back now false) (drop (n + 1) mask)
    left_next into all byte now e_now unseen is inside ends same =
        left_passes into all byte (same_seen ∙ unseen) (is ∙ ap (λ b. left_byte field b last c) e_now) inside ends same
        ∙ ap (λ b. after into byte left_behind b) (sym e_now)
        ∙ ap (λ k. after into byte k now) (sym left_same_back)

    -- the place is shown
    pub left_reaches : (into all : List ℕ) → is_seen field c counts back ≡ true → (begun ≡ true → 1 ≤ n) → n ≤ length into → all ≡ left_of field begun (light_shows field (light last right begun false) (slice_get (drop n mask) 0)) n into ++ light_written field (light last right begun false) (drop n mask) → all ≡ take n (floated field begun n into) ++ light_written field (light last right begun true) (drop n mask)
    left_reaches into all seen some within same =
        let is = same_seen ∙ seen in
        let ahead : Option ℕ = slice_get (drop (n + 1) mask) 0 in
        let rest : List ℕ = drop (n + 1) mask in
        same
        ∙ ap (λ b. left_of field begun b n into ++ light_written field (light last right begun false) (drop n mask)) (shows_at field (light last right begun false) mask n c h u ∙ is)
        ∙ ap (λ l. l ++ light_written field (light last right begun false) (drop n mask)) (left_floated field begun n into some within)
        ∙ ap (λ l. take n (floated field begun n into) ++ l)
        (light_at field (light last right begun false) mask n c h u
        ∙ ap (λ s. with_byte c (if field.blank then blank_byte field c else if left_over && not s then hidden_byte field (light_shows field (light c left_behind left_over s) ahead) else shown_by field left_counted left_behind last c) (light_written field (light c left_behind left_over s) rest)) is
        ∙ sym (light_at field (light last right begun true) mask n c h u))

-- no place is
pub left_ends : (field : Field) (mask into all : List ℕ) (n last right : ℕ) (begun : Bool) → n ≡ length mask → EndsHidden field begun n into → all ≡ left_of field begun (light_shows field (light last right begun false) (slice_get (drop n mask) 0)) n into ++ light_written field (light last right begun false) (drop n mask) → all ≡ take (length mask) into ++ light_written field (light last right begun true) (drop (length mask) mask)
left_ends field mask into all n last right begun e ends same =
    let past : length mask ≤ n = omega (arith, e) in
    let reached : length mask ≤ length mask = omega arith in
    same
    ∙ ap (λ b. left_of field begun b n into ++ light_written field (light last right begun false) (drop n mask)) (shows_end field (light last right begun false) mask n past)
    ∙ ap (λ l. l ++ light_written field (light last right begun false) (drop n mask)) (left_hidden field begun n into ends)
    ∙ ap (λ l. take n into ++ l) (light_ends field (light last right begun false) mask n past ∙ sym (light_ends field (light last right begun true) mask (length mask) reached))
    ∙ ap (λ k. take k into ++ light_written field (light last right begun true) (drop (length mask) mask)) e
