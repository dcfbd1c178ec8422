-- Symbols that may follow each other go on to those of a mask.
use Rattle.std.proofs.Common.{◌≡◌, ℕ, ◌≤◌, true, false, not, ◌==◌, ◌&&◌, List, [], ◌∷◌, ◌++◌, Option, Some, None, IfSome, option_and_then, inl, inr, refl, sym, ap, ◌∙◌, subst, arith}
use Rattle.std.proofs.lemmas.Bool.{and_from, eqb-true, ne_eqb, not_from_false, or_cases, or_left}
use Rattle.edit_fields.specs.declared.shape.Stage.{Stage}
use Rattle.edit_fields.specs.declared.shape.Stage.TheVariants as stages
use Rattle.edit_fields.specs.declared.shape.Shape.{Shape}
use Rattle.edit_fields.specs.Symbol.{is_currency_or_sign, is_insertion, is_point, is_sign, is_suppressor, is_tail_letter, symbol_9, symbol_b, symbol_c, symbol_d, symbol_dollar, symbol_r}
use Rattle.edit_fields.specs.Shape.{again, begun, begun_signed, behind, body_by, digits, dollar_by, empty, in_nines, in_string, insertion_by, is_half, is_whole, last_letter_by, letter_by, nine_by, point_by, sign_behind_lead, sign_by, signed, suppressor_by, with_digit}
use Rattle.edit_fields.specs.Laws.{BeginningsGoOn, symbols_from}
use Rattle.edit_fields.proofs.BranchLemmas.{either_way}
use Rattle.edit_fields.proofs.CountLemmas.{with_digit_counts, with_digit_stage}

-- ---- what holds at each stage

-- what may float is a sign or `$`, and behind the first digit there is one
abbrev SoundAt : Stage → Shape → Type 0
SoundAt stages.Start shape = Unit {0}
SoundAt (stages.Lead lead) shape = is_currency_or_sign lead ≡ true
SoundAt stages.Body shape = Unit {0}
SoundAt (stages.Led lead) shape = is_currency_or_sign lead ≡ true
SoundAt (stages.Once first) shape = is_currency_or_sign first ≡ true
SoundAt stages.InString shape = 1 ≤ digits shape
SoundAt stages.Nines shape = 1 ≤ digits shape
SoundAt (stages.Letter letter) shape = (is_tail_letter letter ≡ true) × (1 ≤ digits shape)
SoundAt stages.Ended shape = 1 ≤ digits shape

abbrev Sound : Shape → Type 0
Sound shape = SoundAt shape.stage shape

abbrev Stays : Option Shape → Type 0
Stays o = IfSome o Sound

-- ---- what the steps keep

some_digit : (shape : Shape) → 1 ≤ digits (with_digit shape)
some_digit shape = elim (with_digit_counts shape) [ inl e ↦ omega (arith, e) | inr past ↦ omega (arith, past) ]

sound_string : (symbol : ℕ) (shape : Shape) → Sound (in_string symbol shape)
sound_string symbol shape =
    with_digit_stage (λ stage. SoundAt stage (in_string symbol shape)) (record shape { stage = stages.InString; string = symbol })
    (some_digit (record shape { stage = stages.InString; string = symbol }))

sound_nines : (shape : Shape) → Sound (in_nines shape)
sound_nines shape =
    with_digit_stage (λ stage. SoundAt stage (in_nines shape)) (record shape { stage = stages.Nines; nines = true })
    (some_digit (record shape { stage = stages.Nines; nines = true }))

sound_again : (first symbol : ℕ) (shape : Shape) → Stays (again first symbol shape)
sound_again first symbol shape = either_way Stays (first == symbol) _ _ (λ _. sound_string symbol shape) (λ _. tt)

sound_signed : (stage : Stage) (shape : Shape) → SoundAt stage (record shape { stage = stage; sign = true }) → Stays (signed stage shape)
sound_signed stage shape is = either_way Stays shape.sign _ _ (λ _. tt) (λ _. is)

sound_begun : (stage : Stage) (shape : Shape) → SoundAt stage (record shape { stage = stage }) → Stays (begun stage shape)
sound_begun stage shape is = either_way Stays shape.point _ _ (λ _. tt) (λ _. is)

sound_begun_signed : (sign : ℕ) (shape : Shape) → is_currency_or_sign sign ≡ true → Stays (begun_signed sign shape)
sound_begun_signed sign shape is = either_way Stays shape.point _ _ (λ _. tt) (λ _. sound_signed (stages.Once sign) shape is)

sound_lead : (lead sign : ℕ) (shape : Shape) → is_currency_or_sign sign ≡ true → Stays (sign_behind_lead lead sign shape)
sound_lead lead sign shape is =
    either_way Stays (lead == sign) _ _ (λ _. sound_string sign shape)
    (λ _. either_way Stays (lead == symbol_dollar) _ _ (λ _. sound_begun_signed sign shape is) (λ _. tt))

sound_sign : (stage : Stage) (sign : ℕ) (shape : Shape) → is_currency_or_sign sign ≡ true → SoundAt stage shape → Stays (sign_by stage sign shape)
sound_sign stages.Start sign shape is sound = sound_signed (stages.Lead sign) shape is
sound_sign (stages.Lead lead) sign shape is sound = sound_lead lead sign shape is
sound_sign stages.Body sign shape is sound = sound_begun_signed sign shape is
sound_sign (stages.Led lead) sign shape is sound = sound_lead lead sign shape is
sound_sign (stages.Once first) sign shape is sound = sound_again first sign shape
sound_sign stages.InString sign shape is sound = either_way Stays (shape.string == sign) _ _ (λ _. sound_string sign shape) (λ _. sound_signed stages.Ended shape sound)
sound_sign stages.Nines sign shape is sound = sound_signed stages.Ended shape sound
sound_sign (stages.Letter letter) sign shape is sound = tt
sound_sign stages.Ended sign shape is sound = tt

sound_dollar : (stage : Stage) (shape : Shape) → Stays (dollar_by stage shape)
sound_dollar stages.Start shape = refl
sound_dollar (stages.Lead lead) shape = either_way Stays (lead == symbol_dollar) _ _ (λ _. sound_string symbol_dollar shape) (λ _. refl)
sound_dollar stages.Body shape = sound_begun (stages.Once symbol_dollar) shape refl
sound_dollar (stages.Led lead) shape = either_way Stays (lead == symbol_dollar) _ _ (λ _. sound_string symbol_dollar shape) (λ _. sound_begun (stages.Once symbol_dollar) shape refl)
sound_dollar (stages.Once first) shape = sound_again first symbol_dollar shape
sound_dollar stages.InString shape = sound_again shape.string symbol_dollar shape
sound_dollar stages.Nines shape = tt
sound_dollar (stages.Letter letter) shape = tt
sound_dollar stages.Ended shape = tt

sound_suppressor : (stage : Stage) (symbol : ℕ) (shape : Shape) → Stays (suppressor_by stage symbol shape)
sound_suppressor stages.Start symbol shape = sound_string symbol shape
sound_suppressor (stages.Lead lead) symbol shape = sound_string symbol shape
sound_suppressor stages.Body symbol shape = sound_string symbol shape
sound_suppressor (stages.Led lead) symbol shape = sound_string symbol shape
sound_suppressor (stages.Once first) symbol shape = tt
sound_suppressor stages.InString symbol shape = sound_again shape.string symbol shape
sound_suppressor stages.Nines symbol shape = tt
sound_suppressor (stages.Letter letter) symbol shape = tt
sound_suppressor stages.Ended symbol shape = tt

sound_nine : (stage : Stage) (shape : Shape) → Stays (nine_by stage shape)
sound_nine stages.Start shape = sound_nines shape
sound_nine (stages.Lead lead) shape = sound_nines shape
sound_nine stages.Body shape = sound_nines shape
sound_nine (stages.Led lead) shape = sound_nines shape
sound_nine (stages.Once first) shape = tt
sound_nine stages.InString shape = either_way Stays (shape.part == 0) _ _ (λ _. sound_nines shape) (λ _. tt)
sound_nine stages.Nines shape = sound_nines shape
sound_nine (stages.Letter letter) shape = tt
sound_nine stages.Ended shape = tt

-- at any stage that the shape is at
sound_body : (stage : Stage) (shape : Shape) → shape.stage ≡ stage → SoundAt stage shape → Stays (body_by stage shape)
sound_body stages.Start shape at sound = tt
sound_body (stages.Lead lead) shape at sound = sound
sound_body stages.Body shape at sound = subst (λ s. SoundAt s shape) (sym at) sound
sound_body (stages.Led lead) shape at sound = subst (λ s. SoundAt s shape) (sym at) sound
sound_body (stages.Once first) shape at sound = subst (λ s. SoundAt s shape) (sym at) sound
sound_body stages.InString shape at sound = subst (λ s. SoundAt s shape) (sym at) sound
sound_body stages.Nines shape at sound = subst (λ s. SoundAt s shape) (sym at) sound
sound_body (stages.Letter letter) shape at sound = tt
sound_body stages.Ended shape at sound = tt

sound_insertion : (stage : Stage) (symbol : ℕ) (shape : Shape) → shape.stage ≡ stage → SoundAt stage shape → Stays (insertion_by stage symbol shape)
sound_insertion stages.Start symbol shape at sound = tt
sound_insertion (stages.Lead lead) symbol shape at sound = sound
sound_insertion stages.Body symbol shape at sound = sound_body stages.Body shape at sound
sound_insertion (stages.Led lead) symbol shape at sound = sound_body (stages.Led lead) shape at sound
sound_insertion (stages.Once first) symbol shape at sound = sound_body (stages.Once first) shape at sound
sound_insertion stages.InString symbol shape at sound = sound_body stages.InString shape at sound
sound_insertion stages.Nines symbol shape at sound = sound_body stages.Nines shape at sound
sound_insertion (stages.Letter letter) symbol shape at sound = either_way Stays (letter == symbol_d && symbol == symbol_b) _ _ (λ _. sound.1) (λ _. tt)
sound_insertion stages.Ended symbol shape at sound = tt

pointed : (stage : Stage) (shape : Shape) → SoundAt stage shape → SoundAt stage (record shape { point = true })
pointed stages.Start shape sound = tt
pointed (stages.Lead lead) shape sound = sound
pointed stages.Body shape sound = tt
pointed (stages.Led lead) shape sound = sound
pointed (stages.Once first) shape sound = sound
pointed stages.InString shape sound = sound
pointed stages.Nines shape sound = sound
pointed (stages.Letter letter) shape sound = sound
pointed stages.Ended shape sound = sound

sound_point : (stage : Stage) (shape : Shape) → shape.stage ≡ stage → SoundAt stage shape → Stays (point_by stage shape)
sound_point stage shape at sound = either_way Stays shape.point _ _ (λ _. tt) (λ _. sound_body stage (record shape { point = true }) at (pointed stage shape sound))

sound_letter : (stage : Stage) (letter : ℕ) (shape : Shape) → is_tail_letter letter ≡ true → SoundAt stage shape → Stays (letter_by stage letter shape)
sound_letter stages.Start letter shape is sound = tt
sound_letter (stages.Lead lead) letter shape is sound = tt
sound_letter stages.Body letter shape is sound = tt
sound_letter (stages.Led lead) letter shape is sound = tt
sound_letter (stages.Once first) letter shape is sound = tt
sound_letter stages.InString letter shape is sound = sound_signed (stages.Letter letter) shape (is, sound)
sound_letter stages.Nines letter shape is sound = sound_signed (stages.Letter letter) shape (is, sound)
sound_letter (stages.Letter first) letter shape is sound = tt
sound_letter stages.Ended letter shape is sound = tt

sound_last_letter : (stage : Stage) (shape : Shape) → SoundAt stage shape → Stays (last_letter_by stage shape)
sound_last_letter stages.Start shape sound = tt
sound_last_letter (stages.Lead lead) shape sound = tt
sound_last_letter stages.Body shape sound = tt
sound_last_letter (stages.Led lead) shape sound = tt
sound_last_letter (stages.Once first) shape sound = tt
sound_last_letter stages.InString shape sound = tt
sound_last_letter stages.Nines shape sound = tt
sound_last_letter (stages.Letter letter) shape sound = either_way Stays (letter == symbol_c) _ _ (λ _. sound.1) (λ _. tt)
sound_last_letter stages.Ended shape sound = tt

sound_behind : (symbol : ℕ) (shape : Shape) → Sound shape → Stays (behind symbol shape)
unfolding behind
sound_behind symbol shape sound =
    either_way Stays (is_sign symbol) _ _
    (λ is. sound_sign shape.stage symbol shape (or_left (is_sign symbol) (symbol == symbol_dollar) is) sound)
    (λ _. either_way Stays (symbol == symbol_dollar) _ _ (λ _. sound_dollar shape.stage shape)
    (λ _. either_way Stays (is_suppressor symbol) _ _ (λ _. sound_suppressor shape.stage symbol shape)
    (λ _. either_way Stays (symbol == symbol_9) _ _ (λ _. sound_nine shape.stage shape)
    (λ _. either_way Stays (is_insertion symbol) _ _ (λ _. sound_insertion shape.stage symbol shape refl sound)
    (λ _. either_way Stays (is_point symbol) _ _ (λ _. sound_point shape.stage shape refl sound)
    (λ _. either_way Stays (is_tail_letter symbol) _ _ (λ is. sound_letter shape.stage symbol shape is sound)
    (λ _. either_way Stays (symbol == symbol_r) _ _ (λ _. sound_last_letter shape.stage shape sound) (λ _. tt))))))))

-- ---- what goes on at each stage

-- symbols that make a mask of what stands
record Rest (shape : Shape) : Type 0 where
  more : List ℕ
  last : Shape
  comes : symbols_from shape more ≡ Some last
  whole : is_whole last ≡ true

whole_with : (shape : Shape) → 1 ≤ digits shape → is_half shape.stage ≡ false → is_whole shape ≡ true
whole_with shape some other =
    let counted : (digits shape == 0) ≡ false = ne_eqb (digits shape) 0 (λ e. omega (arith, e, some)) in
    and_from (not (digits shape == 0)) (not (is_half shape.stage)) (not_from_false (digits shape == 0) counted) (not_from_false (is_half shape.stage) other)

nothing_more : (shape : Shape) → 1 ≤ digits shape → is_half shape.stage ≡ false → Rest shape
unfolding symbols_from
nothing_more shape some other = record { more = []; last = shape; comes = refl; whole = whole_with shape some other }

one_symbol : (symbol : ℕ) (shape next : Shape) → behind symbol shape ≡ Some next → 1 ≤ digits next → is_half next.stage ≡ false → Rest shape
unfolding symbols_from
one_symbol symbol shape next e some other = record {
  more = symbol ∷ [];
  last = next;
  comes = ap (λ o. option_and_then (λ next. symbols_from next []) o) e;
  whole = whole_with next some other;
}

string_more : (symbol : ℕ) (shape : Shape) → behind symbol shape ≡ Some (in_string symbol shape) → Rest shape
string_more symbol shape e =
    one_symbol symbol shape (in_string symbol shape) e (some_digit (record shape { stage = stages.InString; string = symbol }))
    (with_digit_stage (λ stage. is_half stage ≡ false) (record shape { stage = stages.InString; string = symbol }) refl)

z_behind : (shape : Shape) → behind 90 shape ≡ suppressor_by shape.stage 90 shape
unfolding behind
z_behind shape = refl

again_plus : (first : ℕ) (shape : Shape) → first ≡ 43 → shape.stage ≡ stages.Once first → behind first shape ≡ Some (in_string first shape)
unfolding behind
again_plus first shape e at =
    subst (λ s. behind s shape ≡ Some (in_string s shape)) (sym e)
    (ap (λ stage. sign_by stage 43 shape) (at ∙ ap (λ f. stages.Once f) e))

again_minus : (first : ℕ) (shape : Shape) → first ≡ 45 → shape.stage ≡ stages.Once first → behind first shape ≡ Some (in_string first shape)
unfolding behind
again_minus first shape e at =
    subst (λ s. behind s shape ≡ Some (in_string s shape)) (sym e)
    (ap (λ stage. sign_by stage 45 shape) (at ∙ ap (λ f. stages.Once f) e))

again_dollar : (first : ℕ) (shape : Shape) → first ≡ 36 → shape.stage ≡ stages.Once first → behind first shape ≡ Some (in_string first shape)
unfolding behind
again_dollar first shape e at =
    subst (λ s. behind s shape ≡ Some (in_string s shape)) (sym e)
    (ap (λ stage. dollar_by stage shape) (at ∙ ap (λ f. stages.Once f) e))

r_behind : (shape : Shape) → shape.stage ≡ stages.Letter 67 → behind 82 shape ≡ Some (record shape { stage = stages.Ended })
unfolding behind
r_behind shape at = ap (λ stage. last_letter_by stage shape) at

b_behind : (shape : Shape) → shape.stage ≡ stages.Letter 68 → behind 66 shape ≡ Some (record shape { stage = stages.Ended })
unfolding behind
b_behind shape at = ap (λ stage. insertion_by stage 66 shape) at

-- a symbol that has to come again
again_behind : (first : ℕ) (shape : Shape) → is_currency_or_sign first ≡ true → shape.stage ≡ stages.Once first → behind first shape ≡ Some (in_string first shape)
again_behind first shape is at = elim (or_cases (is_sign first) (first == symbol_dollar) is) [
  | inl sign ↦ elim (or_cases (first == 43) (first == 45) sign) [
    | inl e ↦ again_plus first shape (eqb-true first 43 e) at
    | inr e ↦ again_minus first shape (eqb-true first 45 e) at
  ]
  | inr e ↦ again_dollar first shape (eqb-true first 36 e) at
]

rest_by : (stage : Stage) (shape : Shape) → shape.stage ≡ stage → SoundAt stage shape → Rest shape
rest_by stages.Start shape at sound = string_more 90 shape (z_behind shape ∙ ap (λ s. suppressor_by s 90 shape) at)
rest_by (stages.Lead lead) shape at sound = string_more 90 shape (z_behind shape ∙ ap (λ s. suppressor_by s 90 shape) at)
rest_by stages.Body shape at sound = string_more 90 shape (z_behind shape ∙ ap (λ s. suppressor_by s 90 shape) at)
rest_by (stages.Led lead) shape at sound = string_more 90 shape (z_behind shape ∙ ap (λ s. suppressor_by s 90 shape) at)
rest_by (stages.Once first) shape at sound = string_more first shape (again_behind first shape sound at)
rest_by stages.InString shape at sound = nothing_more shape sound (ap is_half at)
rest_by stages.Nines shape at sound = nothing_more shape sound (ap is_half at)
rest_by (stages.Letter letter) shape at sound = elim (or_cases (letter == 67) (letter == 68) sound.0) [
  | inl e ↦ one_symbol 82 shape (record shape { stage = stages.Ended }) (r_behind shape (at ∙ ap (λ l. stages.Letter l) (eqb-true letter 67 e))) sound.1 refl
  | inr e ↦ one_symbol 66 shape (record shape { stage = stages.Ended }) (b_behind shape (at ∙ ap (λ l. stages.Letter l) (eqb-true letter 68 e))) sound.1 refl
]
rest_by stages.Ended shape at sound = nothing_more shape sound (ap is_half at)

-- ---- all symbols

same_some : (a b : Shape) → Some a ≡ Some b → a ≡ b
same_some a b e = cc

-- what holds of each shape behind a symbol, where one may come
through : (P : Shape → Type 0) (f : Shape → Option Shape) (may : Option Shape) (shape : Shape) (Goal : Type 0) → IfSome may P → option_and_then f may ≡ Some shape → ((next : Shape) → P next → f next ≡ Some shape → Goal) → Goal
through P f None shape Goal p e go = absurd cc
through P f (Some next) shape Goal p e go = go next p e

sound_from : (symbols : List ℕ) (start shape : Shape) → Sound start → symbols_from start symbols ≡ Some shape → Sound shape
unfolding symbols_from
sound_from [] start shape sound e = subst Sound (same_some start shape e) sound
sound_from (symbol ∷ rest) start shape sound e =
    through Sound (λ next. symbols_from next rest) (behind symbol start) shape (Sound shape) (sound_behind symbol start sound) e
    (λ next is f. sound_from rest next shape is f)

joined_through : (f g : Shape → Option Shape) (may : Option Shape) (shape last : Shape) → option_and_then f may ≡ Some shape → ((next : Shape) → f next ≡ Some shape → g next ≡ Some last) → option_and_then g may ≡ Some last
joined_through f g None shape last e go = absurd cc
joined_through f g (Some next) shape last e go = go next e

joined : (symbols more : List ℕ) (start shape last : Shape) → symbols_from start symbols ≡ Some shape → symbols_from shape more ≡ Some last → symbols_from start (symbols ++ more) ≡ Some last
unfolding symbols_from
joined [] more start shape last e f = subst (λ (s : Shape). symbols_from s more ≡ Some last) (sym (same_some start shape e)) f
joined (symbol ∷ rest) more start shape last e f =
    joined_through (λ next. symbols_from next rest) (λ next. symbols_from next (rest ++ more)) (behind symbol start) shape last e
    (λ next g. joined rest more next shape last g f)

pub beginnings_go_on : BeginningsGoOn
beginnings_go_on symbols shape e =
    let rest = rest_by shape.stage shape refl (sound_from symbols empty shape tt e) in
    (rest.more, rest.last, joined symbols rest.more empty shape rest.last e rest.comes, rest.whole)
