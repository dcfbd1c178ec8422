-- Each item of a layout has the bytes that its form wants.
use Rattle.std.proofs.Common.{◌≡◌, ℕ, ◌+◌, ◌-◌, ◌≤◌, min, Bool, true, false, ◌&&◌, ◌==◌, if◌then◌else◌, List, [], ◌∷◌, ◌++◌, length, Option, Some, None, refl, ap, sym, subst, arith, le-leb, slice_get, inl, inr}
use Rattle.std.specs.List.{All}
use Rattle.std.proofs.lemmas.List.Elements.{All-nil, All-push, All-get_or}
use Rattle.std.proofs.lemmas.Option.{get_or_from_slice_get, slice_get_within}
use Rattle.std.proofs.Math.Nat.{min-eq_left}
use Rattle.std.proofs.lemmas.Bool.Decides.{eqb_tells}
use Rattle.stored_forms.specs.Binary.{binary_size}
use Rattle.stored_forms.specs.Packed.{packed_size}
use Rattle.cob_tree.specs.declared.entry.Entry.{Entry}
use Rattle.cob_tree.specs.declared.picture.Picture.{Picture}
use Rattle.cob_tree.specs.declared.picture.Picture.TheVariants as pictures
use Rattle.cob_tree.specs.declared.picture.Sign.{Sign}
use Rattle.cob_tree.specs.declared.picture.Usage.{Usage}
use Rattle.cob_tree.specs.declared.picture.Usage.TheVariants as usages
use Rattle.cob_store.specs.declared.area.Area.{Area}
use Rattle.cob_store.specs.declared.area.Dim.{Dim}
use Rattle.cob_store.specs.declared.laying.Laid.{Laid}
use Rattle.cob_store.specs.declared.laying.Open.{Open}
use Rattle.cob_store.specs.Laws.{AreaFits, FormFits, IsStoredIn, LayoutFits}
use Rattle.cob_store.specs.Laying.{apart_laid, area_of, condition_laid, form_by, groups_of, item_laid, laid_by, laid_from, last_area, mask_by, nothing_laid}
use Rattle.cob_store.specs.Number.{digit_count, is_stored}
use Rattle.cob_store.specs.Size.{Sized, apart_sized, inside, is_apart, is_condition, item_sized, picture_size, size_by, sized, sized_by}
use Rattle.cob_store.specs.Store.{form_with}

-- ---- what a picture says

all-true : (p q r : Bool) → p ≡ true → q ≡ true → r ≡ true → (p && q && r) ≡ true
all-true true true true a b c = refl
all-true false q r a b c = a
all-true true false r a b c = b
all-true true true false a b c = c

eq-self : (n : ℕ) → (n == n) ≡ true
eq-self n = elim (eqb_tells n n) [ inl e ↦ e.0 | inr e ↦ absurd (e.1 refl) ]

stored-there : (size : ℕ → ℕ) (digits : ℕ) → 1 ≤ digits → digits ≤ 18 → is_stored size digits (size digits) ≡ true
stored-there size digits some few = all-true _ _ _ (le-leb 1 digits some) (le-leb digits 18 few) (eq-self (size digits))

stored-in : (size : ℕ → ℕ) (whole part : ℕ) → 1 ≤ whole + part → whole + part ≤ 18 →
    IsStoredIn size (digit_count whole part) (whole + part) (size (digit_count whole part))
stored-in size whole part some few =
    let all : digit_count whole part ≡ whole + part = min-eq_left (omega (arith, few)) in
    record {
      all = all;
      right = subst (λ digits. is_stored size digits (size digits) ≡ true) (sym all) (stored-there size (whole + part) some few);
    }

picture-fits : (picture : Picture) (sign : Sign) (usage : Usage) → FormFits (form_with picture sign usage) (mask_by (Some picture)) (picture_size picture sign usage)
picture-fits (pictures.Number signed whole part) sign usages.Display = λ some few. refl
picture-fits (pictures.Number signed whole part) sign usages.Binary = stored-in binary_size whole part
picture-fits (pictures.Number signed whole part) sign usages.Packed = stored-in packed_size whole part
picture-fits (pictures.Letters size) sign usage = tt
picture-fits (pictures.Any size) sign usage = tt
picture-fits (pictures.Edited mask) sign usage = refl

-- a size is the picture's, where there is one
abbrev IsSizeBy : Option Picture → Sign → Usage → ℕ → Type 0
IsSizeBy picture sign usage size = (item : Picture) → picture ≡ Some item → size ≡ picture_size item sign usage

form-fits : (picture : Option Picture) (sign : Sign) (usage : Usage) (size : ℕ) → IsSizeBy picture sign usage size → FormFits (form_by sign usage picture) (mask_by picture) size
form-fits None sign usage size is = tt
form-fits (Some picture) sign usage size is =
    subst (λ bytes. FormFits (form_with picture sign usage) (mask_by (Some picture)) bytes) (sym (is picture refl)) (picture-fits picture sign usage)

-- ---- the sizes of entries

abbrev SizeFits : Entry → ℕ → Type 0
SizeFits entry size = is_condition entry ≡ false → IsSizeBy entry.picture entry.sign entry.usage size

abbrev SizesFit : List Entry → List ℕ → Type 0
SizesFit [] sizes = Unit {0}
SizesFit (entry ∷ entries) [] = ⊥
SizesFit (entry ∷ entries) (size ∷ sizes) = SizeFits entry size × SizesFit entries sizes

sized-fits : (entry : Entry) (entries : List Entry) (later : Sized) → SizesFit entries later.sizes → SizesFit (entry ∷ entries) (sized_by entry later).sizes
sized-fits entry entries later h = by_condition (is_condition entry) refl
  where
    by_apart : (b : Bool) → SizesFit (entry ∷ entries) (if b then apart_sized (size_by entry.picture entry.sign entry.usage 0) later else item_sized entry (size_by entry.picture entry.sign entry.usage (inside entry.level 0 later.pieces)) later).sizes
    by_apart true = (λ item picture is. ap (λ p. size_by p entry.sign entry.usage 0) is, h)
    by_apart false = (λ item picture is. ap (λ p. size_by p entry.sign entry.usage (inside entry.level 0 later.pieces)) is, h)

    by_condition : (b : Bool) → is_condition entry ≡ b → SizesFit (entry ∷ entries) (if b then apart_sized 0 later else if is_apart entry then apart_sized (size_by entry.picture entry.sign entry.usage 0) later else item_sized entry (size_by entry.picture entry.sign entry.usage (inside entry.level 0 later.pieces)) later).sizes
    by_condition true here = (λ item picture is. absurd (cc), h)
    by_condition false here = by_apart (is_apart entry)

sizes-fit : (entries : List Entry) → SizesFit entries (sized entries).sizes
sizes-fit [] = tt
sizes-fit (entry ∷ entries) = sized-fits entry entries (sized entries) (sizes-fit entries)

-- ---- areas

fits-there : (areas : List Area) (at : ℕ) (area : Area) → All AreaFits areas → slice_get areas at ≡ Some area → AreaFits area
fits-there areas at area fit is =
    subst AreaFits (get_or_from_slice_get areas at area area is) (All-get_or AreaFits areas at area (slice_get_within areas at area is) fit)

condition-fits : (laid : Laid) (area : Option Area) → last_area laid.areas ≡ area → All AreaFits laid.areas → All AreaFits (condition_laid laid area).areas
condition-fits laid None is fit = fit
condition-fits laid (Some area) is fit =
    All-push AreaFits laid.areas area fit (fits-there laid.areas (length laid.areas - 1) area fit is)

area-fits : (entry : Entry) (areas : List Area) (size root start : ℕ) (dims : List Dim) → IsSizeBy entry.picture entry.sign entry.usage size → All AreaFits areas → All AreaFits (areas ++ area_of entry size root start dims ∷ [])
area-fits entry areas size root start dims is fit =
    All-push AreaFits areas (area_of entry size root start dims) fit (form-fits entry.picture entry.sign entry.usage size is)

item-fits : (entry : Entry) (laid : Laid) (size : ℕ) (groups : List Open) → IsSizeBy entry.picture entry.sign entry.usage size → All AreaFits laid.areas → All AreaFits (item_laid laid entry size groups).areas
item-fits entry laid size [] is fit = area-fits entry laid.areas size _ _ _ is fit
item-fits entry laid size (group ∷ groups) is fit = area-fits entry laid.areas size _ _ _ is fit

one-fits : (entry : Entry) (laid : Laid) (size : ℕ) → SizeFits entry size → All AreaFits laid.areas → All AreaFits (laid_by laid entry size).areas
one-fits entry laid size is fit = by_condition (is_condition entry) refl
  where
    by_apart : is_condition entry ≡ false → (b : Bool) → All AreaFits (if b then apart_laid laid entry size else item_laid laid entry size (groups_of entry.level laid.groups)).areas
    by_apart here true = area-fits entry laid.areas size _ _ _ (is here) fit
    by_apart here false = item-fits entry laid size (groups_of entry.level laid.groups) (is here) fit

    by_condition : (b : Bool) → is_condition entry ≡ b →
        All AreaFits (if b then condition_laid laid (last_area laid.areas) else if is_apart entry then apart_laid laid entry size else item_laid laid entry size (groups_of entry.level laid.groups)).areas
    by_condition true here = condition-fits laid (last_area laid.areas) refl fit
    by_condition false here = by_apart here (is_apart entry)

all-fit : (laid : Laid) (entries : List Entry) (sizes : List ℕ) → SizesFit entries sizes → All AreaFits laid.areas → All AreaFits (laid_from laid entries sizes).areas
all-fit laid [] sizes is fit = fit
all-fit laid (entry ∷ entries) [] is fit = absurd is
all-fit laid (entry ∷ entries) (size ∷ sizes) is fit =
    all-fit (laid_by laid entry size) entries sizes is.1 (one-fits entry laid size is.0 fit)

pub layout_fits : LayoutFits
layout_fits entries = all-fit nothing_laid entries (sized entries).sizes (sizes-fit entries) (All-nil AreaFits)
