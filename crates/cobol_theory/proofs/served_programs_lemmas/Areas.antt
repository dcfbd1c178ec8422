-- The area of an item is as its entry's picture says, so that a place that is whole by its entry is
-- so by its area.
use Rattle.std.proofs.Common.{◌≡◌, ℕ, zero, suc, ◌-◌, ◌<◌, ◌≤◌, Bool, true, false, ◌⊎◌, inl, inr, not, if◌then◌else◌, List, [], ◌∷◌, ◌++◌, length, Option, Some, None, refl, ap, sym, ◌∙◌, subst, arith, append-nil}
use Rattle.std.specs.Prelude.{slice_get}
use Rattle.std.proofs.lemmas.List.{length-append, append_assoc}
use Rattle.cob_tree.specs.declared.entry.Entry.{Entry}
use Rattle.cob_tree.specs.declared.picture.Picture.{Picture}
use Rattle.cob_store.specs.declared.area.Area.{Area}
use Rattle.cob_store.specs.declared.area.Dim.{Dim}
use Rattle.cob_store.specs.declared.laying.Laid.{Laid}
use Rattle.cob_store.specs.declared.laying.Open.{Open}
use Rattle.cob_store.specs.Size.{picture_size, is_condition, is_apart, inside, size_by, Sized, item_sized, apart_sized, sized_by, sized}
use Rattle.cob_store.specs.Laying.{groups_of, last_area, area_of, form_by, item_laid, condition_laid, apart_laid, laid_by, laid_from, nothing_laid, layout_of}
use Rattle.cobol_theory.specs.added_items.Laying.{begins_with_item}

-- ---- sizes

-- an item with a picture is as long as the picture says
abbrev SizeFits : Entry → ℕ → Type 0
SizeFits entry size = is_condition entry ≡ false → (picture : Picture) → entry.picture ≡ Some picture → size ≡ picture_size picture entry.sign entry.usage

abbrev SizesFit : List Entry → List ℕ → Type 0
SizesFit [] sizes = Unit {0}
SizesFit (entry ∷ entries) [] = ⊥
SizesFit (entry ∷ entries) (size ∷ sizes) = SizeFits entry size × SizesFit entries sizes

sized-fits : (entry : Entry) (entries : List Entry) (later : Sized) → SizesFit entries later.sizes → SizesFit (entry ∷ entries) (sized_by entry later).sizes
sized-fits entry entries later h = by_condition (is_condition entry) refl
  where
    by_apart : (b : Bool) → SizesFit (entry ∷ entries) (if b then apart_sized (size_by entry.picture entry.sign entry.usage 0) later else item_sized entry (size_by entry.picture entry.sign entry.usage (inside entry.level 0 later.pieces)) later).sizes
    by_apart true = (λ item picture is. ap (λ p. size_by p entry.sign entry.usage 0) is, h)
    by_apart false = (λ item picture is. ap (λ p. size_by p entry.sign entry.usage (inside entry.level 0 later.pieces)) is, h)

    by_condition : (b : Bool) → is_condition entry ≡ b → SizesFit (entry ∷ entries) (if b then apart_sized 0 later else if is_apart entry then apart_sized (size_by entry.picture entry.sign entry.usage 0) later else item_sized entry (size_by entry.picture entry.sign entry.usage (inside entry.level 0 later.pieces)) later).sizes
    by_condition true here = (λ item picture is. absurd (cc), h)
    by_condition false here = by_apart (is_apart entry)

sizes-fit : (entries : List Entry) → SizesFit entries (sized entries).sizes
sizes-fit [] = tt
sizes-fit (entry ∷ entries) = sized-fits entry entries (sized entries) (sizes-fit entries)

-- ---- areas

abbrev pub AreaFits : Entry → Area → Type 0
AreaFits entry area = is_condition entry ≡ false → (picture : Picture) → entry.picture ≡ Some picture →
    (area.size ≡ picture_size picture entry.sign entry.usage) × (area.form ≡ form_by entry.sign entry.usage (Some picture))

abbrev AreasFit : List Entry → List Area → Type 0
AreasFit [] areas = Unit {0}
AreasFit (entry ∷ entries) [] = ⊥
AreasFit (entry ∷ entries) (area ∷ areas) = AreaFits entry area × AreasFit entries areas

-- one more area behind these
abbrev Adds : Entry → List Area → List Area → Type 0
Adds entry areas more = (area : Area) × (more ≡ areas ++ area ∷ []) × AreaFits entry area

get-there : {X : Type 0} (xs : List X) (i : ℕ) → i < length xs → (x : X) × (slice_get xs i ≡ Some x)
get-there [] i h = absurd (omega (arith, h))
get-there (x ∷ xs) zero h = (x, refl)
get-there (x ∷ xs) (suc i) h = get-there xs i (omega (arith, h))

of-size : (entry : Entry) (size root start : ℕ) (dims : List Dim) → SizeFits entry size → AreaFits entry (area_of entry size root start dims)
of-size entry size root start dims h item picture is = (h item picture is, ap (form_by entry.sign entry.usage) is)

adds-one : (entry : Entry) (areas : List Area) (size root start : ℕ) (dims : List Dim) → SizeFits entry size → Adds entry areas (areas ++ area_of entry size root start dims ∷ [])
adds-one entry areas size root start dims h = (area_of entry size root start dims, refl, of-size entry size root start dims h)

condition-adds : (entry : Entry) (laid : Laid) (area : Option Area) → is_condition entry ≡ true → area ≡ last_area laid.areas → 1 ≤ length laid.areas → Adds entry laid.areas (condition_laid laid area).areas
condition-adds entry laid None here is some = let there = get-there laid.areas (length laid.areas - 1) (omega (arith, some)) in absurd (cc)
condition-adds entry laid (Some area) here is some = (area, refl, λ item picture has. absurd (cc))

item-adds : (entry : Entry) (laid : Laid) (size : ℕ) (groups : List Open) → SizeFits entry size → Adds entry laid.areas (item_laid laid entry size groups).areas
item-adds entry laid size [] h = adds-one entry laid.areas size _ _ _ h
item-adds entry laid size (group ∷ groups) h = adds-one entry laid.areas size _ _ _ h

one-adds : (entry : Entry) (laid : Laid) (size : ℕ) → SizeFits entry size → (1 ≤ length laid.areas) ⊎ (is_condition entry ≡ false) → Adds entry laid.areas (laid_by laid entry size).areas
one-adds entry laid size h begins = by_condition (is_condition entry) refl
  where
    by_apart : (b : Bool) → Adds entry laid.areas (if b then apart_laid laid entry size else item_laid laid entry size (groups_of entry.level laid.groups)).areas
    by_apart true = adds-one entry laid.areas size _ _ _ h
    by_apart false = item-adds entry laid size (groups_of entry.level laid.groups) h

    by_condition : (b : Bool) → is_condition entry ≡ b →
        Adds entry laid.areas (if b then condition_laid laid (last_area laid.areas) else if is_apart entry then apart_laid laid entry size else item_laid laid entry size (groups_of entry.level laid.groups)).areas
    by_condition true here = elim begins [
      | inl some ↦ condition-adds entry laid (last_area laid.areas) here refl some
      | inr item ↦ absurd (cc)
    ]
    by_condition false here = by_apart (is_apart entry)

begins-so : (entry : Entry) (areas : List Area) → (1 ≤ length areas) ⊎ (not (is_condition entry) ≡ true) → (1 ≤ length areas) ⊎ (is_condition entry ≡ false)
begins-so entry areas (inl some) = inl some
begins-so entry areas (inr item) = inr (turned (is_condition entry) item)
  where
    turned : (b : Bool) → not b ≡ true → b ≡ false
    turned true is = absurd (cc)
    turned false is = refl

-- what is laid behind these areas
abbrev LaysBehind : List Entry → List Area → List Area → Type 0
LaysBehind entries areas more = (own : List Area) × (more ≡ areas ++ own) × AreasFit entries own

all-fit : (laid : Laid) (entries : List Entry) (sizes : List ℕ) → SizesFit entries sizes → (1 ≤ length laid.areas) ⊎ (begins_with_item entries ≡ true) → LaysBehind entries laid.areas (laid_from laid entries sizes).areas
all-fit laid [] sizes h begins = ([], sym (append-nil laid.areas), tt)
all-fit laid (entry ∷ entries) [] h begins = absurd h
all-fit laid (entry ∷ entries) (size ∷ sizes) h begins =
    let one = one-adds entry laid size h.0 (begins-so entry laid.areas begins) in
    let long : 1 ≤ length (laid_by laid entry size).areas = let is = ap length one.1 in let more = length-append laid.areas (one.0 ∷ []) in omega (arith, is, more) in
    let rest = all-fit (laid_by laid entry size) entries sizes h.1 (inl long) in
    (one.0 ∷ rest.0, rest.1 ∙ ap (λ areas. areas ++ rest.0) one.1 ∙ append_assoc laid.areas (one.0 ∷ []) rest.0, (one.2, rest.2))

abbrev FitsSome : Option Entry → Area → Type 0
FitsSome None area = Unit {0}
FitsSome (Some entry) area = AreaFits entry area

found : (entries : List Entry) (areas : List Area) → AreasFit entries areas → (item : ℕ) (entry : Entry) → slice_get entries item ≡ Some entry →
    (area : Area) × (slice_get areas item ≡ Some area) × AreaFits entry area
found [] areas h item entry is = absurd (cc)
found (first ∷ entries) [] h item entry is = absurd h
found (first ∷ entries) (area ∷ areas) h zero entry is = (area, refl, subst (λ e. FitsSome e area) is h.0)
found (first ∷ entries) (area ∷ areas) h (suc item) entry is = found entries areas h.1 item entry is

pub area-of : (entries : List Entry) → begins_with_item entries ≡ true → (item : ℕ) (entry : Entry) → slice_get entries item ≡ Some entry →
    (area : Area) × (slice_get (layout_of entries).items item ≡ Some area) × AreaFits entry area
area-of entries begins item entry is =
    let laid = all-fit nothing_laid entries (sized entries).sizes (sizes-fit entries) (inr begins) in
    let there = found entries laid.0 laid.2 item entry is in
    (there.0, ap (λ areas. slice_get areas item) laid.1 ∙ there.1, there.2)
