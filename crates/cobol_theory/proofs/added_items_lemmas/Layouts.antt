-- Where the items of a layout lie, and those behind it.
use Rattle.std.proofs.Common.{◌≡◌, ℕ, zero, suc, ◌+◌, ◌-◌, ◌<◌, ◌≤◌, nat_lt, nat_le, Bool, true, false, ◌&&◌, ◌⊎◌, inl, inr, not, if◌then◌else◌, ◌==◌, List, [], ◌∷◌, ◌++◌, length, map, max, Option, Some, None, refl, ap, sym, ◌∙◌, subst, arith, ltb-true, leb-true, eqb-true, append-nil}
use Rattle.std.specs.Prelude.{is_some, slice_get, slice_set, slice_index}
use Rattle.std.proofs.lemmas.Bool.{and_parts}
use Rattle.std.proofs.lemmas.List.{length-append}
use Rattle.cob_tree.specs.declared.entry.Entry.{Entry}
use Rattle.cob_tree.specs.declared.picture.Picture.{Picture}
use Rattle.cob_store.specs.declared.area.Area.{Area}
use Rattle.cob_store.specs.declared.area.Areas.{Areas}
use Rattle.cob_store.specs.declared.laying.Laid.{Laid}
use Rattle.cob_store.specs.declared.laying.Open.{Open}
use Rattle.cob_store.specs.declared.size.SizedItem.{SizedItem}
use Rattle.cob_store.specs.Size.{capped, is_condition, is_apart, inside, behind, size_by, times, added, Sized, item_sized, apart_sized, sized_by, sized}
use Rattle.cob_store.specs.Laying.{groups_of, dims_of, root_by, same_file, last_area, lengthened, area_of, root_laid, alone_laid, item_laid, condition_laid, apart_laid, laid_by, laid_from, nothing_laid, areas_of, layout_of}
use Rattle.cob_store.specs.Area.{root_of}
use Rattle.cobol_theory.proofs.added_items_lemmas.Bytes.{set-long}
use Rattle.cobol_theory.specs.added_items.Laying.{begins_with_item, stands_alone, stand_alone, have_levels, size_alone, areas_alone, laid_behind}

-- ---- sizes

-- pieces of level 01 in front
abbrev Outermost : List SizedItem → Type 0
Outermost [] = Unit {0}
Outermost (piece ∷ pieces) = piece.depth ≡ 1

inside-kept : (depth bytes : ℕ) (pieces outer : List SizedItem) → 1 ≤ depth → Outermost outer → inside depth bytes (pieces ++ outer) ≡ inside depth bytes pieces
inside-kept depth bytes [] [] deep outermost = refl
inside-kept depth bytes [] (piece ∷ others) deep outermost = by_case (nat_lt depth piece.depth) refl
  where
    by_case : (b : Bool) → b ≡ nat_lt depth piece.depth → (if b then inside depth (capped (bytes + piece.bytes)) others else bytes) ≡ bytes
    by_case true is = absurd (omega (arith, deep, outermost, ltb-true depth piece.depth (sym is)))
    by_case false is = refl
inside-kept depth bytes (piece ∷ pieces) outer deep outermost =
    ap (λ x. if nat_lt depth piece.depth then x else bytes) (inside-kept depth (capped (bytes + piece.bytes)) pieces outer deep outermost)

behind-kept : (depth : ℕ) (pieces outer : List SizedItem) → 1 ≤ depth → Outermost outer → behind depth (pieces ++ outer) ≡ behind depth pieces ++ outer
behind-kept depth [] [] deep outermost = refl
behind-kept depth [] (piece ∷ others) deep outermost = by_case (nat_lt depth piece.depth) refl
  where
    by_case : (b : Bool) → b ≡ nat_lt depth piece.depth → (if b then behind depth others else piece ∷ others) ≡ piece ∷ others
    by_case true is = absurd (omega (arith, deep, outermost, ltb-true depth piece.depth (sym is)))
    by_case false is = refl
behind-kept depth (piece ∷ pieces) outer deep outermost =
    ap (λ x. if nat_lt depth piece.depth then x else piece ∷ (pieces ++ outer)) (behind-kept depth pieces outer deep outermost)
    ∙ by_case (nat_lt depth piece.depth)
  where
    by_case : (b : Bool) → (if b then behind depth pieces ++ outer else piece ∷ (pieces ++ outer)) ≡ (if b then behind depth pieces else piece ∷ pieces) ++ outer
    by_case true = refl
    by_case false = refl

-- sizes and pieces with others behind
abbrev with_outer : Sized → Sized → Sized
with_outer own outer = record { sizes = own.sizes ++ outer.sizes; pieces = own.pieces ++ outer.pieces }

sized-by-kept : (entry : Entry) (own outer : Sized) → 1 ≤ entry.level → Outermost outer.pieces → sized_by entry (with_outer own outer) ≡ with_outer (sized_by entry own) outer
sized-by-kept entry own outer deep outermost = by_condition (is_condition entry)
  where
    item : item_sized entry (size_by entry.picture entry.sign entry.usage (inside entry.level 0 (own.pieces ++ outer.pieces))) (with_outer own outer)
        ≡ with_outer (item_sized entry (size_by entry.picture entry.sign entry.usage (inside entry.level 0 own.pieces)) own) outer
    item =
        ap (λ bytes. item_sized entry (size_by entry.picture entry.sign entry.usage bytes) (with_outer own outer)) (inside-kept entry.level 0 own.pieces outer.pieces deep outermost)
        ∙ ap (λ rest. record {
          sizes = size_by entry.picture entry.sign entry.usage (inside entry.level 0 own.pieces) ∷ (own.sizes ++ outer.sizes);
          pieces = record { depth = entry.level; bytes = added entry.redefines (times entry.occurs (size_by entry.picture entry.sign entry.usage (inside entry.level 0 own.pieces))) } ∷ rest;
        })
        (behind-kept entry.level own.pieces outer.pieces deep outermost)

    by_apart : (b : Bool) →
        (if b then apart_sized (size_by entry.picture entry.sign entry.usage 0) (with_outer own outer) else item_sized entry (size_by entry.picture entry.sign entry.usage (inside entry.level 0 (own.pieces ++ outer.pieces))) (with_outer own outer))
        ≡ with_outer (if b then apart_sized (size_by entry.picture entry.sign entry.usage 0) own else item_sized entry (size_by entry.picture entry.sign entry.usage (inside entry.level 0 own.pieces)) own) outer
    by_apart true = refl
    by_apart false = item

    by_condition : (b : Bool) →
        (if b then apart_sized 0 (with_outer own outer) else if is_apart entry then apart_sized (size_by entry.picture entry.sign entry.usage 0) (with_outer own outer) else item_sized entry (size_by entry.picture entry.sign entry.usage (inside entry.level 0 (own.pieces ++ outer.pieces))) (with_outer own outer))
        ≡ with_outer (if b then apart_sized 0 own else if is_apart entry then apart_sized (size_by entry.picture entry.sign entry.usage 0) own else item_sized entry (size_by entry.picture entry.sign entry.usage (inside entry.level 0 own.pieces)) own) outer
    by_condition true = refl
    by_condition false = by_apart (is_apart entry)

sized-kept : (entries : List Entry) (others : List Entry) → have_levels entries ≡ true → Outermost (sized others).pieces → sized (entries ++ others) ≡ with_outer (sized entries) (sized others)
sized-kept [] others e outermost = refl
sized-kept (entry ∷ entries) others e outermost =
    let h = and_parts (nat_le 1 entry.level) (have_levels entries) e in
    ap (sized_by entry) (sized-kept entries others h.1 outermost) ∙ sized-by-kept entry (sized entries) (sized others) (leb-true 1 entry.level h.0) outermost

-- ---- roots

last-cases : {X : Type 0} (xs : List X) (x : X) (i : ℕ) (y : X) → slice_get (xs ++ x ∷ []) i ≡ Some y → (slice_get xs i ≡ Some y) ⊎ (x ≡ y)
last-cases [] x zero y is = inr (cc)
last-cases [] x (suc i) y is = absurd (cc)
last-cases (x' ∷ xs) x zero y is = inl is
last-cases (x' ∷ xs) x (suc i) y is = last-cases xs x i y is

-- each group lies in one of so many roots
abbrev GroupsIn : ℕ → List Open → Type 0
GroupsIn roots [] = Unit {0}
GroupsIn roots (group ∷ groups) = (group.root < roots) × GroupsIn roots groups

groups-in : (roots more : ℕ) (groups : List Open) → roots ≤ more → GroupsIn roots groups → GroupsIn more groups
groups-in roots more [] le h = tt
groups-in roots more (group ∷ groups) le h = (omega (arith, le, h.0), groups-in roots more groups le h.1)

closed-by : (b : Bool) (roots : ℕ) (group : Open) (groups rest : List Open) → GroupsIn roots (group ∷ groups) → GroupsIn roots rest → GroupsIn roots (if b then group ∷ groups else rest)
closed-by true roots group groups rest h later = h
closed-by false roots group groups rest h later = later

closed-in : (roots depth : ℕ) (groups : List Open) → GroupsIn roots groups → GroupsIn roots (groups_of depth groups)
closed-in roots depth [] h = tt
closed-in roots depth (group ∷ groups) h = closed-by (nat_lt group.depth depth) roots group groups (groups_of depth groups) h (closed-in roots depth groups h.1)

record Inside (laid : Laid) : Type 0 where
  areas : (item : ℕ) (area : Area) → slice_get laid.areas item ≡ Some area → area.root < length laid.roots
  groups : GroupsIn (length laid.roots) laid.groups

longer : (roots : List ℕ) (root size : ℕ) → root ≤ length roots → (root < length (lengthened roots root size)) × (length roots ≤ length (lengthened roots root size))
longer roots root size le = by_case (nat_lt root (length roots)) refl
  where
    by_case : (b : Bool) → b ≡ nat_lt root (length roots) →
        (root < length (if b then slice_set roots root (max (slice_index roots root) size) else roots ++ size ∷ [])) × (length roots ≤ length (if b then slice_set roots root (max (slice_index roots root) size) else roots ++ size ∷ []))
    by_case true is =
        let same = set-long roots root (max (slice_index roots root) size) in
        let below = ltb-true root (length roots) (sym is) in
        (omega (arith, same, below), omega (arith, same))
    by_case false is = let same = length-append roots (size ∷ []) in (omega (arith, same, le), omega (arith, same))

of-area : (laid : Laid) → Inside laid → (item : ℕ) → root_of (slice_get laid.areas item) ≤ length laid.roots
of-area laid inside item = by_area (slice_get laid.areas item) refl
  where
    by_area : (area : Option Area) → area ≡ slice_get laid.areas item → root_of area ≤ length laid.roots
    by_area None is = omega arith
    by_area (Some area) is = let h = inside.areas item area (sym is) in omega (arith, h)

root-near : (laid : Laid) → Inside laid → (redefines file : Option ℕ) → root_by laid redefines file ≤ length laid.roots
root-near laid inside (Some redefined) file = of-area laid inside redefined
root-near laid inside None file = by_case (same_file file laid.file)
  where
    by_case : (b : Bool) → (if b then root_of (last_area laid.areas) else length laid.roots) ≤ length laid.roots
    by_case true = of-area laid inside (length laid.areas - 1)
    by_case false = omega arith

areas-with : (areas : List Area) (roots more : ℕ) (added : Area) → ((item : ℕ) (area : Area) → slice_get areas item ≡ Some area → area.root < roots) → roots ≤ more → added.root < more →
    (item : ℕ) (area : Area) → slice_get (areas ++ added ∷ []) item ≡ Some area → area.root < more
areas-with areas roots more added inside le here item area is =
    elim (last-cases areas added item area is) [
      | inl own ↦ (let h = inside item area own in omega (arith, h, le))
      | inr same ↦ subst (λ (a : Area). a.root < more) same here
    ]

alone-inside : (laid : Laid) (entry : Entry) (size : ℕ) → Inside laid → Inside (alone_laid laid entry size)
alone-inside laid entry size inside =
    let root = root_by laid entry.redefines entry.file in
    let dims = dims_of entry.occurs size in
    let long = longer laid.roots root size (root-near laid inside entry.redefines entry.file) in
    record {
      areas = areas-with laid.areas (length laid.roots) (length (lengthened laid.roots root size)) (area_of entry size root 0 dims) inside.areas long.1 long.0;
      groups = (long.0, groups-in (length laid.roots) (length (lengthened laid.roots root size)) laid.groups long.1 inside.groups);
    }

item-inside : (laid : Laid) (entry : Entry) (size : ℕ) (groups : List Open) → Inside laid → GroupsIn (length laid.roots) groups → Inside (item_laid laid entry size groups)
item-inside laid entry size [] inside h = alone-inside (record laid { groups = [] }) entry size (record { areas = inside.areas; groups = tt })
item-inside laid entry size (group ∷ groups) inside h = record {
  areas = areas-with laid.areas (length laid.roots) (length laid.roots) (area_of entry size group.root _ _) inside.areas (omega arith) h.0;
  groups = (h.0, (h.0, h.1));
}

condition-inside : (laid : Laid) (area : Option Area) → ((a : Area) → area ≡ Some a → a.root < length laid.roots) → Inside laid → Inside (condition_laid laid area)
condition-inside laid None h inside = inside
condition-inside laid (Some area) h inside = record {
  areas = areas-with laid.areas (length laid.roots) (length laid.roots) area inside.areas (omega arith) (h area refl);
  groups = inside.groups;
}

apart-inside : (laid : Laid) (entry : Entry) (size : ℕ) → Inside laid → Inside (apart_laid laid entry size)
apart-inside laid entry size inside = let h = alone-inside laid entry size inside in record { areas = h.areas; groups = h.groups.1 }

laid-inside : (laid : Laid) (entry : Entry) (size : ℕ) → Inside laid → Inside (laid_by laid entry size)
laid-inside laid entry size inside = by_condition (is_condition entry)
  where
    by_apart : (b : Bool) → Inside (if b then apart_laid laid entry size else item_laid laid entry size (groups_of entry.level laid.groups))
    by_apart true = apart-inside laid entry size inside
    by_apart false = item-inside laid entry size (groups_of entry.level laid.groups) inside (closed-in (length laid.roots) entry.level laid.groups inside.groups)

    by_condition : (b : Bool) → Inside (if b then condition_laid laid (last_area laid.areas) else if is_apart entry then apart_laid laid entry size else item_laid laid entry size (groups_of entry.level laid.groups))
    by_condition true = condition-inside laid (last_area laid.areas) (inside.areas (length laid.areas - 1)) inside
    by_condition false = by_apart (is_apart entry)

all-inside : (laid : Laid) (entries : List Entry) (sizes : List ℕ) → Inside laid → Inside (laid_from laid entries sizes)
all-inside laid [] sizes inside = inside
all-inside laid (entry ∷ entries) [] inside = inside
all-inside laid (entry ∷ entries) (size ∷ sizes) inside = all-inside (laid_by laid entry size) entries sizes (laid-inside laid entry size inside)

-- ---- how many areas there are

sized-long : (entry : Entry) (later : Sized) (count : ℕ) → length later.sizes ≡ count → length (sized_by entry later).sizes ≡ suc count
sized-long entry later count h = by_condition (is_condition entry)
  where
    by_apart : (b : Bool) → length (if b then apart_sized (size_by entry.picture entry.sign entry.usage 0) later else item_sized entry (size_by entry.picture entry.sign entry.usage (inside entry.level 0 later.pieces)) later).sizes ≡ suc count
    by_apart true = ap suc h
    by_apart false = ap suc h

    by_condition : (b : Bool) → length (if b then apart_sized 0 later else if is_apart entry then apart_sized (size_by entry.picture entry.sign entry.usage 0) later else item_sized entry (size_by entry.picture entry.sign entry.usage (inside entry.level 0 later.pieces)) later).sizes ≡ suc count
    by_condition true = ap suc h
    by_condition false = by_apart (is_apart entry)

sizes-long : (entries : List Entry) → length (sized entries).sizes ≡ length entries
sizes-long [] = refl
sizes-long (entry ∷ entries) = sized-long entry (sized entries) (length entries) (sizes-long entries)

get-there : {X : Type 0} (xs : List X) (i : ℕ) → i < length xs → (x : X) × (slice_get xs i ≡ Some x)
get-there [] i h = absurd (omega (arith, h))
get-there (x ∷ xs) zero h = (x, refl)
get-there (x ∷ xs) (suc i) h = get-there xs i (omega (arith, h))

one-longer : (areas : List Area) (area : Area) → length (areas ++ area ∷ []) ≡ suc (length areas)
one-longer areas area = let is = length-append areas (area ∷ []) in omega (arith, is)

condition-long : (laid : Laid) (area : Option Area) → area ≡ last_area laid.areas → 1 ≤ length laid.areas → length (condition_laid laid area).areas ≡ suc (length laid.areas)
condition-long laid None is some = let there = get-there laid.areas (length laid.areas - 1) (omega (arith, some)) in absurd (cc)
condition-long laid (Some area) is some = one-longer laid.areas area

item-long : (laid : Laid) (entry : Entry) (size : ℕ) (groups : List Open) → length (item_laid laid entry size groups).areas ≡ suc (length laid.areas)
item-long laid entry size [] = one-longer laid.areas _
item-long laid entry size (group ∷ groups) = one-longer laid.areas _

laid-long : (laid : Laid) (entry : Entry) (size : ℕ) → (1 ≤ length laid.areas) ⊎ (is_condition entry ≡ false) → length (laid_by laid entry size).areas ≡ suc (length laid.areas)
laid-long laid entry size begins = by_condition (is_condition entry) refl
  where
    by_apart : (b : Bool) → length (if b then apart_laid laid entry size else item_laid laid entry size (groups_of entry.level laid.groups)).areas ≡ suc (length laid.areas)
    by_apart true = one-longer laid.areas _
    by_apart false = item-long laid entry size (groups_of entry.level laid.groups)

    by_condition : (b : Bool) → b ≡ is_condition entry →
        length (if b then condition_laid laid (last_area laid.areas) else if is_apart entry then apart_laid laid entry size else item_laid laid entry size (groups_of entry.level laid.groups)).areas ≡ suc (length laid.areas)
    by_condition true is = elim begins [
      | inl some ↦ condition-long laid (last_area laid.areas) refl some
      | inr none ↦ absurd (cc)
    ]
    by_condition false is = by_apart (is_apart entry)

all-long : (laid : Laid) (entries : List Entry) (sizes : List ℕ) → length sizes ≡ length entries → (1 ≤ length laid.areas) ⊎ (begins_with_item entries ≡ true) →
    length (laid_from laid entries sizes).areas ≡ length laid.areas + length entries
all-long laid [] sizes same begins = omega arith
all-long laid (entry ∷ entries) [] same begins = absurd (omega (arith, same))
all-long laid (entry ∷ entries) (size ∷ sizes) same begins =
    let one = laid-long laid entry size (begins-so begins) in
    let rest = all-long (laid_by laid entry size) entries sizes (omega (arith, same)) (inl (omega (arith, one))) in
    omega (arith, one, rest)
  where
    begins-so : (1 ≤ length laid.areas) ⊎ (not (is_condition entry) ≡ true) → (1 ≤ length laid.areas) ⊎ (is_condition entry ≡ false)
    begins-so (inl some) = inl some
    begins-so (inr item) = inr (turned (is_condition entry) item)
      where
        turned : (b : Bool) → not b ≡ true → b ≡ false
        turned true is = absurd (cc)
        turned false is = refl

pub inside-of : (entries : List Entry) → begins_with_item entries ≡ true →
    (length entries ≡ length (layout_of entries).items)
    × ((item : ℕ) (area : Area) → slice_get (layout_of entries).items item ≡ Some area → area.root < length (layout_of entries).roots)
inside-of entries begins = (
  (let is = all-long nothing_laid entries (sized entries).sizes (sizes-long entries) (inr begins) in omega (arith, is)),
  (all-inside nothing_laid entries (sized entries).sizes (record { areas = λ item area is. absurd (cc); groups = tt })).areas,
)

-- ---- items that stand alone

-- no open group is of level 0
abbrev AreDeep : List Open → Type 0
AreDeep [] = Unit {0}
AreDeep (group ∷ groups) = (1 ≤ group.depth) × AreDeep groups

closed-deep : (depth : ℕ) (groups : List Open) → AreDeep groups → AreDeep (groups_of depth groups)
closed-deep depth [] h = tt
closed-deep depth (group ∷ groups) h = deep-by (nat_lt group.depth depth) group groups (groups_of depth groups) h (closed-deep depth groups h.1)
  where
    deep-by : (b : Bool) (group : Open) (groups rest : List Open) → AreDeep (group ∷ groups) → AreDeep rest → AreDeep (if b then group ∷ groups else rest)
    deep-by true group groups rest h later = h
    deep-by false group groups rest h later = later

item-deep : (laid : Laid) (entry : Entry) (size : ℕ) (groups : List Open) → 1 ≤ entry.level → AreDeep groups → AreDeep (item_laid laid entry size groups).groups
item-deep laid entry size [] deep h = (deep, tt)
item-deep laid entry size (group ∷ groups) deep h = (deep, (h.0, h.1))

condition-deep : (laid : Laid) (area : Option Area) → AreDeep laid.groups → AreDeep (condition_laid laid area).groups
condition-deep laid None h = h
condition-deep laid (Some area) h = h

laid-deep : (laid : Laid) (entry : Entry) (size : ℕ) → 1 ≤ entry.level → AreDeep laid.groups → AreDeep (laid_by laid entry size).groups
laid-deep laid entry size deep h = by_condition (is_condition entry)
  where
    by_apart : (b : Bool) → AreDeep (if b then apart_laid laid entry size else item_laid laid entry size (groups_of entry.level laid.groups)).groups
    by_apart true = h
    by_apart false = item-deep laid entry size (groups_of entry.level laid.groups) deep (closed-deep entry.level laid.groups h)

    by_condition : (b : Bool) → AreDeep (if b then condition_laid laid (last_area laid.areas) else if is_apart entry then apart_laid laid entry size else item_laid laid entry size (groups_of entry.level laid.groups)).groups
    by_condition true = condition-deep laid (last_area laid.areas) h
    by_condition false = by_apart (is_apart entry)

all-deep : (laid : Laid) (entries : List Entry) (sizes : List ℕ) → have_levels entries ≡ true → AreDeep laid.groups → AreDeep (laid_from laid entries sizes).groups
all-deep laid [] sizes e h = h
all-deep laid (entry ∷ entries) [] e h = h
all-deep laid (entry ∷ entries) (size ∷ sizes) e h =
    let levels = and_parts (nat_le 1 entry.level) (have_levels entries) e in
    all-deep (laid_by laid entry size) entries sizes levels.1 (laid-deep laid entry size (leb-true 1 entry.level levels.0) h)

none-open : (groups : List Open) → AreDeep groups → groups_of 1 groups ≡ []
none-open [] h = refl
none-open (group ∷ groups) h = none-by (nat_lt group.depth 1) refl (none-open groups h.1)
  where
    none-by : (b : Bool) → b ≡ nat_lt group.depth 1 → groups_of 1 groups ≡ [] → (if b then group ∷ groups else groups_of 1 groups) ≡ []
    none-by true is rest = absurd (omega (arith, h.0, ltb-true group.depth 1 (sym is)))
    none-by false is rest = rest

-- what an entry is that stands alone
pub record Alone (entry : Entry) : Type 0 where
  pub level : entry.level ≡ 1
  pub file : entry.file ≡ None
  pub redefines : entry.redefines ≡ None
  pub occurs : entry.occurs ≡ None
  pub picture : is_some entry.picture ≡ true

none-of : {X : Type 0} (x : Option X) → not (is_some x) ≡ true → x ≡ None
none-of None h = refl
none-of (Some x) h = absurd (cc)

pub alone-of : (entry : Entry) → stands_alone entry ≡ true → Alone entry
alone-of entry e =
    let a = and_parts (entry.level == 1 && not (is_some entry.file) && not (is_some entry.redefines) && not (is_some entry.occurs)) (is_some entry.picture) e in
    let b = and_parts (entry.level == 1 && not (is_some entry.file) && not (is_some entry.redefines)) (not (is_some entry.occurs)) a.0 in
    let c = and_parts (entry.level == 1 && not (is_some entry.file)) (not (is_some entry.redefines)) b.0 in
    let d = and_parts (entry.level == 1) (not (is_some entry.file)) c.0 in
    record {
      level = eqb-true entry.level 1 d.0;
      file = none-of entry.file d.1;
      redefines = none-of entry.redefines c.1;
      occurs = none-of entry.occurs b.1;
      picture = a.1;
    }

-- where such an entry lies
alone-sized : (entry : Entry) → Alone entry → (later : Sized) → sized_by entry later ≡ item_sized entry (size_alone entry) later
alone-sized entry alone later =
    ap (λ level. if level == 88 then apart_sized 0 later else if level == 77 then apart_sized (size_by entry.picture entry.sign entry.usage 0) later
    else item_sized entry (size_by entry.picture entry.sign entry.usage (inside level 0 later.pieces)) later) alone.level
    ∙ ap (λ size. item_sized entry size later) (whatever entry.picture alone.picture)
  where
    whatever : (picture : Option Picture) → is_some picture ≡ true → size_by picture entry.sign entry.usage (inside 1 0 later.pieces) ≡ size_by picture entry.sign entry.usage 0
    whatever None h = absurd (cc)
    whatever (Some picture) h = refl

alone-outer : (added : List Entry) → stand_alone added ≡ true → (Outermost (sized added).pieces) × ((sized added).sizes ≡ map size_alone added)
alone-outer [] e = (tt, refl)
alone-outer (entry ∷ entries) e =
    let h = and_parts (stands_alone entry) (stand_alone entries) e in
    let alone = alone-of entry h.0 in
    let later = alone-outer entries h.1 in
    let is = alone-sized entry alone (sized entries) in
    (subst (λ (s : Sized). Outermost s.pieces) (sym is) alone.level, ap (λ (s : Sized). s.sizes) is ∙ ap (λ sizes. size_alone entry ∷ sizes) later.1)

-- the laid with no open group
abbrev closed : Laid → Laid
closed laid = record laid { groups = [] }

alone-by : (laid : Laid) (entry : Entry) (size : ℕ) → Alone entry → AreDeep laid.groups → laid_by laid entry size ≡ root_laid (closed laid) entry size (length laid.roots) []
alone-by laid entry size alone deep =
    ap (λ level. if level == 88 then condition_laid laid (last_area laid.areas) else if level == 77 then apart_laid laid entry size else item_laid laid entry size (groups_of level laid.groups)) alone.level
    ∙ ap (item_laid laid entry size) (none-open laid.groups deep)
    ∙ ap (λ redefines. root_laid (closed laid) entry size (root_by (closed laid) redefines entry.file) (dims_of entry.occurs size)) alone.redefines
    ∙ ap (λ file. root_laid (closed laid) entry size (root_by (closed laid) None file) (dims_of entry.occurs size)) alone.file
    ∙ ap (λ occurs. root_laid (closed laid) entry size (length laid.roots) (dims_of occurs size)) alone.occurs

new-root : (roots : List ℕ) (size : ℕ) → lengthened roots (length roots) size ≡ roots ++ size ∷ []
new-root roots size = by_case (nat_lt (length roots) (length roots)) refl
  where
    by_case : (b : Bool) → b ≡ nat_lt (length roots) (length roots) →
        (if b then slice_set roots (length roots) (max (slice_index roots (length roots)) size) else roots ++ size ∷ []) ≡ roots ++ size ∷ []
    by_case true is = absurd (omega (arith, ltb-true (length roots) (length roots) (sym is)))
    by_case false is = refl

pub joined : {X : Type 0} (xs : List X) (x : X) (ys : List X) → (xs ++ x ∷ []) ++ ys ≡ xs ++ x ∷ ys
joined [] x ys = refl
joined (y ∷ xs) x ys = ap (λ l. y ∷ l) (joined xs x ys)

abbrev made : List Area → List ℕ → Areas
made items roots = record { items = items; roots = roots }

all-alone : (laid : Laid) (added : List Entry) → stand_alone added ≡ true → AreDeep laid.groups → areas_of (laid_from laid added (map size_alone added)) ≡ laid_behind (areas_of laid) added
all-alone laid [] e deep = sym (ap (λ items. made items (laid.roots ++ [])) (append-nil laid.areas) ∙ ap (made laid.areas) (append-nil laid.roots))
all-alone laid (entry ∷ entries) e deep =
    let h = and_parts (stands_alone entry) (stand_alone entries) e in
    let alone = alone-of entry h.0 in
    let now = root_laid (closed laid) entry (size_alone entry) (length laid.roots) [] in
    let area = area_of entry (size_alone entry) (length laid.roots) 0 [] in
    ap (λ laid. areas_of (laid_from laid entries (map size_alone entries))) (alone-by laid entry (size_alone entry) alone deep)
    ∙ all-alone now entries h.1 (subst (λ level. 1 ≤ level) (sym alone.level) (omega arith), tt)
    ∙ ap (λ roots. laid_behind (made (laid.areas ++ area ∷ []) roots) entries) (new-root laid.roots (size_alone entry))
    ∙ ap (λ n. made ((laid.areas ++ area ∷ []) ++ areas_alone n entries) ((laid.roots ++ size_alone entry ∷ []) ++ map size_alone entries)) (length-append laid.roots (size_alone entry ∷ []))
    ∙ ap (λ items. made items ((laid.roots ++ size_alone entry ∷ []) ++ map size_alone entries)) (joined laid.areas area (areas_alone (length laid.roots + 1) entries))
    ∙ ap (made (laid.areas ++ area ∷ areas_alone (length laid.roots + 1) entries)) (joined laid.roots (size_alone entry) (map size_alone entries))

-- the own items first, and then the others
laid-apart : (laid : Laid) (entries others : List Entry) (sizes more : List ℕ) → length sizes ≡ length entries → laid_from laid (entries ++ others) (sizes ++ more) ≡ laid_from (laid_from laid entries sizes) others more
laid-apart laid [] others [] more same = refl
laid-apart laid [] others (size ∷ sizes) more same = absurd (omega (arith, same))
laid-apart laid (entry ∷ entries) others [] more same = absurd (omega (arith, same))
laid-apart laid (entry ∷ entries) others (size ∷ sizes) more same = laid-apart (laid_by laid entry size) entries others sizes more (omega (arith, same))

pub behind-all : (entries added : List Entry) → have_levels entries ≡ true → stand_alone added ≡ true → layout_of (entries ++ added) ≡ laid_behind (layout_of entries) added
behind-all entries added levels alone =
    let outer = alone-outer added alone in
    ap (λ (s : Sized). areas_of (laid_from nothing_laid (entries ++ added) s.sizes)) (sized-kept entries added levels outer.0)
    ∙ ap (λ sizes. areas_of (laid_from nothing_laid (entries ++ added) ((sized entries).sizes ++ sizes))) outer.1
    ∙ ap areas_of (laid-apart nothing_laid entries added (sized entries).sizes (map size_alone added) (sizes-long entries))
    ∙ all-alone (laid_from nothing_laid entries (sized entries).sizes) added alone (all-deep nothing_laid entries (sized entries).sizes levels tt)
