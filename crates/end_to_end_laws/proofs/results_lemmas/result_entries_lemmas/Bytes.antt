-- Each added item takes a byte at least.
use Rattle.std.proofs.Common.{◌≡◌, ℕ, suc, ◌+◌, ◌-◌, ◌^◌, ◌≤◌, Bool, true, false, if◌then◌else◌, List, [], ◌∷◌, ◌++◌, length, map, Some, None, refl, ap, sym, ◌∙◌, subst, arith}
use Rattle.std.specs.Prelude.{max, min, sum, slice_get, slice_index, slice_set}
use Rattle.std.specs.List.{fold}
use Rattle.std.specs.Option.{unwrap_or}
use Rattle.std.proofs.lemmas.Bool.{le-ltb}
use Rattle.std.proofs.lemmas.List.{append_assoc, length_push}
use Rattle.std.proofs.lemmas.List.Sums.{fold-append}
use Rattle.cob_base.specs.declared.limit.LimitKind.TheVariants.{Storage}
use Rattle.cob_tree.specs.declared.entry.Entry.{Entry}
use Rattle.cob_tree.specs.declared.program.Program.{Program}
use Rattle.cob_base.specs.Limit.{max_storage}
use Rattle.cob_base.proofs.LimitLemmas.{within}
use Rattle.cob_store.specs.declared.sizes.storage.Roots.{Roots}
use Rattle.cob_store.specs.sizes.Size.{sized}
use Rattle.cob_store.specs.sizes.Storage.{is_root, no_roots, root_by, rooted, rooted_next, roots_of, storage_limit, storage_of, with_root, within_root}
use Rattle.round_trip.specs.declarations.added_entries.Items.{WholeItem, whole_entry, whole_entries, HasAdded, AreSized}
use Rattle.round_trip.proofs.declarations_lemmas.added_entries_lemmas.Sizes.{sized-added, length-sizes}

-- ---- lists

sum-push : (list : List ℕ) (n : ℕ) → sum (list ++ n ∷ []) ≡ sum list + n
sum-push list n = fold-append (λ a x. a + x) 0 list (n ∷ [])

get-here : (front : List ℕ) (n : ℕ) (rest : List ℕ) → slice_get (front ++ n ∷ rest) (length front) ≡ Some n
get-here [] n rest = refl
get-here (m ∷ front) n rest = get-here front n rest

-- ---- the sizes of items

abbrev bytes_of : WholeItem → ℕ
bytes_of item = item.digits + 0 + 0

whole-sizes : (items : List WholeItem) → (sized (whole_entries items)).sizes ≡ map bytes_of items
whole-sizes [] = refl
whole-sizes (item ∷ items) = ap (λ list. bytes_of item ∷ list) (whole-sizes items)

-- ---- each has a root of its own

abbrev with-item : Roots → ℕ → Roots
with-item roots size = record { of = roots.of ++ length roots.sizes ∷ []; sizes = roots.sizes ++ size ∷ []; file = None }

item-rooted : (sizes : List ℕ) (roots : Roots) (item : WholeItem) (size : ℕ) → slice_get sizes (length roots.of) ≡ Some size →
    rooted_next sizes roots (whole_entry item) ≡ with-item roots size
item-rooted sizes roots item size e =
    ap (λ o. rooted roots (whole_entry item) (unwrap_or o 0)) e
    ∙ ap (λ b. longer b) (le-ltb (length roots.sizes) (length roots.sizes) (omega arith))
  where
    longer : Bool → Roots
    longer b = record {
      of = roots.of ++ length roots.sizes ∷ [];
      sizes = if b then slice_set roots.sizes (length roots.sizes) (max (slice_index roots.sizes (length roots.sizes)) size) else roots.sizes ++ size ∷ [];
      file = None;
    }

-- one item more, which takes some of the bytes
one-taken : (more before size all : ℕ) → more + (before + size) ≤ all → 1 ≤ size → suc more + before ≤ all
one-taken more before size all h some = omega (arith, h, some)

module _ (item : WholeItem) (items : List WholeItem) (front : List ℕ) (roots : Roots) where
  abbrev sizes : List ℕ
  sizes = front ++ bytes_of item ∷ map bytes_of items

  abbrev next : Roots
  next = with-item roots (bytes_of item)

  here : length front ≡ length roots.of → slice_get sizes (length roots.of) ≡ Some (bytes_of item)
  here e = subst (λ n. slice_get sizes n ≡ Some (bytes_of item)) e (get-here front (bytes_of item) (map bytes_of items))

  regrouped : length items + sum next.sizes ≤ sum (fold (rooted_next ((front ++ bytes_of item ∷ []) ++ map bytes_of items)) next (whole_entries items)).sizes →
      length items + sum next.sizes ≤ sum (fold (rooted_next sizes) next (whole_entries items)).sizes
  regrouped h = subst (λ list. length items + sum next.sizes ≤ sum (fold (rooted_next list) next (whole_entries items)).sizes) (append_assoc front (bytes_of item ∷ []) (map bytes_of items)) h

  one-more-rooted : 1 ≤ item.digits → length front ≡ length roots.of →
      length items + sum next.sizes ≤ sum (fold (rooted_next ((front ++ bytes_of item ∷ []) ++ map bytes_of items)) next (whole_entries items)).sizes →
      suc (length items) + sum roots.sizes ≤ sum (fold (rooted_next sizes) (rooted_next sizes roots (whole_entry item)) (whole_entries items)).sizes
  one-more-rooted some e h =
      subst (λ r. suc (length items) + sum roots.sizes ≤ sum (fold (rooted_next sizes) r (whole_entries items)).sizes) (sym (item-rooted sizes roots item (bytes_of item) (here e)))
      (one-taken (length items) (sum roots.sizes) (bytes_of item) (sum (fold (rooted_next sizes) next (whole_entries items)).sizes)
      (subst (λ n. length items + n ≤ sum (fold (rooted_next sizes) next (whole_entries items)).sizes) (sum-push roots.sizes (bytes_of item)) (regrouped h))
      (omega (arith, some)))

items-rooted : (items : List WholeItem) (front : List ℕ) (roots : Roots) → AreSized items → length front ≡ length roots.of →
    length items + sum roots.sizes ≤ sum (fold (rooted_next (front ++ map bytes_of items)) roots (whole_entries items)).sizes
items-rooted [] front roots s e = omega arith
items-rooted (item ∷ items) front roots s e =
    one-more-rooted item items front roots s.0 e
    (items-rooted items (front ++ bytes_of item ∷ []) (with-item roots (bytes_of item)) s.2
    (length_push front (bytes_of item) ∙ ap (λ n. n + 1) e ∙ sym (length_push roots.of (length roots.sizes))))

-- ---- behind those of a program

one-more : (sizes : List ℕ) (roots : Roots) (entry : Entry) → length (rooted_next sizes roots entry).of ≡ length roots.of + 1
one-more sizes roots entry = go (is_root entry)
  where
    size : ℕ
    size = unwrap_or (slice_get sizes (length roots.of)) 0

    go : (b : Bool) → length (if b then with_root roots entry size (root_by roots entry.file entry.redefines) else within_root roots).of ≡ length roots.of + 1
    go true = length_push roots.of (root_by roots entry.file entry.redefines)
    go false = length_push roots.of 0

all-more : (sizes : List ℕ) (entries : List Entry) (roots : Roots) → length (fold (rooted_next sizes) roots entries).of ≡ length roots.of + length entries
all-more sizes [] roots = omega arith
all-more sizes (entry ∷ entries) roots =
    all-more sizes entries (rooted_next sizes roots entry)
    ∙ ap (λ n. n + length entries) (one-more sizes roots entry)
    ∙ moved (length roots.of) (length entries)
  where
    moved : (a b : ℕ) → (a + 1) + b ≡ a + suc b
    moved a b = omega arith

items-take-bytes : (entries : List Entry) (items : List WholeItem) → AreSized items → length items ≤ sum (roots_of (sized (entries ++ whole_entries items)).sizes (entries ++ whole_entries items)).sizes
items-take-bytes entries items s =
    subst (λ list. length items ≤ sum (roots_of list (entries ++ whole_entries items)).sizes) (sym sizes-are)
    (subst (λ (roots : Roots). length items ≤ sum roots.sizes) (sym (fold-append (rooted_next sizes) no_roots entries (whole_entries items))) (fewer (length items) (sum before.sizes) _ behind))
  where
    front : List ℕ
    front = (sized entries).sizes

    sizes : List ℕ
    sizes = front ++ map bytes_of items

    sizes-are : (sized (entries ++ whole_entries items)).sizes ≡ sizes
    sizes-are = ap (λ s. s.sizes) (sized-added entries items) ∙ ap (λ list. front ++ list) (whole-sizes items)

    before : Roots
    before = fold (rooted_next sizes) no_roots entries

    as-many : length front ≡ length before.of
    as-many = length-sizes entries ∙ sym (all-more sizes entries no_roots ∙ none-before (length entries))
      where
        none-before : (n : ℕ) → 0 + n ≡ n
        none-before n = omega arith

    fewer : (some others all : ℕ) → some + others ≤ all → some ≤ all
    fewer some others all h = omega (arith, h)

    behind : length items + sum before.sizes ≤ sum (fold (rooted_next sizes) before (whole_entries items)).sizes
    behind = items-rooted items front before s as-many

-- so there are no more of them than bytes
pub few-items : (program made : Program) (items : List WholeItem) → HasAdded program items made → AreSized items → storage_limit false (storage_of made.entries) ≡ None → length items ≤ max_storage
few-items program made items has s stored =
    by (length items) (sum (roots_of (sized made.entries).sizes made.entries).sizes)
    (subst (λ entries. length items ≤ sum (roots_of (sized entries).sizes entries).sizes) (sym has.entries) (items-take-bytes program.entries items s))
    (within Storage false (storage_of made.entries) stored)
  where
    by : (count bytes : ℕ) → count ≤ bytes → min bytes (2 ^ 64 - 1) ≤ max_storage → count ≤ max_storage
    by count bytes h few = omega (arith, h, few)
