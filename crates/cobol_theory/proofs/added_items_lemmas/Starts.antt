-- What is stored at the start of a run.
use Rattle.std.proofs.Common.{◌≡◌, ℕ, zero, suc, ◌+◌, ◌*◌, ◌<◌, nat_le, Bool, true, false, ◌&&◌, not, if◌then◌else◌, ◌==◌, List, [], ◌∷◌, ◌++◌, length, map, Some, refl, ap, sym, ◌∙◌, subst, arith, le-leb, append-nil}
use Rattle.std.specs.Prelude.{is_some, slice_get, slice_set, drop, replicate, ◌||◌}
use Rattle.std.proofs.lemmas.Bool.{and_parts}
use Rattle.std.proofs.lemmas.List.{length-append}
use Rattle.cob_tree.specs.declared.entry.Entry.{Entry}
use Rattle.cob_store.specs.declared.area.Area.{Area}
use Rattle.cob_store.specs.declared.area.Dim.{Dim}
use Rattle.cob_store.specs.declared.spot.Spot.{Spot}
use Rattle.cob_store.specs.Laying.{area_of, layout_of}
use Rattle.cob_store.specs.Size.{capped}
use Rattle.cob_store.specs.Store.{Roots, blank, root_bytes, put_at, replaced}
use Rattle.cob_store.specs.Starting.{started, sets_bytes, for_each, moved_by, put_each, item_started, started_over, initial_store}
use Rattle.cobol_theory.specs.added_items.Laying.{begins_with_item, stands_alone, stand_alone, have_levels, size_alone, areas_alone, first_bytes}
use Rattle.cobol_theory.proofs.added_items_lemmas.Bytes.{put-same, put-long}
use Rattle.cobol_theory.proofs.added_items_lemmas.Layouts.{Alone, alone-of, joined, behind-all, inside-of}

-- ---- own items, with more behind what is stored

module _ (tail : Roots) (root : ℕ) where
  -- the same put there, which leaves as many roots
  record Puts (wide plain : Roots → Roots) : Type 0 where
    same : (store : Roots) → root < length store → wide (store ++ tail) ≡ plain store ++ tail
    long : (store : Roots) → length (plain store) ≡ length store

  puts-each : (put : ℕ → Roots → Roots) → ((number : ℕ) → Puts (put number) (put number)) → (count : ℕ) → Puts (for_each count put) (for_each count put)
  puts-each put h zero = record { same = λ store below. refl; long = λ store. refl }
  puts-each put h (suc number) =
      let rest = puts-each put h number in
      record {
        same = λ store below.
            ap (put number) (rest.same store below)
            ∙ (h number).same (for_each number put store) (subst (λ n. root < n) (sym (rest.long store)) below);
        long = λ store. (h number).long (for_each number put store) ∙ rest.long store;
      }

  puts-dims : (dims : List Dim) (spot : Spot) (bytes : List ℕ) → spot.root ≡ root → Puts (put_each dims spot bytes) (put_each dims spot bytes)
  puts-dims [] spot bytes is = record {
    same = λ store below. put-same store tail spot bytes (subst (λ r. r < length store) (sym is) below);
    long = λ store. put-long store tail spot bytes;
  }
  puts-dims (dim ∷ dims) spot bytes is =
      puts-each (λ number. put_each dims (moved_by spot (capped (number * dim.stride))) bytes)
      (λ number. puts-dims dims (moved_by spot (capped (number * dim.stride))) bytes is) dim.count

item-puts : (tail : Roots) (entry : Entry) (area : Area) → Puts tail area.root (item_started entry area) (item_started entry area)
item-puts tail entry area = by_case (sets_bytes entry)
  where
    bytes : List ℕ
    bytes = started area.form area.size entry.value

    spot : Spot
    spot = record { root = area.root; start = area.start; length = area.size }

    whole : Puts tail area.root (put_each area.dims spot bytes) (put_each area.dims spot bytes)
    whole = puts-dims tail area.root area.dims spot bytes refl

    by_case : (b : Bool) → Puts tail area.root (λ roots. if b then put_each area.dims spot bytes roots else roots) (λ roots. if b then put_each area.dims spot bytes roots else roots)
    by_case true = record { same = whole.same; long = whole.long }
    by_case false = record { same = λ store below. refl; long = λ store. refl }

pub started-long : (entries : List Entry) (areas : List Area) (store : Roots) → length (started_over entries areas store) ≡ length store
started-long [] areas store = refl
started-long (entry ∷ entries) [] store = refl
started-long (entry ∷ entries) (area ∷ areas) store =
    (item-puts [] entry area).long (started_over entries areas store) ∙ started-long entries areas store

started-kept : (entries : List Entry) (areas : List Area) (store tail : Roots) → ((item : ℕ) (area : Area) → slice_get areas item ≡ Some area → area.root < length store) →
    started_over entries areas (store ++ tail) ≡ started_over entries areas store ++ tail
started-kept [] areas store tail inside = refl
started-kept (entry ∷ entries) [] store tail inside = refl
started-kept (entry ∷ entries) (area ∷ areas) store tail inside =
    ap (item_started entry area) (started-kept entries areas store tail (λ item. inside (suc item)))
    ∙ (item-puts tail entry area).same (started_over entries areas store) (subst (λ n. area.root < n) (sym (started-long entries areas store)) (inside 0 area refl))

-- ---- own items first, and then the others

started-apart : (entries others : List Entry) (areas more : List Area) (store : Roots) → length entries ≡ length areas →
    started_over (entries ++ others) (areas ++ more) store ≡ started_over entries areas (started_over others more store)
started-apart [] others [] more store same = refl
started-apart [] others (area ∷ areas) more store same = absurd (omega (arith, same))
started-apart (entry ∷ entries) others [] more store same = absurd (omega (arith, same))
started-apart (entry ∷ entries) others (area ∷ areas) more store same = ap (item_started entry area) (started-apart entries others areas more store (omega (arith, same)))

-- ---- items that stand alone

get-at : (store : Roots) (root : List ℕ) (others : Roots) → root_bytes (store ++ root ∷ others) (length store) ≡ root
get-at [] root others = refl
get-at (x ∷ store) root others = get-at store root others

set-at : (store : Roots) (root : List ℕ) (others : Roots) (now : List ℕ) → slice_set (store ++ root ∷ others) (length store) now ≡ store ++ now ∷ others
set-at [] root others now = refl
set-at (x ∷ store) root others now = ap (λ l. x ∷ l) (set-at store root others now)

-- spaces
abbrev spaces : ℕ → List ℕ
spaces size = replicate size 32

long-blank : (size : ℕ) → length (spaces size) ≡ size
long-blank zero = refl
long-blank (suc size) = ap suc (long-blank size)

gone : (size : ℕ) → drop size (spaces size) ≡ []
gone zero = refl
gone (suc size) = gone size

-- a whole root that was blank
put-whole : (store others : Roots) (size : ℕ) (bytes : List ℕ) →
    put_at (store ++ spaces size ∷ others) (record { root = length store; start = 0; length = size }) bytes ≡ store ++ bytes ∷ others
put-whole store others size bytes =
    ap (λ old. if nat_le (0 + size) (length old) then slice_set (store ++ spaces size ∷ others) (length store) (replaced old 0 size bytes) else store ++ spaces size ∷ others) (get-at store (spaces size) others)
    ∙ ap (λ b. if b then slice_set (store ++ spaces size ∷ others) (length store) (replaced (spaces size) 0 size bytes) else store ++ spaces size ∷ others)
    (le-leb (0 + size) (length (spaces size)) (let is = long-blank size in omega (arith, is)))
    ∙ ap (λ rest. slice_set (store ++ spaces size ∷ others) (length store) (bytes ++ rest)) (ap (λ n. drop n (spaces size)) (omega arith) ∙ gone size)
    ∙ ap (slice_set (store ++ spaces size ∷ others) (length store)) (append-nil bytes)
    ∙ set-at store (spaces size) others bytes

alone-sets : (entry : Entry) → Alone entry → sets_bytes entry ≡ true
alone-sets entry alone =
    ap (λ level. not (level == 88) && (is_some entry.picture || is_some entry.value)) alone.level
    ∙ ap (λ b. b || is_some entry.value) alone.picture

alone-started : (added : List Entry) (store : Roots) (root : ℕ) → root ≡ length store → stand_alone added ≡ true →
    started_over added (areas_alone root added) (store ++ blank (map size_alone added)) ≡ store ++ map first_bytes added
alone-started [] store root is e = refl
alone-started (entry ∷ entries) store root is e =
    let h = and_parts (stands_alone entry) (stand_alone entries) e in
    let rest = alone-started entries (store ++ spaces (size_alone entry) ∷ []) (root + 1) (let is-long = length-append store (spaces (size_alone entry) ∷ []) in omega (arith, is, is-long)) h.1 in
    let whole = sym (ap (λ l. started_over entries (areas_alone (root + 1) entries) l) (joined store (spaces (size_alone entry)) (blank (map size_alone entries))))
    ∙ rest ∙ joined store (spaces (size_alone entry)) (map first_bytes entries) in
    ap (item_started entry (area_of entry (size_alone entry) root 0 [])) whole
    ∙ ap (λ b. if b then put_at (store ++ spaces (size_alone entry) ∷ map first_bytes entries) (record { root = root; start = 0; length = size_alone entry }) (first_bytes entry)
    else store ++ spaces (size_alone entry) ∷ map first_bytes entries) (alone-sets entry (alone-of entry h.0))
    ∙ ap (λ r. put_at (store ++ spaces (size_alone entry) ∷ map first_bytes entries) (record { root = r; start = 0; length = size_alone entry }) (first_bytes entry)) is
    ∙ put-whole store (map first_bytes entries) (size_alone entry) (first_bytes entry)

-- ---- all of them

blank-apart : (sizes more : List ℕ) → blank (sizes ++ more) ≡ blank sizes ++ blank more
blank-apart [] more = refl
blank-apart (size ∷ sizes) more = ap (λ l. spaces size ∷ l) (blank-apart sizes more)

pub blank-long : (sizes : List ℕ) → length (blank sizes) ≡ length sizes
blank-long [] = refl
blank-long (size ∷ sizes) = ap suc (blank-long sizes)

pub starts-behind : (entries added : List Entry) → begins_with_item entries ≡ true → have_levels entries ≡ true → stand_alone added ≡ true →
    initial_store (entries ++ added) ≡ initial_store entries ++ map first_bytes added
starts-behind entries added begins levels alone =
    let areas = layout_of entries in
    let found = inside-of entries begins in
    let long = blank-long areas.roots in
    ap (λ all. started_over (entries ++ added) all.items (blank all.roots)) (behind-all entries added levels alone)
    ∙ started-apart entries added areas.items (areas_alone (length areas.roots) added) (blank (areas.roots ++ map size_alone added)) found.0
    ∙ ap (λ store. started_over entries areas.items (started_over added (areas_alone (length areas.roots) added) store)) (blank-apart areas.roots (map size_alone added))
    ∙ ap (started_over entries areas.items) (alone-started added (blank areas.roots) (length areas.roots) (sym long) alone)
    ∙ started-kept entries areas.items (blank areas.roots) (map first_bytes added) (λ item area is. subst (λ n. area.root < n) (sym long) (found.1 item area is))
