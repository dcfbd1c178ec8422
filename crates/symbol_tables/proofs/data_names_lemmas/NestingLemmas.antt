-- What an entry stands in, by what others stand in.
use native.Mathlib.Omega.{arith}
use Rattle.std.proofs.Common.{◌≡◌, ℕ, zero, suc, ◌+◌, ◌<◌, ◌≤◌, Bool, true, false, nat_le, List, [], ◌∷◌, ◌++◌, length, get_or, take, drop, reverse, Option, Some, None, refl, sym, ap, ◌∙◌, add-one, if◌then◌else◌}
use Rattle.std.proofs.lemmas.List.{append-nil, append_assoc, get_or-take, length-reverse, length-take-le, reverse-append, take_more}
use Rattle.std.proofs.Math.Seq.{take-length}
use Rattle.std.proofs.lemmas.Bool.{eqb-true}
use Rattle.std.proofs.lemmas.Option.{get_or_from_slice_get, slice_get_within}
use Rattle.std.specs.List.{slice_get}
use Rattle.cob_tree.specs.declared.entry.Entry.{Entry}
use Rattle.symbol_tables.specs.declared.data_names.nesting.Nesting.{Nesting}
use Rattle.symbol_tables.specs.data_names.Grouping.{bound_of, groups_of, holds, same_file}
use Rattle.symbol_tables.specs.data_names.Nesting.{count_to, groups_from, nearest, nesting_of, nestings_from, nestings_of, with_groups}
use Rattle.symbol_tables.proofs.data_names_lemmas.GroupingLemmas.{groups_of-holds, groups_of-none, groups_of-other, groups_of-past, reverse-take}

nearest-cons : (bound : ℕ) (file : Option ℕ) (x : Entry) (before : List Entry) → nearest bound file (x ∷ before) ≡ (if same_file file x.file then (if holds bound x then Some (length before) else nearest bound file before) else None)
unfolding nearest
nearest-cons bound file x before = refl

pub nearest_none : (bound : ℕ) (file : Option ℕ) → nearest bound file [] ≡ None
unfolding nearest
nearest_none bound file = refl

length-before : (entries : List Entry) (n : ℕ) → n ≤ length entries → length (reverse (take n entries)) ≡ n
length-before entries n h = length-reverse (take n entries) ∙ length-take-le n entries h

-- what one entry more says
pub nearest_more : (bound : ℕ) (file : Option ℕ) (entries : List Entry) (n : ℕ) (d : Entry) → n < length entries → nearest bound file (reverse (take (suc n) entries)) ≡ (if same_file file (get_or entries n d).file then (if holds bound (get_or entries n d) then Some n else nearest bound file (reverse (take n entries))) else None)
nearest_more bound file entries n d h =
    ap (nearest bound file) (reverse-take entries n d h)
    ∙ nearest-cons bound file (get_or entries n d) (reverse (take n entries))
    ∙ ap (λ k. if same_file file (get_or entries n d).file then (if holds bound (get_or entries n d) then Some k else nearest bound file (reverse (take n entries))) else None) (length-before entries n (omega arith))

-- as a loop meets it
pub nearest_last : (bound : ℕ) (file : Option ℕ) (entries : List Entry) (n : ℕ) (x : Entry) → n < length entries → x ≡ get_or entries n x → nearest bound file (reverse (take (n + 1) entries)) ≡ (if same_file file x.file then (if holds bound x then Some n else nearest bound file (reverse (take n entries))) else None)
nearest_last bound file entries n x h e = rw add-one (rw (← e) at (nearest_more bound file entries n x h))

same_file-same : (file other : Option ℕ) → same_file file other ≡ true → file ≡ other
same_file-same None None h = refl
same_file-same (Some a) (Some b) h = ap (λ n. Some n) (eqb-true a b h)
same_file-same None (Some b) h = grind (arith, h)
same_file-same (Some a) None h = grind (arith, h)

-- it stands before
pub nearest_within : (bound : ℕ) (file : Option ℕ) (entries : List Entry) (n : ℕ) (d : Entry) → n ≤ length entries → count_to (nearest bound file (reverse (take n entries))) ≤ n
nearest_within bound file entries zero d h = rw (nearest_none bound file) (omega arith)
nearest_within bound file entries (suc n) d h =
    rw (nearest_more bound file entries n d (omega arith))
    (go (same_file file (get_or entries n d).file) (holds bound (get_or entries n d)) (nearest_within bound file entries n d (omega arith)))
  where
    go : (s b : Bool) → count_to (nearest bound file (reverse (take n entries))) ≤ n → count_to (if s then (if b then Some n else nearest bound file (reverse (take n entries))) else None) ≤ suc n
    go true true i = omega arith
    go true false i = omega (arith, i)
    go false b i = omega arith

holds-low : (low high : ℕ) (entry : Entry) → low ≤ high → holds high entry ≡ false → holds low entry ≡ false
holds-low low high entry h e = grind (arith, h, e)

-- nothing between an entry's place and its holder holds what is bounded as low
pub nearest_low : (low high : ℕ) (file : Option ℕ) (entries : List Entry) (n : ℕ) (d : Entry) → low ≤ high → n ≤ length entries → nearest low file (reverse (take (count_to (nearest high file (reverse (take n entries)))) entries)) ≡ nearest low file (reverse (take n entries))
nearest_low low high file entries zero d l h = rw (nearest_none high file) refl
nearest_low low high file entries (suc n) d l h =
    rw (nearest_more high file entries n d (omega arith))
    (go (nearest_low low high file entries n d l (omega arith)) (same_file file x.file) refl (holds high x) refl)
  where
    x : Entry
    x = get_or entries n d

    back : ℕ → List Entry
    back k = reverse (take k entries)

    go : nearest low file (back (count_to (nearest high file (back n)))) ≡ nearest low file (back n) → (s : Bool) → same_file file x.file ≡ s → (b : Bool) → holds high x ≡ b → nearest low file (back (count_to (if s then (if b then Some n else nearest high file (back n)) else None))) ≡ nearest low file (back (suc n))
    go i true e true f = rw add-one refl
    go i true e false f =
        i ∙ sym (rw (e, holds-low low high x l f) at (nearest_more low file entries n d (omega arith)))
    go i false e b f =
        nearest_none low file ∙ sym (rw e at (nearest_more low file entries n d (omega arith)))

-- the search goes on with what the last entry stands in, or with the entry before
pub nearest_next : (bound : ℕ) (file : Option ℕ) (entries : List Entry) (n : ℕ) (x : Entry) (holder : Option ℕ) → n < length entries → x ≡ get_or entries n x → same_file file x.file ≡ true → holds bound x ≡ false → holder ≡ nearest (bound_of x.level) x.file (reverse (take n entries)) → nearest bound file (reverse (take (if nat_le bound (bound_of x.level) then count_to holder else n) entries)) ≡ nearest bound file (reverse (take (n + 1) entries))
nearest_next bound file entries n x holder h e s f k = rw add-one (go (nat_le bound (bound_of x.level)) refl)
  where
    one : nearest bound file (reverse (take (suc n) entries)) ≡ nearest bound file (reverse (take n entries))
    one = rw (← e, s, f) at (nearest_more bound file entries n x h)

    go : (b : Bool) → nat_le bound (bound_of x.level) ≡ b → nearest bound file (reverse (take (if b then count_to holder else n) entries)) ≡ nearest bound file (reverse (take (suc n) entries))
    go true le =
        let low : bound ≤ bound_of x.level = grind (arith, le) in
        rw (k, ← same_file-same file x.file s) (nearest_low bound (bound_of x.level) file entries n x low (omega arith))
        ∙ sym one
    go false le = sym one

-- ---- the table

pub length_nestings_from : (before entries : List Entry) → length (nestings_from before entries) ≡ length entries
unfolding nestings_from
length_nestings_from before [] = refl
length_nestings_from before (entry ∷ behind) = ap suc (length_nestings_from (entry ∷ before) behind)

nestings_from-at : (before entries : List Entry) (n : ℕ) (d : Entry) (m : Nesting) → n < length entries → get_or (nestings_from before entries) n m ≡ nesting_of (reverse (take n entries) ++ before) (get_or entries n d) (drop (suc n) entries)
unfolding nestings_from
nestings_from-at before [] n d m h = grind (arith, h)
nestings_from-at before (entry ∷ behind) zero d m h = refl
nestings_from-at before (entry ∷ behind) (suc n) d m h =
    nestings_from-at (entry ∷ before) behind n d m (omega (arith, h))
    ∙ ap (λ b. nesting_of b (get_or behind n d) (drop (suc n) behind)) (more n)
  where
    more : (n : ℕ) → reverse (take n behind) ++ entry ∷ before ≡ reverse (entry ∷ take n behind) ++ before
    more n =
        sym (ap (λ l. l ++ before) (reverse-append (entry ∷ []) (take n behind))
        ∙ append_assoc (reverse (take n behind)) (entry ∷ []) before)

pub nesting_at : (entries : List Entry) (n : ℕ) (x : Entry) (m : Nesting) → n < length entries → x ≡ get_or entries n x → get_or (nestings_of entries) n m ≡ nesting_of (reverse (take n entries)) x (drop (n + 1) entries)
nesting_at entries n x m h e =
    let one : suc n ≡ n + 1 = omega arith in
    nestings_from-at [] entries n x m h
    ∙ ap (λ b. nesting_of b (get_or entries n x) (drop (suc n) entries)) (append-nil (reverse (take n entries)))
    ∙ ap (λ y. nesting_of (reverse (take n entries)) y (drop (suc n) entries)) (sym e)
    ∙ ap (λ k. nesting_of (reverse (take n entries)) x (drop k entries)) one

-- ---- groups

with_groups_more : (entries : List Entry) (n : ℕ) (d : Entry) → n < length entries → with_groups (reverse (take (suc n) entries)) ≡ get_or entries n d ∷ groups_of (bound_of (get_or entries n d).level) (get_or entries n d).file (reverse (take n entries))
with_groups_more entries n d h = ap with_groups (reverse-take entries n d h)

-- an entry of which the table is begun
pub nesting_in : (entries : List Entry) (nestings : List Nesting) (n : ℕ) (x : Entry) (m : Nesting) → nestings ≡ take (length nestings) (nestings_of entries) → length nestings ≤ length entries → n < length nestings → x ≡ get_or entries n x → slice_get nestings n ≡ Some m → m ≡ nesting_of (reverse (take n entries)) x (drop (n + 1) entries)
nesting_in entries nestings n x m t l h e f =
    sym (get_or_from_slice_get nestings n m m f) ∙ ap (λ r. get_or r n m) t
    ∙ get_or-take (length nestings) (nestings_of entries) n m h
    ∙ nesting_at entries n x m (omega (arith, h, l)) e

-- the search comes nearer to the start
pub next_count : (bound : ℕ) (entries : List Entry) (n : ℕ) (x : Entry) (m : Nesting) → n < length entries → m ≡ nesting_of (reverse (take n entries)) x (drop (n + 1) entries) → (if nat_le bound (bound_of x.level) then count_to m.holder else n) ≤ n
next_count bound entries n x m h e = go (nat_le bound (bound_of x.level))
  where
    within : count_to m.holder ≤ n
    within = rw e (nearest_within (bound_of x.level) x.file entries n x (omega arith))

    go : (b : Bool) → (if b then count_to m.holder else n) ≤ n
    go true = within
    go false = omega arith

-- the table, one entry on
pub table_step : (entries : List Entry) (nestings : List Nesting) (n : ℕ) (x : Entry) (m : Nesting) → length nestings ≡ n → nestings ≡ take n (nestings_of entries) → n < length entries → x ≡ get_or entries n x → m ≡ nesting_of (reverse (take (length nestings) entries)) x (drop (length nestings + 1) entries) → nestings ++ m ∷ [] ≡ take (n + 1) (nestings_of entries)
table_step entries nestings n x m c t h e f =
    let within : n < length (nestings_of entries) = rw (length_nestings_from [] entries) h in
    ap (λ r. r ++ m ∷ []) t
    ∙ ap (λ y. take n (nestings_of entries) ++ y ∷ []) (rw c at f ∙ sym (nesting_at entries n x m h e))
    ∙ sym (take_more (nestings_of entries) n m within)

pub table_whole : (entries : List Entry) (n : ℕ) → n ≡ length entries → take n (nestings_of entries) ≡ nestings_of entries
table_whole entries n h =
    ap (λ k. take k (nestings_of entries)) (h ∙ sym (length_nestings_from [] entries))
    ∙ take-length (nestings_of entries)

-- what an entry stands in begins its groups
pub groups_by_holder : (bound : ℕ) (file : Option ℕ) (entries : List Entry) (n : ℕ) (d : Entry) → n ≤ length entries → groups_of bound file (reverse (take n entries)) ≡ groups_from entries (nearest bound file (reverse (take n entries)))
groups_by_holder bound file entries zero d h =
    groups_of-none bound file ∙ sym (ap (groups_from entries) (nearest_none bound file))
groups_by_holder bound file entries (suc n) d h =
    ap (groups_of bound file) (reverse-take entries n d (omega arith))
    ∙ go (groups_by_holder bound file entries n d (omega arith)) (same_file file x.file) refl (holds bound x) refl
    ∙ sym (ap (groups_from entries) (nearest_more bound file entries n d (omega arith)))
  where
    x : Entry
    x = get_or entries n d

    back : List Entry
    back = reverse (take n entries)

    go : groups_of bound file back ≡ groups_from entries (nearest bound file back) → (s : Bool) → same_file file x.file ≡ s → (b : Bool) → holds bound x ≡ b → groups_of bound file (x ∷ back) ≡ groups_from entries (if s then (if b then Some n else nearest bound file back) else None)
    go i true e true f =
        groups_of-holds bound file x back e f
        ∙ ap (λ o. x ∷ groups_of (bound_of x.level) o back) (same_file-same file x.file e)
        ∙ sym (rw add-one (with_groups_more entries n d (omega arith)))
    go i true e false f = groups_of-past bound file x back e f ∙ i
    go i false e b f = groups_of-other bound file x back e

-- an entry whose nesting the table has
pub own_nesting : (entries : List Entry) (nestings : List Nesting) (n : ℕ) (x : Entry) (m : Nesting) → nestings ≡ nestings_of entries → n < length entries → x ≡ get_or entries n x → slice_get nestings n ≡ Some m → m ≡ nesting_of (reverse (take n entries)) x (drop (n + 1) entries)
own_nesting entries nestings n x m t h e f =
    sym (get_or_from_slice_get nestings n m m f) ∙ ap (λ r. get_or r n m) t ∙ nesting_at entries n x m h e

-- the groups from an item on are that item and those from what it stands in on
pub groups_from_step : (entries : List Entry) (nestings : List Nesting) (n : ℕ) (x : Entry) (m : Nesting) → nestings ≡ nestings_of entries → n < length entries → x ≡ get_or entries n x → slice_get nestings n ≡ Some m → groups_from entries (Some n) ≡ x ∷ groups_from entries m.holder
groups_from_step entries nestings n x m t h e f =
    rw add-one (rw (← e) at (with_groups_more entries n x h))
    ∙ ap (λ l. x ∷ l) (groups_by_holder (bound_of x.level) x.file entries n x (omega arith))
    ∙ sym (ap (λ (m : Nesting). x ∷ groups_from entries m.holder) (own_nesting entries nestings n x m t h e f))

-- an item comes before what stands in it
pub holder_within : (entries : List Entry) (nestings : List Nesting) (n : ℕ) (x : Entry) (m : Nesting) → nestings ≡ nestings_of entries → n < length entries → x ≡ get_or entries n x → slice_get nestings n ≡ Some m → count_to m.holder ≤ n
holder_within entries nestings n x m t h e f =
    rw (own_nesting entries nestings n x m t h e f) (nearest_within (bound_of x.level) x.file entries n x (omega arith))

pub own_groups : (entries : List Entry) (n : ℕ) (x : Entry) (m : Nesting) → n ≤ length entries → m ≡ nesting_of (reverse (take n entries)) x (drop (n + 1) entries) → groups_of (bound_of x.level) x.file (reverse (take n entries)) ≡ groups_from entries m.holder
own_groups entries n x m h e =
    groups_by_holder (bound_of x.level) x.file entries n x h
    ∙ ap (λ (m : Nesting). groups_from entries m.holder) (sym e)

pub own_within : (entries : List Entry) (n : ℕ) (x : Entry) (m : Nesting) → n ≤ length entries → m ≡ nesting_of (reverse (take n entries)) x (drop (n + 1) entries) → count_to m.holder ≤ n
own_within entries n x m h e = rw e (nearest_within (bound_of x.level) x.file entries n x h)

pub table_length : (entries : List Entry) (nestings : List Nesting) → nestings ≡ nestings_of entries → length nestings ≡ length entries
table_length entries nestings t = ap length t ∙ length_nestings_from [] entries

-- as `get` finds an entry
pub found_nesting : (entries : List Entry) (nestings : List Nesting) (n : ℕ) (x : Entry) (m : Nesting) → nestings ≡ nestings_of entries → slice_get entries n ≡ Some x → slice_get nestings n ≡ Some m → m ≡ nesting_of (reverse (take n entries)) x (drop (n + 1) entries)
found_nesting entries nestings n x m t s f =
    own_nesting entries nestings n x m t (slice_get_within entries n x s) (sym (get_or_from_slice_get entries n x x s)) f

pub found_within : (entries : List Entry) (nestings : List Nesting) (n : ℕ) (x : Entry) → nestings ≡ nestings_of entries → slice_get entries n ≡ Some x → n < length nestings
found_within entries nestings n x t s = rw (table_length entries nestings t) (slice_get_within entries n x s)

-- what the row of an entry tells
pub ruleset own_rows = (own_nesting, own_groups, own_within)
