-- What is found among the items that a word names, or may qualify, is what is found among all.
use mathlib.Core.Bool.{true≢false}
use Rattle.std.proofs.Common.{◌≡◌, ℕ, zero, suc, ◌+◌, ◌<◌, Bool, true, false, ◌&&◌, ◌||◌, List, [], ◌∷◌, ◌++◌, length, get_or, drop, Some, refl, sym, ap, ◌∙◌, arith, if◌then◌else◌, cond}
use Rattle.std.specs.List.{fold, list_any, position_from, slice_get}
use Rattle.std.specs.Str.{bytes_eq}
use Rattle.std.proofs.lemmas.Iterator.Adapters.{position_from-zero}
use Rattle.std.proofs.lemmas.List.{append_assoc, drop_at, get_or_at, length-append}
use Rattle.std.proofs.lemmas.Option.{slice_get-get_or}
use Rattle.symbol_tables.specs.declared.data_names.name.Referent.{Referent}
use Rattle.symbol_tables.specs.declared.data_names.name.Referent.TheVariants as found
use Rattle.symbol_tables.specs.declared.data_names.name.Name.{Name}
use Rattle.symbol_tables.specs.data_names.Index.{and_item, find_among, places_from, places_of, places_within, tally}
use Rattle.symbol_tables.specs.data_names.Look.{are_within, find, fits, found_from, is_called}

-- the element behind those before it
slice_get-at : (before : List Name) (name : Name) (names : List Name) → slice_get (before ++ name ∷ names) (length before) ≡ Some name
slice_get-at before name names =
    let within : length before < length (before ++ name ∷ names) = rw (length-append before (name ∷ names)) (omega arith) in
    slice_get-get_or (before ++ name ∷ names) (length before) name within
    ∙ ap (λ (n : Name). Some n) (get_or_at before name names name (length before) refl)

length-before : (before : List Name) (name : Name) → length (before ++ name ∷ []) ≡ length before + 1
length-before before name = length-append before (name ∷ [])

drop-before : (before : List Name) (name : Name) (names : List Name) → drop (length before + 1) (before ++ name ∷ names) ≡ names
drop-before before name names =
    ap (drop (length before + 1)) (sym (append_assoc before (name ∷ []) names))
    ∙ drop_at (before ++ name ∷ []) names (length before + 1) (length-before before name)

-- all items from a number on, as they are tallied
tallied : (word : List ℕ) → (of : List (List ℕ)) → Referent → (at : ℕ) → List Name → Referent
tallied word of result at [] = result
tallied word of result at (name ∷ names) =
    tallied word of (if fits word of name then and_item result at name else result) (at + 1) names

tallied-ambiguous : (word : List ℕ) (of : List (List ℕ)) (at : ℕ) (names : List Name) → tallied word of found.Ambiguous at names ≡ found.Ambiguous
unfolding tallied
tallied-ambiguous word of at [] = refl
tallied-ambiguous word of at (name ∷ names) = go (fits word of name) (tallied-ambiguous word of (at + 1) names)
  where
    go : (b : Bool) → tallied word of found.Ambiguous (at + 1) names ≡ found.Ambiguous → tallied word of (if b then found.Ambiguous else found.Ambiguous) (at + 1) names ≡ found.Ambiguous
    go true h = h
    go false h = h

tallied-item : (word : List ℕ) (of : List (List ℕ)) (item : ℕ) (name : Name) (at : ℕ) (names : List Name) → tallied word of (found.Item item name.kind name.dims) at names ≡ (if list_any (fits word of) names then found.Ambiguous else found.Item item name.kind name.dims)
unfolding tallied
tallied-item word of item name at [] = refl
tallied-item word of item name at (other ∷ names) = go (fits word of other) (tallied-item word of item name (at + 1) names)
  where
    go : (b : Bool) → tallied word of (found.Item item name.kind name.dims) (at + 1) names ≡ (if list_any (fits word of) names then found.Ambiguous else found.Item item name.kind name.dims) → tallied word of (if b then found.Ambiguous else found.Item item name.kind name.dims) (at + 1) names ≡ (if (b || list_any (fits word of) names) then found.Ambiguous else found.Item item name.kind name.dims)
    go true h = tallied-ambiguous word of (at + 1) names
    go false h = h

tallied-unknown : (word : List ℕ) (of : List (List ℕ)) (before names : List Name) → tallied word of found.Unknown (length before) names ≡ found_from (before ++ names) word of (position_from (fits word of) (length before) names)
unfolding tallied
tallied-unknown word of before [] = refl
tallied-unknown word of before (name ∷ names) =
    go (fits word of name) (rw (length-before before name, append_assoc before (name ∷ []) names) at (tallied-unknown word of (before ++ name ∷ []) names))
  where
    go : (b : Bool) → tallied word of found.Unknown (length before + 1) names ≡ found_from (before ++ name ∷ names) word of (position_from (fits word of) (length before + 1) names) → tallied word of (if b then found.Item (length before) name.kind name.dims else found.Unknown) (length before + 1) names ≡ found_from (before ++ name ∷ names) word of (cond b (Some (length before)) (position_from (fits word of) (length before + 1) names))
    go true h = rw (drop-before before name names, slice_get-at before name names) (tallied-item word of (length before) name (length before + 1) names)
    go false h = h

-- the entries that have what all have that fit
among : (has : Name → Bool) (word : List ℕ) (of : List (List ℕ)) (result : Referent) (before names : List Name) → ((name : Name) → fits word of name ≡ true → has name ≡ true) → fold (tally (before ++ names) word of) result (places_from has (length before) names) ≡ tallied word of result (length before) names
unfolding tallied
among has word of result before [] needs = refl
among has word of result before (name ∷ names) needs =
    go (has name) refl (fits word of name) refl
    (λ r. rw (length-before before name, append_assoc before (name ∷ []) names) at (among has word of r (before ++ name ∷ []) names needs))
  where
    go : (b : Bool) → has name ≡ b → (f : Bool) → fits word of name ≡ f → ((r : Referent) → fold (tally (before ++ name ∷ names) word of) r (places_from has (length before + 1) names) ≡ tallied word of r (length before + 1) names) → fold (tally (before ++ name ∷ names) word of) result (if b then length before ∷ places_from has (length before + 1) names else places_from has (length before + 1) names) ≡ tallied word of (if f then and_item result (length before) name else result) (length before + 1) names
    go true e f g next =
        let s : tally (before ++ name ∷ names) word of result (length before) ≡ (if f then and_item result (length before) name else result) = rw (slice_get-at before name names, g) refl in
        ap (λ r. fold (tally (before ++ name ∷ names) word of) r (places_from has (length before + 1) names)) s
        ∙ next (if f then and_item result (length before) name else result)
    go false e true g next = absurd (true≢false (sym (needs name g) ∙ e))
    go false e false g next = next result

find_among-by : (has : Name → Bool) (names : List Name) (word : List ℕ) (of : List (List ℕ)) → ((name : Name) → fits word of name ≡ true → has name ≡ true) → find_among names word of (places_from has 0 names) ≡ find names word of
find_among-by has names word of needs =
    among has word of found.Unknown [] names needs ∙ tallied-unknown word of [] names
    ∙ ap (found_from names word of) (sym (position_from-zero (fits word of) names))

and-first : (a b : Bool) → (a && b) ≡ true → a ≡ true
and-first true b h = refl
and-first false b h = h

and-second : (a b : Bool) → (a && b) ≡ true → b ≡ true
and-second true b h = h
and-second false b h = absurd (true≢false (sym h))

or-second : (a b : Bool) → b ≡ true → (a || b) ≡ true
or-second true b h = refl
or-second false b h = h

pub find_among_find : (names : List Name) (word : List ℕ) (of : List (List ℕ)) → find_among names word of (places_of word names) ≡ find names word of
find_among_find names word of =
    find_among-by (λ name. is_called word name.word) names word of
    (λ name h. and-first (is_called word name.word) (are_within of name.above) h)

-- each qualifier of what fits is one of its names
within-has : (of above : List (List ℕ)) (at : ℕ) (group : List ℕ) → at < length of → group ≡ get_or of at group → are_within of above ≡ true → list_any (bytes_eq group) above ≡ true
unfolding are_within
within-has [] above at group h e w = grind (arith, h)
within-has (first ∷ others) [] at group h e w = absurd (true≢false (sym w))
within-has (first ∷ others) (name ∷ outer) zero group h e w =
    go (bytes_eq first name) refl (within-has (first ∷ others) outer zero group h e) w
  where
    go : (b : Bool) → bytes_eq first name ≡ b → (are_within (first ∷ others) outer ≡ true → list_any (bytes_eq group) outer ≡ true) → (if b then are_within others outer else are_within (first ∷ others) outer) ≡ true → (bytes_eq group name || list_any (bytes_eq group) outer) ≡ true
    go true t i w = ap (λ x. bytes_eq x name || list_any (bytes_eq group) outer) e ∙ ap (λ b. b || list_any (bytes_eq group) outer) t
    go false t i w = or-second (bytes_eq group name) (list_any (bytes_eq group) outer) (i w)
within-has (first ∷ others) (name ∷ outer) (suc at) group h e w =
    go (bytes_eq first name) (within-has others outer at group (omega (arith, h)) e) (within-has (first ∷ others) outer (suc at) group h e) w
  where
    go : (b : Bool) → (are_within others outer ≡ true → list_any (bytes_eq group) outer ≡ true) → (are_within (first ∷ others) outer ≡ true → list_any (bytes_eq group) outer ≡ true) → (if b then are_within others outer else are_within (first ∷ others) outer) ≡ true → (bytes_eq group name || list_any (bytes_eq group) outer) ≡ true
    go true i j w = or-second (bytes_eq group name) (list_any (bytes_eq group) outer) (i w)
    go false i j w = or-second (bytes_eq group name) (list_any (bytes_eq group) outer) (j w)

pub find_among_within : (names : List Name) (word : List ℕ) (of : List (List ℕ)) (at : ℕ) (group : List ℕ) → at < length of → group ≡ get_or of at group → find_among names word of (places_within group names) ≡ find names word of
find_among_within names word of at group h e =
    find_among-by (λ name. list_any (bytes_eq group) name.above) names word of
    (λ name f. within-has of name.above at group h e (and-second (is_called word name.word) (are_within of name.above) f))

pub find_among_either : (names : List Name) (word : List ℕ) (of : List (List ℕ)) (tried numbers others : List ℕ) (b : Bool) → tried ≡ (if b then others else numbers) → find_among names word of numbers ≡ find names word of → find_among names word of others ≡ find names word of → find_among names word of tried ≡ find names word of
find_among_either names word of tried numbers others true e h g = ap (find_among names word of) e ∙ g
find_among_either names word of tried numbers others false e h g = ap (find_among names word of) e ∙ h

places_from-push : (has : Name → Bool) (at : ℕ) (names : List Name) (name : Name) → places_from has at (names ++ name ∷ []) ≡ places_from has at names ++ (if has name then (at + length names) ∷ [] else [])
places_from-push has at [] name = go (has name)
  where
    zero-more : at ≡ at + 0
    zero-more = omega arith

    go : (b : Bool) → (if b then at ∷ [] else []) ≡ (if b then (at + 0) ∷ [] else [])
    go true = ap (λ n. n ∷ []) zero-more
    go false = refl
places_from-push has at (other ∷ names) name =
    let one_more : (at + 1) + length names ≡ at + suc (length names) = omega arith in
    go (has other) (rw one_more at (places_from-push has (at + 1) names name))
  where
    go : (b : Bool) → places_from has (at + 1) (names ++ name ∷ []) ≡ places_from has (at + 1) names ++ (if has name then (at + suc (length names)) ∷ [] else []) → (if b then at ∷ places_from has (at + 1) (names ++ name ∷ []) else places_from has (at + 1) (names ++ name ∷ [])) ≡ (if b then at ∷ places_from has (at + 1) names else places_from has (at + 1) names) ++ (if has name then (at + suc (length names)) ∷ [] else [])
    go true h = ap (λ r. at ∷ r) h
    go false h = h

push : (has : Name → Bool) (names : List Name) (name : Name) → places_from has 0 (names ++ name ∷ []) ≡ places_from has 0 names ++ (if has name then length names ∷ [] else [])
push has names name = rw zero-more at (places_from-push has 0 names name)
  where
    zero-more : 0 + length names ≡ length names
    zero-more = omega arith

-- the items that a word names, with one item more
pub places_of_push : (word : List ℕ) (names : List Name) (name : Name) → places_of word (names ++ name ∷ []) ≡ places_of word names ++ (if is_called word name.word then length names ∷ [] else [])
places_of_push word names name = push (λ other. is_called word other.word) names name

-- the items that a word may qualify, with one item more
pub places_within_push : (word : List ℕ) (names : List Name) (name : Name) → places_within word (names ++ name ∷ []) ≡ places_within word names ++ (if list_any (bytes_eq word) name.above then length names ∷ [] else [])
places_within_push word names name = push (λ other. list_any (bytes_eq word) other.above) names name
