-- What an entry redefines, by what those before it redefine; the names of entries.
use Rattle.std.proofs.Common.{IfSome, ◌≡◌, ℕ, zero, suc, ◌+◌, ◌<◌, ◌≤◌, Bool, true, false, not, ◌||◌, ◌==◌, List, [], ◌∷◌, ◌++◌, length, get_or, take, reverse, Option, Some, None, refl, sym, ap, ◌∙◌, arith, if◌then◌else◌}
use Rattle.std.proofs.lemmas.Bool.{eqb-true}
use Rattle.std.proofs.lemmas.List.{append-nil, append_assoc, get_or-take, reverse-append, take_more}
use Rattle.std.proofs.lemmas.Option.{get_or_from_slice_get, slice_get_within}
use Rattle.std.proofs.Math.Seq.{take-length}
use Rattle.std.specs.List.{list_any, slice_get}
use Rattle.std.specs.Option.{is_some}
use Rattle.std.specs.Str.{bytes_eq}
use Rattle.cob_tree.specs.declared.entry.Entry.{Entry}
use Rattle.symbol_tables.specs.data_names.Grouping.{bound_of, holds, same_file, word_list}
use Rattle.symbol_tables.proofs.data_names_lemmas.WordLemmas.{bytes_eq_sym}
use Rattle.declaration_checks.specs.Redefining.{is_alike, is_called, is_called_by, last_alike}
use Rattle.declaration_checks.specs.Tables.{alikes_from, alikes_of, names_in}
use Rattle.declaration_checks.proofs.StepLemmas.{take_step}

-- ---- the table

pub length_alikes_from : (before entries : List Entry) → length (alikes_from before entries) ≡ length entries
unfolding alikes_from
length_alikes_from before [] = refl
length_alikes_from before (entry ∷ behind) = ap suc (length_alikes_from (entry ∷ before) behind)

alikes_from-at : (before entries : List Entry) (n : ℕ) (d : Entry) (m : Option ℕ) → n < length entries → get_or (alikes_from before entries) n m ≡ last_alike (get_or entries n d) (reverse (take n entries) ++ before)
unfolding alikes_from
alikes_from-at before [] n d m h = grind (arith, h)
alikes_from-at before (entry ∷ behind) zero d m h = refl
alikes_from-at before (entry ∷ behind) (suc n) d m h =
    alikes_from-at (entry ∷ before) behind n d m (omega (arith, h))
    ∙ ap (last_alike (get_or behind n d)) (more n)
  where
    more : (n : ℕ) → reverse (take n behind) ++ entry ∷ before ≡ reverse (entry ∷ take n behind) ++ before
    more n =
        sym (ap (λ l. l ++ before) (reverse-append (entry ∷ []) (take n behind))
        ∙ append_assoc (reverse (take n behind)) (entry ∷ []) before)

alike_at : (entries : List Entry) (n : ℕ) (x : Entry) (m : Option ℕ) → n < length entries → x ≡ get_or entries n x → get_or (alikes_of entries) n m ≡ last_alike x (reverse (take n entries))
alike_at entries n x m h e =
    alikes_from-at [] entries n x m h
    ∙ ap (last_alike (get_or entries n x)) (append-nil (reverse (take n entries)))
    ∙ ap (λ y. last_alike y (reverse (take n entries))) (sym e)

-- an entry of which the table is begun
pub alike_in : (entries : List Entry) (alikes : List (Option ℕ)) (n : ℕ) (x : Entry) (m : Option ℕ) → alikes ≡ take (length alikes) (alikes_of entries) → length alikes ≤ length entries → n < length alikes → x ≡ get_or entries n x → slice_get alikes n ≡ Some m → m ≡ last_alike x (reverse (take n entries))
alike_in entries alikes n x m t l h e f =
    sym (get_or_from_slice_get alikes n m m f) ∙ ap (λ r. get_or r n m) t
    ∙ get_or-take (length alikes) (alikes_of entries) n m h
    ∙ alike_at entries n x m (omega (arith, h, l)) e

-- the table, one entry on
pub alikes_step : (entries : List Entry) (alikes : List (Option ℕ)) (n : ℕ) (x : Entry) (m : Option ℕ) → length alikes ≡ n → alikes ≡ take n (alikes_of entries) → n < length entries → x ≡ get_or entries n x → m ≡ last_alike x (reverse (take (length alikes) entries)) → alikes ++ m ∷ [] ≡ take (n + 1) (alikes_of entries)
alikes_step entries alikes n x m c t h e f =
    let within : n < length (alikes_of entries) = rw (length_alikes_from [] entries) h in
    ap (λ r. r ++ m ∷ []) t
    ∙ ap (λ y. take n (alikes_of entries) ++ y ∷ []) (rw c at f ∙ sym (alike_at entries n x m h e))
    ∙ sym (take_more (alikes_of entries) n m within)

pub alikes_whole : (entries : List Entry) (n : ℕ) → n ≡ length entries → take n (alikes_of entries) ≡ alikes_of entries
alikes_whole entries n h =
    ap (λ k. take k (alikes_of entries)) (h ∙ sym (length_alikes_from [] entries))
    ∙ take-length (alikes_of entries)

-- as `get` finds an entry
pub found_alike : (entries : List Entry) (alikes : List (Option ℕ)) (n : ℕ) (x : Entry) (m : Option ℕ) → alikes ≡ alikes_of entries → slice_get entries n ≡ Some x → slice_get alikes n ≡ Some m → m ≡ last_alike x (reverse (take n entries))
found_alike entries alikes n x m t s f =
    sym (get_or_from_slice_get alikes n m m f) ∙ ap (λ r. get_or r n m) t
    ∙ alike_at entries n x m (slice_get_within entries n x s) (sym (get_or_from_slice_get entries n x x s))

pub alike_within : (entries : List Entry) (alikes : List (Option ℕ)) (n : ℕ) (x : Entry) → alikes ≡ alikes_of entries → slice_get entries n ≡ Some x → n < length alikes
alike_within entries alikes n x t s =
    rw (ap length t ∙ length_alikes_from [] entries) (slice_get_within entries n x s)

-- ---- the search

same-file : (file other : Option ℕ) → same_file file other ≡ true → file ≡ other
same-file None None h = refl
same-file (Some a) (Some b) h = ap (λ n. Some n) (eqb-true a b h)
same-file None (Some b) h = grind (arith, h)
same-file (Some a) None h = grind (arith, h)

-- entries of one level and file are led back to the same one
same_alike : (level : ℕ) (file : Option ℕ) (entry other : Entry) (before : List Entry) → entry.level ≡ level → other.level ≡ level → entry.file ≡ file → other.file ≡ file → last_alike entry before ≡ last_alike other before
unfolding last_alike
same_alike level file entry other [] l m f g = refl
same_alike level file entry other (x ∷ before) l m f g =
    rw (l, m, f, g, same_alike level file entry other before l m f g) refl

-- an entry of this level ends the search, with itself or with what it is led back to
pub alike_level : (entry other : Entry) (number : ℕ) (before : List Entry) (alike : Option ℕ) → same_file entry.file other.file ≡ true → (other.level == entry.level) ≡ true → alike ≡ last_alike other before → (if is_alike entry other then Some number else last_alike entry before) ≡ (if is_some other.redefines then alike else Some number)
alike_level entry other number before alike s l a =
    rw (l, a, same_alike other.level other.file entry other before (sym (eqb-true other.level entry.level l)) refl (same-file entry.file other.file s) refl) (go (is_some other.redefines))
  where
    go : (b : Bool) → (if not b then Some number else last_alike other before) ≡ (if b then last_alike other before else Some number)
    go true = refl
    go false = refl

-- what is found stands before
pub alike_number : (entry : Entry) (before : List Entry) (number : ℕ) → last_alike entry before ≡ Some number → number < length before
unfolding last_alike
alike_number entry [] number e = grind (arith, e)
alike_number entry (x ∷ before) number e =
    go (same_file entry.file x.file) (holds (bound_of entry.level) x) (is_alike entry x) (alike_number entry before number) e
  where
    go : (s h a : Bool) → (last_alike entry before ≡ Some number → number < length before) → (if s then (if h then None else (if a then Some (length before) else last_alike entry before)) else None) ≡ Some number → number < suc (length before)
    go true true a i e = grind (arith, e)
    go true false true i e = grind (arith, e)
    go true false false i e = omega (arith, i e)
    go false h a i e = grind (arith, e)

pub some_within : (found : Option ℕ) (number count : ℕ) → IfSome found (λ n. n ≡ number) → number < count → IfSome found (λ n. n < count)
some_within None number count i h = i
some_within (Some n) number count i h = rw i h

-- ---- names

names_in-push : (entries : List Entry) (entry : Entry) → names_in (entries ++ entry ∷ []) ≡ names_in entries ++ word_list entry.name
names_in-push [] entry = append-nil (word_list entry.name)
names_in-push (x ∷ entries) entry =
    ap (λ l. word_list x.name ++ l) (names_in-push entries entry)
    ∙ sym (append_assoc (word_list x.name) (names_in entries) (word_list entry.name))

pub names_in_step : (entries : List Entry) (at : ℕ) (x : Entry) → at < length entries → x ≡ get_or entries at x → names_in (take (at + 1) entries) ≡ names_in (take at entries) ++ word_list x.name
names_in_step entries at x h e =
    ap names_in (take_step entries at x h e) ∙ names_in-push (take at entries) x

pub any_named : (name : List ℕ) (entries : List Entry) → list_any (bytes_eq name) (names_in entries) ≡ list_any (is_called name) entries
any_named name [] = refl
any_named name (entry ∷ entries) = go entry.name (any_named name entries)
  where
    go : (o : Option (List ℕ)) → list_any (bytes_eq name) (names_in entries) ≡ list_any (is_called name) entries → list_any (bytes_eq name) (word_list o ++ names_in entries) ≡ (is_called_by name o || list_any (is_called name) entries)
    go None i = i
    go (Some found) i =
        ap (λ b. b || list_any (bytes_eq name) (names_in entries)) (bytes_eq_sym name found)
        ∙ ap (λ b. bytes_eq found name || b) i
