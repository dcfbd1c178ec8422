-- What an entry is in, but for a level 88, is a group.
use Rattle.std.proofs.Common.{◌≡◌, ℕ, zero, suc, ◌<◌, ◌≤◌, Bool, true, false, ◌&&◌, ◌||◌, ◌==◌, if◌then◌else◌, nat_lt, List, ◌∷◌, length, get_or, take, drop, reverse, Option, Some, None, refl, ap, sym, ◌∙◌, subst, arith, add-one, drop-cons}
use Rattle.std.specs.Prelude.{slice_get}
use Rattle.std.proofs.lemmas.Bool.{eqb-true, lt-ltb}
use Rattle.std.proofs.lemmas.Bool.Decides.{nat_tests}
use Rattle.std.proofs.lemmas.Option.{slice_get-get_or, slice_get_within, get_or_from_slice_get}
use Rattle.cob_tree.specs.declared.entry.Entry.{Entry}
use Rattle.symbol_tables.specs.data_names.Grouping.{is_numbered, bound_of, holds, same_file, has_items}
use Rattle.symbol_tables.specs.data_names.Names.{is_group}
use Rattle.symbol_tables.specs.data_names.Nesting.{nearest}
use Rattle.symbol_tables.proofs.data_names_lemmas.NestingLemmas.{nearest_none, nearest_more}
use Rattle.declaration_checks.specs.Standing.{before, behind, holder_of}

same_file-same : (file other : Option ℕ) → same_file file other ≡ true → file ≡ other
same_file-same None None h = refl
same_file-same (Some a) (Some b) h = ap (λ n. Some n) (eqb-true a b h)
same_file-same None (Some b) h = absurd cc
same_file-same (Some a) None h = absurd cc

same_file-refl : (file : Option ℕ) → same_file file file ≡ true
same_file-refl None = refl
same_file-refl (Some a) = one a
  where
    one : (a : ℕ) → (a == a) ≡ true
    one a = grind (arith, nat_tests)

-- what holds what is bounded below 50 is of a level of records
numbered : (level bound : ℕ) → bound < 50 → ((is_numbered level || level == 77) && nat_lt level bound) ≡ true → is_numbered level ≡ true
numbered level bound h e = grind (arith, nat_tests)

lower : (level bound : ℕ) → ((is_numbered level || level == 77) && nat_lt level bound) ≡ true → level < bound
lower level bound e = grind (arith, nat_tests)

-- what is of a level of records and doesn't hold it isn't lower
higher : (level low bound : ℕ) → ((is_numbered level || level == 77) && nat_lt level bound) ≡ false → is_numbered level ≡ true → low < bound → nat_lt low level ≡ true
higher level low bound e n h = grind (arith, nat_tests)

-- these entries have what is in an item of each lower level first
abbrev Inside : ℕ → Option ℕ → List Entry → Type 0
Inside bound file entries = (level : ℕ) → level < bound → has_items level file entries ≡ true

-- the item of this number is a group
pub record IsGroup (entries : List Entry) (number : ℕ) : Type 0 where
  pub group : Entry
  pub there : slice_get entries number ≡ Some group
  pub is : is_group group (behind entries number) ≡ true

some-is : {A : Type 0} {a b : A} → Some a ≡ Some b → a ≡ b
some-is e = cc

skips : (bound : ℕ) (file : Option ℕ) (x : Entry) (rest : List Entry) → same_file file x.file ≡ true → holds bound x ≡ false → Inside bound file rest → Inside bound file (x ∷ rest)
unfolding has_items
skips bound file x rest same other inside level low =
    ap (λ s. if s then (if is_numbered x.level then nat_lt level x.level else has_items level file rest) else false) same ∙ go (is_numbered x.level) refl
  where
    go : (b : Bool) → is_numbered x.level ≡ b → (if b then nat_lt level x.level else has_items level file rest) ≡ true
    go true e = higher x.level level bound other e low
    go false e = inside level low

nearest-group : (bound : ℕ) (file : Option ℕ) (entries : List Entry) (d : Entry) (n h : ℕ) → bound < 50 → n ≤ length entries → Inside bound file (drop n entries) →
    nearest bound file (reverse (take n entries)) ≡ Some h → IsGroup entries h
nearest-group bound file entries d zero h small within inside e = absurd (never (sym (nearest_none bound file) ∙ e))
  where
    never : None ≡ Some h → ⊥
    never e = cc
nearest-group bound file entries d (suc n) h small within inside e =
    go (same_file file x.file) refl (holds bound x) refl (sym (nearest_more bound file entries n d (omega (arith, within))) ∙ e)
    (λ i. nearest-group bound file entries d n h small (omega (arith, within)) i)
  where
    x : Entry
    x = get_or entries n d

    shown : drop n entries ≡ x ∷ drop (suc n) entries
    shown = drop-cons entries n d (omega (arith, within))

    found : (number : ℕ) → n ≡ number → same_file file x.file ≡ true → holds bound x ≡ true → IsGroup entries number
    found number same one held =
        let level = x.level in
        let records = numbered level bound small held in
        subst (IsGroup entries) same
        (record {
          group = x;
          there = slice_get-get_or entries n d (omega (arith, within));
          is = ap (λ b. b && has_items level x.file (behind entries n)) records
              ∙ ap (λ f. has_items level f (behind entries n)) (sym (same_file-same file x.file one))
              ∙ ap (λ k. has_items level file (drop k entries)) (add-one n)
              ∙ inside level (lower level bound held);
        })

    go : (s : Bool) → same_file file x.file ≡ s → (b : Bool) → holds bound x ≡ b →
        (if s then (if b then Some n else nearest bound file (reverse (take n entries))) else None) ≡ Some h →
        (Inside bound file (drop n entries) → nearest bound file (reverse (take n entries)) ≡ Some h → IsGroup entries h) → IsGroup entries h
    go false one b held e again = absurd cc
    go true one true held e again = found h (some-is e) one held
    go true one false held e again = again (subst (Inside bound file) (sym shown) (skips bound file x (drop (suc n) entries) one held inside)) e

-- ---- an entry

bound-small : (level : ℕ) → (level == 88) ≡ false → bound_of level < 50
bound-small level e = go (nat_lt level 50 || level == 88) refl
  where
    go : (b : Bool) → (nat_lt level 50 || level == 88) ≡ b → (if b then level else 0) < 50
    go true f = grind (arith, nat_tests)
    go false f = omega arith

-- a level that something lower may hold
is-bound : (level low : ℕ) → low < bound_of level → (level == 88) ≡ false → (is_numbered level ≡ true) × (low < level)
is-bound level low h e = go (nat_lt level 50 || level == 88) refl h
  where
    records : (level low : ℕ) → (nat_lt level 50 || level == 88) ≡ true → (level == 88) ≡ false → low < level → is_numbered level ≡ true
    records level low f e h = grind (arith, nat_tests)

    go : (b : Bool) → (nat_lt level 50 || level == 88) ≡ b → low < (if b then level else 0) → (is_numbered level ≡ true) × (low < level)
    go true f h = (records level low f e h, h)
    go false f h = absurd (omega (arith, h))

pub holder-group : (entries : List Entry) (at : ℕ) (entry : Entry) (h : ℕ) → slice_get entries at ≡ Some entry → (entry.level == 88) ≡ false → holder_of entry (before entries at) ≡ Some h → IsGroup entries h
unfolding has_items
holder-group entries at entry h there e held =
    let inside : at < length entries = slice_get_within entries at entry there in
    nearest-group (bound_of entry.level) entry.file entries entry at h (bound-small entry.level e) (omega (arith, inside))
    (λ level low.
    let is = is-bound entry.level level low e in
    ap (has_items level entry.file) (drop-cons entries at entry inside ∙ ap (λ x. x ∷ drop (suc at) entries) (get_or_from_slice_get entries at entry entry there))
    ∙ ap (λ s. if s then (if is_numbered entry.level then nat_lt level entry.level else has_items level entry.file (drop (suc at) entries)) else false) (same_file-refl entry.file)
    ∙ ap (λ b. if b then nat_lt level entry.level else has_items level entry.file (drop (suc at) entries)) is.0
    ∙ lt-ltb level entry.level is.1) held
