-- The rules on entries hold of a program with added ones behind, and of these.
use Rattle.std.proofs.Common.{◌≡◌, ℕ, zero, suc, ◌+◌, ◌<◌, ◌≤◌, Bool, true, false, ◌||◌, nat_le, if◌then◌else◌, List, [], ◌∷◌, ◌++◌, length, map, take, drop, reverse, Option, Some, None, refl, ap, sym, ◌∙◌, subst, arith}
use Rattle.std.specs.Prelude.{◌==◌, slice_get}
use Rattle.std.proofs.lemmas.Bool.{and_from, le-leb}
use Rattle.std.proofs.lemmas.List.{append_assoc, map-append, length-map, length-reverse, length-take-le, length_push, drop_at, drop-append-le, take-append-le}
use Rattle.std.proofs.lemmas.Option.{slice_get_within}
use Rattle.cob_tree.specs.declared.entry.Entry.{Entry}
use Rattle.cob_tree.specs.declared.entry.Span.{Span}
use Rattle.cob_tree.specs.declared.picture.Picture.TheVariants as pictures
use Rattle.cob_tree.specs.declared.place.Operand.TheVariants as operands
use Rattle.cob_tree.specs.declared.program.Program.{Program}
use Rattle.unparser.specs.Place.{entry_name, item_name}
use Rattle.symbol_tables.specs.data_names.Grouping.{bound_of, holds, same_file}
use Rattle.symbol_tables.specs.data_names.Nesting.{nearest}
use Rattle.symbol_tables.specs.data_names.Names.{is_group}
use Rattle.cob_store.specs.sizes.Size.{sized}
use Rattle.declaration_checks.specs.declared.literal.LiteralTarget.{LiteralTarget}
use Rattle.declaration_checks.specs.Item.{level_stands}
use Rattle.declaration_checks.specs.Literal.{fits}
use Rattle.declaration_checks.specs.Redefining.{redefined, is_meant, is_short, last_alike, meant_at, if_meant, size_at}
use Rattle.declaration_checks.specs.Rule.{target_by, target_of}
use Rattle.declaration_checks.specs.Standing.{before, behind, holder_of, standing_in, standing_of}
use Rattle.declaration_checks.specs.Value.{may_have_value}
use Rattle.round_trip.specs.spelling.data_spelling.Printable.{IfAny}
use Rattle.round_trip.specs.declarations.printed_declarations.Rules.{base, bases, sizes, PictureSuits, Repeats, IsValued, Redefines, ItemKeeps, SpansFit, FitAt, FitHolder, ConditionKeeps, KindKeeps, EntryKeeps, EntriesKeep}
use Rattle.round_trip.specs.declarations.added_entries.Items.{WholeItem, zero_literal, whole_entry, whole_entries, HasAdded, AreSized}
use Rattle.round_trip.proofs.declarations_lemmas.added_entries_lemmas.Behind.{group-added, no-group, no-groups}
use Rattle.round_trip.proofs.declarations_lemmas.added_entries_lemmas.Sizes.{sized-added, length-sizes}

-- ---- lists with more behind

pub get-added : {A : Type 0} (list more : List A) (n : ℕ) → n < length list → slice_get (list ++ more) n ≡ slice_get list n
get-added [] more n h = absurd (omega (arith, h))
get-added (x ∷ list) more zero h = refl
get-added (x ∷ list) more (suc n) h = get-added list more n (omega (arith, h))

pub got-added : {A : Type 0} (list more : List A) (n : ℕ) (x : A) → slice_get list n ≡ Some x → slice_get (list ++ more) n ≡ Some x
got-added list more n x e = get-added list more n (slice_get_within list n x e) ∙ e

bases-whole : (items : List WholeItem) → map base (whole_entries items) ≡ whole_entries items
bases-whole [] = refl
bases-whole (item ∷ items) = ap (λ list. whole_entry item ∷ list) (bases-whole items)

-- ---- what is redefined, and what stands above, is there

some-is : {A : Type 0} {x y : A} → Some x ≡ Some y → x ≡ y
some-is e = cc

meant-found : (list : List Entry) (name : List ℕ) (entry : Entry) (found : Option ℕ) (number : ℕ) → meant_at list name entry found ≡ Some number →
    (found ≡ Some number) × (number < length list)
meant-found list name entry None number e = absurd cc
meant-found list name entry (Some n) number e = by (slice_get list n) refl e
  where
    by : (o : Option Entry) → slice_get list n ≡ o → if_meant name entry n o ≡ Some number → (Some n ≡ Some number) × (number < length list)
    by None is e = absurd cc
    by (Some other) is e = go (is_meant name entry other) e
      where
        go : (b : Bool) → (if b then Some n else None) ≡ Some number → (Some n ≡ Some number) × (number < length list)
        go true e = (e, subst (λ k. k < length list) (some-is e) (slice_get_within list n other is))
        go false e = absurd cc

nearest-within : (bound : ℕ) (file : Option ℕ) (list : List Entry) (n : ℕ) → nearest bound file list ≡ Some n → n < length list
unfolding nearest
nearest-within bound file [] n e = absurd cc
nearest-within bound file (entry ∷ list) n e = go (same_file file entry.file) (holds bound entry) (nearest-within bound file list n) e
  where
    go : (s b : Bool) → (nearest bound file list ≡ Some n → n < length list) → (if s then (if b then Some (length list) else nearest bound file list) else None) ≡ Some n → n < suc (length list)
    go true true later e = let last : length list ≡ n = some-is e in omega (arith, last)
    go true false later e = let h = later e in omega (arith, h)
    go false b later e = absurd cc

holder-within : (entry : Entry) (list : List Entry) (at n : ℕ) → at < length list → holder_of entry (before list at) ≡ Some n → n < length list
holder-within entry list at n h e =
    let low = nearest-within (bound_of entry.level) entry.file (reverse (take at list)) n e in
    let many : length (reverse (take at list)) ≡ at = length-reverse (take at list) ∙ length-take-le at list (omega (arith, h)) in
    omega (arith, h, subst (λ k. n < k) many low)

module _ (program made : Program) (items : List WholeItem) (has : HasAdded program items made) where
  bases-are : bases made ≡ bases program ++ whole_entries items
  bases-are =
      ap (map base) has.entries ∙ map-append base program.entries (whole_entries items)
      ∙ ap (λ list. bases program ++ list) (bases-whole items)

  sizes-are : sizes made ≡ sizes program ++ (sized (whole_entries items)).sizes
  sizes-are = ap (λ list. (sized list).sizes) has.entries ∙ ap (λ s. s.sizes) (sized-added program.entries items)

  -- ---- an entry of the program, with this number

  module _ (at : ℕ) (within : at < length program.entries) where
    some-bases : at < length (bases program)
    some-bases = subst (λ n. at < n) (sym (length-map program.entries base)) within

    before-is : before (bases made) at ≡ before (bases program) at
    before-is = ap (take at) bases-are ∙ take-append-le at (bases program) (whole_entries items) (omega (arith, some-bases))

    group-is : (entry : Entry) → is_group entry (behind (bases made) at) ≡ is_group entry (behind (bases program) at)
    group-is entry =
        ap (λ list. is_group entry (drop (at + 1) list)) bases-are
        ∙ ap (is_group entry) (drop-append-le (at + 1) (bases program) (whole_entries items) (omega (arith, some-bases)))
        ∙ group-added entry (behind (bases program) at) items

    size-is : slice_get (sizes made) at ≡ slice_get (sizes program) at
    size-is =
        ap (λ list. slice_get list at) sizes-are
        ∙ get-added (sizes program) (sized (whole_entries items)).sizes at (subst (λ n. at < n) (sym (length-sizes program.entries)) within)

    target-is : (entry : Entry) → target_of (bases made) (sizes made) at entry ≡ target_of (bases program) (sizes program) at entry
    target-is entry =
        ap (λ b. target_by b (sizes made) at entry) (group-is entry)
        ∙ ap (λ s. sized_target s) size-is
      where
        sized_target : Option ℕ → LiteralTarget
        sized_target s = record (target_by (is_group entry (behind (bases program) at)) (sizes program) at entry) { size = size_at s }

    redefines-is : (entry : Entry) (number : ℕ) → Redefines program at entry number → Redefines made at entry number
    redefines-is entry number h = (same-place, same-size)
      where
        found : Option ℕ
        found = last_alike (base entry) (reverse (before (bases program) at))

        meant : (found ≡ Some number) × (number < length (bases program))
        meant = meant-found (bases program) (item_name program number) (base entry) found number h.0

        there : number < length program.entries
        there = subst (λ n. number < n) (length-map program.entries base) meant.1

        same-name : item_name made number ≡ item_name program number
        same-name = ap (λ list. entry_name (slice_get list number)) has.entries ∙ ap entry_name (get-added program.entries (whole_entries items) number there)

        same-base : slice_get (bases made) number ≡ slice_get (bases program) number
        same-base = ap (λ list. slice_get list number) bases-are ∙ get-added (bases program) (whole_entries items) number meant.1

        same-place : redefined (bases made) at (base entry) (item_name made number) ≡ Some number
        same-place =
            ap (λ name. redefined (bases made) at (base entry) name) same-name
            ∙ ap (λ list. meant_at (bases made) (item_name program number) (base entry) (last_alike (base entry) (reverse list))) before-is
            ∙ ap (meant_at (bases made) (item_name program number) (base entry)) meant.0
            ∙ ap (if_meant (item_name program number) (base entry) number) same-base
            ∙ ap (meant_at (bases program) (item_name program number) (base entry)) (sym meant.0)
            ∙ h.0

        second-size : slice_get (sizes made) number ≡ slice_get (sizes program) number
        second-size =
            ap (λ list. slice_get list number) sizes-are
            ∙ get-added (sizes program) (sized (whole_entries items)).sizes number (subst (λ n. number < n) (sym (length-sizes program.entries)) there)

        same-size : is_short (sizes made) at (base entry) number ≡ true
        same-size =
            ap (λ s. (base entry).level == 1 || nat_le (size_at s) (size_at (slice_get (sizes made) number))) size-is
            ∙ ap (λ s. (base entry).level == 1 || nat_le (size_at (slice_get (sizes program) at)) (size_at s)) second-size
            ∙ h.1

    item-keeps : (entry : Entry) → ItemKeeps program at entry → ItemKeeps made at entry
    item-keeps entry k = record {
      pictured = subst (λ b. PictureSuits b entry.picture) (sym (group-is (base entry))) k.pictured;
      signed = k.signed;
      used = k.used;
      repeated = subst (λ list. IfAny (Repeats entry.level (standing_of (base entry) list).dims) entry.occurs) (sym before-is) k.repeated;
      valued = subst (λ target. IfAny (IsValued entry target (standing_of (base entry) (before (bases made) at)).barred) entry.value) (sym (target-is (base entry)))
          (subst (λ list. IfAny (IsValued entry (target_of (bases program) (sizes program) at (base entry)) (standing_of (base entry) list).barred) entry.value) (sym before-is) k.valued);
      redefines = redefining entry.redefines k.redefines;
      no_ranges = k.no_ranges;
    }
      where
        redefining : (o : Option ℕ) → IfAny (Redefines program at entry) o → IfAny (Redefines made at entry) o
        redefining None h = tt
        redefining (Some number) h = redefines-is entry number h

  fit-at : (spans : List Span) (n : ℕ) → n < length program.entries → FitAt program spans n (slice_get (bases program) n) → FitAt made spans n (slice_get (bases made) n)
  fit-at spans n within h =
      subst (FitAt made spans n) (sym same) (go (slice_get (bases program) n) h)
    where
      same : slice_get (bases made) n ≡ slice_get (bases program) n
      same = ap (λ list. slice_get list n) bases-are ∙ get-added (bases program) (whole_entries items) n (some-bases n within)

      go : (o : Option Entry) → FitAt program spans n o → FitAt made spans n o
      go None h = tt
      go (Some entry) h = subst (λ target. SpansFit target spans) (sym (target-is n within entry)) h

  condition-keeps : (at : ℕ) → at < length program.entries → (entry : Entry) → ConditionKeeps program at entry → ConditionKeeps made at entry
  condition-keeps at within entry k = record {
    no_redefines = k.no_redefines;
    no_picture = k.no_picture;
    no_sign = k.no_sign;
    no_usage = k.no_usage;
    no_occurs = k.no_occurs;
    no_value = k.no_value;
    filled = k.filled;
    fit = subst (λ list. FitHolder made entry.ranges (holder_of (base entry) list)) (sym (before-is at within)) (by (holder_of (base entry) (before (bases program) at)) refl k.fit);
  }
    where
      by : (o : Option ℕ) → holder_of (base entry) (before (bases program) at) ≡ o → FitHolder program entry.ranges o → FitHolder made entry.ranges o
      by None is h = tt
      by (Some n) is h =
          fit-at entry.ranges n (subst (λ k. n < k) (length-map program.entries base) (holder-within (base entry) (bases program) at n (some-bases at within) is)) h

  entry-keeps : (at : ℕ) → at < length program.entries → (entry : Entry) → EntryKeeps program at entry → EntryKeeps made at entry
  entry-keeps at within entry k = record {
    level = k.level;
    stands = subst (λ list. level_stands entry.level (holder_of (base entry) list) ≡ true) (sym (before-is at within)) k.stands;
    kind = by (entry.level == 88) k.kind;
  }
    where
      by : (b : Bool) → KindKeeps b program at entry → KindKeeps b made at entry
      by true h = condition-keeps at within entry h
      by false h = item-keeps at within entry h

  entries-keep : (at : ℕ) (entries : List Entry) → at + length entries ≤ length program.entries → EntriesKeep program at entries → EntriesKeep made at entries
  entries-keep at [] h k = tt
  entries-keep at (entry ∷ entries) h k =
      (entry-keeps at (omega (arith, h)) entry k.0, entries-keep (at + 1) entries (omega (arith, h)) k.1)

-- ---- an added entry

fits-zero : (signed : Bool) (digits size : ℕ) → fits (operands.Number zero_literal) (record { group = false; picture = Some (pictures.Number signed digits 0); size = size }) ≡ true
fits-zero true digits size = and_from (nat_le 0 digits) true (le-leb 0 digits (omega arith)) refl
fits-zero false digits size = and_from (nat_le 0 digits) true (le-leb 0 digits (omega arith)) refl

module _ (made : Program) where
  whole-keeps : (front : List Entry) (item : WholeItem) (items : List WholeItem) → bases made ≡ front ++ whole_entry item ∷ whole_entries items → 1 ≤ item.digits → item.digits ≤ 18 → EntryKeeps made (length front) (whole_entry item)
  whole-keeps front item items is some few = record {
    level = refl;
    stands = refl;
    kind = record {
      pictured = subst (λ b. PictureSuits b (whole_entry item).picture) (sym alone) (omega (arith, some), omega (arith, few));
      signed = tt;
      used = refl;
      repeated = tt;
      valued = (valued, subst (λ b. fits (operands.Number zero_literal) (target_by b (sizes made) (length front) (whole_entry item)) ≡ true) (sym alone) (fits-zero item.signed item.digits (size_at (slice_get (sizes made) (length front)))));
      redefines = tt;
      no_ranges = refl;
    };
  }
    where
      alone : is_group (whole_entry item) (behind (bases made) (length front)) ≡ false
      alone =
          ap (λ list. is_group (whole_entry item) (drop (length front + 1) list)) (is ∙ sym (append_assoc front (whole_entry item ∷ []) (whole_entries items)))
          ∙ ap (is_group (whole_entry item)) (drop_at (front ++ whole_entry item ∷ []) (whole_entries items) (length front + 1) (length_push front (whole_entry item)))
          ∙ no-group item items

      valued : may_have_value (whole_entry item) (is_group (whole_entry item) (behind (bases made) (length front))) (standing_of (whole_entry item) (before (bases made) (length front))).barred ≡ true
      valued =
          ap (λ b. may_have_value (whole_entry item) b (standing_of (whole_entry item) (before (bases made) (length front))).barred) alone
          ∙ ap (λ groups. may_have_value (whole_entry item) false (standing_in groups).barred) (no-groups None (reverse (before (bases made) (length front))))

  wholes-keep : (front : List Entry) (items : List WholeItem) → bases made ≡ front ++ whole_entries items → AreSized items → EntriesKeep made (length front) (whole_entries items)
  wholes-keep front [] is s = tt
  wholes-keep front (item ∷ items) is s = (
    whole-keeps front item items is s.0 s.1,
    subst (λ n. EntriesKeep made n (whole_entries items)) (length_push front (whole_entry item))
        (wholes-keep (front ++ whole_entry item ∷ []) items (is ∙ sym (append_assoc front (whole_entry item ∷ []) (whole_entries items))) s.2),
  )

  append-keep : (at : ℕ) (entries more : List Entry) → EntriesKeep made at entries → EntriesKeep made (at + length entries) more → EntriesKeep made at (entries ++ more)
  append-keep at [] more k m = subst (λ n. EntriesKeep made n more) none m
    where
      none : at + 0 ≡ at
      none = omega arith
  append-keep at (entry ∷ entries) more k m = (k.0, append-keep (at + 1) entries more k.1 (subst (λ n. EntriesKeep made n more) one m))
    where
      one : at + suc (length entries) ≡ (at + 1) + length entries
      one = omega arith

pub rules-keep : (program made : Program) (items : List WholeItem) → HasAdded program items made → AreSized items → EntriesKeep program 0 program.entries → EntriesKeep made 0 made.entries
rules-keep program made items has s k =
    subst (EntriesKeep made 0) (sym has.entries)
    (append-keep made 0 program.entries (whole_entries items)
    (entries-keep program made items has 0 program.entries (omega arith) k)
    (subst (λ n. EntriesKeep made n (whole_entries items)) (length-map program.entries base ∙ zero-more) (wholes-keep made (bases program) items (bases-are program made items has) s)))
  where
    zero-more : length program.entries ≡ 0 + length program.entries
    zero-more = omega arith
