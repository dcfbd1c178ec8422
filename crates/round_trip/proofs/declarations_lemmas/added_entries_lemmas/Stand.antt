-- The name of an added item stands for it.
use Rattle.std.proofs.Common.{◌≡◌, ℕ, zero, suc, ◌+◌, Bool, true, false, not, ◌&&◌, if◌then◌else◌, cond, List, [], ◌∷◌, ◌++◌, length, map, drop, Option, Some, None, refl, ap, sym, ◌∙◌, subst, arith}
use Rattle.std.specs.Prelude.{◌==◌, position, slice_get}
use Rattle.std.specs.List.{list_any, position_from}
use Rattle.std.specs.Str.{bytes_eq}
use Rattle.std.proofs.lemmas.Bool.{and_left, and_from, and_parts, both_ways, eq-eqb, false_from_ne_true, not-true, or_from, or_left, or_parts, or_right}
use Rattle.std.proofs.lemmas.Iterator.Adapters.{position_from-zero}
use Rattle.std.proofs.lemmas.List.{append_assoc, drop_at, length_push}
use Rattle.std.proofs.lemmas.Slice.Eq.{bytes_eq-Decides}
use Rattle.cob_tree.specs.declared.entry.Entry.{Entry}
use Rattle.cob_tree.specs.declared.file.FileEntry.{FileEntry}
use Rattle.cob_tree.specs.declared.program.Program.{Program}
use Rattle.control_flow_theory.specs.language.All.{all}
use Rattle.program_facts.specs.well_scoped.Part.{if_any}
use Rattle.parser_combinators.specs.words.Word.{is_data_word}
use Rattle.unparser.specs.Place.{entry_name, item_name}
use Rattle.symbol_tables.specs.declared.data_names.name.Referent.{Referent}
use Rattle.symbol_tables.specs.declared.data_names.name.Referent.TheVariants as found
use Rattle.symbol_tables.specs.declared.data_names.name.ItemKind.TheVariants.{Number}
use Rattle.symbol_tables.specs.declared.data_names.name.Name.{Name}
use Rattle.symbol_tables.specs.data_names.Names.{name_of, names_from}
use Rattle.symbol_tables.specs.data_names.Look.{are_within, find, fits, found_at, found_from, is_called, look}
use Rattle.symbol_tables.proofs.data_names_lemmas.NamesLemmas.{length-names_from}
use Rattle.cobol_grammar.specs.expr_forms.Fault.{kind_of}
use Rattle.cobol_grammar.specs.declared.expr_forms.side.ExprContent.TheVariants as makes
use Rattle.cobol_grammar.specs.declared.expr_forms.side.ValueKind.TheVariants as kinds
use Rattle.round_trip.specs.spelling.expr_spelling.Printable.{Judged, suits, judged_place}
use Rattle.round_trip.proofs.spelling_lemmas.expr_spelling_lemmas.Layers.{judged-place}
use Rattle.round_trip.specs.declarations.added_entries.Items.{WholeItem, whole_entry, whole_entries, HasAdded, AreDifferent, AreNew, AreTitled, has_title, is_one_of, is_other}
use Rattle.round_trip.specs.declarations.added_entries.References.{known_by, place_of}
use Rattle.round_trip.proofs.declarations_lemmas.added_entries_lemmas.Behind.{whole_name, whole_names}
use Rattle.round_trip.proofs.declarations_lemmas.added_entries_lemmas.Found.{known-added, no-fit, any-append}

some-is : {A : Type 0} {x y : A} → Some x ≡ Some y → x ≡ y
some-is e = cc

-- ---- no entry of the program has the name

not-called : (items : List WholeItem) (word : List ℕ) (name : Option (List ℕ)) → if_any (λ n. not (is_one_of n items)) name ≡ true → is_one_of word items ≡ true → is_called word name ≡ false
not-called items word None h one = refl
not-called items word (Some name) h one =
    false_from_ne_true (bytes_eq word name)
    (λ e. both_ways (is_one_of name items) (not-true (is_one_of name items) h) (subst (λ w. is_one_of w items ≡ true) ((bytes_eq-Decides word name).0 e) one))

none-called : (items : List WholeItem) (word : List ℕ) (of : List (List ℕ)) (files : List FileEntry) (before entries : List Entry) → all (map (is_other items) entries) ≡ true → is_one_of word items ≡ true →
    list_any (fits word of) (names_from files before entries) ≡ false
unfolding names_from
none-called items word of files before [] h one = refl
none-called items word of files before (entry ∷ behind) h one =
    let parts = and_parts (is_other items entry) (all (map (is_other items) behind)) h in
    let name = name_of files before entry behind in
    or_from (fits word of name) (list_any (fits word of) (names_from files (entry ∷ before) behind))
    (and_left (is_called word entry.name) (are_within of name.above) (not-called items word entry.name parts.0 one))
    (none-called items word of files (entry ∷ before) behind parts.1 one)

-- ---- the one that is looked for

same-word : (word : List ℕ) → bytes_eq word word ≡ true
same-word word = (bytes_eq-Decides word word).1 refl

one-there : (items : List WholeItem) (number : ℕ) (item : WholeItem) → slice_get items number ≡ Some item → is_one_of item.name items ≡ true
one-there [] number item e = absurd cc
one-there (first ∷ items) zero item e = or_left (bytes_eq item.name first.name) (is_one_of item.name items) (subst (λ (x : WholeItem). bytes_eq item.name x.name ≡ true) (sym (some-is e)) (same-word item.name))
one-there (first ∷ items) (suc number) item e = or_right (bytes_eq item.name first.name) (is_one_of item.name items) (one-there items number item e)

no-qualifier : (above : List (List ℕ)) → are_within [] above ≡ true
unfolding are_within
no-qualifier above = refl

position-at : {A : Type 0} (test : A → Bool) (at : ℕ) (before : List A) (x : A) (list : List A) → list_any test before ≡ false → test x ≡ true → position_from test at (before ++ x ∷ list) ≡ Some (at + length before)
position-at test at [] x list h e = ap (λ b. cond b (Some at) (position_from test (at + 1) list)) e ∙ ap (λ (n : ℕ). Some n) zero-more
  where
    zero-more : at ≡ at + 0
    zero-more = omega arith
position-at test at (y ∷ before) x list h e =
    let parts = or_parts (test y) (list_any test before) h in
    ap (λ b. cond b (Some at) (position_from test (at + 1) (before ++ x ∷ list))) parts.0
    ∙ position-at test (at + 1) before x list parts.1 e ∙ ap (λ (n : ℕ). Some n) one-more
  where
    one-more : (at + 1) + length before ≡ at + suc (length before)
    one-more = omega arith

get-at : {A : Type 0} (before : List A) (x : A) (list : List A) → slice_get (before ++ x ∷ list) (length before) ≡ Some x
get-at [] x list = refl
get-at (y ∷ before) x list = get-at before x list

-- one that fits, where no other does
find-one : (before : List Name) (name : Name) (list : List Name) (word : List ℕ) (of : List (List ℕ)) → list_any (fits word of) before ≡ false → fits word of name ≡ true → list_any (fits word of) list ≡ false →
    find (before ++ name ∷ list) word of ≡ found.Item (length before) name.kind name.dims
find-one before name list word of b e l =
    ap (found_from names word of) place
    ∙ ap (λ rest. if list_any (fits word of) rest then found.Ambiguous else found_at (length before) (slice_get names (length before))) rest-is
    ∙ ap (λ t. if t then found.Ambiguous else found_at (length before) (slice_get names (length before))) l
    ∙ ap (found_at (length before)) (get-at before name list)
  where
    names : List Name
    names = before ++ name ∷ list

    zero-more : 0 + length before ≡ length before
    zero-more = omega arith

    place : position (fits word of) names ≡ Some (length before)
    place = position_from-zero (fits word of) names ∙ position-at (fits word of) 0 before name list b e ∙ ap (λ (n : ℕ). Some n) zero-more

    rest-is : drop (length before + 1) names ≡ list
    rest-is =
        ap (drop (length before + 1)) (sym (append_assoc before (name ∷ []) list))
        ∙ drop_at (before ++ name ∷ []) list (length before + 1) (length_push before name)

-- another of them has another name
other-name : (first item : WholeItem) (items : List WholeItem) (number : ℕ) → is_one_of first.name items ≡ false → slice_get items number ≡ Some item → bytes_eq item.name first.name ≡ false
other-name first item items number d e =
    false_from_ne_true (bytes_eq item.name first.name)
    (λ same. both_ways (is_one_of first.name items) d (subst (λ w. is_one_of w items ≡ true) ((bytes_eq-Decides item.name first.name).0 same) (one-there items number item e)))

find-added : (before : List Name) (items : List WholeItem) (number : ℕ) (item : WholeItem) → list_any (fits item.name []) before ≡ false → AreDifferent items → slice_get items number ≡ Some item →
    find (before ++ whole_names items) item.name [] ≡ found.Item (length before + number) (Number true) 0
find-added before [] number item b d e = absurd cc
find-added before (first ∷ items) zero item b d e =
    find-one before (whole_name first) (whole_names items) item.name [] b
    (and_from (bytes_eq item.name first.name) (are_within [] []) (subst (λ (x : WholeItem). bytes_eq item.name x.name ≡ true) (sym (some-is e)) (same-word item.name)) (no-qualifier []))
    (no-fit item.name [] items (subst (λ (x : WholeItem). is_one_of x.name items ≡ false) (some-is e) d.0))
    ∙ ap (λ n. found.Item n (Number true) 0) zero-more
  where
    zero-more : length before ≡ length before + 0
    zero-more = omega arith
find-added before (first ∷ items) (suc number) item b d e =
    ap (λ names. find names item.name []) (sym (append_assoc before (whole_name first ∷ []) (whole_names items)))
    ∙ find-added (before ++ whole_name first ∷ []) items number item none d.1 e
    ∙ ap (λ n. found.Item n (Number true) 0) one-more
  where
    last : list_any (fits item.name []) (whole_name first ∷ []) ≡ false
    last = or_from (fits item.name [] (whole_name first)) false (and_left (bytes_eq item.name first.name) (are_within [] []) (other-name first item items number d.0 e)) refl

    none : list_any (fits item.name []) (before ++ whole_name first ∷ []) ≡ false
    none = any-append (fits item.name []) before (whole_name first ∷ []) last ∙ b

    one-more : length (before ++ whole_name first ∷ []) + number ≡ length before + suc number
    one-more = ap (λ n. n + number) (length_push before (whole_name first)) ∙ moved
      where
        moved : (length before + 1) + number ≡ length before + suc number
        moved = omega arith

pub added-found : (program made : Program) (items : List WholeItem) (number : ℕ) (item : WholeItem) → HasAdded program items made → AreNew program items → AreDifferent items → slice_get items number ≡ Some item →
    look (known_by made) item.name [] ≡ found.Item (length program.entries + number) (Number true) 0
added-found program made items number item has new different e =
    ap (λ names. find names item.name []) (known-added program made items has)
    ∙ find-added (known_by program).items items number item
    (none-called items item.name [] program.files [] program.entries new (one-there items number item e)) different e
    ∙ ap (λ n. found.Item (n + number) (Number true) 0) (length-names_from program.files [] program.entries)

-- ---- its place

title-at : (items : List WholeItem) (number : ℕ) (item : WholeItem) → AreTitled items → slice_get items number ≡ Some item → is_data_word item.name ≡ true
title-at [] number item t e = absurd cc
title-at (first ∷ items) zero item t e = subst (λ (x : WholeItem). is_data_word x.name ≡ true) (some-is e) (and_parts (has_title first) (all (map has_title items)) t).0
title-at (first ∷ items) (suc number) item t e = title-at items number item (and_parts (has_title first) (all (map has_title items)) t).1 e

get-behind : (entries : List Entry) (items : List WholeItem) (number : ℕ) (item : WholeItem) → slice_get items number ≡ Some item → slice_get (entries ++ whole_entries items) (length entries + number) ≡ Some (whole_entry item)
get-behind [] items number item e = ap (slice_get (whole_entries items)) zero-more ∙ whole items number e
  where
    zero-more : 0 + number ≡ number
    zero-more = omega arith

    whole : (items : List WholeItem) (number : ℕ) → slice_get items number ≡ Some item → slice_get (whole_entries items) number ≡ Some (whole_entry item)
    whole [] number e = absurd cc
    whole (first ∷ items) zero e = ap (λ (x : WholeItem). Some (whole_entry x)) (some-is e)
    whole (first ∷ items) (suc number) e = whole items number e
get-behind (entry ∷ entries) items number item e = ap (slice_get (entry ∷ (entries ++ whole_entries items))) one-more ∙ get-behind entries items number item e
  where
    one-more : suc (length entries) + number ≡ suc (length entries + number)
    one-more = omega arith

suits-one : (n : ℕ) → suits n 0 false (found.Item n (Number true) 0) ≡ true
suits-one n = and_from (n == n) true (eq-eqb n n refl) refl

pub added-judged : (program made : Program) (items : List WholeItem) (number : ℕ) (item : WholeItem) → HasAdded program items made → AreNew program items → AreDifferent items → AreTitled items → slice_get items number ≡ Some item →
    judged_place (known_by made) made (place_of program number) ≡ record { fit = true; kind = kinds.Number true; make = makes.Item; bare = true }
added-judged program made items number item has new different titled e =
    judged-place (known_by made) made at [] [] None
    ∙ ap (λ word. judged word (look (known_by made) word [])) named
    ∙ ap (judged item.name) (added-found program made items number item has new different e)
    ∙ ap (λ b. record { fit = b; kind = kinds.Number true; make = makes.Item; bare = true }) fit
  where
    at : ℕ
    at = length program.entries + number

    named : item_name made at ≡ item.name
    named = ap (λ list. entry_name (slice_get list at)) has.entries ∙ ap entry_name (get-behind program.entries items number item e)

    judged : List ℕ → Referent → Judged
    judged word f = record { fit = (is_data_word word && true) && (suits at 0 false f && true); kind = kind_of f; make = makes.Item; bare = true }

    fit : ((is_data_word item.name && true) && (suits at 0 false (found.Item at (Number true) 0) && true)) ≡ true
    fit =
        and_from (is_data_word item.name && true) (suits at 0 false (found.Item at (Number true) 0) && true)
        (and_from (is_data_word item.name) true (title-at items number item titled e) refl)
        (and_from (suits at 0 false (found.Item at (Number true) 0)) true (suits-one at) refl)
