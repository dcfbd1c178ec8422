-- What is found among names with those of added items behind.
use Rattle.std.proofs.Common.{◌≡◌, ℕ, zero, suc, ◌+◌, ◌<◌, Bool, true, false, not, ◌||◌, if◌then◌else◌, cond, List, [], ◌∷◌, ◌++◌, length, map, drop, Option, Some, None, refl, ap, sym, ◌∙◌, subst, arith}
use Rattle.std.specs.Prelude.{position, slice_get}
use Rattle.std.specs.List.{list_any, position_from}
use Rattle.std.specs.Str.{bytes_eq}
use Rattle.std.proofs.lemmas.Bool.{and_left, and_parts, not-true, or_from, or_parts}
use Rattle.std.proofs.lemmas.Iterator.Adapters.{position_from-zero}
use Rattle.std.proofs.lemmas.List.{drop-append-le}
use Rattle.std.proofs.lemmas.List.Quantifiers.{position-Some}
use Rattle.std.proofs.lemmas.Option.{get_or_from_slice_get, slice_get_within}
use Rattle.std.proofs.lemmas.Slice.Eq.{bytes_eq-Decides}
use Rattle.cob_tree.specs.declared.entry.Entry.{Entry}
use Rattle.cob_tree.specs.declared.file.FileEntry.{FileEntry}
use Rattle.cob_tree.specs.declared.program.Program.{Program}
use Rattle.control_flow_theory.specs.language.All.{all}
use Rattle.program_facts.specs.well_scoped.Part.{if_any}
use Rattle.unparser.specs.Place.{entry_name, item_name}
use Rattle.symbol_tables.specs.declared.data_names.name.Referent.{Referent}
use Rattle.symbol_tables.specs.declared.data_names.name.Referent.TheVariants as found
use Rattle.symbol_tables.specs.declared.data_names.name.ItemKind.{ItemKind}
use Rattle.symbol_tables.specs.declared.data_names.name.Name.{Name}
use Rattle.symbol_tables.specs.data_names.Names.{names_from}
use Rattle.symbol_tables.specs.data_names.Look.{are_within, find, fits, found_at, found_from, is_called, look, look_file}
use Rattle.round_trip.specs.declarations.added_entries.Items.{WholeItem, whole_entries, HasAdded, AreNew, is_one_of, is_other}
use Rattle.round_trip.specs.declarations.added_entries.References.{known_by}
use Rattle.round_trip.proofs.declarations_lemmas.added_entries_lemmas.Behind.{whole_name, whole_names, names-added}
use Rattle.round_trip.proofs.declarations_lemmas.added_entries_lemmas.Rules.{get-added}

pub known-added : (program made : Program) (items : List WholeItem) → HasAdded program items made → (known_by made).items ≡ (known_by program).items ++ whole_names items
known-added program made items has =
    ap (λ files. names_from files [] made.entries) has.files
    ∙ ap (names_from program.files []) has.entries
    ∙ names-added program.files [] program.entries items

-- ---- a test that what is behind fails

pub any-append : {A : Type 0} (test : A → Bool) (list more : List A) → list_any test more ≡ false → list_any test (list ++ more) ≡ list_any test list
any-append test [] more h = h
any-append test (x ∷ list) more h = ap (λ b. test x || b) (any-append test list more h)

position-none : {A : Type 0} (test : A → Bool) (at : ℕ) (list : List A) → list_any test list ≡ false → position_from test at list ≡ None
position-none test at [] h = refl
position-none test at (x ∷ list) h =
    let parts = or_parts (test x) (list_any test list) h in
    ap (λ b. cond b (Some at) (position_from test (at + 1) list)) parts.0 ∙ position-none test (at + 1) list parts.1

position-append : {A : Type 0} (test : A → Bool) (at : ℕ) (list more : List A) → list_any test more ≡ false → position_from test at (list ++ more) ≡ position_from test at list
position-append test at [] more h = position-none test at more h
position-append test at (x ∷ list) more h = ap (λ o. cond (test x) (Some at) o) (position-append test (at + 1) list more h)

find-append : (names more : List Name) (word : List ℕ) (of : List (List ℕ)) → list_any (fits word of) more ≡ false → find (names ++ more) word of ≡ find names word of
find-append names more word of h =
    ap (found_from (names ++ more) word of) same ∙ by (position (fits word of) names) refl
  where
    same : position (fits word of) (names ++ more) ≡ position (fits word of) names
    same = position_from-zero (fits word of) (names ++ more) ∙ position-append (fits word of) 0 names more h ∙ sym (position_from-zero (fits word of) names)

    by : (o : Option ℕ) → position (fits word of) names ≡ o → found_from (names ++ more) word of o ≡ found_from names word of o
    by None e = refl
    by (Some item) e =
        let within = position_within names (fits word of) item e in
        ap (λ list. if list_any (fits word of) list then found.Ambiguous else found_at item (slice_get (names ++ more) item)) (drop-append-le (item + 1) names more (omega (arith, within)))
        ∙ ap (λ b. if b then found.Ambiguous else found_at item (slice_get (names ++ more) item)) (any-append (fits word of) (drop (item + 1) names) more h)
        ∙ ap (λ o. if list_any (fits word of) (drop (item + 1) names) then found.Ambiguous else found_at item o) (get-added names more item within)
      where
        position_within : (list : List Name) (test : Name → Bool) (item : ℕ) → position test list ≡ Some item → item < length list
        position_within [] test item e = absurd cc
        position_within (name ∷ list) test item e = (position-Some test (name ∷ list) item name e).0

-- ---- words that are no names of added items

pub no-fit : (word : List ℕ) (of : List (List ℕ)) (items : List WholeItem) → is_one_of word items ≡ false → list_any (fits word of) (whole_names items) ≡ false
no-fit word of [] h = refl
no-fit word of (item ∷ items) h =
    let parts = or_parts (bytes_eq word item.name) (is_one_of word items) h in
    or_from (fits word of (whole_name item)) (list_any (fits word of) (whole_names items))
    (and_left (bytes_eq word item.name) (are_within of []) parts.0) (no-fit word of items parts.1)

pub look-stays : (program made : Program) (items : List WholeItem) (word : List ℕ) (of : List (List ℕ)) → HasAdded program items made → is_one_of word items ≡ false → look (known_by made) word of ≡ look (known_by program) word of
look-stays program made items word of has h =
    ap (λ names. find names word of) (known-added program made items has)
    ∙ find-append (known_by program).items (whole_names items) word of (no-fit word of items h)

pub file-stays : (program made : Program) (items : List WholeItem) (word : List ℕ) → HasAdded program items made → look_file (known_by made) word ≡ look_file (known_by program) word
file-stays program made items word has = ap (λ files. position (bytes_eq word) (map (λ (file : FileEntry). file.name) files)) has.files

pub name-stays : (program made : Program) (items : List WholeItem) (item : ℕ) → HasAdded program items made → item < length program.entries → item_name made item ≡ item_name program item
name-stays program made items item has h =
    ap (λ list. entry_name (slice_get list item)) has.entries ∙ ap entry_name (get-added program.entries (whole_entries items) item h)

-- ---- what stands for an item of the program

word-at : (files : List FileEntry) (before entries : List Entry) (i : ℕ) (name : Name) → slice_get (names_from files before entries) i ≡ Some name → (entry : Entry) × (slice_get entries i ≡ Some entry) × (name.word ≡ entry.name)
unfolding names_from
word-at files before [] i name e = absurd cc
word-at files before (entry ∷ behind) zero name e = (entry, refl, sym (ap (λ n. n.word) (some-is e)))
  where
    some-is : {A : Type 0} {x y : A} → Some x ≡ Some y → x ≡ y
    some-is e = cc
word-at files before (entry ∷ behind) (suc i) name e = word-at files (entry ∷ before) behind i name e

other-at : (items : List WholeItem) (entries : List Entry) (i : ℕ) (entry : Entry) → all (map (is_other items) entries) ≡ true → slice_get entries i ≡ Some entry → is_other items entry ≡ true
other-at items [] i entry h e = absurd cc
other-at items (first ∷ entries) zero entry h e = subst (λ x. is_other items x ≡ true) (some-is e) (and_parts (is_other items first) (all (map (is_other items) entries)) h).0
  where
    some-is : {A : Type 0} {x y : A} → Some x ≡ Some y → x ≡ y
    some-is e = cc
other-at items (first ∷ entries) (suc i) entry h e = other-at items entries i entry (and_parts (is_other items first) (all (map (is_other items) entries)) h).1 e

-- an entry that a word names, and none of the added items has its name
other-word : (items : List WholeItem) (word : List ℕ) (name : Option (List ℕ)) → is_called word name ≡ true → if_any (λ n. not (is_one_of n items)) name ≡ true → is_one_of word items ≡ false
other-word items word None c h = absurd cc
other-word items word (Some name) c h = subst (λ w. is_one_of w items ≡ false) (sym ((bytes_eq-Decides word name).0 c)) (not-true (is_one_of name items) h)

abbrev pub FoundHere : Program → List WholeItem → List ℕ → ℕ → Type 0
FoundHere program items word number = (is_one_of word items ≡ false) × (number < length program.entries)

found-here : (program : Program) (items : List WholeItem) (word : List ℕ) (of : List (List ℕ)) (i : ℕ) (name : Name) → AreNew program items → position (fits word of) (known_by program).items ≡ Some i → slice_get (known_by program).items i ≡ Some name → FoundHere program items word i
found-here program items word of i name new p e =
    let names = (known_by program).items in
    let fit = subst (λ n. fits word of n ≡ true) (get_or_from_slice_get names i name name e) (position-Some (fits word of) names i name p).1 in
    let called = (and_parts (is_called word name.word) (are_within of name.above) fit).0 in
    let at = word-at program.files [] program.entries i name e in
    (other-word items word at.0.name (subst (λ w. is_called word w ≡ true) at.2 called) (other-at items program.entries i at.0 new at.1), slice_get_within program.entries i at.0 at.1)

-- what is found has this number
abbrev IsAt : ℕ → Referent → Type 0
IsAt number (found.Item item kind dims) = number ≡ item
IsAt number found.Unknown = Unit {0}
IsAt number found.Ambiguous = Unit {0}

pub own-word : (program : Program) (items : List WholeItem) (word : List ℕ) (of : List (List ℕ)) (number : ℕ) (kind : ItemKind) (dims : ℕ) → AreNew program items → look (known_by program) word of ≡ found.Item number kind dims → FoundHere program items word number
own-word program items word of number kind dims new e = by (position (fits word of) names) refl e
  where
    names : List Name
    names = (known_by program).items

    by : (o : Option ℕ) → position (fits word of) names ≡ o → found_from names word of o ≡ found.Item number kind dims → FoundHere program items word number
    by None p e = absurd cc
    by (Some i) p e = go (list_any (fits word of) (drop (i + 1) names)) (slice_get names i) refl e
      where
        go : (b : Bool) (o : Option Name) → slice_get names i ≡ o → (if b then found.Ambiguous else found_at i o) ≡ found.Item number kind dims → FoundHere program items word number
        go true o is e = absurd cc
        go false None is e = absurd cc
        go false (Some name) is e = subst (FoundHere program items word) (subst (IsAt i) e refl) (found-here program items word of i name new p is)
