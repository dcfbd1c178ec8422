-- The words of a program, each once.
use Rattle.std.proofs.Common.{◌≡◌, ℕ, ◌+◌, ◌<◌, ◌≤◌, ◌^◌, Bool, true, false, not, ◌||◌, if◌then◌else◌, List, [], ◌∷◌, ◌++◌, length, map, Option, Some, None, refl, sym, subst, arith}
use Rattle.std.specs.List.{list_any}
use Rattle.std.specs.Option.{option_to_list}
use Rattle.std.specs.Str.{bytes_eq}
use Rattle.std.proofs.lemmas.Bool.{and_from, not_from_false, or_left, or_right}
use Rattle.std.proofs.lemmas.List.{length_push}
use Rattle.std.proofs.lemmas.Slice.Eq.{bytes_eq-Decides}
use Rattle.cob_words.specs.Table.{with_word}
use Rattle.cob_tree.specs.declared.entry.Entry.{Entry}
use Rattle.cob_tree.specs.declared.program.Program.{Program}
use Rattle.control_flow_theory.specs.language.All.{all}
use Rattle.program_facts.specs.well_scoped.Part.{if_any}
use Rattle.out_names.specs.Words.{file_names, entry_names, paragraph_names, program_words, with_words, table_of}
use Rattle.round_trip.specs.declarations.added_entries.Items.{WholeItem, is_one_of, is_other}
use Rattle.round_trip.specs.declarations.fresh_items.Fresh.{NextOf, fresh_items}
use Rattle.round_trip.specs.declarations.fresh_items.Laws.{FreshItemsMayBeAdded}
use Rattle.round_trip.proofs.declarations_lemmas.fresh_items_lemmas.Numbers.{behind-first}
use Rattle.round_trip.proofs.declarations_lemmas.fresh_items_lemmas.Names.{AreBehind, are-sized, are-titled, are-short, are-different, are-new}
use Rattle.round_trip.specs.declarations.fresh_items.Fresh.{stem_of}

-- ---- lists

pub any-left : {A : Type 0} (test : A → Bool) (list more : List A) → list_any test list ≡ true → list_any test (list ++ more) ≡ true
any-left test [] more h = absurd cc
any-left {A = A} test (x ∷ list) more h = go (test x) refl (any-left test list more) h
  where
    go : (b : Bool) → test x ≡ b → (list_any test list ≡ true → list_any test (list ++ more) ≡ true) → (b || list_any test list) ≡ true → (test x || list_any test (list ++ more)) ≡ true
    go true is later h = or_left (test x) (list_any test (list ++ more)) is
    go false is later h = or_right (test x) (list_any test (list ++ more)) (later h)

pub any-right : {A : Type 0} (test : A → Bool) (list more : List A) → list_any test more ≡ true → list_any test (list ++ more) ≡ true
any-right test [] more h = h
any-right test (x ∷ list) more h = or_right (test x) (list_any test (list ++ more)) (any-right test list more h)

pub same-word : (word : List ℕ) → bytes_eq word word ≡ true
same-word word = (bytes_eq-Decides word word).1 refl

-- ---- a table has the words that it is made of

stays : (table : List (List ℕ)) (word other : List ℕ) → list_any (bytes_eq other) table ≡ true → list_any (bytes_eq other) (with_word table word) ≡ true
stays table word other h = go (list_any (bytes_eq word) table)
  where
    go : (b : Bool) → list_any (bytes_eq other) (if b then table else table ++ word ∷ []) ≡ true
    go true = h
    go false = any-left (bytes_eq other) table (word ∷ []) h

comes : (table : List (List ℕ)) (word : List ℕ) → list_any (bytes_eq word) (with_word table word) ≡ true
comes table word = go (list_any (bytes_eq word) table) refl
  where
    go : (b : Bool) → list_any (bytes_eq word) table ≡ b → list_any (bytes_eq word) (if b then table else table ++ word ∷ []) ≡ true
    go true is = is
    go false is = any-right (bytes_eq word) table (word ∷ []) (or_left (bytes_eq word word) false (same-word word))

all-stay : (table words : List (List ℕ)) (word : List ℕ) → list_any (bytes_eq word) table ≡ true → list_any (bytes_eq word) (with_words table words) ≡ true
all-stay table [] word h = h
all-stay table (first ∷ words) word h = all-stay (with_word table first) words word (stays table first word h)

pub all-come : (table words : List (List ℕ)) (word : List ℕ) → list_any (bytes_eq word) words ≡ true → list_any (bytes_eq word) (with_words table words) ≡ true
all-come table [] word h = absurd cc
all-come table (first ∷ words) word h = go (bytes_eq word first) refl (all-come (with_word table first) words word) h
  where
    go : (b : Bool) → bytes_eq word first ≡ b → (list_any (bytes_eq word) words ≡ true → list_any (bytes_eq word) (with_words (with_word table first) words) ≡ true) → (b || list_any (bytes_eq word) words) ≡ true → list_any (bytes_eq word) (with_words (with_word table first) words) ≡ true
    go true is later h =
        all-stay (with_word table first) words word
        (subst (λ w. list_any (bytes_eq w) (with_word table first) ≡ true) (sym ((bytes_eq-Decides word first).0 is)) (comes table first))
    go false is later h = later h

-- and no more of them
with-word-few : (table : List (List ℕ)) (word : List ℕ) → length (with_word table word) ≤ length table + 1
with-word-few table word = go (list_any (bytes_eq word) table)
  where
    go : (b : Bool) → length (if b then table else table ++ word ∷ []) ≤ length table + 1
    go true = omega arith
    go false = let e = length_push table word in omega (arith, e)

pub with-words-few : (table words : List (List ℕ)) → length (with_words table words) ≤ length table + length words
with-words-few table [] = omega arith
with-words-few table (word ∷ words) = omega (arith, with-words-few (with_word table word) words, with-word-few table word)

-- ---- the names of entries

new-entries : (items : List WholeItem) (entries : List Entry) → ((word : List ℕ) → list_any (bytes_eq word) (entry_names entries) ≡ true → is_one_of word items ≡ false) → all (map (is_other items) entries) ≡ true
new-entries items [] h = refl
new-entries items (entry ∷ entries) h =
    and_from (is_other items entry) (all (map (is_other items) entries)) (here entry.name h)
    (new-entries items entries (λ word there. h word (any-right (bytes_eq word) (option_to_list entry.name) (entry_names entries) there)))
  where
    here : (name : Option (List ℕ)) → ((word : List ℕ) → list_any (bytes_eq word) (option_to_list name ++ entry_names entries) ≡ true → is_one_of word items ≡ false) → if_any (λ n. not (is_one_of n items)) name ≡ true
    here None h = refl
    here (Some name) h = not_from_false (is_one_of name items) (h name (or_left (bytes_eq name name) (list_any (bytes_eq name) (entry_names entries)) (same-word name)))

named-there : (program : Program) (word : List ℕ) → list_any (bytes_eq word) (entry_names program.entries) ≡ true → list_any (bytes_eq word) (program_words program) ≡ true
named-there program word h =
    or_right (bytes_eq word program.name) (list_any (bytes_eq word) (file_names program.files ++ entry_names program.entries ++ paragraph_names program.paragraphs))
    (any-left (bytes_eq word) (file_names program.files ++ entry_names program.entries) (paragraph_names program.paragraphs)
    (any-right (bytes_eq word) (file_names program.files) (entry_names program.entries) h))

pub fresh_items_may_be_added : FreshItemsMayBeAdded
fresh_items_may_be_added program kinds few = record {
  sized = are-sized words first kinds;
  titled = are-titled words first kinds;
  short = are-short words 0 first kinds fewer behind;
  different = are-different words 0 first kinds fewer behind;
  new = new-entries (fresh_items words kinds) program.entries
      (λ word there. are-new words 0 first kinds word fewer behind (all-come [] (program_words program) word (named-there program word there)));
}
  where
    words : List (List ℕ)
    words = table_of (program_words program)

    first : NextOf
    first = λ kind. 1

    fewer : length words + (0 + length kinds) < 2 ^ 58
    fewer = let e = with-words-few [] (program_words program) in omega (arith, few, e)

    behind : AreBehind words 0 first
    behind kind = behind-first words (stem_of kind)
