-- Files and records by their names.
use Rattle.std.proofs.Common.{◌≡◌, ℕ, zero, suc, ◌+◌, ◌<◌, Bool, true, false, List, [], ◌∷◌, length, map, Option, Some, None, refl, ap, sym, ◌∙◌, subst, arith}
use Rattle.std.specs.Prelude.{codes, drop, get_or, position, slice_get, if◌then◌else◌}
use Rattle.std.specs.List.{list_any}
use Rattle.std.specs.Str.{bytes_eq}
use Rattle.std.proofs.lemmas.Bool.{and_parts, both_ways}
use Rattle.std.proofs.lemmas.List.Quantifiers.{position-Some}
use Rattle.std.proofs.lemmas.Slice.Eq.{bytes_eq-Decides}
use Rattle.cob_tree.specs.declared.entry.Entry.{Entry}
use Rattle.cob_tree.specs.declared.file.FileEntry.{FileEntry}
use Rattle.cob_tree.specs.declared.place.Place.{out-roll-Place}
use Rattle.cob_tree.specs.declared.program.Program.{Program}
use Rattle.symbol_tables.specs.declared.data_names.name.Referent.{Referent}
use Rattle.symbol_tables.specs.declared.data_names.name.Referent.TheVariants as found
use Rattle.symbol_tables.specs.declared.data_names.name.ItemKind.{ItemKind}
use Rattle.symbol_tables.specs.declared.data_names.name.Name.{Name}
use Rattle.symbol_tables.specs.data_names.Look.{are_within, fits, found_at, found_from, is_called, look, look_file}
use Rattle.symbol_tables.specs.data_names.Names.{names_from}
use Rattle.cobol_grammar.specs.expr_forms.Fault.{kind_of, usage}
use Rattle.cobol_grammar.specs.expr_forms.Side.{ref_side}
use Rattle.round_trip.proofs.spelling_lemmas.expr_spelling_lemmas.Named.{references_are_found}
use Rattle.parser_combinators.specs.declared.note.Position.{Position}
use Rattle.grammar_laws.specs.form_results.Giving.{Gives}
use Rattle.grammar_laws.proofs.form_results_lemmas.Giving.{pure, note, ◌>>=◌, ◌>>◌}
use Rattle.round_trip.specs.spelling.Kept.{IsEntrySide}
use Rattle.round_trip.specs.spelling.Named.{IsNamedRecord}
use Rattle.unparser.specs.Place.{entry_name, item_name}
use Rattle.round_trip.proofs.printable_lemmas.printable_exprs_lemmas.Words.{name}
use Rattle.round_trip.specs.printable.Part.{is_printable_name}
use Rattle.round_trip.proofs.printable_lemmas.Tokens.{name-word}
use Rattle.round_trip.specs.printable.printable_tokens.Printable.{IsPrintable}
use Rattle.cobol_grammar.specs.Name as forms
use Rattle.cobol_grammar.specs.Name.{file_fault, record_fault, as_record, is_record}
use Rattle.parser_combinators.specs.words.Word.{is_data_word}
use Rattle.round_trip.specs.fitting_statements.own_fits.Own.{own_names}
use Rattle.end_to_end_laws.specs.read_programs.readable_parts.Read.{IsFitFile, IsFitRecord}

data-name : (word : List ℕ) → is_printable_name word ≡ true → is_data_word word ≡ true
data-name word h = (name-word word h).1

-- ---- files

-- the file whose name stands there
file-at : (files : List FileEntry) (n : ℕ) → n < length (map (λ (file : FileEntry). file.name) files) →
    (entry : FileEntry) × (slice_get files n ≡ Some entry) × (get_or (map (λ (file : FileEntry). file.name) files) n [] ≡ entry.name)
file-at [] n h = absurd (omega (arith, h))
file-at (file ∷ files) zero h = (file, refl, refl)
file-at (file ∷ files) (suc n) h = file-at files n (omega (arith, h))

file-found : (program : Program) (word : List ℕ) (position : Position) → is_data_word word ≡ true → (found : Option ℕ) → look_file (own_names program) word ≡ found →
    file_fault found position ≡ None → IsFitFile (own_names program) program found
file-found program word position w None e none = absurd cc
file-found program word position w (Some n) e none =
    let s = position-Some (bytes_eq word) (map (λ (file : FileEntry). file.name) program.files) n [] e in
    let at = file-at program.files n s.0 in
    let same : word ≡ at.0.name = (bytes_eq-Decides word (get_or (map (λ (file : FileEntry). file.name) program.files) n [])).0 s.1 ∙ at.2 in
    record {
      entry = at.0;
      there = at.1;
      word = subst (λ w. is_data_word w ≡ true) same w;
      found = subst (λ w. look_file (own_names program) w ≡ Some n) same e;
    }

pub file : (program : Program) → Gives IsPrintable (forms.file (own_names program)) (IsFitFile (own_names program) program)
unfolding forms.file
file program =
    name >>= (λ word. note >> pure (λ n w. file-found program word.0 word.1 (data-name word.0 w) (look_file (own_names program) word.0) refl n.1))

-- ---- the name of an item that was found

got : {A : Type 0} (list : List A) (i : ℕ) (x d : A) → slice_get list i ≡ Some x → get_or list i d ≡ x
got [] i x d e = absurd cc
got (y ∷ list) zero x d e = cc
got (y ∷ list) (suc i) x d e = got list i x d e

abbrev printed : Option (List ℕ) → List ℕ
printed None = codes "FILLER"
printed (Some word) = word

entry-word : (entry : Entry) → entry_name (Some entry) ≡ printed entry.name
entry-word entry = by entry.name
  where
    by : (name : Option (List ℕ)) → (elim name [ None ↦ codes "FILLER" | Some word ↦ word ]) ≡ printed name
    by None = refl
    by (Some word) = refl

word-at : (files : List FileEntry) (before entries : List Entry) (i : ℕ) (name : Name) → slice_get (names_from files before entries) i ≡ Some name → entry_name (slice_get entries i) ≡ printed name.word
unfolding names_from
word-at files before [] i name e = absurd cc
word-at files before (entry ∷ behind) zero name e = entry-word entry ∙ ap (λ n. printed n.word) (some-is e)
  where
    some-is : {A : Type 0} {x y : A} → Some x ≡ Some y → x ≡ y
    some-is e = cc
word-at files before (entry ∷ behind) (suc i) name e = word-at files (entry ∷ before) behind i name e

called : (word : List ℕ) (name : Option (List ℕ)) → is_called word name ≡ true → printed name ≡ word
called word None e = absurd (both_ways false refl e)
called word (Some other) e = sym ((bytes_eq-Decides word other).0 e)

abbrev Is : ℕ → List Name → Referent → Type 0
Is i names (found.Item item kind dims) = (i ≡ item) × ((name : Name) × (slice_get names i ≡ Some name))
Is i names found.Unknown = Unit {0}
Is i names found.Ambiguous = Unit {0}

at-is : (names : List Name) (i : ℕ) (name : Option Name) → slice_get names i ≡ name → Is i names (found_at i name)
at-is names i None e = tt
at-is names i (Some name) e = (refl, (name, e))

from-is : (names : List Name) (word : List ℕ) (of : List (List ℕ)) (i : ℕ) → Is i names (found_from names word of (Some i))
from-is names word of i = by (list_any (fits word of) (drop (i + 1) names))
  where
    by : (b : Bool) → Is i names (if b then found.Ambiguous else found_at i (slice_get names i))
    by true = tt
    by false = at-is names i (slice_get names i) refl

found-word : (names : List Name) (word : List ℕ) (of : List (List ℕ)) (item : ℕ) (kind : ItemKind) (dims : ℕ) (place : Option ℕ) → position (fits word of) names ≡ place →
    found_from names word of place ≡ found.Item item kind dims → (name : Name) × (slice_get names item ≡ Some name) × (is_called word name.word ≡ true)
found-word names word of item kind dims None p e = absurd cc
found-word names word of item kind dims (Some i) p e =
    let is = subst (λ f. Is i names f) e (from-is names word of i) in
    let name = is.1.0 in
    let there = subst (λ k. slice_get names k ≡ Some name) is.0 is.1.1 in
    let fit = subst (λ n. fits word of n ≡ true) (got names i name name is.1.1) (position-Some (fits word of) names i name p).1 in
    (name, there, (and_parts (is_called word name.word) (are_within of name.above) fit).0)

-- it is the word that it was found by
item-word : (program : Program) (word : List ℕ) (of : List (List ℕ)) (item : ℕ) (kind : ItemKind) (dims : ℕ) →
    look (own_names program) word of ≡ found.Item item kind dims → item_name program item ≡ word
item-word program word of item kind dims e =
    let names = names_from program.files [] program.entries in
    let is = found-word names word of item kind dims (position (fits word of) names) refl e in
    word-at program.files [] program.entries item is.0 is.1 ∙ called word is.0.word is.2

-- ---- records

record-found : (program : Program) (word : List ℕ) (position : Position) → is_data_word word ≡ true → (found : Referent) → look (own_names program) word [] ≡ found →
    record_fault program.entries found position ≡ None → IsFitRecord (own_names program) program (ref_side (as_record program.entries found) [] [] None position)
unfolding ref_side
record-found program word position w found.Unknown e none = absurd cc
record-found program word position w found.Ambiguous e none = absurd cc
record-found program word position w (found.Item item kind dims) e none = go (is_record program.entries item) refl none
  where
    same : item_name program item ≡ word
    same = item-word program word [] item kind dims e

    named : is_record program.entries item ≡ true → IsNamedRecord (own_names program) program program.entries item
    named is = record {
      word = subst (λ w. is_data_word w ≡ true) (sym same) w;
      kind = kind;
      dims = dims;
      found = references_are_found program word [] item kind dims e;
      is = is;
    }

    go : (b : Bool) → is_record program.entries item ≡ b → (if b then None else usage position) ≡ None →
        IsFitRecord (own_names program) program (ref_side (if b then found.Item item kind dims else found.Unknown) [] [] None position)
    go true is n =
        let number = ap (λ p. p.item) (out-roll-Place (record { item = item; of = []; subs = []; window = None })) in
        record {
          named = subst (λ i. IsNamedRecord (own_names program) program program.entries i) (sym number) (named is);
          kept = subst (λ i. IsEntrySide (own_names program) program i (ref_side (found.Item item kind dims) [] [] None position)) (sym number)
              (record { what = refl; kind = ap (λ f. kind_of f) (sym (references_are_found program word [] item kind dims e)) });
        }
    go false is n = absurd cc

pub entry : (program : Program) → Gives IsPrintable (forms.record_name (own_names program) program.entries) (IsFitRecord (own_names program) program)
unfolding forms.record_name
entry program =
    name >>= (λ word. note >> pure (λ n w. record-found program word.0 word.1 (data-name word.0 w) (look (own_names program) word.0 []) refl n.1))
