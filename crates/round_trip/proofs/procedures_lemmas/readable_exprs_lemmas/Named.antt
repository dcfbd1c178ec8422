-- A name that stands for an item is the item's own.
use Rattle.std.proofs.Common.{◌≡◌, ℕ, zero, suc, ◌+◌, Bool, true, false, List, [], ◌∷◌, Option, Some, None, refl, ap, sym, ◌∙◌, subst}
use Rattle.std.specs.Prelude.{codes, drop, get_or, position, slice_get, if◌then◌else◌}
use Rattle.std.specs.List.{list_any}
use Rattle.std.proofs.lemmas.Bool.{and_parts, both_ways}
use Rattle.std.proofs.lemmas.List.Quantifiers.{position-Some}
use Rattle.std.proofs.lemmas.Slice.Eq.{bytes_eq-Decides}
use Rattle.cob_tree.specs.declared.entry.Entry.{Entry}
use Rattle.cob_tree.specs.declared.file.FileEntry.{FileEntry}
use Rattle.cob_tree.specs.declared.program.Program.{Program}
use Rattle.unparser.specs.Place.{entry_name, item_name}
use Rattle.symbol_tables.specs.declared.data_names.name.Referent.{Referent}
use Rattle.symbol_tables.specs.declared.data_names.name.Referent.TheVariants as found
use Rattle.symbol_tables.specs.declared.data_names.name.ItemKind.{ItemKind}
use Rattle.symbol_tables.specs.declared.data_names.name.Name.{Name}
use Rattle.symbol_tables.specs.data_names.Names.{Names, names_from, names_of}
use Rattle.symbol_tables.specs.data_names.Look.{are_within, fits, found_at, found_from, is_called, look}

got : {A : Type 0} (list : List A) (i : ℕ) (x d : A) → slice_get list i ≡ Some x → get_or list i d ≡ x
got [] i x d e = absurd cc
got (y ∷ list) zero x d e = cc
got (y ∷ list) (suc i) x d e = got list i x d e

-- ---- names as they are printed

abbrev printed : Option (List ℕ) → List ℕ
printed None = codes "FILLER"
printed (Some word) = word

entry-word : (entry : Entry) → entry_name (Some entry) ≡ printed entry.name
entry-word entry = by entry.name
  where
    by : (name : Option (List ℕ)) → (elim name [ None ↦ codes "FILLER" | Some word ↦ word ]) ≡ printed name
    by None = refl
    by (Some word) = refl

word-at : (files : List FileEntry) (before entries : List Entry) (i : ℕ) (name : Name) → slice_get (names_from files before entries) i ≡ Some name → entry_name (slice_get entries i) ≡ printed name.word
unfolding names_from
word-at files before [] i name e = absurd cc
word-at files before (entry ∷ behind) zero name e = entry-word entry ∙ ap (λ n. printed n.word) (some-is e)
  where
    some-is : {A : Type 0} {x y : A} → Some x ≡ Some y → x ≡ y
    some-is e = cc
word-at files before (entry ∷ behind) (suc i) name e = word-at files (entry ∷ before) behind i name e

called : (word : List ℕ) (name : Option (List ℕ)) → is_called word name ≡ true → printed name ≡ word
called word None e = absurd (both_ways false refl e)
called word (Some other) e = sym ((bytes_eq-Decides word other).0 e)

-- ---- what was found

abbrev Is : ℕ → List Name → Referent → Type 0
Is i names (found.Item item kind dims) = (i ≡ item) × ((name : Name) × (slice_get names i ≡ Some name))
Is i names found.Unknown = Unit {0}
Is i names found.Ambiguous = Unit {0}

at-is : (names : List Name) (i : ℕ) (name : Option Name) → slice_get names i ≡ name → Is i names (found_at i name)
at-is names i None e = tt
at-is names i (Some name) e = (refl, (name, e))

from-is : (names : List Name) (word : List ℕ) (of : List (List ℕ)) (i : ℕ) → Is i names (found_from names word of (Some i))
from-is names word of i = by (list_any (fits word of) (drop (i + 1) names))
  where
    by : (b : Bool) → Is i names (if b then found.Ambiguous else found_at i (slice_get names i))
    by true = tt
    by false = at-is names i (slice_get names i) refl

found-word : (names : List Name) (word : List ℕ) (of : List (List ℕ)) (item : ℕ) (kind : ItemKind) (dims : ℕ) (place : Option ℕ) → position (fits word of) names ≡ place →
    found_from names word of place ≡ found.Item item kind dims → (name : Name) × (slice_get names item ≡ Some name) × (is_called word name.word ≡ true)
found-word names word of item kind dims None p e = absurd cc
found-word names word of item kind dims (Some i) p e =
    let is = subst (λ f. Is i names f) e (from-is names word of i) in
    let name = is.1.0 in
    let there = subst (λ k. slice_get names k ≡ Some name) is.0 is.1.1 in
    let fit = subst (λ n. fits word of n ≡ true) (got names i name name is.1.1) (position-Some (fits word of) names i name p).1 in
    (name, there, (and_parts (is_called word name.word) (are_within of name.above) fit).0)

-- each name that stands for an item is the item's
abbrev pub Finds : Names → Program → Type 0
Finds names program = (word : List ℕ) (of : List (List ℕ)) (item : ℕ) (kind : ItemKind) (dims : ℕ) →
    look names word of ≡ found.Item item kind dims → item_name program item ≡ word

pub finds : (program : Program) → Finds (names_of program.files program.entries) program
finds program word of item kind dims e =
    let names = names_from program.files [] program.entries in
    let is = found-word names word of item kind dims (position (fits word of) names) refl e in
    word-at program.files [] program.entries item is.0 is.1 ∙ called word is.0.word is.2

pub finds_by : (names : Names) (program : Program) → names ≡ names_of program.files program.entries → Finds names program
finds_by names program e = subst (λ n. Finds n program) (sym e) (finds program)
