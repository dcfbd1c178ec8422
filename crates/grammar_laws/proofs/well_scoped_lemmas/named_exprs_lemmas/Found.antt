-- An item or a file that a name stands for is declared.
use Rattle.std.proofs.Common.{◌≡◌, ℕ, zero, suc, ◌+◌, ◌≤◌, ◌<◌, Bool, true, false, if◌then◌else◌, List, [], ◌∷◌, length, Option, Some, None, refl, arith}
use Rattle.std.specs.Prelude.{drop, position, slice_get}
use Rattle.std.specs.List.{list_any}
use Rattle.std.proofs.lemmas.Bool.{lt-ltb}
use Rattle.parser_combinators.specs.declared.note.Position.{Position}
use Rattle.symbol_tables.specs.declared.data_names.name.Referent.{Referent}
use Rattle.symbol_tables.specs.declared.data_names.name.Referent.TheVariants as found
use Rattle.symbol_tables.specs.declared.data_names.name.Name.{Name}
use Rattle.symbol_tables.specs.data_names.Names.{Names}
use Rattle.symbol_tables.specs.data_names.Look.{fits, found_at, found_from, look}
use Rattle.cobol_grammar.specs.expr_forms.Fault.{item_of, found_fault}
use Rattle.program_facts.specs.well_scoped.Part.{Counts, item_named}
use Rattle.grammar_laws.specs.well_scoped.named_exprs.Sides.{AreDeclared}

-- what stands in a list stands below its length
pub get-below : {A : Type 0} (list : List A) (i : ℕ) (x : A) → slice_get list i ≡ Some x → i < length list
get-below [] i x e = absurd cc
get-below (y ∷ list) zero x e = omega arith
get-below (y ∷ list) (suc i) x e = let h = get-below list i x e in omega (arith, h)

-- an item, where there is one, is below
abbrev IsBelow : ℕ → Referent → Type 0
IsBelow count (found.Item item kind dims) = item < count
IsBelow count found.Unknown = Unit {0}
IsBelow count found.Ambiguous = Unit {0}

found_at-below : (names : List Name) (item : ℕ) (name : Option Name) → slice_get names item ≡ name → IsBelow (length names) (found_at item name)
found_at-below names item None e = tt
found_at-below names item (Some name) e = get-below names item name e

from-below : (names : List Name) (word : List ℕ) (of : List (List ℕ)) (place : Option ℕ) → IsBelow (length names) (found_from names word of place)
from-below names word of None = tt
from-below names word of (Some item) = go (list_any (fits word of) (drop (item + 1) names))
  where
    go : (b : Bool) → IsBelow (length names) (if b then found.Ambiguous else found_at item (slice_get names item))
    go true = tt
    go false = found_at-below names item (slice_get names item) refl

-- where no fault of a reference is noted, its item is there
abbrev pub Fine : Counts → Referent → Type 0
Fine counts found = (subs : ℕ) (windowed : Bool) (position : Position) → found_fault found subs windowed position ≡ None → item_named counts (item_of found) ≡ true

fine-by : (counts : Counts) (count : ℕ) → count ≤ counts.items → (found : Referent) → IsBelow count found →
    (subs : ℕ) (windowed : Bool) (position : Position) → found_fault found subs windowed position ≡ None → item_named counts (item_of found) ≡ true
unfolding found_fault
fine-by counts count le (found.Item item kind dims) below subs windowed position n = lt-ltb item counts.items (omega (arith, le, below))
fine-by counts count le found.Unknown below subs windowed position n = absurd cc
fine-by counts count le found.Ambiguous below subs windowed position n = absurd cc

pub look-fine : (counts : Counts) (names : Names) → AreDeclared names counts → (word : List ℕ) (of : List (List ℕ)) →
    (subs : ℕ) (windowed : Bool) (position : Position) → found_fault (look names word of) subs windowed position ≡ None → item_named counts (item_of (look names word of)) ≡ true
look-fine counts names declared word of = fine-by counts (length names.items) declared.items (look names word of) (from-below names.items word of (position (fits word of) names.items))
