-- The choosers that are written: GO TO DEPENDING becomes EVALUATE beside the numbers of its names,
-- and phrases are there as their arms are.
use Rattle.std.specs.Prelude.{ℕ, ◌≡◌, ◌^◌, ◌<◌, ◌≤◌, Bool, List, length, map, Option, Ok, Err, is_some, IsTrue, ◌⊎◌}
use Rattle.cob_tree.specs.declared.ending.Abend.{Abend}
use Rattle.cob_tree.specs.declared.number.Number.{Number}
use Rattle.cob_tree.specs.declared.choice.Subject.TheVariants as subjects
use Rattle.cob_tree.specs.declared.place.Place.{Place}
use Rattle.cob_tree.specs.declared.place.Operand.{roll-Operand}
use Rattle.cob_tree.specs.declared.place.Expr.{Expr}
use Rattle.cob_tree.specs.declared.place.Expr.TheOpen.{Operand-F}
use Rattle.cob_store.specs.declared.area.Area.{Area}
use Rattle.cob_store.specs.declared.area.Form.TheVariants as forms
use Rattle.cob_store.specs.declared.area.Storage.{Storage}
use Rattle.cob_store.specs.declared.spot.Spot.{Spot}
use Rattle.cob_store.specs.Store.{Roots}
use Rattle.cob_store.specs.Place.{memory_of, reached}
use Rattle.control_flow_theory.specs.language.Language.{Chooser, Evaluate, Arith, Depending}
use Rattle.control_flow_theory.specs.language.Language as language
use Rattle.meanings.specs.statements.Filing.{Declared, status_place}
use Rattle.cobol_theory.specs.cell_items.Cell.{operand_expr}
use Rattle.cobol_theory.specs.cell_items.Laws.{number_tests}
use Rattle.cobol_theory.specs.cell_serving.Naming.{numbers_from, first_stands, last_stands}
use Rattle.cobol_theory.specs.cell_serving.Laws.{AreLiterals, ChoosesAlike}

-- a place as an expression
abbrev pub place_expr : Place → Expr
place_expr place = operand_expr (roll-Operand (Operand-F.Place place))

-- WHEN OTHER is there where the last arm is, and AT END where the first is
abbrev pub written_chooser : (literal : ℕ → Number) → Chooser → List Bool → Chooser
written_chooser literal (Evaluate subject tests has_other) arms =
    Evaluate subject tests (last_stands arms)
written_chooser literal (language.Read file into has_end) arms =
    language.Read file into (first_stands arms)
written_chooser literal (Arith calc into) arms = Arith calc into
written_chooser literal (Depending place names) arms =
    Evaluate (subjects.Value (place_expr place)) (map number_tests (numbers_from literal 1 names))
    (last_stands arms)

-- the place is a number item without decimal places, or can't be reached, whatever is stored
abbrev pub IsWholeItem : List Area → Place → Type 0
IsWholeItem areas place =
    (store : Roots) →
    ((abend : Abend) × (reached place (memory_of areas store) ≡ Err abend))
    ⊎ ((spot : Spot) × (signed : Bool) × (whole : ℕ) × (storage : Storage)
    × (reached place (memory_of areas store)
    ≡ Ok (record { spot = spot; form = forms.Number signed whole 0 storage })))

-- the item of GO TO DEPENDING is such an item, and there is a name and no more than 18 digits
-- count; an AT END comes or goes only where a status item takes care of the end of the file as well
abbrev pub Suits : Declared → Chooser → List Bool → Type 0
Suits declared (Depending place names) arms =
    IsWholeItem declared.areas.items place × (1 ≤ names) × (names < 10 ^ 18)
Suits declared (language.Read file into has_end) arms =
    (first_stands arms ≡ has_end) ⊎ IsTrue (is_some (status_place declared file))
Suits declared (Evaluate subject tests has_other) arms = Unit {0}
Suits declared (Arith calc into) arms = Unit {0}

-- a chooser that suits its arms, as it is written, takes the same arm
abbrev pub WrittenChoosersChooseAlike : Type 0
WrittenChoosersChooseAlike =
    (declared : Declared) (literal : ℕ → Number) (chooser : Chooser) (arms : List Bool) →
    AreLiterals literal → Suits declared chooser arms →
    ChoosesAlike declared chooser (written_chooser literal chooser arms) (length arms)

-- a READ suits its arms where, as it is written, it takes the same arms: no less is enough
abbrev pub AlikeReadsSuit : Type 0
AlikeReadsSuit =
    (declared : Declared) (literal : ℕ → Number) (file : ℕ) (into : Option Place) (has_end : Bool)
    (arms : List Bool) →
    let chooser = language.Read file into has_end in
    ChoosesAlike declared chooser (written_chooser literal chooser arms) (length arms) →
    Suits declared chooser arms
