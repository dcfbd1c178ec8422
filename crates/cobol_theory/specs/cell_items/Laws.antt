-- What is done with an added item.
use Rattle.std.specs.Prelude.{ℕ, suc, ◌≡◌, ◌^◌, ◌<◌, ◌≤◌, ◌%◌, nat_le, Bool, true, false, ℤ, pos, ◌-ℤ◌, unsigned_abs, List, [], ◌∷◌, length, map, Ok, Err, Some, None, slice_set}
use Rattle.std.specs.Ordering.{int_cmp}
use Rattle.cob_num.specs.declared.number.Dec.{Dec}
use Rattle.cob_num.specs.Storing.{with_sign}
use Rattle.cob_tree.specs.declared.calc.Calc.TheVariants as calcs
use Rattle.cob_tree.specs.declared.calc.Target.{Target}
use Rattle.cob_tree.specs.declared.number.Number.{Number}
use Rattle.cob_tree.specs.declared.ending.Abend.{Abend}
use Rattle.cob_tree.specs.declared.entry.Entry.{Entry}
use Rattle.cob_tree.specs.declared.place.Operand.{Operand}
use Rattle.cob_tree.specs.declared.choice.Subject.TheVariants as subjects
use Rattle.cob_tree.specs.declared.choice.Test.{Test}
use Rattle.cob_tree.specs.declared.choice.Test.TheVariants as tests
use Rattle.cob_tree.specs.declared.cond.Rel.{Rel}
use Rattle.cob_tree.specs.declared.cond.Cond.{Cond, roll-Cond}
use Rattle.cob_tree.specs.declared.cond.Cond.TheOpen.{Cond-F}
use Rattle.cob_store.specs.declared.area.Area.{Area}
use Rattle.cob_store.specs.Store.{Roots}
use Rattle.cob_store.specs.Place.{literal_value, memory_of, operand_value}
use Rattle.meanings.specs.statements.Outcome.{done}
use Rattle.meanings.specs.statements.Arithmetic.{calculated}
use Rattle.meanings.specs.statements.Moving.{moved}
use Rattle.meanings.specs.statements.Choice.{evaluated}
use Rattle.meanings.specs.statements.Condition.{rel_holds, holds}
use Rattle.cobol_theory.specs.stored_numbers.Laws.{Fits}
use Rattle.cobol_theory.specs.cell_items.Cell.{cell_place, cell_operand, number_operand, operand_expr, IsCell, cell_bytes, Holds}

-- a literal that is worth a whole number of so many digits at most
pub record IsWhole (number : Number) (worth : Dec) (digits : ℕ) : Type 0 where
  -- the literal has a value
  pub value : literal_value number ≡ Some worth
  -- which has no decimal places
  pub whole : worth.scale ≡ 0
  -- and so many digits at most
  pub fits : unsigned_abs worth.value < 10 ^ digits

-- MOVE of such a literal puts its value into the item's root, and changes no other
abbrev pub MovedNumbersAreHeld : Type 0
MovedNumbersAreHeld =
    (areas : List Area) (item root digits : ℕ) (signed : Bool) (store : Roots) (value : ℤ)
    (number : Number) (worth : Dec) →
    IsCell areas item root digits signed → Holds store root digits signed value →
    IsWhole number worth digits →
    moved areas (number_operand number) (cell_place item ∷ []) store
    ≡ done (slice_set store root (cell_bytes digits signed worth.value)) tt

-- MOVE of any operand puts its value into the item's root, where that is a whole number for which
-- there is room; it ends the run where reading the operand does
abbrev pub MovedValuesAreHeld : Type 0
MovedValuesAreHeld =
    (areas : List Area) (item root digits : ℕ) (signed : Bool) (store : Roots) (value : ℤ)
    (operand : Operand) → IsCell areas item root digits signed →
    ((worth : Dec) → Holds store root digits signed value →
    operand_value operand (memory_of areas store) ≡ Ok (Some worth) → worth.scale ≡ 0 →
    unsigned_abs worth.value < 10 ^ digits →
    moved areas operand (cell_place item ∷ []) store
    ≡ done (slice_set store root (cell_bytes digits signed worth.value)) tt)
    × ((abend : Abend) → operand_value operand (memory_of areas store) ≡ Err abend →
    moved areas operand (cell_place item ∷ []) store
    ≡ record { store = store; answer = Err abend })

-- the item beside a literal
abbrev pub cell_relation : ℕ → Rel → Number → Cond
cell_relation item rel number = roll-Cond (Cond-F.Relation (operand_expr (cell_operand item)) rel
    (operand_expr (number_operand number)))

-- it is compared by the number that it holds
abbrev pub HeldNumbersAreCompared : Type 0
HeldNumbersAreCompared =
    (areas : List Area) (item root digits : ℕ) (signed : Bool) (store : Roots) (value : ℤ)
    (number : Number) (worth : Dec) (rel : Rel) (entries : List Entry) →
    IsCell areas item root digits signed → Fits signed digits value →
    Holds store root digits signed value → IsWhole number worth digits →
    holds (cell_relation item rel number) entries (memory_of areas store)
    ≡ Ok (rel_holds rel (int_cmp value worth.value))

-- the item as a receiver
abbrev pub target_of : ℕ → Target
target_of item = record { place = cell_place item; rounded = false }

-- what an item of so many digits keeps of a number from which another was taken: its low digits
abbrev pub less_in : ℕ → ℤ → ℤ → ℤ
less_in digits value taken =
    with_sign (value -ℤ taken) (unsigned_abs (value -ℤ taken) % 10 ^ digits)

-- the value has higher digits than those that are taken
abbrev pub goes_past : ℕ → ℤ → ℤ → Bool
goes_past digits value taken = nat_le (10 ^ digits) (unsigned_abs (value -ℤ taken))

-- SUBTRACT of such a literal, without a SIZE phrase, from an item with a sign
abbrev pub HeldNumbersAreLowered : Type 0
HeldNumbersAreLowered =
    (areas : List Area) (item root digits : ℕ) (store : Roots) (value : ℤ)
    (number : Number) (worth : Dec) →
    IsCell areas item root digits true → Fits true digits value →
    Holds store root digits true value → IsWhole number worth digits →
    calculated areas (calcs.Subtract (number_operand number ∷ [])) false (target_of item ∷ []) store
    ≡ done (slice_set store root (cell_bytes digits true (less_in digits value worth.value)))
    (goes_past digits value worth.value)

-- a literal that is worth n
pub record IsNumbered (digits n : ℕ) (number : Number) : Type 0 where
  -- what the literal is worth
  pub worth : Dec
  -- it is a whole number
  pub is : IsWhole number worth digits
  -- it is n
  pub value : worth.value ≡ pos n

-- literals that are worth n, n + 1 and so on
abbrev pub AreNumbered : (digits n : ℕ) → List Number → Type 0
AreNumbered digits n [] = Unit {0}
AreNumbered digits n (number ∷ numbers) =
    IsNumbered digits n number × AreNumbered digits (suc n) numbers

-- the test of a WHEN with this literal alone
abbrev pub is_number : Number → Test
is_number number =
    tests.Value false (operand_expr (number_operand number)) None

-- a WHEN with this literal alone
abbrev pub number_tests : Number → List Test
number_tests number = is_number number ∷ []

-- EVALUATE of the item with a WHEN for each of the numbers 1, 2 and so on takes that of its number,
-- and the arm after the last where it holds a larger one
abbrev pub HeldNumbersChoose : Type 0
HeldNumbersChoose =
    (areas : List Area) (item root digits : ℕ) (signed : Bool) (store : Roots) (held : ℕ)
    (numbers : List Number) (entries : List Entry) →
    IsCell areas item root digits signed → Fits signed digits (pos held) →
    Holds store root digits signed (pos held) → AreNumbered digits 1 numbers →
    ((1 ≤ held) → (held ≤ length numbers) →
    evaluated entries (memory_of areas store) (subjects.Value (operand_expr (cell_operand item)))
    (map number_tests numbers) ≡ Ok held)
    × ((length numbers < held) →
    evaluated entries (memory_of areas store) (subjects.Value (operand_expr (cell_operand item)))
    (map number_tests numbers) ≡ Ok (suc (length numbers)))
