-- What ADD, SUBTRACT, MULTIPLY, DIVIDE and COMPUTE do.
use Rattle.std.specs.Prelude.{ℕ, ◌+◌, Bool, true, false, ◌&&◌, ◌||◌, if◌then◌else◌, nat_le, List, [], ◌∷◌, Option, Some, None, option_and_then, Ok}
use Rattle.cob_num.specs.declared.number.Dec.{Dec}
use Rattle.cob_num.specs.declared.storing.Stored.{Stored}
use Rattle.cob_num.specs.Exact.{decimal, sum_of, difference_of, product_of, quotient_of}
use Rattle.cob_tree.specs.declared.calc.Calc.{Calc}
use Rattle.cob_tree.specs.declared.calc.Calc.TheVariants as calcs
use Rattle.cob_tree.specs.declared.place.Operand.{Operand}
use Rattle.cob_tree.specs.declared.place.Place.{out-Place}
use Rattle.cob_tree.specs.declared.calc.Target.{Target}
use Rattle.cob_store.specs.declared.area.Area.{Area}
use Rattle.cob_store.specs.declared.area.Form.{Form}
use Rattle.cob_store.specs.declared.area.Form.TheVariants as forms
use Rattle.cob_store.specs.declared.area.Storage.{Storage}
use Rattle.cob_store.specs.declared.spot.Spot.{Spot}
use Rattle.edit_fields.specs.declared.field.Digits.{Digits}
use Rattle.edit_fields.specs.Field.{digits_of}
use Rattle.cob_store.specs.Answer.{Answer, and_then}
use Rattle.cob_store.specs.Area.{mask_at}
use Rattle.cob_store.specs.Number.{number_bytes}
use Rattle.cob_store.specs.Store.{Roots, put_at, shown_at}
use Rattle.cob_store.specs.Place.{Memory, memory_of, Value, kept, number_at, operand_value, expr_value, reached}
use Rattle.meanings.specs.statements.Outcome.{Outcome, done, go_on, then_do}

-- what is worked out before the receivers: a value that each is given, or one that each is changed
-- by
pub data Basis : Type 0 where
  Given : Value → Basis
  Quotient : (dividend divisor : Value) → Basis
  Plus : Value → Basis
  Less : Value → Basis
  Times : Value → Basis
  Over : Value → Basis

-- what two values come to, where there are both
abbrev pub both : (Dec → Dec → Value) → Value → Value → Value
both does (Some a) (Some b) = does a b
both does _ _ = None

-- ---- operands

-- the sum of this number and the operands, from the left; every operand is read
abbrev pub sum_on : Memory → Value → List Operand → Answer Value
sum_on memory sum [] = Ok sum
sum_on memory sum (operand ∷ operands) =
    and_then (operand_value operand memory) (λ value.
    sum_on memory (both sum_of sum value) operands)

-- the sum of these operands; none where there are none or one has no value
abbrev pub summed : Memory → List Operand → Answer Value
summed memory [] = Ok None
summed memory (operand ∷ operands) =
    and_then (operand_value operand memory) (λ value. sum_on memory value operands)

-- the basis that the sum of these operands is
abbrev pub sum_read : Memory → List Operand → (Value → Basis) → Answer Basis
sum_read memory operands basis = and_then (summed memory operands) (λ sum. Ok (basis sum))

-- the basis that the value of one operand is
abbrev pub one_read : Memory → Operand → (Value → Basis) → Answer Basis
one_read memory operand basis = and_then (operand_value operand memory) (λ value. Ok (basis value))

-- the basis that the values of two operands are
abbrev pub two_read : Memory → Operand → Operand → (Value → Value → Basis) → Answer Basis
two_read memory first second basis =
    and_then (operand_value first memory) (λ a. and_then (operand_value second memory) (λ b.
    Ok (basis a b)))

-- what arithmetic works out before the receivers
abbrev pub basis_of : Memory → Calc → Answer Basis
basis_of memory (calcs.Add operands) = sum_read memory operands Plus
basis_of memory (calcs.AddGiving operands) = sum_read memory operands Given
basis_of memory (calcs.Subtract operands) = sum_read memory operands Less
basis_of memory (calcs.SubtractGiving operands from) =
    and_then (summed memory operands) (λ sum. and_then (operand_value from memory) (λ value.
    Ok (Given (both difference_of value sum))))
basis_of memory (calcs.Multiply by) = one_read memory by Times
basis_of memory (calcs.MultiplyGiving a b) =
    two_read memory a b (λ x y. Given (both product_of x y))
basis_of memory (calcs.Divide by) = one_read memory by Over
basis_of memory (calcs.DivideGiving by a) = two_read memory by a (λ x y. Quotient y x)
basis_of memory (calcs.Compute expr) = and_then (expr_value expr memory) (λ value. Ok (Given value))

-- ---- receivers

-- a / b, to one decimal place more than the receiver has
abbrev pub divided : ℕ → Dec → Dec → Value
divided part a b = if nat_le part 18 then quotient_of a b (part + 1) else None

-- the value for a receiver with so many decimal places, which is worth what the answer says
abbrev pub value_for : ℕ → Answer Value → Basis → Answer Value
value_for part now (Given value) = Ok value
value_for part now (Quotient dividend divisor) = Ok (both (divided part) dividend divisor)
value_for part now (Plus value) = and_then now (λ old. Ok (both sum_of old value))
value_for part now (Less value) = and_then now (λ old. Ok (both difference_of old value))
value_for part now (Times value) = and_then now (λ old. Ok (both product_of old value))
value_for part now (Over value) = and_then now (λ old. Ok (both (divided part) old value))

-- the store after a receiver took its value, and whether it had a size error; with one under a SIZE
-- phrase it stays as it was
abbrev pub stored_in : Bool → Roots → Spot → Bool → Storage → Stored → Outcome Bool
stored_in guarded store spot signed storage stored =
    if stored.size_error && guarded
    then done store true
    else done (put_at store spot (number_bytes signed storage spot.length stored.value))
    stored.size_error

-- the receiver takes the number; without one that it can hold, it has a size error
abbrev pub given_by : Bool → Roots → Spot → Bool → Storage → Option Stored → Outcome Bool
given_by guarded store spot signed storage None = done store true
given_by guarded store spot signed storage (Some stored) =
    stored_in guarded store spot signed storage stored

-- the store after an edited receiver took its value, which counts units of the mask's last decimal
-- place; with a size error under a SIZE phrase it stays as it was
abbrev pub edited_in : Bool → Roots → Spot → List ℕ → Stored → Outcome Bool
edited_in guarded store spot mask stored =
    if stored.size_error && guarded
    then done store true
    else done (shown_at store spot mask (decimal stored.value (digits_of mask).part))
    stored.size_error

-- the edited receiver takes the number; without one that it can hold, it has a size error
abbrev pub edited_by : Bool → Roots → Spot → List ℕ → Option Stored → Outcome Bool
edited_by guarded store spot mask None = done store true
edited_by guarded store spot mask (Some stored) = edited_in guarded store spot mask stored

-- what an item with so many digits keeps of the value
abbrev pub kept_in : Digits → Bool → Value → Option Stored
kept_in digits rounded value = option_and_then (kept digits.whole digits.part rounded) value

-- the edited receiver takes the value as a number of its mask's digits does; each has a mask
abbrev pub given_edited : Option (List ℕ) → Bool → Roots → Spot → Bool → Value → Outcome Bool
given_edited None guarded store spot rounded value = done store true
given_edited (Some mask) guarded store spot rounded value =
    edited_by guarded store spot mask (kept_in (digits_of mask) rounded value)

-- the receiver of this mask and form takes the value, rounded or cut; whether it had a size error.
-- Only a number item and an edited one can take it
abbrev pub given : Option (List ℕ) → Bool → Roots → Spot → Form → Bool → Value → Outcome Bool
given mask guarded store spot (forms.Number signed whole part storage) rounded value =
    given_by guarded store spot signed storage (option_and_then (kept whole part rounded) value)
given mask guarded store spot forms.Edited rounded value =
    given_edited mask guarded store spot rounded value
given mask guarded store spot forms.Group rounded value = done store true
given mask guarded store spot forms.Text rounded value = done store true

-- how many decimal places a mask has
abbrev pub mask_part : Option (List ℕ) → ℕ
mask_part None = 0
mask_part (Some mask) = (digits_of mask).part

-- how many decimal places an item of this mask and form has
abbrev pub part_of : Option (List ℕ) → Form → ℕ
part_of mask (forms.Number signed whole part storage) = part
part_of mask forms.Edited = mask_part mask
part_of mask forms.Group = 0
part_of mask forms.Text = 0

-- the mask of the item that a receiver names
abbrev pub target_mask : List Area → Target → Option (List ℕ)
target_mask areas target = mask_at areas (out-Place target.place).item

-- one receiver after it is found, worked out for, and stored into; whether it had a size error
abbrev pub targeted : List Area → Bool → Basis → Roots → Target → Outcome Bool
targeted areas guarded basis store target =
    go_on store (reached target.place (memory_of areas store)) (λ now place.
    go_on now (value_for (part_of (target_mask areas target) place.form)
    (number_at now place.spot place.form) basis) (λ later value.
    given (target_mask areas target) guarded later place.spot place.form target.rounded value))

-- the receivers in order; whether one had a size error
abbrev pub all_targeted : List Area → Bool → Basis → Bool → Roots → List Target → Outcome Bool
all_targeted areas guarded basis failed store [] = done store failed
all_targeted areas guarded basis failed store (target ∷ targets) =
    then_do (targeted areas guarded basis store target) (λ now error.
    all_targeted areas guarded basis (failed || error) now targets)

-- guarded says that there is a SIZE phrase
abbrev pub calculated : List Area → Calc → Bool → List Target → Roots → Outcome Bool
calculated areas calc guarded targets store =
    go_on store (basis_of (memory_of areas store) calc) (λ now basis.
    all_targeted areas guarded basis false now targets)
