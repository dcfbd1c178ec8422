-- Where places are, and what operands and expressions are worth.
use Rattle.std.specs.Prelude.{ℕ, ◌+◌, ◌-◌, ◌*◌, Bool, true, false, ◌&&◌, if◌then◌else◌, ℤ, pos, neg_ℤ, nat_le, nat_lt, unsigned_abs, List, [], ◌∷◌, ◌++◌, length, Option, Some, None, option_and_then, Ok, Err, slice_get}
use Rattle.std.specs.Int.{is_positive}
use Rattle.cob_num.specs.declared.number.Dec.{Dec}
use Rattle.cob_num.specs.declared.storing.Stored.{Stored}
use Rattle.cob_num.specs.Storing.{stored_of}
use Rattle.cob_num.specs.Exact.{decimal, sum_of, difference_of, product_of, quotient_of}
use Rattle.cob_tree.specs.declared.ending.Abend.TheVariants.{OutOfRange}
use Rattle.cob_tree.specs.declared.place.Figure.TheVariants.{Zero}
use Rattle.cob_tree.specs.declared.place.Op.{Op}
use Rattle.cob_tree.specs.declared.place.Op.TheVariants as ops
use Rattle.cob_tree.specs.declared.number.Number.{Number}
use Rattle.cob_tree.specs.declared.place.Expr.{Expr, fold-Expr}
use Rattle.cob_tree.specs.declared.place.Operand.{Operand, fold-Operand}
use Rattle.cob_tree.specs.declared.place.Place.{Place, fold-Place}
use Rattle.cob_tree.specs.declared.place.Sub.{Sub, fold-Sub}
use Rattle.cob_tree.specs.declared.place.Window.{Window, fold-Window}
use Rattle.cob_tree.specs.declared.place.Expr.TheOpen.{Expr-F, Operand-F, Place-F, Sub-F, Window-F}
use Rattle.cob_store.specs.declared.area.Dim.{Dim}
use Rattle.cob_store.specs.declared.area.Area.{Area}
use Rattle.cob_store.specs.declared.area.Form.{Form}
use Rattle.cob_store.specs.declared.area.Form.TheVariants as forms
use Rattle.cob_store.specs.declared.spot.Spot.{Spot}
use Rattle.cob_store.specs.declared.spot.Reached.{Reached}
use Rattle.cob_store.specs.Answer.{Answer, and_then}
use Rattle.cob_store.specs.Size.{capped}
use Rattle.cob_tree.specs.Digits.{digits_value}
use Rattle.cob_store.specs.Store.{Roots, value_at}

-- where the items lie, and what is stored there
pub record Memory : Type 0 where
  pub areas : List Area
  pub store : Roots

-- where the items lie, with what is stored there
abbrev pub memory_of : List Area → Roots → Memory
memory_of areas store = record { areas = areas; store = store }

-- a number, or none where there is no value
abbrev pub Value : Type 0
Value = Option Dec

-- ---- literals

-- the number, below zero where it is negative
abbrev pub signed_by : Bool → ℕ → ℤ
signed_by true number = neg_ℤ (pos number)
signed_by false number = pos number

-- the number that a numeric literal writes
abbrev pub literal_value : Number → Value
literal_value number =
    option_and_then (λ n.
    decimal (signed_by number.negative n) number.scale) (digits_value number.digits)

-- what an item of so many digits keeps of a number, aligned and cut; none where the digits aren't
-- 1 to 18
abbrev pub kept : ℕ → ℕ → Bool → Dec → Option Stored
kept whole part rounded number =
    if nat_le 1 (whole + part) && nat_le (whole + part) 18
    then Some (stored_of number (whole + part) part rounded)
    else None

-- ---- places

-- how far a number from 1 to the count lies after 1; any other is out of range
abbrev pub offset_of : ℤ → ℕ → Answer ℕ
offset_of number count =
    if is_positive number && nat_le (unsigned_abs number) count
    then Ok (unsigned_abs number - 1)
    else Err OutOfRange

-- the same of a value; none is out of range
abbrev pub offset_in : Value → ℕ → Answer ℕ
offset_in None count = Err OutOfRange
offset_in (Some number) count = offset_of number.value count

-- the start of that occurrence
abbrev pub occurrence : Dim → ℕ → ℕ → ℕ
occurrence dim start offset = capped (start + capped (offset * dim.stride))

-- the spot from one of its bytes on, and so many of its bytes
abbrev pub spot_from : Spot → ℕ → Spot
spot_from spot offset =
    record { root = spot.root; start = capped (spot.start + offset); length = spot.length - offset }

-- the first bytes of a spot, one more than this number
abbrev pub spot_long : Spot → ℕ → Spot
spot_long spot offset = record { root = spot.root; start = spot.start; length = offset + 1 }

-- ---- what each part of a place or an expression gives to those above it

-- what a memory gives, or the end of the run
abbrev pub OfMemory : Type 0 → Type 0
OfMemory A = Memory → Answer A

-- the number at a spot of this form; text has none
abbrev pub number_at : Roots → Spot → Form → Answer Value
number_at roots spot (forms.Number signed whole part storage) =
    and_then (value_at roots spot (forms.Number signed whole part storage)) (λ number.
    Ok (Some number))
number_at roots spot forms.Group = Ok None
number_at roots spot forms.Edited = Ok None
number_at roots spot forms.Text = Ok None

-- the number at a place that was found
abbrev pub place_number : OfMemory Reached → OfMemory Value
place_number place memory =
    and_then (place memory) (λ reached. number_at memory.store reached.spot reached.form)

-- the result of an operator on two numbers; a quotient has nine decimal places at least
abbrev pub calculated_by : Op → Dec → Dec → Value
calculated_by ops.Add a b = sum_of a b
calculated_by ops.Sub a b = difference_of a b
calculated_by ops.Mul a b = product_of a b
calculated_by ops.Div a b = quotient_of a b 9

-- the result of an operator, where both operands have a value
abbrev pub calculated : Op → Value → Value → Value
calculated op (Some a) (Some b) = calculated_by op a b
calculated op _ _ = None

-- this number less than that one
abbrev pub difference_from : Dec → Value → Value
difference_from number None = None
difference_from number (Some zero) = difference_of zero number

-- the value with its sign turned
abbrev pub negated : Value → Value
negated None = None
negated (Some number) = difference_from number (decimal (pos 0) 0)

-- one level of a place or expression, in which each part is what it gives to those above it
abbrev pub Layer : (Type 0 → Type 0 → Type 0 → Type 0 → Type 0 → Type 0) → Type 0
Layer F =
    F (OfMemory Value) (OfMemory Value) (OfMemory Reached) (OfMemory Value)
    (Memory → Spot → Answer Spot)

-- what one level of an expression is worth; all operands are read before anything is computed
abbrev pub expr_step : Layer Expr-F → OfMemory Value
expr_step (Expr-F.Leaf operand) = operand
expr_step (Expr-F.Minus operand) = λ memory. and_then (operand memory) (λ a. Ok (negated a))
expr_step (Expr-F.Both op left right) =
    λ memory. and_then (left memory) (λ a. and_then (right memory) (λ b. Ok (calculated op a b)))

-- what an operand is worth; text and other figures than ZERO have no value
abbrev pub operand_step : Layer Operand-F → OfMemory Value
operand_step (Operand-F.Place place) = place_number place
operand_step (Operand-F.Number number) = λ memory. Ok (literal_value number)
operand_step (Operand-F.Text bytes) = λ memory. Ok None
operand_step (Operand-F.Figure Zero) = λ memory. Ok (decimal (pos 0) 0)
operand_step (Operand-F.Figure _) = λ memory. Ok None

-- the sum, where both have a value
abbrev pub sum_by : Value → Value → Value
sum_by (Some a) (Some b) = sum_of a b
sum_by _ _ = None

-- a subscript: its number alone, or added to what its item holds
abbrev pub sub_by : Option (OfMemory Reached) → Value → OfMemory Value
sub_by None plus memory = Ok plus
sub_by (Some base) plus memory =
    and_then (place_number base memory) (λ value. Ok (sum_by value plus))

-- what a subscript is worth
abbrev pub sub_step : Layer Sub-F → OfMemory Value
sub_step sub memory = sub_by sub.base (literal_value sub.plus) memory

-- an offset after those that were read; a place has at most three
abbrev pub kept_behind : List ℕ → ℕ → Answer (List ℕ)
kept_behind read offset =
    if nat_lt (length read) 3 then Ok (read ++ offset ∷ []) else Err OutOfRange

-- the offsets that are kept now, where there is no fault
abbrev pub with_kept : Answer (Unit {0}) → List ℕ → Answer (List ℕ)
with_kept (Ok _) now = Ok now
with_kept (Err abend) now = Err abend

-- the offsets of the subscripts from the left, each read and then checked, after those that
-- were read
abbrev pub offsets_behind : Memory → List ℕ → List (OfMemory Value) → List Dim → Answer (List ℕ)
offsets_behind memory read [] dims = Ok read
offsets_behind memory read (sub ∷ subs) [] = Ok read
offsets_behind memory read (sub ∷ subs) (dim ∷ dims) =
    and_then (sub memory) (λ value. and_then (offset_in value dim.count) (λ offset.
    and_then (kept_behind read offset) (λ now. offsets_behind memory now subs dims)))

-- the start of the occurrence that lies by these offsets after the first
abbrev pub occurrence_at : List ℕ → List Dim → ℕ → ℕ
occurrence_at [] dims start = start
occurrence_at (offset ∷ offsets) [] start = start
occurrence_at (offset ∷ offsets) (dim ∷ dims) start =
    occurrence_at offsets dims (occurrence dim start offset)

-- the start of the occurrence that the subscripts name
abbrev pub subscripted : Memory → List (OfMemory Value) → List Dim → ℕ → Answer ℕ
subscripted memory subs dims start =
    and_then (offsets_behind memory [] subs dims) (λ offsets. Ok (occurrence_at offsets dims start))

-- the spot cut to the window's length, if that is given
abbrev pub long_by : Memory → Option (OfMemory Value) → Spot → Answer Spot
long_by memory None spot = Ok spot
long_by memory (Some size) spot =
    and_then (size memory) (λ value. and_then (offset_in value spot.length) (λ offset.
    Ok (spot_long spot offset)))

-- the window's start, then its length, each evaluated and then checked
abbrev pub window_step : Layer Window-F → Memory → Spot → Answer Spot
window_step window memory spot =
    and_then (window.from memory) (λ value. and_then (offset_in value spot.length) (λ offset.
    long_by memory window.«length» (spot_from spot offset)))

-- a window makes text of any item
abbrev pub windowed_by : Memory → Option (Memory → Spot → Answer Spot) → Spot → Form →
    Answer Reached
windowed_by memory None spot form = Ok (record { spot = spot; form = form })
windowed_by memory (Some window) spot form =
    and_then (window memory spot) (λ part. Ok (record { spot = part; form = forms.Text }))

-- the whole of an item that starts there
abbrev pub spot_of : Area → ℕ → Spot
spot_of area start = record { root = area.root; start = start; length = area.size }

-- the spot of a place by its item's area; out of range where the item has none
abbrev pub reached_in : Memory → List (OfMemory Value) → Option (Memory → Spot → Answer Spot) →
    Option Area → Answer Reached
reached_in memory subs window None = Err OutOfRange
reached_in memory subs window (Some area) =
    and_then (subscripted memory subs area.dims area.start) (λ start.
    windowed_by memory window (spot_of area start) area.form)

-- where a place is
abbrev pub place_step : Layer Place-F → OfMemory Reached
place_step place memory =
    reached_in memory place.subs place.window (slice_get memory.areas place.item)

-- ---- whole places and expressions

-- where a place is, and its form
abbrev pub reached : Place → OfMemory Reached
reached =
    fold-Place (OfMemory Value) (OfMemory Value) (OfMemory Reached) (OfMemory Value)
    (Memory → Spot → Answer Spot) expr_step operand_step place_step sub_step window_step

-- what a subscript is worth
abbrev pub sub_value : Sub → OfMemory Value
sub_value =
    fold-Sub (OfMemory Value) (OfMemory Value) (OfMemory Reached) (OfMemory Value)
    (Memory → Spot → Answer Spot) expr_step operand_step place_step sub_step window_step

-- the part of a spot that a window names
abbrev pub window_of : Window → Memory → Spot → Answer Spot
window_of =
    fold-Window (OfMemory Value) (OfMemory Value) (OfMemory Reached) (OfMemory Value)
    (Memory → Spot → Answer Spot) expr_step operand_step place_step sub_step window_step

-- what an operand is worth
abbrev pub operand_value : Operand → OfMemory Value
operand_value =
    fold-Operand (OfMemory Value) (OfMemory Value) (OfMemory Reached) (OfMemory Value)
    (Memory → Spot → Answer Spot) expr_step operand_step place_step sub_step window_step

-- what an expression is worth
abbrev pub expr_value : Expr → OfMemory Value
expr_value =
    fold-Expr (OfMemory Value) (OfMemory Value) (OfMemory Reached) (OfMemory Value)
    (Memory → Spot → Answer Spot) expr_step operand_step place_step sub_step window_step

-- the spot of a place, or the first fault on the way there
abbrev pub reach_of : Memory → Place → Answer Spot
reach_of memory place = and_then (reached place memory) (λ place. Ok place.spot)

-- the number in a place; text has none
abbrev pub place_value : Place → OfMemory Value
place_value place = place_number (reached place)
