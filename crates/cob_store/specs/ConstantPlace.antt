-- Places whose subscripts and window are numbers alone, with the spots that they have.
use Rattle.std.specs.Prelude.{◌≡◌, ℕ, Bool, true, false, ◌&&◌, ◌||◌, not, if◌then◌else◌, ◌==◌, pos, List, [], ◌∷◌, map, Option, Some, None, Ok, slice_get}
use Rattle.std.specs.Option.{option_map}
use Rattle.cob_num.specs.Exact.{decimal}
use Rattle.cob_tree.specs.Digits.{digits_value}
use Rattle.cob_tree.specs.declared.number.Number.{Number}
use Rattle.cob_tree.specs.declared.place.Expr.{Expr, out-Expr}
use Rattle.cob_tree.specs.declared.place.Operand.{Operand, out-Operand}
use Rattle.cob_tree.specs.declared.place.Place.{Place, out-Place}
use Rattle.cob_tree.specs.declared.place.Sub.{Sub, out-Sub}
use Rattle.cob_tree.specs.declared.place.Window.{Window, out-Window}
use Rattle.cob_tree.specs.declared.place.Expr.TheOpen.{Expr-F, Operand-F}
use Rattle.cob_store.specs.declared.area.Area.{Area}
use Rattle.cob_store.specs.declared.area.Dim.{Dim}
use Rattle.cob_store.specs.declared.constant_place.ConstantPlace.{ConstantPlace}
use Rattle.cob_store.specs.declared.constant_place.WindowNumbers.{WindowNumbers}
use Rattle.cob_store.specs.declared.spot.Reached.{Reached}
use Rattle.cob_store.specs.declared.spot.Spot.{Spot}
use Rattle.cob_store.specs.Answer.{Answer, and_then}
use Rattle.cob_store.specs.Place.{Memory, OfMemory, Value, long_by, memory_of, offset_in, reached, spot_from, subscripted}

-- ---- numbers alone

-- a number without sign and decimal places
abbrev pub number_alone : Number → Option ℕ
number_alone number =
    if number.negative || not (number.scale == 0) then None else digits_value number.digits

-- there is a number, and it is the one that is asked for
abbrev pub is_that : Option ℕ → ℕ → Bool
is_that None wanted = false
is_that (Some value) wanted = value == wanted

-- the number of a subscript, where no item comes before it
abbrev pub number_behind : Option Place → Number → Option ℕ
number_behind None plus = number_alone plus
number_behind (Some base) plus = None

-- the number of a subscript that is a number alone
abbrev pub sub_number : Sub → Option ℕ
sub_number sub = number_behind (out-Sub sub).base (out-Sub sub).plus

-- the number of an operand that is a number alone
abbrev pub operand_number : Operand → Option ℕ
operand_number operand =
    elim (out-Operand operand) [ Operand-F.Number number ↦ number_alone number | _ ↦ None ]

-- the number of an expression that is a number alone
abbrev pub expr_number : Expr → Option ℕ
expr_number expr =
    elim (out-Expr expr) [ Expr-F.Leaf operand ↦ operand_number operand | _ ↦ None ]

-- the subscripts are these numbers
abbrev pub are_subs : List Sub → List ℕ → Bool
are_subs [] [] = true
are_subs (sub ∷ subs) (number ∷ numbers) = is_that (sub_number sub) number && are_subs subs numbers
are_subs _ _ = false

-- the length of a window is this number, or there is none
abbrev pub is_length : Option Expr → Option ℕ → Bool
is_length None None = true
is_length (Some expr) (Some wanted) = is_that (expr_number expr) wanted
is_length _ _ = false

-- the window is of these numbers
abbrev pub is_window : Window → WindowNumbers → Bool
is_window window part =
    is_that (expr_number (out-Window window).from) part.from
    && is_length (out-Window window).«length» part.«length»

-- the same where there may be no window
abbrev pub is_part : Option Window → Option WindowNumbers → Bool
is_part None None = true
is_part (Some window) (Some part) = is_window window part
is_part _ _ = false

-- ---- where they lead

-- a subscript, or a bound of a window, that is this number
abbrev pub alone : ℕ → OfMemory Value
alone number memory = Ok (decimal (pos number) 0)

-- numbers alone ask for nothing that is stored
abbrev pub nowhere : Memory
nowhere = memory_of [] []

-- the part of a spot that the numbers of a window give
abbrev pub part_spot : Option WindowNumbers → Spot → Answer Spot
part_spot None spot = Ok spot
part_spot (Some part) spot =
    and_then (offset_in (decimal (pos part.from) 0) spot.length) (λ offset.
    long_by nowhere (option_map alone part.«length») (spot_from spot offset))

-- the spot that the numbers lead to, in an item whose first occurrence lies there
abbrev pub numbers_spot : List Dim → Spot → List ℕ → Option WindowNumbers → Answer Spot
numbers_spot dims whole subs part =
    and_then (subscripted nowhere (map alone subs) dims whole.start) (λ start.
    part_spot part (record { root = whole.root; start = start; length = whole.length }))

-- the spot is where the numbers lead
abbrev pub IsKnown : List Dim → ConstantPlace → Type 0
IsKnown dims known = numbers_spot dims known.whole known.subs.items known.part ≡ Ok known.spot

-- the numbers are those of this place of the item that lies there
pub record IsOf (known : ConstantPlace) (whole : Spot) (place : Place) : Type 0 where
  -- it begins with the whole item
  pub lies : known.whole ≡ whole
  -- its subscripts are the place's
  pub subs : are_subs (out-Place place).subs known.subs.items ≡ true
  -- its window is the place's
  pub part : is_part (out-Place place).window known.part ≡ true

-- the place is of numbers alone, which lead to this spot
pub record KnownOf (dims : List Dim) (whole : Spot) (place : Place) (spot : Spot) : Type 0 where
  -- what is known of the place
  pub known : ConstantPlace
  -- that is of this place
  pub same : IsOf known whole place
  -- the numbers are within their limits
  pub right : IsKnown dims known
  -- and they lead to this spot
  pub there : known.spot ≡ spot

-- wherever the item lies there, this is reached at the place
abbrev pub LeadsTo : Area → Place → Reached → Type 0
LeadsTo area place there =
    (memory : Memory) → slice_get memory.areas (out-Place place).item ≡ Some area →
    reached place memory ≡ Ok there

-- what is known of a place holds of the area of its item
abbrev pub IsKnownOf : Option Area → ConstantPlace → Type 0
IsKnownOf None known = ⊥
IsKnownOf (Some area) known = IsKnown area.dims known
