-- Orders in which each number comes before those that it calls.
use Rattle.std.specs.Prelude.{ℕ, ◌≡◌, ◌<◌, List, [], ◌∷◌, length, Some, slice_get}
use Rattle.pending_returns.specs.levels.Reach.{Holds}
use Rattle.out_names.specs.Ordering.{order_of}

-- the number calls the other
abbrev pub Calls : List (List ℕ) → ℕ → ℕ → Type 0
Calls calls from to = (callees : List ℕ) × (slice_get calls from ≡ Some callees) × Holds callees to

-- calls lead from the base to the number
pub data Leads (calls : List (List ℕ)) (base : ℕ) : ℕ → Type 0 where
  begins : Leads calls base base
  on : (from to : ℕ) → Leads calls base from → Calls calls from to → Leads calls base to

-- no number calls itself, directly or not, and none calls the first
pub record IsLayered (calls : List (List ℕ)) : Type 0 where
  -- there is a first number
  pub some : 0 < length calls
  -- none calls the first
  pub first : (from : ℕ) → Calls calls from 0 → ⊥
  -- no number calls one from which calls lead to it
  pub never : (from to : ℕ) → Leads calls from to → Calls calls to from → ⊥

-- no number comes twice, and each that is called follows its caller
abbrev pub CalledStandLater : List (List ℕ) → List ℕ → Type 0
CalledStandLater calls [] = Unit {0}
CalledStandLater calls (number ∷ numbers) = (Holds numbers number → ⊥)
    × ((to : ℕ) → Calls calls number to → to < length calls → Holds numbers to)
    × CalledStandLater calls numbers

-- the order has all, the first one first, and each before those that it calls
pub record IsOrdered (calls : List (List ℕ)) (order : List ℕ) : Type 0 where
  -- the first comes first
  pub first : slice_get order 0 ≡ Some 0
  -- each number is in the order
  pub all : (number : ℕ) → number < length calls → Holds order number
  -- and no other
  pub below : (number : ℕ) → Holds order number → number < length calls
  -- each comes after those that call it
  pub later : CalledStandLater calls order

-- the order of such calls has each number once, after all that call it
abbrev pub OrdersPutCallersFirst : Type 0
OrdersPutCallersFirst = (calls : List (List ℕ)) → IsLayered calls → IsOrdered calls (order_of calls)
