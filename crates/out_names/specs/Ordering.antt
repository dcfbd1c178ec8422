-- The order of procedures. Ranges go by their numbers; `calls` has, for each, the numbers of those
-- that it calls, and `stands` says which are placed already.
use Rattle.std.specs.Prelude.{ℕ, ◌≡◌, ◌<◌, zero, suc, Bool, true, false, not, if◌then◌else◌, ◌==◌, ◌&&◌, ◌||◌, List, [], ◌∷◌, length, replicate, Option, Some, None, slice_index_or, slice_set}
use Rattle.std.specs.List.{list_any}

-- the number is one of those that are called
abbrev pub calls_it : ℕ → List ℕ → Bool
calls_it number callees = list_any (λ callee. callee == number) callees

-- a range that isn't placed yet calls it
abbrev pub waits : List (List ℕ) → List Bool → ℕ → Bool
waits [] stands number = false
waits (callees ∷ calls) [] number = false
waits (callees ∷ calls) (stands ∷ others) number =
    (not stands && calls_it number callees) || waits calls others number

-- the flags of what is called are set too
abbrev pub AreMarked : List Bool → List ℕ → List Bool → Type 0
AreMarked before callees after =
    (number : ℕ) → number < length before →
    slice_index_or after number false
    ≡ (slice_index_or before number false || calls_it number callees)

-- a flag for each range says whether it waits
abbrev pub AreWaiting : List (List ℕ) → List Bool → List Bool → Type 0
AreWaiting calls stands waiting =
    (number : ℕ) → number < length calls →
    slice_index_or waiting number false ≡ waits calls stands number

-- the range is neither placed nor waiting, by these flags
abbrev pub may_stand : List Bool → List Bool → ℕ → Bool
may_stand stands waiting number =
    not (slice_index_or stands number true) && not (slice_index_or waiting number false)

-- it isn't placed, and all of its callers are
abbrev pub is_ready : List (List ℕ) → List Bool → ℕ → Bool
is_ready calls stands number =
    not (slice_index_or stands number true) && not (waits calls stands number)

-- the lowest of so many numbers from this one on that is ready
abbrev pub first_ready : ℕ → List (List ℕ) → List Bool → ℕ → Option ℕ
first_ready zero calls stands number = None
first_ready (suc count) calls stands number =
    if is_ready calls stands number then Some number
    else first_ready count calls stands (suc number)

-- the next one, and then at most so many in all, always the lowest all of whose callers are placed
abbrev pub order_from : ℕ → List (List ℕ) → List Bool → Option ℕ → List ℕ
order_from zero calls stands next = []
order_from (suc count) calls stands None = []
order_from (suc count) calls stands (Some number) =
    let after = slice_set stands number true in
    number ∷ order_from count calls after (first_ready (length calls) calls after 0)

-- the first one, and then always the lowest all of whose callers are placed already
abbrev pub order_of : List (List ℕ) → List ℕ
order_of calls =
    order_from (length calls) calls (replicate (length calls) false) (Some 0)
