-- Which range is next.
use Rattle.std.proofs.Common.{◌≡◌, ℕ, suc, ◌+◌, ◌-◌, ◌<◌, Bool, if◌then◌else◌, List, refl, arith, add-one}
use Rattle.std.specs.Prelude.{Some, ◌∷◌, length, true, slice_set}
use Rattle.out_names.specs.Ordering.{is_ready, first_ready, order_from}

pub one_looked : (count at : ℕ) (calls : List (List ℕ)) (stands : List Bool) → at < count →
    first_ready (count - at) calls stands at
    ≡ (if is_ready calls stands at then Some at else first_ready (count - (at + 1)) calls stands (at + 1))
one_looked count at calls stands lt =
    let e : count - at ≡ suc (count - (at + 1)) = omega arith in
    rw (e, add-one at) refl

pub one_placed : (count at : ℕ) (calls : List (List ℕ)) (stands : List Bool) (number : ℕ) → at < count →
    let after = slice_set stands number true in
    order_from (count - at) calls stands (Some number)
    ≡ number ∷ order_from (count - (at + 1)) calls after (first_ready (length calls) calls after 0)
one_placed count at calls stands number lt =
    let e : count - at ≡ suc (count - (at + 1)) = omega arith in
    rw e refl
