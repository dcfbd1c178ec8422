-- Where a search from the front comes to first.
use Rattle.std.proofs.Common.{◌≡◌, ℕ, zero, suc, ◌+◌, ◌<◌, ◌≤◌, Bool, true, false, ◌||◌, nat_lt, List, [], ◌∷◌, length, get_or, take, drop, Option, Some, None, refl, sym, ap, ◌∙◌, arith, cond}
use Rattle.std.proofs.lemmas.Iterator.Adapters.{position_from-zero}
use Rattle.std.proofs.lemmas.List.{drop_more}
use Rattle.std.specs.List.{list_any, position, position_from}
use Rattle.std.specs.Option.{is_some}

-- a place before this one was found
pub is_before : ℕ → Option ℕ → Bool
is_before at None = false
is_before at (Some place) = nat_lt place at

lt-true : (a b : ℕ) → a < b → nat_lt a b ≡ true
lt-true a b h = grind (arith, h)

lt-false : (a b : ℕ) → b ≤ a → nat_lt a b ≡ false
lt-false a b h = grind (arith, h)

none-before : {X : Type 0} (f : X → Bool) (at m : ℕ) (xs : List X) → m ≤ at → is_before m (position_from f at xs) ≡ false
unfolding is_before
none-before f at m [] h = refl
none-before f at m (x ∷ xs) h = go (f x) (none-before f (at + 1) m xs (omega (arith, h)))
  where
    go : (b : Bool) → is_before m (position_from f (at + 1) xs) ≡ false → is_before m (cond b (Some at) (position_from f (at + 1) xs)) ≡ false
    go true i = lt-false at m h
    go false i = i

any-take : {X : Type 0} (f : X → Bool) (at n : ℕ) (xs : List X) → list_any f (take n xs) ≡ is_before (at + n) (position_from f at xs)
unfolding is_before
any-take f at zero xs = sym (none-before f at (at + zero) xs (omega arith))
any-take f at (suc n) [] = refl
any-take f at (suc n) (x ∷ xs) =
    let more : (at + 1) + n ≡ at + suc n = omega arith in
    go (f x) (rw more at (any-take f (at + 1) n xs))
  where
    go : (b : Bool) → list_any f (take n xs) ≡ is_before (at + suc n) (position_from f (at + 1) xs) → (b || list_any f (take n xs)) ≡ is_before (at + suc n) (cond b (Some at) (position_from f (at + 1) xs))
    go true i = sym (lt-true at (at + suc n) (omega arith))
    go false i = i

any-all : {X : Type 0} (f : X → Bool) (at : ℕ) (xs : List X) → list_any f xs ≡ is_some (position_from f at xs)
any-all f at [] = refl
any-all f at (x ∷ xs) = go (f x) (any-all f (at + 1) xs)
  where
    go : (b : Bool) → list_any f xs ≡ is_some (position_from f (at + 1) xs) → (b || list_any f xs) ≡ is_some (cond b (Some at) (position_from f (at + 1) xs))
    go true i = refl
    go false i = i

pub any_found : {X : Type 0} (f : X → Bool) (xs : List X) → list_any f xs ≡ is_some (position f xs)
any_found f xs = any-all f 0 xs ∙ ap is_some (sym (position_from-zero f xs))

pub any_before : {X : Type 0} (f : X → Bool) (n : ℕ) (xs : List X) → list_any f (take n xs) ≡ is_before n (position f xs)
any_before f n xs =
    let none : 0 + n ≡ n = omega arith in
    rw none at (any-take f 0 n xs) ∙ ap (is_before n) (sym (position_from-zero f xs))

pub before_none : (n : ℕ) → is_before n None ≡ false
unfolding is_before
before_none n = refl

pub before_some : (n place : ℕ) → is_before n (Some place) ≡ nat_lt place n
unfolding is_before
before_some n place = refl

place-within : {X : Type 0} (f : X → Bool) (at : ℕ) (xs : List X) (place : ℕ) → position_from f at xs ≡ Some place → place < at + length xs
place-within f at [] place e = grind (arith, e)
place-within f at (x ∷ xs) place e =
    let more : (at + 1) + length xs ≡ at + suc (length xs) = omega arith in
    go (f x) (λ i. rw more at (place-within f (at + 1) xs place i)) e
  where
    go : (b : Bool) → (position_from f (at + 1) xs ≡ Some place → place < at + suc (length xs)) → cond b (Some at) (position_from f (at + 1) xs) ≡ Some place → place < at + suc (length xs)
    go true i e = grind (arith, e)
    go false i e = i e

pub place_within : {X : Type 0} (f : X → Bool) (xs : List X) (place : ℕ) → position f xs ≡ Some place → place < length xs
place_within f xs place e =
    let none : 0 + length xs ≡ length xs = omega arith in
    rw none at (place-within f 0 xs place (sym (position_from-zero f xs) ∙ e))

-- the words from a place on, one word more
pub from_step : (f : List ℕ → Bool) (words : List (List ℕ)) (at : ℕ) (x : List ℕ) → at < length words → x ≡ get_or words at x → position_from f at (drop at words) ≡ cond (f x) (Some at) (position_from f (at + 1) (drop (at + 1) words))
from_step f words at x h e =
    rw (drop_more words at x h ∙ ap (λ y. y ∷ drop (at + 1) words) (sym e)) refl
