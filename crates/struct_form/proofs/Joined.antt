-- Tests, joined.
use Rattle.std.proofs.Common.{◌≡◌, Bool, true, false, ◌&&◌, if◌then◌else◌, refl}

pub and-true : (a : Bool) → (a && true) ≡ a
and-true false = refl
and-true true = refl

pub and-assoc : (a b c : Bool) → ((a && b) && c) ≡ (a && (b && c))
and-assoc false b c = refl
and-assoc true b c = refl

-- two pairs of tests, each first by first and second by second
pub interchange : (a b c d : Bool) → ((a && b) && (c && d)) ≡ ((a && c) && (b && d))
interchange false b c d = refl
interchange true false false d = refl
interchange true false true d = refl
interchange true true c d = refl

pub or-false : (a : Bool) → (if a then true else false) ≡ a
or-false false = refl
or-false true = refl

pub or-assoc : (a b c : Bool) → (if (if a then true else b) then true else c) ≡ (if a then true else (if b then true else c))
or-assoc false b c = refl
or-assoc true b c = refl
