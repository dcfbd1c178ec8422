-- A number written with so many digits in a base.
use Rattle.std.specs.Prelude.{ℕ, zero, suc, ◌/◌, ◌%◌, ◌^◌, List, [], ◌∷◌}

-- the low digits of a number in a base, so many of them, the highest first
abbrev pub low_digits : ℕ → ℕ → ℕ → List ℕ
low_digits base zero number = []
low_digits base (suc count) number =
    (number / base ^ count % base) ∷ low_digits base count number
