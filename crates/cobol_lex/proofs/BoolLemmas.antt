-- Tests that hold or do not.
use Rattle.std.proofs.Common.{ℕ, ◌≡◌, ◌+◌, suc, Bool, true, false, not, arith, refl, tests}
use Rattle.std.specs.Prelude.{if◌then◌else◌, ◌==◌, ◌||◌, ◌&&◌}

pub or_left : (x y : Bool) → (x || y) ≡ false → x ≡ false
or_left true y h = h
or_left false y h = refl

pub or_right : (x y : Bool) → (x || y) ≡ false → y ≡ false
or_right true y h = cc
or_right false y h = h

pub and_left : (x y : Bool) → (x && y) ≡ true → x ≡ true
and_left true y h = refl
and_left false y h = cc

pub and_right : (x y : Bool) → (x && y) ≡ true → y ≡ true
and_right true y h = h
and_right false y h = cc

pub counted : (v : Bool) (n m : ℕ) → (if v then 1 + n else 0) ≡ suc m → (v ≡ true) × (n ≡ m)
counted true n m h = (refl, omega arith)
counted false n m h = absurd (omega arith)

pub word_alone : (x y : Bool) → (x || y && false) ≡ true → x ≡ true
word_alone true y h = refl
word_alone false true h = cc
word_alone false false h = cc

pub or_true : (x y : Bool) → x ≡ true → (x || y) ≡ true
or_true true y h = refl
or_true false y h = cc

pub either_way : (v : Bool) (P : Type 0) → (v ≡ true → P) → (v ≡ false → P) → P
either_way true P yes_P no_P = yes_P refl
either_way false P yes_P no_P = no_P refl

pub not_false : (v : Bool) → not v ≡ true → v ≡ false
not_false true h = cc
not_false false h = refl

pub and_no : (v : Bool) → (v && false) ≡ false
and_no true = refl
and_no false = refl

pub same_byte : (b c : ℕ) → (b == c) ≡ true → b ≡ c
same_byte b c e = grind (arith, tests)
