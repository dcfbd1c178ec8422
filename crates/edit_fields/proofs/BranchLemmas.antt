-- What holds on both branches of a choice, and of what may be there.
use Rattle.std.proofs.Common.{◌≡◌, Bool, true, false, ◌&&◌, ◌||◌, if◌then◌else◌, Option, Some, None, IfSome, refl, subst}

pub either_way : {A : Type 0} (P : A → Type 0) (b : Bool) (x y : A) → (b ≡ true → P x) → (b ≡ false → P y) → P (if b then x else y)
either_way P true x y on_true on_false = on_true refl
either_way P false x y on_true on_false = on_false refl

pub then_taken : {A : Type 0} (b : Bool) (x y : A) → b ≡ true → (if b then x else y) ≡ x
then_taken true x y h = refl
then_taken false x y h = absurd cc

pub else_taken : {A : Type 0} (b : Bool) (x y : A) → b ≡ false → (if b then x else y) ≡ y
else_taken true x y h = absurd cc
else_taken false x y h = refl

-- of what is there follows another fact
pub if_some : {A : Type 0} (P Q : A → Type 0) (o : Option A) → ((x : A) → P x → Q x) → IfSome o P → IfSome o Q
if_some P Q None follows p = tt
if_some P Q (Some x) follows p = follows x p

pub some_of : {A : Type 0} (P : A → Type 0) (o : Option A) (x : A) → o ≡ Some x → IfSome o P → P x
some_of P None x e p = absurd cc
some_of P (Some y) x e p = let same : y ≡ x = cc in subst P same p

pub or_none : (a b c d e : Bool) → a ≡ false → b ≡ false → c ≡ false → d ≡ false → (a || b || ((c || d) && e)) ≡ false
or_none true b c d e p q r s = absurd cc
or_none false true c d e p q r s = absurd cc
or_none false false true d e p q r s = absurd cc
or_none false false false true e p q r s = absurd cc
or_none false false false false e p q r s = refl
