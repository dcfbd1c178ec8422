-- What holds of a result, holds in other words.
use Rattle.std.proofs.Common.{◌≡◌, subst}
use Rattle.std.specs.Prelude.{Result, Ok, Err, IfOk}

pub if_ok : {A E : Type 0} (result : Result A E) (P Q : A → Type 0) → ((made : A) → P made → Q made) → IfOk result P → IfOk result Q
if_ok (Ok made) P Q f h = f made h
if_ok (Err fault) P Q f h = tt

-- of one that is there
pub ok_holds : {A E : Type 0} (result : Result A E) (P : A → Type 0) (made : A) → IfOk result P → result ≡ Ok made → P made
ok_holds result P made h e = subst (λ r. IfOk r P) e h
