-- What a call answers that takes memory.
use Rattle.std.specs.Prelude.{◌≡◌, ◌≢◌, Result, Ok, Err, IfOk}

-- exactly this value, or out of memory, which is the call's one error
abbrev pub Makes : {A E : Type 0} → A → Result A E → Type 0
Makes value answer = IfOk answer (λ made. made ≡ value)

-- exactly what is meant, or out of memory, the error that is named first
abbrev pub Answers : {A E : Type 0} → E → (meant answer : Result A E) → Type 0
Answers no_memory meant (Ok value) = meant ≡ Ok value
Answers no_memory meant (Err error) = error ≢ no_memory → meant ≡ Err error
