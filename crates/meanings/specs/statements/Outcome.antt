-- What a part of a statement leaves: a store, and an answer or the end of the run.
use Rattle.std.specs.Prelude.{Ok, Err, List, [], ◌∷◌}
use Rattle.cob_store.specs.Answer.{Answer}
use Rattle.cob_store.specs.Store.{Roots}

-- a store, and an answer or the end of the run
pub record Outcome (A : Type 0) : Type 0 where
  pub store : Roots
  pub answer : Answer A

-- the store is so, and the answer this
abbrev pub done : {A : Type 0} → Roots → A → Outcome A
done store a = record { store = store; answer = Ok a }

-- what comes after an answer: it goes on with the store and the answer, or the run ends
abbrev pub go_on : {A B : Type 0} → Roots → Answer A → (Roots → A → Outcome B) → Outcome B
go_on store (Ok a) next = next store a
go_on store (Err abend) next = record { store = store; answer = Err abend }

-- goes on with the store and the answer that the first left
abbrev pub then_do : {A B : Type 0} → Outcome A → (Roots → A → Outcome B) → Outcome B
then_do outcome next = go_on outcome.store outcome.answer next

-- each in its turn, in the store that the ones before left
abbrev pub each : {A : Type 0} → (Roots → A → Outcome (Unit {0})) → Roots → List A →
    Outcome (Unit {0})
each does store [] = done store tt
each does store (a ∷ others) = then_do (does store a) (λ now _. each does now others)
