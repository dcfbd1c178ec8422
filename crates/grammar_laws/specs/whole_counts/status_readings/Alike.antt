-- Forms that take the same tokens and stop alike, whatever is noted.
use Rattle.std.specs.Prelude.{◌≡◌}
use Rattle.parser_combinators.specs.Form.{Input, Outcome, Got, Stop, Form}

-- the same tokens are left, and as many were taken
pub record SamePlace (p q : Input) : Type 0 where
  pub rest : p.rest ≡ q.rest
  pub taken : p.taken ≡ q.taken

-- both give values that are so related, at the same place, or both stop alike
abbrev pub AlikeOutcomes : {A B : Type 0} → (A → B → Type 0) → Outcome A → Outcome B → Type 0
AlikeOutcomes R (Got a p) (Got b q) = R a b × SamePlace p q
AlikeOutcomes R (Got a p) (Stop why rest) = ⊥
AlikeOutcomes R (Stop why rest) (Got b q) = ⊥
AlikeOutcomes R (Stop why rest) (Stop other left) = (why ≡ other) × (rest ≡ left)

-- values that are read at the same place are so related
pub record Alike {A B : Type 0} (f : Form A) (g : Form B) (R : A → B → Type 0) : Type 0 where
  pub alike : (p q : Input) → SamePlace p q → AlikeOutcomes R (f.reads p) (g.reads q)
