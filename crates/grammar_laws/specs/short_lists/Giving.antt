-- What a form gives of few tokens: each value that is read has a property.
use Rattle.std.specs.Prelude.{◌≡◌, ◌<◌, ℕ, length}
use Rattle.parser_combinators.specs.Form.{Input, Got, Form}

-- Where fewer tokens than the bound are left, so there are after the value, and it has the
-- property.
pub record GivesOfFew (bound : ℕ) {A : Type 0} (form : Form A) (Has : A → Type 0) : Type 0 where
  -- so it is of each reading
  pub gives : (p : Input) (a : A) (q : Input) → form.reads p ≡ Got a q →
      length p.rest < bound → (length q.rest < bound) × Has a
