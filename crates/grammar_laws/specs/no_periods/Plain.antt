-- Forms that take no period.
use Rattle.std.specs.Prelude.{◌≡◌, false, List, [], ◌∷◌, ◌++◌}
use Rattle.cobol_lex.specs.declared.token.Token.{Token}
use Rattle.parser_combinators.specs.Form.{Input, Got, Form}
use Rattle.parser_combinators.specs.Part.{is_period}

-- none of these is a period
abbrev pub NoPeriods : List Token → Type 0
NoPeriods [] = Unit {0}
NoPeriods (token ∷ tokens) = (is_period token.kind ≡ false) × NoPeriods tokens

-- the second list is left of the first after tokens without a period
abbrev pub LeftOf : List Token → List Token → Type 0
LeftOf tokens rest = (used : List Token) × (tokens ≡ used ++ rest) × NoPeriods used

-- the form takes no period
pub record Plain {A : Type 0} (form : Form A) : Type 0 where
  pub takes : (p : Input) (a : A) (q : Input) → form.reads p ≡ Got a q → LeftOf p.rest q.rest
