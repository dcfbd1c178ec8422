-- What a form gives where no name fault is noted: each value that is read has a property.
use Rattle.std.specs.Prelude.{◌≡◌, List, [], ◌∷◌, None}
use Rattle.cobol_lex.specs.declared.token.Token.{Token}
use Rattle.cobol_lex.specs.declared.token.TokenKind.{TokenKind}
use Rattle.parser_combinators.specs.Form.{Input, Got, Form}

-- each has the property
abbrev pub Each : {A : Type 0} → (A → Type 0) → List A → Type 0
Each P [] = Unit {0}
Each P (x ∷ xs) = P x × Each P xs

-- tokens of these kinds
abbrev pub AreOf : (TokenKind → Type 0) → List Token → Type 0
AreOf Kind tokens = Each (λ token. Kind token.kind) tokens

-- Where the tokens are of these kinds and no fault is noted up to the end of the value, none was
-- noted before it, and it has the property.
pub record Gives (Kind : TokenKind → Type 0) {A : Type 0} (form : Form A) (Has : A → Type 0) : Type
    0 where
  -- what is left is of these kinds, whatever is noted
  pub keeps : (p : Input) (a : A) (q : Input) →
      form.reads p ≡ Got a q → AreOf Kind p.rest → AreOf Kind q.rest
  -- so it is of each reading
  pub gives : (p : Input) (a : A) (q : Input) →
      form.reads p ≡ Got a q → AreOf Kind p.rest → q.fault ≡ None → (p.fault ≡ None) × Has a
