-- Which kinds of tokens spell a value of a form, with no name fault, whatever their lines.
use Rattle.std.specs.Prelude.{ℕ, ◌≡◌, ◌+◌, List, [], ◌∷◌, ◌++◌, map, length, Option, Some, None}
use Rattle.cobol_lex.specs.declared.token.Token.{Token}
use Rattle.cobol_lex.specs.declared.token.TokenKind.{TokenKind}
use Rattle.parser_combinators.specs.Form.{Input, Form, next}

-- the kinds of these tokens
abbrev pub kinds_of : List Token → List TokenKind
kinds_of tokens = map (λ (token : Token). token.kind) tokens

-- the input before these tokens, after so many, with no fault
abbrev pub here : List Token → ℕ → Input
here rest taken = record { rest = rest; taken = taken; fault = None }

-- the first of these kinds, or what follows them
abbrev pub first_of : List TokenKind → Option TokenKind → Option TokenKind
first_of [] behind = behind
first_of (kind ∷ kinds) behind = Some kind

-- whatever may follow
abbrev pub Any : Option TokenKind → Type 0
Any behind = Unit {0}

-- After so many tokens, those of these kinds spell a value that has the property, where what
-- follows them is as it must be.
pub record Spelled {A : Type 0} (form : Form A) (taken : ℕ) (kinds : List TokenKind)
    (Behind : Option TokenKind → Type 0) (Has : A → Type 0) : Type 0 where
  -- whatever tokens have these kinds
  pub spells : (tokens rest : List Token) → kinds_of tokens ≡ kinds → Behind (next rest) →
      (value : A)
      × form.spells (here (tokens ++ rest) taken) value (here rest (taken + length kinds))
      × Has value
