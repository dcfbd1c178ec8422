-- What is promised of a form, and of a function that reads it.
use Rattle.std.specs.Prelude.{◌≡◌, ℕ, Bool, if◌then◌else◌, drop, ◌+◌, ◌-◌, ◌≤◌, ◌⊎◌, ◌↔◌, List, [], ◌∷◌, ◌++◌, length, slice_get, Option, Some, None, Result, Ok, Err}
use Rattle.cobol_lex.specs.declared.token.Token.{Token}
use Rattle.parser_combinators.specs.declared.note.Note.{Note}
use Rattle.parser_combinators.specs.declared.why.Why.{Why}
use Rattle.parser_combinators.specs.declared.why.Why.TheVariants.{Syntax}
use Rattle.parser_combinators.specs.declared.why.Unread.{Unread}
use Rattle.parser_combinators.specs.declared.why.Unread.TheVariants as unread
use Rattle.parser_combinators.specs.Form.{Input, at, past, behind_fault, Outcome, Got, Stop, left, noted_before, Form}

-- The tokens left begin with the first token such that the tokens up to it are not cut, or there
-- are none left where more are needed.
pub record IsFirstFault {A : Type 0} (f : Form A) (p : Input) (rest : List Token) : Type 0 where
  -- the tokens before the fault
  pub used : List Token
  -- they come before those that are left
  pub parts : p.rest ≡ used ++ rest
  -- each front of them is cut
  pub before : (front more : List Token) → used ≡ front ++ more → f.cut (at front p)
  -- with one token more they aren't
  pub at_it : (t : Token) (more : List Token) → rest ≡ t ∷ more → f.cut (at (used ++ t ∷ []) p) → ⊥

-- the input before all these tokens, with no fault
abbrev pub start : List Token → Input
start tokens = record { rest = tokens; taken = 0; fault = None }

-- the input after so many of these tokens, with no fault
abbrev pub start_at : ℕ → List Token → Input
start_at from tokens = record { rest = drop from tokens; taken = from; fault = None }

-- What is read is what spells, there is one reading, and where there is none it stops at the first
-- fault.
pub record IsReader {A : Type 0} (f : Form A) : Type 0 where
  -- what is read is spelled
  pub sound : (p : Input) (a : A) (q : Input) → f.reads p ≡ Got a q → f.spells p a q
  -- what is spelled is read
  pub complete : (p : Input) (a : A) (q : Input) → f.spells p a q → f.reads p ≡ Got a q
  -- tokens spell one value, and end at one place
  pub unique : (p : Input) (a b : A) (q r : Input) →
      f.spells p a q → f.spells p b r → (a ≡ b) × (q ≡ r)
  -- where there is no value, it stops at the first fault
  pub fault : (p : Input) (why : Why) (rest : List Token) →
      f.reads p ≡ Stop why rest → IsFirstFault f p rest
  -- the cut texts are those that are read to their end, with a value or because there are no more
  pub is_cut : (p : Input) → f.cut p ↔ (left (f.reads p) ≡ [])
  -- a fault that was noted before stays, and changes nothing else
  pub noted : (p : Input) (earlier : Option Note) →
      f.reads (behind_fault earlier p) ≡ noted_before earlier (f.reads p)
  -- what is left are the tokens from the new index on
  pub leaves : (from : ℕ) (tokens : List Token) (a : A) (q : Input) →
      from ≤ length tokens → f.reads (start_at from tokens) ≡ Got a q → q.rest ≡ drop q.taken tokens

-- a limit: why a reading stops at it, and by how many tokens, at least, it comes further with a
-- higher one
pub record Bound : Type 0 where
  pub why : Why
  -- by how many tokens a higher limit comes further
  pub gains : ℕ

-- a limit on levels: what is nested too deep begins with a token, which one level more takes
abbrev pub levels_of : Why → Bound
levels_of why = record { why = why; gains = 1 }

-- a limit on a count, which may be passed where nothing follows that could be taken
abbrev pub count_of : Why → Bound
count_of why = record { why = why; gains = 0 }

-- With a higher limit the second reads what the first reads, and stops as it does or, where the
-- first stopped at its limit, further on.
abbrev pub Deeper : {A : Type 0} → Bound → Outcome A → Outcome A → Type 0
Deeper bound (Got a q) more = more ≡ Got a q
Deeper bound (Stop why rest) more =
    (more ≡ Stop why rest)
    ⊎ ((why ≡ bound.why) × (length (left more) + bound.gains ≤ length rest))

-- the second form only adds to what the first does, at each input
abbrev pub OnlyAdds : {A : Type 0} → Bound → Form A → Form A → Type 0
OnlyAdds bound f g = (p : Input) → Deeper bound (f.reads p) (g.reads p)

-- what was read is this outcome, unless memory ran out
abbrev pub Reads : {A : Type 0} → Outcome A → Result A Unread → Input → Type 0
Reads outcome (Ok a) now = outcome ≡ Got a now
Reads outcome (Err (unread.Stop why)) now = outcome ≡ Stop why now.rest
Reads outcome (Err unread.NoMemory) now = Unit {0}

-- the line of a token, or 1 where there is none
abbrev pub line_or_first : Option Token → ℕ
line_or_first (Some t) = t.line
line_or_first None = 1

-- the line of the last token, or 1 where there is none
abbrev pub last_line : List Token → ℕ
last_line tokens = line_or_first (slice_get tokens (length tokens - 1))

-- the line of the first token left, or of the last token where none is left
abbrev pub fault_line : List Token → List Token → ℕ
fault_line tokens [] = last_line tokens
fault_line tokens (t ∷ rest) = t.line

-- the input after the next token, where there is one
abbrev pub skip_from : List Token → Input → Input
skip_from [] p = p
skip_from (t ∷ ts) p = past ts p

-- the input after the next token, where there is one
abbrev pub behind_next : Input → Input
behind_next p = skip_from p.rest p

-- the reason, where such a token is next; else it is one of syntax
abbrev pub unread_where : Bool → Why → Unread
unread_where begins why = unread.Stop (if begins then why else Syntax)

-- All the tokens together spell the value, and this is the first name fault.
abbrev pub AllSpell : {A : Type 0} → Form A → List Token → A → Option Note → Type 0
AllSpell f tokens value fault =
    (q : Input) × f.spells (start tokens) value q × (q.rest ≡ []) × (q.fault ≡ fault)

-- The tokens left begin with the first fault, and this is why they are not read on.
pub record Stops {A : Type 0} (f : Form A) (p : Input) (why : Why) (rest : List Token) : Type 0
  where
    -- the tokens that are left begin with the first fault
    pub first : IsFirstFault f p rest
    -- this is why reading stops there
    pub by_why : f.reads p ≡ Stop why rest
