-- The words in which a grammar is written. A form says which tokens spell a value, where a text may
-- stop, and what is read from the left.
use Rattle.std.specs.Prelude.{◌≡◌, ℕ, zero, suc, ◌+◌, Bool, true, false, ◌⊎◌, List, [], ◌∷◌, ◌++◌, length, Option, Some, None, if◌then◌else◌}
use Rattle.cobol_lex.specs.declared.token.Token.{Token}
use Rattle.cobol_lex.specs.declared.token.TokenKind.{TokenKind}
use Rattle.parser_combinators.specs.declared.note.Note.{Note}
use Rattle.parser_combinators.specs.declared.note.Position.{Position}
use Rattle.parser_combinators.specs.Note.{earliest}
use Rattle.parser_combinators.specs.declared.why.Why.{Why}
use Rattle.parser_combinators.specs.declared.why.Why.TheVariants.{Syntax}

-- the tokens from here on, how many were taken before, and the first name fault so far
pub record Input : Type 0 where
  pub rest : List Token
  -- how many tokens were taken before
  pub taken : ℕ
  -- the first name fault so far
  pub fault : Option Note

-- the same input with these tokens from there on
abbrev pub at : List Token → Input → Input
at rest p = record p { rest = rest }

-- the input after one token, of which these are left
abbrev pub past : List Token → Input → Input
past rest p = record p { rest = rest; taken = p.taken + 1 }

-- the position of the next token
abbrev pub position_of : Input → Token → Position
position_of p t = record { index = p.taken; line = t.line }

-- the input with this fault noted, where none came before it
abbrev pub with_fault : Option Note → Input → Input
with_fault fault p = record p { fault = earliest p.fault fault }

-- the same input where this fault was noted before
abbrev pub behind_fault : Option Note → Input → Input
behind_fault fault p = record p { fault = earliest fault p.fault }

-- a value and the input after it, or why there is none and the tokens from the one that decides so
pub data Outcome (A : Type 0) : Type 0 where
  Got : A → Input → Outcome A
  Stop : Why → List Token → Outcome A

-- the tokens that are left
abbrev pub left : {A : Type 0} → Outcome A → List Token
left (Got a p) = p.rest
left (Stop why rest) = rest

-- goes on with the value and the input after it, where there is a value
abbrev pub then_read : {A B : Type 0} → Outcome A → (A → Input → Outcome B) → Outcome B
then_read (Got a p) f = f a p
then_read (Stop why rest) f = Stop why rest

-- the outcome, where this fault was noted before
abbrev pub noted_before : {A : Type 0} → Option Note → Outcome A → Outcome A
noted_before fault (Got a p) = Got a (behind_fault fault p)
noted_before fault (Stop why rest) = Stop why rest

-- a production of a grammar
pub record Form (A : Type 0) : Type 1 where
  -- from the first input on, tokens spell the value up to the second
  pub spells : Input → A → Input → Type 0
  -- the tokens are the form, or stop within it
  pub cut : Input → Type 0
  -- what a parser answers that goes from left to right
  pub reads : Input → Outcome A

-- ---- nothing

-- this value, and no token
abbrev pub pure : {A : Type 0} → A → Form A
pure a = record {
  spells = λ p b q. (a ≡ b) × (p ≡ q);
  cut = λ p. p.rest ≡ [];
  reads = λ p. Got a p;
}

-- no value, and no token, for this reason
abbrev pub refuse : {A : Type 0} → Why → Form A
refuse why = record {
  spells = λ p b q. ⊥;
  cut = λ p. p.rest ≡ [];
  reads = λ p. Stop why p.rest;
}

-- a name fault, where there is one; of all that are noted the first in the order of tokens stays
abbrev pub note : Option Note → Form (Unit {0})
note fault = record {
  spells = λ p b q. with_fault fault p ≡ q;
  cut = λ p. p.rest ≡ [];
  reads = λ p. Got tt (with_fault fault p);
}

-- ---- one after the other

infixl 10 ◌>>=◌
-- one form, and then the one that its value chooses
abbrev pub ◌>>=◌ : {A B : Type 0} → Form A → (A → Form B) → Form B
◌>>=◌ {A = A} {B = B} f g = record {
  spells = λ p b q. (a : A) × (mid : Input) × f.spells p a mid × (g a).spells mid b q;
  cut = λ p. f.cut p ⊎ ((a : A) × (mid : Input) × f.spells p a mid × (g a).cut mid);
  reads = λ p. then_read (f.reads p) (λ a q. (g a).reads q);
}

infixl 10 ◌>>◌
-- one form, and then the other, whose value counts
abbrev pub ◌>>◌ : {A B : Type 0} → Form A → Form B → Form B
f >> g = f >>= (λ _. g)

infixr 11 ◌<$>◌
-- a form with its value changed
abbrev pub ◌<$>◌ : {A B : Type 0} → (A → B) → Form A → Form B
f <$> p = p >>= (λ x. pure (f x))

-- ---- one token

-- the first of these tokens spells the value
abbrev pub one_spells : {A : Type 0} → (Position → TokenKind → Option A) →
    List Token → Input → A → Input → Type 0
one_spells test [] p a q = ⊥
one_spells test (t ∷ ts) p a q = (test (position_of p t) t.kind ≡ Some a) × (past ts p ≡ q)

-- there is no token, or one that the test takes and no other
abbrev pub one_cut : {A : Type 0} → (Position → TokenKind → Option A) → List Token → Input → Type 0
one_cut {A = A} test [] p = Unit {0}
one_cut {A = A} test (t ∷ ts) p = ((a : A) × (test (position_of p t) t.kind ≡ Some a)) × (ts ≡ [])

-- the value of the token, where it has one; else it stops there
abbrev pub taken_as : {A : Type 0} → Option A → Token → List Token → Input → Outcome A
taken_as (Some a) t ts p = Got a (past ts p)
taken_as None t ts p = Stop Syntax (t ∷ ts)

-- the value of the first of these tokens, where the test takes it
abbrev pub one_reads : {A : Type 0} → (Position → TokenKind → Option A) →
    List Token → Input → Outcome A
one_reads test [] p = Stop Syntax []
one_reads test (t ∷ ts) p = taken_as (test (position_of p t) t.kind) t ts p

-- a token that the test takes
abbrev pub one : {A : Type 0} → (Position → TokenKind → Option A) → Form A
one test = record {
  spells = λ p. one_spells test p.rest p;
  cut = λ p. one_cut test p.rest p;
  reads = λ p. one_reads test p.rest p;
}

-- the position of the next token, which is not taken; none where no token is left
abbrev pub next_position : List Token → Input → Option Position
next_position [] p = None
next_position (t ∷ ts) p = Some (position_of p t)

-- the position of the next token, and no token
abbrev pub here : Form (Option Position)
here = record {
  spells = λ p a q. (next_position p.rest p ≡ a) × (p ≡ q);
  cut = λ p. p.rest ≡ [];
  reads = λ p. Got (next_position p.rest p) p;
}

-- ---- by the next token

-- the kind of the next token
abbrev pub next : List Token → Option TokenKind
next [] = None
next (t ∷ ts) = Some t.kind

-- there is no token, or the tokens are cut in the form that the next one chooses
abbrev pub by_cut : {A : Type 0} → (Option TokenKind → Form A) → Input → List Token → Type 0
by_cut choice p [] = Unit {0}
by_cut choice p (t ∷ ts) = (choice (Some t.kind)).cut p

-- the form that the next token chooses, which is not taken by that
abbrev pub by : {A : Type 0} → (Option TokenKind → Form A) → Form A
by choice = record {
  spells = λ p a q. (choice (next p.rest)).spells p a q;
  cut = λ p. by_cut choice p p.rest;
  reads = λ p. (choice (next p.rest)).reads p;
}

-- ---- as long as a token begins a turn

-- there is a next token, and it begins a turn
abbrev pub begins_by : (TokenKind → Bool) → Option TokenKind → Bool
begins_by begin None = false
begins_by begin (Some kind) = begin kind

-- the next token begins a turn
abbrev pub is_next : (TokenKind → Bool) → Input → Bool
is_next begin p = begins_by begin (next p.rest)

-- the tokens spell so many turns, and then no other one
abbrev pub loop_spells : {S : Type 0} → (S → TokenKind → Bool) → (S → Form S) →
    ℕ → S → Input → S → Input → Type 0
loop_spells begin step zero s p last q = (is_next (begin s) p ≡ false) × (s ≡ last) × (p ≡ q)
loop_spells {S = S} begin step (suc n) s p last q =
    (is_next (begin s) p ≡ true)
    × ((mid : S) × (behind : Input)
    × (step s).spells p mid behind × loop_spells begin step n mid behind last q)

-- the tokens are so many turns, and then nothing or a part of another one
abbrev pub loop_cut : {S : Type 0} → (S → TokenKind → Bool) → (S → Form S) → ℕ → S → Input → Type 0
loop_cut begin step zero s p = (p.rest ≡ []) ⊎ ((is_next (begin s) p ≡ true) × (step s).cut p)
loop_cut {S = S} begin step (suc n) s p =
    (is_next (begin s) p ≡ true)
    × ((mid : S) × (behind : Input)
    × (step s).spells p mid behind × loop_cut begin step n mid behind)

-- turns while a token begins one, at most so many
unfoldable pub loop_reads : {S : Type 0} → (S → TokenKind → Bool) → (S → Form S) →
    ℕ → S → Input → Outcome S
loop_reads begin step zero s p = Got s p
loop_reads begin step (suc n) s p =
    if is_next (begin s) p
    then then_read ((step s).reads p) (λ mid q. loop_reads begin step n mid q)
    else Got s p

-- Turns that carry a value, as many as there are. A token begins a turn where the value so far lets
-- it. Each takes a token, so there are no more than tokens.
abbrev pub loop_while : {S : Type 0} → (S → TokenKind → Bool) → (S → Form S) → S → Form S
loop_while begin step s = record {
  spells = λ p last q. (n : ℕ) × loop_spells begin step n s p last q;
  cut = λ p. (n : ℕ) × loop_cut begin step n s p;
  reads = λ p. loop_reads begin step (length p.rest) s p;
}

-- any number of turns, each of which the next token alone begins
abbrev pub loop : {S : Type 0} → (TokenKind → Bool) → (S → Form S) → S → Form S
loop begin step s = loop_while (λ _. begin) step s

-- ---- made of these

-- one of two forms
abbrev pub chosen : {A : Type 0} → Bool → Form A → Form A → Form A
chosen true there other = there
chosen false there other = other

-- the one form, where the next token is one of these, or else the other
abbrev pub where_next : {A : Type 0} → (TokenKind → Bool) → Form A → Form A → Form A
where_next begin there other = by (λ kind. chosen (begins_by begin kind) there other)

-- a list with one item more
abbrev pub added : {A : Type 0} → Form A → List A → Form (List A)
added item front = item >>= (λ x. pure (front ++ x ∷ []))

-- any number of items, one after the other
abbrev pub many : {A : Type 0} → (TokenKind → Bool) → Form A → Form (List A)
many begin item = loop begin (added item) []

-- one or more
abbrev pub some : {A : Type 0} → (TokenKind → Bool) → Form A → Form (List A)
some begin item = item >>= (λ x. loop begin (added item) (x ∷ []))
