-- What a form that was read was read of.
use Rattle.std.proofs.Common.{◌≡◌, Bool, true, false, ◌⊎◌, inl, inr, List, [], ◌∷◌, ◌++◌, Option, Some, None, refl, ap, sym, ◌∙◌}
use Rattle.cobol_lex.specs.declared.token.Token.{Token}
use Rattle.cobol_lex.specs.declared.token.TokenKind.{TokenKind}
use Rattle.parser_combinators.specs.declared.note.Note.{Note}
use Rattle.parser_combinators.specs.declared.note.Position.{Position}
use Rattle.parser_combinators.specs.Form.{Input, Got, Form, past, position_of, taken_as, one_reads, next, is_next, chosen, where_next, added, with_fault, note}
use Rattle.parser_combinators.specs.Part.{when, sign, with_position, valued, ended_by, ended}
use Rattle.parser_combinators.proofs.Lawful.{got_is, then_got}

-- ---- one token

-- the token that was taken, which the test takes
one : {A : Type 0} (test : Position → TokenKind → Option A) (ts : List Token) (p : Input) (a : A) (q : Input) → one_reads test ts p ≡ Got a q →
    (t : Token) × (ts ≡ t ∷ q.rest) × (test (position_of p t) t.kind ≡ Some a)
one test [] p a q e = absurd cc
one {A = A} test (t ∷ ts) p a q e = go (test (position_of p t) t.kind) refl e
  where
    go : (o : Option A) → test (position_of p t) t.kind ≡ o → taken_as o t ts p ≡ Got a q → (u : Token) × (t ∷ ts ≡ u ∷ q.rest) × (test (position_of p u) u.kind ≡ Some a)
    go (Some b) is e = let g = got_is b a (past ts p) q e in (t, ap (λ r. t ∷ r.rest) g.1, is ∙ ap Some g.0)
    go None is e = absurd cc

holds : (b : Bool) (position found : Position) → when b position ≡ Some found → b ≡ true
holds true position found e = refl
holds false position found e = absurd cc

pub sign-of : (test : TokenKind → Bool) (p : Input) (a : Position) (q : Input) → (sign test).reads p ≡ Got a q → (t : Token) × (p.rest ≡ t ∷ q.rest) × (test t.kind ≡ true)
sign-of test p a q e =
    let s = one (λ position kind. when (test kind) position) p.rest p a q e in
    (s.0, s.1, holds (test s.0.kind) (position_of p s.0) a s.2)

place-is : {A : Type 0} (o : Option A) (position : Position) (a : A × Position) → with_position position o ≡ Some a → a.1.index ≡ position.index
place-is {A = A} (Some x) position a e = sym (ap (λ b. b.1.index) (some_is (x, position) a e))
  where
    some_is : (b c : A × Position) → Some b ≡ Some c → b ≡ c
    some_is b c e = cc
place-is None position a e = absurd cc

pub value-is : {A : Type 0} (o : Option A) (position : Position) (a : A × Position) → with_position position o ≡ Some a → o ≡ Some a.0
value-is {A = A} (Some x) position a e = ap Some (ap (λ b. b.0) (some_is (x, position) a e))
  where
    some_is : (b c : A × Position) → Some b ≡ Some c → b ≡ c
    some_is b c e = cc
value-is None position a e = absurd cc

pub value-of : {A : Type 0} (test : TokenKind → Option A) (p : Input) (a : A × Position) (q : Input) → (valued test).reads p ≡ Got a q →
    (t : Token) × (p.rest ≡ t ∷ q.rest) × (test t.kind ≡ Some a.0) × (a.1.index ≡ p.taken)
value-of test p a q e =
    let s = one (λ position kind. with_position position (test kind)) p.rest p a q e in
    (s.0, s.1, value-is (test s.0.kind) (position_of p s.0) a s.2, place-is (test s.0.kind) (position_of p s.0) a s.2)

-- ---- by the next token

pub where-got : {A : Type 0} (begin : TokenKind → Bool) (there other : Form A) (p : Input) (a : A) (q : Input) → (where_next begin there other).reads p ≡ Got a q →
    ((is_next begin p ≡ true) × (there.reads p ≡ Got a q)) ⊎ ((is_next begin p ≡ false) × (other.reads p ≡ Got a q))
where-got begin there other p a q e = go (is_next begin p) refl e
  where
    go : (b : Bool) → is_next begin p ≡ b → (chosen b there other).reads p ≡ Got a q →
        ((is_next begin p ≡ true) × (there.reads p ≡ Got a q)) ⊎ ((is_next begin p ≡ false) × (other.reads p ≡ Got a q))
    go true is e = inl (is, e)
    go false is e = inr (is, e)

pub none-left : (p : Input) (a : Unit {0}) (q : Input) → ended.reads p ≡ Got a q → p.rest ≡ []
none-left p a q e = go p.rest e
  where
    go : (ts : List Token) → (ended_by (next ts)).reads p ≡ Got a q → ts ≡ []
    go [] e = refl
    go (t ∷ ts) e = absurd cc

-- ---- one more in a list

pub added-got : {A : Type 0} (item : Form A) (front : List A) (p : Input) (list : List A) (q : Input) → (added item front).reads p ≡ Got list q →
    (x : A) × (item.reads p ≡ Got x q) × (front ++ x ∷ [] ≡ list)
added-got item front p list q e =
    let s = then_got (item.reads p) _ list q e in
    let g = got_is (front ++ s.0 ∷ []) list s.1 q s.3 in
    (s.0, s.2 ∙ ap (λ r. Got s.0 r) g.1, g.0)

-- what a note leaves
pub note-is : (fault : Option Note) (p : Input) (a : Unit {0}) (q : Input) → (note fault).reads p ≡ Got a q → with_fault fault p ≡ q
note-is fault p a q e = (got_is tt a (with_fault fault p) q e).1
