-- What forms give where the next token is known.
use Rattle.std.proofs.Common.{◌≡◌, ℕ, zero, suc, Bool, true, false, if◌then◌else◌, List, [], ◌∷◌, length, Option, Some, None, refl, sym, ap, subst, ◌∙◌}
use Rattle.cobol_lex.specs.declared.token.Token.{Token}
use Rattle.cobol_lex.specs.declared.token.TokenKind.{TokenKind}
use Rattle.cobol_lex.specs.declared.token.TokenKind.TheVariants as kinds
use Rattle.parser_combinators.specs.declared.note.Position.{Position}
use Rattle.parser_combinators.specs.Form as form
use Rattle.parser_combinators.specs.Form.{Input, Got, Form, then_read, past, position_of, taken_as, one_reads, is_next, begins_by, next, loop_reads}
use Rattle.parser_combinators.specs.Part as part
use Rattle.parser_combinators.proofs.Lawful.{got_is, then_got}
use Rattle.grammar_laws.specs.form_results.Giving.{AreOf, Gives}
use Rattle.grammar_laws.proofs.form_results_lemmas.Giving as giving

-- as `Gives`, from a token that is known
pub record GivesFrom (Start : Option TokenKind → Type 0) (Kind : TokenKind → Type 0) {A : Type 0} (f : Form A) (Has : A → Type 0) : Type 0 where
  pub keeps : (p : Input) (a : A) (q : Input) → f.reads p ≡ Got a q → AreOf Kind p.rest → AreOf Kind q.rest
  pub gives : (p : Input) (a : A) (q : Input) → Start (next p.rest) → f.reads p ≡ Got a q → AreOf Kind p.rest → q.fault ≡ None → (p.fault ≡ None) × Has a

-- a token that begins this
abbrev pub Begins : (TokenKind → Bool) → Option TokenKind → Type 0
Begins begin o = begins_by begin o ≡ true

-- ---- turns of a loop, at most so many

module _ {S : Type 0} (Kind : TokenKind → Type 0) (begin : TokenKind → Bool) (step : S → Form S) (P : S → Type 0) (G : (s : S) → Gives Kind (step s) (λ last. P s → P last)) where
  abbrev Ends : S → Input → S → Input → Type 0
  Ends s p a q = (AreOf Kind p.rest → AreOf Kind q.rest) × (AreOf Kind p.rest → q.fault ≡ None → (p.fault ≡ None) × (P s → P a))

  turns : (n : ℕ) (s : S) (p : Input) (a : S) (q : Input) → loop_reads (λ _. begin) step n s p ≡ Got a q → Ends s p a q
  unfolding loop_reads
  turns zero s p a q e =
      let h = got_is s a p q e in
      (λ k. subst (λ r. AreOf Kind r.rest) h.1 k, λ k n. (ap (λ r. r.fault) h.1 ∙ n, subst P h.0))
  turns (suc n) s p a q e = turn (λ x r. turns n x r a q) (is_next begin p) e
    where
      turn : ((x : S) (r : Input) → loop_reads (λ _. begin) step n x r ≡ Got a q → Ends x r a q) → (b : Bool) → (if b then then_read ((step s).reads p) (λ x r. loop_reads (λ _. begin) step n x r) else Got s p) ≡ Got a q → Ends s p a q
      turn again true e =
          let h = then_got ((step s).reads p) (λ x r. loop_reads (λ _. begin) step n x r) a q e in
          let rest = again h.0 h.1 h.3 in (
            λ k. rest.0 ((G s).keeps p h.0 h.1 h.2 k),
            λ k n. let behind = rest.1 ((G s).keeps p h.0 h.1 h.2 k) n in
                let before = (G s).gives p h.0 h.1 h.2 k behind.0 in
                (before.0, λ x. behind.1 (before.1 x)),
          )
      turn again false e =
          let h = got_is s a p q e in
          (λ k. subst (λ r. AreOf Kind r.rest) h.1 k, λ k n. (ap (λ r. r.fault) h.1 ∙ n, subst P h.0))

  -- one turn at least, from a token that begins one
  first_turn : {X : Type 0} (s : S) → Gives Kind (step s) (λ mid. X → P mid) → (rest : List Token) (p : Input) (a : S) (q : Input) → begins_by begin (next rest) ≡ true → p.rest ≡ rest →
      loop_reads (λ _. begin) step (length rest) s p ≡ Got a q → (AreOf Kind p.rest → q.fault ≡ None → (p.fault ≡ None) × (X → P a))
  unfolding loop_reads
  first_turn s F [] p a q b r e = absurd cc
  first_turn {X = X} s F (t ∷ rest) p a q b r e = turn (is_next begin p) (ap (λ ts. begins_by begin (next ts)) r ∙ b) e
    where
      turn : (b : Bool) → b ≡ true → (if b then then_read ((step s).reads p) (λ x r. loop_reads (λ _. begin) step (length rest) x r) else Got s p) ≡ Got a q →
          (AreOf Kind p.rest → q.fault ≡ None → (p.fault ≡ None) × (X → P a))
      turn true is e =
          let h = then_got ((step s).reads p) (λ x r. loop_reads (λ _. begin) step (length rest) x r) a q e in
          λ k n.
          let behind = (turns (length rest) h.0 h.1 a q h.3).1 (F.keeps p h.0 h.1 h.2 k) n in
          let before = F.gives p h.0 h.1 h.2 k behind.0 in
          (before.0, λ x. behind.1 (before.1 x))
      turn false is e = absurd cc

module _ {Kind : TokenKind → Type 0} {Start : Option TokenKind → Type 0} where
  pub from : {A : Type 0} {f : Form A} {P : A → Type 0} → Gives Kind f P → GivesFrom Start Kind f P
  from F = record { keeps = F.keeps; gives = λ p a q s e k n. F.gives p a q e k n }

  pub hence_from : {A : Type 0} {f : Form A} {P Q : A → Type 0} → ((a : A) → P a → Q a) → GivesFrom Start Kind f P → GivesFrom Start Kind f Q
  hence_from h F = record {
    keeps = F.keeps;
    gives = λ p a q s e k n. let g = F.gives p a q s e k n in (g.0, h a g.1);
  }

  pub bind_from : {A B : Type 0} {f : Form A} {g : A → Form B} {P : A → Type 0} {Q : B → Type 0} →
      GivesFrom Start Kind f P → ((a : A) → Gives Kind (g a) (λ b. P a → Q b)) → GivesFrom Start Kind (form.◌>>=◌ f g) Q
  bind_from {f = f} {g = g} F G = record {
    keeps = λ p b q e k.
        let s = then_got (f.reads p) (λ a r. (g a).reads r) b q e in
        (G s.0).keeps s.1 b q s.3 (F.keeps p s.0 s.1 s.2 k);
    gives = λ p b q start e k n.
        let s = then_got (f.reads p) (λ a r. (g a).reads r) b q e in
        let behind = (G s.0).gives s.1 b q s.3 (F.keeps p s.0 s.1 s.2 k) n in
        let before = F.gives p s.0 s.1 start s.2 k behind.0 in
        (before.0, behind.1 before.1);
  }

  -- whichever is chosen
  pub branch_from : {A : Type 0} {begin : TokenKind → Bool} {there other : Form A} {P : A → Type 0} →
      GivesFrom Start Kind there P → GivesFrom Start Kind other P → GivesFrom Start Kind (form.where_next begin there other) P
  branch_from {A = A} {begin = begin} {there = there} {other = other} {P = P} T O = record {
    keeps = λ p. keeps (begins_by begin (next p.rest)) p;
    gives = λ p. gives (begins_by begin (next p.rest)) p;
  }
    where
      keeps : (b : Bool) (p : Input) (a : A) (q : Input) → (form.chosen b there other).reads p ≡ Got a q → AreOf Kind p.rest → AreOf Kind q.rest
      keeps true = T.keeps
      keeps false = O.keeps

      gives : (b : Bool) (p : Input) (a : A) (q : Input) → Start (next p.rest) → (form.chosen b there other).reads p ≡ Got a q → AreOf Kind p.rest → q.fault ≡ None → (p.fault ≡ None) × P a
      gives true = T.gives
      gives false = O.gives

  -- a word, which is the token
  pub word_from : GivesFrom Start Kind part.word (λ found. Kind (kinds.Word found.0) × Start (Some (kinds.Word found.0)))
  word_from = record {
    keeps = giving.word.keeps;
    gives = λ p. token p.rest p;
  }
    where
      some_is : (x y : List ℕ × Position) → Some x ≡ Some y → x.0 ≡ y.0
      some_is x y e = cc

      by_kind : (kind : TokenKind) (position : Position) (found : List ℕ × Position) → part.with_position position (part.word_of kind) ≡ Some found → kinds.Word found.0 ≡ kind
      by_kind (kinds.Word word) position found e = ap (λ w. kinds.Word w) (sym (some_is (word, position) found e))
      by_kind (kinds.Digits digits) position found e = absurd cc
      by_kind (kinds.Decimal number) position found e = absurd cc
      by_kind (kinds.Literal text) position found e = absurd cc
      by_kind (kinds.Picture picture) position found e = absurd cc
      by_kind kinds.Period position found e = absurd cc
      by_kind (kinds.Mark byte) position found e = absurd cc
      by_kind kinds.LessEqual position found e = absurd cc
      by_kind kinds.GreaterEqual position found e = absurd cc
      by_kind kinds.Power position found e = absurd cc

      taken : (t : Token) (ts : List Token) (p : Input) (a : List ℕ × Position) (q : Input) (o : Option (List ℕ × Position)) → part.with_position (position_of p t) (part.word_of t.kind) ≡ o →
          taken_as o t ts p ≡ Got a q → Start (Some t.kind) → Kind t.kind → q.fault ≡ None → (p.fault ≡ None) × (Kind (kinds.Word a.0) × Start (Some (kinds.Word a.0)))
      taken t ts p a q (Some b) is e s k n =
          let g = got_is b a (past ts p) q e in
          let w = by_kind t.kind (position_of p t) a (is ∙ ap (λ x. Some x) g.0) in
          (ap (λ r. r.fault) g.1 ∙ n, (subst Kind (sym w) k, subst (λ x. Start (Some x)) (sym w) s))
      taken t ts p a q None is e s k n = absurd cc

      token : (rest : List Token) (p : Input) (a : List ℕ × Position) (q : Input) → Start (next rest) → one_reads (λ position kind. part.with_position position (part.word_of kind)) rest p ≡ Got a q →
          AreOf Kind rest → q.fault ≡ None → (p.fault ≡ None) × (Kind (kinds.Word a.0) × Start (Some (kinds.Word a.0)))
      token [] p a q s e k n = absurd cc
      token (t ∷ ts) p a q s e k n = taken t ts p a q (part.with_position (position_of p t) (part.word_of t.kind)) refl e s k.0 n

module _ {Kind : TokenKind → Type 0} where
  -- where such a token is next, it is known there
  pub where_begun : {A : Type 0} {begin : TokenKind → Bool} {there other : Form A} {P : A → Type 0} →
      GivesFrom (Begins begin) Kind there P → Gives Kind other P → Gives Kind (form.where_next begin there other) P
  where_begun {A = A} {begin = begin} {there = there} {other = other} {P = P} T O = record {
    keeps = λ p. keeps (begins_by begin (next p.rest)) p;
    gives = λ p. gives p (begins_by begin (next p.rest)) refl;
  }
    where
      keeps : (b : Bool) (p : Input) (a : A) (q : Input) → (form.chosen b there other).reads p ≡ Got a q → AreOf Kind p.rest → AreOf Kind q.rest
      keeps true = T.keeps
      keeps false = O.keeps

      gives : (p : Input) (b : Bool) → begins_by begin (next p.rest) ≡ b → (a : A) (q : Input) → (form.chosen b there other).reads p ≡ Got a q → AreOf Kind p.rest → q.fault ≡ None → (p.fault ≡ None) × P a
      gives p true is a q e k n = T.gives p a q is e k n
      gives p false is a q e k n = O.gives p a q e k n

  -- a loop of one turn at least
  pub loop_begun : {S X : Type 0} {begin : TokenKind → Bool} {step : S → Form S} {s : S} {P : S → Type 0} →
      Gives Kind (step s) (λ mid. X → P mid) → ((s : S) → Gives Kind (step s) (λ last. P s → P last)) →
      GivesFrom (Begins begin) Kind (form.loop begin step s) (λ last. X → P last)
  loop_begun {begin = begin} {step = step} {s = s} {P = P} F G = record {
    keeps = λ p a q e. (turns Kind begin step P G (length p.rest) s p a q e).0;
    gives = λ p a q b e. first_turn Kind begin step P G s F p.rest p a q b refl e;
  }

  -- digits, which are the token
  pub digits : Gives Kind part.digits (λ found. Kind (kinds.Digits found.0))
  digits = giving.valued part.digits_of by_kind
    where
      some_is : (x y : List ℕ) → Some x ≡ Some y → x ≡ y
      some_is x y e = cc

      by_kind : (kind : TokenKind) (digits : List ℕ) → Kind kind → part.digits_of kind ≡ Some digits → Kind (kinds.Digits digits)
      by_kind (kinds.Digits found) digits k e = subst (λ d. Kind (kinds.Digits d)) (some_is found digits e) k
      by_kind (kinds.Word word) digits k e = absurd cc
      by_kind (kinds.Decimal number) digits k e = absurd cc
      by_kind (kinds.Literal text) digits k e = absurd cc
      by_kind (kinds.Picture picture) digits k e = absurd cc
      by_kind kinds.Period digits k e = absurd cc
      by_kind (kinds.Mark byte) digits k e = absurd cc
      by_kind kinds.LessEqual digits k e = absurd cc
      by_kind kinds.GreaterEqual digits k e = absurd cc
      by_kind kinds.Power digits k e = absurd cc
