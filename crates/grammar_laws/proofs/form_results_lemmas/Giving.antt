-- What the makers of forms give, each law written as the form is.
use Rattle.std.proofs.Common.{◌≡◌, ℕ, zero, suc, Bool, true, false, if◌then◌else◌, List, [], ◌∷◌, ◌++◌, length, map, Option, Some, None, refl, sym, ap, subst, ◌∙◌}
use Rattle.cobol_lex.specs.declared.token.Token.{Token}
use Rattle.cobol_lex.specs.declared.token.TokenKind.{TokenKind}
use Rattle.parser_combinators.specs.declared.note.Note.{Note}
use Rattle.parser_combinators.specs.declared.note.Position.{Position}
use Rattle.parser_combinators.specs.Note.{precedes, earliest}
use Rattle.parser_combinators.specs.declared.why.Why.{Why}
use Rattle.parser_combinators.specs.Form as form
use Rattle.parser_combinators.specs.Form.{Input, with_fault, behind_fault, noted_before, left, Outcome, Got, Stop, Form, then_read, past, position_of, taken_as, one_reads, is_next, begins_by, loop_reads}
use Rattle.parser_combinators.specs.Part as parts
use Rattle.parser_combinators.proofs.Lawful.{Lawful, got_is, then_got}
use Rattle.parser_combinators.proofs.MakerLaws.{Law}
use Rattle.control_flow_theory.specs.language.All.{all}
use Rattle.program_facts.specs.well_scoped.Part.{is_filled}
use Rattle.program_facts.proofs.well_scoped_lemmas.Made.{both, all-added, filled-added}
use Rattle.grammar_laws.specs.form_results.Giving.{AreOf, Gives}

-- where no fault is the earlier one of two, neither is any
none_of : (early late : Option Note) → earliest early late ≡ None → (early ≡ None) × (late ≡ None)
none_of None late e = (refl, e)
none_of (Some early) None e = absurd cc
none_of (Some early) (Some late) e = go (precedes late early) e
  where
    go : (b : Bool) → (if b then Some late else Some early) ≡ None → (Some early ≡ None) × (Some late ≡ None)
    go true e = absurd cc
    go false e = absurd cc

-- ---- one token

one_keeps : {A : Type 0} (Kind : TokenKind → Type 0) (test : Position → TokenKind → Option A) (ts : List Token) (p : Input) (a : A) (q : Input) →
    one_reads test ts p ≡ Got a q → AreOf Kind ts → AreOf Kind q.rest
one_keeps Kind test [] p a q e k = absurd cc
one_keeps {A = A} Kind test (t ∷ ts) p a q e k = go (test (position_of p t) t.kind) e
  where
    go : (o : Option A) → taken_as o t ts p ≡ Got a q → AreOf Kind q.rest
    go (Some b) e = subst (λ r. AreOf Kind r.rest) (got_is b a (past ts p) q e).1 k.1
    go None e = absurd cc

one_gives : {A : Type 0} (Kind : TokenKind → Type 0) (test : Position → TokenKind → Option A) (P : A → Type 0) →
    ((position : Position) (kind : TokenKind) (a : A) → Kind kind → test position kind ≡ Some a → P a) →
    (ts : List Token) (p : Input) (a : A) (q : Input) →
    one_reads test ts p ≡ Got a q → AreOf Kind ts → q.fault ≡ None → (p.fault ≡ None) × P a
one_gives Kind test P h [] p a q e k n = absurd cc
one_gives {A = A} Kind test P h (t ∷ ts) p a q e k n = go (test (position_of p t) t.kind) refl e
  where
    go : (o : Option A) → test (position_of p t) t.kind ≡ o → taken_as o t ts p ≡ Got a q → (p.fault ≡ None) × P a
    go (Some b) is e =
        let s = got_is b a (past ts p) q e in
        (ap (λ r. r.fault) s.1 ∙ n, h (position_of p t) t.kind a k.0 (is ∙ ap (λ x. Some x) s.0))
    go None is e = absurd cc

-- ---- loops

-- the turns of a loop: what is left, and what is noted
turns : {S : Type 0} (Kind : TokenKind → Type 0) (begin : S → TokenKind → Bool) (step : S → Form S) (P : S → Type 0) →
    ((s : S) → Gives Kind (step s) (λ last. P s → P last)) →
    (n : ℕ) (s : S) (p : Input) (a : S) (q : Input) → loop_reads begin step n s p ≡ Got a q →
    (AreOf Kind p.rest → AreOf Kind q.rest) × (AreOf Kind p.rest → q.fault ≡ None → (p.fault ≡ None) × (P s → P a))
unfolding loop_reads
turns Kind begin step P G zero s p a q e =
    let h = got_is s a p q e in
    (λ k. subst (λ r. AreOf Kind r.rest) h.1 k, λ k n. (ap (λ r. r.fault) h.1 ∙ n, subst P h.0))
turns {S = S} Kind begin step P G (suc n) s p a q e = turn (λ x r. turns Kind begin step P G n x r a q) (is_next (begin s) p) e
  where
    Ends : S → Input → Type 0
    Ends x r = (AreOf Kind r.rest → AreOf Kind q.rest) × (AreOf Kind r.rest → q.fault ≡ None → (r.fault ≡ None) × (P x → P a))

    turn : ((x : S) (r : Input) → loop_reads begin step n x r ≡ Got a q → Ends x r) → (b : Bool) →
        (if b then then_read ((step s).reads p) (λ x r. loop_reads begin step n x r) else Got s p) ≡ Got a q → Ends s p
    turn again true e =
        let h = then_got ((step s).reads p) (λ x r. loop_reads begin step n x r) a q e in
        let rest = again h.0 h.1 h.3 in (
          λ k. rest.0 ((G s).keeps p h.0 h.1 h.2 k),
          λ k n. let behind = rest.1 ((G s).keeps p h.0 h.1 h.2 k) n in
              let before = (G s).gives p h.0 h.1 h.2 k behind.0 in
              (before.0, λ x. behind.1 (before.1 x)),
        )
    turn again false e =
        let h = got_is s a p q e in
        (λ k. subst (λ r. AreOf Kind r.rest) h.1 k, λ k n. (ap (λ r. r.fault) h.1 ∙ n, subst P h.0))

-- ---- of a form that is lawful, where nothing is asked of its values

end_kinds : (Kind : TokenKind → Type 0) (used rest : List Token) → AreOf Kind (used ++ rest) → AreOf Kind rest
end_kinds Kind [] rest k = k
end_kinds Kind (t ∷ used) rest k = end_kinds Kind used rest k.1

some_apart : {note : Note} → Some note ≡ None → ⊥
some_apart e = cc

clear_got : {A : Type 0} (note : Note) (o : Outcome A) (a : A) (q : Input) → noted_before (Some note) o ≡ Got a q → q.fault ≡ None → ⊥
clear_got note (Got b r) a q e n = some_apart (none_of (Some note) r.fault (ap (λ i. i.fault) (got_is b a (behind_fault (Some note) r) q e).1 ∙ n)).0
clear_got note (Stop why rest) a q e n = absurd cc

clear : {A : Type 0} {f : Form A} → Lawful f → (p : Input) (a : A) (q : Input) → f.reads p ≡ Got a q → q.fault ≡ None → p.fault ≡ None
clear {A = A} {f = f} F p a q e n = go p.fault refl
  where
    go : (o : Option Note) → p.fault ≡ o → p.fault ≡ None
    go None is = is
    go (Some note) is =
        let bare : Input = record p { fault = None } in
        let same : p ≡ behind_fault (Some note) bare = ap (λ fault. record p { fault = fault }) is in
        absurd (clear_got note (f.reads bare) a q (sym (ap f.reads same ∙ F.noted bare (Some note)) ∙ e) n)

module _ {Kind : TokenKind → Type 0} where
  -- what follows from what a form gives
  pub hence : {A : Type 0} {f : Form A} {P Q : A → Type 0} → ((a : A) → P a → Q a) → Gives Kind f P → Gives Kind f Q
  hence h F = record {
    keeps = F.keeps;
    gives = λ p a q e k n. let s = F.gives p a q e k n in (s.0, h a s.1);
  }

  -- the same, whatever is known before
  pub still : {A : Type 0} {f : Form A} {P : A → Type 0} {X : Type 0} → Gives Kind f P → Gives Kind f (λ a. X → P a)
  still F = hence (λ a h _. h) F

  pub any : {A : Type 0} {b : Bool} {f : Form A} → Law b f → Gives Kind f (λ _. Unit {0})
  any {f = f} F = record {
    keeps = λ p a q e k.
        let w = F.lawful.within p in
        end_kinds Kind w.0 q.rest (subst (λ ts. AreOf Kind ts) (w.1 ∙ ap (λ o. w.0 ++ left o) e) k);
    gives = λ p a q e k n. (clear F.lawful p a q e n, tt);
  }

  pub pure : {A : Type 0} {a : A} {P : A → Type 0} → P a → Gives Kind (form.pure a) P
  pure {a = a} {P = P} h = record {
    keeps = λ p b q e k. subst (λ r. AreOf Kind r.rest) (got_is a b p q e).1 k;
    gives = λ p b q e k n. let s = got_is a b p q e in (ap (λ r. r.fault) s.1 ∙ n, subst P s.0 h);
  }

  pub refuse : {A : Type 0} {why : Why} {P : A → Type 0} → Gives Kind (form.refuse {A = A} why) P
  refuse = record { keeps = λ p b q e k. absurd cc; gives = λ p b q e k n. absurd cc }

  pub note : {fault : Option Note} → Gives Kind (form.note fault) (λ _. fault ≡ None)
  note {fault = fault} = record {
    keeps = λ p b q e k. subst (λ r. AreOf Kind r.rest) (got_is tt b (with_fault fault p) q e).1 k;
    gives = λ p b q e k n. none_of p.fault fault (ap (λ r. r.fault) (got_is tt b (with_fault fault p) q e).1 ∙ n);
  }

  infixl 10 ◌>>=◌
  pub ◌>>=◌ : {A B : Type 0} {f : Form A} {g : A → Form B} {P : A → Type 0} {Q : B → Type 0} →
      Gives Kind f P → ((a : A) → Gives Kind (g a) (λ b. P a → Q b)) → Gives Kind (form.◌>>=◌ f g) Q
  ◌>>=◌ {f = f} {g = g} F G = record {
    keeps = λ p b q e k.
        let s = then_got (f.reads p) (λ a r. (g a).reads r) b q e in
        (G s.0).keeps s.1 b q s.3 (F.keeps p s.0 s.1 s.2 k);
    gives = λ p b q e k n.
        let s = then_got (f.reads p) (λ a r. (g a).reads r) b q e in
        let behind = (G s.0).gives s.1 b q s.3 (F.keeps p s.0 s.1 s.2 k) n in
        let before = F.gives p s.0 s.1 s.2 k behind.0 in
        (before.0, behind.1 before.1);
  }

  infixl 10 ◌>>◌
  pub ◌>>◌ : {A B : Type 0} {f : Form A} {g : Form B} {P : A → Type 0} {Q : B → Type 0} →
      Gives Kind f P → Gives Kind g (λ b. ((a : A) × P a) → Q b) → Gives Kind (form.◌>>◌ f g) Q
  F >> G = F >>= (λ a. hence (λ b h k. h (a, k)) G)

  -- ---- one token, and by the next one

  pub one : {A : Type 0} (test : Position → TokenKind → Option A) {P : A → Type 0} →
      ((position : Position) (kind : TokenKind) (a : A) → Kind kind → test position kind ≡ Some a → P a) → Gives Kind (form.one test) P
  one test {P = P} h = record {
    keeps = λ p. one_keeps Kind test p.rest p;
    gives = λ p. one_gives Kind test P h p.rest p;
  }

  -- a token of which nothing is asked
  pub token : {A : Type 0} (test : Position → TokenKind → Option A) → Gives Kind (form.one test) (λ _. Unit {0})
  token test = one test (λ position kind a k e. tt)

  -- ---- by the next token, and by a choice

  pub by : {A : Type 0} {choice : Option TokenKind → Form A} {P : A → Type 0} → ((o : Option TokenKind) → Gives Kind (choice o) P) → Gives Kind (form.by choice) P
  by C = record {
    keeps = λ p. (C (form.next p.rest)).keeps p;
    gives = λ p. (C (form.next p.rest)).gives p;
  }

  pub chosen : {A : Type 0} (test : Bool) {there other : Form A} {P : A → Type 0} → Gives Kind there P → Gives Kind other P → Gives Kind (form.chosen test there other) P
  chosen true T O = T
  chosen false T O = O

  pub where_next : {A : Type 0} {begin : TokenKind → Bool} {there other : Form A} {P : A → Type 0} → Gives Kind there P → Gives Kind other P → Gives Kind (form.where_next begin there other) P
  where_next {begin = begin} T O = by (λ o. chosen (begins_by begin o) T O)

  pub unless : {A : Type 0} (why : Why) (passes : Bool) (a : A) {P : A → Type 0} → P a → Gives Kind (parts.unless why passes a) P
  unless why passes a h = chosen passes refuse (pure h)

  pub too_deep : {A : Type 0} {why : Why} {begin : TokenKind → Bool} {P : A → Type 0} → Gives Kind (parts.too_deep {A = A} why begin) P
  too_deep = where_next refuse refuse

  -- ---- loops

  pub loop_while : {S : Type 0} {begin : S → TokenKind → Bool} {step : S → Form S} {s : S} {P : S → Type 0} →
      ((s : S) → Gives Kind (step s) (λ last. P s → P last)) → Gives Kind (form.loop_while begin step s) (λ last. P s → P last)
  loop_while {begin = begin} {step = step} {s = s} {P = P} G = record {
    keeps = λ p a q e. (turns Kind begin step P G (length p.rest) s p a q e).0;
    gives = λ p a q e. (turns Kind begin step P G (length p.rest) s p a q e).1;
  }

  pub loop : {S : Type 0} {begin : TokenKind → Bool} {step : S → Form S} {s : S} {P : S → Type 0} →
      ((s : S) → Gives Kind (step s) (λ last. P s → P last)) → Gives Kind (form.loop begin step s) (λ last. P s → P last)
  loop {begin = begin} G = loop_while {begin = λ _. begin} G

-- ---- lists

-- one item at least, each of which passes a test
abbrev pub Full : {A : Type 0} → (A → Bool) → List A → Type 0
Full test list = (is_filled list ≡ true) × (all (map test list) ≡ true)

pub full-added : {A : Type 0} (test : A → Bool) (front : List A) (x : A) → all (map test front) ≡ true → test x ≡ true → Full test (front ++ x ∷ [])
full-added test front x f e = (filled-added front x, all-added test front x f e)

pub full-one : {A : Type 0} (test : A → Bool) (x : A) → test x ≡ true → Full test (x ∷ [])
full-one test x e = (refl, both e refl)

module _ {Kind : TokenKind → Type 0} where
  pub added : {A : Type 0} {item : Form A} (test : A → Bool) (front : List A) → Gives Kind item (λ x. test x ≡ true) →
      Gives Kind (form.added item front) (λ list. all (map test front) ≡ true → Full test list)
  added test front F = F >>= (λ x. pure (λ e f. full-added test front x f e))

  -- items behind those before
  pub items_all : {A : Type 0} {begin : TokenKind → Bool} {item : Form A} {front : List A} (test : A → Bool) → Gives Kind item (λ x. test x ≡ true) →
      Gives Kind (form.loop begin (form.added item) front) (λ list. all (map test front) ≡ true → all (map test list) ≡ true)
  items_all test F =
      loop {P = λ list. all (map test list) ≡ true} (λ front. hence (λ list h f. (h f).1) (added test front F))

  pub items : {A : Type 0} {begin : TokenKind → Bool} {item : Form A} {front : List A} (test : A → Bool) → Gives Kind item (λ x. test x ≡ true) →
      Gives Kind (form.loop begin (form.added item) front) (λ list. Full test front → Full test list)
  items test F = loop {P = Full test} (λ front. hence (λ list h f. h f.1) (added test front F))

  pub some : {A : Type 0} {begin : TokenKind → Bool} {item : Form A} (test : A → Bool) → Gives Kind item (λ x. test x ≡ true) →
      Gives Kind (form.some begin item) (Full test)
  some test F = F >>= (λ x. hence (λ list h e. h (full-one test x e)) (items test F))

  -- ---- parts that are one token

  pub sign : (test : TokenKind → Bool) → Gives Kind (parts.sign test) (λ _. Unit {0})
  sign test = token (λ position kind. parts.when (test kind) position)

  pub key : (word : List ℕ) → Gives Kind (parts.key word) (λ _. Unit {0})
  key word = sign (parts.is_key word)

  pub mark : (byte : ℕ) → Gives Kind (parts.mark byte) (λ _. Unit {0})
  mark byte = sign (parts.is_mark byte)

  pub period : Gives Kind parts.period (λ _. Unit {0})
  period = sign parts.is_period

  pub word : Gives Kind parts.word (λ _. Unit {0})
  word = token (λ position kind. parts.with_position position (parts.word_of kind))

  pub maybe : (word : List ℕ) → Gives Kind (parts.maybe word) (λ _. Unit {0})
  maybe word = where_next (key word >> pure (λ _. tt)) (pure tt)

  pub ended : Gives Kind parts.ended (λ _. Unit {0})
  ended = by go
    where
      go : (o : Option TokenKind) → Gives Kind (parts.ended_by o) (λ _. Unit {0})
      go None = pure tt
      go (Some kind) = refuse

  -- a token with a value that its kind gives
  pub valued : {A : Type 0} (test : TokenKind → Option A) {P : A → Type 0} →
      ((kind : TokenKind) (a : A) → Kind kind → test kind ≡ Some a → P a) → Gives Kind (parts.valued test) (λ found. P found.0)
  valued {A = A} test {P = P} h = one (λ position kind. parts.with_position position (test kind)) (λ position kind found k e. go position kind found k (test kind) refl e)
    where
      go : (position : Position) (kind : TokenKind) (found : A × Position) → Kind kind → (o : Option A) → test kind ≡ o →
          parts.with_position position o ≡ Some found → P found.0
      go position kind found k (Some a) is e = h kind found.0 k (is ∙ ap (λ x. Some x) (some_is (a, position) found e))
        where
          some_is : (x y : A × Position) → Some x ≡ Some y → x.0 ≡ y.0
          some_is x y e = cc
      go position kind found k None is e = absurd cc
