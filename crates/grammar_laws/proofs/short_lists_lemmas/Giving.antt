-- What the makers of forms give of few tokens, each law written as the form is.
use Rattle.std.proofs.Common.{◌≡◌, ◌<◌, ◌≤◌, ◌+◌, ℕ, zero, suc, Bool, true, false, if◌then◌else◌, List, [], ◌∷◌, ◌++◌, length, map, refl, ap, subst, ◌∙◌, length-append, arith}
use Rattle.cobol_lex.specs.declared.token.TokenKind.{TokenKind}
use Rattle.parser_combinators.specs.declared.why.Why.{Why}
use Rattle.parser_combinators.specs.Form as form
use Rattle.parser_combinators.specs.Form.{Input, left, Got, Form, then_read, is_next, begins_by, loop_reads}
use Rattle.parser_combinators.proofs.Lawful.{Lawful, got_is, then_got}
use Rattle.parser_combinators.proofs.MakerLaws as makers
use Rattle.parser_combinators.proofs.MakerLaws.{Law}
use Rattle.parser_combinators.proofs.Turns.{Consumes}
use Rattle.control_flow_theory.specs.language.All.{all}
use Rattle.program_facts.proofs.well_scoped_lemmas.Made.{all-added}
use Rattle.grammar_laws.specs.short_lists.Giving.{GivesOfFew}

-- no more is left
no_more : {A : Type 0} (f : Form A) → Lawful f → (p : Input) (a : A) (q : Input) → f.reads p ≡ Got a q → length q.rest ≤ length p.rest
no_more f F p a q e =
    let w = F.within p in
    let n : length p.rest ≡ length (w.0 ++ q.rest) = ap length (w.1 ∙ ap (λ o. w.0 ++ left o) e) in
    omega (arith, n, length-append w.0 q.rest)

-- ---- items, each of which takes a token

added_got : {A : Type 0} {item : Form A} (front : List A) → Consumes item → (p : Input) (list : List A) (q : Input) →
    (form.added item front).reads p ≡ Got list q → length list + length q.rest ≤ length front + length p.rest
added_got {A = A} {item = item} front C p list q e =
    let s = then_got (item.reads p) (λ x r. (form.pure (front ++ x ∷ [])).reads r) list q e in
    let g = got_is (front ++ s.0 ∷ []) list s.1 q s.3 in
    let taken = C.less p s.0 s.1 s.2 in
    let one : List A = s.0 ∷ [] in
    let n : length (front ++ one) ≡ length list = ap length g.0 in
    let m : length s.1.rest ≡ length q.rest = ap (λ r. length r.rest) g.1 in
    omega (arith, taken, n, m, length-append front one)

-- no more items than tokens
items_got : {A : Type 0} (begin : TokenKind → Bool) {item : Form A} → Consumes item → (turns : ℕ) (front : List A) (p : Input) (list : List A) (q : Input) →
    loop_reads (λ _. begin) (form.added item) turns front p ≡ Got list q → length list + length q.rest ≤ length front + length p.rest
unfolding loop_reads
items_got begin C zero front p list q e =
    let g = got_is front list p q e in
    let n : length front ≡ length list = ap length g.0 in
    let m : length p.rest ≡ length q.rest = ap (λ r. length r.rest) g.1 in
    omega (arith, n, m)
items_got {A = A} begin {item = item} C (suc turns) front p list q e = turn (λ x r. items_got begin C turns x r list q) (is_next begin p) e
  where
    turn : ((x : List A) (r : Input) → loop_reads (λ _. begin) (form.added item) turns x r ≡ Got list q → length list + length q.rest ≤ length x + length r.rest) →
        (b : Bool) → (if b then then_read ((form.added item front).reads p) (λ x r. loop_reads (λ _. begin) (form.added item) turns x r) else Got front p) ≡ Got list q →
        length list + length q.rest ≤ length front + length p.rest
    turn again true e =
        let h = then_got ((form.added item front).reads p) (λ x r. loop_reads (λ _. begin) (form.added item) turns x r) list q e in
        let first = added_got front C p h.0 h.1 h.2 in
        let others = again h.0 h.1 h.3 in
        omega (arith, first, others)
    turn again false e =
        let g = got_is front list p q e in
        let n : length front ≡ length list = ap length g.0 in
        let m : length p.rest ≡ length q.rest = ap (λ r. length r.rest) g.1 in
        omega (arith, n, m)

-- ---- turns that keep a property

turns_give : {S : Type 0} (bound : ℕ) (begin : TokenKind → Bool) (step : S → Form S) (P : S → Type 0) →
    ((s : S) → GivesOfFew bound (step s) (λ last. P s → P last)) →
    (n : ℕ) (s : S) (p : Input) (a : S) (q : Input) → loop_reads (λ _. begin) step n s p ≡ Got a q →
    length p.rest < bound → (length q.rest < bound) × (P s → P a)
unfolding loop_reads
turns_give bound begin step P G zero s p a q e k =
    let h = got_is s a p q e in
    (subst (λ r. length r.rest < bound) h.1 k, subst P h.0)
turns_give {S = S} bound begin step P G (suc n) s p a q e k = turn (λ x r. turns_give bound begin step P G n x r a q) (is_next begin p) e
  where
    turn : ((x : S) (r : Input) → loop_reads (λ _. begin) step n x r ≡ Got a q → length r.rest < bound → (length q.rest < bound) × (P x → P a)) →
        (b : Bool) → (if b then then_read ((step s).reads p) (λ x r. loop_reads (λ _. begin) step n x r) else Got s p) ≡ Got a q →
        (length q.rest < bound) × (P s → P a)
    turn again true e =
        let h = then_got ((step s).reads p) (λ x r. loop_reads (λ _. begin) step n x r) a q e in
        let first = (G s).gives p h.0 h.1 h.2 k in
        let others = again h.0 h.1 h.3 first.0 in
        (others.0, λ x. others.1 (first.1 x))
    turn again false e =
        let h = got_is s a p q e in
        (subst (λ r. length r.rest < bound) h.1 k, subst P h.0)

module _ {bound : ℕ} where
  -- what follows from what a form gives
  pub hence : {A : Type 0} {f : Form A} {P Q : A → Type 0} → ((a : A) → P a → Q a) → GivesOfFew bound f P → GivesOfFew bound f Q
  hence h F = record { gives = λ p a q e k. let s = F.gives p a q e k in (s.0, h a s.1) }

  -- the same, whatever is known before
  pub still : {A : Type 0} {f : Form A} {P : A → Type 0} {X : Type 0} → GivesOfFew bound f P → GivesOfFew bound f (λ a. X → P a)
  still F = hence (λ a h _. h) F

  pub any : {A : Type 0} {b : Bool} {f : Form A} → Law b f → GivesOfFew bound f (λ _. Unit {0})
  any {f = f} F = record {
    gives = λ p a q e k. let n = no_more f F.lawful p a q e in (omega (arith, n, k), tt);
  }

  pub pure : {A : Type 0} {a : A} {P : A → Type 0} → P a → GivesOfFew bound (form.pure a) P
  pure {a = a} {P = P} h = record {
    gives = λ p b q e k. let s = got_is a b p q e in (subst (λ r. length r.rest < bound) s.1 k, subst P s.0 h);
  }

  pub refuse : {A : Type 0} {why : Why} {P : A → Type 0} → GivesOfFew bound (form.refuse {A = A} why) P
  refuse = record { gives = λ p b q e k. absurd cc }

  infixl 10 ◌>>=◌
  pub ◌>>=◌ : {A B : Type 0} {f : Form A} {g : A → Form B} {P : A → Type 0} {Q : B → Type 0} →
      GivesOfFew bound f P → ((a : A) → GivesOfFew bound (g a) (λ b. P a → Q b)) → GivesOfFew bound (form.◌>>=◌ f g) Q
  ◌>>=◌ {f = f} {g = g} F G = record {
    gives = λ p b q e k.
        let s = then_got (f.reads p) (λ a r. (g a).reads r) b q e in
        let before = F.gives p s.0 s.1 s.2 k in
        let behind = (G s.0).gives s.1 b q s.3 before.0 in
        (behind.0, behind.1 before.1);
  }

  -- behind what gives nothing
  infixl 10 ◌>>◌
  pub ◌>>◌ : {A B : Type 0} {b : Bool} {f : Form A} {g : Form B} {Q : B → Type 0} →
      Law b f → GivesOfFew bound g Q → GivesOfFew bound (form.◌>>◌ f g) Q
  F >> G = any F >>= (λ a. still G)

  -- ---- by the next token, and by a choice

  pub chosen : {A : Type 0} (test : Bool) {there other : Form A} {P : A → Type 0} → GivesOfFew bound there P → GivesOfFew bound other P → GivesOfFew bound (form.chosen test there other) P
  chosen true T O = T
  chosen false T O = O

  pub where_next : {A : Type 0} {begin : TokenKind → Bool} {there other : Form A} {P : A → Type 0} → GivesOfFew bound there P → GivesOfFew bound other P → GivesOfFew bound (form.where_next begin there other) P
  where_next {begin = begin} T O = record {
    gives = λ p. (chosen (begins_by begin (form.next p.rest)) T O).gives p;
  }

  -- ---- loops and lists

  pub loop : {S : Type 0} {begin : TokenKind → Bool} {step : S → Form S} {s : S} {P : S → Type 0} →
      ((s : S) → GivesOfFew bound (step s) (λ last. P s → P last)) → GivesOfFew bound (form.loop begin step s) (λ last. P s → P last)
  loop {begin = begin} {step = step} {s = s} {P = P} G = record {
    gives = λ p. turns_give bound begin step P G (length p.rest) s p;
  }

  -- where each takes a token, there are fewer than the bound behind those before
  pub few_items : {A : Type 0} {begin : TokenKind → Bool} {item : Form A} {front : List A} → Law true item →
      GivesOfFew bound (form.loop begin (form.added item) front) (λ list. length list < length front + bound)
  few_items {begin = begin} {item = item} {front = front} F = record {
    gives = λ p list q e k.
        let n = items_got begin (F.consumes refl) (length p.rest) front p list q e in
        let m = no_more (form.loop begin (form.added item) front) (makers.loop (λ before. makers.added before F)).lawful p list q e in
        (omega (arith, m, k), omega (arith, n, k));
  }

  pub added : {A : Type 0} {item : Form A} (test : A → Bool) (front : List A) → GivesOfFew bound item (λ x. test x ≡ true) →
      GivesOfFew bound (form.added item front) (λ list. all (map test front) ≡ true → all (map test list) ≡ true)
  added test front F = F >>= (λ x. pure (λ e f. all-added test front x f e))

  -- items behind those before
  pub items_all : {A : Type 0} {begin : TokenKind → Bool} {item : Form A} {front : List A} (test : A → Bool) → GivesOfFew bound item (λ x. test x ≡ true) →
      GivesOfFew bound (form.loop begin (form.added item) front) (λ list. all (map test front) ≡ true → all (map test list) ≡ true)
  items_all test F = loop {P = λ list. all (map test list) ≡ true} (λ front. added test front F)
