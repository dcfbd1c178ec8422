-- What terms that were counted before change, written as the form is.
use Rattle.std.proofs.Common.{◌≡◌, ℕ, zero, suc, ◌+◌, ◌<◌, ◌≤◌, ◌⊎◌, Bool, true, false, ◌||◌, if◌then◌else◌, inl, inr, List, ◌++◌, length, Option, refl, sym, ap, subst, length-append, arith}
use Rattle.std.specs.Prelude.{nat_lt}
use Rattle.std.proofs.lemmas.Bool.Decides.{nat_tests}
use Rattle.cobol_lex.specs.declared.token.Token.{Token}
use Rattle.cobol_lex.specs.declared.token.TokenKind.{TokenKind}
use Rattle.parser_combinators.specs.declared.why.Why.{Why}
use Rattle.parser_combinators.specs.declared.why.Why.TheVariants.{Terms}
use Rattle.parser_combinators.specs.Form as form
use Rattle.parser_combinators.specs.Form.{Input, Outcome, Got, Stop, left, then_read, Form, is_next, begins_by, loop_reads}
use Rattle.parser_combinators.proofs.Lawful.{IsEnd, end_all, end_then, then_got, got_is}
use Rattle.parser_combinators.proofs.MakerLaws as laws
use Rattle.parser_combinators.proofs.MakerLaws.{Law}
use Rattle.cob_base.specs.Limit.{max_terms}
use Rattle.cobol_grammar.specs.expr_forms.Limit.{count_terms}
use Rattle.cobol_grammar.proofs.expr_forms_lemmas.ExpressionLaws as expression_laws

-- `add` gives a value the terms before it, `count` is how many it comes to without them.
abbrev pub Fewer : {A : Type 0} → (before : ℕ) (add : A → A) (count : A → ℕ) → Outcome A → Outcome A → Type 0
Fewer {A = A} before add count (Got a q) fewer = (b : A) × (a ≡ add b) × (fewer ≡ Got b q)
Fewer {A = A} before add count (Stop why rest) fewer =
    (fewer ≡ Stop why rest)
    ⊎ ((why ≡ Terms) × (length (left fewer) ≤ length rest)
    × ((b : A) (q : Input) → fewer ≡ Got b q → max_terms < count b + before))

-- the first form has so many terms before it more than the second, which has at least `least`
pub record Counted {A : Type 0} (before least : ℕ) (takes : Bool) (add : A → A) (count : A → ℕ) (f g : Form A) : Type 0 where
  pub goes : (p : Input) → Fewer before add count (f.reads p) (g.reads p)
  pub grows : (p : Input) (b : A) (q : Input) → g.reads p ≡ Got b q → least ≤ count b
  pub law : Law takes g

shorter : (a b : List Token) → IsEnd a b → length b ≤ length a
shorter a b e = let whole : length a ≡ length (e.0 ++ b) = ap length e.1 in omega (arith, whole, length-append e.0 b)

-- ---- one after the other

module _ {A B : Type 0} (before : ℕ) (add : A → A) (count : A → ℕ) (add_to : B → B) (count_of : B → ℕ) (G K : A → Input → Outcome B)
    (goes : (a : A) (r : Input) → Fewer before add_to count_of (G (add a) r) (K a r))
    (within : (a : A) (r : Input) → IsEnd r.rest (left (K a r)))
    (grows : (a : A) (r : Input) (b : B) (q : Input) → K a r ≡ Got b q → count a ≤ count_of b) where
  ends : (o : Outcome A) → IsEnd (left o) (left (then_read o K))
  ends (Got a r) = within a r
  ends (Stop why r) = end_all r

  then_fewer : (o p : Outcome A) → Fewer before add count o p → Fewer before add_to count_of (then_read o G) (then_read p K)
  then_fewer (Got a r) p h = subst (λ x. Fewer before add_to count_of (G x r) (then_read p K)) (sym h.1)
      (subst (λ o. Fewer before add_to count_of (G (add h.0) r) (then_read o K)) (sym h.2) (goes h.0 r))
  then_fewer (Stop why r) p (inl h) = inl (ap (λ q. then_read q K) h)
  then_fewer (Stop why r) p (inr h) =
      let less : length (left (then_read p K)) ≤ length (left p) = shorter (left p) (left (then_read p K)) (ends p) in
      inr (
        h.0,
        omega (arith, less, h.1),
        λ b q e.
            let s = then_got p K b q e in
            let passed = h.2 s.0 s.1 s.2 in
            let more = grows s.0 s.1 b q s.3 in
            omega (arith, passed, more),
      )

pub and_then : {A B : Type 0} {before least : ℕ} {b c : Bool} {add : A → A} {count : A → ℕ} {add_to : B → B} {count_of : B → ℕ} {e f : Form A} (g : A → Form B) {k : A → Form B}
    → Counted before least b add count e f → ((a : A) → Counted before (count a) c add_to count_of (g (add a)) (k a)) → Counted before least (b || c) add_to count_of (form.◌>>=◌ e g) (form.◌>>=◌ f k)
and_then {before = before} {add = add} {count = count} {add_to = add_to} {count_of = count_of} {e = e} {f = f} g {k = k} E D = record {
  goes = λ p. then_fewer before add count add_to count_of (λ a r. (g a).reads r) (λ a r. (k a).reads r) (λ a. (D a).goes) (λ a. (D a).law.lawful.within) (λ a. (D a).grows) (e.reads p) (f.reads p) (E.goes p);
  grows = λ p x q h.
      let s = then_got (f.reads p) (λ a r. (k a).reads r) x q h in
      let first = E.grows p s.0 s.1 s.2 in
      let more = (D s.0).grows s.1 x q s.3 in
      omega (arith, first, more);
  law = laws.◌>>=◌ E.law (λ a. (D a).law);
}

plain_fewer : {A B : Type 0} (before : ℕ) (add_to : B → B) (count_of : B → ℕ) (G K : A → Input → Outcome B)
    → ((a : A) (r : Input) → Fewer before add_to count_of (G a r) (K a r)) → (o : Outcome A) → Fewer before add_to count_of (then_read o G) (then_read o K)
plain_fewer before add_to count_of G K goes (Got a r) = goes a r
plain_fewer before add_to count_of G K goes (Stop why r) = inl refl

-- behind a form that counts nothing
pub behind : {A B : Type 0} {before least : ℕ} {b c : Bool} {add_to : B → B} {count_of : B → ℕ} {f : Form A} {g k : A → Form B}
    → Law b f → ((a : A) → Counted before least c add_to count_of (g a) (k a)) → Counted before least (b || c) add_to count_of (form.◌>>=◌ f g) (form.◌>>=◌ f k)
behind {before = before} {add_to = add_to} {count_of = count_of} {f = f} {g = g} {k = k} F D = record {
  goes = λ p. plain_fewer before add_to count_of (λ a r. (g a).reads r) (λ a r. (k a).reads r) (λ a. (D a).goes) (f.reads p);
  grows = λ p x q h. let s = then_got (f.reads p) (λ a r. (k a).reads r) x q h in (D s.0).grows s.1 x q s.3;
  law = laws.◌>>=◌ F (λ a. (D a).law);
}

-- ---- without a token

pub done : {A : Type 0} {before least : ℕ} {add : A → A} {count : A → ℕ} (a : A) → least ≤ count a → Counted before least false add count (form.pure (add a)) (form.pure a)
done {least = least} {count = count} a h = record {
  goes = λ p. (a, refl, refl);
  grows = λ p b q e. subst (λ x. least ≤ count x) (got_is a b p q e).0 h;
  law = laws.pure;
}

pub refused : {A : Type 0} {before least : ℕ} {takes : Bool} {add : A → A} {count : A → ℕ} {why : Why} → Counted before least takes add count (form.refuse why) (form.refuse why)
refused = record { goes = λ p. inl refl; grows = λ p b q e. absurd cc; law = laws.refuse }

-- ---- by the next token

pub by : {A : Type 0} {before least : ℕ} {takes : Bool} {add : A → A} {count : A → ℕ} {c d : Option TokenKind → Form A}
    → ((o : Option TokenKind) → Counted before least takes add count (c o) (d o)) → Counted before least takes add count (form.by c) (form.by d)
by D = record { goes = λ p. (D (form.next p.rest)).goes p; grows = λ p. (D (form.next p.rest)).grows p; law = laws.by (λ o. (D o).law) }

pub chosen : {A : Type 0} {before least : ℕ} {takes : Bool} {add : A → A} {count : A → ℕ} (test : Bool) {e f g k : Form A}
    → Counted before least takes add count e f → Counted before least takes add count g k → Counted before least takes add count (form.chosen test e g) (form.chosen test f k)
chosen true T O = T
chosen false T O = O

pub where_next : {A : Type 0} {before least : ℕ} {takes : Bool} {add : A → A} {count : A → ℕ} {begin : TokenKind → Bool} {e f g k : Form A}
    → Counted before least takes add count e f → Counted before least takes add count g k → Counted before least takes add count (form.where_next begin e g) (form.where_next begin f k)
where_next {begin = begin} T O = by (λ o. chosen (begins_by begin o) T O)

pub eased : {A : Type 0} {before least : ℕ} {takes : Bool} {add : A → A} {count : A → ℕ} {f g : Form A} → Counted before least takes add count f g → Counted before least false add count f g
eased D = record { goes = D.goes; grows = D.grows; law = laws.loose D.law }

-- ---- a count

abbrev pub plus : ℕ → ℕ → ℕ
plus before n = n + before

abbrev pub itself : ℕ → ℕ
itself n = n

pub tallied : (before count more : ℕ) → Counted before count false (plus before) itself (count_terms (count + before) more) (count_terms count more)
tallied before count more = record {
  goes = λ p. go p (nat_lt max_terms (count + before + more)) (nat_lt max_terms (count + more)) refl refl;
  grows = λ p b q e. grown p b q (nat_lt max_terms (count + more)) e;
  law = expression_laws.tally count more;
}
  where
    go : (p : Input) (b c : Bool) → nat_lt max_terms (count + before + more) ≡ b → nat_lt max_terms (count + more) ≡ c
        → Fewer before (plus before) itself ((form.chosen b (form.refuse Terms) (form.pure (count + before + more))).reads p) ((form.chosen c (form.refuse Terms) (form.pure (count + more))).reads p)
    go p false false d e = (count + more, omega arith, refl)
    go p true true d e = inl refl
    go p true false d e = inr (refl, omega arith, λ b q h. let n = (got_is (count + more) b p q h).0 in let over : max_terms < count + before + more = grind (arith, nat_tests, d) in omega (arith, n, over))
    go p false true d e =
        let over : max_terms < count + more = grind (arith, nat_tests, e) in
        let within : count + before + more ≤ max_terms = grind (arith, nat_tests, d) in
        absurd (omega (arith, over, within))

    grown : (p : Input) (b : ℕ) (q : Input) (c : Bool) → (form.chosen c (form.refuse Terms) (form.pure (count + more))).reads p ≡ Got b q → count ≤ b
    grown p b q true h = absurd cc
    grown p b q false h = let n = (got_is (count + more) b p q h).0 in omega (arith, n)

-- ---- as long as a token begins a turn

module _ {S : Type 0} (before : ℕ) (add : S → S) (count : S → ℕ) (begin : TokenKind → Bool) (f g : S → Form S) (D : (s : S) → Counted before (count s) true add count (f (add s)) (g s)) where
  abbrev turns_of : (S → Form S) → ℕ → S → Input → Outcome S
  turns_of step n s p = loop_reads (λ _. begin) step n s p

  grows_turn : (n : ℕ) → ((s : S) (p : Input) (b : S) (q : Input) → turns_of g n s p ≡ Got b q → count s ≤ count b) → (s : S) (p : Input) (b : S) (q : Input) (test : Bool)
      → (if test then then_read ((g s).reads p) (λ x r. turns_of g n x r) else Got s p) ≡ Got b q → count s ≤ count b
  grows_turn n again s p b q true h =
      let s1 = then_got ((g s).reads p) (λ x r. turns_of g n x r) b q h in
      let first = (D s).grows p s1.0 s1.1 s1.2 in
      let more = again s1.0 s1.1 b q s1.3 in
      omega (arith, first, more)
  grows_turn n again s p b q false h = subst (λ x. count s ≤ count x) (got_is s b p q h).0 (omega arith)

  turns_grow : (n : ℕ) (s : S) (p : Input) (b : S) (q : Input) → turns_of g n s p ≡ Got b q → count s ≤ count b
  unfolding loop_reads
  turns_grow zero s p b q h = subst (λ x. count s ≤ count x) (got_is s b p q h).0 (omega arith)
  turns_grow (suc n) s p b q h = grows_turn n (turns_grow n) s p b q (is_next begin p) h

  rests : (n : ℕ) → ((x : S) (q : Input) → IsEnd q.rest (left (turns_of g n x q))) → (ts : List Token) (o : Outcome S) → IsEnd ts (left o) → IsEnd ts (left (then_read o (λ x q. turns_of g n x q)))
  rests n E ts (Got x q) h = end_then ts q.rest (left (turns_of g n x q)) h (E x q)
  rests n E ts (Stop why r) h = h

  ends_turn : (n : ℕ) → ((x : S) (q : Input) → IsEnd q.rest (left (turns_of g n x q))) → (s : S) (p : Input) (b : Bool) → IsEnd p.rest (left (if b then then_read ((g s).reads p) (λ x q. turns_of g n x q) else Got s p))
  ends_turn n E s p true = rests n E p.rest ((g s).reads p) ((D s).law.lawful.within p)
  ends_turn n E s p false = end_all p.rest

  turns_end : (n : ℕ) (s : S) (p : Input) → IsEnd p.rest (left (turns_of g n s p))
  unfolding loop_reads
  turns_end zero s p = end_all p.rest
  turns_end (suc n) s p = ends_turn n (turns_end n) s p (is_next begin p)

  turn_fewer : (n : ℕ) → ((s : S) (p : Input) → Fewer before add count (turns_of f n (add s) p) (turns_of g n s p)) → (s : S) (p : Input) (b : Bool)
      → Fewer before add count (if b then then_read ((f (add s)).reads p) (λ x q. turns_of f n x q) else Got (add s) p) (if b then then_read ((g s).reads p) (λ x q. turns_of g n x q) else Got s p)
  turn_fewer n again s p true = then_fewer before add count add count (λ x q. turns_of f n x q) (λ x q. turns_of g n x q) again (turns_end n) (turns_grow n) ((f (add s)).reads p) ((g s).reads p) ((D s).goes p)
  turn_fewer n again s p false = (s, refl, refl)

  turns_fewer : (n : ℕ) (s : S) (p : Input) → Fewer before add count (turns_of f n (add s) p) (turns_of g n s p)
  unfolding loop_reads
  turns_fewer zero s p = (s, refl, refl)
  turns_fewer (suc n) s p = turn_fewer n (turns_fewer n) s p (is_next begin p)

  pub loop : (s : S) → Counted before (count s) false add count (form.loop begin f (add s)) (form.loop begin g s)
  loop s = record {
    goes = λ p. turns_fewer (length p.rest) s p;
    grows = λ p. turns_grow (length p.rest) s p;
    law = laws.loop (λ x. (D x).law);
  }
