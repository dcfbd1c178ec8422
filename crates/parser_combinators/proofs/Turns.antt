-- A loop of lawful turns is lawful where each turn takes a token; and what one turn of it is.
use Rattle.std.proofs.Common.{◌≡◌, ℕ, zero, suc, ◌<◌, ◌≤◌, Bool, true, false, if◌then◌else◌, inl, inr, List, [], ◌∷◌, ◌++◌, length, Option, refl, sym, ap, subst, ◌∙◌, arith}
use Rattle.cobol_lex.specs.declared.token.Token.{Token}
use Rattle.cobol_lex.specs.declared.token.TokenKind.{TokenKind}
use Rattle.parser_combinators.specs.declared.note.Note.{Note}
use Rattle.parser_combinators.specs.Form.{Input, at, behind_fault, Outcome, Got, Stop, left, then_read, noted_before, Form, is_next, loop_spells, loop_cut, loop_reads, loop_while}
use Rattle.parser_combinators.proofs.Lawful.{Lawful, total, IsEnd, Extends, end_all, end_then, end_nil, got_is}

-- what is read takes a token
pub record Consumes {A : Type 0} (f : Form A) : Type 0 where
  pub less : (p : Input) (a : A) (q : Input) → f.reads p ≡ Got a q → length q.rest < length p.rest

module _ {S : Type 0} (begin : S → TokenKind → Bool) (step : S → Form S) (L : (s : S) → Lawful (step s)) (C : (s : S) → Consumes (step s)) where
  abbrev turns : ℕ → S → Input → Outcome S
  turns n s p = loop_reads begin step n s p

  abbrev all : S → Input → Outcome S
  all s p = (loop_while begin step s).reads p

  abbrev then_turns : Outcome S → (S → Input → Outcome S) → Outcome S
  then_turns o f = then_read o (λ s q. f s q)

  abbrev one_turn : Bool → (S → Input → Outcome S) → S → Input → Outcome S
  one_turn b f s p = if b then then_turns ((step s).reads p) f else Got s p

  none_begins : (s : S) (p : Input) → length p.rest ≤ 0 → is_next (begin s) p ≡ false
  none_begins s p h = go p.rest h
    where
      go : (ts : List Token) → length ts ≤ 0 → is_next (begin s) (at ts p) ≡ false
      go [] k = refl
      go (t ∷ ts) k = absurd (omega (arith, k))

  enough : (m n : ℕ) (s : S) (p : Input) → length p.rest ≤ m → length p.rest ≤ n → turns m s p ≡ turns n s p
  unfolding loop_reads
  enough zero zero s p h k = refl
  enough zero (suc n) s p h k = sym (ap (λ b. one_turn b (turns n) s p) (none_begins s p h))
  enough (suc m) zero s p h k = ap (λ b. one_turn b (turns m) s p) (none_begins s p k)
  enough (suc m) (suc n) s p h k = ap (λ o. if is_next (begin s) p then o else Got s p) (go (λ x q. enough m n x q) ((step s).reads p) refl)
    where
      go : ((x : S) (q : Input) → length q.rest ≤ m → length q.rest ≤ n → turns m x q ≡ turns n x q) → (o : Outcome S) → (step s).reads p ≡ o → then_turns o (turns m) ≡ then_turns o (turns n)
      go again (Got x q) is = let lt = (C s).less p x q is in again x q (omega (arith, h, lt)) (omega (arith, k, lt))
      go again (Stop why r) is = refl

  first_turn : (s : S) (p : Input) → turns (suc (length p.rest)) s p ≡ one_turn (is_next (begin s) p) all s p
  unfolding loop_reads
  first_turn s p = ap (λ o. if is_next (begin s) p then o else Got s p) (go ((step s).reads p) refl)
    where
      go : (o : Outcome S) → (step s).reads p ≡ o → then_turns o (turns (length p.rest)) ≡ then_turns o all
      go (Got x q) is = let lt = (C s).less p x q is in enough (length p.rest) (length q.rest) x q (omega (arith, lt)) (omega arith)
      go (Stop why r) is = refl

  pub loop-unrolls : (s : S) (p : Input) → all s p ≡ one_turn (is_next (begin s) p) all s p
  loop-unrolls s p = enough (length p.rest) (suc (length p.rest)) s p (omega arith) (omega arith) ∙ first_turn s p

  sound : (n : ℕ) (s : S) (p : Input) (last : S) (q : Input) → length p.rest ≤ n → turns n s p ≡ Got last q → (k : ℕ) × loop_spells begin step k s p last q
  unfolding loop_reads
  sound zero s p last q h e = let g = got_is s last p q e in (0, (none_begins s p h, g.0, g.1))
  sound (suc n) s p last q h e = turn (λ x r k g. sound n x r last q k g) (is_next (begin s) p) refl e
    where
      Again : Type 0
      Again = (x : S) (r : Input) → length r.rest ≤ n → turns n x r ≡ Got last q → (k : ℕ) × loop_spells begin step k x r last q

      item : Again → (o : Outcome S) → (step s).reads p ≡ o → is_next (begin s) p ≡ true → then_turns o (turns n) ≡ Got last q → (k : ℕ) × loop_spells begin step k s p last q
      item again (Got x r) is b e =
          let lt = (C s).less p x r is in
          let g = again x r (omega (arith, h, lt)) e in
          (suc g.0, (b, (x, r, (L s).sound p x r is, g.1)))
      item again (Stop why r) is b e = absurd cc

      turn : Again → (b : Bool) → is_next (begin s) p ≡ b → one_turn b (turns n) s p ≡ Got last q → (k : ℕ) × loop_spells begin step k s p last q
      turn again true is e = item again ((step s).reads p) refl is e
      turn again false is e = let g = got_is s last p q e in (0, (is, g.0, g.1))

  complete : (k : ℕ) (s : S) (p : Input) (last : S) (q : Input) → loop_spells begin step k s p last q → all s p ≡ Got last q
  complete zero s p last q h = loop-unrolls s p ∙ ap (λ b. one_turn b all s p) h.0 ∙ ap (λ x. Got x p) h.1 ∙ ap (λ r. Got last r) h.2
  complete (suc k) s p last q h =
      let g = h.1 in
      loop-unrolls s p ∙ ap (λ b. one_turn b all s p) h.0 ∙ ap (λ o. then_turns o all) ((L s).complete p g.0 g.1 g.2) ∙ complete k g.0 g.1 last q g.3

  within : (n : ℕ) (s : S) (p : Input) → IsEnd p.rest (left (turns n s p))
  unfolding loop_reads
  within zero s p = end_all p.rest
  within (suc n) s p = turn (λ x q. within n x q) (is_next (begin s) p)
    where
      Again : Type 0
      Again = (x : S) (q : Input) → IsEnd q.rest (left (turns n x q))

      item : Again → (o : Outcome S) → IsEnd p.rest (left o) → IsEnd p.rest (left (then_turns o (turns n)))
      item again (Got x q) k = end_then p.rest q.rest (left (turns n x q)) k (again x q)
      item again (Stop why r) k = k

      turn : Again → (b : Bool) → IsEnd p.rest (left (one_turn b (turns n) s p))
      turn again true = item again ((step s).reads p) ((L s).within p)
      turn again false = end_all p.rest

  none_left : (s : S) (p : Input) → p.rest ≡ [] → left (all s p) ≡ []
  none_left s p e = end_nil (left (all s p)) (subst (λ ts. IsEnd ts (left (all s p))) e (within (length p.rest) s p))

  whole : (k : ℕ) (s : S) (p : Input) → loop_cut begin step k s p → left (all s p) ≡ []
  whole zero s p (inl h) = none_left s p h
  whole zero s p (inr h) = ap left (loop-unrolls s p ∙ ap (λ b. one_turn b all s p) h.0) ∙ go ((step s).reads p) ((L s).whole p h.1)
    where
      go : (o : Outcome S) → left o ≡ [] → left (then_turns o all) ≡ []
      go (Got x q) e = none_left x q e
      go (Stop why r) e = e
  whole (suc k) s p h =
      let g = h.1 in
      ap left (loop-unrolls s p ∙ ap (λ b. one_turn b all s p) h.0 ∙ ap (λ o. then_turns o all) ((L s).complete p g.0 g.1 g.2)) ∙ whole k g.0 g.1 g.3

  nothing_left : (ts : List Token) → length ts ≤ 0 → ts ≡ []
  nothing_left [] h = refl
  nothing_left (t ∷ ts) h = absurd (omega (arith, h))

  part : (n : ℕ) (s : S) (p : Input) → length p.rest ≤ n → left (turns n s p) ≡ [] → (k : ℕ) × loop_cut begin step k s p
  unfolding loop_reads
  part zero s p h e = (0, inl (nothing_left p.rest h))
  part (suc n) s p h e = turn (λ x q k g. part n x q k g) (is_next (begin s) p) refl e
    where
      Again : Type 0
      Again = (x : S) (q : Input) → length q.rest ≤ n → left (turns n x q) ≡ [] → (k : ℕ) × loop_cut begin step k x q

      item : Again → (o : Outcome S) → (step s).reads p ≡ o → is_next (begin s) p ≡ true → left (then_turns o (turns n)) ≡ [] → (k : ℕ) × loop_cut begin step k s p
      item again (Got x q) is b e =
          let lt = (C s).less p x q is in
          let g = again x q (omega (arith, h, lt)) e in
          (suc g.0, (b, (x, q, (L s).sound p x q is, g.1)))
      item again (Stop why r) is b e = (0, inr (b, (L s).part p (ap left is ∙ e)))

      turn : Again → (b : Bool) → is_next (begin s) p ≡ b → left (one_turn b (turns n) s p) ≡ [] → (k : ℕ) × loop_cut begin step k s p
      turn again true is e = item again ((step s).reads p) refl is e
      turn again false is e = (0, inl e)

  abbrev and_more : Input → List Token → Input
  and_more p more = at (p.rest ++ more) p

  -- where nothing is left the loop reads on in what is new
  extends_none : (n : ℕ) (s : S) (p : Input) (ts more : List Token) → ts ≡ [] → Extends (turns n s (at ts p)) (all s (at (ts ++ more) p)) more (left (turns n s (at ts p)))
  extends_none n s p ts more e =
      let none : left (turns n s (at ts p)) ≡ [] = end_nil _ (subst (λ r. IsEnd r (left (turns n s (at ts p)))) e (within n s (at ts p))) in
      subst (λ r. Extends (turns n s (at ts p)) (all s (at (ts ++ more) p)) more r) (sym none)
      (subst (λ r. IsEnd more (left (all s (at (r ++ more) p)))) (sym e) (within (length more) s (at more p)))

  extends : (n : ℕ) (s : S) (p : Input) (ts more : List Token) → length ts ≤ n → Extends (turns n s (at ts p)) (all s (at (ts ++ more) p)) more (left (turns n s (at ts p)))
  unfolding loop_reads
  extends zero s p ts more h = extends_none zero s p ts more (nothing_left ts h)
  extends (suc n) s p [] more h = extends_none (suc n) s p [] more refl
  extends (suc n) s p (t ∷ ts) more h =
      subst (λ q. Extends (turns (suc n) s here) q more (left (turns (suc n) s here))) (sym (loop-unrolls s (and_more here more))) (turn (λ x q k. extends n x q q.rest more k) (begin s t.kind))
    where
      here : Input
      here = at (t ∷ ts) p

      Again : Type 0
      Again = (x : S) (q : Input) → length q.rest ≤ n → Extends (turns n x q) (all x (and_more q more)) more (left (turns n x q))

      none : (o : Outcome S) → IsEnd more (left o) → IsEnd more (left (then_turns o all))
      none (Got x q) k = end_then more q.rest (left (all x q)) k (within (length q.rest) x q)
      none (Stop why r) k = k

      item : Again → (o e : Outcome S) → (step s).reads here ≡ o → Extends o e more (left o) → Extends (then_turns o (turns n)) (then_turns e all) more (left (then_turns o (turns n)))
      item again (Got x q) e is k = got q.rest refl k
        where
          got : (r : List Token) → q.rest ≡ r → Extends (Got x q) e more r → Extends (turns n x q) (then_turns e all) more (left (turns n x q))
          got [] is_none g = subst (λ r. Extends (turns n x q) (then_turns e all) more r) (sym (end_nil _ (subst (λ r. IsEnd r (left (turns n x q))) is_none (within n x q)))) (none e g)
          got (u ∷ r) is_some g =
              let lt = (C s).less here x q is in
              subst (λ o. Extends (turns n x q) (then_turns o all) more (left (turns n x q))) (sym g) (again x q (omega (arith, h, lt)))
      item again (Stop why []) e is k = none e k
      item again (Stop why (u ∷ r)) e is k = ap (λ o. then_turns o all) k

      turn : Again → (b : Bool) → Extends (one_turn b (turns n) s here) (one_turn b all s (and_more here more)) more (left (one_turn b (turns n) s here))
      turn again true = item again ((step s).reads here) ((step s).reads (and_more here more)) refl ((L s).extends here more)
      turn again false = refl

  noted : (n : ℕ) (s : S) (p : Input) (earlier : Option Note) → turns n s (behind_fault earlier p) ≡ noted_before earlier (turns n s p)
  unfolding loop_reads
  noted zero s p earlier = refl
  noted (suc n) s p earlier = turn (λ x q. noted n x q earlier) (is_next (begin s) p)
    where
      Again : Type 0
      Again = (x : S) (q : Input) → turns n x (behind_fault earlier q) ≡ noted_before earlier (turns n x q)

      item : Again → (o : Outcome S) → then_turns (noted_before earlier o) (turns n) ≡ noted_before earlier (then_turns o (turns n))
      item again (Got x q) = again x q
      item again (Stop why r) = refl

      turn : Again → (b : Bool) → one_turn b (turns n) s (behind_fault earlier p) ≡ noted_before earlier (one_turn b (turns n) s p)
      turn again true = ap (λ o. then_turns o (turns n)) ((L s).noted p earlier) ∙ item again ((step s).reads p)
      turn again false = refl

  counted : (n : ℕ) (s : S) (p : Input) (last : S) (q : Input) → turns n s p ≡ Got last q → total q ≡ total p
  unfolding loop_reads
  counted zero s p last q e = ap total (sym (got_is s last p q e).1)
  counted (suc n) s p last q e = turn (λ x r k. counted n x r last q k) (is_next (begin s) p) e
    where
      Again : Type 0
      Again = (x : S) (r : Input) → turns n x r ≡ Got last q → total q ≡ total r

      item : Again → (o : Outcome S) → (step s).reads p ≡ o → then_turns o (turns n) ≡ Got last q → total q ≡ total p
      item again (Got x r) is e = again x r e ∙ (L s).counted p x r is
      item again (Stop why r) is e = absurd cc

      turn : Again → (b : Bool) → one_turn b (turns n) s p ≡ Got last q → total q ≡ total p
      turn again true e = item again ((step s).reads p) refl e
      turn again false e = ap total (sym (got_is s last p q e).1)

  pub loop-lawful : (s : S) → Lawful (loop_while begin step s)
  loop-lawful s = record {
    sound = λ p last q e. sound (length p.rest) s p last q (omega arith) e;
    complete = λ p last q h. complete h.0 s p last q h.1;
    whole = λ p h. whole h.0 s p h.1;
    part = λ p e. part (length p.rest) s p (omega arith) e;
    within = λ p. within (length p.rest) s p;
    extends = λ p more. extends (length p.rest) s p p.rest more (omega arith);
    noted = λ p. noted (length p.rest) s p;
    counted = λ p last q e. counted (length p.rest) s p last q e;
  }
