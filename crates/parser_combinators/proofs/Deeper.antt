-- What more levels add to a form, written as the form is.
use Rattle.std.proofs.Common.{◌≡◌, ℕ, zero, suc, ◌+◌, ◌≤◌, Bool, true, false, ◌||◌, if◌then◌else◌, inl, inr, List, [], ◌∷◌, ◌++◌, length, Option, refl, sym, ap, subst, length-append, arith}
use Rattle.cobol_lex.specs.declared.token.Token.{Token}
use Rattle.cobol_lex.specs.declared.token.TokenKind.{TokenKind}
use Rattle.parser_combinators.specs.declared.why.Why.{Why}
use Rattle.parser_combinators.specs.declared.why.Why.TheVariants.{Syntax}
use Rattle.parser_combinators.specs.Form as form
use Rattle.parser_combinators.specs.Form.{Input, at, Outcome, Got, Stop, left, then_read, Form, is_next, begins_by, loop_reads, past, position_of, taken_as, one_reads}
use Rattle.parser_combinators.specs.Part as parts
use Rattle.parser_combinators.specs.Part.{when}
use Rattle.parser_combinators.specs.Reading.{Bound, levels_of, count_of, Deeper}
use Rattle.parser_combinators.proofs.Lawful.{Lawful, IsEnd, end_all, end_then, both_within}
use Rattle.parser_combinators.proofs.MakerLaws as laws
use Rattle.parser_combinators.proofs.MakerLaws.{Law}

-- the second form has the limit of the first or a higher one
pub record Deepens {A : Type 0} (bound : Bound) (takes : Bool) (f g : Form A) : Type 0 where
  pub goes : (p : Input) → Deeper bound (f.reads p) (g.reads p)
  pub law : Law takes g

same_deeper : {A : Type 0} (bound : Bound) (o : Outcome A) → Deeper bound o o
same_deeper bound (Got a q) = refl
same_deeper bound (Stop why rest) = inl refl

pub same : {A : Type 0} {bound : Bound} {b : Bool} {f : Form A} → Law b f → Deepens bound b f f
same {bound = bound} {f = f} F = record { goes = λ p. same_deeper bound (f.reads p); law = F }

pub shorter : (n : ℕ) (a b r : List Token) → IsEnd a b → length a + n ≤ length r → length b + n ≤ length r
shorter n a b r e h = let whole : length a ≡ length (e.0 ++ b) = ap length e.1 in omega (arith, whole, h, length-append e.0 b)

then_deeper : {A B : Type 0} (bound : Bound) (g k : A → Form B) → ((a : A) (p : Input) → Deeper bound ((g a).reads p) ((k a).reads p)) → ((a : A) → Lawful (k a)) → (o p : Outcome A) → Deeper bound o p
    → Deeper bound (then_read o (λ a r. (g a).reads r)) (then_read p (λ a r. (k a).reads r))
then_deeper bound g k D K (Got a r) p h = subst (λ q. Deeper bound ((g a).reads r) (then_read q (λ a r. (k a).reads r))) (sym h) (D a r)
then_deeper bound g k D K (Stop why r) p (inl h) = inl (ap (λ q. then_read q (λ a r. (k a).reads r)) h)
then_deeper bound g k D K (Stop why r) p (inr h) = inr (h.0, shorter bound.gains (left p) (left (then_read p (λ a r. (k a).reads r))) r (both_within k K p (left p) (end_all (left p))) h.1)

infixl 10 ◌>>=◌
pub ◌>>=◌ : {A B : Type 0} {bound : Bound} {b c : Bool} {e f : Form A} {g k : A → Form B} → Deepens bound b e f → ((a : A) → Deepens bound c (g a) (k a)) → Deepens bound (b || c) (form.◌>>=◌ e g) (form.◌>>=◌ f k)
◌>>=◌ {bound = bound} {e = e} {f = f} {g = g} {k = k} E D = record {
  goes = λ p. then_deeper bound g k (λ a. (D a).goes) (λ a. (D a).law.lawful) (e.reads p) (f.reads p) (E.goes p);
  law = laws.◌>>=◌ E.law (λ a. (D a).law);
}

infixl 10 ◌>>◌
pub ◌>>◌ : {A B : Type 0} {bound : Bound} {b c : Bool} {e f : Form A} {g k : Form B} → Deepens bound b e f → Deepens bound c g k → Deepens bound (b || c) (form.◌>>◌ e g) (form.◌>>◌ f k)
E >> D = E >>= (λ _. D)

pub by : {A : Type 0} {bound : Bound} {b : Bool} {c d : Option TokenKind → Form A} → ((o : Option TokenKind) → Deepens bound b (c o) (d o)) → Deepens bound b (form.by c) (form.by d)
by D = record { goes = λ p. (D (form.next p.rest)).goes p; law = laws.by (λ o. (D o).law) }

pub chosen : {A : Type 0} {bound : Bound} {b : Bool} (test : Bool) {e f g k : Form A} → Deepens bound b e f → Deepens bound b g k → Deepens bound b (form.chosen test e g) (form.chosen test f k)
chosen true T O = T
chosen false T O = O

pub where_next : {A : Type 0} {bound : Bound} {b : Bool} {begin : TokenKind → Bool} {e f g k : Form A} → Deepens bound b e f → Deepens bound b g k → Deepens bound b (form.where_next begin e g) (form.where_next begin f k)
where_next {begin = begin} T O = by (λ o. chosen (begins_by begin o) T O)

turns_deeper : {S : Type 0} (bound : Bound) (begin : S → TokenKind → Bool) (f g : S → Form S) → ((s : S) (p : Input) → Deeper bound ((f s).reads p) ((g s).reads p)) → ((s : S) → Lawful (g s)) → (n : ℕ) (s : S) (p : Input)
    → Deeper bound (loop_reads begin f n s p) (loop_reads begin g n s p)
unfolding loop_reads
turns_deeper bound begin f g D G zero s p = refl
turns_deeper {S = S} bound begin f g D G (suc n) s p = turn (λ x q. turns_deeper bound begin f g D G n x q) (λ x q. ends n x q) (is_next (begin s) p)
  where
    Again : Type 0
    Again = (x : S) (q : Input) → Deeper bound (loop_reads begin f n x q) (loop_reads begin g n x q)

    Ends : ℕ → Type 0
    Ends n = (x : S) (q : Input) → IsEnd q.rest (left (loop_reads begin g n x q))

    rests : (n : ℕ) → Ends n → (ts : List Token) (o : Outcome S) → IsEnd ts (left o) → IsEnd ts (left (then_read o (λ x q. loop_reads begin g n x q)))
    rests n E ts (Got x q) h = end_then ts q.rest (left (loop_reads begin g n x q)) h (E x q)
    rests n E ts (Stop why r) h = h

    ends_turn : (n : ℕ) → Ends n → (s : S) (p : Input) (b : Bool) → IsEnd p.rest (left (if b then then_read ((g s).reads p) (λ x q. loop_reads begin g n x q) else Got s p))
    ends_turn n E s p true = rests n E p.rest ((g s).reads p) ((G s).within p)
    ends_turn n E s p false = end_all p.rest

    ends : (n : ℕ) → Ends n
    ends zero x q = end_all q.rest
    ends (suc n) x q = ends_turn n (ends n) x q (is_next (begin x) q)

    item : Again → Ends n → (o p : Outcome S) → Deeper bound o p → Deeper bound (then_read o (λ x q. loop_reads begin f n x q)) (then_read p (λ x q. loop_reads begin g n x q))
    item again E (Got x q) p h = subst (λ o. Deeper bound (loop_reads begin f n x q) (then_read o (λ x q. loop_reads begin g n x q))) (sym h) (again x q)
    item again E (Stop why r) p (inl h) = inl (ap (λ o. then_read o (λ x q. loop_reads begin g n x q)) h)
    item again E (Stop why r) p (inr h) = inr (h.0, shorter bound.gains (left p) (left (then_read p (λ x q. loop_reads begin g n x q))) r (rests n E (left p) p (end_all (left p))) h.1)

    turn : Again → Ends n → (b : Bool) → Deeper bound (if b then then_read ((f s).reads p) (λ x q. loop_reads begin f n x q) else Got s p) (if b then then_read ((g s).reads p) (λ x q. loop_reads begin g n x q) else Got s p)
    turn again E true = item again E ((f s).reads p) ((g s).reads p) (D s p)
    turn again E false = refl

pub loop : {S : Type 0} {bound : Bound} {begin : TokenKind → Bool} {f g : S → Form S} {s : S} → ((s : S) → Deepens bound true (f s) (g s)) → Deepens bound false (form.loop begin f s) (form.loop begin g s)
loop {bound = bound} {begin = begin} {f = f} {g = g} {s = s} D = record {
  goes = λ p. turns_deeper bound (λ _. begin) f g (λ x. (D x).goes) (λ x. (D x).law.lawful) (length p.rest) s p;
  law = laws.loop (λ x. (D x).law);
}

pub many : {A : Type 0} {bound : Bound} {begin : TokenKind → Bool} {f g : Form A} → Deepens bound true f g → Deepens bound false (form.many begin f) (form.many begin g)
many D = loop (λ front. D >>= (λ y. same laws.pure))

pub some : {A : Type 0} {bound : Bound} {begin : TokenKind → Bool} {f g : Form A} → Deepens bound true f g → Deepens bound true (form.some begin f) (form.some begin g)
some D = D >>= (λ x. loop (λ front. D >>= (λ y. same laws.pure)))

-- what is nested too deep goes on where one level more takes the token that begins it
pub one_more : {A : Type 0} (want : Why) (begin : TokenKind → Bool) {f : Form A} {b : Bool} → Law b f → Deepens (levels_of want) true (parts.too_deep want begin) (form.◌>>◌ (parts.sign begin) f)
one_more {A = A} want begin {f = f} F = record { goes = λ p. go p p.rest; law = laws.◌>>◌ (laws.sign begin) F }
  where
    more : Input → List Token → Outcome A
    more p ts = then_read (one_reads (λ position kind. when (begin kind) position) ts p) (λ u q. f.reads q)

    begun : (p : Input) (t : Token) (ts : List Token) (test : Bool)
        → Deeper (levels_of want) ((form.chosen test (form.refuse {A = A} want) (form.refuse Syntax)).reads (at (t ∷ ts) p)) (then_read (taken_as (when test (position_of p t)) t ts p) (λ u q. f.reads q))
    begun p t ts true = inr (refl, shorter 1 ts (left (f.reads (past ts p))) (t ∷ ts) (F.lawful.within (past ts p)) (omega arith))
    begun p t ts false = inl refl

    go : (p : Input) (ts : List Token) → Deeper (levels_of want) ((parts.too_deep {A = A} want begin).reads (at ts p)) (more p ts)
    go p [] = inl refl
    go p (t ∷ ts) = begun p t ts (begin t.kind)

-- what is refused at an input is refused by a limit alone, whatever the second form reads from there
pub refused : {A : Type 0} (want : Why) {f : Form A} {b : Bool} → Law b f → Deepens (count_of want) b (form.refuse want) f
refused want {f = f} F = record { goes = λ p. inr (refl, shorter 0 p.rest (left (f.reads p)) p.rest (F.lawful.within p) (omega arith)); law = F }

-- a form takes a token exactly where one of these is next
pub record TakesFirst {A : Type 0} (begin : TokenKind → Bool) (f : Form A) : Type 0 where
  pub otherwise : (p : Input) → is_next begin p ≡ false → f.reads p ≡ Stop Syntax p.rest

-- what a limit refuses at any of several tokens
pub limited : {A : Type 0} (want : Why) (begin : TokenKind → Bool) {f : Form A} {b : Bool} → Law b f → TakesFirst begin f → Deepens (count_of want) b (parts.too_deep want begin) f
limited {A = A} want begin {f = f} F T = record { goes = λ p. go p (is_next begin p) refl; law = F }
  where
    go : (p : Input) (test : Bool) → is_next begin p ≡ test → Deeper (count_of want) ((form.chosen test (form.refuse {A = A} want) (form.refuse Syntax)).reads p) (f.reads p)
    go p true e = inr (refl, shorter 0 p.rest (left (f.reads p)) p.rest (F.lawful.within p) (omega arith))
    go p false e = inl (T.otherwise p e)
