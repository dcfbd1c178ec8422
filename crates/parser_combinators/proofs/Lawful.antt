-- The three readings of a form belong together, and each way to make a form keeps that.
use Rattle.std.proofs.Common.{◌≡◌, ℕ, ◌+◌, inl, inr, List, [], ◌∷◌, ◌++◌, length, Option, Some, None, refl, sym, ap, subst, ◌∙◌, append_assoc, length-append, arith}
use Rattle.cobol_lex.specs.declared.token.Token.{Token}
use Rattle.cobol_lex.specs.declared.token.TokenKind.{TokenKind}
use Rattle.parser_combinators.specs.declared.note.Note.{Note}
use Rattle.parser_combinators.specs.declared.note.Position.{Position}
use Rattle.parser_combinators.proofs.Earliest.{earliest-assoc}
use Rattle.parser_combinators.specs.declared.why.Why.{Why}
use Rattle.parser_combinators.specs.Form.{Input, at, note, with_fault, behind_fault, Outcome, Got, Stop, left, then_read, noted_before, Form, pure, refuse, ◌>>=◌, past, position_of, one_spells, one_cut, taken_as, one_reads, one, next, by_cut, by}

abbrev pub behind : {A : Type 0} → List Token → Outcome A → Outcome A
behind more (Got a p) = Got a (at (p.rest ++ more) p)
behind more (Stop why rest) = Stop why (rest ++ more)

-- The second list is an end of the first.
abbrev pub IsEnd : List Token → List Token → Type 0
IsEnd ts rest = (used : List Token) × (ts ≡ used ++ rest)

-- What more tokens behind do, by what was left without them: nothing is taken back that was decided, and where all was read, the rest lies in what is new.
abbrev pub Extends : {A : Type 0} → Outcome A → Outcome A → List Token → List Token → Type 0
Extends now extended more [] = IsEnd more (left extended)
Extends now extended more (t ∷ r) = extended ≡ behind more now

pub record Lawful {A : Type 0} (f : Form A) : Type 0 where
  pub sound : (p : Input) (a : A) (q : Input) → f.reads p ≡ Got a q → f.spells p a q
  pub complete : (p : Input) (a : A) (q : Input) → f.spells p a q → f.reads p ≡ Got a q
  pub whole : (p : Input) → f.cut p → left (f.reads p) ≡ []
  pub part : (p : Input) → left (f.reads p) ≡ [] → f.cut p
  pub within : (p : Input) → IsEnd p.rest (left (f.reads p))
  pub extends : (p : Input) (more : List Token) → Extends (f.reads p) (f.reads (at (p.rest ++ more) p)) more (left (f.reads p))
  pub noted : (p : Input) (earlier : Option Note) → f.reads (behind_fault earlier p) ≡ noted_before earlier (f.reads p)
  pub counted : (p : Input) (a : A) (q : Input) → f.reads p ≡ Got a q → q.taken + length q.rest ≡ p.taken + length p.rest

-- how many tokens there are before an input and behind it
abbrev pub total : Input → ℕ
total p = p.taken + length p.rest

-- ---- small things

pub got_is : {A : Type 0} (a b : A) (r s : Input) → Got a r ≡ Got b s → (a ≡ b) × (r ≡ s)
got_is a b r s e = (cc, cc)

pub end_all : (ts : List Token) → IsEnd ts ts
end_all ts = ([], refl)

pub end_then : (a b c : List Token) → IsEnd a b → IsEnd b c → IsEnd a c
end_then a b c p q = (p.0 ++ q.0, p.1 ∙ ap (λ r. p.0 ++ r) q.1 ∙ sym (append_assoc p.0 q.0 c))

pub end_nil : (r : List Token) → IsEnd [] r → r ≡ []
end_nil [] h = refl
end_nil (t ∷ r) h =
    let nothing : List Token = [] in
    let n : length nothing ≡ length (h.0 ++ t ∷ r) = ap length h.1 in absurd (omega (arith, n, length-append h.0 (t ∷ r)))

-- ---- nothing

abbrev got : {A : Type 0} → A → Input → Outcome A
got a p = Got a p

-- an input that is given
got_extends : {A : Type 0} (a : A) (p : Input) (rest more : List Token) → Extends (got a (at rest p)) (got a (at (rest ++ more) p)) more rest
got_extends a p [] more = end_all more
got_extends a p (t ∷ ts) more = refl

abbrev stopped : {A : Type 0} → Why → List Token → Outcome A
stopped why ts = Stop why ts

stopped_extends : (A : Type 0) (why : Why) (ts more : List Token) → Extends (stopped {A = A} why ts) (stopped {A = A} why (ts ++ more)) more ts
stopped_extends A why [] more = end_all more
stopped_extends A why (t ∷ ts) more = refl

pub pure-lawful : {A : Type 0} (a : A) → Lawful (pure a)
pure-lawful a = record {
  sound = λ p b q e. got_is a b p q e;
  complete = λ p b q h. cc;
  whole = λ p h. h;
  part = λ p h. h;
  within = λ p. end_all p.rest;
  extends = λ p more. got_extends a p p.rest more;
  noted = λ p earlier. refl;
  counted = λ p b q e. ap total (sym (got_is a b p q e).1);
}

noted_twice : (earlier late : Option Note) (p : Input) → with_fault late (behind_fault earlier p) ≡ behind_fault earlier (with_fault late p)
noted_twice earlier late p = ap (λ fault. record p { fault = fault }) (earliest-assoc earlier p.fault late)

pub note-lawful : (fault : Option Note) → Lawful (note fault)
note-lawful fault = record {
  sound = λ p b q e. (got_is tt b (with_fault fault p) q e).1;
  complete = λ p b q h. ap (λ r. Got b r) h;
  whole = λ p h. h;
  part = λ p h. h;
  within = λ p. end_all p.rest;
  extends = λ p more. got_extends tt (with_fault fault p) p.rest more;
  noted = λ p earlier. ap (λ q. Got tt q) (noted_twice earlier fault p);
  counted = λ p b q e. ap total (sym (got_is tt b (with_fault fault p) q e).1);
}

pub refuse-lawful : {A : Type 0} (why : Why) → Lawful (refuse {A = A} why)
refuse-lawful {A = A} why = record {
  sound = λ p b q e. cc;
  complete = λ p b q h. absurd h;
  whole = λ p h. h;
  part = λ p h. h;
  within = λ p. end_all p.rest;
  extends = λ p more. stopped_extends A why p.rest more;
  noted = λ p earlier. refl;
  counted = λ p b q e. absurd cc;
}

-- ---- one after the other

pub then_got : {A B : Type 0} (o : Outcome A) (f : A → Input → Outcome B) (b : B) (rest : Input) → then_read o f ≡ Got b rest → (a : A) × (mid : Input) × (o ≡ Got a mid) × (f a mid ≡ Got b rest)
then_got (Got a mid) f b rest e = (a, mid, refl, e)
then_got (Stop why r) f b rest e = absurd cc

bind_sound : {A B : Type 0} (f : Form A) (g : A → Form B) → Lawful f → ((a : A) → Lawful (g a)) → (ts : Input) (b : B) (rest : Input) → (f >>= g).reads ts ≡ Got b rest → (f >>= g).spells ts b rest
bind_sound f g F G ts b rest e =
    let p = then_got (f.reads ts) (λ a r. (g a).reads r) b rest e in
    (p.0, p.1, F.sound ts p.0 p.1 p.2, (G p.0).sound p.1 b rest p.3)

bind_complete : {A B : Type 0} (f : Form A) (g : A → Form B) → Lawful f → ((a : A) → Lawful (g a)) → (ts : Input) (b : B) (rest : Input) → (f >>= g).spells ts b rest → (f >>= g).reads ts ≡ Got b rest
bind_complete f g F G ts b rest h =
    ap (λ o. then_read o (λ a r. (g a).reads r)) (F.complete ts h.0 h.1 h.2) ∙ (G h.0).complete h.1 b rest h.3

-- where the first reads all, so do both
both_whole : {A B : Type 0} (g : A → Form B) → ((a : A) → Lawful (g a)) → (o : Outcome A) → left o ≡ [] → left (then_read o (λ a r. (g a).reads r)) ≡ []
both_whole g G (Got a r) e = end_nil _ (subst (λ ts. IsEnd ts (left ((g a).reads r))) e ((G a).within r))
both_whole g G (Stop why r) e = e

bind_whole : {A B : Type 0} (f : Form A) (g : A → Form B) → Lawful f → ((a : A) → Lawful (g a)) → (ts : Input) → (f >>= g).cut ts → left ((f >>= g).reads ts) ≡ []
bind_whole f g F G ts (inl h) = both_whole g G (f.reads ts) (F.whole ts h)
bind_whole f g F G ts (inr h) =
    ap (λ o. left (then_read o (λ a r. (g a).reads r))) (F.complete ts h.0 h.1 h.2) ∙ (G h.0).whole h.1 h.3

bind_part : {A B : Type 0} (f : Form A) (g : A → Form B) → Lawful f → ((a : A) → Lawful (g a)) → (ts : Input) → left ((f >>= g).reads ts) ≡ [] → (f >>= g).cut ts
bind_part {A = A} f g F G ts e = go (f.reads ts) refl e
  where
    go : (o : Outcome A) → f.reads ts ≡ o → left (then_read o (λ a r. (g a).reads r)) ≡ [] → (f >>= g).cut ts
    go (Got a r) is e = inr (a, r, F.sound ts a r is, (G a).part r e)
    go (Stop why r) is e = inl (F.part ts (ap left is ∙ e))

pub both_within : {A B : Type 0} (g : A → Form B) → ((a : A) → Lawful (g a)) → (o : Outcome A) (ts : List Token) → IsEnd ts (left o) → IsEnd ts (left (then_read o (λ a r. (g a).reads r)))
both_within g G (Got a r) ts h = end_then ts r.rest (left ((g a).reads r)) h ((G a).within r)
both_within g G (Stop why r) ts h = h

then_extends : {A B : Type 0} (g : A → Form B) → ((a : A) → Lawful (g a)) → (a : A) (v : Input) (rest : List Token) (p : Outcome A) (more : List Token) → Extends (got a (at rest v)) p more rest
    → Extends ((g a).reads (at rest v)) (then_read p (λ a r. (g a).reads r)) more (left ((g a).reads (at rest v)))
then_extends g G a v [] p more h =
    let none : left ((g a).reads (at [] v)) ≡ [] = end_nil _ ((G a).within (at [] v)) in
    subst (λ r. Extends ((g a).reads (at [] v)) (then_read p (λ a r. (g a).reads r)) more r) (sym none) (both_within g G p more h)
then_extends g G a v (t ∷ r) p more h =
    subst (λ q. Extends ((g a).reads (at (t ∷ r) v)) (then_read q (λ a r. (g a).reads r)) more (left ((g a).reads (at (t ∷ r) v)))) (sym h) ((G a).extends (at (t ∷ r) v) more)

both_extends : {A B : Type 0} (g : A → Form B) → ((a : A) → Lawful (g a)) → (o p : Outcome A) (more : List Token) → Extends o p more (left o)
    → Extends (then_read o (λ a r. (g a).reads r)) (then_read p (λ a r. (g a).reads r)) more (left (then_read o (λ a r. (g a).reads r)))
both_extends g G (Got a v) p more h = then_extends g G a v v.rest p more h
both_extends g G (Stop why []) p more h = both_within g G p more h
both_extends g G (Stop why (t ∷ r)) p more h = ap (λ q. then_read q (λ a r. (g a).reads r)) h

both_noted : {A B : Type 0} (g : A → Form B) → ((a : A) → Lawful (g a)) → (earlier : Option Note) (o : Outcome A) → then_read (noted_before earlier o) (λ a r. (g a).reads r) ≡ noted_before earlier (then_read o (λ a r. (g a).reads r))
both_noted g G earlier (Got a q) = (G a).noted q earlier
both_noted g G earlier (Stop why r) = refl

pub bind-lawful : {A B : Type 0} (f : Form A) (g : A → Form B) → Lawful f → ((a : A) → Lawful (g a)) → Lawful (f >>= g)
bind-lawful f g F G = record {
  sound = bind_sound f g F G;
  complete = bind_complete f g F G;
  whole = bind_whole f g F G;
  part = bind_part f g F G;
  within = λ ts. both_within g G (f.reads ts) ts.rest (F.within ts);
  extends = λ ts more. both_extends g G (f.reads ts) (f.reads (at (ts.rest ++ more) ts)) more (F.extends ts more);
  noted = λ p earlier. ap (λ o. then_read o (λ a r. (g a).reads r)) (F.noted p earlier) ∙ both_noted g G earlier (f.reads p);
  counted = λ p b q e. let s = then_got (f.reads p) (λ a r. (g a).reads r) b q e in (G s.0).counted s.1 b q s.3 ∙ F.counted p s.0 s.1 s.2;
}

-- ---- one token

one_sound : {A : Type 0} (test : Position → TokenKind → Option A) (ts : List Token) (p : Input) (a : A) (q : Input) → one_reads test ts p ≡ Got a q → one_spells test ts p a q
one_sound test [] p a q e = absurd cc
one_sound {A = A} test (t ∷ ts) p a q e = go (test (position_of p t) t.kind) refl e
  where
    go : (o : Option A) → test (position_of p t) t.kind ≡ o → taken_as o t ts p ≡ Got a q → (test (position_of p t) t.kind ≡ Some a) × (past ts p ≡ q)
    go (Some b) is e = let h = got_is b a (past ts p) q e in (is ∙ ap (λ x. Some x) h.0, h.1)
    go None is e = absurd cc

one_complete : {A : Type 0} (test : Position → TokenKind → Option A) (ts : List Token) (p : Input) (a : A) (q : Input) → one_spells test ts p a q → one_reads test ts p ≡ Got a q
one_complete test [] p a q h = absurd h
one_complete test (t ∷ ts) p a q h = ap (λ o. taken_as o t ts p) h.0 ∙ ap (λ r. Got a r) h.1

one_whole : {A : Type 0} (test : Position → TokenKind → Option A) (ts : List Token) (p : Input) → one_cut test ts p → left (one_reads test ts p) ≡ []
one_whole test [] p h = refl
one_whole test (t ∷ ts) p h = ap (λ o. left (taken_as o t ts p)) h.0.1 ∙ h.1

one_part : {A : Type 0} (test : Position → TokenKind → Option A) (ts : List Token) (p : Input) → left (one_reads test ts p) ≡ [] → one_cut test ts p
one_part test [] p e = tt
one_part {A = A} test (t ∷ ts) p e = go (test (position_of p t) t.kind) refl e
  where
    go : (o : Option A) → test (position_of p t) t.kind ≡ o → left (taken_as o t ts p) ≡ [] → one_cut test (t ∷ ts) p
    go (Some b) is e = ((b, is), e)
    go None is e = absurd cc

one_within : {A : Type 0} (test : Position → TokenKind → Option A) (ts : List Token) (p : Input) → IsEnd ts (left (one_reads test ts p))
one_within test [] p = end_all []
one_within {A = A} test (t ∷ ts) p = go (test (position_of p t) t.kind)
  where
    go : (o : Option A) → IsEnd (t ∷ ts) (left (taken_as o t ts p))
    go (Some b) = (t ∷ [], refl)
    go None = end_all (t ∷ ts)

one_extends : {A : Type 0} (test : Position → TokenKind → Option A) (ts : List Token) (p : Input) (more : List Token) → Extends (one_reads test ts p) (one_reads test (ts ++ more) p) more (left (one_reads test ts p))
one_extends test [] p more = one_within test more p
one_extends {A = A} test (t ∷ ts) p more = go (test (position_of p t) t.kind) ts
  where
    go : (o : Option A) (ts : List Token) → Extends (taken_as o t ts p) (taken_as o t (ts ++ more) p) more (left (taken_as o t ts p))
    go (Some b) [] = end_all more
    go (Some b) (u ∷ us) = refl
    go None ts = refl

-- the tokens that the input holds itself do not matter
one_moved : {A : Type 0} (test : Position → TokenKind → Option A) (ts more : List Token) (p : Input) → one_reads test ts (at more p) ≡ one_reads test ts p
one_moved test [] more p = refl
one_moved {A = A} test (t ∷ ts) more p = go (test (position_of p t) t.kind)
  where
    go : (o : Option A) → taken_as o t ts (at more p) ≡ taken_as o t ts p
    go (Some b) = refl
    go None = refl

one_noted : {A : Type 0} (test : Position → TokenKind → Option A) (ts : List Token) (p : Input) (earlier : Option Note) → one_reads test ts (behind_fault earlier p) ≡ noted_before earlier (one_reads test ts p)
one_noted test [] p earlier = refl
one_noted {A = A} test (t ∷ ts) p earlier = go (test (position_of p t) t.kind)
  where
    go : (o : Option A) → taken_as o t ts (behind_fault earlier p) ≡ noted_before earlier (taken_as o t ts p)
    go (Some b) = refl
    go None = refl

one_counted : {A : Type 0} (test : Position → TokenKind → Option A) (ts : List Token) (p : Input) (a : A) (q : Input) → one_reads test ts p ≡ Got a q → q.taken + length q.rest ≡ p.taken + length ts
one_counted test [] p a q e = absurd cc
one_counted {A = A} test (t ∷ ts) p a q e = go (test (position_of p t) t.kind) e
  where
    go : (o : Option A) → taken_as o t ts p ≡ Got a q → q.taken + length q.rest ≡ p.taken + length (t ∷ ts)
    go (Some b) e = let same : q.taken + length q.rest ≡ (p.taken + 1) + length ts = ap total (sym (got_is b a (past ts p) q e).1) in omega (arith, same)
    go None e = absurd cc

pub one-lawful : {A : Type 0} (test : Position → TokenKind → Option A) → Lawful (one test)
one-lawful test = record {
  sound = λ p. one_sound test p.rest p;
  complete = λ p. one_complete test p.rest p;
  whole = λ p. one_whole test p.rest p;
  part = λ p. one_part test p.rest p;
  within = λ p. one_within test p.rest p;
  extends = λ p more. subst (λ o. Extends (one_reads test p.rest p) o more (left (one_reads test p.rest p))) (sym (one_moved test (p.rest ++ more) (p.rest ++ more) p)) (one_extends test p.rest p more);
  noted = λ p. one_noted test p.rest p;
  counted = λ p. one_counted test p.rest p;
}

-- ---- by the next token

by_whole : {A : Type 0} (choice : Option TokenKind → Form A) → ((o : Option TokenKind) → Lawful (choice o)) → (ts : List Token) (p : Input) → by_cut choice (at ts p) ts → left ((by choice).reads (at ts p)) ≡ []
by_whole choice C [] p h = end_nil _ ((C None).within (at [] p))
by_whole choice C (t ∷ ts) p h = (C (Some t.kind)).whole (at (t ∷ ts) p) h

by_part : {A : Type 0} (choice : Option TokenKind → Form A) → ((o : Option TokenKind) → Lawful (choice o)) → (ts : List Token) (p : Input) → left ((by choice).reads (at ts p)) ≡ [] → by_cut choice (at ts p) ts
by_part choice C [] p h = tt
by_part choice C (t ∷ ts) p h = (C (Some t.kind)).part (at (t ∷ ts) p) h

by_extends : {A : Type 0} (choice : Option TokenKind → Form A) → ((o : Option TokenKind) → Lawful (choice o)) → (ts : List Token) (p : Input) (more : List Token) → Extends ((by choice).reads (at ts p)) ((by choice).reads (at (ts ++ more) p)) more (left ((by choice).reads (at ts p)))
by_extends choice C [] p more =
    subst (λ r. Extends ((choice None).reads (at [] p)) ((choice (next more)).reads (at more p)) more r) (sym (end_nil _ ((C None).within (at [] p)))) ((C (next more)).within (at more p))
by_extends choice C (t ∷ ts) p more = (C (Some t.kind)).extends (at (t ∷ ts) p) more

pub by-lawful : {A : Type 0} (choice : Option TokenKind → Form A) → ((o : Option TokenKind) → Lawful (choice o)) → Lawful (by choice)
by-lawful choice C = record {
  sound = λ p. (C (next p.rest)).sound p;
  complete = λ p. (C (next p.rest)).complete p;
  whole = λ p. by_whole choice C p.rest p;
  part = λ p. by_part choice C p.rest p;
  within = λ p. (C (next p.rest)).within p;
  extends = λ p more. by_extends choice C p.rest p more;
  noted = λ p. (C (next p.rest)).noted p;
  counted = λ p. (C (next p.rest)).counted p;
}
