-- The makers of forms keep forms alike.
use Rattle.std.proofs.Common.{◌≡◌, ℕ, zero, suc, Bool, true, false, if◌then◌else◌, length, Option, Some, None, refl, ap, sym, ◌∙◌, subst}
use Rattle.cobol_lex.specs.declared.token.TokenKind.{TokenKind}
use Rattle.parser_combinators.specs.declared.note.Note.{Note}
use Rattle.parser_combinators.specs.declared.why.Why.{Why}
use Rattle.parser_combinators.specs.Form as form
use Rattle.parser_combinators.specs.Form.{Input, noted_before, Outcome, Got, Stop, Form, then_read, is_next, begins_by, loop_reads}
use Rattle.parser_combinators.specs.Part as parts
use Rattle.parser_combinators.proofs.Lawful.{Lawful}
use Rattle.parser_combinators.proofs.MakerLaws.{Law}
use Rattle.grammar_laws.specs.whole_counts.status_readings.Alike.{SamePlace, AlikeOutcomes, Alike}

-- ---- of two outcomes

then-alike : {A B C D : Type 0} (R : A → B → Type 0) (S : C → D → Type 0) (h : A → Input → Outcome C) (k : B → Input → Outcome D) →
    ((a : A) (b : B) (p q : Input) → R a b → SamePlace p q → AlikeOutcomes S (h a p) (k b q)) →
    (o : Outcome A) (u : Outcome B) → AlikeOutcomes R o u → AlikeOutcomes S (then_read o h) (then_read u k)
then-alike R S h k G (Got a p) (Got b q) e = G a b p q e.0 e.1
then-alike R S h k G (Got a p) (Stop why rest) e = absurd e
then-alike R S h k G (Stop why rest) (Got b q) e = absurd e
then-alike R S h k G (Stop why rest) (Stop other left) e = e

to-alike : {A B : Type 0} (R S : A → B → Type 0) → ((a : A) (b : B) → R a b → S a b) → (o : Outcome A) (u : Outcome B) → AlikeOutcomes R o u → AlikeOutcomes S o u
to-alike R S h (Got a p) (Got b q) e = (h a b e.0, e.1)
to-alike R S h (Got a p) (Stop why rest) e = absurd e
to-alike R S h (Stop why rest) (Got b q) e = absurd e
to-alike R S h (Stop why rest) (Stop other left) e = e

pub hence : {A B : Type 0} {f : Form A} {g : Form B} {R S : A → B → Type 0} → ((a : A) (b : B) → R a b → S a b) → Alike f g R → Alike f g S
hence {f = f} {g = g} {R = R} {S = S} h F = record { alike = λ p q e. to-alike R S h (f.reads p) (g.reads q) (F.alike p q e) }

pub pure : {A B : Type 0} {a : A} {b : B} {R : A → B → Type 0} → R a b → Alike (form.pure a) (form.pure b) R
pure h = record { alike = λ p q e. (h, e) }

pub refuse : {A B : Type 0} {why : Why} {R : A → B → Type 0} → Alike (form.refuse {A = A} why) (form.refuse {A = B} why) R
refuse = record { alike = λ p q e. (refl, e.rest) }

pub note : {one other : Option Note} → Alike (form.note one) (form.note other) (λ a b. Unit {0})
note = record { alike = λ p q e. (tt, record { rest = e.rest; taken = e.taken }) }

infixl 10 ◌>>=◌
pub ◌>>=◌ : {A B C D : Type 0} {f : Form A} {g : Form B} {h : A → Form C} {k : B → Form D} {R : A → B → Type 0} {S : C → D → Type 0} →
    Alike f g R → ((a : A) (b : B) → R a b → Alike (h a) (k b) S) → Alike (form.◌>>=◌ f h) (form.◌>>=◌ g k) S
◌>>=◌ {f = f} {g = g} {h = h} {k = k} {R = R} {S = S} F G = record {
  alike = λ p q e. then-alike R S (λ a r. (h a).reads r) (λ b r. (k b).reads r) (λ a b r s is place. (G a b is).alike r s place) (f.reads p) (g.reads q) (F.alike p q e);
}

infixl 10 ◌>>◌
pub ◌>>◌ : {A B C D : Type 0} {f : Form A} {g : Form B} {h : Form C} {k : Form D} {R : A → B → Type 0} {S : C → D → Type 0} →
    Alike f g R → Alike h k S → Alike (form.◌>>◌ f h) (form.◌>>◌ g k) S
F >> G = F >>= (λ a b is. G)

-- ---- one form at two inputs, whatever is noted

refault : {A : Type 0} (earlier : Option Note) (o u : Outcome A) → u ≡ noted_before earlier o → AlikeOutcomes (λ a b. a ≡ b) u o
refault earlier (Got a p) u e = subst (λ v. AlikeOutcomes (λ a b. a ≡ b) v (Got a p)) (sym e) (refl, record { rest = refl; taken = refl })
refault earlier (Stop why rest) u e = subst (λ v. AlikeOutcomes (λ a b. a ≡ b) v (Stop why rest)) (sym e) (refl, refl)

back : {A : Type 0} (o u : Outcome A) → AlikeOutcomes (λ a b. a ≡ b) o u → AlikeOutcomes (λ a b. a ≡ b) u o
back (Got a p) (Got b q) e = (sym e.0, record { rest = sym e.1.rest; taken = sym e.1.taken })
back (Got a p) (Stop why rest) e = absurd e
back (Stop why rest) (Got b q) e = absurd e
back (Stop why rest) (Stop other left) e = (sym e.0, sym e.1)

along : {A : Type 0} (o u v : Outcome A) → AlikeOutcomes (λ a b. a ≡ b) o u → AlikeOutcomes (λ a b. a ≡ b) u v → AlikeOutcomes (λ a b. a ≡ b) o v
along (Got a p) (Got b q) (Got c r) e k = (e.0 ∙ k.0, record { rest = e.1.rest ∙ k.1.rest; taken = e.1.taken ∙ k.1.taken })
along (Got a p) (Got b q) (Stop why rest) e k = absurd k
along (Got a p) (Stop why rest) v e k = absurd e
along (Stop why rest) (Got b q) v e k = absurd e
along (Stop why rest) (Stop other left) (Got c r) e k = absurd k
along (Stop why rest) (Stop other left) (Stop last end) e k = (e.0 ∙ k.0, e.1 ∙ k.1)

-- an input without a fault
bare : Input → Input
bare p = record p { fault = None }

to_bare : {A : Type 0} {f : Form A} → Lawful f → (p : Input) → AlikeOutcomes (λ a b. a ≡ b) (f.reads p) (f.reads (record p { fault = None }))
to_bare {A = A} {f = f} F p = go p.fault refl
  where
    go : (o : Option Note) → p.fault ≡ o → AlikeOutcomes (λ a b. a ≡ b) (f.reads p) (f.reads (record p { fault = None }))
    go None is = refault None (f.reads (record p { fault = None })) (f.reads p) (ap f.reads (ap (λ fault. record p { fault = fault }) is) ∙ F.noted (record p { fault = None }) None)
    go (Some found) is = refault (Some found) (f.reads (record p { fault = None })) (f.reads p) (ap f.reads (ap (λ fault. record p { fault = fault }) is) ∙ F.noted (record p { fault = None }) (Some found))

placed : (p q : Input) → SamePlace p q → ◌≡◌ {A = Input} (record p { fault = None }) (record q { fault = None })
placed p q e = ap (λ rest. record p { rest = rest; fault = None }) e.rest ∙ ap (λ taken. record { rest = q.rest; taken = taken; fault = None }) e.taken

pub same : {A : Type 0} {b : Bool} {f : Form A} → Law b f → Alike f f (λ a b. a ≡ b)
same {f = f} F = record {
  alike = λ p q e.
      along (f.reads p) (f.reads (record p { fault = None })) (f.reads q) (to_bare F.lawful p)
      (subst (λ r. AlikeOutcomes (λ a b. a ≡ b) (f.reads r) (f.reads q)) (sym (placed p q e)) (back (f.reads q) (f.reads (record q { fault = None })) (to_bare F.lawful q)));
}

-- ---- by the next token

pub by : {A B : Type 0} {c : Option TokenKind → Form A} {d : Option TokenKind → Form B} {R : A → B → Type 0} → ((o : Option TokenKind) → Alike (c o) (d o) R) → Alike (form.by c) (form.by d) R
by {c = c} {d = d} {R = R} D = record {
  alike = λ p q e. subst (λ ts. AlikeOutcomes R ((c (form.next p.rest)).reads p) ((d (form.next ts)).reads q)) e.rest ((D (form.next p.rest)).alike p q e);
}

pub chosen : {A B : Type 0} (test : Bool) {f h : Form A} {g k : Form B} {R : A → B → Type 0} → Alike f g R → Alike h k R → Alike (form.chosen test f h) (form.chosen test g k) R
chosen true T O = T
chosen false T O = O

pub where_next : {A B : Type 0} {begin : TokenKind → Bool} {f h : Form A} {g k : Form B} {R : A → B → Type 0} → Alike f g R → Alike h k R → Alike (form.where_next begin f h) (form.where_next begin g k) R
where_next {begin = begin} T O = by (λ o. chosen (begins_by begin o) T O)

pub too_deep : {A B : Type 0} {why : Why} {begin : TokenKind → Bool} {R : A → B → Type 0} → Alike (parts.too_deep {A = A} why begin) (parts.too_deep {A = B} why begin) R
too_deep = where_next refuse refuse

-- ---- loops

turns : {S T : Type 0} (begin : TokenKind → Bool) (f : S → Form S) (g : T → Form T) (R : S → T → Type 0) → ((s : S) (t : T) → R s t → Alike (f s) (g t) R) →
    (n : ℕ) (s : S) (t : T) (p q : Input) → R s t → SamePlace p q → AlikeOutcomes R (loop_reads (λ _. begin) f n s p) (loop_reads (λ _. begin) g n t q)
unfolding loop_reads
turns begin f g R G zero s t p q is e = (is, e)
turns {S = S} {T = T} begin f g R G (suc n) s t p q is e = go (is_next begin p) (ap (λ ts. begins_by begin (form.next ts)) (sym e.rest)) (λ x y r v. turns begin f g R G n x y r v)
  where
    go : (b : Bool) → is_next begin q ≡ b → ((x : S) (y : T) (r v : Input) → R x y → SamePlace r v → AlikeOutcomes R (loop_reads (λ _. begin) f n x r) (loop_reads (λ _. begin) g n y v)) →
        AlikeOutcomes R (if b then then_read ((f s).reads p) (λ x r. loop_reads (λ _. begin) f n x r) else Got s p) (if is_next begin q then then_read ((g t).reads q) (λ y v. loop_reads (λ _. begin) g n y v) else Got t q)
    go b same again = subst (λ c. AlikeOutcomes R (if b then then_read ((f s).reads p) (λ x r. loop_reads (λ _. begin) f n x r) else Got s p) (if c then then_read ((g t).reads q) (λ y v. loop_reads (λ _. begin) g n y v) else Got t q)) (sym same) (turn b)
      where
        turn : (b : Bool) → AlikeOutcomes R (if b then then_read ((f s).reads p) (λ x r. loop_reads (λ _. begin) f n x r) else Got s p) (if b then then_read ((g t).reads q) (λ y v. loop_reads (λ _. begin) g n y v) else Got t q)
        turn true = then-alike R R _ _ again ((f s).reads p) ((g t).reads q) ((G s t is).alike p q e)
        turn false = (is, e)

pub loop : {S T : Type 0} {begin : TokenKind → Bool} {f : S → Form S} {g : T → Form T} {s : S} {t : T} {R : S → T → Type 0} →
    ((s : S) (t : T) → R s t → Alike (f s) (g t) R) → R s t → Alike (form.loop begin f s) (form.loop begin g t) R
loop {begin = begin} {f = f} {g = g} {s = s} {t = t} {R = R} G is = record {
  alike = λ p q e. subst (λ n. AlikeOutcomes R (loop_reads (λ _. begin) f (length p.rest) s p) (loop_reads (λ _. begin) g n t q)) (ap length e.rest) (turns begin f g R G (length p.rest) s t p q is e);
}
