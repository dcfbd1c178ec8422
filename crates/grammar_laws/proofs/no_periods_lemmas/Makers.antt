-- The makers of forms keep that no period is taken.
use Rattle.std.proofs.Common.{◌≡◌, ℕ, zero, suc, Bool, true, false, if◌then◌else◌, List, [], ◌∷◌, ◌++◌, length, Option, Some, None, refl, ap, sym, ◌∙◌, append_assoc}
use Rattle.cobol_lex.specs.declared.token.Token.{Token}
use Rattle.cobol_lex.specs.declared.token.TokenKind.{TokenKind}
use Rattle.cobol_lex.specs.declared.token.TokenKind.TheVariants as kinds
use Rattle.parser_combinators.specs.declared.note.Note.{Note}
use Rattle.parser_combinators.specs.declared.note.Position.{Position}
use Rattle.parser_combinators.specs.declared.why.Why.{Why}
use Rattle.parser_combinators.specs.Form as form
use Rattle.parser_combinators.specs.Form.{Input, with_fault, Got, Form, then_read, past, position_of, taken_as, one_reads, is_next, begins_by, loop_reads}
use Rattle.parser_combinators.specs.Part as parts
use Rattle.parser_combinators.specs.Part.{is_period}
use Rattle.parser_combinators.proofs.Lawful.{got_is, then_got}
use Rattle.grammar_laws.specs.no_periods.Plain.{NoPeriods, LeftOf, Plain}

left-all : (ts rest : List Token) → ts ≡ rest → LeftOf ts rest
left-all ts rest e = ([], e, tt)

both-none : (a b : List Token) → NoPeriods a → NoPeriods b → NoPeriods (a ++ b)
both-none [] b h k = k
both-none (t ∷ a) b h k = (h.0, both-none a b h.1 k)

left-then : (a b c : List Token) → LeftOf a b → LeftOf b c → LeftOf a c
left-then a b c h k = (h.0 ++ k.0, h.1 ∙ (ap (λ r. h.0 ++ r) k.1 ∙ sym (append_assoc h.0 k.0 c)), both-none h.0 k.0 h.2 k.2)

pub pure : {A : Type 0} {a : A} → Plain (form.pure a)
pure {a = a} = record { takes = λ p b q e. left-all p.rest q.rest (ap (λ r. r.rest) (got_is a b p q e).1) }

pub refuse : {A : Type 0} {why : Why} → Plain (form.refuse {A = A} why)
refuse = record { takes = λ p b q e. absurd cc }

pub note : {fault : Option Note} → Plain (form.note fault)
note {fault = fault} = record { takes = λ p b q e. left-all p.rest q.rest (ap (λ r. r.rest) (got_is tt b (with_fault fault p) q e).1) }

infixl 10 ◌>>=◌
pub ◌>>=◌ : {A B : Type 0} {f : Form A} {g : A → Form B} → Plain f → ((a : A) → Plain (g a)) → Plain (form.◌>>=◌ f g)
◌>>=◌ {f = f} {g = g} F G = record {
  takes = λ p b q e.
      let s = then_got (f.reads p) (λ a r. (g a).reads r) b q e in
      left-then p.rest s.1.rest q.rest (F.takes p s.0 s.1 s.2) ((G s.0).takes s.1 b q s.3);
}

infixl 10 ◌>>◌
pub ◌>>◌ : {A B : Type 0} {f : Form A} {g : Form B} → Plain f → Plain g → Plain (form.◌>>◌ f g)
F >> G = F >>= (λ _. G)

infixr 11 ◌<$>◌
pub ◌<$>◌ : {A B : Type 0} {p : Form A} → (f : A → B) → Plain p → Plain (form.◌<$>◌ f p)
f <$> P = P >>= (λ x. pure)

one_takes : {A : Type 0} (test : Position → TokenKind → Option A) → ((position : Position) → test position kinds.Period ≡ None) →
    (ts : List Token) (p : Input) (a : A) (q : Input) → one_reads test ts p ≡ Got a q → LeftOf ts q.rest
one_takes test none [] p a q e = absurd cc
one_takes {A = A} test none (t ∷ ts) p a q e = go (test (position_of p t) t.kind) refl e
  where
    some_apart : (b : A) → Some b ≡ None → ⊥
    some_apart b e = cc

    no_period : (position : Position) (kind : TokenKind) (b : A) → test position kind ≡ Some b → is_period kind ≡ false
    no_period position kinds.Period b is = absurd (some_apart b (sym is ∙ none position))
    no_period position (kinds.Word word) b is = refl
    no_period position (kinds.Digits digits) b is = refl
    no_period position (kinds.Decimal number) b is = refl
    no_period position (kinds.Literal text) b is = refl
    no_period position (kinds.Picture text) b is = refl
    no_period position _ b is = refl

    go : (o : Option A) → test (position_of p t) t.kind ≡ o → taken_as o t ts p ≡ Got a q → LeftOf (t ∷ ts) q.rest
    go (Some b) is e = (t ∷ [], ap (λ r. t ∷ r.rest) (got_is b a (past ts p) q e).1, (no_period (position_of p t) t.kind b is, tt))
    go None is e = absurd cc

pub one : {A : Type 0} (test : Position → TokenKind → Option A) → ((position : Position) → test position kinds.Period ≡ None) → Plain (form.one test)
one test none = record { takes = λ p a q e. one_takes test none p.rest p a q e }

pub by : {A : Type 0} {choice : Option TokenKind → Form A} → ((o : Option TokenKind) → Plain (choice o)) → Plain (form.by choice)
by C = record { takes = λ p. (C (form.next p.rest)).takes p }

pub chosen : {A : Type 0} (test : Bool) {there other : Form A} → Plain there → Plain other → Plain (form.chosen test there other)
chosen true T O = T
chosen false T O = O

pub where_next : {A : Type 0} {begin : TokenKind → Bool} {there other : Form A} → Plain there → Plain other → Plain (form.where_next begin there other)
where_next {begin = begin} T O = by (λ o. chosen (begins_by begin o) T O)

pub unless : {A : Type 0} (why : Why) (passes : Bool) (a : A) → Plain (parts.unless why passes a)
unless why passes a = chosen passes refuse pure

turns : {S : Type 0} (begin : S → TokenKind → Bool) (step : S → Form S) → ((s : S) → Plain (step s)) →
    (n : ℕ) (s : S) (p : Input) (a : S) (q : Input) → loop_reads begin step n s p ≡ Got a q → LeftOf p.rest q.rest
unfolding loop_reads
turns begin step G zero s p a q e = left-all p.rest q.rest (ap (λ r. r.rest) (got_is s a p q e).1)
turns {S = S} begin step G (suc n) s p a q e = turn (λ x r. turns begin step G n x r a q) (is_next (begin s) p) e
  where
    turn : ((x : S) (r : Input) → loop_reads begin step n x r ≡ Got a q → LeftOf r.rest q.rest) → (b : Bool) →
        (if b then then_read ((step s).reads p) (λ x r. loop_reads begin step n x r) else Got s p) ≡ Got a q → LeftOf p.rest q.rest
    turn again true e =
        let h = then_got ((step s).reads p) (λ x r. loop_reads begin step n x r) a q e in
        left-then p.rest h.1.rest q.rest ((G s).takes p h.0 h.1 h.2) (again h.0 h.1 h.3)
    turn again false e = left-all p.rest q.rest (ap (λ r. r.rest) (got_is s a p q e).1)

pub loop_while : {S : Type 0} {begin : S → TokenKind → Bool} {step : S → Form S} {s : S} → ((s : S) → Plain (step s)) → Plain (form.loop_while begin step s)
loop_while {begin = begin} {step = step} {s = s} G = record { takes = λ p a q e. turns begin step G (length p.rest) s p a q e }

pub loop : {S : Type 0} {begin : TokenKind → Bool} {step : S → Form S} {s : S} → ((s : S) → Plain (step s)) → Plain (form.loop begin step s)
loop {begin = begin} G = loop_while {begin = λ _. begin} G

pub added : {A : Type 0} {item : Form A} (front : List A) → Plain item → Plain (form.added item front)
added front F = F >>= (λ x. pure)

pub many : {A : Type 0} {begin : TokenKind → Bool} {item : Form A} → Plain item → Plain (form.many begin item)
many F = loop (λ front. added front F)

pub some : {A : Type 0} {begin : TokenKind → Bool} {item : Form A} → Plain item → Plain (form.some begin item)
some F = F >>= (λ x. loop (λ front. added front F))

-- ---- parts that are one token

pub key : (word : List ℕ) → Plain (parts.key word)
key word = one (λ position kind. parts.when (parts.is_key word kind) position) (λ position. refl)

pub mark : (byte : ℕ) → Plain (parts.mark byte)
mark byte = one (λ position kind. parts.when (parts.is_mark byte kind) position) (λ position. refl)

pub valued : {A : Type 0} (test : TokenKind → Option A) → test kinds.Period ≡ None → Plain (parts.valued test)
valued test none = one (λ position kind. parts.with_position position (test kind)) (λ position. ap (parts.with_position position) none)

pub word : Plain parts.word
word = valued parts.word_of refl

pub digits : Plain parts.digits
digits = valued parts.digits_of refl

pub decimal : Plain parts.decimal
decimal = valued parts.decimal_of refl

pub literal : Plain parts.literal
literal = valued parts.literal_of refl

pub maybe : (word : List ℕ) → Plain (parts.maybe word)
maybe word = where_next (key word >> pure) pure

pub too_deep : {A : Type 0} {why : Why} {begin : TokenKind → Bool} → Plain (parts.too_deep {A = A} why begin)
too_deep = where_next refuse refuse
