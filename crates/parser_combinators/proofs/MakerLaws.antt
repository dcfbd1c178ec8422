-- The law of a form, written as the form is. Where the flag is true, what is read takes a token.
use Rattle.std.proofs.Common.{◌≡◌, ℕ, ◌<◌, ◌≤◌, Bool, true, false, ◌||◌, List, [], ◌∷◌, ◌++◌, length, Option, Some, None, refl, ap, ◌∙◌, length-append, arith}
use Rattle.cobol_lex.specs.declared.token.Token.{Token}
use Rattle.cobol_lex.specs.declared.token.TokenKind.{TokenKind}
use Rattle.parser_combinators.specs.declared.note.Note.{Note}
use Rattle.parser_combinators.specs.declared.note.Position.{Position}
use Rattle.parser_combinators.specs.declared.why.Why.{Why}
use Rattle.parser_combinators.specs.Form as form
use Rattle.parser_combinators.specs.Form.{Input, Outcome, Got, Stop, left, Form, one_reads, taken_as, begins_by}
use Rattle.parser_combinators.specs.Part as parts
use Rattle.parser_combinators.proofs.Lawful as lawful
use Rattle.parser_combinators.proofs.Lawful.{Lawful, then_got, got_is}
use Rattle.parser_combinators.proofs.Turns.{Consumes, loop-lawful}

pub record Law {A : Type 0} (takes : Bool) (f : Form A) : Type 0 where
  pub lawful : Lawful f
  pub consumes : takes ≡ true → Consumes f

-- no more is left
no_more : {A : Type 0} (f : Form A) → Lawful f → (p : Input) (a : A) (q : Input) → f.reads p ≡ Got a q → length q.rest ≤ length p.rest
no_more f F p a q e =
    let w = F.within p in
    let n : length p.rest ≡ length (w.0 ++ q.rest) = ap length (w.1 ∙ ap (λ o. w.0 ++ left o) e) in
    omega (arith, n, length-append w.0 q.rest)

pub loose : {A : Type 0} {f : Form A} {b : Bool} → Law b f → Law false f
loose F = record { lawful = F.lawful; consumes = λ h. absurd cc }

pub pure : {A : Type 0} {a : A} → Law false (form.pure a)
pure {a = a} = record { lawful = lawful.pure-lawful a; consumes = λ h. absurd cc }

pub refuse : {A : Type 0} {why : Why} {b : Bool} → Law b (form.refuse {A = A} why)
refuse {why = why} = record { lawful = lawful.refuse-lawful why; consumes = λ h. record { less = λ p a q e. absurd cc } }

pub note : {fault : Option Note} → Law false (form.note fault)
note {fault = fault} = record { lawful = lawful.note-lawful fault; consumes = λ h. absurd cc }

bind_consumes : {A B : Type 0} (b c : Bool) (f : Form A) (g : A → Form B) → Law b f → ((a : A) → Law c (g a)) → b || c ≡ true → Consumes (form.◌>>=◌ f g)
bind_consumes true c f g F G h = record {
  less = λ p x q e.
      let s = then_got (f.reads p) (λ a r. (g a).reads r) x q e in
      let before = (F.consumes refl).less p s.0 s.1 s.2 in
      let behind = no_more (g s.0) (G s.0).lawful s.1 x q s.3 in
      omega (arith, before, behind);
}
bind_consumes false c f g F G h = record {
  less = λ p x q e.
      let s = then_got (f.reads p) (λ a r. (g a).reads r) x q e in
      let before = no_more f F.lawful p s.0 s.1 s.2 in
      let behind = ((G s.0).consumes h).less s.1 x q s.3 in
      omega (arith, before, behind);
}

infixl 10 ◌>>=◌
pub ◌>>=◌ : {A B : Type 0} {b c : Bool} {f : Form A} {g : A → Form B} → Law b f → ((a : A) → Law c (g a)) → Law (b || c) (form.◌>>=◌ f g)
◌>>=◌ {b = b} {c = c} {f = f} {g = g} F G = record {
  lawful = lawful.bind-lawful f g F.lawful (λ a. (G a).lawful);
  consumes = bind_consumes b c f g F G;
}

infixl 10 ◌>>◌
pub ◌>>◌ : {A B : Type 0} {b c : Bool} {f : Form A} {g : Form B} → Law b f → Law c g → Law (b || c) (form.◌>>◌ f g)
F >> G = F >>= (λ _. G)

one_consumes : {A : Type 0} (test : Position → TokenKind → Option A) → Consumes (form.one test)
one_consumes {A = A} test = record { less = λ p. go p p.rest }
  where
    by_test : (p : Input) (o : Option A) (t : Token) (ts : List Token) (a : A) (q : Input) → taken_as o t ts p ≡ Got a q → length q.rest < length (t ∷ ts)
    by_test p (Some x) t ts a q e = let n : length ts ≡ length q.rest = ap (λ r. length r.rest) (got_is x a (form.past ts p) q e).1 in omega (arith, n)
    by_test p None t ts a q e = absurd cc

    go : (p : Input) (ts : List Token) (a : A) (q : Input) → one_reads test ts p ≡ Got a q → length q.rest < length ts
    go p [] a q e = absurd cc
    go p (t ∷ ts) a q e = by_test p (test (form.position_of p t) t.kind) t ts a q e

pub one : {A : Type 0} (test : Position → TokenKind → Option A) → Law true (form.one test)
one test = record { lawful = lawful.one-lawful test; consumes = λ h. one_consumes test }

pub by : {A : Type 0} {b : Bool} {choice : Option TokenKind → Form A} → ((o : Option TokenKind) → Law b (choice o)) → Law b (form.by choice)
by {choice = choice} C = record {
  lawful = lawful.by-lawful choice (λ o. (C o).lawful);
  consumes = λ h. record { less = λ p. ((C (form.next p.rest)).consumes h).less p };
}

-- one of two forms, by what was read before
pub chosen : {A : Type 0} {b : Bool} (test : Bool) {there other : Form A} → Law b there → Law b other → Law b (form.chosen test there other)
chosen true T O = T
chosen false T O = O

pub where_next : {A : Type 0} {b : Bool} {begin : TokenKind → Bool} {there other : Form A} → Law b there → Law b other → Law b (form.where_next begin there other)
where_next {begin = begin} T O = by (λ o. chosen (begins_by begin o) T O)

-- what is counted, and passes its limit or not
pub unless : {A : Type 0} (why : Why) (passes : Bool) (a : A) → Law false (parts.unless why passes a)
unless why passes a = chosen passes refuse pure

pub loop_while : {S : Type 0} {begin : S → TokenKind → Bool} {step : S → Form S} {s : S} → ((s : S) → Law true (step s)) → Law false (form.loop_while begin step s)
loop_while {begin = begin} {step = step} {s = s} L = record {
  lawful = loop-lawful begin step (λ x. (L x).lawful) (λ x. (L x).consumes refl) s;
  consumes = λ h. absurd cc;
}

pub loop : {S : Type 0} {begin : TokenKind → Bool} {step : S → Form S} {s : S} → ((s : S) → Law true (step s)) → Law false (form.loop begin step s)
loop {begin = begin} {step = step} {s = s} L = record {
  lawful = loop-lawful (λ _. begin) step (λ x. (L x).lawful) (λ x. (L x).consumes refl) s;
  consumes = λ h. absurd cc;
}

pub added : {A : Type 0} {item : Form A} (front : List A) → Law true item → Law true (form.added item front)
added front F = F >>= (λ x. pure)

pub many : {A : Type 0} {begin : TokenKind → Bool} {item : Form A} → Law true item → Law false (form.many begin item)
many F = loop (λ front. added front F)

pub some : {A : Type 0} {begin : TokenKind → Bool} {item : Form A} → Law true item → Law true (form.some begin item)
some F = F >>= (λ x. loop (λ front. added front F))

infixr 11 ◌<$>◌
pub ◌<$>◌ : {A B : Type 0} {b : Bool} {p : Form A} → (f : A → B) → Law b p → Law (b || false) (form.◌<$>◌ f p)
f <$> P = P >>= (λ x. pure)

-- ---- parts that are one token

pub sign : (test : TokenKind → Bool) → Law true (parts.sign test)
sign test = one (λ position kind. parts.when (test kind) position)

pub key : (word : List ℕ) → Law true (parts.key word)
key word = sign (parts.is_key word)

pub mark : (byte : ℕ) → Law true (parts.mark byte)
mark byte = sign (parts.is_mark byte)

pub period : Law true parts.period
period = sign parts.is_period

pub valued : {A : Type 0} (test : TokenKind → Option A) → Law true (parts.valued test)
valued test = one (λ position kind. parts.with_position position (test kind))

pub word : Law true parts.word
word = valued parts.word_of

pub digits : Law true parts.digits
digits = valued parts.digits_of

pub decimal : Law true parts.decimal
decimal = valued parts.decimal_of

pub literal : Law true parts.literal
literal = valued parts.literal_of

pub picture : Law true parts.picture
picture = valued parts.picture_of

-- a word that may be left out
pub maybe : (word : List ℕ) → Law false (parts.maybe word)
maybe word = where_next (loose (key word >> pure)) pure

pub ended : Law false parts.ended
ended = by go
  where
    go : (o : Option TokenKind) → Law false (parts.ended_by o)
    go None = pure
    go (Some kind) = refuse

pub too_deep : {A : Type 0} {why : Why} {begin : TokenKind → Bool} → Law true (parts.too_deep {A = A} why begin)
too_deep = where_next refuse refuse
