-- What makers of forms give weighs no more than the tokens that they take, with what there was
-- before.
use Rattle.std.proofs.Common.{◌≡◌, ◌≤◌, ◌+◌, ℕ, zero, suc, Bool, true, false, if◌then◌else◌, List, [], ◌∷◌, ◌++◌, length, map, refl, ap, ◌∙◌, length-append, arith}
use Rattle.cobol_lex.specs.declared.token.TokenKind.{TokenKind}
use Rattle.parser_combinators.specs.declared.why.Why.{Why}
use Rattle.parser_combinators.specs.Form as form
use Rattle.parser_combinators.specs.Form.{Input, left, Got, Form, then_read, is_next, begins_by, loop_reads}
use Rattle.parser_combinators.proofs.Lawful.{Lawful, got_is, then_got}
use Rattle.parser_combinators.proofs.MakerLaws.{Law}
use Rattle.end_to_end_laws.proofs.rewriting_lemmas.weights.Weights.{total, one-more}

-- with so much before: what is read weighs no more than that and the tokens that were taken
pub record Weighs (before : ℕ) {A : Type 0} (form : Form A) (weigh : A → ℕ) : Type 0 where
  pub gives : (p : Input) (a : A) (q : Input) → form.reads p ≡ Got a q → length q.rest + weigh a ≤ length p.rest + before

no_more : {A : Type 0} (f : Form A) → Lawful f → (p : Input) (a : A) (q : Input) → f.reads p ≡ Got a q → length q.rest ≤ length p.rest
no_more f F p a q e =
    let w = F.within p in
    let n : length p.rest ≡ length (w.0 ++ q.rest) = ap length (w.1 ∙ ap (λ o. w.0 ++ left o) e) in
    omega (arith, n, length-append w.0 q.rest)

-- what is given may weigh less, and there may be more before
pub eased : {A : Type 0} {f : Form A} {v w : A → ℕ} {m n : ℕ} → m ≤ n → ((a : A) → v a ≤ w a) → Weighs m f w → Weighs n f v
eased more less F = record {
  gives = λ p a q e. let h = F.gives p a q e in let l = less a in omega (arith, h, l, more);
}

-- with more before, so much is left after it
pub framed : {A : Type 0} {f : Form A} {w : A → ℕ} {n : ℕ} → Weighs 0 f w → Weighs n f (λ a. n + w a)
framed F = record { gives = λ p a q e. let h = F.gives p a q e in omega (arith, h) }

-- what weighs nothing
pub any : {A : Type 0} {b : Bool} {f : Form A} {n : ℕ} → Law b f → Weighs n f (λ _. n)
any {f = f} F = record { gives = λ p a q e. let h = no_more f F.lawful p a q e in omega (arith, h) }

-- what takes a token
pub takes : {A : Type 0} {f : Form A} {n : ℕ} → Law true f → Weighs n f (λ _. n + 1)
takes {f = f} F = record { gives = λ p a q e. let h = (F.consumes refl).less p a q e in omega (arith, h) }

pub pure : {A : Type 0} {a : A} {w : A → ℕ} {n : ℕ} → w a ≤ n → Weighs n (form.pure a) w
pure {a = a} {w = w} {n = n} h = record {
  gives = λ p b q e.
      let s = got_is a b p q e in
      let weight : w a ≡ w b = ap w s.0 in
      let rest : length p.rest ≡ length q.rest = ap (λ r. length r.rest) s.1 in
      omega (arith, h, weight, rest);
}

pub refuse : {A : Type 0} {why : Why} {w : A → ℕ} {n : ℕ} → Weighs n (form.refuse {A = A} why) w
refuse = record { gives = λ p b q e. absurd cc }

infixl 10 ◌>>=◌
pub ◌>>=◌ : {A B : Type 0} {f : Form A} {g : A → Form B} {w : A → ℕ} {v : B → ℕ} {n : ℕ} →
    Weighs n f w → ((a : A) → Weighs (w a) (g a) v) → Weighs n (form.◌>>=◌ f g) v
◌>>=◌ {f = f} {g = g} F G = record {
  gives = λ p b q e.
      let s = then_got (f.reads p) (λ a r. (g a).reads r) b q e in
      let first = F.gives p s.0 s.1 s.2 in
      let second = (G s.0).gives s.1 b q s.3 in
      omega (arith, first, second);
}

-- behind a word
infixl 10 ◌>>◌
pub ◌>>◌ : {A B : Type 0} {f : Form A} {g : Form B} {v : B → ℕ} {n : ℕ} →
    Law true f → Weighs (n + 1) g v → Weighs n (form.◌>>◌ f g) v
F >> G = takes F >>= (λ a. G)

pub chosen : {A : Type 0} (test : Bool) {there other : Form A} {w : A → ℕ} {n : ℕ} → Weighs n there w → Weighs n other w → Weighs n (form.chosen test there other) w
chosen true T O = T
chosen false T O = O

pub where_next : {A : Type 0} {begin : TokenKind → Bool} {there other : Form A} {w : A → ℕ} {n : ℕ} → Weighs n there w → Weighs n other w → Weighs n (form.where_next begin there other) w
where_next {begin = begin} T O = record {
  gives = λ p. (chosen (begins_by begin (form.next p.rest)) T O).gives p;
}

-- ---- loops and lists

turns : {S : Type 0} (begin : TokenKind → Bool) (step : S → Form S) (w : S → ℕ) → ((s : S) → Weighs (w s) (step s) w) →
    (n : ℕ) (s : S) (p : Input) (a : S) (q : Input) → loop_reads (λ _. begin) step n s p ≡ Got a q → length q.rest + w a ≤ length p.rest + w s
unfolding loop_reads
turns begin step w G zero s p a q e =
    let h = got_is s a p q e in
    let weight : w s ≡ w a = ap w h.0 in
    let rest : length p.rest ≡ length q.rest = ap (λ r. length r.rest) h.1 in
    omega (arith, weight, rest)
turns {S = S} begin step w G (suc n) s p a q e = turn (λ x r. turns begin step w G n x r a q) (is_next begin p) e
  where
    turn : ((x : S) (r : Input) → loop_reads (λ _. begin) step n x r ≡ Got a q → length q.rest + w a ≤ length r.rest + w x) →
        (b : Bool) → (if b then then_read ((step s).reads p) (λ x r. loop_reads (λ _. begin) step n x r) else Got s p) ≡ Got a q →
        length q.rest + w a ≤ length p.rest + w s
    turn again true e =
        let h = then_got ((step s).reads p) (λ x r. loop_reads (λ _. begin) step n x r) a q e in
        let first = (G s).gives p h.0 h.1 h.2 in
        let others = again h.0 h.1 h.3 in
        omega (arith, first, others)
    turn again false e =
        let h = got_is s a p q e in
        let weight : w s ≡ w a = ap w h.0 in
        let rest : length p.rest ≡ length q.rest = ap (λ r. length r.rest) h.1 in
        omega (arith, weight, rest)

pub loop : {S : Type 0} {begin : TokenKind → Bool} {step : S → Form S} {s : S} {w : S → ℕ} →
    ((s : S) → Weighs (w s) (step s) w) → Weighs (w s) (form.loop begin step s) w
loop {begin = begin} {step = step} {s = s} {w = w} G = record {
  gives = λ p. turns begin step w G (length p.rest) s p;
}

pub added : {A : Type 0} {item : Form A} (weigh : A → ℕ) (front : List A) → Weighs 0 item weigh →
    Weighs (total (map weigh front)) (form.added item front) (λ list. total (map weigh list))
added weigh front F = framed F >>= (λ x. pure (let h = one-more weigh front x in omega (arith, h)))

-- items behind those before
pub items : {A : Type 0} {begin : TokenKind → Bool} {item : Form A} {front : List A} (weigh : A → ℕ) → Weighs 0 item weigh →
    Weighs (total (map weigh front)) (form.loop begin (form.added item) front) (λ list. total (map weigh list))
items weigh F = loop {w = λ list. total (map weigh list)} (λ front. added weigh front F)

-- items behind those before and one more
pub items_behind : {A : Type 0} {begin : TokenKind → Bool} {item : Form A} (weigh : A → ℕ) (front : List A) (x : A) → Weighs 0 item weigh →
    Weighs (total (map weigh front) + weigh x) (form.loop begin (form.added item) (front ++ x ∷ [])) (λ list. total (map weigh list))
items_behind weigh front x F = eased {w = λ list. total (map weigh list)} (let h = one-more weigh front x in omega (arith, h)) (λ list. omega arith) (items weigh F)
