-- What spells a value of each maker of forms.
use Rattle.std.proofs.Common.{◌≡◌, ℕ, suc, ◌+◌, Bool, true, false, List, [], ◌∷◌, ◌++◌, length, Option, Some, None, refl, sym, ap, subst, ◌∙◌, arith, append_assoc, append-nil}
use Rattle.std.proofs.lemmas.List.{length-append}
use Rattle.cobol_lex.specs.declared.token.Token.{Token}
use Rattle.cobol_lex.specs.declared.token.TokenKind.{TokenKind}
use Rattle.parser_combinators.specs.declared.note.Note.{Note}
use Rattle.parser_combinators.specs.declared.note.Position.{Position}
use Rattle.parser_combinators.specs.Form as form
use Rattle.parser_combinators.specs.Form.{Form, next, begins_by}
use Rattle.round_trip.specs.spelled_forms.Spelling.{kinds_of, here, first_of, Any, Spelled}

head-is : {A : Type 0} {x y : A} {xs ys : List A} → x ∷ xs ≡ y ∷ ys → x ≡ y
head-is e = cc

tail-is : {A : Type 0} {x y : A} {xs ys : List A} → x ∷ xs ≡ y ∷ ys → xs ≡ ys
tail-is e = cc

-- ---- tokens by their kinds

pub next-first : (tokens rest : List Token) → next (tokens ++ rest) ≡ first_of (kinds_of tokens) (next rest)
next-first [] rest = refl
next-first (t ∷ tokens) rest = refl

pub next-of : (tokens rest : List Token) (kinds : List TokenKind) → kinds_of tokens ≡ kinds → next (tokens ++ rest) ≡ first_of kinds (next rest)
next-of tokens rest kinds e = next-first tokens rest ∙ ap (λ list. first_of list (next rest)) e

pub parts : (kinds others : List TokenKind) (tokens : List Token) → kinds_of tokens ≡ kinds ++ others →
    (front : List Token) × (behind : List Token) × (tokens ≡ front ++ behind) × (kinds_of front ≡ kinds) × (kinds_of behind ≡ others)
parts [] others tokens e = ([], tokens, refl, refl, e)
parts (kind ∷ kinds) others [] e = absurd cc
parts (kind ∷ kinds) others (t ∷ tokens) e =
    let s = parts kinds others tokens (tail-is e) in
    (t ∷ s.0, s.1, ap (λ list. t ∷ list) s.2, ap (λ k. k ∷ kinds_of s.0) (head-is e) ∙ ap (λ list. kind ∷ list) s.3, s.4)

one-token : (kind : TokenKind) (tokens : List Token) → kinds_of tokens ≡ kind ∷ [] → (t : Token) × (tokens ≡ t ∷ []) × (t.kind ≡ kind)
one-token kind [] e = absurd cc
one-token kind (t ∷ []) e = (t, refl, head-is e)
one-token kind (t ∷ u ∷ tokens) e = absurd (more (tail-is e))
  where
    more : {x : TokenKind} {xs : List TokenKind} → x ∷ xs ≡ [] → ⊥
    more e = cc

no-token : (tokens : List Token) → kinds_of tokens ≡ [] → tokens ≡ []
no-token [] e = refl
no-token (t ∷ tokens) e = absurd cc

-- the same tokens, and as many
moved : {A : Type 0} (f : Form A) (x y rest : List Token) (n i j : ℕ) (a : A) → x ≡ y → i ≡ j →
    f.spells (here x n) a (here rest i) → f.spells (here y n) a (here rest j)
moved f x y rest n i j a e d h = subst (λ m. f.spells (here y n) a (here rest m)) d (subst (λ ts. f.spells (here ts n) a (here rest i)) e h)

-- ---- nothing

pub pure : {A : Type 0} {a : A} {n : ℕ} {Behind : Option TokenKind → Type 0} {Has : A → Type 0} → Has a → Spelled (form.pure a) n [] Behind Has
pure {a = a} {n = n} h = record {
  spells = λ tokens rest e b.
      (a, moved (form.pure a) rest (tokens ++ rest) rest n n (n + 0) a (ap (λ list. list ++ rest) (sym (no-token tokens e))) (omega arith) (refl, refl), h);
}

pub note : {fault : Option Note} {n : ℕ} {Behind : Option TokenKind → Type 0} → fault ≡ None → Spelled (form.note fault) n [] Behind (λ _. Unit {0})
note {fault = fault} {n = n} none = record {
  spells = λ tokens rest e b. (
    tt,
    moved (form.note fault) rest (tokens ++ rest) rest n n (n + 0) tt (ap (λ list. list ++ rest) (sym (no-token tokens e))) (omega arith)
        (ap (λ f. form.with_fault f (here rest n)) none),
    tt,
  );
}

-- ---- what follows from it

pub hence : {A : Type 0} {f : Form A} {n : ℕ} {kinds : List TokenKind} {Behind : Option TokenKind → Type 0} {Has Had : A → Type 0} →
    ((a : A) → Had a → Has a) → Spelled f n kinds Behind Had → Spelled f n kinds Behind Has
hence h F = record { spells = λ tokens rest e b. let s = F.spells tokens rest e b in (s.0, s.1, h s.0 s.2) }

pub where_behind : {A : Type 0} {f : Form A} {n : ℕ} {kinds : List TokenKind} {Behind Before : Option TokenKind → Type 0} {Has : A → Type 0} →
    ((o : Option TokenKind) → Behind o → Before o) → Spelled f n kinds Before Has → Spelled f n kinds Behind Has
where_behind h F = record { spells = λ tokens rest e b. F.spells tokens rest e (h (next rest) b) }

-- ---- one after the other

pub bind : {A B : Type 0} {f : Form A} {g : A → Form B} {n : ℕ} {kinds others : List TokenKind} {Mid Behind : Option TokenKind → Type 0} {Had : A → Type 0} {Has : B → Type 0} →
    Spelled f n kinds Mid Had → ((o : Option TokenKind) → Behind o → Mid (first_of others o)) →
    ((a : A) → Had a → Spelled (g a) (n + length kinds) others Behind Has) → Spelled (form.◌>>=◌ f g) n (kinds ++ others) Behind Has
bind {f = f} {g = g} {n = n} {kinds = kinds} {others = others} {Mid = Mid} F mid G = record {
  spells = λ tokens rest e b.
      let s = parts kinds others tokens e in
      let front = F.spells s.0 (s.1 ++ rest) s.3 (subst Mid (sym (next-of s.1 rest others s.4)) (mid (next rest) b)) in
      let back = (G front.0 front.2).spells s.1 rest s.4 b in
      let count : length (kinds ++ others) ≡ length kinds + length others = length-append kinds others in (
        back.0,
        moved (form.◌>>=◌ f g) (s.0 ++ (s.1 ++ rest)) (tokens ++ rest) rest n ((n + length kinds) + length others) (n + length (kinds ++ others)) back.0
            (sym (append_assoc s.0 s.1 rest) ∙ ap (λ list. list ++ rest) (sym s.2)) (omega (arith, count))
            (front.0, here (s.1 ++ rest) (n + length kinds), front.1, back.1),
        back.2,
      );
}

-- where anything may stand behind the first
pub then : {A B : Type 0} {f : Form A} {g : A → Form B} {n : ℕ} {kinds others : List TokenKind} {Behind : Option TokenKind → Type 0} {Had : A → Type 0} {Has : B → Type 0} →
    Spelled f n kinds Any Had → ((a : A) → Had a → Spelled (g a) (n + length kinds) others Behind Has) → Spelled (form.◌>>=◌ f g) n (kinds ++ others) Behind Has
then F G = bind F (λ o b. tt) G

-- where the second takes no token
pub ending : {A B : Type 0} {f : Form A} {g : A → Form B} {n : ℕ} {kinds : List TokenKind} {Behind : Option TokenKind → Type 0} {Had : A → Type 0} {Has : B → Type 0} →
    Spelled f n kinds Behind Had → ((a : A) → Had a → Spelled (g a) (n + length kinds) [] Behind Has) → Spelled (form.◌>>=◌ f g) n kinds Behind Has
ending {f = f} {g = g} {n = n} {kinds = kinds} {Behind = Behind} {Has = Has} F G =
    subst (λ list. Spelled (form.◌>>=◌ f g) n list Behind Has) (append-nil kinds) (bind F (λ o b. b) G)

-- where the first takes none
pub behind_first : {A B : Type 0} {f : Form A} {g : A → Form B} {n : ℕ} {kinds : List TokenKind} {Mid Behind : Option TokenKind → Type 0} {Had : A → Type 0} {Has : B → Type 0} →
    Spelled f n [] Mid Had → ((o : Option TokenKind) → Behind o → Mid (first_of kinds o)) → ((a : A) → Had a → Spelled (g a) n kinds Behind Has) →
    Spelled (form.◌>>=◌ f g) n kinds Behind Has
behind_first {g = g} {n = n} {kinds = kinds} {Behind = Behind} {Has = Has} F mid G =
    bind F mid (λ a h. let same : n ≡ n + 0 = omega arith in subst (λ m. Spelled (g a) m kinds Behind Has) same (G a h))

pub behind_none : {A B : Type 0} {f : Form A} {g : A → Form B} {n : ℕ} {kinds : List TokenKind} {Behind : Option TokenKind → Type 0} {Had : A → Type 0} {Has : B → Type 0} →
    Spelled f n [] Any Had → ((a : A) → Had a → Spelled (g a) n kinds Behind Has) → Spelled (form.◌>>=◌ f g) n kinds Behind Has
behind_none F G = behind_first F (λ o b. tt) G

-- ---- one token

pub one : {A : Type 0} {n : ℕ} {kind : TokenKind} {Has : A → Type 0} (test : Position → TokenKind → Option A) →
    ((position : Position) → position.index ≡ n → (a : A) × (test position kind ≡ Some a) × Has a) → Spelled (form.one test) n (kind ∷ []) Any Has
one {n = n} {kind = kind} test h = record {
  spells = λ tokens rest e b.
      let s = one-token kind tokens e in
      let found = h (form.position_of (here (tokens ++ rest) n) s.0) refl in (
        found.0,
        moved (form.one test) (s.0 ∷ rest) (tokens ++ rest) rest n (n + 1) (n + 1) found.0 (ap (λ list. list ++ rest) (sym s.1)) refl
            (ap (test (form.position_of (here (tokens ++ rest) n) s.0)) s.2 ∙ found.1, refl),
        found.2,
      );
}

-- ---- by the next token, and by a choice

pub by : {A : Type 0} (choice : Option TokenKind → Form A) {n : ℕ} {kinds : List TokenKind} {Behind : Option TokenKind → Type 0} {Has : A → Type 0} →
    ((o : Option TokenKind) → Behind o → Spelled (choice (first_of kinds o)) n kinds (λ p. p ≡ o) Has) → Spelled (form.by choice) n kinds Behind Has
by choice {n = n} {kinds = kinds} C = record {
  spells = λ tokens rest e b.
      let s = (C (next rest) b).spells tokens rest e refl in
      (s.0, subst (λ o. (choice o).spells (here (tokens ++ rest) n) s.0 (here rest (n + length kinds))) (sym (next-of tokens rest kinds e)) s.1, s.2);
}

pub chosen_there : {A : Type 0} {test : Bool} {there : Form A} (other : Form A) {n : ℕ} {kinds : List TokenKind} {Behind : Option TokenKind → Type 0} {Has : A → Type 0} →
    test ≡ true → Spelled there n kinds Behind Has → Spelled (form.chosen test there other) n kinds Behind Has
chosen_there {there = there} other {n = n} {kinds = kinds} {Behind = Behind} {Has = Has} e F =
    subst (λ v. Spelled (form.chosen v there other) n kinds Behind Has) (sym e) F

pub chosen_other : {A : Type 0} {test : Bool} (there : Form A) {other : Form A} {n : ℕ} {kinds : List TokenKind} {Behind : Option TokenKind → Type 0} {Has : A → Type 0} →
    test ≡ false → Spelled other n kinds Behind Has → Spelled (form.chosen test there other) n kinds Behind Has
chosen_other there {other = other} {n = n} {kinds = kinds} {Behind = Behind} {Has = Has} e F =
    subst (λ v. Spelled (form.chosen v there other) n kinds Behind Has) (sym e) F

-- the token that stands next is one of these
pub there_next : {A : Type 0} (begin : TokenKind → Bool) {there : Form A} (other : Form A) {n : ℕ} {kinds : List TokenKind} {Behind : Option TokenKind → Type 0} {Has : A → Type 0} →
    ((o : Option TokenKind) → Behind o → begins_by begin (first_of kinds o) ≡ true) → Spelled there n kinds Behind Has → Spelled (form.where_next begin there other) n kinds Behind Has
there_next begin {there = there} other {Behind = Behind} h F = by (λ kind. form.chosen (begins_by begin kind) there other) (λ o b. chosen_there other (h o b) (where_behind (λ p e. subst Behind (sym e) b) F))

-- it is none of them
pub other_next : {A : Type 0} (begin : TokenKind → Bool) (there : Form A) {other : Form A} {n : ℕ} {kinds : List TokenKind} {Behind : Option TokenKind → Type 0} {Has : A → Type 0} →
    ((o : Option TokenKind) → Behind o → begins_by begin (first_of kinds o) ≡ false) → Spelled other n kinds Behind Has → Spelled (form.where_next begin there other) n kinds Behind Has
other_next begin there {other = other} {Behind = Behind} h F = by (λ kind. form.chosen (begins_by begin kind) there other) (λ o b. chosen_other there (h o b) (where_behind (λ p e. subst Behind (sym e) b) F))

-- ---- loops

pub no_turn : {S : Type 0} (begin : TokenKind → Bool) (step : S → Form S) {s : S} {n : ℕ} {Behind : Option TokenKind → Type 0} {Has : S → Type 0} →
    ((o : Option TokenKind) → Behind o → begins_by begin o ≡ false) → Has s → Spelled (form.loop begin step s) n [] Behind Has
no_turn begin step {s = s} {n = n} h has = record {
  spells = λ tokens rest e b. (
    s,
    moved (form.loop begin step s) rest (tokens ++ rest) rest n n (n + 0) s (ap (λ list. list ++ rest) (sym (no-token tokens e))) (omega arith)
        (0, (h (next rest) b, refl, refl)),
    has,
  );
}

pub turn : {S : Type 0} (begin : TokenKind → Bool) (step : S → Form S) {s : S} {n : ℕ} {kinds others : List TokenKind} {Mid Behind : Option TokenKind → Type 0} {Had Has : S → Type 0} →
    ((o : Option TokenKind) → begins_by begin (first_of kinds o) ≡ true) → Spelled (step s) n kinds Mid Had → ((o : Option TokenKind) → Behind o → Mid (first_of others o)) →
    ((mid : S) → Had mid → Spelled (form.loop begin step mid) (n + length kinds) others Behind Has) → Spelled (form.loop begin step s) n (kinds ++ others) Behind Has
turn begin step {s = s} {n = n} {kinds = kinds} {others = others} {Mid = Mid} begun F mid G = record {
  spells = λ tokens rest e b.
      let p = parts kinds others tokens e in
      let front = F.spells p.0 (p.1 ++ rest) p.3 (subst Mid (sym (next-of p.1 rest others p.4)) (mid (next rest) b)) in
      let back = (G front.0 front.2).spells p.1 rest p.4 b in
      let count : length (kinds ++ others) ≡ length kinds + length others = length-append kinds others in (
        back.0,
        moved (form.loop begin step s) (p.0 ++ (p.1 ++ rest)) (tokens ++ rest) rest n ((n + length kinds) + length others) (n + length (kinds ++ others)) back.0
            (sym (append_assoc p.0 p.1 rest) ∙ ap (λ list. list ++ rest) (sym p.2)) (omega (arith, count))
            (suc back.1.0, (ap (begins_by begin) (next-of p.0 (p.1 ++ rest) kinds p.3) ∙ begun (next (p.1 ++ rest)), (front.0, here (p.1 ++ rest) (n + length kinds), front.1, back.1.1))),
        back.2,
      );
}

-- one turn, behind which none begins
pub last_turn : {S : Type 0} (begin : TokenKind → Bool) (step : S → Form S) {s : S} {n : ℕ} {kinds : List TokenKind} {Mid Behind : Option TokenKind → Type 0} {Has : S → Type 0} →
    ((o : Option TokenKind) → begins_by begin (first_of kinds o) ≡ true) → Spelled (step s) n kinds Mid Has → ((o : Option TokenKind) → Behind o → Mid o) →
    ((o : Option TokenKind) → Behind o → begins_by begin o ≡ false) → Spelled (form.loop begin step s) n kinds Behind Has
last_turn begin step {s = s} {n = n} {kinds = kinds} {Behind = Behind} {Has = Has} begun F mid none =
    subst (λ list. Spelled (form.loop begin step s) n list Behind Has) (append-nil kinds) (turn begin step begun F mid (λ last h. no_turn begin step none h))
