-- Lists whose items have what is asked of them.
use Rattle.std.proofs.Common.{Bool, List, [], ◌∷◌, ◌++◌, refl}
use Rattle.cobol_lex.specs.declared.token.TokenKind.{TokenKind}
use Rattle.parser_combinators.specs.Form as form
use Rattle.parser_combinators.specs.Form.{Form}
use Rattle.program_facts.proofs.well_scoped_lemmas.Made.{filled-added}
use Rattle.grammar_laws.specs.form_results.Giving.{Gives}
use Rattle.grammar_laws.proofs.form_results_lemmas.Giving.{hence, pure, loop, ◌>>=◌}
use Rattle.round_trip.specs.spelling.stmt_spelling.Stmt.{Each, Some_of}

pub each-added : {A : Type 0} (P : A → Type 0) (front : List A) (x : A) → Each P front → P x → Each P (front ++ x ∷ [])
each-added P [] x f h = (h, tt)
each-added P (y ∷ front) x f h = (f.0, each-added P front x f.1 h)

pub some-added : {A : Type 0} (P : A → Type 0) (front : List A) (x : A) → Each P front → P x → Some_of P (front ++ x ∷ [])
some-added P front x f h = (filled-added front x, each-added P front x f h)

pub some-one : {A : Type 0} (P : A → Type 0) (x : A) → P x → Some_of P (x ∷ [])
some-one P x h = (refl, (h, tt))

pub each-hence : {A : Type 0} {P Q : A → Type 0} → ((x : A) → P x → Q x) → (list : List A) → Each P list → Each Q list
each-hence h [] e = tt
each-hence h (x ∷ list) e = (h x e.0, each-hence h list e.1)

-- what each has under a premise, where it holds
pub some-under : {A X : Type 0} (P : A → Type 0) (list : List A) → X → Some_of (λ x. X → P x) list → Some_of P list
some-under P list x h = (h.0, each-hence (λ _ k. k x) list h.1)

module _ {Kind : TokenKind → Type 0} where
  pub added : {A : Type 0} {item : Form A} (P : A → Type 0) (front : List A) → Gives Kind item P → Gives Kind (form.added item front) (λ list. Each P front → Some_of P list)
  added P front F = F >>= (λ x. pure (λ h f. some-added P front x f h))

  -- items behind those before
  pub items : {A : Type 0} {begin : TokenKind → Bool} {item : Form A} {front : List A} (P : A → Type 0) → Gives Kind item P →
      Gives Kind (form.loop begin (form.added item) front) (λ list. Some_of P front → Some_of P list)
  items P F = loop {P = Some_of P} (λ front. hence (λ list h f. h f.1) (added P front F))

  pub items_all : {A : Type 0} {begin : TokenKind → Bool} {item : Form A} {front : List A} (P : A → Type 0) → Gives Kind item P →
      Gives Kind (form.loop begin (form.added item) front) (λ list. Each P front → Each P list)
  items_all P F = loop {P = Each P} (λ front. hence (λ list h f. (h f).1) (added P front F))

  pub some : {A : Type 0} {begin : TokenKind → Bool} {item : Form A} (P : A → Type 0) → Gives Kind item P → Gives Kind (form.some begin item) (Some_of P)
  some P F = F >>= (λ x. hence (λ list h k. h (some-one P x k)) (items P F))
