-- Lists of parts, one behind the other.
use Rattle.std.proofs.Common.{◌≡◌, ℕ, ◌+◌, Bool, true, false, List, [], ◌∷◌, ◌++◌, map, length, Option, ap, sym, ◌∙◌, subst, append_assoc, append-nil}
use Rattle.cobol_lex.specs.declared.token.TokenKind.{TokenKind}
use Rattle.parser_combinators.specs.Form as form
use Rattle.parser_combinators.specs.Form.{Form, begins_by}
use Rattle.unparser.specs.Token.{Tokens, joined}
use Rattle.program_facts.specs.well_scoped.Part.{is_filled}
use Rattle.round_trip.specs.spelled_forms.Spelling.{first_of, Any, Spelled}
use Rattle.round_trip.proofs.spelled_forms_lemmas.Makers.{pure, hence, bind, then, ending, no_turn, turn}
use Rattle.round_trip.specs.spelling.stmt_spelling.Stmt.{Each}
use Rattle.round_trip.proofs.spelling_lemmas.stmt_spelling_lemmas.Behind.{first-append}

-- as the sign of conditions and `then` are parts of one name where both are
pub and_then : {A B : Type 0} {f : Form A} {g : A → Form B} {n : ℕ} {kinds others : List TokenKind} {Behind : Option TokenKind → Type 0} {Had : A → Type 0} {Has : B → Type 0} →
    Spelled f n kinds Any Had → ((a : A) → Had a → Spelled (g a) (n + length kinds) others Behind Has) → Spelled (form.◌>>=◌ f g) n (kinds ++ others) Behind Has
and_then F G = then F G

pub each : {A : Type 0} {P Q : A → Type 0} → ((x : A) → P x → Q x) → (list : List A) → Each P list → Each Q list
each h [] e = tt
each h (x ∷ list) e = (h x e.0, each h list e.1)

-- an item that begins with such a token, and may stand behind another one
pub record IsItem {A : Type 0} (begin : TokenKind → Bool) (item : Form A) (tokens : A → Tokens) (Mid : Option TokenKind → Type 0) (x : A) : Type 0 where
  pub spelled : (taken : ℕ) → Spelled item taken (tokens x) Mid (λ y. y ≡ x)
  pub begins : (o : Option TokenKind) → begins_by begin (first_of (tokens x) o) ≡ true
  pub enters : (o : Option TokenKind) → Mid (first_of (tokens x) o)

module _ {A : Type 0} (begin : TokenKind → Bool) (item : Form A) (tokens : A → Tokens) (Mid Behind : Option TokenKind → Type 0)
    (enters : (o : Option TokenKind) → Behind o → Mid o) (none : (o : Option TokenKind) → Behind o → begins_by begin o ≡ false) where
  pub behind-items : (xs : List A) → Each (IsItem begin item tokens Mid) xs → (o : Option TokenKind) → Behind o → Mid (first_of (joined (map tokens xs)) o)
  behind-items [] h o b = enters o b
  behind-items (x ∷ xs) h o b = subst Mid (sym (first-append (tokens x) (joined (map tokens xs)) o)) (h.0.enters (first_of (joined (map tokens xs)) o))

  pub loop-items : (xs : List A) → Each (IsItem begin item tokens Mid) xs → (front : List A) (taken : ℕ) →
      Spelled (form.loop begin (form.added item) front) taken (joined (map tokens xs)) Behind (λ list. list ≡ front ++ xs)
  loop-items [] h front taken = no_turn begin (form.added item) none (sym (append-nil front))
  loop-items (x ∷ xs) h front taken =
      turn begin (form.added item) h.0.begins (ending (h.0.spelled taken) (λ y e. pure (ap (λ y. front ++ y ∷ []) e))) (behind-items xs h.1)
      (λ mid e. hence (λ list k. k ∙ ap (λ f. f ++ xs) e ∙ append_assoc front (x ∷ []) xs) (loop-items xs h.1 mid _))

  pub some-items : (xs : List A) → is_filled xs ≡ true → Each (IsItem begin item tokens Mid) xs → (taken : ℕ) →
      Spelled (form.some begin item) taken (joined (map tokens xs)) Behind (λ list. list ≡ xs)
  some-items [] f h taken = absurd cc
  some-items (x ∷ xs) f h taken =
      bind (h.0.spelled taken) (behind-items xs h.1) (λ y e. hence (λ list k. k ∙ ap (λ y. y ∷ xs) e) (loop-items xs h.1 (y ∷ []) _))
