-- Statements, one behind the other.
use Rattle.std.proofs.Common.{◌≡◌, ℕ, zero, suc, ◌+◌, Bool, true, false, ◌⊎◌, inl, inr, List, [], ◌∷◌, ◌++◌, length, Option, Some, refl, ap, sym, ◌∙◌, subst, append_assoc}
use Rattle.std.specs.Prelude.{codes}
use Rattle.cob_tree.specs.declared.stmt.Stmt.{Stmt}
use Rattle.cob_tree.specs.declared.stmt.Stmt.TheVariants as stmts
use Rattle.cobol_lex.specs.declared.token.TokenKind.{TokenKind}
use Rattle.cobol_lex.specs.declared.token.TokenKind.TheVariants as kinds
use Rattle.parser_combinators.specs.declared.why.Why.TheVariants.{Syntax}
use Rattle.parser_combinators.specs.Form as form
use Rattle.parser_combinators.specs.Form.{Form, Input, begins_by, is_next, next, loop_spells}
use Rattle.parser_combinators.specs.Part as part
use Rattle.program_facts.specs.well_scoped.Part.{is_filled}
use Rattle.unparser.specs.Token.{Tokens}
use Rattle.cobol_grammar.specs.declared.stmt_forms.scope.Scope.{Scope}
use Rattle.cobol_grammar.specs.stmt_forms.Arms.{Level, Found}
use Rattle.cobol_grammar.specs.stmt_forms.Part.{Parts}
use Rattle.cobol_grammar.specs.stmt_forms.Stmt as forms
use Rattle.cobol_grammar.specs.stmt_forms.Verb.{begins_stmt, begins_simple, begins_moving, begins_filing, begins_jumping, begins_holding, begins_arithmetic, begins_adding, begins_multiplying, begins_choice}
use Rattle.round_trip.specs.spelled_forms.Spelling.{here, first_of, Any, Spelled}
use Rattle.round_trip.proofs.spelled_forms_lemmas.Makers.{hence, where_behind, chosen_other, turn, last_turn, next-of}
use Rattle.round_trip.specs.spelling.stmt_spelling.Behind.{Among, verbs, closings, behind_stmts, BehindStmt, EndsStmt, IsNot, BeginsPhrase, ends_of}
use Rattle.round_trip.specs.spelling.stmt_spelling.Stmt.{Each}
use Rattle.round_trip.proofs.spelling_lemmas.stmt_spelling_lemmas.Behind.{none-among, within, is-not, first-append, true-false}

abbrev pub Next : Tokens
Next = kinds.Word (codes "NEXT") ∷ kinds.Word (codes "SENTENCE") ∷ []

abbrev pub Not : Tokens
Not = kinds.Word (codes "NOT") ∷ []

abbrev pub NotNext : Option TokenKind → Type 0
NotNext o = begins_by (part.is_key (codes "NEXT")) o ≡ false

-- behind a statement that is closed by its own word, or not
abbrev pub EndsOne : Bool → Option TokenKind → Type 0
EndsOne closed o = Among (verbs ++ ends_of closed) o

abbrev pub EndsAll : Bool → Option TokenKind → Type 0
EndsAll closed o = Among (ends_of closed) o

abbrev pub Is : List Stmt → Bool → Found → Type 0
Is list pending_not found = found ≡ (list, pending_not)

pub ends-behind : (closed : Bool) (o : Option TokenKind) → EndsOne closed o → BehindStmt o
ends-behind true o b = within (verbs ++ ends_of true) behind_stmts refl o b
ends-behind false o b = within (verbs ++ ends_of false) behind_stmts refl o b

pub ends-stmt-one : (closed : Bool) (o : Option TokenKind) → EndsOne closed o → EndsStmt o
ends-stmt-one true o b = within (verbs ++ ends_of true) (verbs ++ closings) refl o b
ends-stmt-one false o b = within (verbs ++ ends_of false) (verbs ++ closings) refl o b

all-one : (closed : Bool) (o : Option TokenKind) → EndsAll closed o → EndsOne closed o
all-one true o b = within (ends_of true) (verbs ++ ends_of true) refl o b
all-one false o b = within (ends_of false) (verbs ++ ends_of false) refl o b

pub verbs-one : (closed : Bool) (o : Option TokenKind) → Among verbs o → EndsOne closed o
verbs-one true o b = within verbs (verbs ++ ends_of true) refl o b
verbs-one false o b = within verbs (verbs ++ ends_of false) refl o b

all-no-next : (closed : Bool) (o : Option TokenKind) → EndsAll closed o → NotNext o
all-no-next true o b = none-among (part.is_key (codes "NEXT")) (ends_of true) refl refl o b
all-no-next false o b = none-among (part.is_key (codes "NEXT")) (ends_of false) refl refl o b

pub all-no-stmt : (closed : Bool) (o : Option TokenKind) → EndsAll closed o → begins_by begins_stmt o ≡ false
unfolding begins_stmt begins_simple begins_moving begins_filing begins_jumping begins_holding begins_arithmetic begins_adding begins_multiplying begins_choice
all-no-stmt true o b = none-among begins_stmt (ends_of true) refl refl o b
all-no-stmt false o b = none-among begins_stmt (ends_of false) refl refl o b

not-no-stmt : (o : Option TokenKind) → IsNot o → begins_by begins_stmt o ≡ false
unfolding begins_stmt begins_simple begins_moving begins_filing begins_jumping begins_holding begins_arithmetic begins_adding begins_multiplying begins_choice
not-no-stmt o e = ap (begins_by begins_stmt) e

phrase-no-stmt : (o : Option TokenKind) → BeginsPhrase o → begins_by begins_stmt o ≡ false
unfolding begins_stmt begins_simple begins_moving begins_filing begins_jumping begins_holding begins_arithmetic begins_adding begins_multiplying begins_choice
phrase-no-stmt o (inl e) = ap (begins_by begins_stmt) e
phrase-no-stmt o (inr e) = ap (begins_by begins_stmt) e

-- ---- the tokens of a list, by those of a statement

unfoldable pub list_tokens : (Bool → Stmt → Tokens) → Bool → List Stmt → Tokens
list_tokens tokens closed [] = []
list_tokens tokens closed (x ∷ []) = tokens closed x
list_tokens tokens closed (x ∷ y ∷ xs) = tokens false x ++ list_tokens tokens closed (y ∷ xs)

first-of-list : (P : Option TokenKind → Type 0) (tokens : Bool → Stmt → Tokens) (closed : Bool) (x : Stmt) → ((c : Bool) (o : Option TokenKind) → P (first_of (tokens c x) o)) →
    (xs : List Stmt) (o : Option TokenKind) → P (first_of (list_tokens tokens closed (x ∷ xs)) o)
unfolding list_tokens
first-of-list P tokens closed x h [] o = h closed o
first-of-list P tokens closed x h (y ∷ xs) o =
    subst P (sym (first-append (tokens false x) (list_tokens tokens closed (y ∷ xs)) o)) (h false (first_of (list_tokens tokens closed (y ∷ xs)) o))

module _ {Side Known : Type 0} (parts : Parts Side Known) (level : Level) (scope : Scope) where
  -- one form of a statement gives these
  abbrev pub Gives : List Stmt → Tokens → (Option TokenKind → Type 0) → Bool → Type 0
  Gives new tokens Behind pending_not = (before : List Stmt) (n : ℕ) → Spelled (forms.stmt parts level scope before) n tokens Behind (Is (before ++ new) pending_not)

  -- a statement whose tokens depend on whether it is closed; behind READ alone NEXT SENTENCE would be read with it
  pub record One (tokens : Bool → Tokens) (x : Stmt) : Type 0 where
    pub begins : (closed : Bool) (o : Option TokenKind) → begins_by begins_stmt (first_of (tokens closed) o) ≡ true
    pub enters : (closed : Bool) (o : Option TokenKind) → Among verbs (first_of (tokens closed) o)
    pub fronts : ((closed : Bool) (o : Option TokenKind) → NotNext (first_of (tokens closed) o)) ⊎ ((x ≡ stmts.NextSentence) × ((closed : Bool) → tokens closed ≡ Next))
    pub ends : (closed : Bool) → Gives (x ∷ []) (tokens closed) (EndsOne closed) false
        ⊎ (Gives (x ∷ []) (tokens closed) (λ o. EndsOne closed o × NotNext o) false × Gives (x ∷ stmts.NextSentence ∷ []) (tokens closed ++ Next) Any false)
    pub before_not : Gives (x ∷ []) (tokens true) IsNot false ⊎ Gives (x ∷ []) (tokens true ++ Not) BeginsPhrase true

  -- one that NOT may follow whatever it is
  pub simple : (x : Stmt) (word : List ℕ) (rest : Tokens) → begins_stmt (kinds.Word word) ≡ true → Among verbs (Some (kinds.Word word)) → part.is_key (codes "NEXT") (kinds.Word word) ≡ false →
      Gives (x ∷ []) (kinds.Word word ∷ rest) BehindStmt false → One (λ closed. kinds.Word word ∷ rest) x
  simple x word rest b v n F = record {
    begins = λ closed o. b;
    enters = λ closed o. v;
    fronts = inl (λ closed o. n);
    ends = λ closed. inl (λ before m. where_behind (ends-behind closed) (F before m));
    before_not = inl (λ before m. where_behind is-not (F before m));
  }

  abbrev pub Loop : Found → Form Found
  Loop found = form.loop begins_stmt (forms.stmts_turn parts level scope) found

  abbrev pub Turns : List Stmt → Tokens → (Option TokenKind → Type 0) → Bool → Type 0
  Turns xs tokens Behind pending_not = (before : List Stmt) (n : ℕ) → Spelled (Loop (before, false)) n tokens Behind (Is (before ++ xs) pending_not)

  turn_from : {n : ℕ} {tokens : Tokens} {Behind : Option TokenKind → Type 0} {Has : Found → Type 0} (before : List Stmt) →
      Spelled (forms.stmt parts level scope before) n tokens Behind Has → Spelled (forms.stmts_turn parts level scope (before, false)) n tokens Behind Has
  unfolding forms.stmts_turn
  turn_from before F = chosen_other (form.refuse Syntax) refl F

  last : {new : List Stmt} {tokens : Tokens} {Behind : Option TokenKind → Type 0} {pending_not : Bool} → ((o : Option TokenKind) → begins_by begins_stmt (first_of tokens o) ≡ true) →
      ((o : Option TokenKind) → Behind o → begins_by begins_stmt o ≡ false) → Gives new tokens Behind pending_not → Turns new tokens Behind pending_not
  last begins none F before n = last_turn begins_stmt (forms.stmts_turn parts level scope) begins (turn_from before (F before n)) (λ o b. b) none

  more : {new xs : List Stmt} {tokens others : Tokens} {Mid Behind : Option TokenKind → Type 0} {pending_not : Bool} →
      ((o : Option TokenKind) → begins_by begins_stmt (first_of tokens o) ≡ true) → ((o : Option TokenKind) → Mid (first_of others o)) →
      Gives new tokens Mid false → Turns xs others Behind pending_not → Turns (new ++ xs) (tokens ++ others) Behind pending_not
  more {new = new} {xs = xs} {tokens = tokens} {others = others} {Behind = Behind} {pending_not = pending_not} begins mid F G before n =
      turn begins_stmt (forms.stmts_turn parts level scope) begins (turn_from before (F before n)) (λ o b. mid o)
      (λ found e. subst (λ f. Spelled (Loop f) (n + length tokens) others Behind (Is (before ++ (new ++ xs)) pending_not)) (sym e)
      (hence (λ f k. k ∙ ap (λ l. (l, pending_not)) (append_assoc before new xs)) (G (before ++ new) (n + length tokens))))

  -- a list whose last statement is closed or not
  pub record Along (closed : Bool) (xs : List Stmt) (tokens : Tokens) : Type 0 where
    pub plain : Turns xs tokens (EndsAll closed) false
    pub before_not : closed ≡ true → Turns xs tokens IsNot false ⊎ Turns xs (tokens ++ Not) BeginsPhrase true

  extend-not : {new xs : List Stmt} {tokens others : Tokens} {Mid : Option TokenKind → Type 0} → ((o : Option TokenKind) → begins_by begins_stmt (first_of tokens o) ≡ true) →
      ((o : Option TokenKind) → Mid (first_of others o)) → ((o : Option TokenKind) → Mid (first_of (others ++ Not) o)) → Gives new tokens Mid false →
      Turns xs others IsNot false ⊎ Turns xs (others ++ Not) BeginsPhrase true →
      Turns (new ++ xs) (tokens ++ others) IsNot false ⊎ Turns (new ++ xs) ((tokens ++ others) ++ Not) BeginsPhrase true
  extend-not begins mid late F (inl G) = inl (more begins mid F G)
  extend-not {new = new} {xs = xs} {tokens = tokens} {others = others} begins mid late F (inr G) =
      inr (subst (λ t. Turns (new ++ xs) t BeginsPhrase true) (sym (append_assoc tokens others Not)) (more begins late F G))

  extend : {closed : Bool} {new xs : List Stmt} {tokens others : Tokens} {Mid : Option TokenKind → Type 0} → ((o : Option TokenKind) → begins_by begins_stmt (first_of tokens o) ≡ true) →
      ((o : Option TokenKind) → Mid (first_of others o)) → Gives new tokens Mid false → Along closed xs others → Along closed (new ++ xs) (tokens ++ others)
  extend {others = others} {Mid = Mid} begins mid F A = record {
    plain = more begins mid F A.plain;
    before_not = λ e. extend-not begins mid (λ o. subst Mid (sym (first-append others Not o)) (mid (first_of Not o))) F (A.before_not e);
  }

  last-not : {new : List Stmt} {tokens : Tokens} → ((o : Option TokenKind) → begins_by begins_stmt (first_of tokens o) ≡ true) →
      Gives new tokens IsNot false ⊎ Gives new (tokens ++ Not) BeginsPhrase true → Turns new tokens IsNot false ⊎ Turns new (tokens ++ Not) BeginsPhrase true
  last-not begins (inl F) = inl (last begins not-no-stmt F)
  last-not {tokens = tokens} begins (inr F) =
      inr (last (λ o. ap (begins_by begins_stmt) (first-append tokens Not o) ∙ begins (first_of Not o)) phrase-no-stmt F)

  -- ---- lists of such statements

  module _ (tokens : Bool → Stmt → Tokens) where
    abbrev pub Such : Stmt → Type 0
    Such x = One (λ c. tokens c x) x

    last-by : (closed : Bool) (x : Stmt) → Such x →
        Gives (x ∷ []) (tokens closed x) (EndsOne closed) false
        ⊎ (Gives (x ∷ []) (tokens closed x) (λ o. EndsOne closed o × NotNext o) false × Gives (x ∷ stmts.NextSentence ∷ []) (tokens closed x ++ Next) Any false) →
        Turns (x ∷ []) (tokens closed x) (EndsAll closed) false
    last-by closed x S (inl F) = last (S.begins closed) (all-no-stmt closed) (λ before n. where_behind (all-one closed) (F before n))
    last-by closed x S (inr F) = last (S.begins closed) (all-no-stmt closed) (λ before n. where_behind (λ o b. (all-one closed o b, all-no-next closed o b)) (F.0 before n))

    one-along : (closed : Bool) (x : Stmt) → Such x → Along closed (x ∷ []) (tokens closed x)
    one-along closed x S = record {
      plain = last-by closed x S (S.ends closed);
      before_not = λ e. subst (λ c. Turns (x ∷ []) (tokens c x) IsNot false ⊎ Turns (x ∷ []) (tokens c x ++ Not) BeginsPhrase true) (sym e) (last-not (S.begins true) S.before_not);
    }

    -- READ and NEXT SENTENCE, and what stands behind them
    paired : (closed : Bool) (x y : Stmt) (xs : List Stmt) → Such x → Gives (x ∷ stmts.NextSentence ∷ []) (tokens false x ++ Next) Any false →
        (y ≡ stmts.NextSentence) × ((c : Bool) → tokens c y ≡ Next) → (is_filled xs ≡ true → Along closed xs (list_tokens tokens closed xs)) →
        Along closed (x ∷ y ∷ xs) (tokens false x ++ list_tokens tokens closed (y ∷ xs))
    unfolding list_tokens
    paired closed x y [] S F is A =
        let begins : (o : Option TokenKind) → begins_by begins_stmt (first_of (tokens false x ++ Next) o) ≡ true =
        λ o. ap (begins_by begins_stmt) (first-append (tokens false x) Next o) ∙ S.begins false (first_of Next o) in
        subst (λ t. Along closed (x ∷ y ∷ []) (tokens false x ++ t)) (sym (is.1 closed))
        (subst (λ z. Along closed (x ∷ z ∷ []) (tokens false x ++ Next)) (sym is.0) (record {
          plain = last begins (all-no-stmt closed) (λ before n. where_behind (λ o b. tt) (F before n));
          before_not = λ e. inl (last begins not-no-stmt (λ before n. where_behind (λ o b. tt) (F before n)));
        }))
    paired closed x y (z ∷ xs) S F is A =
        let begins : (o : Option TokenKind) → begins_by begins_stmt (first_of (tokens false x ++ Next) o) ≡ true =
        λ o. ap (begins_by begins_stmt) (first-append (tokens false x) Next o) ∙ S.begins false (first_of Next o) in
        let others : Tokens = list_tokens tokens closed (z ∷ xs) in
        subst (λ t. Along closed (x ∷ y ∷ z ∷ xs) (tokens false x ++ (t ++ others))) (sym (is.1 false))
        (subst (λ w. Along closed (x ∷ w ∷ z ∷ xs) (tokens false x ++ (Next ++ others))) (sym is.0)
        (subst (λ t. Along closed (x ∷ stmts.NextSentence ∷ z ∷ xs) t) (append_assoc (tokens false x) Next others)
        (extend begins (λ o. tt) F (A refl))))

    by-front : (closed : Bool) (x y : Stmt) (xs : List Stmt) → Such x → Such y →
        (Gives (x ∷ []) (tokens false x) (λ o. EndsOne false o × NotNext o) false × Gives (x ∷ stmts.NextSentence ∷ []) (tokens false x ++ Next) Any false) →
        ((c : Bool) (o : Option TokenKind) → NotNext (first_of (tokens c y) o)) ⊎ ((y ≡ stmts.NextSentence) × ((c : Bool) → tokens c y ≡ Next)) →
        Along closed (y ∷ xs) (list_tokens tokens closed (y ∷ xs)) → (is_filled xs ≡ true → Along closed xs (list_tokens tokens closed xs)) →
        Along closed (x ∷ y ∷ xs) (tokens false x ++ list_tokens tokens closed (y ∷ xs))
    by-front closed x y xs S U F (inl front) A B =
        extend (S.begins false) (λ o. (verbs-one false _ (first-of-list (Among verbs) tokens closed y U.enters xs o), first-of-list NotNext tokens closed y front xs o)) F.0 A
    by-front closed x y xs S U F (inr next) A B = paired closed x y xs S F.1 next B

    two-along : (closed : Bool) (x y : Stmt) (xs : List Stmt) → Such x → Such y →
        Gives (x ∷ []) (tokens false x) (EndsOne false) false
        ⊎ (Gives (x ∷ []) (tokens false x) (λ o. EndsOne false o × NotNext o) false × Gives (x ∷ stmts.NextSentence ∷ []) (tokens false x ++ Next) Any false) →
        Along closed (y ∷ xs) (list_tokens tokens closed (y ∷ xs)) → (is_filled xs ≡ true → Along closed xs (list_tokens tokens closed xs)) →
        Along closed (x ∷ y ∷ xs) (tokens false x ++ list_tokens tokens closed (y ∷ xs))
    two-along closed x y xs S U (inl F) A B = extend (S.begins false) (λ o. verbs-one false _ (first-of-list (Among verbs) tokens closed y U.enters xs o)) F A
    two-along closed x y xs S U (inr F) A B = by-front closed x y xs S U F U.fronts A B

    pub along : (closed : Bool) (xs : List Stmt) → is_filled xs ≡ true → Each Such xs → Along closed xs (list_tokens tokens closed xs)
    unfolding list_tokens
    along closed [] f h = absurd (true-false f refl)
    along closed (x ∷ []) f h = one-along closed x h.0
    along closed (x ∷ y ∷ xs) f h =
        two-along closed x y xs h.0 h.1.0 (h.0.ends false) (along closed (y ∷ xs) refl h.1) (λ g. along closed xs g h.1.1)

    pub list-enters : (closed : Bool) (xs : List Stmt) → is_filled xs ≡ true → Each Such xs → (o : Option TokenKind) → Among verbs (first_of (list_tokens tokens closed xs) o)
    list-enters closed [] f h o = absurd (true-false f refl)
    list-enters closed (x ∷ xs) f h o = first-of-list (Among verbs) tokens closed x h.0.enters xs o

    pub list-begins : (closed : Bool) (xs : List Stmt) → is_filled xs ≡ true → Each Such xs → (o : Option TokenKind) → begins_by begins_stmt (first_of (list_tokens tokens closed xs) o) ≡ true
    list-begins closed [] f h o = absurd (true-false f refl)
    list-begins closed (x ∷ xs) f h o = first-of-list (λ p. begins_by begins_stmt p ≡ true) tokens closed x h.0.begins xs o

  -- ---- one or more of them

  first-turn : (p q : Input) (found : Found) (count : ℕ) → is_next begins_stmt p ≡ true → loop_spells (λ _. begins_stmt) (forms.stmts_turn parts level scope) count ([], false) p found q →
      (forms.stmts_with parts level scope).spells p found q
  unfolding forms.stmts_with forms.stmts_turn
  first-turn p q found zero e s = true-false e s.0
  first-turn p q found (suc count) e s = (s.1.0, s.1.1, s.1.2, (count, s.1.3))

  pub all-of : {n : ℕ} {tokens : Tokens} {Behind : Option TokenKind → Type 0} {Has : Found → Type 0} → ((o : Option TokenKind) → begins_by begins_stmt (first_of tokens o) ≡ true) →
      Spelled (Loop ([], false)) n tokens Behind Has → Spelled (forms.stmts_with parts level scope) n tokens Behind Has
  all-of {n = n} {tokens = tokens} begins F = record {
    spells = λ list rest e b.
        let s = F.spells list rest e b in
        (s.0, first-turn (here (list ++ rest) n) (here rest (n + length tokens)) s.0 s.1.0 (ap (begins_by begins_stmt) (next-of list rest tokens e) ∙ begins (next rest)) s.1.1, s.2);
  }
