-- READ, and arithmetic with its arms.
use Rattle.std.proofs.Common.{◌≡◌, ℕ, Bool, true, false, ◌⊎◌, inl, List, [], ◌∷◌, ◌++◌, Option, Some, None, refl, ap, sym, subst, append_assoc, append-nil}
use Rattle.std.specs.Prelude.{codes}
use Rattle.cob_tree.specs.declared.calc.Calc.{Calc}
use Rattle.cob_tree.specs.declared.calc.Calc.TheVariants as calcs
use Rattle.cob_tree.specs.declared.calc.Target.{Target}
use Rattle.cob_tree.specs.declared.place.Operand.TheVariants as operands
use Rattle.cob_tree.specs.declared.place.Place.{Place}
use Rattle.cob_tree.specs.declared.program.Program.{Program}
use Rattle.cob_tree.specs.declared.stmt.Stmt.{Stmt}
use Rattle.cob_tree.specs.declared.stmt.Stmt.TheVariants as stmts
use Rattle.cobol_lex.specs.declared.token.TokenKind.{TokenKind}
use Rattle.cobol_lex.specs.declared.token.TokenKind.TheVariants as kinds
use Rattle.parser_combinators.specs.Form.{begins_by}
use Rattle.parser_combinators.specs.Part as part
use Rattle.unparser.specs.Arithmetic.{arithmetic_tokens, end_word}
use Rattle.unparser.specs.Head.{into_tokens}
use Rattle.unparser.specs.Token.{Tokens}
use Rattle.cobol_grammar.specs.declared.stmt_forms.phrase.Phrase.{Phrase}
use Rattle.cobol_grammar.specs.declared.stmt_forms.phrase.Phrase.TheVariants as phrases
use Rattle.cobol_grammar.specs.declared.stmt_forms.scope.Scope.{Scope}
use Rattle.cobol_grammar.specs.stmt_forms.Arms as arm
use Rattle.cobol_grammar.specs.stmt_forms.Arms.{Level}
use Rattle.cobol_grammar.specs.stmt_forms.File as file
use Rattle.cobol_grammar.specs.stmt_forms.Part.{Parts}
use Rattle.cobol_grammar.specs.stmt_forms.Verb.{begins_stmt, begins_simple, begins_moving, begins_filing, begins_jumping, begins_holding, begins_arithmetic, begins_adding, begins_multiplying, begins_choice}
use Rattle.round_trip.specs.spelled_forms.Spelling.{first_of, Any, Spelled}
use Rattle.round_trip.proofs.spelled_forms_lemmas.Makers.{pure, note, where_behind, then, ending, behind_first, behind_none, there_next, other_next}
use Rattle.round_trip.proofs.spelled_forms_lemmas.Tokens.{key}
use Rattle.round_trip.specs.spelling.stmt_spelling.Behind.{Among, verbs, ends_of}
use Rattle.round_trip.specs.spelling.stmt_spelling.Part.{Kept, PartsAreTold, SpellsPlace, Without}
use Rattle.round_trip.specs.spelling.stmt_spelling.Stmt.{IfAny, SpellsCalc}
use Rattle.round_trip.proofs.spelling_lemmas.stmt_spelling_lemmas.Behind.{none-among}
use Rattle.round_trip.proofs.spelling_lemmas.stmt_spelling_lemmas.Calcs.{behind_heads, BehindHead, head-part}
use Rattle.round_trip.proofs.spelling_lemmas.stmt_spelling_lemmas.Along.{Gives, One, EndsOne, EndsAll, NotNext, Next}
use Rattle.round_trip.proofs.spelling_lemmas.stmt_spelling_lemmas.ArmsSpelled.{IsHeld, said, end-said, end-unsaid, arms-none, arms-first, arms-second, arms-both}
use Rattle.round_trip.proofs.spelling_lemmas.stmt_spelling_lemmas.Holding.{one-head, closed-one, arith, calc-first, calc-verb}

-- ---- the tokens of arms

abbrev pub first_tokens : Phrase → Option (Bool → Tokens) → Tokens
first_tokens phrase None = []
first_tokens phrase (Some tokens) = said phrase ++ tokens true

abbrev pub second_tokens : Phrase → Option (Bool → Tokens) → Tokens
second_tokens phrase None = []
second_tokens phrase (Some tokens) = (kinds.Word (codes "NOT") ∷ said phrase) ++ tokens true

abbrev pub arms_tokens : Phrase → (first second : Option (Bool → Tokens)) → Tokens
arms_tokens phrase first second = first_tokens phrase first ++ second_tokens phrase second

abbrev pub has_some : Option (Bool → Tokens) → Option (Bool → Tokens) → Bool
has_some None None = false
has_some None (Some t) = true
has_some (Some t) second = true

abbrev pub end_tokens : Bool → List ℕ → Tokens
end_tokens true word = kinds.Word word ∷ []
end_tokens false word = []

abbrev either : Bool → Bool → Bool
either true closed = true
either false closed = closed

-- an arm, with its tokens
abbrev pub AreHeld : Level → Scope → Option (List Stmt) → Option (Bool → Tokens) → Type 0
AreHeld level scope None None = Unit {0}
AreHeld level scope (Some xs) (Some tokens) = IsHeld level scope xs tokens
AreHeld level scope _ _ = ⊥

phrase-head : (phrase : Phrase) (more : Tokens) (o : Option TokenKind) → BehindHead (first_of (said phrase ++ more) o)
phrase-head phrases.End more o = refl
phrase-head phrases.Size more o = refl

abbrev IsClosing : List ℕ → Type 0
IsClosing word = Among (ends_of true) (Some (kinds.Word word))

module _ (phrase : Phrase) (level : Level) (scope : Scope) where
  -- two arms or one, behind which a word stands that ends the statement
  pub some-arms : (first second : Option (List Stmt)) (one other : Option (Bool → Tokens)) → AreHeld level scope first one → AreHeld level scope second other → has_some one other ≡ true →
      (n : ℕ) → Spelled (arm.arms phrase level scope) n (arms_tokens phrase one other) (EndsAll true) (λ found. found ≡ (arm.arms_of first second, false))
  some-arms None None None None h k e n = absurd cc
  some-arms None (Some ys) None (Some other) h k e n = arms-second phrase level scope k
  some-arms (Some xs) None (Some one) None h k e n =
      subst (λ t. Spelled (arm.arms phrase level scope) n t (EndsAll true) (λ found. found ≡ (arm.arms_of (Some xs) None, false))) (sym (append-nil (said phrase ++ one true))) (arms-first phrase level scope h)
  some-arms (Some xs) (Some ys) (Some one) (Some other) h k e n =
      subst (λ t. Spelled (arm.arms phrase level scope) n t (EndsAll true) (λ found. found ≡ (arm.arms_of (Some xs) (Some ys), false)))
      (sym (append_assoc (said phrase) (one true) ((kinds.Word (codes "NOT") ∷ said phrase) ++ other true))) (arms-both phrase level scope h k)
  some-arms None None (Some t) other h k e n = absurd h
  some-arms None (Some ys) (Some t) other h k e n = absurd h
  some-arms (Some xs) second None other h k e n = absurd h
  some-arms None None None (Some t) h k e n = absurd k
  some-arms None (Some ys) None None h k e n = absurd k
  some-arms (Some xs) None (Some one) (Some t) h k e n = absurd k
  some-arms (Some xs) (Some ys) (Some one) None h k e n = absurd k

pub some-head : (phrase : Phrase) (one other : Option (Bool → Tokens)) → has_some one other ≡ true → (word : List ℕ) (o : Option TokenKind) → BehindHead (first_of (arms_tokens phrase one other ++ kinds.Word word ∷ []) o)
some-head phrase None None e word o = absurd cc
some-head phrase None (Some other) e word o = refl
some-head phrases.End (Some one) other e word o = refl
some-head phrases.Size (Some one) other e word o = refl

module _ {Side Known : Type 0} {parts : Parts Side Known} {kept : Kept Side} (T : PartsAreTold parts kept) (program : Program) (level : Level) (scope : Scope) where
  -- ---- arithmetic

  size-apart : (closed : Bool) (o : Option TokenKind) → EndsOne closed o → begins_by (arm.begins_phrase phrases.Size) o ≡ false
  unfolding arm.begins_phrase
  size-apart true o b = none-among (arm.begins_phrase phrases.Size) (verbs ++ ends_of true) refl refl o b
  size-apart false o b = none-among (arm.begins_phrase phrases.Size) (verbs ++ ends_of false) refl refl o b

  pub not-apart : (closed : Bool) (o : Option TokenKind) → EndsOne closed o → begins_by (part.is_key (codes "NOT")) o ≡ false
  not-apart true o b = none-among (part.is_key (codes "NOT")) (verbs ++ ends_of true) refl refl o b
  not-apart false o b = none-among (part.is_key (codes "NOT")) (verbs ++ ends_of false) refl refl o b

  calc-ends : (P : List ℕ → Type 0) (calc : Calc) → P (codes "END-ADD") → P (codes "END-SUBTRACT") → P (codes "END-MULTIPLY") → P (codes "END-DIVIDE") → P (codes "END-COMPUTE") → P (end_word calc)
  calc-ends P (calcs.Add x) a s m d c = a
  calc-ends P (calcs.AddGiving x) a s m d c = a
  calc-ends P (calcs.Subtract x) a s m d c = s
  calc-ends P (calcs.SubtractGiving x y) a s m d c = s
  calc-ends P (calcs.Multiply x) a s m d c = m
  calc-ends P (calcs.MultiplyGiving x y) a s m d c = m
  calc-ends P (calcs.Divide x) a s m d c = d
  calc-ends P (calcs.DivideGiving x y) a s m d c = d
  calc-ends P (calcs.Compute x) a s m d c = c

  calc-end-apart : (calc : Calc) (o : Option TokenKind) → EndsOne false o → begins_by (part.is_key (end_word calc)) o ≡ false
  calc-end-apart calc o b = calc-ends (λ w. begins_by (part.is_key w) o ≡ false) calc
      (none-among (part.is_key (codes "END-ADD")) (verbs ++ ends_of false) refl refl o b) (none-among (part.is_key (codes "END-SUBTRACT")) (verbs ++ ends_of false) refl refl o b)
      (none-among (part.is_key (codes "END-MULTIPLY")) (verbs ++ ends_of false) refl refl o b) (none-among (part.is_key (codes "END-DIVIDE")) (verbs ++ ends_of false) refl refl o b)
      (none-among (part.is_key (codes "END-COMPUTE")) (verbs ++ ends_of false) refl refl o b)

  -- without arms, and with its word or without it
  arith-bare : (calc : Calc) (into : List Target) → SpellsCalc parts kept program calc into →
      Gives parts level scope (stmts.Arith calc into (arm.arms_of None None) ∷ []) (arithmetic_tokens program calc into ++ []) (EndsOne false) false
  arith-bare calc into S =
      arith T program level scope {Mid = EndsOne false} calc into (arm.arms_of None None) S (λ n. arms-none phrases.Size level scope (size-apart false) (not-apart false))
      (λ n. end-unsaid (end_word calc) (calc-end-apart calc)) (λ o b. one-head false o b) (λ o b. b)

  arith-ended : (calc : Calc) (into : List Target) → SpellsCalc parts kept program calc into →
      Gives parts level scope (stmts.Arith calc into (arm.arms_of None None) ∷ []) (arithmetic_tokens program calc into ++ kinds.Word (end_word calc) ∷ []) Any false
  arith-ended calc into S =
      arith T program level scope {Mid = EndsOne true} calc into (arm.arms_of None None) S (λ n. arms-none phrases.Size level scope (size-apart true) (not-apart true))
      (λ n. end-said (end_word calc))
      (λ o b. calc-ends (λ w. BehindHead (Some (kinds.Word w))) calc refl refl refl refl refl) (λ o b. calc-ends (λ w. EndsOne true (Some (kinds.Word w))) calc refl refl refl refl refl)

  arith-armed : (calc : Calc) (into : List Target) (first second : Option (List Stmt)) (one other : Option (Bool → Tokens)) → SpellsCalc parts kept program calc into →
      AreHeld level scope first one → AreHeld level scope second other → has_some one other ≡ true →
      Gives parts level scope (stmts.Arith calc into (arm.arms_of first second) ∷ []) (arithmetic_tokens program calc into ++ (arms_tokens phrases.Size one other ++ kinds.Word (end_word calc) ∷ [])) Any false
  arith-armed calc into first second one other S h k e =
      arith T program level scope calc into (arm.arms_of first second) S (some-arms phrases.Size level scope first second one other h k e) (λ n. end-said (end_word calc))
      (λ o b. some-head phrases.Size one other e (end_word calc) o) (λ o b. calc-ends (λ w. EndsAll true (Some (kinds.Word w))) calc refl refl refl refl refl)

  calc-begins : (calc : Calc) (into : List Target) (more : Tokens) (o : Option TokenKind) → begins_by begins_stmt (first_of (arithmetic_tokens program calc into ++ more) o) ≡ true
  unfolding begins_stmt begins_simple begins_moving begins_filing begins_jumping begins_holding begins_arithmetic begins_adding begins_multiplying begins_choice
  calc-begins = calc-first T program level scope begins_stmt true refl refl refl refl refl

  calc-next : (calc : Calc) (into : List Target) (more : Tokens) (o : Option TokenKind) → NotNext (first_of (arithmetic_tokens program calc into ++ more) o)
  calc-next = calc-first T program level scope (part.is_key (codes "NEXT")) false refl refl refl refl refl

  bare-ends : (calc : Calc) (into : List Target) → SpellsCalc parts kept program calc into → (closed : Bool) →
      Gives parts level scope (stmts.Arith calc into (arm.arms_of None None) ∷ []) (arithmetic_tokens program calc into ++ end_tokens closed (end_word calc)) (EndsOne closed) false
      ⊎ (Gives parts level scope (stmts.Arith calc into (arm.arms_of None None) ∷ []) (arithmetic_tokens program calc into ++ end_tokens closed (end_word calc)) (λ o. EndsOne closed o × NotNext o) false
      × Gives parts level scope (stmts.Arith calc into (arm.arms_of None None) ∷ stmts.NextSentence ∷ []) ((arithmetic_tokens program calc into ++ end_tokens closed (end_word calc)) ++ Next) Any false)
  bare-ends calc into S true = inl (λ before n. where_behind (λ o b. tt) (arith-ended calc into S before n))
  bare-ends calc into S false = inl (arith-bare calc into S)

  pub bare-one : (calc : Calc) (into : List Target) → SpellsCalc parts kept program calc into →
      One parts level scope (λ c. arithmetic_tokens program calc into ++ end_tokens c (end_word calc)) (stmts.Arith calc into (arm.arms_of None None))
  bare-one calc into S = record {
    begins = λ closed o. calc-begins calc into (end_tokens closed (end_word calc)) o;
    enters = λ closed o. calc-verb T program level scope calc into (end_tokens closed (end_word calc)) o;
    fronts = inl (λ closed o. calc-next calc into (end_tokens closed (end_word calc)) o);
    ends = bare-ends calc into S;
    before_not = inl (λ before n. where_behind (λ o b. tt) (arith-ended calc into S before n));
  }

  pub armed-one : (calc : Calc) (into : List Target) (first second : Option (List Stmt)) (one other : Option (Bool → Tokens)) → SpellsCalc parts kept program calc into →
      AreHeld level scope first one → AreHeld level scope second other → has_some one other ≡ true →
      One parts level scope (λ c. arithmetic_tokens program calc into ++ (arms_tokens phrases.Size one other ++ kinds.Word (end_word calc) ∷ [])) (stmts.Arith calc into (arm.arms_of first second))
  armed-one calc into first second one other S h k e =
      let back : Tokens = arms_tokens phrases.Size one other ++ kinds.Word (end_word calc) ∷ [] in
      closed-one T program level scope (stmts.Arith calc into (arm.arms_of first second)) (arithmetic_tokens program calc into ++ back) (calc-begins calc into back)
      (calc-verb T program level scope calc into back) (calc-next calc into back) (arith-armed calc into first second one other S h k e)

  -- ---- READ

  abbrev pub Into : ℕ → Place → Type 0
  Into number place =
      SpellsPlace parts kept program place
      × (Without parts kept program parts.value_fault (operands.Place place) × Without parts kept program (parts.into_fault (Some number)) (operands.Place place))

  unsaid-record : {n : ℕ} → Spelled (part.maybe (codes "RECORD")) n [] (λ o. begins_by (part.is_key (codes "RECORD")) o ≡ false) (λ _. Unit {0})
  unsaid-record = other_next (part.is_key (codes "RECORD")) _ (λ o b. b) (pure tt)

  pub into_part : {n : ℕ} (number : ℕ) (into : Option Place) → IfAny (Into number) into → Spelled (file.into_part parts (Some number)) n (into_tokens program into) BehindHead (λ found. found ≡ into)
  unfolding file.into_part file.into_item
  into_part number None h =
      ending (where_behind (none-among (part.is_key (codes "RECORD")) behind_heads refl refl) unsaid-record)
      (λ _ _. other_next (part.is_key (codes "INTO")) _ (none-among (part.is_key (codes "INTO")) behind_heads refl refl) (pure refl))
  into_part number (Some place) h =
      behind_first unsaid-record (λ o b. refl) (λ _ _. there_next (part.is_key (codes "INTO")) _ (λ o b. refl) (then (key (codes "INTO")) (λ _ _. ending (where_behind (λ o b. inl (head-part o b)) (h.0.spelled _))
      (λ side k. behind_none (note (h.1.0 side k)) (λ _ _. behind_none (note (h.1.1 side k)) (λ _ _. pure (ap Some (T.place_told place side k))))))))
