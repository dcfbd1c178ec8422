-- Statements that hold others, over lists that are spelled.
use Rattle.std.proofs.Common.{◌≡◌, ℕ, Bool, true, false, inl, List, [], ◌∷◌, ◌++◌, Option, Some, refl, ap, sym, ◌∙◌, subst}
use Rattle.std.specs.Prelude.{codes}
use Rattle.cob_tree.specs.declared.calc.Calc.{Calc}
use Rattle.cob_tree.specs.declared.calc.Calc.TheVariants as calcs
use Rattle.cob_tree.specs.declared.calc.Target.{Target}
use Rattle.cob_tree.specs.declared.cond.Cond.{Cond}
use Rattle.cob_tree.specs.declared.control.Control.{Control}
use Rattle.cob_tree.specs.declared.program.Program.{Program}
use Rattle.cob_tree.specs.declared.stmt.Arms.{Arms}
use Rattle.cob_tree.specs.declared.stmt.Stmt.{Stmt}
use Rattle.cob_tree.specs.declared.stmt.Stmt.TheVariants as stmts
use Rattle.cobol_lex.specs.declared.token.TokenKind.{TokenKind}
use Rattle.cobol_lex.specs.declared.token.TokenKind.TheVariants as kinds
use Rattle.parser_combinators.specs.declared.why.Why.TheVariants.{Syntax}
use Rattle.parser_combinators.specs.Form as form
use Rattle.parser_combinators.specs.Form.{Form, begins_by}
use Rattle.parser_combinators.specs.Part as part
use Rattle.unparser.specs.Arithmetic.{arithmetic_tokens, end_word}
use Rattle.unparser.specs.Condition.{cond_tokens}
use Rattle.unparser.specs.Control.{control_tokens}
use Rattle.unparser.specs.Token.{Tokens}
use Rattle.cobol_grammar.specs.declared.stmt_forms.head.ArithmeticVerb.{ArithmeticVerb}
use Rattle.cobol_grammar.specs.declared.stmt_forms.head.PerformHead.{PerformHead}
use Rattle.cobol_grammar.specs.declared.stmt_forms.head.PerformHead.TheVariants as heads
use Rattle.cobol_grammar.specs.declared.stmt_forms.phrase.Phrase.TheVariants as phrases
use Rattle.cobol_grammar.specs.declared.stmt_forms.scope.Scope.{Scope}
use Rattle.cobol_grammar.specs.stmt_forms.Arms as arm
use Rattle.cobol_grammar.specs.stmt_forms.Arms.{Level, Found}
use Rattle.cobol_grammar.specs.stmt_forms.Choice as choice
use Rattle.cobol_grammar.specs.stmt_forms.Loop as loops
use Rattle.cobol_grammar.specs.stmt_forms.Part.{Parts}
use Rattle.cobol_grammar.specs.stmt_forms.Stmt as forms
use Rattle.cobol_grammar.specs.stmt_forms.Verb.{begins_stmt, begins_simple, begins_moving, begins_filing, begins_jumping, begins_holding, begins_arithmetic, begins_adding, begins_multiplying, begins_choice}
use Rattle.round_trip.specs.spelled_forms.Spelling.{first_of, Any, Spelled}
use Rattle.round_trip.proofs.spelled_forms_lemmas.Makers.{pure, where_behind, bind, then, ending, behind_none, chosen_other, there_next, other_next}
use Rattle.round_trip.proofs.spelled_forms_lemmas.Tokens.{key}
use Rattle.round_trip.specs.spelling.stmt_spelling.Behind.{Among, verbs, EndsStmt, ends_of}
use Rattle.round_trip.specs.spelling.stmt_spelling.Part.{Kept, PartsAreTold, SpellsCond}
use Rattle.round_trip.specs.spelling.stmt_spelling.Stmt.{SpellsCalc, SpellsTurns}
use Rattle.round_trip.proofs.spelling_lemmas.stmt_spelling_lemmas.Behind.{none-among, within, verb-ends, first-append}
use Rattle.round_trip.proofs.spelling_lemmas.stmt_spelling_lemmas.Calcs.{behind_heads, BehindHead, verb_of, worked, same-end}
use Rattle.round_trip.proofs.spelling_lemmas.stmt_spelling_lemmas.Performs.{inline-head}
use Rattle.round_trip.proofs.spelling_lemmas.stmt_spelling_lemmas.Along.{Gives, One, EndsOne, EndsAll, NotNext}
use Rattle.round_trip.proofs.spelling_lemmas.stmt_spelling_lemmas.ArmsSpelled.{IsHeld, end-said}

pub one-head : (closed : Bool) (o : Option TokenKind) → EndsOne closed o → BehindHead o
one-head true o b = within (verbs ++ ends_of true) behind_heads refl o b
one-head false o b = within (verbs ++ ends_of false) behind_heads refl o b

module _ {Side Known : Type 0} {parts : Parts Side Known} {kept : Kept Side} (T : PartsAreTold parts kept) (program : Program) (level : Level) (scope : Scope) where
  pub holding : (x : Stmt) (tokens : Tokens) (Behind : Option TokenKind → Type 0) (pending_not : Bool) → ((o : Option TokenKind) → begins_by begins_simple (first_of tokens o) ≡ false) →
      ((o : Option TokenKind) → begins_by (part.is_key (codes "READ")) (first_of tokens o) ≡ false) →
      ((n : ℕ) → Spelled (forms.holding_stmt parts level scope) n tokens Behind (λ found. found ≡ (x, pending_not))) → Gives parts level scope (x ∷ []) tokens Behind pending_not
  unfolding forms.stmt forms.held_stmts
  holding x tokens Behind pending_not simple read F before n =
      other_next begins_simple _ (λ o b. simple o) (other_next (part.is_key (codes "READ")) _ (λ o b. read o) (ending (F n) (λ found e. pure (ap (forms.behind before) e))))

  -- one that is closed by a word of its own
  pub closed-one : (x : Stmt) (tokens : Tokens) → ((o : Option TokenKind) → begins_by begins_stmt (first_of tokens o) ≡ true) → ((o : Option TokenKind) → Among verbs (first_of tokens o)) →
      ((o : Option TokenKind) → NotNext (first_of tokens o)) → Gives parts level scope (x ∷ []) tokens Any false → One parts level scope (λ c. tokens) x
  closed-one x tokens begins enters next F = record {
    begins = λ closed o. begins o;
    enters = λ closed o. enters o;
    fronts = inl (λ closed o. next o);
    ends = λ closed. inl (λ before m. where_behind (λ o b. tt) (F before m));
    before_not = inl (λ before m. where_behind (λ o b. tt) (F before m));
  }

  -- ---- IF

  settled : {n : ℕ} {Behind : Option TokenKind → Type 0} (cond : Cond) (found : Cond × Bool) → found ≡ (cond, false) → Spelled (choice.settled found) n [] Behind (λ c. c ≡ cond)
  unfolding choice.settled
  settled {n = n} {Behind = Behind} cond found e =
      subst (λ f. Spelled (choice.settled f) n [] Behind (λ c. c ≡ cond)) (sym e) (chosen_other (form.refuse Syntax) refl (pure refl))

  pub test_cond : {n : ℕ} (cond : Cond) → SpellsCond parts kept program cond → Spelled (choice.test_cond parts) n (cond_tokens program cond false) EndsStmt (λ c. c ≡ cond)
  unfolding choice.test_cond
  test_cond cond S =
      ending (S.spelled _) (λ found e. settled cond found e)

  unsaid-then : {n : ℕ} → Spelled (part.maybe (codes "THEN")) n [] (Among verbs) (λ _. Unit {0})
  unsaid-then = other_next (part.is_key (codes "THEN")) _ (none-among (part.is_key (codes "THEN")) verbs refl refl) (pure tt)

  if_head : {n : ℕ} (cond : Cond) → SpellsCond parts kept program cond → ((m : ℕ) → Spelled level.enter m [] Any (λ _. Unit {0})) →
      Spelled (choice.if_head parts level.enter) n (kinds.Word (codes "IF") ∷ cond_tokens program cond false) (Among verbs) (λ c. c ≡ cond)
  unfolding choice.if_head
  if_head cond S E =
      behind_none (E _) (λ _ _. then (key (codes "IF")) (λ _ _. ending (where_behind verb-ends (test_cond cond S))
      (λ c e. ending unsaid-then (λ _ _. pure e))))

  pub said-by : {n : ℕ} (word : List ℕ) (pending_not : Bool) → pending_not ≡ false → Spelled (arm.end_word word pending_not) n (kinds.Word word ∷ []) Any (λ _. Unit {0})
  said-by {n = n} word pending_not e = subst (λ v. Spelled (arm.end_word word v) n (kinds.Word word ∷ []) Any (λ _. Unit {0})) (sym e) (end-said word)

  if_ended : {n : ℕ} (cond : Cond) (met unmet : List Stmt) (tokens : Tokens) → ((m : ℕ) → Spelled (choice.else_part level scope) m tokens (λ o. o ≡ Some (kinds.Word (codes "END-IF"))) (λ found. found ≡ (unmet, false))) →
      (c : Cond) → c ≡ cond → (found : Found) → found ≡ (met, false) →
      Spelled (choice.if_behind level scope c found) n (tokens ++ kinds.Word (codes "END-IF") ∷ []) Any (λ x. x ≡ (stmts.If cond met unmet, false))
  unfolding choice.if_behind choice.if_ended
  if_ended {n = n} cond met unmet tokens F c e found k =
      subst (λ c. Spelled (choice.if_behind level scope c found) n (tokens ++ kinds.Word (codes "END-IF") ∷ []) Any (λ x. x ≡ (stmts.If cond met unmet, false))) (sym e)
      (subst (λ f. Spelled (choice.if_behind level scope cond f) n (tokens ++ kinds.Word (codes "END-IF") ∷ []) Any (λ x. x ≡ (stmts.If cond met unmet, false))) (sym k)
      (bind (F n) (λ o b. refl) (λ second l. ending
      (said-by (codes "END-IF") second.1 (ap (λ s. s.1) l))
      (λ _ _. pure (ap (λ s. (stmts.If cond met s.0, s.1)) l)))))

  else-none : {n : ℕ} → Spelled (choice.else_part level scope) n [] (λ o. o ≡ Some (kinds.Word (codes "END-IF"))) (λ found. found ≡ ([], false))
  unfolding choice.else_part
  else-none = other_next (part.is_key (codes "ELSE")) _ (λ o b. ap (begins_by (part.is_key (codes "ELSE"))) b) (pure refl)

  else-some : {n : ℕ} {unmet : List Stmt} {tokens : Bool → Tokens} → IsHeld level scope unmet tokens →
      Spelled (choice.else_part level scope) n (kinds.Word (codes "ELSE") ∷ tokens false) (λ o. o ≡ Some (kinds.Word (codes "END-IF"))) (λ found. found ≡ (unmet, false))
  unfolding choice.else_part
  else-some H =
      there_next (part.is_key (codes "ELSE")) _ (λ o b. refl) (then (key (codes "ELSE")) (λ _ _. where_behind (λ o b. subst (EndsAll false) (sym b) refl) (H.plain false _)))

  if-with : (cond : Cond) (met unmet : List Stmt) (tokens : Bool → Tokens) (others : Tokens) → SpellsCond parts kept program cond → IsHeld level scope met tokens →
      ((m : ℕ) → Spelled (choice.else_part level scope) m others (λ o. o ≡ Some (kinds.Word (codes "END-IF"))) (λ found. found ≡ (unmet, false))) →
      ((o : Option TokenKind) → EndsAll false (first_of (others ++ kinds.Word (codes "END-IF") ∷ []) o)) →
      One parts level scope (λ c. (kinds.Word (codes "IF") ∷ cond_tokens program cond false) ++ (tokens false ++ (others ++ kinds.Word (codes "END-IF") ∷ []))) (stmts.If cond met unmet)
  unfolding forms.holding_stmt choice.choice_stmt choice.if_stmt begins_stmt begins_simple begins_moving begins_filing begins_jumping begins_holding begins_arithmetic begins_adding begins_multiplying begins_choice
  if-with cond met unmet tokens others S H F behind =
      let back : Tokens = others ++ kinds.Word (codes "END-IF") ∷ [] in
      closed-one (stmts.If cond met unmet) ((kinds.Word (codes "IF") ∷ cond_tokens program cond false) ++ (tokens false ++ back)) (λ o. refl) (λ o. refl) (λ o. refl)
      (holding (stmts.If cond met unmet) ((kinds.Word (codes "IF") ∷ cond_tokens program cond false) ++ (tokens false ++ back)) Any false (λ o. refl) (λ o. refl)
      (λ n. other_next begins_arithmetic _ (λ o b. refl) (there_next begins_choice _ (λ o b. refl) (there_next (part.is_key (codes "IF")) _ (λ o b. refl)
      (bind (if_head cond S H.enter) (λ o b. subst (Among verbs) (sym (first-append (tokens false) back o)) (H.enters false (first_of back o)))
      (λ c e. bind (H.plain false _) (λ o b. behind o) (λ found k. if_ended cond met unmet others F c e found k)))))))

  pub if-one : (cond : Cond) (met : List Stmt) (tokens : Bool → Tokens) → SpellsCond parts kept program cond → IsHeld level scope met tokens →
      One parts level scope (λ c. (kinds.Word (codes "IF") ∷ cond_tokens program cond false) ++ (tokens false ++ kinds.Word (codes "END-IF") ∷ [])) (stmts.If cond met [])
  if-one cond met tokens S H = if-with cond met [] tokens [] S H (λ m. else-none) (λ o. refl)

  pub if-else-one : (cond : Cond) (met unmet : List Stmt) (tokens others : Bool → Tokens) → SpellsCond parts kept program cond → IsHeld level scope met tokens → IsHeld level scope unmet others →
      One parts level scope (λ c. (kinds.Word (codes "IF") ∷ cond_tokens program cond false) ++ (tokens false ++ (kinds.Word (codes "ELSE") ∷ (others false ++ kinds.Word (codes "END-IF") ∷ [])))) (stmts.If cond met unmet)
  if-else-one cond met unmet tokens others S H K = if-with cond met unmet tokens (kinds.Word (codes "ELSE") ∷ others false) S H (λ m. else-some K) (λ o. refl)

  -- ---- PERFORM .. END-PERFORM

  loop-closed : {n : ℕ} (control : Control) (body : List Stmt) (found : Found) → found ≡ (body, false) →
      Spelled (loops.loop_end control found) n (kinds.Word (codes "END-PERFORM") ∷ []) Any (λ x. x ≡ (stmts.Loop control body, false))
  unfolding loops.loop_end loops.loop_closed
  loop-closed {n = n} control body found e =
      subst (λ f. Spelled (loops.loop_end control f) n (kinds.Word (codes "END-PERFORM") ∷ []) Any (λ x. x ≡ (stmts.Loop control body, false))) (sym e)
      (chosen_other (form.refuse Syntax) refl (ending (key (codes "END-PERFORM")) (λ _ _. pure refl)))

  loop-body : {n : ℕ} (control : Control) (body : List Stmt) (tokens : Bool → Tokens) → IsHeld level (loops.looped scope) body tokens → (head : PerformHead) → head ≡ heads.Inline control →
      Spelled (loops.perform_by level scope head) n (tokens false ++ kinds.Word (codes "END-PERFORM") ∷ []) Any (λ x. x ≡ (stmts.Loop control body, false))
  unfolding loops.perform_by loops.loop_body
  loop-body {n = n} control body tokens H head e =
      subst (λ h. Spelled (loops.perform_by level scope h) n (tokens false ++ kinds.Word (codes "END-PERFORM") ∷ []) Any (λ x. x ≡ (stmts.Loop control body, false))) (sym e)
      (bind (H.plain false n) (λ o b. refl) (λ found k. loop-closed control body found k))

  pub loop-one : (control : Control) (body : List Stmt) (tokens : Bool → Tokens) → SpellsTurns parts kept program control → IsHeld level (loops.looped scope) body tokens →
      One parts level scope (λ c. (kinds.Word (codes "PERFORM") ∷ control_tokens program control) ++ (tokens false ++ kinds.Word (codes "END-PERFORM") ∷ [])) (stmts.Loop control body)
  unfolding forms.holding_stmt loops.perform_stmt begins_stmt begins_simple begins_moving begins_filing begins_jumping begins_holding begins_arithmetic begins_adding begins_multiplying begins_choice
  loop-one control body tokens S H =
      let back : Tokens = kinds.Word (codes "END-PERFORM") ∷ [] in
      closed-one (stmts.Loop control body) ((kinds.Word (codes "PERFORM") ∷ control_tokens program control) ++ (tokens false ++ back)) (λ o. refl) (λ o. refl) (λ o. refl)
      (holding (stmts.Loop control body) ((kinds.Word (codes "PERFORM") ∷ control_tokens program control) ++ (tokens false ++ back)) Any false (λ o. refl) (λ o. refl)
      (λ n. other_next begins_arithmetic _ (λ o b. refl) (other_next begins_choice _ (λ o b. refl)
      (bind (inline-head T program level.enter H.enter control S) (λ o b. verb-ends _ (subst (Among verbs) (sym (first-append (tokens false) back o)) (H.enters false (first_of back o))))
      (λ head e. loop-body control body tokens H head e)))))

  -- ---- arithmetic

  pub calc-first : (test : TokenKind → Bool) (wanted : Bool) → test (kinds.Word (codes "ADD")) ≡ wanted → test (kinds.Word (codes "SUBTRACT")) ≡ wanted → test (kinds.Word (codes "MULTIPLY")) ≡ wanted →
      test (kinds.Word (codes "DIVIDE")) ≡ wanted → test (kinds.Word (codes "COMPUTE")) ≡ wanted → (calc : Calc) (into : List Target) (more : Tokens) (o : Option TokenKind) →
      begins_by test (first_of (arithmetic_tokens program calc into ++ more) o) ≡ wanted
  calc-first test wanted a s m d c (calcs.Add x) into more o = a
  calc-first test wanted a s m d c (calcs.AddGiving x) into more o = a
  calc-first test wanted a s m d c (calcs.Subtract x) into more o = s
  calc-first test wanted a s m d c (calcs.SubtractGiving x y) into more o = s
  calc-first test wanted a s m d c (calcs.Multiply x) into more o = m
  calc-first test wanted a s m d c (calcs.MultiplyGiving x y) into more o = m
  calc-first test wanted a s m d c (calcs.Divide x) into more o = d
  calc-first test wanted a s m d c (calcs.DivideGiving x y) into more o = d
  calc-first test wanted a s m d c (calcs.Compute x) into more o = c

  pub calc-verb : (calc : Calc) (into : List Target) (more : Tokens) (o : Option TokenKind) → Among verbs (first_of (arithmetic_tokens program calc into ++ more) o)
  calc-verb (calcs.Add x) into more o = refl
  calc-verb (calcs.AddGiving x) into more o = refl
  calc-verb (calcs.Subtract x) into more o = refl
  calc-verb (calcs.SubtractGiving x y) into more o = refl
  calc-verb (calcs.Multiply x) into more o = refl
  calc-verb (calcs.MultiplyGiving x y) into more o = refl
  calc-verb (calcs.Divide x) into more o = refl
  calc-verb (calcs.DivideGiving x y) into more o = refl
  calc-verb (calcs.Compute x) into more o = refl

  ended-by : {n : ℕ} {close : Tokens} {Behind : Option TokenKind → Type 0} (calc : Calc) (verb : ArithmeticVerb) (pending_not : Bool) → verb ≡ verb_of calc → pending_not ≡ false →
      Spelled (arm.end_word (end_word calc) false) n close Behind (λ _. Unit {0}) → Spelled (arm.end_work verb pending_not) n close Behind (λ _. Unit {0})
  unfolding arm.end_work
  ended-by {n = n} {close = close} {Behind = Behind} calc verb pending_not e k E =
      subst (λ v. Spelled (arm.end_word (arm.end_of v) pending_not) n close Behind (λ _. Unit {0})) (sym e)
      (subst (λ f. Spelled (arm.end_word (arm.end_of (verb_of calc)) f) n close Behind (λ _. Unit {0})) (sym k)
      (subst (λ t. Spelled (arm.end_word t false) n close Behind (λ _. Unit {0})) (sym (same-end calc)) E))

  pub arith : {tokens close : Tokens} {Mid Behind : Option TokenKind → Type 0} (calc : Calc) (into : List Target) (arms : Arms) → SpellsCalc parts kept program calc into →
      ((n : ℕ) → Spelled (arm.arms phrases.Size level scope) n tokens Mid (λ found. found ≡ (arms, false))) →
      ((n : ℕ) → Spelled (arm.end_word (end_word calc) false) n close Behind (λ _. Unit {0})) →
      ((o : Option TokenKind) → Behind o → BehindHead (first_of (tokens ++ close) o)) → ((o : Option TokenKind) → Behind o → Mid (first_of close o)) →
      Gives parts level scope (stmts.Arith calc into arms ∷ []) (arithmetic_tokens program calc into ++ (tokens ++ close)) Behind false
  unfolding forms.holding_stmt arm.arithmetic_stmt begins_simple begins_moving begins_filing begins_jumping begins_arithmetic begins_adding begins_multiplying
  arith {tokens = tokens} {close = close} {Behind = Behind} calc into arms S A E front mid =
      holding (stmts.Arith calc into arms) (arithmetic_tokens program calc into ++ (tokens ++ close)) Behind false
      (calc-first begins_simple false refl refl refl refl refl calc into (tokens ++ close)) (calc-first (part.is_key (codes "READ")) false refl refl refl refl refl calc into (tokens ++ close))
      (λ n. there_next begins_arithmetic _ (λ o b. calc-first begins_arithmetic true refl refl refl refl refl calc into (tokens ++ close) o)
      (bind (worked T program calc into S) front (λ w e. bind (A _) mid (λ found k. ending
      (ended-by calc w.0 found.1 (ap (λ v. v.0) e) (ap (λ f. f.1) k) (E _))
      (λ _ _. pure (ap (λ v. (stmts.Arith v.1.0 v.1.1 found.0, found.1)) e ∙ ap (λ f. (stmts.Arith calc into f.0, f.1)) k))))))
