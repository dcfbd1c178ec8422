-- Arithmetic up to its arms.
use Rattle.std.proofs.Common.{◌≡◌, ℕ, Bool, true, false, ◌⊎◌, inl, inr, List, [], ◌∷◌, ◌++◌, Option, Some, None, refl, ap, sym, ◌∙◌, subst, append_assoc, append-nil}
use Rattle.std.specs.Prelude.{codes, if◌then◌else◌}
use Rattle.cob_base.specs.Bytes.{equal_sign}
use Rattle.cob_tree.specs.declared.calc.Calc.{Calc}
use Rattle.cob_tree.specs.declared.calc.Calc.TheVariants as calcs
use Rattle.cob_tree.specs.declared.calc.Target.{Target}
use Rattle.cob_tree.specs.declared.place.Expr.{Expr}
use Rattle.cob_tree.specs.declared.place.Operand.{Operand}
use Rattle.cob_tree.specs.declared.program.Program.{Program}
use Rattle.cobol_lex.specs.declared.token.TokenKind.{TokenKind}
use Rattle.cobol_lex.specs.declared.token.TokenKind.TheVariants as kinds
use Rattle.parser_combinators.specs.Form.{begins_by}
use Rattle.parser_combinators.specs.Part as part
use Rattle.unparser.specs.Arithmetic.{target_tokens, targets_tokens, arithmetic_tokens, end_word}
use Rattle.unparser.specs.Place.{operand_tokens, operands_tokens, place_tokens, expr_tokens}
use Rattle.unparser.specs.Token.{Tokens}
use Rattle.cobol_grammar.specs.declared.stmt_forms.head.ArithmeticVerb.{ArithmeticVerb}
use Rattle.cobol_grammar.specs.declared.stmt_forms.head.ArithmeticVerb.TheVariants as verbs
use Rattle.cobol_grammar.specs.stmt_forms.Part.{Parts}
use Rattle.cobol_grammar.specs.stmt_forms.Arithmetic as arithmetic
use Rattle.cobol_grammar.specs.stmt_forms.Arms as arms
use Rattle.cobol_grammar.specs.stmt_forms.Verb.{begins_adding, begins_multiplying}
use Rattle.round_trip.specs.spelled_forms.Spelling.{first_of, Any, Spelled}
use Rattle.round_trip.proofs.spelled_forms_lemmas.Makers.{pure, note, where_behind, bind, ending, behind_none, there_next, other_next}
use Rattle.round_trip.proofs.spelled_forms_lemmas.Tokens.{key, sign}
use Rattle.round_trip.specs.spelling.stmt_spelling.Behind.{Words, Among, behind_stmts, behind_parts, BehindPart}
use Rattle.round_trip.specs.spelling.stmt_spelling.Part.{Kept, PartsAreTold, BehindOperand, SpellsPlace, SpellsExpr, WithoutExpr, IsLiteral, SpellsItem}
use Rattle.round_trip.specs.spelling.stmt_spelling.Stmt.{Each, Some_of, TakesResult, Targets, Results, Number, SpellsCalc}
use Rattle.round_trip.proofs.spelling_lemmas.stmt_spelling_lemmas.Behind.{none-among, within, no-key, first-append, true-false}
use Rattle.round_trip.proofs.spelling_lemmas.stmt_spelling_lemmas.Lists.{and_then, each, IsItem, loop-items, some-items, behind-items}
use Rattle.round_trip.proofs.spelling_lemmas.stmt_spelling_lemmas.Parts.{no-operand, no-name, name-operand, number, number_item}

-- behind what stands before arms
abbrev pub behind_heads : Words
behind_heads = behind_stmts ++ codes "ON" ∷ codes "AT" ∷ []

abbrev pub BehindHead : Option TokenKind → Type 0
BehindHead o = Among behind_heads o

pub head-part : (o : Option TokenKind) → BehindHead o → BehindPart o
head-part = within behind_heads behind_parts refl

abbrev pub Rounded : Bool → Tokens
Rounded round = if round then kinds.Word (codes "ROUNDED") ∷ [] else []

abbrev Without_key : List ℕ → Option TokenKind → Type 0
Without_key word o = begins_by (part.is_key word) o ≡ false

rounded : {n : ℕ} (round : Bool) → Spelled arithmetic.rounded n (Rounded round) (Without_key (codes "ROUNDED")) (λ found. found ≡ round)
unfolding arithmetic.rounded
rounded true = there_next (part.is_key (codes "ROUNDED")) _ (λ o b. refl) (ending (where_behind (λ o b. tt) (key (codes "ROUNDED"))) (λ _ _. pure refl))
rounded false = other_next (part.is_key (codes "ROUNDED")) _ (λ o b. b) (pure refl)

told : (xs ys : Tokens) (k : TokenKind) → ((xs ++ k ∷ []) ++ ys) ++ [] ≡ xs ++ k ∷ ys
told xs ys k = append-nil ((xs ++ k ∷ []) ++ ys) ∙ append_assoc xs (k ∷ []) ys

told-two : (xs ys zs : Tokens) (j k : TokenKind) → (((xs ++ j ∷ ys) ++ k ∷ []) ++ zs) ++ [] ≡ xs ++ j ∷ (ys ++ k ∷ zs)
told-two xs ys zs j k = told (xs ++ j ∷ ys) zs k ∙ append_assoc xs (j ∷ ys) (k ∷ zs)

abbrev pub verb_of : Calc → ArithmeticVerb
verb_of (calcs.Add operands) = verbs.Add
verb_of (calcs.AddGiving operands) = verbs.Add
verb_of (calcs.Subtract operands) = verbs.Subtract
verb_of (calcs.SubtractGiving operands from) = verbs.Subtract
verb_of (calcs.Multiply by) = verbs.Multiply
verb_of (calcs.MultiplyGiving one by) = verbs.Multiply
verb_of (calcs.Divide by) = verbs.Divide
verb_of (calcs.DivideGiving by what) = verbs.Divide
verb_of (calcs.Compute expr) = verbs.Compute

module _ {Side Known : Type 0} {parts : Parts Side Known} {kept : Kept Side} (T : PartsAreTold parts kept) (program : Program) where
  -- ---- targets

  -- a place, or what may stand behind the last one
  abbrev BehindTarget : Option TokenKind → Type 0
  BehindTarget o = BehindOperand parts o × (Without_key (codes "ROUNDED") o × Without_key (codes "GIVING") o)

  abbrev IsEqual : Option TokenKind → Type 0
  IsEqual o = o ≡ Some (kinds.Mark equal_sign)

  head-target : (o : Option TokenKind) → BehindHead o → BehindTarget o
  head-target o b =
      (inl (head-part o b), (none-among (part.is_key (codes "ROUNDED")) behind_heads refl refl o b, none-among (part.is_key (codes "GIVING")) behind_heads refl refl o b))

  equal-target : (o : Option TokenKind) → IsEqual o → BehindTarget o
  equal-target o b = (inr (inr b), (ap (begins_by (part.is_key (codes "ROUNDED"))) b, ap (begins_by (part.is_key (codes "GIVING"))) b))

  name-key : (word : List ℕ) → parts.is_name (kinds.Word word) ≡ false → (o : Option TokenKind) → begins_by parts.is_name o ≡ true → Without_key word o
  name-key word none None e = refl
  name-key word none (Some kind) e = no-key parts.is_name kind word e none

  name-target : (o : Option TokenKind) → begins_by parts.is_name o ≡ true → BehindTarget o
  name-target o e = (name-operand T o e, (name-key (codes "ROUNDED") (T.word_no_name (codes "ROUNDED") refl) o e, name-key (codes "GIVING") (T.word_no_name (codes "GIVING") refl) o e))

  behind-rounded : (round : Bool) (o : Option TokenKind) → BehindTarget o → BehindOperand parts (first_of (Rounded round) o)
  behind-rounded true o b = inl refl
  behind-rounded false o b = b.0

  target-begins : (target : Target) → SpellsPlace parts kept program target.place → (o : Option TokenKind) → begins_by parts.is_name (first_of (target_tokens program target) o) ≡ true
  target-begins target S o =
      ap (begins_by parts.is_name) (first-append (place_tokens program target.place) (Rounded target.rounded) o) ∙ S.begins (first_of (Rounded target.rounded) o)

  target_item : (target : Target) → TakesResult parts kept program parts.number_fault target → IsItem parts.is_name (arithmetic.target parts) (target_tokens program) BehindTarget target
  unfolding arithmetic.target
  target_item target S = record {
    spelled = λ n. bind (S.0.spelled n) (behind-rounded target.rounded) (λ side h. behind_none (note (S.1 side h))
        (λ _ _. ending (where_behind (λ o b. b.1.0) (rounded target.rounded)) (λ round e. pure (ap (arithmetic.target_of (parts.place_of side)) e ∙ ap (λ p. arithmetic.target_of p target.rounded) (T.place_told target.place side h)))));
    begins = target-begins target S.0;
    enters = λ o. name-target _ (target-begins target S.0 o);
  }

  result_item : (target : Target) → TakesResult parts kept program parts.result_fault target → IsItem parts.is_name (arithmetic.result parts) (target_tokens program) BehindTarget target
  unfolding arithmetic.result
  result_item target S = record {
    spelled = λ n. bind (S.0.spelled n) (behind-rounded target.rounded) (λ side h. behind_none (note (S.1 side h))
        (λ _ _. ending (where_behind (λ o b. b.1.0) (rounded target.rounded)) (λ round e. pure (ap (arithmetic.target_of (parts.place_of side)) e ∙ ap (λ p. arithmetic.target_of p target.rounded) (T.place_told target.place side h)))));
    begins = target-begins target S.0;
    enters = λ o. name-target _ (target-begins target S.0 o);
  }

  giving : {n : ℕ} (into : List Target) → Results parts kept program into →
      Spelled (arithmetic.giving parts) n (kinds.Word (codes "GIVING") ∷ targets_tokens program into) BehindHead (λ found. found ≡ into)
  unfolding arithmetic.giving
  giving into h =
      and_then (key (codes "GIVING")) (λ _ _.
      some-items parts.is_name (arithmetic.result parts) (target_tokens program) BehindTarget BehindHead head-target (λ o b. no-name T o (head-part o b)) into h.0 (each result_item into h.1) _)

  -- ---- goals

  behind-first : (round : Bool) (into : List Target) → Each (TakesResult parts kept program parts.number_fault) into → (o : Option TokenKind) → BehindHead o →
      BehindOperand parts (first_of (Rounded round ++ targets_tokens program into) o) × Without_key (codes "GIVING") (first_of (Rounded round ++ targets_tokens program into) o)
  behind-first true into h o b = (inl refl, refl)
  behind-first false into h o b =
      let k = behind-items parts.is_name (arithmetic.target parts) (target_tokens program) BehindTarget BehindHead head-target (λ o b. no-name T o (head-part o b)) into (each target_item into h) o b in
      (k.0, k.1.1)

  behind-round : (into : List Target) → Each (TakesResult parts kept program parts.number_fault) into → (o : Option TokenKind) → BehindHead o →
      Without_key (codes "ROUNDED") (first_of (targets_tokens program into) o)
  behind-round into h o b =
      let k = behind-items parts.is_name (arithmetic.target parts) (target_tokens program) BehindTarget BehindHead head-target (λ o b. no-name T o (head-part o b)) into (each target_item into h) o b in
      k.1.0

  abbrev to_targets : List Target → arithmetic.Goal
  to_targets into = (None, into)

  goal-targets : {n : ℕ} (into : List Target) → Targets parts kept program into → Spelled (arithmetic.goal parts) n (targets_tokens program into) BehindHead (λ found. found ≡ to_targets into)
  unfolding arithmetic.goal arithmetic.item_goal arithmetic.item_goal_behind arithmetic.targets_goal
  goal-targets [] h = absurd (true-false h.0 refl)
  goal-targets {n = n} (target ∷ into) h =
      let S = h.1.0 in
      let place = place_tokens program target.place in
      let round = Rounded target.rounded in
      let back = targets_tokens program into in
      subst (λ t. Spelled (arithmetic.goal parts) n t BehindHead (λ found. found ≡ to_targets (target ∷ into))) (sym (append_assoc place round back))
      (there_next parts.is_name _ (λ o b. ap (begins_by parts.is_name) (first-append place (round ++ back) o) ∙ S.0.begins (first_of (round ++ back) o))
      (bind (S.0.spelled n) (λ o b. (behind-first target.rounded into h.1.1 o b).0) (λ side k. behind_none (note (S.1 side k))
      (λ _ _. other_next (part.is_key (codes "GIVING")) _ (λ o b. (behind-first target.rounded into h.1.1 o b).1)
      (bind (rounded target.rounded) (behind-round into h.1.1) (λ found e. ending
      (loop-items parts.is_name (arithmetic.target parts) (target_tokens program) BehindTarget BehindHead head-target (λ o b. no-name T o (head-part o b)) into (each target_item into h.1.1)
      (arithmetic.target_of (parts.place_of side) found ∷ []) _)
      (λ list l. pure (ap to_targets (l ∙ ap (λ x. x ∷ into) (ap (arithmetic.target_of (parts.place_of side)) e ∙ ap (λ p. arithmetic.target_of p target.rounded) (T.place_told target.place side k)))))))))))

  giving_goal : {n : ℕ} (operand : Operand) (found : Operand) → found ≡ operand → (into : List Target) → Results parts kept program into →
      Spelled (arithmetic.giving_goal parts found) n (kinds.Word (codes "GIVING") ∷ targets_tokens program into) BehindHead (λ goal. goal ≡ (Some operand, into))
  unfolding arithmetic.giving_goal
  giving_goal operand found e into h = ending (giving into h) (λ list k. pure (ap (λ l. (Some found, l)) k ∙ ap (λ x. (Some x, into)) e))

  goal-by : {n : ℕ} (operand : Operand) → Number parts kept program operand → (into : List Target) → Results parts kept program into →
      IsLiteral parts kept program operand ⊎ SpellsItem parts kept program operand →
      Spelled (arithmetic.goal parts) n (operand_tokens program operand ++ kinds.Word (codes "GIVING") ∷ targets_tokens program into) BehindHead (λ goal. goal ≡ (Some operand, into))
  unfolding arithmetic.goal arithmetic.item_goal arithmetic.item_goal_behind arithmetic.literal_goal
  goal-by operand S into h (inl L) =
      let back = kinds.Word (codes "GIVING") ∷ targets_tokens program into in
      other_next parts.is_name _ (λ o b. ap (begins_by parts.is_name) (first-append (operand_tokens program operand) back o) ∙ L.no_name (first_of back o))
      (bind (number T operand S) (λ o b. inl refl) (λ found e. giving_goal operand found e into h))
  goal-by {n = n} operand S into h (inr I) =
      let back = kinds.Word (codes "GIVING") ∷ targets_tokens program into in
      there_next parts.is_name _ (λ o b. ap (begins_by parts.is_name) (first-append (operand_tokens program operand) back o) ∙ I.name (first_of back o))
      (bind (I.by_reference n) (λ o b. inl refl) (λ side k. behind_none (note (S.1 side k))
      (λ _ _. there_next (part.is_key (codes "GIVING")) _ (λ o b. refl) (giving_goal operand (parts.operand_of side) (T.operand_told operand side k) into h))))

  goal-giving : {n : ℕ} (operand : Operand) → Number parts kept program operand → (into : List Target) → Results parts kept program into →
      Spelled (arithmetic.goal parts) n (operand_tokens program operand ++ kinds.Word (codes "GIVING") ∷ targets_tokens program into) BehindHead (λ goal. goal ≡ (Some operand, into))
  goal-giving operand S into h = goal-by operand S into h S.0.either

  -- ---- the statements

  added : {n : ℕ} (operands : List Operand) → Some_of (Number parts kept program) operands →
      Spelled (arithmetic.number_operands parts) n (operands_tokens program operands) BehindPart (λ found. found ≡ operands)
  added operands h =
      some-items parts.begins_operand (arithmetic.number_operand parts) (operand_tokens program) (BehindOperand parts) BehindPart (λ o b. inl b) (no-operand T) operands h.0 (each (number_item T) operands h.1) _

  abbrev Spells : ℕ → ArithmeticVerb → Tokens → Calc → List Target → Type 0
  Spells n verb tokens calc into = Spelled (arms.arithmetic_work parts) n tokens BehindHead (λ found. found ≡ (verb, (calc, into)))

  add : {n : ℕ} (operands : List Operand) (into : List Target) → Some_of (Number parts kept program) operands → Targets parts kept program into →
      Spells n verbs.Add (kinds.Word (codes "ADD") ∷ (operands_tokens program operands ++ kinds.Word (codes "TO") ∷ targets_tokens program into)) (calcs.Add operands) into
  unfolding arms.arithmetic_work arms.adding_work begins_adding arithmetic.add arithmetic.add_to
  add operands into h k =
      there_next begins_adding _ (λ o b. refl) (there_next (part.is_key (codes "ADD")) _ (λ o b. refl) (ending
      (and_then (key (codes "ADD")) (λ _ _. bind (added operands h) (λ o b. refl) (λ found e. other_next (part.is_key (codes "GIVING")) _ (λ o b. refl)
      (and_then (key (codes "TO")) (λ _ _. ending (goal-targets into k) (λ goal l. pure (ap (arithmetic.added_to found) l ∙ ap (λ x. (calcs.Add x, into)) e)))))))
      (λ work m. pure (ap (λ w. (verbs.Add, w)) m))))

  add_giving : {n : ℕ} (operands : List Operand) (into : List Target) → Some_of (Number parts kept program) operands → Results parts kept program into →
      Spells n verbs.Add (kinds.Word (codes "ADD") ∷ (operands_tokens program operands ++ kinds.Word (codes "GIVING") ∷ targets_tokens program into)) (calcs.AddGiving operands) into
  unfolding arms.arithmetic_work arms.adding_work begins_adding arithmetic.add arithmetic.add_giving
  add_giving operands into h k =
      there_next begins_adding _ (λ o b. refl) (there_next (part.is_key (codes "ADD")) _ (λ o b. refl) (ending
      (and_then (key (codes "ADD")) (λ _ _. bind (added operands h) (λ o b. refl) (λ found e. there_next (part.is_key (codes "GIVING")) _ (λ o b. refl)
      (ending (giving into k) (λ list l. pure (ap (λ x. (calcs.AddGiving found, x)) l ∙ ap (λ x. (calcs.AddGiving x, into)) e))))))
      (λ work m. pure (ap (λ w. (verbs.Add, w)) m))))

  subtract : {n : ℕ} (operands : List Operand) (calc : Calc) (into : List Target) (goal : arithmetic.Goal) (tokens : Tokens) → Some_of (Number parts kept program) operands →
      ((m : ℕ) → Spelled (arithmetic.goal parts) m tokens BehindHead (λ found. found ≡ goal)) → arithmetic.subtracted_from operands goal ≡ (calc, into) →
      Spells n verbs.Subtract (kinds.Word (codes "SUBTRACT") ∷ (operands_tokens program operands ++ kinds.Word (codes "FROM") ∷ tokens)) calc into
  unfolding arms.arithmetic_work arms.adding_work begins_adding arithmetic.subtract
  subtract operands calc into goal tokens h G is =
      there_next begins_adding _ (λ o b. refl) (other_next (part.is_key (codes "ADD")) _ (λ o b. refl) (ending
      (and_then (key (codes "SUBTRACT")) (λ _ _. bind (added operands h) (λ o b. refl) (λ found e.
      and_then (key (codes "FROM")) (λ _ _. ending (G _) (λ found_goal l. pure (ap (arithmetic.subtracted_from found) l ∙ ap (λ x. arithmetic.subtracted_from x goal) e ∙ is))))))
      (λ work m. pure (ap (λ w. (verbs.Subtract, w)) m))))

  multiply : {n : ℕ} (operand : Operand) (calc : Calc) (into : List Target) (goal : arithmetic.Goal) (tokens : Tokens) → Number parts kept program operand →
      ((m : ℕ) → Spelled (arithmetic.goal parts) m tokens BehindHead (λ found. found ≡ goal)) → arithmetic.multiplied_by operand goal ≡ (calc, into) →
      Spells n verbs.Multiply (kinds.Word (codes "MULTIPLY") ∷ (operand_tokens program operand ++ kinds.Word (codes "BY") ∷ tokens)) calc into
  unfolding arms.arithmetic_work arms.multiplying_work begins_adding begins_multiplying arithmetic.multiply
  multiply operand calc into goal tokens S G is =
      other_next begins_adding _ (λ o b. refl) (there_next begins_multiplying _ (λ o b. refl) (there_next (part.is_key (codes "MULTIPLY")) _ (λ o b. refl) (ending
      (and_then (key (codes "MULTIPLY")) (λ _ _. bind (number T operand S) (λ o b. inl refl) (λ found e.
      and_then (key (codes "BY")) (λ _ _. ending (G _) (λ found_goal l. pure (ap (arithmetic.multiplied_by found) l ∙ ap (λ x. arithmetic.multiplied_by x goal) e ∙ is))))))
      (λ work m. pure (ap (λ w. (verbs.Multiply, w)) m)))))

  divide : {n : ℕ} (operand : Operand) (calc : Calc) (into : List Target) (goal : arithmetic.Goal) (tokens : Tokens) → Number parts kept program operand →
      ((m : ℕ) → Spelled (arithmetic.goal parts) m tokens BehindHead (λ found. found ≡ goal)) → arithmetic.divided_into operand goal ≡ (calc, into) →
      Spells n verbs.Divide (kinds.Word (codes "DIVIDE") ∷ (operand_tokens program operand ++ kinds.Word (codes "INTO") ∷ tokens)) calc into
  unfolding arms.arithmetic_work arms.multiplying_work begins_adding begins_multiplying arithmetic.divide arithmetic.divide_into
  divide operand calc into goal tokens S G is =
      other_next begins_adding _ (λ o b. refl) (there_next begins_multiplying _ (λ o b. refl) (other_next (part.is_key (codes "MULTIPLY")) _ (λ o b. refl) (ending
      (and_then (key (codes "DIVIDE")) (λ _ _. bind (number T operand S) (λ o b. inl refl) (λ found e. other_next (part.is_key (codes "BY")) _ (λ o b. refl)
      (and_then (key (codes "INTO")) (λ _ _. ending (G _) (λ found_goal l. pure (ap (arithmetic.divided_into found) l ∙ ap (λ x. arithmetic.divided_into x goal) e ∙ is)))))))
      (λ work m. pure (ap (λ w. (verbs.Divide, w)) m)))))

  equals : {n : ℕ} → Spelled arithmetic.equals n (kinds.Mark equal_sign ∷ []) Any (λ _. Unit {0})
  unfolding arithmetic.equals
  equals = there_next (part.is_mark equal_sign) _ (λ o b. refl) (ending (sign (part.is_mark equal_sign) refl) (λ _ _. pure tt))

  compute : {n : ℕ} (expr : Expr) (into : List Target) → SpellsExpr parts kept program expr → WithoutExpr parts kept program parts.number_fault expr → Results parts kept program into →
      Spells n verbs.Compute (kinds.Word (codes "COMPUTE") ∷ (targets_tokens program into ++ kinds.Mark equal_sign ∷ expr_tokens program expr false)) (calcs.Compute expr) into
  unfolding arms.arithmetic_work arms.computing_work begins_adding begins_multiplying arithmetic.compute
  compute expr into S w h =
      other_next begins_adding _ (λ o b. refl) (other_next begins_multiplying _ (λ o b. refl) (ending
      (and_then (key (codes "COMPUTE")) (λ _ _. bind {Mid = IsEqual}
      (some-items parts.is_name (arithmetic.result parts) (target_tokens program) BehindTarget IsEqual equal-target (λ o b. ap (begins_by parts.is_name) b ∙ T.equal_no_name) into h.0 (each result_item into h.1) _)
      (λ o b. refl) (λ found e. and_then equals (λ _ _. ending (where_behind head-part (S.spelled _)) (λ side k. behind_none (note (w side k))
      (λ _ _. pure (ap (λ x. (calcs.Compute x, found)) (T.expr_told expr side k) ∙ ap (λ x. (calcs.Compute expr, x)) e)))))))
      (λ work m. pure (ap (λ w. (verbs.Compute, w)) m))))

  pub worked : {n : ℕ} (calc : Calc) (into : List Target) → SpellsCalc parts kept program calc into → Spells n (verb_of calc) (arithmetic_tokens program calc into) calc into
  worked {n = n} (calcs.Add operands) into h =
      subst (λ t. Spells n verbs.Add (kinds.Word (codes "ADD") ∷ t) (calcs.Add operands) into)
      (sym (told (operands_tokens program operands) (targets_tokens program into) (kinds.Word (codes "TO")))) (add operands into h.0 h.1)
  worked {n = n} (calcs.AddGiving operands) into h =
      subst (λ t. Spells n verbs.Add (kinds.Word (codes "ADD") ∷ t) (calcs.AddGiving operands) into)
      (sym (told (operands_tokens program operands) (targets_tokens program into) (kinds.Word (codes "GIVING")))) (add_giving operands into h.0 h.1)
  worked {n = n} (calcs.Subtract operands) into h =
      subst (λ t. Spells n verbs.Subtract (kinds.Word (codes "SUBTRACT") ∷ t) (calcs.Subtract operands) into)
      (sym (told (operands_tokens program operands) (targets_tokens program into) (kinds.Word (codes "FROM"))))
      (subtract operands (calcs.Subtract operands) into (None, into) (targets_tokens program into) h.0 (λ m. goal-targets into h.1) refl)
  worked {n = n} (calcs.SubtractGiving operands from) into h =
      subst (λ t. Spells n verbs.Subtract (kinds.Word (codes "SUBTRACT") ∷ t) (calcs.SubtractGiving operands from) into)
      (sym (told-two (operands_tokens program operands) (operand_tokens program from) (targets_tokens program into) (kinds.Word (codes "FROM")) (kinds.Word (codes "GIVING"))))
      (subtract operands (calcs.SubtractGiving operands from) into (Some from, into) (operand_tokens program from ++ kinds.Word (codes "GIVING") ∷ targets_tokens program into) h.0
      (λ m. goal-giving from h.1.0 into h.1.1) refl)
  worked {n = n} (calcs.Multiply by) into h =
      subst (λ t. Spells n verbs.Multiply (kinds.Word (codes "MULTIPLY") ∷ t) (calcs.Multiply by) into)
      (sym (told (operand_tokens program by) (targets_tokens program into) (kinds.Word (codes "BY"))))
      (multiply by (calcs.Multiply by) into (None, into) (targets_tokens program into) h.0 (λ m. goal-targets into h.1) refl)
  worked {n = n} (calcs.MultiplyGiving one by) into h =
      subst (λ t. Spells n verbs.Multiply (kinds.Word (codes "MULTIPLY") ∷ t) (calcs.MultiplyGiving one by) into)
      (sym (told-two (operand_tokens program one) (operand_tokens program by) (targets_tokens program into) (kinds.Word (codes "BY")) (kinds.Word (codes "GIVING"))))
      (multiply one (calcs.MultiplyGiving one by) into (Some by, into) (operand_tokens program by ++ kinds.Word (codes "GIVING") ∷ targets_tokens program into) h.0
      (λ m. goal-giving by h.1.0 into h.1.1) refl)
  worked {n = n} (calcs.Divide by) into h =
      subst (λ t. Spells n verbs.Divide (kinds.Word (codes "DIVIDE") ∷ t) (calcs.Divide by) into)
      (sym (told (operand_tokens program by) (targets_tokens program into) (kinds.Word (codes "INTO"))))
      (divide by (calcs.Divide by) into (None, into) (targets_tokens program into) h.0 (λ m. goal-targets into h.1) refl)
  worked {n = n} (calcs.DivideGiving by what) into h =
      subst (λ t. Spells n verbs.Divide (kinds.Word (codes "DIVIDE") ∷ t) (calcs.DivideGiving by what) into)
      (sym (told-two (operand_tokens program by) (operand_tokens program what) (targets_tokens program into) (kinds.Word (codes "INTO")) (kinds.Word (codes "GIVING"))))
      (divide by (calcs.DivideGiving by what) into (Some what, into) (operand_tokens program what ++ kinds.Word (codes "GIVING") ∷ targets_tokens program into) h.0
      (λ m. goal-giving what h.1.0 into h.1.1) refl)
  worked (calcs.Compute expr) into h = compute expr into h.0.0 h.0.1 h.1

pub same-end : (calc : Calc) → arms.end_of (verb_of calc) ≡ end_word calc
same-end (calcs.Add operands) = refl
same-end (calcs.AddGiving operands) = refl
same-end (calcs.Subtract operands) = refl
same-end (calcs.SubtractGiving operands from) = refl
same-end (calcs.Multiply by) = refl
same-end (calcs.MultiplyGiving one by) = refl
same-end (calcs.Divide by) = refl
same-end (calcs.DivideGiving by what) = refl
same-end (calcs.Compute expr) = refl
