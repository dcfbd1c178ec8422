-- The tokens of conditions, arithmetic, choices and loops aren't left out.
use Rattle.std.proofs.Common.{◌≡◌, ℕ, Bool, true, false, ◌&&◌, List, [], ◌∷◌, ◌++◌, map, Option, Some, None, refl, sym, ◌∙◌, subst}
use Rattle.std.specs.Prelude.{codes, if◌then◌else◌}
use Rattle.std.proofs.lemmas.Bool.{and_parts}
use Rattle.cob_base.specs.Bytes.{equal_sign, less_sign, greater_sign}
use Rattle.cob_tree.specs.declared.calc.Calc.{Calc}
use Rattle.cob_tree.specs.declared.calc.Calc.TheVariants as calc
use Rattle.cob_tree.specs.declared.calc.Target.{Target}
use Rattle.cob_tree.specs.declared.choice.Subject.{Subject}
use Rattle.cob_tree.specs.declared.choice.Subject.TheVariants as subject
use Rattle.cob_tree.specs.declared.choice.Test.{Test}
use Rattle.cob_tree.specs.declared.choice.Test.TheVariants as test
use Rattle.cob_tree.specs.declared.cond.ClassKind.{ClassKind}
use Rattle.cob_tree.specs.declared.cond.ClassKind.TheVariants.{Numeric, Alphabetic}
use Rattle.cob_tree.specs.declared.cond.Cond.{Cond, ind-Cond, map-Cond, roll-Cond, fold-roll-Cond}
use Rattle.cob_tree.specs.declared.cond.Cond.TheOpen.{Cond-F}
use Rattle.cob_tree.specs.declared.cond.Rel.{Rel}
use Rattle.cob_tree.specs.declared.cond.Rel.TheVariants as rel
use Rattle.cob_tree.specs.declared.cond.SignKind.{SignKind}
use Rattle.cob_tree.specs.declared.cond.SignKind.TheVariants.{Positive, Negative, Zero}
use Rattle.cob_tree.specs.declared.control.Control.{Control}
use Rattle.cob_tree.specs.declared.control.Control.TheVariants as control
use Rattle.cob_tree.specs.declared.place.Expr.{Expr}
use Rattle.cob_tree.specs.declared.place.Operand.{Operand}
use Rattle.cob_tree.specs.declared.program.Program.{Program}
use Rattle.cobol_lex.specs.declared.token.TokenKind.TheVariants as kind
use Rattle.control_flow_theory.specs.language.All.{all}
use Rattle.program_facts.specs.well_scoped.Part.{if_any}
use Rattle.unparser.specs.Token.{Tokens}
use Rattle.unparser.specs.Arithmetic.{target_tokens, targets_tokens, calc_front, calc_back, arithmetic_tokens, end_word}
use Rattle.unparser.specs.Choice.{subject_tokens, thru_tokens, test_tokens}
use Rattle.unparser.specs.Condition as tok
use Rattle.unparser.specs.Condition.{rel_tokens, not_tokens, class_word, sign_word, cond_tokens}
use Rattle.unparser.specs.Control.{after_tokens, until_tokens, control_tokens}
use Rattle.unparser.specs.Place.{operands_tokens}
use Rattle.round_trip.specs.printable.Part.{is_printable_place, is_printable_operand, are_printable_operands, is_printable_expr}
use Rattle.round_trip.specs.printable.Beside as beside_specs
use Rattle.round_trip.specs.printable.Beside.{is_printable_cond, is_printable_control, is_printable_calc, is_printable_target, is_printable_subject, is_printable_test}
use Rattle.end_to_end_laws.proofs.read_programs_lemmas.printed_words_lemmas.Tokens.{Allowed, AreAllowed, none, word, mark, less_equal, greater_equal, ItemsNamed, ◌∷∷◌, ◌+++◌}
use Rattle.end_to_end_laws.proofs.read_programs_lemmas.printed_words_lemmas.Places as places
use Rattle.end_to_end_laws.proofs.read_programs_lemmas.printed_words_lemmas.Places.{parens-allowed, enclosed-allowed}

-- ---- words

rel-allowed : (r : Rel) → AreAllowed (rel_tokens r)
rel-allowed rel.Equal = mark equal_sign ∷∷ none
rel-allowed rel.NotEqual = word (codes "NOT") refl ∷∷ mark equal_sign ∷∷ none
rel-allowed rel.Less = mark less_sign ∷∷ none
rel-allowed rel.Greater = mark greater_sign ∷∷ none
rel-allowed rel.LessEqual = less_equal ∷∷ none
rel-allowed rel.GreaterEqual = greater_equal ∷∷ none

pub not-allowed : (said : Bool) → AreAllowed (not_tokens said)
not-allowed true = word (codes "NOT") refl ∷∷ none
not-allowed false = none

class-allowed : (class : ClassKind) → AreAllowed (kind.Word (class_word class) ∷ [])
class-allowed Numeric = word (codes "NUMERIC") refl ∷∷ none
class-allowed Alphabetic = word (codes "ALPHABETIC") refl ∷∷ none

sign-allowed : (sign : SignKind) → AreAllowed (kind.Word (sign_word sign) ∷ [])
sign-allowed Positive = word (codes "POSITIVE") refl ∷∷ none
sign-allowed Negative = word (codes "NEGATIVE") refl ∷∷ none
sign-allowed Zero = word (codes "ZERO") refl ∷∷ none

rounded-allowed : (rounded : Bool) → AreAllowed (if rounded then kind.Word (codes "ROUNDED") ∷ [] else [])
rounded-allowed true = word (codes "ROUNDED") refl ∷∷ none
rounded-allowed false = none

after-allowed : (after : Bool) → AreAllowed (after_tokens after)
after-allowed true = word (codes "WITH") refl ∷∷ word (codes "TEST") refl ∷∷ word (codes "AFTER") refl ∷∷ none
after-allowed false = none

pub end-allowed : (x : Calc) → AreAllowed (kind.Word (end_word x) ∷ [])
end-allowed (calc.Add parts) = word (codes "END-ADD") refl ∷∷ none
end-allowed (calc.AddGiving parts) = word (codes "END-ADD") refl ∷∷ none
end-allowed (calc.Subtract parts) = word (codes "END-SUBTRACT") refl ∷∷ none
end-allowed (calc.SubtractGiving parts from) = word (codes "END-SUBTRACT") refl ∷∷ none
end-allowed (calc.Multiply by) = word (codes "END-MULTIPLY") refl ∷∷ none
end-allowed (calc.MultiplyGiving one by) = word (codes "END-MULTIPLY") refl ∷∷ none
end-allowed (calc.Divide by) = word (codes "END-DIVIDE") refl ∷∷ none
end-allowed (calc.DivideGiving by into) = word (codes "END-DIVIDE") refl ∷∷ none
end-allowed (calc.Compute expr) = word (codes "END-COMPUTE") refl ∷∷ none

module _ (program : Program) (named : ItemsNamed program) where
  -- ---- conditions

  abbrev IsCond : Cond → Type 0
  IsCond x = is_printable_cond x ≡ true → (within : Bool) → AreAllowed (cond_tokens program x within)

  abbrev SuchCond : Type 0
  SuchCond = (x : Cond) × IsCond x

  cond-by : (y : Cond-F Cond) →
      (beside_specs.cond_step (map-Cond Cond Bool is_printable_cond y) ≡ true →
      (within : Bool) → AreAllowed (tok.cond_step program (map-Cond Cond (Bool → Tokens) (cond_tokens program) y) within)) →
      IsCond (roll-Cond y)
  cond-by y h e within =
      subst (λ (f : Bool → Tokens). AreAllowed (f within)) (sym (fold-roll-Cond (Bool → Tokens) (tok.cond_step program) y))
      (h (sym (fold-roll-Cond Bool beside_specs.cond_step y) ∙ e) within)

  joined-allowed : (connective : List ℕ) (left right : SuchCond) → Allowed (kind.Word connective) → (is_printable_cond left.0 && is_printable_cond right.0) ≡ true →
      AreAllowed (cond_tokens program left.0 true ++ kind.Word connective ∷ cond_tokens program right.0 true)
  joined-allowed connective left right w e =
      let h = and_parts (is_printable_cond left.0) (is_printable_cond right.0) e in left.1 h.0 true +++ w ∷∷ right.1 h.1 true

  cond-layer : (y : Cond-F SuchCond) → IsCond (roll-Cond (map-Cond SuchCond Cond (λ e. e.0) y))
  cond-layer (Cond-F.Relation left rel right) =
      cond-by (Cond-F.Relation left rel right)
      (λ e within. let h = and_parts (is_printable_expr left) (is_printable_expr right) e in
      places.expr-allowed program named left h.0 false +++ rel-allowed rel +++ places.expr-allowed program named right h.1 false)
  cond-layer (Cond-F.Class place class not) =
      cond-by (Cond-F.Class place class not)
      (λ e within. places.place-allowed program named place e +++ not-allowed not +++ class-allowed class)
  cond-layer (Cond-F.SignIs expr sign not) =
      cond-by (Cond-F.SignIs expr sign not)
      (λ e within. places.expr-allowed program named expr e false +++ not-allowed not +++ sign-allowed sign)
  cond-layer (Cond-F.Named place) = cond-by (Cond-F.Named place) (λ e within. places.place-allowed program named place e)
  cond-layer (Cond-F.Not inner) =
      cond-by (Cond-F.Not inner.0) (λ e within. word (codes "NOT") refl ∷∷ parens-allowed _ (inner.1 e false))
  cond-layer (Cond-F.And left right) =
      cond-by (Cond-F.And left.0 right.0)
      (λ e within. enclosed-allowed within _ (joined-allowed (codes "AND") left right (word (codes "AND") refl) e))
  cond-layer (Cond-F.Or left right) =
      cond-by (Cond-F.Or left.0 right.0)
      (λ e within. enclosed-allowed within _ (joined-allowed (codes "OR") left right (word (codes "OR") refl) e))

  pub cond-allowed : (x : Cond) → IsCond x
  cond-allowed x = ind-Cond IsCond (λ x y is. subst (λ z. IsCond (roll-Cond z)) is (cond-layer y)) x

  -- ---- loops

  until-allowed : (x : Cond) → is_printable_cond x ≡ true → AreAllowed (until_tokens program x)
  until-allowed x e = word (codes "UNTIL") refl ∷∷ cond-allowed x e false

  pub control-allowed : (x : Control) → is_printable_control x ≡ true → AreAllowed (control_tokens program x)
  control-allowed control.Once e = none
  control-allowed (control.Times amount) e = places.operand-allowed program named amount e +++ word (codes "TIMES") refl ∷∷ none
  control-allowed (control.Until after until) e = after-allowed after +++ until-allowed until e
  control-allowed (control.Varying after item from by until) e =
      let h = and_parts (is_printable_place item && is_printable_operand from && is_printable_operand by) (is_printable_cond until) e in
      let k = and_parts (is_printable_place item && is_printable_operand from) (is_printable_operand by) h.0 in
      let l = and_parts (is_printable_place item) (is_printable_operand from) k.0 in
      after-allowed after +++ word (codes "VARYING") refl ∷∷ places.place-allowed program named item l.0 +++ word (codes "FROM") refl ∷∷ places.operand-allowed program named from l.1 +++ word (codes "BY") refl ∷∷ places.operand-allowed program named by k.1 +++ until-allowed until h.1

  -- ---- arithmetic

  -- a word, operands and another word
  between : (first last : List ℕ) (parts : List Operand) → Allowed (kind.Word first) → Allowed (kind.Word last) → are_printable_operands parts ≡ true →
      AreAllowed (kind.Word first ∷ operands_tokens program parts ++ kind.Word last ∷ [])
  between first last parts f l e = f ∷∷ places.operands-allowed program named parts e +++ l ∷∷ none

  front-allowed : (x : Calc) → is_printable_calc x ≡ true → AreAllowed (calc_front program x)
  front-allowed (calc.Add parts) e =
      between (codes "ADD") (codes "TO") parts (word (codes "ADD") refl) (word (codes "TO") refl) e
  front-allowed (calc.AddGiving parts) e =
      between (codes "ADD") (codes "GIVING") parts (word (codes "ADD") refl) (word (codes "GIVING") refl) e
  front-allowed (calc.Subtract parts) e =
      between (codes "SUBTRACT") (codes "FROM") parts (word (codes "SUBTRACT") refl) (word (codes "FROM") refl) e
  front-allowed (calc.SubtractGiving parts from) e =
      let h = and_parts (are_printable_operands parts) (is_printable_operand from) e in
      word (codes "SUBTRACT") refl ∷∷ places.operands-allowed program named parts h.0 +++ word (codes "FROM") refl ∷∷ places.operand-allowed program named from h.1 +++ word (codes "GIVING") refl ∷∷ none
  front-allowed (calc.Multiply by) e =
      word (codes "MULTIPLY") refl ∷∷ places.operand-allowed program named by e +++ word (codes "BY") refl ∷∷ none
  front-allowed (calc.MultiplyGiving one by) e =
      let h = and_parts (is_printable_operand one) (is_printable_operand by) e in
      word (codes "MULTIPLY") refl ∷∷ places.operand-allowed program named one h.0 +++ word (codes "BY") refl ∷∷ places.operand-allowed program named by h.1 +++ word (codes "GIVING") refl ∷∷ none
  front-allowed (calc.Divide by) e =
      word (codes "DIVIDE") refl ∷∷ places.operand-allowed program named by e +++ word (codes "INTO") refl ∷∷ none
  front-allowed (calc.DivideGiving by into) e =
      let h = and_parts (is_printable_operand by) (is_printable_operand into) e in
      word (codes "DIVIDE") refl ∷∷ places.operand-allowed program named by h.0 +++ word (codes "INTO") refl ∷∷ places.operand-allowed program named into h.1 +++ word (codes "GIVING") refl ∷∷ none
  front-allowed (calc.Compute expr) e = word (codes "COMPUTE") refl ∷∷ none

  back-allowed : (x : Calc) → is_printable_calc x ≡ true → AreAllowed (calc_back program x)
  back-allowed (calc.Compute expr) e = mark equal_sign ∷∷ places.expr-allowed program named expr e false
  back-allowed (calc.Add parts) e = none
  back-allowed (calc.AddGiving parts) e = none
  back-allowed (calc.Subtract parts) e = none
  back-allowed (calc.SubtractGiving parts from) e = none
  back-allowed (calc.Multiply by) e = none
  back-allowed (calc.MultiplyGiving one by) e = none
  back-allowed (calc.Divide by) e = none
  back-allowed (calc.DivideGiving by into) e = none

  target-allowed : (x : Target) → is_printable_target x ≡ true → AreAllowed (target_tokens program x)
  target-allowed x e = places.place-allowed program named x.place e +++ rounded-allowed x.rounded

  targets-allowed : (list : List Target) → all (map is_printable_target list) ≡ true → AreAllowed (targets_tokens program list)
  targets-allowed [] e = none
  targets-allowed (x ∷ list) e =
      let h = and_parts (is_printable_target x) (all (map is_printable_target list)) e in target-allowed x h.0 +++ targets-allowed list h.1

  pub arithmetic-allowed : (x : Calc) (into : List Target) → is_printable_calc x ≡ true → all (map is_printable_target into) ≡ true →
      AreAllowed (arithmetic_tokens program x into)
  arithmetic-allowed x into e t = front-allowed x e +++ targets-allowed into t +++ back-allowed x e

  -- ---- choices

  pub subject-allowed : (x : Subject) → is_printable_subject x ≡ true → AreAllowed (subject_tokens program x)
  subject-allowed subject.True e = word (codes "TRUE") refl ∷∷ none
  subject-allowed subject.False e = word (codes "FALSE") refl ∷∷ none
  subject-allowed (subject.Value expr) e = places.expr-allowed program named expr e false

  thru-allowed : (to : Option Expr) → if_any is_printable_expr to ≡ true → AreAllowed (thru_tokens program to)
  thru-allowed None e = none
  thru-allowed (Some to) e = word (codes "THRU") refl ∷∷ places.expr-allowed program named to e false

  pub test-allowed : (x : Test) → is_printable_test x ≡ true → AreAllowed (test_tokens program x)
  test-allowed test.Any e = word (codes "ANY") refl ∷∷ none
  test-allowed (test.Holds cond) e = cond-allowed cond e false
  test-allowed (test.Value not from to) e =
      let h = and_parts (is_printable_expr from) (if_any is_printable_expr to) e in
      not-allowed not +++ places.expr-allowed program named from h.0 false +++ thru-allowed to h.1
