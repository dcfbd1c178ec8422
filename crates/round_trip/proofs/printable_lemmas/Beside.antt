-- The tokens of conditions, arithmetic, choices and loops that can be printed.
use Rattle.std.proofs.Common.{◌≡◌, ℕ, Bool, true, false, ◌&&◌, List, [], ◌∷◌, ◌++◌, map, Option, Some, None, refl, sym, ◌∙◌, subst}
use Rattle.std.specs.Prelude.{codes, if◌then◌else◌}
use Rattle.std.proofs.lemmas.Bool.{and_parts}
use Rattle.cob_base.specs.Bytes.{equal_sign, less_sign, greater_sign}
use Rattle.cob_tree.specs.declared.calc.Calc.{Calc}
use Rattle.cob_tree.specs.declared.calc.Calc.TheVariants as calc
use Rattle.cob_tree.specs.declared.calc.Target.{Target}
use Rattle.cob_tree.specs.declared.choice.Subject.{Subject}
use Rattle.cob_tree.specs.declared.choice.Subject.TheVariants as subject
use Rattle.cob_tree.specs.declared.choice.Test.{Test}
use Rattle.cob_tree.specs.declared.choice.Test.TheVariants as test
use Rattle.cob_tree.specs.declared.cond.ClassKind.{ClassKind}
use Rattle.cob_tree.specs.declared.cond.ClassKind.TheVariants.{Numeric, Alphabetic}
use Rattle.cob_tree.specs.declared.cond.Cond.{Cond, ind-Cond, map-Cond, roll-Cond, fold-roll-Cond}
use Rattle.cob_tree.specs.declared.cond.Cond.TheOpen.{Cond-F}
use Rattle.cob_tree.specs.declared.cond.Rel.{Rel}
use Rattle.cob_tree.specs.declared.cond.Rel.TheVariants as rel
use Rattle.cob_tree.specs.declared.cond.SignKind.{SignKind}
use Rattle.cob_tree.specs.declared.cond.SignKind.TheVariants.{Positive, Negative, Zero}
use Rattle.cob_tree.specs.declared.control.Control.{Control}
use Rattle.cob_tree.specs.declared.control.Control.TheVariants as control
use Rattle.cob_tree.specs.declared.place.Expr.{Expr}
use Rattle.cob_tree.specs.declared.place.Operand.{Operand}
use Rattle.cob_tree.specs.declared.program.Program.{Program}
use Rattle.cobol_lex.specs.declared.token.TokenKind.TheVariants as kind
use Rattle.control_flow_theory.specs.language.All.{all}
use Rattle.program_facts.specs.well_scoped.Part.{if_any}
use Rattle.unparser.specs.Token.{Tokens}
use Rattle.unparser.specs.Arithmetic.{target_tokens, targets_tokens, calc_front, calc_back, arithmetic_tokens, end_word}
use Rattle.unparser.specs.Choice.{subject_tokens, thru_tokens, test_tokens}
use Rattle.unparser.specs.Condition as tok
use Rattle.unparser.specs.Condition.{rel_tokens, not_tokens, class_word, sign_word, cond_tokens}
use Rattle.unparser.specs.Control.{after_tokens, until_tokens, control_tokens}
use Rattle.unparser.specs.Place.{operands_tokens}
use Rattle.round_trip.specs.printable.Part.{is_printable_place, is_printable_operand, are_printable_operands, is_printable_expr}
use Rattle.round_trip.specs.printable.Beside as beside_specs
use Rattle.round_trip.specs.printable.Beside.{is_printable_cond, is_printable_control, is_printable_calc, is_printable_target, is_printable_subject, is_printable_test}
use Rattle.round_trip.proofs.printable_lemmas.Tokens.{Fit, Fits, none, word, mark, less_equal, greater_equal, ItemsNamed, ◌∷∷◌, ◌+++◌}
use Rattle.round_trip.proofs.printable_lemmas.Places as places
use Rattle.round_trip.proofs.printable_lemmas.Places.{parens-free, enclosed-free}

-- ---- words

rel-free : (r : Rel) → Fits (rel_tokens r)
rel-free rel.Equal = mark equal_sign refl ∷∷ none
rel-free rel.NotEqual = word (codes "NOT") refl ∷∷ mark equal_sign refl ∷∷ none
rel-free rel.Less = mark less_sign refl ∷∷ none
rel-free rel.Greater = mark greater_sign refl ∷∷ none
rel-free rel.LessEqual = less_equal ∷∷ none
rel-free rel.GreaterEqual = greater_equal ∷∷ none

pub not-free : (said : Bool) → Fits (not_tokens said)
not-free true = word (codes "NOT") refl ∷∷ none
not-free false = none

class-free : (class : ClassKind) → Fits (kind.Word (class_word class) ∷ [])
class-free Numeric = word (codes "NUMERIC") refl ∷∷ none
class-free Alphabetic = word (codes "ALPHABETIC") refl ∷∷ none

sign-free : (sign : SignKind) → Fits (kind.Word (sign_word sign) ∷ [])
sign-free Positive = word (codes "POSITIVE") refl ∷∷ none
sign-free Negative = word (codes "NEGATIVE") refl ∷∷ none
sign-free Zero = word (codes "ZERO") refl ∷∷ none

rounded-free : (rounded : Bool) → Fits (if rounded then kind.Word (codes "ROUNDED") ∷ [] else [])
rounded-free true = word (codes "ROUNDED") refl ∷∷ none
rounded-free false = none

after-free : (after : Bool) → Fits (after_tokens after)
after-free true = word (codes "WITH") refl ∷∷ word (codes "TEST") refl ∷∷ word (codes "AFTER") refl ∷∷ none
after-free false = none

pub end-free : (x : Calc) → Fits (kind.Word (end_word x) ∷ [])
end-free (calc.Add parts) = word (codes "END-ADD") refl ∷∷ none
end-free (calc.AddGiving parts) = word (codes "END-ADD") refl ∷∷ none
end-free (calc.Subtract parts) = word (codes "END-SUBTRACT") refl ∷∷ none
end-free (calc.SubtractGiving parts from) = word (codes "END-SUBTRACT") refl ∷∷ none
end-free (calc.Multiply by) = word (codes "END-MULTIPLY") refl ∷∷ none
end-free (calc.MultiplyGiving one by) = word (codes "END-MULTIPLY") refl ∷∷ none
end-free (calc.Divide by) = word (codes "END-DIVIDE") refl ∷∷ none
end-free (calc.DivideGiving by into) = word (codes "END-DIVIDE") refl ∷∷ none
end-free (calc.Compute expr) = word (codes "END-COMPUTE") refl ∷∷ none

module _ (program : Program) (named : ItemsNamed program) where
  -- ---- conditions

  abbrev IsCond : Cond → Type 0
  IsCond x = is_printable_cond x ≡ true → (within : Bool) → Fits (cond_tokens program x within)

  abbrev SuchCond : Type 0
  SuchCond = (x : Cond) × IsCond x

  cond-by : (y : Cond-F Cond) →
      (beside_specs.cond_step (map-Cond Cond Bool is_printable_cond y) ≡ true →
      (within : Bool) → Fits (tok.cond_step program (map-Cond Cond (Bool → Tokens) (cond_tokens program) y) within)) →
      IsCond (roll-Cond y)
  cond-by y h e within =
      subst (λ (f : Bool → Tokens). Fits (f within)) (sym (fold-roll-Cond (Bool → Tokens) (tok.cond_step program) y))
      (h (sym (fold-roll-Cond Bool beside_specs.cond_step y) ∙ e) within)

  joined-free : (connective : List ℕ) (left right : SuchCond) → Fit (kind.Word connective) → (is_printable_cond left.0 && is_printable_cond right.0) ≡ true →
      Fits (cond_tokens program left.0 true ++ kind.Word connective ∷ cond_tokens program right.0 true)
  joined-free connective left right w e =
      let h = and_parts (is_printable_cond left.0) (is_printable_cond right.0) e in left.1 h.0 true +++ w ∷∷ right.1 h.1 true

  cond-layer : (y : Cond-F SuchCond) → IsCond (roll-Cond (map-Cond SuchCond Cond (λ e. e.0) y))
  cond-layer (Cond-F.Relation left rel right) =
      cond-by (Cond-F.Relation left rel right)
      (λ e within. let h = and_parts (is_printable_expr left) (is_printable_expr right) e in
      places.expr-free program named left h.0 false +++ rel-free rel +++ places.expr-free program named right h.1 false)
  cond-layer (Cond-F.Class place class not) =
      cond-by (Cond-F.Class place class not)
      (λ e within. places.place-free program named place e +++ not-free not +++ class-free class)
  cond-layer (Cond-F.SignIs expr sign not) =
      cond-by (Cond-F.SignIs expr sign not)
      (λ e within. places.expr-free program named expr e false +++ not-free not +++ sign-free sign)
  cond-layer (Cond-F.Named place) = cond-by (Cond-F.Named place) (λ e within. places.place-free program named place e)
  cond-layer (Cond-F.Not inner) =
      cond-by (Cond-F.Not inner.0) (λ e within. word (codes "NOT") refl ∷∷ parens-free _ (inner.1 e false))
  cond-layer (Cond-F.And left right) =
      cond-by (Cond-F.And left.0 right.0)
      (λ e within. enclosed-free within _ (joined-free (codes "AND") left right (word (codes "AND") refl) e))
  cond-layer (Cond-F.Or left right) =
      cond-by (Cond-F.Or left.0 right.0)
      (λ e within. enclosed-free within _ (joined-free (codes "OR") left right (word (codes "OR") refl) e))

  pub cond-free : (x : Cond) → IsCond x
  cond-free x = ind-Cond IsCond (λ x y is. subst (λ z. IsCond (roll-Cond z)) is (cond-layer y)) x

  -- ---- loops

  until-free : (x : Cond) → is_printable_cond x ≡ true → Fits (until_tokens program x)
  until-free x e = word (codes "UNTIL") refl ∷∷ cond-free x e false

  pub control-free : (x : Control) → is_printable_control x ≡ true → Fits (control_tokens program x)
  control-free control.Once e = none
  control-free (control.Times amount) e = places.operand-free program named amount e +++ word (codes "TIMES") refl ∷∷ none
  control-free (control.Until after until) e = after-free after +++ until-free until e
  control-free (control.Varying after item from by until) e =
      let h = and_parts (is_printable_place item && is_printable_operand from && is_printable_operand by) (is_printable_cond until) e in
      let k = and_parts (is_printable_place item && is_printable_operand from) (is_printable_operand by) h.0 in
      let l = and_parts (is_printable_place item) (is_printable_operand from) k.0 in
      after-free after +++ word (codes "VARYING") refl ∷∷ places.place-free program named item l.0 +++ word (codes "FROM") refl ∷∷ places.operand-free program named from l.1 +++ word (codes "BY") refl ∷∷ places.operand-free program named by k.1 +++ until-free until h.1

  -- ---- arithmetic

  -- a word, operands and another word
  between : (first last : List ℕ) (parts : List Operand) → Fit (kind.Word first) → Fit (kind.Word last) → are_printable_operands parts ≡ true →
      Fits (kind.Word first ∷ operands_tokens program parts ++ kind.Word last ∷ [])
  between first last parts f l e = f ∷∷ places.operands-free program named parts e +++ l ∷∷ none

  front-free : (x : Calc) → is_printable_calc x ≡ true → Fits (calc_front program x)
  front-free (calc.Add parts) e =
      between (codes "ADD") (codes "TO") parts (word (codes "ADD") refl) (word (codes "TO") refl) e
  front-free (calc.AddGiving parts) e =
      between (codes "ADD") (codes "GIVING") parts (word (codes "ADD") refl) (word (codes "GIVING") refl) e
  front-free (calc.Subtract parts) e =
      between (codes "SUBTRACT") (codes "FROM") parts (word (codes "SUBTRACT") refl) (word (codes "FROM") refl) e
  front-free (calc.SubtractGiving parts from) e =
      let h = and_parts (are_printable_operands parts) (is_printable_operand from) e in
      word (codes "SUBTRACT") refl ∷∷ places.operands-free program named parts h.0 +++ word (codes "FROM") refl ∷∷ places.operand-free program named from h.1 +++ word (codes "GIVING") refl ∷∷ none
  front-free (calc.Multiply by) e =
      word (codes "MULTIPLY") refl ∷∷ places.operand-free program named by e +++ word (codes "BY") refl ∷∷ none
  front-free (calc.MultiplyGiving one by) e =
      let h = and_parts (is_printable_operand one) (is_printable_operand by) e in
      word (codes "MULTIPLY") refl ∷∷ places.operand-free program named one h.0 +++ word (codes "BY") refl ∷∷ places.operand-free program named by h.1 +++ word (codes "GIVING") refl ∷∷ none
  front-free (calc.Divide by) e =
      word (codes "DIVIDE") refl ∷∷ places.operand-free program named by e +++ word (codes "INTO") refl ∷∷ none
  front-free (calc.DivideGiving by into) e =
      let h = and_parts (is_printable_operand by) (is_printable_operand into) e in
      word (codes "DIVIDE") refl ∷∷ places.operand-free program named by h.0 +++ word (codes "INTO") refl ∷∷ places.operand-free program named into h.1 +++ word (codes "GIVING") refl ∷∷ none
  front-free (calc.Compute expr) e = word (codes "COMPUTE") refl ∷∷ none

  back-free : (x : Calc) → is_printable_calc x ≡ true → Fits (calc_back program x)
  back-free (calc.Compute expr) e = mark equal_sign refl ∷∷ places.expr-free program named expr e false
  back-free (calc.Add parts) e = none
  back-free (calc.AddGiving parts) e = none
  back-free (calc.Subtract parts) e = none
  back-free (calc.SubtractGiving parts from) e = none
  back-free (calc.Multiply by) e = none
  back-free (calc.MultiplyGiving one by) e = none
  back-free (calc.Divide by) e = none
  back-free (calc.DivideGiving by into) e = none

  target-free : (x : Target) → is_printable_target x ≡ true → Fits (target_tokens program x)
  target-free x e = places.place-free program named x.place e +++ rounded-free x.rounded

  targets-free : (list : List Target) → all (map is_printable_target list) ≡ true → Fits (targets_tokens program list)
  targets-free [] e = none
  targets-free (x ∷ list) e =
      let h = and_parts (is_printable_target x) (all (map is_printable_target list)) e in target-free x h.0 +++ targets-free list h.1

  pub arithmetic-free : (x : Calc) (into : List Target) → is_printable_calc x ≡ true → all (map is_printable_target into) ≡ true →
      Fits (arithmetic_tokens program x into)
  arithmetic-free x into e t = front-free x e +++ targets-free into t +++ back-free x e

  -- ---- choices

  pub subject-free : (x : Subject) → is_printable_subject x ≡ true → Fits (subject_tokens program x)
  subject-free subject.True e = word (codes "TRUE") refl ∷∷ none
  subject-free subject.False e = word (codes "FALSE") refl ∷∷ none
  subject-free (subject.Value expr) e = places.expr-free program named expr e false

  thru-free : (to : Option Expr) → if_any is_printable_expr to ≡ true → Fits (thru_tokens program to)
  thru-free None e = none
  thru-free (Some to) e = word (codes "THRU") refl ∷∷ places.expr-free program named to e false

  pub test-free : (x : Test) → is_printable_test x ≡ true → Fits (test_tokens program x)
  test-free test.Any e = word (codes "ANY") refl ∷∷ none
  test-free (test.Holds cond) e = cond-free cond e false
  test-free (test.Value not from to) e =
      let h = and_parts (is_printable_expr from) (if_any is_printable_expr to) e in
      not-free not +++ places.expr-free program named from h.0 false +++ thru-free to h.1
