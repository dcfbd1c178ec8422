-- What spells tests of expressions: relations, classes and signs.
use Rattle.std.proofs.Common.{◌≡◌, ℕ, ◌+◌, ◌-◌, ◌≤◌, Bool, true, false, not, [], ◌∷◌, ◌++◌, Option, Some, None, refl, ap, sym, ◌∙◌, subst}
use Rattle.std.specs.Prelude.{codes}
use Rattle.std.proofs.lemmas.Bool.{both_ways}
use Rattle.cob_base.specs.Bytes.{equal_sign}
use Rattle.cob_tree.specs.declared.cond.ClassKind.{ClassKind}
use Rattle.cob_tree.specs.declared.cond.ClassKind.TheVariants as classes
use Rattle.cob_tree.specs.declared.cond.Cond.{Cond}
use Rattle.cob_tree.specs.declared.cond.Cond.TheVariants as conds
use Rattle.cob_tree.specs.declared.cond.Rel.{Rel}
use Rattle.cob_tree.specs.declared.cond.Rel.TheVariants as rels
use Rattle.cob_tree.specs.declared.cond.SignKind.{SignKind}
use Rattle.cob_tree.specs.declared.cond.SignKind.TheVariants as signs
use Rattle.cob_tree.specs.declared.place.Expr.{Expr}
use Rattle.cob_tree.specs.declared.place.Operand.TheVariants as operands
use Rattle.cob_tree.specs.declared.place.Place.{Place}
use Rattle.cob_tree.specs.declared.program.Program.{Program}
use Rattle.cobol_lex.specs.declared.token.TokenKind.{TokenKind}
use Rattle.cobol_lex.specs.declared.token.TokenKind.TheVariants as kinds
use Rattle.parser_combinators.specs.declared.note.Position.{Position}
use Rattle.parser_combinators.specs.Form as form
use Rattle.parser_combinators.specs.Part as part
use Rattle.unparser.specs.Token.{Tokens}
use Rattle.unparser.specs.Place.{expr_tokens}
use Rattle.unparser.specs.Condition.{rel_tokens, not_tokens, class_word, sign_word}
use Rattle.symbol_tables.specs.data_names.Names.{Names}
use Rattle.program_facts.specs.term_counts.Expression.{expr_terms}
use Rattle.cobol_grammar.specs.declared.expr_forms.side.ExprContent.{ExprContent}
use Rattle.cobol_grammar.specs.declared.expr_forms.side.ExprContent.TheVariants as makes
use Rattle.cobol_grammar.specs.declared.expr_forms.side.ExprForm.{ExprForm}
use Rattle.cobol_grammar.specs.declared.expr_forms.side.ExprForm.TheVariants as shapes
use Rattle.cobol_grammar.specs.declared.expr_forms.side.Side.{Side}
use Rattle.cobol_grammar.specs.declared.expr_forms.side.ValueKind.{ValueKind}
use Rattle.cobol_grammar.specs.declared.expr_forms.side.ValueKind.TheVariants as values
use Rattle.cobol_grammar.specs.expr_forms.Fault.{value_fault, value_fault_at, relation_fault, kinds_fault, inexact_fault, compared_as, is_condition}
use Rattle.cobol_grammar.specs.expr_forms.Limit.{Inner}
use Rattle.cobol_grammar.specs.expr_forms.Side.{expr_of, shape_of}
use Rattle.cobol_grammar.specs.declared.cond_forms.test.Primary.TheVariants as prims
use Rattle.cobol_grammar.specs.declared.cond_forms.test.Read.{Read}
use Rattle.cobol_grammar.specs.declared.cond_forms.test.Setting.{Setting}
use Rattle.cobol_grammar.specs.cond_forms.Relation as relations
use Rattle.cobol_grammar.specs.cond_forms.Test as tests
use Rattle.cobol_grammar.specs.cond_forms.Token.{rel_of, sign_of, class_of, begins_rel, begins_plain_rel, begins_rel_behind, begins_sign, begins_class}
use Rattle.round_trip.specs.spelled_forms.Spelling.{first_of, Any, Spelled}
use Rattle.round_trip.proofs.spelled_forms_lemmas.Makers.{pure, note, where_behind, then, ending, behind_none, there_next, other_next, one}
use Rattle.round_trip.proofs.spelled_forms_lemmas.Tokens.{key}
use Rattle.round_trip.specs.spelling.expr_spelling.Printable.{Judged, is_number, judged_expr, judged_operand, IsPrintableExpr}
use Rattle.round_trip.specs.spelling.expr_spelling.Spelled.{Ends, continues_expr, IsKnownAs, IsOperandSide, IsExprSide}
use Rattle.round_trip.proofs.spelling_lemmas.expr_spelling_lemmas.Places.{at_same, InnerSpells}
use Rattle.round_trip.proofs.spelling_lemmas.expr_spelling_lemmas.Exprs.{whole-none, number-free, expr_spelled}
use Rattle.round_trip.specs.spelling.cond_spelling.Printable.{is_plain, kinds_suit, are_comparable}
use Rattle.round_trip.specs.spelling.cond_spelling.Behind.{continues_part}
use Rattle.round_trip.proofs.spelling_lemmas.cond_spelling_lemmas.Tests.{part-ends}

-- ---- faults

value-none : (position : Position) (kind : ValueKind) → not (is_condition kind) ≡ true → value_fault_at position kind ≡ None
value-none position values.Condition e = absurd (both_ways false refl e)
value-none position kind e = refl

pub value-free : (judged : Judged) (side : Side) → IsKnownAs judged side → not (is_condition judged.kind) ≡ true → value_fault side ≡ None
unfolding value_fault
value-free judged side known e = value-none side.leaf side.kind (subst (λ k. not (is_condition k) ≡ true) (sym known.kind) e)

abbrev as_known : Judged → Side → Side
as_known judged side = record side { kind = judged.kind; make = judged.make }

same-known : (judged : Judged) (side : Side) → IsKnownAs judged side → side ≡ as_known judged side
same-known judged side known = ap (λ k. record side { kind = k }) known.kind ∙ ap (λ m. record side { kind = judged.kind; make = m }) known.make

inexact-none : (make : ExprContent) (kind : ValueKind) (position : Position) → is_plain make kind ≡ true → inexact_fault make kind position ≡ None
inexact-none makes.Joined kind position e = absurd (both_ways false refl e)
inexact-none makes.Item kind position e = whole-none position kind e
inexact-none makes.Literal kind position e = whole-none position kind e

kinds-none : (one other : ValueKind) (left right : Judged) (first second : Side) → kinds_suit one other left right ≡ true → kinds_fault one other (as_known left first) (as_known right second) ≡ None
kinds-none values.Text (values.Number whole) left right first second e = inexact-none right.make right.kind second.position e
kinds-none (values.Number whole) values.Text left right first second e = inexact-none left.make left.kind first.position e
kinds-none (values.Number whole) values.Figure left right first second e = absurd (both_ways false refl e)
kinds-none values.Figure (values.Number whole) left right first second e = absurd (both_ways false refl e)
kinds-none one other left right first second e = refl

makes-none : (ml mr : ExprContent) (kl kr : ValueKind) (bl br fl fr : Bool) (first second : Side) →
    are_comparable (record { fit = fl; kind = kl; make = ml; bare = bl }) (record { fit = fr; kind = kr; make = mr; bare = br }) ≡ true →
    relation_fault (record first { kind = kl; make = ml }) (record second { kind = kr; make = mr }) ≡ None
unfolding relation_fault
makes-none makes.Literal makes.Literal kl kr bl br fl fr first second e = absurd (both_ways false refl e)
makes-none ml mr kl kr bl br fl fr first second e =
    kinds-none (compared_as kl) (compared_as kr) (record { fit = fl; kind = kl; make = ml; bare = bl }) (record { fit = fr; kind = kr; make = mr; bare = br }) first second e

pub relation-free : (left right : Judged) (first second : Side) → IsKnownAs left first → IsKnownAs right second → are_comparable left right ≡ true → relation_fault first second ≡ None
relation-free left right first second l r e =
    ap (λ side. relation_fault side second) (same-known left first l) ∙ ap (λ side. relation_fault (as_known left first) side) (same-known right second r)
    ∙ makes-none left.make right.make left.kind right.kind left.bare right.bare left.fit right.fit first second e

-- ---- signs of relations

abbrev IsPlainRel : Rel → Type 0
IsPlainRel rels.NotEqual = ⊥
IsPlainRel _ = Unit {0}

sign_spelled : {n : ℕ} (negated : Bool) (kind : TokenKind) (rel : Rel) → part.is_key (codes "EQUAL") kind ≡ false → part.is_key (codes "GREATER") kind ≡ false → part.is_key (codes "LESS") kind ≡ false →
    rel_of kind ≡ Some rel → Spelled (relations.rel negated) n (kind ∷ []) Any (λ found. found ≡ relations.signed negated rel)
unfolding relations.rel relations.other_rel relations.sign_rel
sign_spelled negated kind rel equal greater less is =
    other_next (part.is_key (codes "EQUAL")) _ (λ o b. equal) (other_next (part.is_key (codes "GREATER")) _ (λ o b. greater) (other_next (part.is_key (codes "LESS")) _ (λ o b. less)
    (ending (one (λ position kind. rel_of kind) (λ position i. (rel, is, refl))) (λ r e. pure (ap (λ r. relations.signed negated r) e)))))

plain_rel : {n : ℕ} (rel : Rel) → IsPlainRel rel → Spelled (relations.rel false) n (rel_tokens rel) Any (λ found. found ≡ rel)
plain_rel rels.Equal h = sign_spelled false (kinds.Mark equal_sign) rels.Equal refl refl refl refl
plain_rel rels.NotEqual h = absurd h
plain_rel rels.Less h = sign_spelled false _ rels.Less refl refl refl refl
plain_rel rels.Greater h = sign_spelled false _ rels.Greater refl refl refl refl
plain_rel rels.LessEqual h = sign_spelled false kinds.LessEqual rels.LessEqual refl refl refl refl
plain_rel rels.GreaterEqual h = sign_spelled false kinds.GreaterEqual rels.GreaterEqual refl refl refl refl

plain-first : (rel : Rel) → IsPlainRel rel → (more : Tokens) (o : Option TokenKind) →
    (Ends (part.is_key (codes "IS")) (first_of (rel_tokens rel ++ more) o)) × (Ends (part.is_key (codes "NOT")) (first_of (rel_tokens rel ++ more) o))
    × (form.begins_by (begins_rel_behind false) (first_of (rel_tokens rel ++ more) o) ≡ true)
unfolding begins_rel_behind begins_rel
plain-first rels.Equal h more o = (refl, refl, refl)
plain-first rels.NotEqual h more o = absurd h
plain-first rels.Less h more o = (refl, refl, refl)
plain-first rels.Greater h more o = (refl, refl, refl)
plain-first rels.LessEqual h more o = (refl, refl, refl)
plain-first rels.GreaterEqual h more o = (refl, refl, refl)

-- what was read is a test
pub record IsTest (count : ℕ) (cond : Cond) (read : Read) : Type 0 where
  pub setting : Option Setting
  pub prim : read.prim ≡ prims.Test cond setting
  pub counted : read.count ≡ count
  pub pending_not : read.pending_not ≡ false

-- what was read is an expression without a test
pub record IsAlone (count : ℕ) (side : Side) (read : Read) : Type 0 where
  pub prim : read.prim ≡ prims.Alone side
  pub counted : read.count ≡ count
  pub pending_not : read.pending_not ≡ false

module _ (names : Names) (program : Program) where
  -- both sides are values, and may be compared
  pub record FitRelation (left right : Expr) : Type 0 where
    pub left_fit : IsPrintableExpr names program left
    pub left_value : not (is_condition (judged_expr names program left).kind) ≡ true
    pub right_fit : IsPrintableExpr names program right
    pub right_value : not (is_condition (judged_expr names program right).kind) ≡ true
    pub comparable : are_comparable (judged_expr names program left) (judged_expr names program right) ≡ true

  -- ---- no test

  untested : {n : ℕ} (shape : ExprForm) (side : Side) (count : ℕ) → Spelled (tests.class_or shape false (Some false) side count) n [] (Ends begins_class) (IsAlone count side)
  unfolding tests.class_or tests.untested
  untested shapes.Ref side count = other_next begins_class _ (λ o b. b) (pure (record { prim = refl; counted = refl; pending_not = refl }))
  untested shapes.Literal side count = pure (record { prim = refl; counted = refl; pending_not = refl })
  untested shapes.Enclosed side count = pure (record { prim = refl; counted = refl; pending_not = refl })
  untested shapes.Sum side count = pure (record { prim = refl; counted = refl; pending_not = refl })

  pub no_test : {n : ℕ} (inner : Inner) (side : Side) (before count : ℕ) → Spelled (tests.tested names inner side before count) n [] (Ends continues_part) (IsAlone count side)
  unfolding tests.tested tests.one_test
  no_test inner side before count =
      other_next (part.is_key (codes "IS")) _ (λ o b. (part-ends o b).no_is) (other_next (part.is_key (codes "NOT")) _ (λ o b. (part-ends o b).no_not)
      (other_next (begins_rel_behind false) _ (λ o b. (part-ends o b).no_rel) (other_next begins_sign _ (λ o b. (part-ends o b).no_sign)
      (where_behind (λ o b. (part-ends o b).no_class) (untested (shape_of side.what) side count)))))

  -- ---- classes and signs

  class-first : (class : ClassKind) → (begins_rel_behind false (kinds.Word (class_word class)) ≡ false) × (begins_plain_rel (kinds.Word (class_word class)) ≡ false)
      × (begins_sign (kinds.Word (class_word class)) ≡ false) × (begins_class (kinds.Word (class_word class)) ≡ true) × (class_of (kinds.Word (class_word class)) ≡ Some class)
      × (part.is_key (codes "IS") (kinds.Word (class_word class)) ≡ false) × (part.is_key (codes "NOT") (kinds.Word (class_word class)) ≡ false)
  unfolding begins_rel_behind begins_rel begins_plain_rel begins_sign begins_class
  class-first classes.Numeric = (refl, refl, refl, refl, refl, refl, refl)
  class-first classes.Alphabetic = (refl, refl, refl, refl, refl, refl, refl)

  sign-first : (sign : SignKind) → (begins_rel_behind false (kinds.Word (sign_word sign)) ≡ false) × (begins_plain_rel (kinds.Word (sign_word sign)) ≡ false)
      × (begins_sign (kinds.Word (sign_word sign)) ≡ true) × (sign_of (kinds.Word (sign_word sign)) ≡ Some sign)
      × (part.is_key (codes "IS") (kinds.Word (sign_word sign)) ≡ false) × (part.is_key (codes "NOT") (kinds.Word (sign_word sign)) ≡ false)
  unfolding begins_rel_behind begins_rel begins_plain_rel begins_sign
  sign-first signs.Positive = (refl, refl, refl, refl, refl, refl)
  sign-first signs.Negative = (refl, refl, refl, refl, refl, refl)
  sign-first signs.Zero = (refl, refl, refl, refl, refl, refl)

  class_test : {n : ℕ} (negated : Bool) (end : Option Bool) (place : Place) (class : ClassKind) (side : Side) (count : ℕ) → IsOperandSide names program (operands.Place place) side →
      not (is_condition (judged_operand names program (operands.Place place)).kind) ≡ true →
      Spelled (tests.class_or (shape_of side.what) negated end side count) n (kinds.Word (class_word class) ∷ []) Any (IsTest count (conds.Class place class negated))
  unfolding tests.class_or tests.class_test tests.class_of_ref
  class_test negated end place class side count h value =
      at_same (λ shape. tests.class_or shape negated end side count) (ap (λ what. shape_of what) h.what)
      (there_next begins_class _ (λ o b. (class-first class).3)
      (ending (one (λ position kind. class_of kind) (λ position i. (class, (class-first class).4, refl)))
      (λ found e. behind_none (note (value-free (judged_operand names program (operands.Place place)) side h.known value))
      (λ _ _. at_same (λ what. tests.class_of_ref negated found what count) h.what
      (pure (record { setting = None; prim = ap (λ class. prims.Test (conds.Class place class negated) None) e; counted = refl; pending_not = refl }))))))

  pub class_spelled : {n : ℕ} (inner : Inner) (place : Place) (class : ClassKind) (not_said : Bool) (side : Side) (before count : ℕ) → IsOperandSide names program (operands.Place place) side →
      not (is_condition (judged_operand names program (operands.Place place)).kind) ≡ true →
      Spelled (tests.tested names inner side before count) n (not_tokens not_said ++ kinds.Word (class_word class) ∷ []) Any (IsTest count (conds.Class place class not_said))
  unfolding tests.tested tests.not_test tests.one_test begins_rel_behind
  class_spelled inner place class false side before count h value =
      other_next (part.is_key (codes "IS")) _ (λ o b. (class-first class).5) (other_next (part.is_key (codes "NOT")) _ (λ o b. (class-first class).6)
      (other_next (begins_rel_behind false) _ (λ o b. (class-first class).0) (other_next begins_sign _ (λ o b. (class-first class).2) (class_test false (Some false) place class side count h value))))
  class_spelled inner place class true side before count h value =
      other_next (part.is_key (codes "IS")) _ (λ o b. refl) (there_next (part.is_key (codes "NOT")) _ (λ o b. refl)
      (then (key (codes "NOT")) (λ _ _. other_next (begins_rel_behind true) _ (λ o b. (class-first class).1) (other_next begins_sign _ (λ o b. (class-first class).2)
      (class_test true (Some true) place class side count h value)))))

  sign_test : {n : ℕ} (negated : Bool) (expr : Expr) (sign : SignKind) (side : Side) (count : ℕ) → IsExprSide names program expr side → is_number (judged_expr names program expr).kind ≡ true →
      Spelled (tests.sign_test negated side count) n (kinds.Word (sign_word sign) ∷ []) Any (IsTest count (conds.SignIs expr sign negated))
  unfolding tests.sign_test
  sign_test negated expr sign side count h number =
      ending (one (λ position kind. sign_of kind) (λ position i. (sign, (sign-first sign).3, refl)))
      (λ found e. behind_none (note (number-free (judged_expr names program expr) side h.known number))
      (λ _ _. pure (record {
        setting = None;
        prim = ap (λ sign. prims.Test (conds.SignIs (expr_of side.what) sign negated) None) e ∙ ap (λ e. prims.Test (conds.SignIs e sign negated) None) h.told;
        counted = refl;
        pending_not = refl;
      })))

  pub sign_is_spelled : {n : ℕ} (inner : Inner) (expr : Expr) (sign : SignKind) (not_said : Bool) (side : Side) (before count : ℕ) → IsExprSide names program expr side →
      is_number (judged_expr names program expr).kind ≡ true →
      Spelled (tests.tested names inner side before count) n (not_tokens not_said ++ kinds.Word (sign_word sign) ∷ []) Any (IsTest count (conds.SignIs expr sign not_said))
  unfolding tests.tested tests.not_test tests.one_test begins_rel_behind
  sign_is_spelled inner expr sign false side before count h number =
      other_next (part.is_key (codes "IS")) _ (λ o b. (sign-first sign).4) (other_next (part.is_key (codes "NOT")) _ (λ o b. (sign-first sign).5)
      (other_next (begins_rel_behind false) _ (λ o b. (sign-first sign).0) (there_next begins_sign _ (λ o b. (sign-first sign).2) (sign_test false expr sign side count h number))))
  sign_is_spelled inner expr sign true side before count h number =
      other_next (part.is_key (codes "IS")) _ (λ o b. refl) (there_next (part.is_key (codes "NOT")) _ (λ o b. refl)
      (then (key (codes "NOT")) (λ _ _. other_next (begins_rel_behind true) _ (λ o b. (sign-first sign).1) (there_next begins_sign _ (λ o b. (sign-first sign).2)
      (sign_test true expr sign side count h number)))))

  -- ---- relations

  module _ {inner : Inner} {levels : ℕ} (I : InnerSpells names program inner false levels) where
    relation : {n : ℕ} (negated : Bool) (left : Expr) (rel : Rel) (right : Expr) {tokens : Tokens} (side : Side) (before count : ℕ) →
        ((m : ℕ) → Spelled (relations.rel negated) m tokens Any (λ found. found ≡ rel)) → IsExprSide names program left side → FitRelation left right →
        expr_terms right ≤ levels → count + expr_terms right ≤ 500 →
        Spelled (tests.relation names inner negated side before count) n (tokens ++ expr_tokens program right false) (Ends continues_expr) (IsTest (count + expr_terms right) (conds.Relation left rel right))
    unfolding tests.relation
    relation negated left rel right side before count R h fit few room =
        then (R _) (λ sign e. ending (expr_spelled names program I count right fit.right_fit few room)
        (λ second k. behind_none (note (value-free (judged_expr names program left) side h.known fit.left_value))
        (λ _ _. behind_none (note (value-free (judged_expr names program right) second.0 k.side.known fit.right_value))
        (λ _ _. behind_none (note (relation-free (judged_expr names program left) (judged_expr names program right) side second.0 h.known k.side.known fit.comparable))
        (λ _ _. pure (record {
          setting = Some (tests.setting_of side sign (count - before));
          prim = ap (λ c. prims.Test c (Some (tests.setting_of side sign (count - before))))
              (ap (λ e. conds.Relation e sign (expr_of second.0.what)) h.told ∙ ap (λ s. conds.Relation left s (expr_of second.0.what)) e ∙ ap (λ e. conds.Relation left rel e) k.side.told);
          counted = k.counted;
          pending_not = refl;
        }))))))

    plain_relation : {n : ℕ} (left : Expr) (rel : Rel) (right : Expr) (side : Side) (before count : ℕ) → IsPlainRel rel → IsExprSide names program left side → FitRelation left right →
        expr_terms right ≤ levels → count + expr_terms right ≤ 500 →
        Spelled (tests.tested names inner side before count) n (rel_tokens rel ++ expr_tokens program right false) (Ends continues_expr) (IsTest (count + expr_terms right) (conds.Relation left rel right))
    unfolding tests.tested tests.one_test
    plain_relation left rel right side before count plain h fit few room =
        other_next (part.is_key (codes "IS")) _ (λ o b. (plain-first rel plain (expr_tokens program right false) o).0)
        (other_next (part.is_key (codes "NOT")) _ (λ o b. (plain-first rel plain (expr_tokens program right false) o).1)
        (there_next (begins_rel_behind false) _ (λ o b. (plain-first rel plain (expr_tokens program right false) o).2)
        (relation false left rel right side before count (λ m. plain_rel rel plain) h fit few room)))

    pub relation_spelled : {n : ℕ} (left : Expr) (rel : Rel) (right : Expr) (side : Side) (before count : ℕ) → IsExprSide names program left side → FitRelation left right →
        expr_terms right ≤ levels → count + expr_terms right ≤ 500 →
        Spelled (tests.tested names inner side before count) n (rel_tokens rel ++ expr_tokens program right false) (Ends continues_expr) (IsTest (count + expr_terms right) (conds.Relation left rel right))
    unfolding tests.tested tests.not_test tests.one_test begins_rel_behind begins_plain_rel
    relation_spelled left rels.Equal right side before count h fit few room = plain_relation left rels.Equal right side before count tt h fit few room
    relation_spelled left rels.NotEqual right side before count h fit few room =
        other_next (part.is_key (codes "IS")) _ (λ o b. refl) (there_next (part.is_key (codes "NOT")) _ (λ o b. refl)
        (then (key (codes "NOT")) (λ _ _. there_next (begins_rel_behind true) _ (λ o b. refl)
        (relation true left rels.NotEqual right side before count (λ m. sign_spelled true (kinds.Mark equal_sign) rels.Equal refl refl refl refl) h fit few room))))
    relation_spelled left rels.Less right side before count h fit few room = plain_relation left rels.Less right side before count tt h fit few room
    relation_spelled left rels.Greater right side before count h fit few room = plain_relation left rels.Greater right side before count tt h fit few room
    relation_spelled left rels.LessEqual right side before count h fit few room = plain_relation left rels.LessEqual right side before count tt h fit few room
    relation_spelled left rels.GreaterEqual right side before count h fit few room = plain_relation left rels.GreaterEqual right side before count tt h fit few room
