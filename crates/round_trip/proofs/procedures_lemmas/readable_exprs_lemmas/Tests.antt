-- What is told of relations and other tests, and of conditions that are made of them.
use Rattle.std.proofs.Common.{◌≡◌, ℕ, ◌+◌, ◌-◌, ◌≤◌, Bool, true, false, not, ◌&&◌, Option, Some, None, refl, ap, sym, ◌∙◌, subst, arith}
use Rattle.cob_tree.specs.declared.cond.ClassKind.{ClassKind}
use Rattle.cob_tree.specs.declared.cond.Cond.{Cond}
use Rattle.cob_tree.specs.declared.cond.Cond.TheVariants as conds
use Rattle.cob_tree.specs.declared.cond.Rel.{Rel}
use Rattle.cob_tree.specs.declared.cond.SignKind.{SignKind}
use Rattle.cob_tree.specs.declared.place.Expr.TheVariants as exprs
use Rattle.cob_tree.specs.declared.place.Operand.TheVariants as operands
use Rattle.cob_tree.specs.declared.place.Place.{Place}
use Rattle.cob_tree.specs.declared.program.Program.{Program}
use Rattle.parser_combinators.specs.declared.note.Position.{Position}
use Rattle.symbol_tables.specs.data_names.Names.{Names}
use Rattle.program_facts.specs.term_counts.Condition.{cond_terms}
use Rattle.program_facts.specs.term_counts.Expression.{expr_terms, place_terms}
use Rattle.cobol_grammar.specs.declared.expr_forms.side.ExprContent.{ExprContent}
use Rattle.cobol_grammar.specs.declared.expr_forms.side.ExprContent.TheVariants as makes
use Rattle.cobol_grammar.specs.declared.expr_forms.side.Side.{Side}
use Rattle.cobol_grammar.specs.declared.expr_forms.side.ValueKind.{ValueKind}
use Rattle.cobol_grammar.specs.declared.expr_forms.side.ValueKind.TheVariants as values
use Rattle.cobol_grammar.specs.declared.expr_forms.side.ParsedExpr.{ParsedExpr}
use Rattle.cobol_grammar.specs.declared.expr_forms.side.ParsedExpr.TheVariants as whats
use Rattle.cobol_grammar.specs.expr_forms.Fault.{is_condition, value_fault, condition_fault, relation_fault, inexact_fault, kinds_fault, makes_fault, compared_as}
use Rattle.cobol_grammar.specs.expr_forms.Side as sides
use Rattle.cobol_grammar.specs.expr_forms.Side.{expr_of}
use Rattle.cobol_grammar.specs.declared.cond_forms.part.Joined.{Joined}
use Rattle.cobol_grammar.specs.declared.cond_forms.part.SimpleCond.{SimpleCond}
use Rattle.cobol_grammar.specs.declared.cond_forms.test.Primary.{Primary}
use Rattle.cobol_grammar.specs.declared.cond_forms.test.Primary.TheVariants as prims
use Rattle.cobol_grammar.specs.declared.cond_forms.test.Read.{Read}
use Rattle.cobol_grammar.specs.declared.cond_forms.test.Setting.{Setting}
use Rattle.cobol_grammar.specs.cond_forms.Test.{relation_of, setting_of}
use Rattle.cobol_grammar.specs.cond_forms.Alone.{with_not, part_of}
use Rattle.cobol_grammar.specs.cond_forms.Condition.{whole_of}
use Rattle.program_facts.proofs.well_scoped_lemmas.Made.{both}
use Rattle.round_trip.specs.spelling.expr_spelling.Printable.{Judged, is_number, judged_expr, judged_place}
use Rattle.round_trip.specs.spelling.expr_spelling.Spelled.{IsKnownAs}
use Rattle.round_trip.proofs.spelling_lemmas.expr_spelling_lemmas.Layers.{judged-Leaf, judged-Place, terms-Leaf, terms-Place}
use Rattle.round_trip.specs.spelling.cond_spelling.Printable.{is_plain, kinds_suit, makes_suit, are_comparable, cond_fit}
use Rattle.round_trip.proofs.spelling_lemmas.cond_spelling_lemmas.Layers.{fit-Relation, fit-Class, fit-SignIs, fit-Named, fit-Not, fit-And, fit-Or, terms-Relation, terms-Class, terms-SignIs, terms-Named, terms-Not, terms-And, terms-Or}
use Rattle.round_trip.proofs.procedures_lemmas.readable_exprs_lemmas.Words.{is_there}
use Rattle.round_trip.proofs.procedures_lemmas.readable_exprs_lemmas.Known.{IsKnown, whole-of, value-of, condition-of}
use Rattle.round_trip.proofs.procedures_lemmas.readable_exprs_lemmas.Told.{Told}

-- ---- what may be compared

plain-of : (make : ExprContent) (kind : ValueKind) (position : Position) → is_there kind ≡ true → inexact_fault make kind position ≡ None → is_plain make kind ≡ true
plain-of makes.Joined kind position t n = absurd cc
plain-of makes.Item kind position t n = whole-of position kind n t
plain-of makes.Literal kind position t n = whole-of position kind n t

kinds-of : (one other : ValueKind) (left right : Judged) (first second : Side) → IsKnownAs left first → IsKnownAs right second → is_there first.kind ≡ true → is_there second.kind ≡ true →
    kinds_fault one other first second ≡ None → kinds_suit one other left right ≡ true
kinds-of values.Text (values.Number whole) left right first second l r t u n =
    subst (λ m. is_plain m right.kind ≡ true) r.make (subst (λ k. is_plain second.make k ≡ true) r.kind (plain-of second.make second.kind second.position u n))
kinds-of (values.Number whole) values.Text left right first second l r t u n =
    subst (λ m. is_plain m left.kind ≡ true) l.make (subst (λ k. is_plain first.make k ≡ true) l.kind (plain-of first.make first.kind first.position t n))
kinds-of (values.Number whole) values.Figure left right first second l r t u n = absurd cc
kinds-of values.Figure (values.Number whole) left right first second l r t u n = absurd cc
kinds-of one other left right first second l r t u n = refl

makes-of : (one other : ExprContent) (left right : Judged) (first second : Side) → IsKnownAs left first → IsKnownAs right second → is_there first.kind ≡ true → is_there second.kind ≡ true →
    makes_fault one other first second ≡ None → makes_suit one other left right ≡ true
makes-of makes.Literal makes.Literal left right first second l r t u n = absurd cc
makes-of one other left right first second l r t u n =
    subst (λ k. kinds_suit (compared_as k) (compared_as right.kind) left right ≡ true) l.kind
    (subst (λ k. kinds_suit (compared_as first.kind) (compared_as k) left right ≡ true) r.kind
    (kinds-of (compared_as first.kind) (compared_as second.kind) left right first second l r t u n))

pub comparable-of : (left right : Judged) (first second : Side) → IsKnownAs left first → IsKnownAs right second → is_there first.kind ≡ true → is_there second.kind ≡ true →
    relation_fault first second ≡ None → are_comparable left right ≡ true
unfolding relation_fault
comparable-of left right first second l r t u n =
    subst (λ m. makes_suit m right.make left right ≡ true) l.make
    (subst (λ m. makes_suit first.make m left right ≡ true) r.make
    (makes-of first.make second.make left right first second l r t u n))

pub value-known : (side : Side) → value_fault side ≡ None → not (is_condition side.kind) ≡ true
unfolding value_fault
value-known side n = value-of side.leaf side.kind n

pub condition-known : (side : Side) → is_there side.kind ≡ true → condition_fault side ≡ None → is_condition side.kind ≡ true
unfolding condition_fault
condition-known side t n = condition-of side.leaf side.kind n t

module _ (names : Names) (program : Program) where
  -- ---- what is told of conditions as they are read

  -- a condition, behind so many terms, and how many there are up to its end
  pub record CondTold (before : ℕ) (cond : Cond) (after : ℕ) : Type 0 where
    pub fit : cond_fit names program cond ≡ true
    pub counted : after ≡ before + cond_terms cond
    pub few : before ≤ 500 → after ≤ 500

  -- the left side of a relation, for abbreviations behind it
  pub record SettingTold (setting : Setting) : Type 0 where
    pub known : IsKnown names program setting.left
    pub value : not (is_condition setting.left.kind) ≡ true
    pub terms : setting.terms ≡ expr_terms (expr_of setting.left.what)

  abbrev pub SetTold : Option Setting → Type 0
  SetTold None = Unit {0}
  SetTold (Some setting) = SettingTold setting

  abbrev pub PartTold : ℕ → SimpleCond → Type 0
  PartTold before part = CondTold before part.cond part.count × SetTold part.setting

  abbrev pub PrimTold : ℕ → Primary → ℕ → Type 0
  PrimTold before (prims.Test cond setting) after = CondTold before cond after × SetTold setting
  PrimTold before (prims.Alone side) after = Told names program before side after

  abbrev pub ReadTold : ℕ → Read → Type 0
  ReadTold before read = PrimTold before read.prim read.count

  abbrev pub before_fit : Option Cond → Bool
  before_fit None = true
  before_fit (Some cond) = cond_fit names program cond

  abbrev pub before_terms : Option Cond → ℕ
  before_terms None = 0
  before_terms (Some cond) = cond_terms cond

  -- what stands before the last part, and the last part
  pub record LeftTold (start : ℕ) (before : Option Cond) (left : Cond) (setting : Option Setting) (count : ℕ) : Type 0 where
    pub before_is : before_fit before ≡ true
    pub left_is : cond_fit names program left ≡ true
    pub set : SetTold setting
    pub counted : count ≡ start + (before_terms before + cond_terms left)
    pub few : start ≤ 500 → count ≤ 500

  abbrev pub JoinedTold : ℕ → Joined → Type 0
  JoinedTold start state = LeftTold start state.before state.part.cond state.part.setting state.part.count

  -- ---- relations

  value-fit : (side : Side) → IsKnown names program side → not (is_condition side.kind) ≡ true →
      ((judged_expr names program (expr_of side.what)).fit && not (is_condition (judged_expr names program (expr_of side.what)).kind)) ≡ true
  value-fit side h v = both h.fit (subst (λ k. not (is_condition k) ≡ true) h.is.known.kind v)

  pub relation-fit : (left : Side) (rel : Rel) (right : Side) → IsKnown names program left → IsKnown names program right → not (is_condition left.kind) ≡ true → not (is_condition right.kind) ≡ true →
      relation_fault left right ≡ None → cond_fit names program (relation_of left rel right) ≡ true
  relation-fit left rel right l r v w n =
      fit-Relation names program (expr_of left.what) rel (expr_of right.what)
      ∙ both (both (value-fit left l v) (value-fit right r w))
      (comparable-of (judged_expr names program (expr_of left.what)) (judged_expr names program (expr_of right.what)) left right l.is.known r.is.known l.there r.there n)

  -- a whole relation, whose left side was counted before
  pub relation-told : (before count : ℕ) (left : Side) (rel : Rel) (right : Side) (after : ℕ) → Told names program before left count → Told names program count right after →
      value_fault left ≡ None → value_fault right ≡ None → relation_fault left right ≡ None →
      CondTold before (relation_of left rel right) after × SettingTold (setting_of left rel (count - before))
  relation-told before count left rel right after l r v w n =
      let a = l.counted in
      let b = r.counted in
      let t = terms-Relation (expr_of left.what) rel (expr_of right.what) in (
        record {
          fit = relation-fit left rel right l.known r.known (value-known left v) (value-known right w) n;
          counted = omega (arith, a, b, t);
          few = λ few. r.few (l.few few);
        },
        record {
          known = l.known;
          value = value-known left v;
          terms = omega (arith, a);
        },
      )

  -- an abbreviated one, whose left side is counted where it is left out
  pub carried-told : (before count after : ℕ) (setting : Setting) (rel : Rel) (right : Side) → SettingTold setting → IsKnown names program right →
      value_fault right ≡ None → relation_fault setting.left right ≡ None → after ≡ before + (setting.terms + expr_terms (expr_of right.what)) → after ≤ 500 →
      CondTold before (relation_of setting.left rel right) after
  carried-told before count after setting rel right s r w n e few =
      let t = terms-Relation (expr_of setting.left.what) rel (expr_of right.what) in
      let terms = s.terms in
      record {
        fit = relation-fit setting.left rel right s.known r s.value (value-known right w) n;
        counted = omega (arith, e, t, terms);
        few = λ _. few;
      }

  -- ---- tests of one side

  pub sign-told : (before : ℕ) (left : Side) (sign : SignKind) (negated : Bool) (count : ℕ) → Told names program before left count → is_number left.kind ≡ true →
      CondTold before (conds.SignIs (expr_of left.what) sign negated) count
  sign-told before left sign negated count h n = record {
    fit = fit-SignIs names program (expr_of left.what) sign negated ∙ both h.known.fit (subst (λ k. is_number k ≡ true) h.known.is.known.kind n);
    counted = h.counted ∙ ap (λ m. before + m) (sym (terms-SignIs (expr_of left.what) sign negated));
    few = h.few;
  }

  -- a reference alone
  pub record RefTold (before : ℕ) (place : Place) (kind : ValueKind) (after : ℕ) : Type 0 where
    pub fit : (judged_place names program place).fit ≡ true
    pub kind_is : kind ≡ (judged_place names program place).kind
    pub counted : after ≡ before + (1 + place_terms place)
    pub few : before ≤ 500 → after ≤ 500

  pub ref-told : (before : ℕ) (place : Place) (side : Side) (after : ℕ) → expr_of side.what ≡ exprs.Leaf (operands.Place place) → Told names program before side after →
      RefTold before place side.kind after
  ref-told before place side after e h =
      let judged = ap (λ x. judged_expr names program x) e ∙ judged-Leaf names program (operands.Place place) ∙ judged-Place names program place in
      record {
        fit = sym (ap (λ j. j.fit) judged) ∙ h.known.fit;
        kind_is = h.known.is.known.kind ∙ ap (λ j. j.kind) judged;
        counted = h.counted ∙ ap (λ m. before + m) (ap (λ x. expr_terms x) e ∙ terms-Leaf (operands.Place place) ∙ ap (λ m. 1 + m) (terms-Place place));
        few = h.few;
      }

  pub class-told : (before : ℕ) (place : Place) (kind : ValueKind) (class : ClassKind) (negated : Bool) (count : ℕ) → RefTold before place kind count → not (is_condition kind) ≡ true →
      CondTold before (conds.Class place class negated) count
  class-told before place kind class negated count h v = record {
    fit = fit-Class names program place class negated ∙ both h.fit (subst (λ k. not (is_condition k) ≡ true) h.kind_is v);
    counted = h.counted ∙ ap (λ m. before + m) (sym (terms-Class place class negated));
    few = h.few;
  }

  pub named-told : (before : ℕ) (place : Place) (kind : ValueKind) (count : ℕ) → RefTold before place kind count → is_condition kind ≡ true → CondTold before (conds.Named place) count
  named-told before place kind count h v = record {
    fit = fit-Named names program place ∙ both h.fit (subst (λ k. is_condition k ≡ true) h.kind_is v);
    counted = h.counted ∙ ap (λ m. before + m) (sym (terms-Named place));
    few = h.few;
  }

  -- ---- NOT, AND and OR

  -- a NOT is counted where it stands
  abbrev pub behind_not : Bool → ℕ → ℕ
  behind_not true before = before + 1
  behind_not false before = before

  pub not-told : (negated : Bool) (before : ℕ) (cond : Cond) (after : ℕ) → (before ≤ 500 → behind_not negated before ≤ 500) → CondTold (behind_not negated before) cond after →
      CondTold before (with_not negated cond) after
  not-told true before cond after some h =
      let c = h.counted in
      let t = terms-Not cond in
      record { fit = fit-Not names program cond ∙ h.fit; counted = omega (arith, c, t); few = λ few. h.few (some few) }
  not-told false before cond after some h = h

  pub first-told : (start : ℕ) (part : SimpleCond) → PartTold start part → JoinedTold start (record { before = None; part = part })
  first-told start part h = record {
    before_is = refl;
    left_is = h.0.fit;
    set = h.1;
    counted = let c = h.0.counted in omega (arith, c);
    few = h.0.few;
  }

  pub and-told : (start : ℕ) (before : Option Cond) (left : Cond) (setting : Option Setting) (count : ℕ) (next : SimpleCond) → LeftTold start before left setting count → PartTold count next →
      LeftTold start before (conds.And left next.cond) next.setting next.count
  and-told start before left setting count next h n =
      let a = h.counted in
      let b = n.0.counted in
      let t = terms-And left next.cond in
      record {
        before_is = h.before_is;
        left_is = fit-And names program left next.cond ∙ both h.left_is n.0.fit;
        set = n.1;
        counted = omega (arith, a, b, t);
        few = λ few. n.0.few (h.few few);
      }

  pub whole-fit : (before : Option Cond) (cond : Cond) → before_fit before ≡ true → cond_fit names program cond ≡ true → cond_fit names program (whole_of before cond) ≡ true
  whole-fit None cond b c = c
  whole-fit (Some before) cond b c = fit-Or names program before cond ∙ both b c

  whole-terms : (before : Option Cond) (cond : Cond) → cond_terms (whole_of before cond) ≡ before_terms before + cond_terms cond
  whole-terms None cond = omega arith
  whole-terms (Some before) cond = terms-Or before cond

  pub or-told : (start : ℕ) (before : Option Cond) (left : Cond) (setting : Option Setting) (count : ℕ) (next : SimpleCond) → LeftTold start before left setting count → PartTold count next →
      LeftTold start (Some (whole_of before left)) next.cond next.setting next.count
  or-told start before left setting count next h n =
      let a = h.counted in
      let b = n.0.counted in
      let t = whole-terms before left in
      record {
        before_is = whole-fit before left h.before_is h.left_is;
        left_is = n.0.fit;
        set = n.1;
        counted = omega (arith, a, b, t);
        few = λ few. n.0.few (h.few few);
      }

  pub whole-told : (start : ℕ) (state : Joined) → JoinedTold start state → PartTold start (part_of (whole_of state.before state.part.cond) state.part.setting state.part.count state.part.pending_not)
  whole-told start state h = (
    record {
      fit = whole-fit state.before state.part.cond h.before_is h.left_is;
      counted = h.counted ∙ ap (λ m. start + m) (sym (whole-terms state.before state.part.cond));
      few = h.few;
    },
    h.set,
  )

  -- in parentheses
  enclosed-expr : (what : ParsedExpr) → expr_of (sides.enclosed_what what) ≡ expr_of what
  enclosed-expr (whats.Ref place) = refl
  enclosed-expr (whats.Enclosed place) = refl
  enclosed-expr (whats.Literal operand) = refl
  enclosed-expr (whats.Sum expr) = refl

  pub enclosed-told : (position : Position) (before : ℕ) (side : Side) (after : ℕ) → Told names program before side after → Told names program before (sides.enclosed position side) after
  unfolding sides.enclosed
  enclosed-told position before side after h =
      let e = sym (enclosed-expr side.what) in
      record {
        known = record {
          fit = subst (λ x. (judged_expr names program x).fit ≡ true) e h.known.fit;
          is = record {
            told = refl;
            known = record {
              kind = subst (λ x. side.kind ≡ (judged_expr names program x).kind) e h.known.is.known.kind;
              make = subst (λ x. side.make ≡ (judged_expr names program x).make) e h.known.is.known.make;
            };
          };
          there = h.known.there;
        };
        counted = subst (λ x. after ≡ before + expr_terms x) e h.counted;
        few = h.few;
      }
