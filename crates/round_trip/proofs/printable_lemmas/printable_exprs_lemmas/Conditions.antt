-- What conditions give.
use Rattle.std.proofs.Common.{◌≡◌, ℕ, zero, suc, Bool, true, false, Option, Some, None, refl}
use Rattle.std.specs.Prelude.{codes}
use Rattle.cob_base.specs.Bytes.{left_parenthesis, right_parenthesis}
use Rattle.cob_tree.specs.declared.cond.ClassKind.{ClassKind}
use Rattle.cob_tree.specs.declared.cond.Cond.{Cond}
use Rattle.cob_tree.specs.declared.cond.Rel.{Rel}
use Rattle.parser_combinators.specs.declared.note.Position.{Position}
use Rattle.parser_combinators.specs.Form.{Form}
use Rattle.parser_combinators.proofs.MakerLaws as laws
use Rattle.symbol_tables.specs.data_names.Names.{Names}
use Rattle.cobol_grammar.specs.declared.expr_forms.side.ExprForm.{ExprForm}
use Rattle.cobol_grammar.specs.declared.expr_forms.side.ExprForm.TheVariants as shapes
use Rattle.cobol_grammar.specs.declared.expr_forms.side.Side.{Side}
use Rattle.cobol_grammar.specs.declared.expr_forms.side.ParsedExpr.{ParsedExpr}
use Rattle.cobol_grammar.specs.declared.expr_forms.side.ParsedExpr.TheVariants as whats
use Rattle.cobol_grammar.specs.expr_forms.Fault as faults
use Rattle.cobol_grammar.specs.expr_forms.Side as sides
use Rattle.cobol_grammar.specs.expr_forms.Side.{expr_of}
use Rattle.cob_base.specs.Limit.{max_parens}
use Rattle.cobol_grammar.specs.expr_forms.Limit.{Inner}
use Rattle.cobol_grammar.specs.declared.cond_forms.part.Joined.{Joined}
use Rattle.cobol_grammar.specs.declared.cond_forms.part.SimpleCond.{SimpleCond}
use Rattle.cobol_grammar.specs.declared.cond_forms.test.Primary.{Primary}
use Rattle.cobol_grammar.specs.declared.cond_forms.test.Primary.TheVariants as prims
use Rattle.cobol_grammar.specs.declared.cond_forms.test.Read.{Read}
use Rattle.cobol_grammar.specs.declared.cond_forms.test.Setting.{Setting}
use Rattle.cobol_grammar.specs.cond_forms.Token as tokens
use Rattle.cobol_grammar.specs.cond_forms.Test as tests
use Rattle.cobol_grammar.specs.cond_forms.Test.{relation_of}
use Rattle.cobol_grammar.specs.cond_forms.Primary as primaries
use Rattle.cobol_grammar.specs.cond_forms.Alone as alones
use Rattle.cobol_grammar.specs.cond_forms.Neg as negs
use Rattle.cobol_grammar.specs.cond_forms.Condition as conditions
use Rattle.cobol_grammar.proofs.cond_forms_lemmas.ConditionLaws as law
use Rattle.program_facts.specs.well_scoped.Part.{if_any}
use Rattle.grammar_laws.specs.form_results.Giving.{Gives}
use Rattle.grammar_laws.proofs.form_results_lemmas.Giving.{any, hence, still, pure, refuse, note, key, mark, too_deep, chosen, where_next, loop, ◌>>=◌, ◌>>◌}
use Rattle.round_trip.specs.printable.printable_tokens.Printable.{IsPrintable}
use Rattle.round_trip.specs.printable.Beside.{is_printable_cond}
use Rattle.round_trip.proofs.printable_lemmas.Made.{made-Relation, made-Class, made-SignIs, made-Named, made-Not, made-And, made-Or}
use Rattle.round_trip.specs.printable.printable_exprs.Sides.{is_printable_what}
use Rattle.round_trip.proofs.printable_lemmas.printable_exprs_lemmas.Expressions as exprs
use Rattle.round_trip.proofs.printable_lemmas.printable_exprs_lemmas.Expressions.{Fine, InnerGives, expr-fine, tally}

-- ---- what is known of what is read

abbrev SetFine : Option Setting → Type 0
SetFine None = Unit {0}
SetFine (Some setting) = Fine setting.left

abbrev PartFine : SimpleCond → Type 0
PartFine part = (is_printable_cond part.cond ≡ true) × SetFine part.setting

abbrev PrimFine : Primary → Type 0
PrimFine (prims.Test cond setting) = (is_printable_cond cond ≡ true) × SetFine setting
PrimFine (prims.Alone side) = Fine side

abbrev pub ReadFine : Read → Type 0
ReadFine read = PrimFine read.prim

abbrev JoinedFine : Joined → Type 0
JoinedFine state = (if_any (is_printable_cond) state.before ≡ true) × PartFine state.part

relation-made : (left : Side) (rel : Rel) (right : Side) → Fine left → Fine right → is_printable_cond (relation_of left rel right) ≡ true
relation-made left rel right l r = made-Relation (expr_of left.what) rel (expr_of right.what) (expr-fine left.what l) (expr-fine right.what r)

not-made : (negated : Bool) (cond : Cond) → is_printable_cond cond ≡ true → is_printable_cond (alones.with_not negated cond) ≡ true
not-made true cond h = made-Not cond h
not-made false cond h = h

whole-made : (before : Option Cond) (cond : Cond) → if_any (is_printable_cond) before ≡ true → is_printable_cond cond ≡ true → is_printable_cond (conditions.whole_of before cond) ≡ true
whole-made None cond b c = c
whole-made (Some before) cond b c = made-Or before cond b c

enclosed-fine : (what : ParsedExpr) → is_printable_what what ≡ true → is_printable_what (sides.enclosed_what what) ≡ true
enclosed-fine (whats.Ref place) h = h
enclosed-fine (whats.Enclosed place) h = h
enclosed-fine (whats.Literal operand) h = exprs.leaf-fine operand h
enclosed-fine (whats.Sum expr) h = h

-- ---- tests of one side

sign_test : (negated : Bool) (left : Side) (count : ℕ) → Gives IsPrintable (tests.sign_test negated left count) (λ read. Fine left → ReadFine read)
unfolding tests.sign_test
sign_test negated left count =
    any (laws.one (λ position kind. tokens.sign_of kind)) >>= (λ sign. note >> pure (λ _ _ l. (made-SignIs (expr_of left.what) sign negated (expr-fine left.what l), tt)))

class_of_ref : (negated : Bool) (class : ClassKind) (what : ParsedExpr) (count : ℕ) → Gives IsPrintable (tests.class_of_ref negated class what count) (λ read. is_printable_what what ≡ true → ReadFine read)
unfolding tests.class_of_ref
class_of_ref negated class (whats.Ref place) count = pure (λ p. (made-Class place class negated p, tt))
class_of_ref negated class (whats.Literal operand) count = refuse
class_of_ref negated class (whats.Enclosed place) count = refuse
class_of_ref negated class (whats.Sum expr) count = refuse

class_test : (negated : Bool) (left : Side) (count : ℕ) → Gives IsPrintable (tests.class_test negated left count) (λ read. Fine left → ReadFine read)
unfolding tests.class_test
class_test negated left count =
    any (laws.one (λ position kind. tokens.class_of kind)) >>= (λ class. note >> still (still (class_of_ref negated class left.what count)))

untested : (end : Option Bool) (left : Side) (count : ℕ) → Gives IsPrintable (tests.untested end left count) (λ read. Fine left → ReadFine read)
unfolding tests.untested
untested None left count = refuse
untested (Some pending_not) left count = pure (λ l. l)

class_or : (shape : ExprForm) (negated : Bool) (end : Option Bool) (left : Side) (count : ℕ) → Gives IsPrintable (tests.class_or shape negated end left count) (λ read. Fine left → ReadFine read)
unfolding tests.class_or
class_or shapes.Ref negated end left count = where_next (class_test negated left count) (untested end left count)
class_or shapes.Literal negated end left count = untested end left count
class_or shapes.Enclosed negated end left count = untested end left count
class_or shapes.Sum negated end left count = untested end left count

-- ---- an expression without test

carried : (setting : Setting) (right : Side) (count : ℕ) (pending_not : Bool) → Gives IsPrintable (alones.carried setting right count pending_not) (λ part. Fine right → Fine setting.left → PartFine part)
unfolding alones.carried
carried setting right count pending_not = do
  more ← tally count setting.terms
  note
  note
  pure (λ _ _ _ r s. (relation-made setting.left setting.rel right s r, s))

named_by : (negated : Bool) (what : ParsedExpr) (count : ℕ) (pending_not : Bool) → Gives IsPrintable (alones.named_by negated what count pending_not) (λ part. is_printable_what what ≡ true → PartFine part)
unfolding alones.named_by
named_by negated (whats.Ref place) count pending_not = pure (λ p. (not-made negated _ (made-Named place p), tt))
named_by negated (whats.Enclosed place) count pending_not = pure (λ p. (not-made negated _ (made-Named place p), tt))
named_by negated (whats.Literal operand) count pending_not = refuse
named_by negated (whats.Sum expr) count pending_not = refuse

named : (negated : Bool) (side : Side) (count : ℕ) (pending_not : Bool) → Gives IsPrintable (alones.named negated side count pending_not) (λ part. Fine side → PartFine part)
unfolding alones.named
named negated side count pending_not = note >> still (named_by negated side.what count pending_not)

kept : (setting : Setting) (what : ParsedExpr) (count : ℕ) (pending_not : Bool) → Gives IsPrintable (alones.kept setting what count pending_not) (λ part. is_printable_what what ≡ true → Fine setting.left → PartFine part)
unfolding alones.kept
kept setting (whats.Ref place) count pending_not = pure (λ p s. (made-Named place p, s))
kept setting (whats.Enclosed place) count pending_not = refuse
kept setting (whats.Literal operand) count pending_not = refuse
kept setting (whats.Sum expr) count pending_not = refuse

ref_part : (negated : Bool) (setting : Option Setting) (side : Side) (count : ℕ) (pending_not : Bool) →
    Gives IsPrintable (alones.ref_part negated setting side count pending_not) (λ part. Fine side → SetFine setting → PartFine part)
unfolding alones.ref_part
ref_part false (Some setting) side count pending_not = chosen (faults.is_condition side.kind) (kept setting side.what count pending_not) (carried setting side count pending_not)
ref_part false None side count pending_not = hence (λ part h s _. h s) (named false side count pending_not)
ref_part true setting side count pending_not = hence (λ part h s _. h s) (named true side count pending_not)

literal_part : (negated : Bool) (setting : Option Setting) (side : Side) (count : ℕ) (pending_not : Bool) →
    Gives IsPrintable (alones.literal_part negated setting side count pending_not) (λ part. Fine side → SetFine setting → PartFine part)
unfolding alones.literal_part
literal_part false (Some setting) side count pending_not = carried setting side count pending_not
literal_part false None side count pending_not = refuse
literal_part true setting side count pending_not = refuse

part_by_shape : (shape : ExprForm) (negated : Bool) (setting : Option Setting) (side : Side) (count : ℕ) (pending_not : Bool) →
    Gives IsPrintable (alones.part_by_shape shape negated setting side count pending_not) (λ part. Fine side → SetFine setting → PartFine part)
unfolding alones.part_by_shape
part_by_shape shapes.Ref negated setting side count pending_not = ref_part negated setting side count pending_not
part_by_shape shapes.Literal negated setting side count pending_not = literal_part negated setting side count pending_not
part_by_shape shapes.Enclosed negated setting side count pending_not = hence (λ part h s _. h s) (named negated side count pending_not)
part_by_shape shapes.Sum negated setting side count pending_not = refuse

alone_part : (negated : Bool) (setting : Option Setting) (side : Side) (count : ℕ) (pending_not : Bool) →
    Gives IsPrintable (alones.alone_part negated setting side count pending_not) (λ part. Fine side → SetFine setting → PartFine part)
unfolding alones.alone_part
alone_part negated setting side count pending_not = part_by_shape (sides.shape_of side.what) negated setting side count pending_not

part_by : (negated : Bool) (setting : Option Setting) (prim : Primary) (count : ℕ) (pending_not : Bool) →
    Gives IsPrintable (alones.part_by negated setting prim count pending_not) (λ part. PrimFine prim → SetFine setting → PartFine part)
unfolding alones.part_by
part_by negated setting (prims.Test cond after) count pending_not = pure (λ p _. (not-made negated cond p.0, p.1))
part_by negated setting (prims.Alone side) count pending_not = alone_part negated setting side count pending_not

close_cond : (part : SimpleCond) → Gives IsPrintable (conditions.close_cond part) (λ read. PartFine part → ReadFine read)
unfolding conditions.close_cond
close_cond part = chosen part.pending_not refuse (mark right_parenthesis >> pure (λ _ p. (p.0, tt)))

close_side : (position : Position) (side : Side) (count : ℕ) → Gives IsPrintable (conditions.close_side position side count) (λ read. Fine side → ReadFine read)
unfolding conditions.close_side sides.enclosed
close_side position side count = mark right_parenthesis >> pure (λ _ s. enclosed-fine side.what s)

module _ (names : Names) where
  module _ {inner : Inner} (I : InnerGives inner) where
    -- ---- tests

    relation : (negated : Bool) (left : Side) (before count : ℕ) → Gives IsPrintable (tests.relation names inner negated left before count) (λ read. Fine left → ReadFine read)
    unfolding tests.relation
    relation negated left before count = do
      sign ← any (law.rel negated)
      right ← exprs.expr names I count
      note
      note
      note
      pure (λ _ _ _ r _ l. (relation-made left sign right.0 l r, l))

    one_test : (negated : Bool) (end : Option Bool) (left : Side) (before count : ℕ) → Gives IsPrintable (tests.one_test names inner negated end left before count) (λ read. Fine left → ReadFine read)
    unfolding tests.one_test
    one_test negated end left before count =
        where_next (relation negated left before count) (where_next (sign_test negated left count) (class_or (sides.shape_of left.what) negated end left count))

    not_test : (end : Option Bool) (left : Side) (before count : ℕ) → Gives IsPrintable (tests.not_test names inner end left before count) (λ read. Fine left → ReadFine read)
    unfolding tests.not_test
    not_test end left before count = key (codes "NOT") >> still (one_test true end left before count)

    behind_is : (left : Side) (before count : ℕ) → Gives IsPrintable (tests.behind_is names inner left before count) (λ read. Fine left → ReadFine read)
    unfolding tests.behind_is
    behind_is left before count = key (codes "IS") >> still (where_next (not_test None left before count) (one_test false None left before count))

    tested : (left : Side) (before count : ℕ) → Gives IsPrintable (tests.tested names inner left before count) (λ read. Fine left → ReadFine read)
    unfolding tests.tested
    tested left before count = where_next (behind_is left before count) (where_next (not_test (Some true) left before count) (one_test false (Some false) left before count))

    -- ---- prim

    side_prim : (before : ℕ) (side : Side) (count : ℕ) → Gives IsPrintable (primaries.side_prim names inner before side count) (λ read. Fine side → ReadFine read)
    unfolding primaries.side_prim
    side_prim before side count = exprs.sum names I side count >>= (λ left. hence (λ read h s n. h (s n)) (tested left.0 before left.1))

    prim_behind : (before : ℕ) (prim : Primary) (count : ℕ) → Gives IsPrintable (primaries.prim_behind names inner before prim count) (λ read. PrimFine prim → ReadFine read)
    unfolding primaries.prim_behind
    prim_behind before (prims.Test cond setting) count = pure (λ p. (p.0, tt))
    prim_behind before (prims.Alone side) count = side_prim before side count

    expr_prim : (count : ℕ) → Gives IsPrintable (primaries.expr_prim names inner count) ReadFine
    unfolding primaries.expr_prim
    expr_prim count = exprs.unary names I count >>= (λ first. side_prim count first.0 first.1)

    abbreviated_by : (negated : Bool) (setting : Setting) (count : ℕ) → Gives IsPrintable (negs.abbreviated_by names inner negated setting count) (λ part. Fine setting.left → PartFine part)
    unfolding negs.abbreviated_by
    abbreviated_by negated setting count = do
      more ← tally count setting.terms
      sign ← any (law.rel negated)
      right ← exprs.operand names I more
      note
      note
      pure (λ _ _ r _ _ s. (relation-made setting.left sign right.0 s r, s))

    abbreviated : (negated : Bool) (setting : Option Setting) (count : ℕ) → Gives IsPrintable (negs.abbreviated names inner negated setting count) (λ part. SetFine setting → PartFine part)
    unfolding negs.abbreviated
    abbreviated negated None count = refuse
    abbreviated negated (Some setting) count = abbreviated_by negated setting count

    module _ {content : ℕ → Form Read} (C : (count : ℕ) → Gives IsPrintable (content count) ReadFine) where
      parens_prim : (count : ℕ) → Gives IsPrintable (primaries.parens_prim names inner content count) ReadFine
      unfolding primaries.parens_prim
      parens_prim count = C count >>= (λ read. prim_behind count read.prim read.count)

      prim : (count : ℕ) → Gives IsPrintable (primaries.prim names inner content count) ReadFine
      unfolding primaries.prim
      prim count = where_next (parens_prim count) (expr_prim count)

      -- ---- neg

      prim_part : (negated : Bool) (setting : Option Setting) (count : ℕ) → Gives IsPrintable (negs.prim_part names inner content negated setting count) (λ part. SetFine setting → PartFine part)
      unfolding negs.prim_part
      prim_part negated setting count = prim count >>= (λ read. part_by negated setting read.prim read.count read.pending_not)

      behind_not : (setting : Option Setting) (count : ℕ) → Gives IsPrintable (negs.behind_not names inner content setting count) (λ part. SetFine setting → PartFine part)
      unfolding negs.behind_not
      behind_not setting count = where_next (abbreviated true setting count) (tally count 1 >>= (λ more. still (prim_part true setting more)))

      not_neg : (setting : Option Setting) (count : ℕ) → Gives IsPrintable (negs.not_neg names inner content setting count) (λ part. SetFine setting → PartFine part)
      unfolding negs.not_neg
      not_neg setting count = key (codes "NOT") >> still (behind_not setting count)

      neg : (setting : Option Setting) (count : ℕ) → Gives IsPrintable (negs.neg names inner content setting count) (λ part. SetFine setting → PartFine part)
      unfolding negs.neg
      neg setting count = where_next (not_neg setting count) (where_next (abbreviated false setting count) (prim_part false setting count))

      -- ---- cond

      abbrev Left : Option Cond → Cond → Option Setting → Type 0
      Left before left setting = (if_any (is_printable_cond) before ≡ true) × (is_printable_cond left ≡ true) × SetFine setting

      and_part : (before : Option Cond) (left : Cond) (setting : Option Setting) (count : ℕ) → Gives IsPrintable (conditions.and_part names inner content before left setting count) (λ state. Left before left setting → JoinedFine state)
      unfolding conditions.and_part
      and_part before left setting count = do
        key (codes "AND")
        next ← neg setting count
        pure (λ n _ l. let p = n l.2 in (l.0, (made-And left next.cond l.1 p.0, p.1)))

      or_part : (before : Option Cond) (left : Cond) (setting : Option Setting) (count : ℕ) → Gives IsPrintable (conditions.or_part names inner content before left setting count) (λ state. Left before left setting → JoinedFine state)
      unfolding conditions.or_part
      or_part before left setting count = do
        key (codes "OR")
        next ← neg setting count
        pure (λ n _ l. (whole-made before left l.0 l.1, n l.2))

      join : (state : Joined) → Gives IsPrintable (conditions.join names inner content state) (λ last. JoinedFine state → JoinedFine last)
      unfolding conditions.join
      join state = chosen state.part.pending_not refuse
          (where_next (hence (λ last h j. h (j.0, j.1.0, j.1.1)) (and_part state.before state.part.cond state.part.setting state.part.count))
          (hence (λ last h j. h (j.0, j.1.0, j.1.1)) (or_part state.before state.part.cond state.part.setting state.part.count)))

      conds_from : (first : SimpleCond) → Gives IsPrintable (conditions.conds_from names inner content first) (λ part. PartFine first → PartFine part)
      unfolding conditions.conds_from
      conds_from first = loop {P = JoinedFine} join >>= (λ state. pure (λ h p. let j = h (refl, p) in (whole-made state.before state.part.cond j.0 j.1.0, j.1.1)))

      cond_with : (count : ℕ) → Gives IsPrintable (conditions.cond_with names inner content count) PartFine
      unfolding conditions.cond_with
      cond_with count = neg None count >>= (λ part. hence (λ last h p. h (p tt)) (conds_from part))

      -- ---- in parentheses

      content_from : (first : SimpleCond) → Gives IsPrintable (conditions.content_from names inner content first) (λ read. PartFine first → ReadFine read)
      unfolding conditions.content_from
      content_from first = conds_from first >>= (λ part. hence (λ read h p f. h (p f)) (close_cond part))

      alone_content : (side : Side) (count : ℕ) (pending_not : Bool) → Gives IsPrintable (conditions.alone_content names inner content side count pending_not) (λ read. Fine side → ReadFine read)
      unfolding conditions.alone_content
      alone_content side count pending_not = alone_part false None side count pending_not >>= (λ part. hence (λ read h p s. h (p s tt)) (content_from part))

      content_by : (position : Position) (prim : Primary) (count : ℕ) (pending_not : Bool) → Gives IsPrintable (conditions.content_by names inner content position prim count pending_not) (λ read. PrimFine prim → ReadFine read)
      unfolding conditions.content_by
      content_by position (prims.Alone side) count false = where_next (close_side position side count) (alone_content side count false)
      content_by position (prims.Alone side) count true = alone_content side count true
      content_by position (prims.Test cond after) count pending_not = content_from (alones.part_of cond after count pending_not)

      neg_content : (count : ℕ) → Gives IsPrintable (conditions.neg_content names inner content count) ReadFine
      unfolding conditions.neg_content
      neg_content count = neg None count >>= (λ part. hence (λ read h p. h (p tt)) (content_from part))

      prim_content : (position : Position) (count : ℕ) → Gives IsPrintable (conditions.prim_content names inner content position count) ReadFine
      unfolding conditions.prim_content
      prim_content position count = prim count >>= (λ read. content_by position read.prim read.count read.pending_not)

      in_content : (count : ℕ) → Gives IsPrintable (conditions.in_content names inner content count) ReadFine
      unfolding conditions.in_content
      in_content count = mark left_parenthesis >>= (λ position. still (where_next (neg_content count) (prim_content position count)))

  content : (levels count : ℕ) → Gives IsPrintable (conditions.content names levels count) ReadFine
  unfolding conditions.content
  content zero count = too_deep
  content (suc n) count = in_content (exprs.inner names n) (content n) count

  cond : Gives IsPrintable (conditions.cond names) PartFine
  unfolding conditions.cond
  cond = cond_with (exprs.inner names max_parens) (content max_parens) 0

  pub whole_cond : Gives IsPrintable (conditions.whole_cond names) (λ found. is_printable_cond found.0 ≡ true)
  unfolding conditions.whole_cond
  whole_cond = cond >>= (λ part. pure (λ p. p.0))
