-- What conditions give.
use Rattle.std.proofs.Common.{◌≡◌, ℕ, zero, suc, Bool, true, false, Option, Some, None, refl}
use Rattle.std.specs.Prelude.{codes}
use Rattle.cob_base.specs.Bytes.{left_parenthesis, right_parenthesis}
use Rattle.cob_tree.specs.declared.cond.ClassKind.{ClassKind}
use Rattle.cob_tree.specs.declared.cond.Cond.{Cond}
use Rattle.cob_tree.specs.declared.cond.Rel.{Rel}
use Rattle.parser_combinators.specs.declared.note.Position.{Position}
use Rattle.parser_combinators.specs.Form.{Form}
use Rattle.parser_combinators.proofs.MakerLaws as laws
use Rattle.symbol_tables.specs.data_names.Names.{Names}
use Rattle.cobol_grammar.specs.declared.expr_forms.side.ExprForm.{ExprForm}
use Rattle.cobol_grammar.specs.declared.expr_forms.side.ExprForm.TheVariants as shapes
use Rattle.cobol_grammar.specs.declared.expr_forms.side.Side.{Side}
use Rattle.cobol_grammar.specs.declared.expr_forms.side.ParsedExpr.{ParsedExpr}
use Rattle.cobol_grammar.specs.declared.expr_forms.side.ParsedExpr.TheVariants as whats
use Rattle.cobol_grammar.specs.expr_forms.Fault as faults
use Rattle.cobol_grammar.specs.expr_forms.Side as sides
use Rattle.cobol_grammar.specs.expr_forms.Side.{expr_of}
use Rattle.cob_base.specs.Limit.{max_parens}
use Rattle.cobol_grammar.specs.expr_forms.Limit.{Inner}
use Rattle.cobol_grammar.specs.declared.cond_forms.part.Joined.{Joined}
use Rattle.cobol_grammar.specs.declared.cond_forms.part.SimpleCond.{SimpleCond}
use Rattle.cobol_grammar.specs.declared.cond_forms.test.Primary.{Primary}
use Rattle.cobol_grammar.specs.declared.cond_forms.test.Primary.TheVariants as prims
use Rattle.cobol_grammar.specs.declared.cond_forms.test.Read.{Read}
use Rattle.cobol_grammar.specs.declared.cond_forms.test.Setting.{Setting}
use Rattle.cobol_grammar.specs.cond_forms.Token as tokens
use Rattle.cobol_grammar.specs.cond_forms.Test as tests
use Rattle.cobol_grammar.specs.cond_forms.Test.{relation_of}
use Rattle.cobol_grammar.specs.cond_forms.Primary as primaries
use Rattle.cobol_grammar.specs.cond_forms.Alone as alones
use Rattle.cobol_grammar.specs.cond_forms.Neg as negs
use Rattle.cobol_grammar.specs.cond_forms.Condition as conditions
use Rattle.cobol_grammar.proofs.cond_forms_lemmas.ConditionLaws as law
use Rattle.program_facts.specs.well_scoped.Part.{Counts, if_any}
use Rattle.program_facts.specs.well_scoped.Beside.{cond_named}
use Rattle.program_facts.proofs.well_scoped_lemmas.Made.{made-Relation, made-Class, made-SignIs, made-Named, made-Not, made-And, made-Or}
use Rattle.grammar_laws.specs.form_results.Giving.{Gives}
use Rattle.grammar_laws.specs.form_results.Numbered.{IsNumbered}
use Rattle.grammar_laws.proofs.form_results_lemmas.Giving.{any, hence, still, pure, refuse, note, key, mark, too_deep, chosen, where_next, loop, ◌>>=◌, ◌>>◌}
use Rattle.grammar_laws.specs.well_scoped.named_exprs.Sides.{AreDeclared, what_named}
use Rattle.grammar_laws.proofs.well_scoped_lemmas.named_exprs_lemmas.Expressions as exprs
use Rattle.grammar_laws.proofs.well_scoped_lemmas.named_exprs_lemmas.Expressions.{Named, InnerGives, expr-named, tally}

module _ (counts : Counts) where
  -- ---- what is known of what is read

  abbrev SetNamed : Option Setting → Type 0
  SetNamed None = Unit {0}
  SetNamed (Some setting) = Named counts setting.left

  abbrev PartNamed : SimpleCond → Type 0
  PartNamed part = (cond_named counts part.cond ≡ true) × SetNamed part.setting

  abbrev PrimNamed : Primary → Type 0
  PrimNamed (prims.Test cond setting) = (cond_named counts cond ≡ true) × SetNamed setting
  PrimNamed (prims.Alone side) = Named counts side

  abbrev pub ReadNamed : Read → Type 0
  ReadNamed read = PrimNamed read.prim

  abbrev JoinedNamed : Joined → Type 0
  JoinedNamed state = (if_any (cond_named counts) state.before ≡ true) × PartNamed state.part

  relation-made : (left : Side) (rel : Rel) (right : Side) → Named counts left → Named counts right → cond_named counts (relation_of left rel right) ≡ true
  relation-made left rel right l r = made-Relation counts (expr_of left.what) rel (expr_of right.what) (expr-named counts left.what l) (expr-named counts right.what r)

  not-made : (negated : Bool) (cond : Cond) → cond_named counts cond ≡ true → cond_named counts (alones.with_not negated cond) ≡ true
  not-made true cond h = made-Not counts cond h
  not-made false cond h = h

  whole-made : (before : Option Cond) (cond : Cond) → if_any (cond_named counts) before ≡ true → cond_named counts cond ≡ true → cond_named counts (conditions.whole_of before cond) ≡ true
  whole-made None cond b c = c
  whole-made (Some before) cond b c = made-Or counts before cond b c

  enclosed-named : (what : ParsedExpr) → what_named counts what ≡ true → what_named counts (sides.enclosed_what what) ≡ true
  enclosed-named (whats.Ref place) h = h
  enclosed-named (whats.Enclosed place) h = h
  enclosed-named (whats.Literal operand) h = exprs.leaf-named counts operand h
  enclosed-named (whats.Sum expr) h = h

  -- ---- tests of one side

  sign_test : (negated : Bool) (left : Side) (count : ℕ) → Gives IsNumbered (tests.sign_test negated left count) (λ read. Named counts left → ReadNamed read)
  unfolding tests.sign_test
  sign_test negated left count =
      any (laws.one (λ position kind. tokens.sign_of kind)) >>= (λ sign. note >> pure (λ _ _ l. (made-SignIs counts (expr_of left.what) sign negated (expr-named counts left.what l), tt)))

  class_of_ref : (negated : Bool) (class : ClassKind) (what : ParsedExpr) (count : ℕ) → Gives IsNumbered (tests.class_of_ref negated class what count) (λ read. what_named counts what ≡ true → ReadNamed read)
  unfolding tests.class_of_ref
  class_of_ref negated class (whats.Ref place) count = pure (λ p. (made-Class counts place class negated p, tt))
  class_of_ref negated class (whats.Literal operand) count = refuse
  class_of_ref negated class (whats.Enclosed place) count = refuse
  class_of_ref negated class (whats.Sum expr) count = refuse

  class_test : (negated : Bool) (left : Side) (count : ℕ) → Gives IsNumbered (tests.class_test negated left count) (λ read. Named counts left → ReadNamed read)
  unfolding tests.class_test
  class_test negated left count =
      any (laws.one (λ position kind. tokens.class_of kind)) >>= (λ class. note >> still (still (class_of_ref negated class left.what count)))

  untested : (end : Option Bool) (left : Side) (count : ℕ) → Gives IsNumbered (tests.untested end left count) (λ read. Named counts left → ReadNamed read)
  unfolding tests.untested
  untested None left count = refuse
  untested (Some pending_not) left count = pure (λ l. l)

  class_or : (shape : ExprForm) (negated : Bool) (end : Option Bool) (left : Side) (count : ℕ) → Gives IsNumbered (tests.class_or shape negated end left count) (λ read. Named counts left → ReadNamed read)
  unfolding tests.class_or
  class_or shapes.Ref negated end left count = where_next (class_test negated left count) (untested end left count)
  class_or shapes.Literal negated end left count = untested end left count
  class_or shapes.Enclosed negated end left count = untested end left count
  class_or shapes.Sum negated end left count = untested end left count

  -- ---- an expression without test

  carried : (setting : Setting) (right : Side) (count : ℕ) (pending_not : Bool) → Gives IsNumbered (alones.carried setting right count pending_not) (λ part. Named counts right → Named counts setting.left → PartNamed part)
  unfolding alones.carried
  carried setting right count pending_not = do
    more ← tally counts count setting.terms
    note
    note
    pure (λ _ _ _ r s. (relation-made setting.left setting.rel right s r, s))

  named_by : (negated : Bool) (what : ParsedExpr) (count : ℕ) (pending_not : Bool) → Gives IsNumbered (alones.named_by negated what count pending_not) (λ part. what_named counts what ≡ true → PartNamed part)
  unfolding alones.named_by
  named_by negated (whats.Ref place) count pending_not = pure (λ p. (not-made negated _ (made-Named counts place p), tt))
  named_by negated (whats.Enclosed place) count pending_not = pure (λ p. (not-made negated _ (made-Named counts place p), tt))
  named_by negated (whats.Literal operand) count pending_not = refuse
  named_by negated (whats.Sum expr) count pending_not = refuse

  named : (negated : Bool) (side : Side) (count : ℕ) (pending_not : Bool) → Gives IsNumbered (alones.named negated side count pending_not) (λ part. Named counts side → PartNamed part)
  unfolding alones.named
  named negated side count pending_not = note >> still (named_by negated side.what count pending_not)

  kept : (setting : Setting) (what : ParsedExpr) (count : ℕ) (pending_not : Bool) → Gives IsNumbered (alones.kept setting what count pending_not) (λ part. what_named counts what ≡ true → Named counts setting.left → PartNamed part)
  unfolding alones.kept
  kept setting (whats.Ref place) count pending_not = pure (λ p s. (made-Named counts place p, s))
  kept setting (whats.Enclosed place) count pending_not = refuse
  kept setting (whats.Literal operand) count pending_not = refuse
  kept setting (whats.Sum expr) count pending_not = refuse

  ref_part : (negated : Bool) (setting : Option Setting) (side : Side) (count : ℕ) (pending_not : Bool) →
      Gives IsNumbered (alones.ref_part negated setting side count pending_not) (λ part. Named counts side → SetNamed setting → PartNamed part)
  unfolding alones.ref_part
  ref_part false (Some setting) side count pending_not = chosen (faults.is_condition side.kind) (kept setting side.what count pending_not) (carried setting side count pending_not)
  ref_part false None side count pending_not = hence (λ part h s _. h s) (named false side count pending_not)
  ref_part true setting side count pending_not = hence (λ part h s _. h s) (named true side count pending_not)

  literal_part : (negated : Bool) (setting : Option Setting) (side : Side) (count : ℕ) (pending_not : Bool) →
      Gives IsNumbered (alones.literal_part negated setting side count pending_not) (λ part. Named counts side → SetNamed setting → PartNamed part)
  unfolding alones.literal_part
  literal_part false (Some setting) side count pending_not = carried setting side count pending_not
  literal_part false None side count pending_not = refuse
  literal_part true setting side count pending_not = refuse

  part_by_shape : (shape : ExprForm) (negated : Bool) (setting : Option Setting) (side : Side) (count : ℕ) (pending_not : Bool) →
      Gives IsNumbered (alones.part_by_shape shape negated setting side count pending_not) (λ part. Named counts side → SetNamed setting → PartNamed part)
  unfolding alones.part_by_shape
  part_by_shape shapes.Ref negated setting side count pending_not = ref_part negated setting side count pending_not
  part_by_shape shapes.Literal negated setting side count pending_not = literal_part negated setting side count pending_not
  part_by_shape shapes.Enclosed negated setting side count pending_not = hence (λ part h s _. h s) (named negated side count pending_not)
  part_by_shape shapes.Sum negated setting side count pending_not = refuse

  alone_part : (negated : Bool) (setting : Option Setting) (side : Side) (count : ℕ) (pending_not : Bool) →
      Gives IsNumbered (alones.alone_part negated setting side count pending_not) (λ part. Named counts side → SetNamed setting → PartNamed part)
  unfolding alones.alone_part
  alone_part negated setting side count pending_not = part_by_shape (sides.shape_of side.what) negated setting side count pending_not

  part_by : (negated : Bool) (setting : Option Setting) (prim : Primary) (count : ℕ) (pending_not : Bool) →
      Gives IsNumbered (alones.part_by negated setting prim count pending_not) (λ part. PrimNamed prim → SetNamed setting → PartNamed part)
  unfolding alones.part_by
  part_by negated setting (prims.Test cond after) count pending_not = pure (λ p _. (not-made negated cond p.0, p.1))
  part_by negated setting (prims.Alone side) count pending_not = alone_part negated setting side count pending_not

  close_cond : (part : SimpleCond) → Gives IsNumbered (conditions.close_cond part) (λ read. PartNamed part → ReadNamed read)
  unfolding conditions.close_cond
  close_cond part = chosen part.pending_not refuse (mark right_parenthesis >> pure (λ _ p. (p.0, tt)))

  close_side : (position : Position) (side : Side) (count : ℕ) → Gives IsNumbered (conditions.close_side position side count) (λ read. Named counts side → ReadNamed read)
  unfolding conditions.close_side sides.enclosed
  close_side position side count = mark right_parenthesis >> pure (λ _ s. enclosed-named side.what s)

  module _ (names : Names) (declared : AreDeclared names counts) where
    module _ {inner : Inner} (I : InnerGives counts inner) where
      -- ---- tests

      relation : (negated : Bool) (left : Side) (before count : ℕ) → Gives IsNumbered (tests.relation names inner negated left before count) (λ read. Named counts left → ReadNamed read)
      unfolding tests.relation
      relation negated left before count = do
        sign ← any (law.rel negated)
        right ← exprs.expr counts names declared I count
        note
        note
        note
        pure (λ _ _ _ r _ l. (relation-made left sign right.0 l r, l))

      one_test : (negated : Bool) (end : Option Bool) (left : Side) (before count : ℕ) → Gives IsNumbered (tests.one_test names inner negated end left before count) (λ read. Named counts left → ReadNamed read)
      unfolding tests.one_test
      one_test negated end left before count =
          where_next (relation negated left before count) (where_next (sign_test negated left count) (class_or (sides.shape_of left.what) negated end left count))

      not_test : (end : Option Bool) (left : Side) (before count : ℕ) → Gives IsNumbered (tests.not_test names inner end left before count) (λ read. Named counts left → ReadNamed read)
      unfolding tests.not_test
      not_test end left before count = key (codes "NOT") >> still (one_test true end left before count)

      behind_is : (left : Side) (before count : ℕ) → Gives IsNumbered (tests.behind_is names inner left before count) (λ read. Named counts left → ReadNamed read)
      unfolding tests.behind_is
      behind_is left before count = key (codes "IS") >> still (where_next (not_test None left before count) (one_test false None left before count))

      tested : (left : Side) (before count : ℕ) → Gives IsNumbered (tests.tested names inner left before count) (λ read. Named counts left → ReadNamed read)
      unfolding tests.tested
      tested left before count = where_next (behind_is left before count) (where_next (not_test (Some true) left before count) (one_test false (Some false) left before count))

      -- ---- prim

      side_prim : (before : ℕ) (side : Side) (count : ℕ) → Gives IsNumbered (primaries.side_prim names inner before side count) (λ read. Named counts side → ReadNamed read)
      unfolding primaries.side_prim
      side_prim before side count = exprs.sum counts names declared I side count >>= (λ left. hence (λ read h s n. h (s n)) (tested left.0 before left.1))

      prim_behind : (before : ℕ) (prim : Primary) (count : ℕ) → Gives IsNumbered (primaries.prim_behind names inner before prim count) (λ read. PrimNamed prim → ReadNamed read)
      unfolding primaries.prim_behind
      prim_behind before (prims.Test cond setting) count = pure (λ p. (p.0, tt))
      prim_behind before (prims.Alone side) count = side_prim before side count

      expr_prim : (count : ℕ) → Gives IsNumbered (primaries.expr_prim names inner count) ReadNamed
      unfolding primaries.expr_prim
      expr_prim count = exprs.unary counts names declared I count >>= (λ first. side_prim count first.0 first.1)

      abbreviated_by : (negated : Bool) (setting : Setting) (count : ℕ) → Gives IsNumbered (negs.abbreviated_by names inner negated setting count) (λ part. Named counts setting.left → PartNamed part)
      unfolding negs.abbreviated_by
      abbreviated_by negated setting count = do
        more ← tally counts count setting.terms
        sign ← any (law.rel negated)
        right ← exprs.operand counts names declared I more
        note
        note
        pure (λ _ _ r _ _ s. (relation-made setting.left sign right.0 s r, s))

      abbreviated : (negated : Bool) (setting : Option Setting) (count : ℕ) → Gives IsNumbered (negs.abbreviated names inner negated setting count) (λ part. SetNamed setting → PartNamed part)
      unfolding negs.abbreviated
      abbreviated negated None count = refuse
      abbreviated negated (Some setting) count = abbreviated_by negated setting count

      module _ {content : ℕ → Form Read} (C : (count : ℕ) → Gives IsNumbered (content count) ReadNamed) where
        parens_prim : (count : ℕ) → Gives IsNumbered (primaries.parens_prim names inner content count) ReadNamed
        unfolding primaries.parens_prim
        parens_prim count = C count >>= (λ read. prim_behind count read.prim read.count)

        prim : (count : ℕ) → Gives IsNumbered (primaries.prim names inner content count) ReadNamed
        unfolding primaries.prim
        prim count = where_next (parens_prim count) (expr_prim count)

        -- ---- neg

        prim_part : (negated : Bool) (setting : Option Setting) (count : ℕ) → Gives IsNumbered (negs.prim_part names inner content negated setting count) (λ part. SetNamed setting → PartNamed part)
        unfolding negs.prim_part
        prim_part negated setting count = prim count >>= (λ read. part_by negated setting read.prim read.count read.pending_not)

        behind_not : (setting : Option Setting) (count : ℕ) → Gives IsNumbered (negs.behind_not names inner content setting count) (λ part. SetNamed setting → PartNamed part)
        unfolding negs.behind_not
        behind_not setting count = where_next (abbreviated true setting count) (tally counts count 1 >>= (λ more. still (prim_part true setting more)))

        not_neg : (setting : Option Setting) (count : ℕ) → Gives IsNumbered (negs.not_neg names inner content setting count) (λ part. SetNamed setting → PartNamed part)
        unfolding negs.not_neg
        not_neg setting count = key (codes "NOT") >> still (behind_not setting count)

        neg : (setting : Option Setting) (count : ℕ) → Gives IsNumbered (negs.neg names inner content setting count) (λ part. SetNamed setting → PartNamed part)
        unfolding negs.neg
        neg setting count = where_next (not_neg setting count) (where_next (abbreviated false setting count) (prim_part false setting count))

        -- ---- cond

        abbrev Left : Option Cond → Cond → Option Setting → Type 0
        Left before left setting = (if_any (cond_named counts) before ≡ true) × (cond_named counts left ≡ true) × SetNamed setting

        and_part : (before : Option Cond) (left : Cond) (setting : Option Setting) (count : ℕ) → Gives IsNumbered (conditions.and_part names inner content before left setting count) (λ state. Left before left setting → JoinedNamed state)
        unfolding conditions.and_part
        and_part before left setting count = do
          key (codes "AND")
          next ← neg setting count
          pure (λ n _ l. let p = n l.2 in (l.0, (made-And counts left next.cond l.1 p.0, p.1)))

        or_part : (before : Option Cond) (left : Cond) (setting : Option Setting) (count : ℕ) → Gives IsNumbered (conditions.or_part names inner content before left setting count) (λ state. Left before left setting → JoinedNamed state)
        unfolding conditions.or_part
        or_part before left setting count = do
          key (codes "OR")
          next ← neg setting count
          pure (λ n _ l. (whole-made before left l.0 l.1, n l.2))

        join : (state : Joined) → Gives IsNumbered (conditions.join names inner content state) (λ last. JoinedNamed state → JoinedNamed last)
        unfolding conditions.join
        join state = chosen state.part.pending_not refuse
            (where_next (hence (λ last h j. h (j.0, j.1.0, j.1.1)) (and_part state.before state.part.cond state.part.setting state.part.count))
            (hence (λ last h j. h (j.0, j.1.0, j.1.1)) (or_part state.before state.part.cond state.part.setting state.part.count)))

        conds_from : (first : SimpleCond) → Gives IsNumbered (conditions.conds_from names inner content first) (λ part. PartNamed first → PartNamed part)
        unfolding conditions.conds_from
        conds_from first = loop {P = JoinedNamed} join >>= (λ state. pure (λ h p. let j = h (refl, p) in (whole-made state.before state.part.cond j.0 j.1.0, j.1.1)))

        cond_with : (count : ℕ) → Gives IsNumbered (conditions.cond_with names inner content count) PartNamed
        unfolding conditions.cond_with
        cond_with count = neg None count >>= (λ part. hence (λ last h p. h (p tt)) (conds_from part))

        -- ---- in parentheses

        content_from : (first : SimpleCond) → Gives IsNumbered (conditions.content_from names inner content first) (λ read. PartNamed first → ReadNamed read)
        unfolding conditions.content_from
        content_from first = conds_from first >>= (λ part. hence (λ read h p f. h (p f)) (close_cond part))

        alone_content : (side : Side) (count : ℕ) (pending_not : Bool) → Gives IsNumbered (conditions.alone_content names inner content side count pending_not) (λ read. Named counts side → ReadNamed read)
        unfolding conditions.alone_content
        alone_content side count pending_not = alone_part false None side count pending_not >>= (λ part. hence (λ read h p s. h (p s tt)) (content_from part))

        content_by : (position : Position) (prim : Primary) (count : ℕ) (pending_not : Bool) → Gives IsNumbered (conditions.content_by names inner content position prim count pending_not) (λ read. PrimNamed prim → ReadNamed read)
        unfolding conditions.content_by
        content_by position (prims.Alone side) count false = where_next (close_side position side count) (alone_content side count false)
        content_by position (prims.Alone side) count true = alone_content side count true
        content_by position (prims.Test cond after) count pending_not = content_from (alones.part_of cond after count pending_not)

        neg_content : (count : ℕ) → Gives IsNumbered (conditions.neg_content names inner content count) ReadNamed
        unfolding conditions.neg_content
        neg_content count = neg None count >>= (λ part. hence (λ read h p. h (p tt)) (content_from part))

        prim_content : (position : Position) (count : ℕ) → Gives IsNumbered (conditions.prim_content names inner content position count) ReadNamed
        unfolding conditions.prim_content
        prim_content position count = prim count >>= (λ read. content_by position read.prim read.count read.pending_not)

        in_content : (count : ℕ) → Gives IsNumbered (conditions.in_content names inner content count) ReadNamed
        unfolding conditions.in_content
        in_content count = mark left_parenthesis >>= (λ position. still (where_next (neg_content count) (prim_content position count)))

    content : (levels count : ℕ) → Gives IsNumbered (conditions.content names levels count) ReadNamed
    unfolding conditions.content
    content zero count = too_deep
    content (suc n) count = in_content (exprs.inner counts names declared n) (content n) count

    cond : Gives IsNumbered (conditions.cond names) PartNamed
    unfolding conditions.cond
    cond = cond_with (exprs.inner counts names declared max_parens) (content max_parens) 0

    pub whole_cond : Gives IsNumbered (conditions.whole_cond names) (λ found. cond_named counts found.0 ≡ true)
    unfolding conditions.whole_cond
    whole_cond = cond >>= (λ part. pure (λ p. p.0))
