-- What conditions give.
use Rattle.std.proofs.Common.{◌≡◌, ℕ, zero, suc, ◌+◌, ◌≤◌, Bool, true, false, not, Option, Some, None, refl, ap, subst, arith}
use Rattle.std.specs.Prelude.{codes}
use Rattle.cob_base.specs.Bytes.{left_parenthesis, right_parenthesis}
use Rattle.cob_tree.specs.declared.cond.ClassKind.{ClassKind}
use Rattle.cob_tree.specs.declared.cond.Cond.{Cond}
use Rattle.cob_tree.specs.declared.program.Program.{Program}
use Rattle.cobol_lex.specs.declared.token.TokenKind.{TokenKind}
use Rattle.parser_combinators.specs.declared.note.Position.{Position}
use Rattle.parser_combinators.specs.Form.{Form}
use Rattle.parser_combinators.specs.Form as form
use Rattle.parser_combinators.proofs.MakerLaws as laws
use Rattle.symbol_tables.specs.data_names.Names.{Names}
use Rattle.cobol_grammar.specs.declared.expr_forms.side.ExprForm.{ExprForm}
use Rattle.cobol_grammar.specs.declared.expr_forms.side.ExprForm.TheVariants as shapes
use Rattle.cobol_grammar.specs.declared.expr_forms.side.Side.{Side}
use Rattle.cobol_grammar.specs.declared.expr_forms.side.ParsedExpr.{ParsedExpr}
use Rattle.cobol_grammar.specs.declared.expr_forms.side.ParsedExpr.TheVariants as whats
use Rattle.cobol_grammar.specs.expr_forms.Fault as faults
use Rattle.cobol_grammar.specs.expr_forms.Side as sides
use Rattle.cobol_grammar.specs.expr_forms.Side.{expr_of}
use Rattle.cob_base.specs.Limit.{max_parens}
use Rattle.cobol_grammar.specs.expr_forms.Limit.{Inner}
use Rattle.cobol_grammar.specs.declared.cond_forms.part.Joined.{Joined}
use Rattle.cobol_grammar.specs.declared.cond_forms.part.SimpleCond.{SimpleCond}
use Rattle.cobol_grammar.specs.declared.cond_forms.test.Primary.{Primary}
use Rattle.cobol_grammar.specs.declared.cond_forms.test.Primary.TheVariants as prims
use Rattle.cobol_grammar.specs.declared.cond_forms.test.Read.{Read}
use Rattle.cobol_grammar.specs.declared.cond_forms.test.Setting.{Setting}
use Rattle.cobol_grammar.specs.cond_forms.Token as tokens
use Rattle.cobol_grammar.specs.cond_forms.Test as tests
use Rattle.cobol_grammar.specs.cond_forms.Primary as primaries
use Rattle.cobol_grammar.specs.cond_forms.Alone as alones
use Rattle.cobol_grammar.specs.cond_forms.Neg as negs
use Rattle.cobol_grammar.specs.cond_forms.Condition as conditions
use Rattle.cobol_grammar.proofs.cond_forms_lemmas.ConditionLaws as law
use Rattle.grammar_laws.specs.form_results.Giving.{Gives}
use Rattle.grammar_laws.proofs.form_results_lemmas.Giving.{any, hence, still, pure, refuse, note, key, mark, too_deep, chosen, where_next, loop, ◌>>=◌, ◌>>◌}
use Rattle.round_trip.specs.procedures.readable_exprs.Readable.{IsReadableCond}
use Rattle.round_trip.proofs.procedures_lemmas.readable_exprs_lemmas.Named.{Finds}
use Rattle.round_trip.proofs.procedures_lemmas.readable_exprs_lemmas.Words.{tally}
use Rattle.round_trip.proofs.procedures_lemmas.readable_exprs_lemmas.Known.{number-known}
use Rattle.round_trip.proofs.procedures_lemmas.readable_exprs_lemmas.Told.{Told, leaf-told}
use Rattle.round_trip.proofs.procedures_lemmas.readable_exprs_lemmas.Expressions as exprs
use Rattle.round_trip.proofs.procedures_lemmas.readable_exprs_lemmas.Expressions.{InnerTold}
use Rattle.round_trip.proofs.procedures_lemmas.readable_exprs_lemmas.Tests as tell
use Rattle.round_trip.proofs.procedures_lemmas.readable_exprs_lemmas.Tests.{SettingTold, SetTold, PartTold, PrimTold, ReadTold, LeftTold, JoinedTold, value-known, condition-known}

module _ (Kind : TokenKind → Type 0) (names : Names) (program : Program) (finds : Finds names program) where
  -- ---- tests of one side

  sign_test : (before : ℕ) (negated : Bool) (left : Side) (count : ℕ) → Gives Kind (tests.sign_test negated left count) (λ read. Told names program before left count → ReadTold names program before read)
  unfolding tests.sign_test
  sign_test before negated left count =
      any (laws.one (λ position kind. tokens.sign_of kind))
      >>= (λ sign. note >> pure (λ n _ l. (tell.sign-told names program before left sign negated count l (number-known names program left l.known n.1), tt)))

  class_of_ref : (before : ℕ) (negated : Bool) (class : ClassKind) (left : Side) (what : ParsedExpr) (count : ℕ) → left.what ≡ what →
      Gives Kind (tests.class_of_ref negated class what count) (λ read. not (faults.is_condition left.kind) ≡ true → Told names program before left count → ReadTold names program before read)
  unfolding tests.class_of_ref
  class_of_ref before negated class left (whats.Ref place) count e =
      pure (λ v l. (tell.class-told names program before place left.kind class negated count (tell.ref-told names program before place left count (ap (λ w. expr_of w) e) l) v, tt))
  class_of_ref before negated class left (whats.Literal operand) count e = refuse
  class_of_ref before negated class left (whats.Enclosed place) count e = refuse
  class_of_ref before negated class left (whats.Sum expr) count e = refuse

  class_test : (before : ℕ) (negated : Bool) (left : Side) (count : ℕ) → Gives Kind (tests.class_test negated left count) (λ read. Told names program before left count → ReadTold names program before read)
  unfolding tests.class_test
  class_test before negated left count =
      any (laws.one (λ position kind. tokens.class_of kind))
      >>= (λ class. note >> hence (λ read h n _ l. h (value-known left n.1) l) (class_of_ref before negated class left left.what count refl))

  untested : (before : ℕ) (end : Option Bool) (left : Side) (count : ℕ) → Gives Kind (tests.untested end left count) (λ read. Told names program before left count → ReadTold names program before read)
  unfolding tests.untested
  untested before None left count = refuse
  untested before (Some pending_not) left count = pure (λ l. l)

  class_or : (before : ℕ) (shape : ExprForm) (negated : Bool) (end : Option Bool) (left : Side) (count : ℕ) →
      Gives Kind (tests.class_or shape negated end left count) (λ read. Told names program before left count → ReadTold names program before read)
  unfolding tests.class_or
  class_or before shapes.Ref negated end left count = where_next (class_test before negated left count) (untested before end left count)
  class_or before shapes.Literal negated end left count = untested before end left count
  class_or before shapes.Enclosed negated end left count = untested before end left count
  class_or before shapes.Sum negated end left count = untested before end left count

  -- ---- an expression without test

  -- an expression that is the right side of an abbreviated relation
  carried : (before : ℕ) (setting : Setting) (right : Side) (count : ℕ) (pending_not : Bool) →
      Gives Kind (alones.carried setting right count pending_not) (λ part. Told names program before right count → SettingTold names program setting → PartTold names program before part)
  unfolding alones.carried
  carried before setting right count pending_not = do
    more ← tally count setting.terms
    note
    note
    pure (λ n v m r s.
        let e = m.0 in
        let c = r.counted in
        (tell.carried-told names program before count more setting setting.rel right s r.known (v.1) (n.1) (omega (arith, e, c)) m.1, s))

  -- behind NOT, which is counted before the side
  named_by : (before : ℕ) (negated : Bool) (side : Side) (what : ParsedExpr) (count : ℕ) (pending_not : Bool) → side.what ≡ what →
      Gives Kind (alones.named_by negated what count pending_not)
      (λ part. (before ≤ 500 → tell.behind_not names program negated before ≤ 500) → faults.condition_fault side ≡ None → Told names program (tell.behind_not names program negated before) side count →
      PartTold names program before part)
  unfolding alones.named_by
  named_by before negated side (whats.Ref place) count pending_not e =
      pure (λ some n h.
      let within = tell.behind_not names program negated before in
      let ref = tell.ref-told names program within place side count (ap (λ w. expr_of w) e) h in
      (tell.not-told names program negated before _ count some (tell.named-told names program within place side.kind count ref (condition-known side h.known.there n)), tt))
  named_by before negated side (whats.Enclosed place) count pending_not e =
      pure (λ some n h.
      let within = tell.behind_not names program negated before in
      let ref = tell.ref-told names program within place side count (ap (λ w. expr_of w) e) h in
      (tell.not-told names program negated before _ count some (tell.named-told names program within place side.kind count ref (condition-known side h.known.there n)), tt))
  named_by before negated side (whats.Literal operand) count pending_not e = refuse
  named_by before negated side (whats.Sum expr) count pending_not e = refuse

  -- what a form gives of a side that stands behind NOT, or doesn't
  abbrev AloneTold : (before : ℕ) (negated : Bool) → Option Setting → Side → ℕ → SimpleCond → Type 0
  AloneTold before negated setting side count part =
      (before ≤ 500 → tell.behind_not names program negated before ≤ 500) → Told names program (tell.behind_not names program negated before) side count → SetTold names program setting →
      PartTold names program before part

  named : (before : ℕ) (negated : Bool) (setting : Option Setting) (side : Side) (count : ℕ) (pending_not : Bool) →
      Gives Kind (alones.named negated side count pending_not) (λ part. AloneTold before negated setting side count part)
  unfolding alones.named
  named before negated setting side count pending_not =
      note >> hence (λ part h n some l _. h some n.1 l) (named_by before negated side side.what count pending_not refl)

  kept : (before : ℕ) (setting : Setting) (side : Side) (what : ParsedExpr) (count : ℕ) (pending_not : Bool) → side.what ≡ what → faults.is_condition side.kind ≡ true →
      Gives Kind (alones.kept setting what count pending_not) (λ part. AloneTold before false (Some setting) side count part)
  unfolding alones.kept
  kept before setting side (whats.Ref place) count pending_not e c =
      pure (λ _ h s. (tell.named-told names program before place side.kind count (tell.ref-told names program before place side count (ap (λ w. expr_of w) e) h) c, s))
  kept before setting side (whats.Enclosed place) count pending_not e c = refuse
  kept before setting side (whats.Literal operand) count pending_not e c = refuse
  kept before setting side (whats.Sum expr) count pending_not e c = refuse

  carried_alone : (before : ℕ) (setting : Setting) (side : Side) (count : ℕ) (pending_not : Bool) →
      Gives Kind (alones.carried setting side count pending_not) (λ part. AloneTold before false (Some setting) side count part)
  carried_alone before setting side count pending_not = hence (λ part h _ l s. h l s) (carried before setting side count pending_not)

  -- the name of a level 88 beside what was set, or an abbreviated relation
  kept_or_carried : (before : ℕ) (setting : Setting) (side : Side) (count : ℕ) (pending_not : Bool) (test : Bool) → faults.is_condition side.kind ≡ test →
      Gives Kind (form.chosen test (alones.kept setting side.what count pending_not) (alones.carried setting side count pending_not)) (λ part. AloneTold before false (Some setting) side count part)
  kept_or_carried before setting side count pending_not true e = kept before setting side side.what count pending_not refl e
  kept_or_carried before setting side count pending_not false e = carried_alone before setting side count pending_not

  ref_part : (before : ℕ) (negated : Bool) (setting : Option Setting) (side : Side) (count : ℕ) (pending_not : Bool) →
      Gives Kind (alones.ref_part negated setting side count pending_not) (λ part. AloneTold before negated setting side count part)
  unfolding alones.ref_part
  ref_part before false (Some setting) side count pending_not = kept_or_carried before setting side count pending_not (faults.is_condition side.kind) refl
  ref_part before false None side count pending_not = named before false None side count pending_not
  ref_part before true setting side count pending_not = named before true setting side count pending_not

  literal_part : (before : ℕ) (negated : Bool) (setting : Option Setting) (side : Side) (count : ℕ) (pending_not : Bool) →
      Gives Kind (alones.literal_part negated setting side count pending_not) (λ part. AloneTold before negated setting side count part)
  unfolding alones.literal_part
  literal_part before false (Some setting) side count pending_not = carried_alone before setting side count pending_not
  literal_part before false None side count pending_not = refuse
  literal_part before true setting side count pending_not = refuse

  part_by_shape : (before : ℕ) (shape : ExprForm) (negated : Bool) (setting : Option Setting) (side : Side) (count : ℕ) (pending_not : Bool) →
      Gives Kind (alones.part_by_shape shape negated setting side count pending_not) (λ part. AloneTold before negated setting side count part)
  unfolding alones.part_by_shape
  part_by_shape before shapes.Ref negated setting side count pending_not = ref_part before negated setting side count pending_not
  part_by_shape before shapes.Literal negated setting side count pending_not = literal_part before negated setting side count pending_not
  part_by_shape before shapes.Enclosed negated setting side count pending_not = named before negated setting side count pending_not
  part_by_shape before shapes.Sum negated setting side count pending_not = refuse

  alone_part : (before : ℕ) (negated : Bool) (setting : Option Setting) (side : Side) (count : ℕ) (pending_not : Bool) →
      Gives Kind (alones.alone_part negated setting side count pending_not) (λ part. AloneTold before negated setting side count part)
  unfolding alones.alone_part
  alone_part before negated setting side count pending_not = part_by_shape before (sides.shape_of side.what) negated setting side count pending_not

  part_by : (before : ℕ) (negated : Bool) (setting : Option Setting) (prim : Primary) (count : ℕ) (pending_not : Bool) →
      Gives Kind (alones.part_by negated setting prim count pending_not)
      (λ part. (before ≤ 500 → tell.behind_not names program negated before ≤ 500) → PrimTold names program (tell.behind_not names program negated before) prim count → SetTold names program setting →
      PartTold names program before part)
  unfolding alones.part_by
  part_by before negated setting (prims.Test cond after) count pending_not = pure (λ some p _. (tell.not-told names program negated before cond count some p.0, p.1))
  part_by before negated setting (prims.Alone side) count pending_not = alone_part before negated setting side count pending_not

  close_cond : (before : ℕ) (part : SimpleCond) → Gives Kind (conditions.close_cond part) (λ read. PartTold names program before part → ReadTold names program before read)
  unfolding conditions.close_cond
  close_cond before part = chosen part.pending_not refuse (mark right_parenthesis >> pure (λ _ p. (p.0, tt)))

  close_side : (before : ℕ) (position : Position) (side : Side) (count : ℕ) →
      Gives Kind (conditions.close_side position side count) (λ read. Told names program before side count → ReadTold names program before read)
  unfolding conditions.close_side
  close_side before position side count = mark right_parenthesis >> pure (λ _ s. tell.enclosed-told names program position before side count s)

  module _ {inner : Inner} (I : InnerTold Kind names program finds false inner) where
    -- ---- tests

    relation : (negated : Bool) (left : Side) (before count : ℕ) →
        Gives Kind (tests.relation names inner negated left before count) (λ read. Told names program before left count → ReadTold names program before read)
    unfolding tests.relation
    relation negated left before count = do
      sign ← any (law.rel negated)
      right ← exprs.expr Kind names program finds I count
      note
      note
      note
      pure (λ n w v r _ l. tell.relation-told names program before count left sign right.0 right.1 l r v.1 w.1 n.1)

    one_test : (negated : Bool) (end : Option Bool) (left : Side) (before count : ℕ) →
        Gives Kind (tests.one_test names inner negated end left before count) (λ read. Told names program before left count → ReadTold names program before read)
    unfolding tests.one_test
    one_test negated end left before count =
        where_next (relation negated left before count) (where_next (sign_test before negated left count) (class_or before (sides.shape_of left.what) negated end left count))

    not_test : (end : Option Bool) (left : Side) (before count : ℕ) →
        Gives Kind (tests.not_test names inner end left before count) (λ read. Told names program before left count → ReadTold names program before read)
    unfolding tests.not_test
    not_test end left before count = key (codes "NOT") >> still (one_test true end left before count)

    behind_is : (left : Side) (before count : ℕ) → Gives Kind (tests.behind_is names inner left before count) (λ read. Told names program before left count → ReadTold names program before read)
    unfolding tests.behind_is
    behind_is left before count = key (codes "IS") >> still (where_next (not_test None left before count) (one_test false None left before count))

    tested : (left : Side) (before count : ℕ) → Gives Kind (tests.tested names inner left before count) (λ read. Told names program before left count → ReadTold names program before read)
    unfolding tests.tested
    tested left before count = where_next (behind_is left before count) (where_next (not_test (Some true) left before count) (one_test false (Some false) left before count))

    -- ---- prim

    side_prim : (before : ℕ) (side : Side) (count : ℕ) →
        Gives Kind (primaries.side_prim names inner before side count) (λ read. Told names program before side count → ReadTold names program before read)
    unfolding primaries.side_prim
    side_prim before side count =
        exprs.sum Kind names program finds I before side count >>= (λ left. hence (λ read h s n. h (s n)) (tested left.0 before left.1))

    prim_behind : (before : ℕ) (prim : Primary) (count : ℕ) →
        Gives Kind (primaries.prim_behind names inner before prim count) (λ read. PrimTold names program before prim count → ReadTold names program before read)
    unfolding primaries.prim_behind
    prim_behind before (prims.Test cond setting) count = pure (λ p. (p.0, tt))
    prim_behind before (prims.Alone side) count = side_prim before side count

    expr_prim : (count : ℕ) → Gives Kind (primaries.expr_prim names inner count) (λ read. ReadTold names program count read)
    unfolding primaries.expr_prim
    expr_prim count = exprs.unary Kind names program finds I count >>= (λ first. side_prim count first.0 first.1)

    abbreviated_by : (negated : Bool) (setting : Setting) (count : ℕ) →
        Gives Kind (negs.abbreviated_by names inner negated setting count) (λ part. SettingTold names program setting → PartTold names program count part)
    unfolding negs.abbreviated_by
    abbreviated_by negated setting count = do
      more ← tally count setting.terms
      sign ← any (law.rel negated)
      right ← exprs.operand Kind names program finds I more
      note
      note
      pure (λ n w r _ m s.
          let told = leaf-told names program more right.0 right.1 r in
          let e = m.0 in
          let c = told.counted in (
            tell.carried-told names program count more right.1 setting sign right.0 s told.known w.1 n.1 (omega (arith, e, c)) r.few,
            record { known = s.known; value = s.value; terms = s.terms },
          ))

    abbreviated : (negated : Bool) (setting : Option Setting) (count : ℕ) →
        Gives Kind (negs.abbreviated names inner negated setting count) (λ part. SetTold names program setting → PartTold names program count part)
    unfolding negs.abbreviated
    abbreviated negated None count = refuse
    abbreviated negated (Some setting) count = abbreviated_by negated setting count

    module _ {content : ℕ → Form Read} (C : (count : ℕ) → Gives Kind (content count) (λ read. ReadTold names program count read)) where
      parens_prim : (count : ℕ) → Gives Kind (primaries.parens_prim names inner content count) (λ read. ReadTold names program count read)
      unfolding primaries.parens_prim
      parens_prim count = C count >>= (λ read. prim_behind count read.prim read.count)

      prim : (count : ℕ) → Gives Kind (primaries.prim names inner content count) (λ read. ReadTold names program count read)
      unfolding primaries.prim
      prim count = where_next (parens_prim count) (expr_prim count)

      -- ---- neg

      prim_part : (setting : Option Setting) (count : ℕ) →
          Gives Kind (negs.prim_part names inner content false setting count) (λ part. SetTold names program setting → PartTold names program count part)
      unfolding negs.prim_part
      prim_part setting count =
          prim count >>= (λ read. hence (λ part h p s. h (λ few. few) p s) (part_by count false setting read.prim read.count read.pending_not))

      not_part : (setting : Option Setting) (before more : ℕ) →
          Gives Kind (negs.prim_part names inner content true setting more) (λ part. (more ≡ before + 1) × (more ≤ 500) → SetTold names program setting → PartTold names program before part)
      unfolding negs.prim_part
      not_part setting before more =
          prim more >>= (λ read. hence (λ part h p m s.
          h (λ _. subst (λ n. n ≤ 500) m.0 m.1) (subst (λ n. PrimTold names program n read.prim read.count) m.0 p) s) (part_by before true setting read.prim read.count read.pending_not))

      behind_not : (setting : Option Setting) (count : ℕ) →
          Gives Kind (negs.behind_not names inner content setting count) (λ part. SetTold names program setting → PartTold names program count part)
      unfolding negs.behind_not
      behind_not setting count = where_next (abbreviated true setting count) (tally count 1 >>= (λ more. not_part setting count more))

      not_neg : (setting : Option Setting) (count : ℕ) →
          Gives Kind (negs.not_neg names inner content setting count) (λ part. SetTold names program setting → PartTold names program count part)
      unfolding negs.not_neg
      not_neg setting count = key (codes "NOT") >> still (behind_not setting count)

      neg : (setting : Option Setting) (count : ℕ) →
          Gives Kind (negs.neg names inner content setting count) (λ part. SetTold names program setting → PartTold names program count part)
      unfolding negs.neg
      neg setting count = where_next (not_neg setting count) (where_next (abbreviated false setting count) (prim_part setting count))

      -- ---- cond

      and_part : (start : ℕ) (before : Option Cond) (left : Cond) (setting : Option Setting) (count : ℕ) →
          Gives Kind (conditions.and_part names inner content before left setting count) (λ state. LeftTold names program start before left setting count → JoinedTold names program start state)
      unfolding conditions.and_part
      and_part start before left setting count = do
        key (codes "AND")
        next ← neg setting count
        pure (λ n _ l. tell.and-told names program start before left setting count next l (n l.set))

      or_part : (start : ℕ) (before : Option Cond) (left : Cond) (setting : Option Setting) (count : ℕ) →
          Gives Kind (conditions.or_part names inner content before left setting count) (λ state. LeftTold names program start before left setting count → JoinedTold names program start state)
      unfolding conditions.or_part
      or_part start before left setting count = do
        key (codes "OR")
        next ← neg setting count
        pure (λ n _ l. tell.or-told names program start before left setting count next l (n l.set))

      join : (start : ℕ) (state : Joined) → Gives Kind (conditions.join names inner content state) (λ last. JoinedTold names program start state → JoinedTold names program start last)
      unfolding conditions.join
      join start state = chosen state.part.pending_not refuse
          (where_next (and_part start state.before state.part.cond state.part.setting state.part.count)
          (or_part start state.before state.part.cond state.part.setting state.part.count))

      conds_from : (start : ℕ) (first : SimpleCond) → Gives Kind (conditions.conds_from names inner content first) (λ part. PartTold names program start first → PartTold names program start part)
      unfolding conditions.conds_from
      conds_from start first =
          loop {P = λ state. JoinedTold names program start state} (join start)
          >>= (λ state. pure (λ h p. tell.whole-told names program start state (h (tell.first-told names program start first p))))

      cond_with : (count : ℕ) → Gives Kind (conditions.cond_with names inner content count) (λ part. PartTold names program count part)
      unfolding conditions.cond_with
      cond_with count = neg None count >>= (λ part. hence (λ last h p. h (p tt)) (conds_from count part))

      -- ---- in parentheses

      content_from : (start : ℕ) (first : SimpleCond) → Gives Kind (conditions.content_from names inner content first) (λ read. PartTold names program start first → ReadTold names program start read)
      unfolding conditions.content_from
      content_from start first = conds_from start first >>= (λ part. hence (λ read h p f. h (p f)) (close_cond start part))

      alone_content : (start : ℕ) (side : Side) (count : ℕ) (pending_not : Bool) →
          Gives Kind (conditions.alone_content names inner content side count pending_not) (λ read. Told names program start side count → ReadTold names program start read)
      unfolding conditions.alone_content
      alone_content start side count pending_not =
          alone_part start false None side count pending_not >>= (λ part. hence (λ read h p s. h (p (λ few. few) s tt)) (content_from start part))

      content_by : (start : ℕ) (position : Position) (prim : Primary) (count : ℕ) (pending_not : Bool) →
          Gives Kind (conditions.content_by names inner content position prim count pending_not) (λ read. PrimTold names program start prim count → ReadTold names program start read)
      unfolding conditions.content_by
      content_by start position (prims.Alone side) count false = where_next (close_side start position side count) (alone_content start side count false)
      content_by start position (prims.Alone side) count true = alone_content start side count true
      content_by start position (prims.Test cond after) count pending_not = content_from start (alones.part_of cond after count pending_not)

      neg_content : (count : ℕ) → Gives Kind (conditions.neg_content names inner content count) (λ read. ReadTold names program count read)
      unfolding conditions.neg_content
      neg_content count = neg None count >>= (λ part. hence (λ read h p. h (p tt)) (content_from count part))

      prim_content : (position : Position) (count : ℕ) → Gives Kind (conditions.prim_content names inner content position count) (λ read. ReadTold names program count read)
      unfolding conditions.prim_content
      prim_content position count = prim count >>= (λ read. content_by count position read.prim read.count read.pending_not)

      in_content : (count : ℕ) → Gives Kind (conditions.in_content names inner content count) (λ read. ReadTold names program count read)
      unfolding conditions.in_content
      in_content count = mark left_parenthesis >>= (λ position. still (where_next (neg_content count) (prim_content position count)))

  content : (levels count : ℕ) → Gives Kind (conditions.content names levels count) (λ read. ReadTold names program count read)
  unfolding conditions.content
  content zero count = too_deep
  content (suc n) count = in_content (exprs.inner Kind names program finds n) (content n) count

  cond : Gives Kind (conditions.cond names) (λ part. PartTold names program 0 part)
  unfolding conditions.cond
  cond = cond_with (exprs.inner Kind names program finds max_parens) (content max_parens) 0

  pub whole_cond : Gives Kind (conditions.whole_cond names) (λ found. IsReadableCond names program found.0)
  unfolding conditions.whole_cond
  whole_cond = cond >>= (λ part. pure (λ p.
      let c = p.0.counted in
      let few = p.0.few (omega arith) in
      record { fit = p.0.fit; few = omega (arith, c, few) }))
