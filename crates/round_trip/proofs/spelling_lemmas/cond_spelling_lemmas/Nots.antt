-- What is read of a condition behind which a NOT stands: it is read with the condition where this
-- ends in the name of a level 88, and isn't where it ends otherwise.
use Rattle.std.proofs.Common.{◌≡◌, ℕ, ◌+◌, ◌<◌, ◌≤◌, Bool, true, false, not, ◌⊎◌, inl, inr, [], ◌∷◌, ◌++◌, Option, Some, refl, ap, sym, ◌∙◌, subst, arith, append-nil}
use Rattle.std.specs.Prelude.{codes}
use Rattle.std.proofs.lemmas.Bool.{and_parts, both_ways}
use Rattle.cob_base.specs.Bytes.{left_parenthesis, right_parenthesis}
use Rattle.cob_tree.specs.declared.cond.ClassKind.{ClassKind}
use Rattle.cob_tree.specs.declared.cond.Cond.{Cond}
use Rattle.cob_tree.specs.declared.cond.Cond.TheVariants as conds
use Rattle.cob_tree.specs.declared.cond.Rel.{Rel}
use Rattle.cob_tree.specs.declared.cond.SignKind.{SignKind}
use Rattle.cob_tree.specs.declared.place.Expr.{Expr}
use Rattle.cob_tree.specs.declared.place.Operand.TheVariants as operands
use Rattle.cob_tree.specs.declared.place.Place.{Place}
use Rattle.cob_tree.specs.declared.program.Program.{Program}
use Rattle.cobol_lex.specs.declared.token.TokenKind.{TokenKind}
use Rattle.cobol_lex.specs.declared.token.TokenKind.TheVariants as kinds
use Rattle.parser_combinators.specs.declared.note.Position.{Position}
use Rattle.parser_combinators.specs.Form as form
use Rattle.parser_combinators.specs.Form.{begins_by}
use Rattle.parser_combinators.specs.Part as part
use Rattle.unparser.specs.Token.{Tokens, in_parentheses}
use Rattle.unparser.specs.Place.{place_tokens, expr_tokens}
use Rattle.unparser.specs.Condition.{cond_tokens, rel_tokens, not_tokens, class_word, sign_word}
use Rattle.symbol_tables.specs.data_names.Names.{Names}
use Rattle.program_facts.specs.term_counts.Condition.{cond_terms}
use Rattle.program_facts.specs.term_counts.Expression.{place_terms}
use Rattle.cobol_grammar.specs.declared.expr_forms.side.ExprForm.{ExprForm}
use Rattle.cobol_grammar.specs.declared.expr_forms.side.ExprForm.TheVariants as shapes
use Rattle.cobol_grammar.specs.declared.expr_forms.side.Side.{Side}
use Rattle.cobol_grammar.specs.declared.expr_forms.side.ParsedExpr.TheVariants as whats
use Rattle.cobol_grammar.specs.expr_forms.Fault.{is_condition}
use Rattle.cobol_grammar.specs.expr_forms.Limit.{Inner}
use Rattle.cobol_grammar.specs.expr_forms.Side.{shape_of, enclosed_what}
use Rattle.cobol_grammar.specs.expr_forms.Side as sides
use Rattle.cobol_grammar.specs.expr_forms.Token.{is_of, begins_turn}
use Rattle.cobol_grammar.specs.declared.cond_forms.part.SimpleCond.{SimpleCond}
use Rattle.cobol_grammar.specs.declared.cond_forms.test.Primary.{Primary}
use Rattle.cobol_grammar.specs.declared.cond_forms.test.Primary.TheVariants as prims
use Rattle.cobol_grammar.specs.declared.cond_forms.test.Read.{Read}
use Rattle.cobol_grammar.specs.declared.cond_forms.test.Setting.{Setting}
use Rattle.cobol_grammar.specs.cond_forms.Alone as alones
use Rattle.cobol_grammar.specs.cond_forms.Condition as conditions
use Rattle.cobol_grammar.specs.cond_forms.Neg as negs
use Rattle.cobol_grammar.specs.cond_forms.Primary as primaries
use Rattle.cobol_grammar.specs.cond_forms.Test as tests
use Rattle.cobol_grammar.specs.cond_forms.Token.{begins_rel, begins_rel_behind, begins_plain_rel, begins_sign, begins_class, joins}
use Rattle.round_trip.specs.spelled_forms.Spelling.{first_of, Any, Spelled}
use Rattle.round_trip.proofs.spelled_forms_lemmas.Makers.{pure, hence, where_behind, bind, then, ending, behind_none, behind_first, there_next, other_next}
use Rattle.round_trip.proofs.spelled_forms_lemmas.Tokens.{sign, key}
use Rattle.round_trip.specs.spelling.expr_spelling.Printable.{is_number, judged_expr, judged_place, IsPrintablePlace}
use Rattle.round_trip.specs.spelling.expr_spelling.Spelled.{Ends, continues_place, continues_expr, IsOperandSide}
use Rattle.round_trip.proofs.spelling_lemmas.expr_spelling_lemmas.Layers.{judged-Place}
use Rattle.round_trip.proofs.spelling_lemmas.expr_spelling_lemmas.Places.{by_tokens, at_same, tally, InnerSpells}
use Rattle.round_trip.proofs.spelling_lemmas.expr_spelling_lemmas.Exprs.{sum_none}
use Rattle.round_trip.specs.spelling.cond_spelling.Printable.{IsPrintableCond}
use Rattle.round_trip.specs.spelling.cond_spelling.Behind.{continues_part, IsNot, BeginsPhrase}
use Rattle.round_trip.proofs.spelling_lemmas.cond_spelling_lemmas.Layers.{cond-cases, tokens-Relation, tokens-Class, tokens-SignIs, tokens-Named, tokens-Not, fit-Class, fit-SignIs, fit-Named, fit-Not, terms-Named, terms-Not}
use Rattle.round_trip.proofs.spelling_lemmas.cond_spelling_lemmas.Tests.{rejects-not, rejects-rel, place-front, part-ends, cond-ends, close-cond}
use Rattle.round_trip.proofs.spelling_lemmas.cond_spelling_lemmas.Relations.{no_test}
use Rattle.round_trip.proofs.spelling_lemmas.cond_spelling_lemmas.Primaries.{PrimIs, IsRead, IsPart, alone_named, settled, ContentSpells, place_with, relation-fit, Room, relation_read, class_read, sign_read, within-And, within-Or}
use Rattle.round_trip.proofs.spelling_lemmas.cond_spelling_lemmas.Conditions.{expr-start, place-start}

abbrev pub not_kind : Tokens
not_kind = kinds.Word (codes "NOT") ∷ []

-- ---- what stands behind

not-ends : continues_expr (kinds.Word (codes "NOT")) ≡ false
unfolding continues_expr continues_place is_of begins_turn
not-ends = refl

not-joins : joins (kinds.Word (codes "NOT")) ≡ false
unfolding joins
not-joins = refl

not-turns : begins_turn (kinds.Word (codes "NOT")) ≡ false
unfolding begins_turn
not-turns = refl

is-not-expr : (o : Option TokenKind) → IsNot o → Ends continues_expr o
is-not-expr o e = subst (λ k. Ends continues_expr k) (sym e) not-ends

abbrev NoTest : Option TokenKind → Type 0
NoTest o = Ends (begins_rel_behind true) o × Ends begins_sign o × Ends begins_class o

phrase-on : NoTest (Some (kinds.Word (codes "ON")))
unfolding begins_rel_behind begins_plain_rel begins_sign begins_class
phrase-on = (refl, refl, refl)

phrase-at : NoTest (Some (kinds.Word (codes "AT")))
unfolding begins_rel_behind begins_plain_rel begins_sign begins_class
phrase-at = (refl, refl, refl)

-- no test begins with the phrase of an arm
phrase : (o : Option TokenKind) → BeginsPhrase o → NoTest o
phrase o (inl e) = subst (λ k. NoTest k) (sym e) phrase-on
phrase o (inr e) = subst (λ k. NoTest k) (sym e) phrase-at

phrase-no-join : (o : Option TokenKind) → BeginsPhrase o → Ends joins o
unfolding joins
phrase-no-join o (inl e) = subst (λ k. begins_by joins k ≡ false) (sym e) refl
phrase-no-join o (inr e) = subst (λ k. begins_by joins k ≡ false) (sym e) refl

-- neither a NOT nor such a phrase joins
pub not-no-join : (o : Option TokenKind) → IsNot o → Ends joins o
not-no-join o e = subst (λ k. Ends joins k) (sym e) not-joins

pub no-join : (o : Option TokenKind) → BeginsPhrase o → Ends joins o
no-join o b = phrase-no-join o b

-- ---- what was read, with a NOT behind it

record IsNotAlone (count : ℕ) (side : Side) (read : Read) : Type 0 where
  pub prim : read.prim ≡ prims.Alone side
  pub counted : read.count ≡ count
  pub pending_not : read.pending_not ≡ true

record IsNotRead (count : ℕ) (place : Place) (read : Read) : Type 0 where
  pub side : Side
  pub prim : read.prim ≡ prims.Alone side
  pub what : (side.what ≡ whats.Ref place) ⊎ (side.what ≡ whats.Enclosed place)
  pub is : is_condition side.kind ≡ true
  pub counted : read.count ≡ count
  pub pending_not : read.pending_not ≡ true

pub record IsNotPart (count : ℕ) (cond : Cond) (found : SimpleCond) : Type 0 where
  pub cond_is : found.cond ≡ cond
  pub counted : found.count ≡ count
  pub pending_not : found.pending_not ≡ true

-- the name of a level 88 in parentheses
pub record IsEnclosed (count : ℕ) (place : Place) (read : Read) : Type 0 where
  pub side : Side
  pub prim : read.prim ≡ prims.Alone side
  pub what : side.what ≡ whats.Enclosed place
  pub is : is_condition side.kind ≡ true
  pub counted : read.count ≡ count

untested : {n : ℕ} (shape : ExprForm) (side : Side) (count : ℕ) → Spelled (tests.class_or shape true (Some true) side count) n [] (Ends begins_class) (IsNotAlone count side)
unfolding tests.class_or tests.untested
untested shapes.Ref side count = other_next begins_class _ (λ o b. b) (pure (record { prim = refl; counted = refl; pending_not = refl }))
untested shapes.Literal side count = pure (record { prim = refl; counted = refl; pending_not = refl })
untested shapes.Enclosed side count = pure (record { prim = refl; counted = refl; pending_not = refl })
untested shapes.Sum side count = pure (record { prim = refl; counted = refl; pending_not = refl })

not_tested : {n : ℕ} (names : Names) (inner : Inner) (side : Side) (before count : ℕ) →
    Spelled (tests.tested names inner side before count) n not_kind BeginsPhrase (IsNotAlone count side)
unfolding tests.tested tests.not_test tests.one_test
not_tested names inner side before count =
    other_next (part.is_key (codes "IS")) _ (λ o b. refl) (there_next (part.is_key (codes "NOT")) _ (λ o b. refl)
    (ending (where_behind (λ o b. tt) (key (codes "NOT"))) (λ _ _.
    other_next (begins_rel_behind true) _ (λ o b. (phrase o b).0) (other_next begins_sign _ (λ o b. (phrase o b).1)
    (where_behind (λ o b. (phrase o b).2) (untested (shape_of side.what) side count))))))

-- ---- settled

not_settled : {n : ℕ} (negated : Bool) (setting : Option Setting) (count : ℕ) (place : Place) (read : Read) → IsNotRead count place read →
    Spelled (alones.settled negated setting read) n [] Any (IsNotPart count (alones.with_not negated (conds.Named place)))
unfolding alones.part_by
not_settled negated setting count place read h =
    at_same (λ prim. alones.part_by negated setting prim read.count read.pending_not) h.prim
    (hence (λ found k. record { cond_is = k.0; counted = k.1 ∙ h.counted; pending_not = k.2 ∙ h.pending_not })
    (alone_named negated setting place h.side read.count read.pending_not h.what h.is))

-- ---- names

abbrev pub is_named : Cond → Bool
is_named (conds.Named place) = true
is_named _ = false

pub named-or : (cond : Cond) → ((place : Place) × (cond ≡ conds.Named place)) ⊎ (is_named cond ≡ false)
named-or cond =
    cond-cases (λ cond. ((place : Place) × (cond ≡ conds.Named place)) ⊎ (is_named cond ≡ false)) (record {
      relation = λ left rel right. inr refl;
      class = λ place class said. inr refl;
      sign = λ expr sign said. inr refl;
      named = λ place. inl (place, refl);
      not = λ inside. inr refl;
      both = λ left right. inr refl;
      either = λ left right. inr refl;
    }) cond

module _ (names : Names) (program : Program) where
  -- a name in parentheses is spelled, within fewer levels of parentheses than these
  pub record NamesSpell (content : ℕ → form.Form Read) (levels : ℕ) : Type 0 where
    pub named : {n : ℕ} (count : ℕ) (place : Place) → IsPrintablePlace names program place → is_condition (judged_place names program place).kind ≡ true → 1 + place_terms place < levels →
        count + (1 + place_terms place) ≤ 500 → Spelled (content count) n (in_parentheses (place_tokens program place)) Any (IsEnclosed (count + (1 + place_terms place)) place)

  module _ {inner : Inner} {content : ℕ → form.Form Read} {levels : ℕ} (I : InnerSpells names program inner false levels) (C : ContentSpells names program content levels) where
    -- ---- a name in parentheses

    abbrev Closes : Option TokenKind → Type 0
    Closes behind = behind ≡ Some (kinds.Mark right_parenthesis)

    closes-part : (o : Option TokenKind) → Closes o → Ends continues_part o
    closes-part o e = subst (λ k. Ends continues_part k) (sym e) close-part
      where
        close-part : continues_part (kinds.Mark right_parenthesis) ≡ false
        close-part = (cond-ends (Some (kinds.Mark right_parenthesis)) close-cond).0

    record IsBare (count : ℕ) (place : Place) (read : Read) : Type 0 where
      pub side : Side
      pub prim : read.prim ≡ prims.Alone side
      pub what : side.what ≡ whats.Ref place
      pub is : is_condition side.kind ≡ true
      pub counted : read.count ≡ count
      pub pending_not : read.pending_not ≡ false

    condition-side : (place : Place) (side : Side) → IsOperandSide names program (operands.Place place) side → is_condition (judged_place names program place).kind ≡ true → is_condition side.kind ≡ true
    condition-side place side h is = subst (λ kind. is_condition kind ≡ true) (sym (h.known.kind ∙ ap (λ j. j.kind) (judged-Place names program place))) is

    close_name : {n : ℕ} (count : ℕ) (place : Place) (position : Position) (side : Side) (k : ℕ) → side.what ≡ whats.Ref place → is_condition side.kind ≡ true → k ≡ count →
        Spelled (conditions.content_by names inner content position (prims.Alone side) k false) n (kinds.Mark right_parenthesis ∷ []) Any (IsEnclosed count place)
    unfolding conditions.content_by conditions.close_side sides.enclosed
    close_name count place position side k what is e =
        there_next (part.is_mark right_parenthesis) _ (λ o b. refl)
        (ending (sign (part.is_mark right_parenthesis) refl)
        (λ _ _. pure (record { side = sides.enclosed position side; prim = refl; what = ap (λ what. enclosed_what what) what; is = is; counted = e })))

    pub name_inside : {n : ℕ} (count : ℕ) (place : Place) → IsPrintablePlace names program place → is_condition (judged_place names program place).kind ≡ true → 1 + place_terms place ≤ levels →
        count + (1 + place_terms place) ≤ 500 →
        Spelled (conditions.in_content names inner content count) n (in_parentheses (place_tokens program place)) Any (IsEnclosed (count + (1 + place_terms place)) place)
    unfolding conditions.in_content conditions.prim_content
    name_inside count place fit is few room =
        then (sign (part.is_mark left_parenthesis) refl)
        (λ position _. other_next (part.is_key (codes "NOT")) _ (λ o b. place-front names program rejects-not place fit (kinds.Mark right_parenthesis ∷ []) o)
        (bind {Had = IsBare (count + (1 + place_terms place)) place} (by_tokens (sym (append-nil (place_tokens program place)))
        (place_with names program I C {tail = []} {Behind = Closes} (λ o b. (part-ends o (closes-part o b)).expr) count place fit few room
        (λ side k m h c. where_behind closes-part (hence (λ read t. record { side = side; prim = t.prim; what = h.what; is = condition-side place side h is; counted = t.counted ∙ c; pending_not = t.pending_not })
        (no_test names program inner side count k)))))
        (λ o b. refl)
        (λ read h. at_same (λ said. conditions.content_by names inner content position read.prim read.count said) h.pending_not
        (at_same (λ prim. conditions.content_by names inner content position prim read.count false) h.prim
        (close_name (count + (1 + place_terms place)) place position h.side read.count h.what h.is h.counted)))))

    -- ---- one part, behind which a NOT stands

    abbrev pub Closed : Cond → Type 0
    Closed cond = (n : ℕ) (setting : Option Setting) (count : ℕ) → Room names program levels count cond →
        Spelled (negs.neg names inner content setting count) n (cond_tokens program cond true) IsNot (IsPart (count + cond_terms cond) cond)

    abbrev pub Open : Cond → Type 0
    Open cond = (n : ℕ) (setting : Option Setting) (count : ℕ) → Room names program levels count cond →
        Spelled (negs.neg names inner content setting count) n (cond_tokens program cond true ++ not_kind) BeginsPhrase (IsNotPart (count + cond_terms cond) cond)

    neg_by : {n : ℕ} {tokens : Tokens} {Behind : Option TokenKind → Type 0} {Had : Read → Type 0} {Has : SimpleCond → Type 0} (setting : Option Setting) (count : ℕ) →
        ((o : Option TokenKind) → Behind o → Ends (part.is_key (codes "NOT")) (first_of tokens o)) → ((o : Option TokenKind) → Behind o → Ends begins_rel (first_of tokens o)) →
        Spelled (primaries.prim names inner content count) n tokens Behind Had → ((read : Read) (m : ℕ) → Had read → Spelled (alones.settled false setting read) m [] Behind Has) →
        Spelled (negs.neg names inner content setting count) n tokens Behind Has
    unfolding negs.neg negs.prim_part
    neg_by setting count no_not no_rel P S =
        other_next (part.is_key (codes "NOT")) _ no_not (other_next begins_rel _ no_rel (ending P (λ read h. S read _ h)))

    closed_by : {n : ℕ} (setting : Option Setting) (count : ℕ) (cond : Cond) → ((o : Option TokenKind) → Ends (part.is_key (codes "NOT")) (first_of (cond_tokens program cond true) o)) →
        ((o : Option TokenKind) → Ends begins_rel (first_of (cond_tokens program cond true) o)) →
        Spelled (primaries.prim names inner content count) n (cond_tokens program cond true) IsNot (IsRead (count + cond_terms cond) cond) →
        Spelled (negs.neg names inner content setting count) n (cond_tokens program cond true) IsNot (IsPart (count + cond_terms cond) cond)
    closed_by setting count cond no_not no_rel P =
        neg_by setting count (λ o b. no_not o) (λ o b. no_rel o) P (λ read m h. where_behind (λ o b. tt) (settled false setting (count + cond_terms cond) cond read h))

    pub relation_closed : (left : Expr) (rel : Rel) (right : Expr) → Closed (conds.Relation left rel right)
    relation_closed left rel right n setting count room =
        let is = relation-fit names program left rel right room.0 in
        let more = rel_tokens rel ++ expr_tokens program right false in
        let e = tokens-Relation program left rel right true in
        closed_by setting count (conds.Relation left rel right) (expr-start names program I C rejects-not (conds.Relation left rel right) left more e is.left_fit)
        (expr-start names program I C rejects-rel (conds.Relation left rel right) left more e is.left_fit)
        (where_behind is-not-expr (relation_read names program I C count left rel right room))

    pub class_closed : (place : Place) (class : ClassKind) (said : Bool) → Closed (conds.Class place class said)
    class_closed place class said n setting count room =
        let j = judged_place names program place in
        let is = and_parts j.fit (not (is_condition j.kind)) (sym (fit-Class names program place class said) ∙ room.0) in
        let more = not_tokens said ++ kinds.Word (class_word class) ∷ [] in
        let e = tokens-Class program place class said true in
        closed_by setting count (conds.Class place class said) (place-start names program I C rejects-not (conds.Class place class said) place more e is.0)
        (place-start names program I C rejects-rel (conds.Class place class said) place more e is.0) (where_behind (λ o b. tt) (class_read names program I C count place class said room))

    pub sign_closed : (expr : Expr) (sign : SignKind) (said : Bool) → Closed (conds.SignIs expr sign said)
    sign_closed expr sign said n setting count room =
        let j = judged_expr names program expr in
        let is = and_parts j.fit (is_number j.kind) (sym (fit-SignIs names program expr sign said) ∙ room.0) in
        let more = not_tokens said ++ kinds.Word (sign_word sign) ∷ [] in
        let e = tokens-SignIs program expr sign said true in
        closed_by setting count (conds.SignIs expr sign said) (expr-start names program I C rejects-not (conds.SignIs expr sign said) expr more e is.0)
        (expr-start names program I C rejects-rel (conds.SignIs expr sign said) expr more e is.0) (where_behind (λ o b. tt) (sign_read names program I C count expr sign said room))

    pub named_open : (place : Place) → Open (conds.Named place)
    named_open place n setting count (fit, few, room) =
        let e = terms-Named place in
        let j = judged_place names program place in
        let is = and_parts j.fit (is_condition j.kind) (sym (fit-Named names program place) ∙ fit) in
        let tokens = tokens-Named program place true in
        by_tokens (ap (λ list. list ++ not_kind) tokens)
        (neg_by {Had = IsNotRead (count + cond_terms (conds.Named place)) place} setting count (λ o b. place-front names program rejects-not place is.0 not_kind o)
        (λ o b. place-front names program rejects-rel place is.0 not_kind o)
        (place_with names program I C {tail = not_kind} (λ o b. not-ends) count place is.0 (omega (arith, e, few)) (omega (arith, e, room))
        (λ side k m h c. hence (λ read t. record {
          side = side;
          prim = t.prim;
          what = inl h.what;
          is = condition-side place side h is.1;
          counted = t.counted ∙ c ∙ ap (λ x. count + x) (sym e);
          pending_not = t.pending_not;
        }) (not_tested names inner side count k)))
        (λ read m h. where_behind (λ o b. tt) (not_settled false setting (count + cond_terms (conds.Named place)) place read h)))

    -- ---- in parentheses

    after_test : {m : ℕ} (before count k : ℕ) (cond : Cond) (prim : Primary) → is_named cond ≡ false → PrimIs cond prim → k ≡ count →
        Spelled (primaries.prim_behind names inner before prim k) m [] Any (IsRead count cond)
    unfolding primaries.prim_behind
    after_test before count k cond (prims.Test found setting) other is e = pure (record { prim = is; counted = e; pending_not = refl })
    after_test before count k cond (prims.Alone side) other is e = absurd (both_ways (is_named cond) other (ap (λ c. is_named c) is.1))

    paren_closed : {n : ℕ} (count : ℕ) (cond : Cond) → is_named cond ≡ false → IsPrintableCond names program cond → cond_terms cond < levels → count + cond_terms cond ≤ 500 →
        Spelled (primaries.prim names inner content count) n (in_parentheses (cond_tokens program cond false)) Any (IsRead (count + cond_terms cond) cond)
    unfolding primaries.prim primaries.parens_prim
    paren_closed count cond other fit few room =
        there_next (part.is_mark left_parenthesis) _ (λ o b. refl)
        (ending (C.conds count cond fit few room) (λ read h. after_test count (count + cond_terms cond) read.count cond read.prim other h.prim h.counted))

    after_name : {m : ℕ} (before count k : ℕ) (place : Place) (side : Side) → side.what ≡ whats.Enclosed place → is_condition side.kind ≡ true → k ≡ count →
        Spelled (primaries.prim_behind names inner before (prims.Alone side) k) m not_kind BeginsPhrase (IsNotRead count place)
    unfolding primaries.prim_behind primaries.side_prim
    after_name before count k place side what is e =
        behind_first (sum_none names program I k side) (λ o b. not-turns)
        (λ left same. at_same (λ left. tests.tested names inner left.0 before left.1) same
        (hence (λ read t. record { side = side; prim = t.prim; what = inr what; is = is; counted = t.counted ∙ e; pending_not = t.pending_not }) (not_tested names inner side before k)))

    not-counted : (count a c : ℕ) → c ≡ 1 + a → count + 1 + a ≡ count + c
    not-counted count a c e = omega (arith, e)

    not_closed : (inside : Cond) → is_named inside ≡ false → Closed (conds.Not inside)
    unfolding negs.neg negs.not_neg negs.behind_not negs.prim_part begins_plain_rel
    not_closed inside other n setting count (fit, few, room) =
        let e = terms-Not inside in
        by_tokens (tokens-Not program inside true)
        (there_next (part.is_key (codes "NOT")) _ (λ o b. refl)
        (then (key (codes "NOT")) (λ _ _. other_next begins_plain_rel _ (λ o b. refl)
        (behind_none (tally count 1 (omega (arith, e, room)))
        (λ more same. at_same (λ m. negs.prim_part names inner content true setting m) same
        (ending (where_behind (λ o b. tt) (paren_closed (count + 1) inside other (sym (fit-Not names program inside) ∙ fit) (omega (arith, e, few)) (omega (arith, e, room))))
        (λ read h. hence (λ found k. record { cond_is = k.cond_is; counted = k.counted ∙ not-counted count (cond_terms inside) (cond_terms (conds.Not inside)) e; pending_not = k.pending_not })
        (where_behind (λ o b. tt) (settled true setting (count + 1 + cond_terms inside) inside read h)))))))))

    module _ (N : NamesSpell content levels) where
      paren_open : {n : ℕ} (count : ℕ) (place : Place) → IsPrintablePlace names program place → is_condition (judged_place names program place).kind ≡ true → 1 + place_terms place < levels →
          count + (1 + place_terms place) ≤ 500 →
          Spelled (primaries.prim names inner content count) n (in_parentheses (place_tokens program place) ++ not_kind) BeginsPhrase (IsNotRead (count + (1 + place_terms place)) place)
      unfolding primaries.prim primaries.parens_prim
      paren_open count place fit is few room =
          there_next (part.is_mark left_parenthesis) _ (λ o b. refl)
          (then (N.named count place fit is few room)
          (λ read h. at_same (λ prim. primaries.prim_behind names inner count prim read.count) h.prim
          (after_name count (count + (1 + place_terms place)) read.count place h.side h.what h.is h.counted)))

      named-inside : (place : Place) → cond_tokens program (conds.Not (conds.Named place)) true ≡ kinds.Word (codes "NOT") ∷ in_parentheses (place_tokens program place)
      named-inside place = tokens-Not program (conds.Named place) true ∙ ap (λ list. kinds.Word (codes "NOT") ∷ in_parentheses list) (tokens-Named program place false)

      not_open : (place : Place) → Open (conds.Not (conds.Named place))
      unfolding negs.neg negs.not_neg negs.behind_not negs.prim_part begins_plain_rel
      not_open place n setting count (fit, few, room) =
          let e = terms-Not (conds.Named place) in
          let t = terms-Named place in
          let j = judged_place names program place in
          let is = and_parts j.fit (is_condition j.kind) (sym (fit-Named names program place) ∙ sym (fit-Not names program (conds.Named place)) ∙ fit) in
          by_tokens (ap (λ list. list ++ not_kind) (named-inside place))
          (there_next (part.is_key (codes "NOT")) _ (λ o b. refl)
          (then (key (codes "NOT")) (λ _ _. other_next begins_plain_rel _ (λ o b. refl)
          (behind_none (tally count 1 (omega (arith, e, t, room)))
          (λ more same. at_same (λ m. negs.prim_part names inner content true setting m) same
          (ending (paren_open (count + 1) place is.0 is.1 (omega (arith, e, t, few)) (omega (arith, e, t, room)))
          (λ read h. hence (λ found k. record {
            cond_is = k.cond_is;
            counted = k.counted ∙ not-counted count (1 + place_terms place) (cond_terms (conds.Not (conds.Named place))) (e ∙ ap (λ x. 1 + x) t);
            pending_not = k.pending_not;
          })
          (where_behind (λ o b. tt) (not_settled true setting (count + 1 + (1 + place_terms place)) place read h)))))))))

      pub not_either : (inside : Cond) → Closed (conds.Not inside) ⊎ Open (conds.Not inside)
      not_either inside = by (named-or inside)
        where
          by : ((place : Place) × (inside ≡ conds.Named place)) ⊎ (is_named inside ≡ false) → Closed (conds.Not inside) ⊎ Open (conds.Not inside)
          by (inl (place, is)) = inr (subst (λ c. Open (conds.Not c)) (sym is) (not_open place))
          by (inr other) = inl (not_closed inside other)

      -- ---- within another condition

      abbrev pub ClosedWithin : Cond → Type 0
      ClosedWithin cond = (n : ℕ) (setting : Option Setting) (count : ℕ) → IsPrintableCond names program cond → cond_terms cond < levels → count + cond_terms cond ≤ 500 →
          Spelled (negs.neg names inner content setting count) n (cond_tokens program cond true) IsNot (IsPart (count + cond_terms cond) cond)

      abbrev pub OpenWithin : Cond → Type 0
      OpenWithin cond = (n : ℕ) (setting : Option Setting) (count : ℕ) → IsPrintableCond names program cond → cond_terms cond < levels → count + cond_terms cond ≤ 500 →
          Spelled (negs.neg names inner content setting count) n (cond_tokens program cond true ++ not_kind) BeginsPhrase (IsNotPart (count + cond_terms cond) cond)

      abbrev pub Within : Cond → Type 0
      Within cond = ClosedWithin cond ⊎ OpenWithin cond

      weaker : (cond : Cond) → Closed cond ⊎ Open cond → Within cond
      weaker cond (inl S) = inl (λ n setting count fit few room. S n setting count (fit, omega (arith, few), room))
      weaker cond (inr S) = inr (λ n setting count fit few room. S n setting count (fit, omega (arith, few), room))

      opens-no-rel : begins_rel (kinds.Mark left_parenthesis) ≡ false
      unfolding begins_rel
      opens-no-rel = refl

      joined_closed : (cond : Cond) → is_named cond ≡ false → cond_tokens program cond true ≡ in_parentheses (cond_tokens program cond false) → ClosedWithin cond
      joined_closed cond other e n setting count fit few room =
          closed_by setting count cond (λ o. ap (λ list. begins_by (part.is_key (codes "NOT")) (first_of list o)) e) (λ o. ap (λ list. begins_by begins_rel (first_of list o)) e ∙ opens-no-rel)
          (by_tokens e (where_behind (λ o b. tt) (paren_closed count cond other fit few room)))

      pub within_parts : (cond : Cond) → Within cond
      within_parts cond =
          cond-cases Within (record {
            relation = λ left rel right. weaker (conds.Relation left rel right) (inl (relation_closed left rel right));
            class = λ place class said. weaker (conds.Class place class said) (inl (class_closed place class said));
            sign = λ expr sign said. weaker (conds.SignIs expr sign said) (inl (sign_closed expr sign said));
            named = λ place. weaker (conds.Named place) (inr (named_open place));
            not = λ inside. weaker (conds.Not inside) (not_either inside);
            both = λ left right. inl (joined_closed (conds.And left right) refl (within-And names program left right));
            either = λ left right. inl (joined_closed (conds.Or left right) refl (within-Or names program left right));
          }) cond
