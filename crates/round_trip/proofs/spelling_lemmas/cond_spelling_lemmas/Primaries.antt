-- What spells one part of a condition without NOT before it: a test, a name, or a condition in
-- parentheses.
use Rattle.std.proofs.Common.{◌≡◌, ℕ, ◌+◌, ◌<◌, ◌≤◌, Bool, true, false, not, ◌&&◌, ◌⊎◌, inl, inr, [], ◌∷◌, ◌++◌, Option, Some, None, refl, ap, sym, ◌∙◌, subst, arith, append_assoc, append-nil}
use Rattle.std.specs.Prelude.{codes}
use Rattle.std.proofs.lemmas.Bool.{and_parts, both_ways}
use Rattle.cob_base.specs.Bytes.{left_parenthesis}
use Rattle.cob_tree.specs.declared.cond.ClassKind.{ClassKind}
use Rattle.cob_tree.specs.declared.cond.ClassKind.TheVariants as classes
use Rattle.cob_tree.specs.declared.cond.Cond.{Cond, ind-Cond, map-Cond, roll-Cond}
use Rattle.cob_tree.specs.declared.cond.Cond.TheOpen.{Cond-F}
use Rattle.cob_tree.specs.declared.cond.Cond.TheVariants as conds
use Rattle.cob_tree.specs.declared.cond.Rel.{Rel}
use Rattle.cob_tree.specs.declared.cond.Rel.TheVariants as rels
use Rattle.cob_tree.specs.declared.cond.SignKind.{SignKind}
use Rattle.cob_tree.specs.declared.cond.SignKind.TheVariants as signs
use Rattle.cob_tree.specs.declared.place.Expr.{Expr}
use Rattle.cob_tree.specs.declared.place.Expr.TheVariants as exprs
use Rattle.cob_tree.specs.declared.place.Op.{Op}
use Rattle.cob_tree.specs.declared.place.Operand.{Operand}
use Rattle.cob_tree.specs.declared.place.Operand.TheVariants as operands
use Rattle.cob_tree.specs.declared.place.Place.{Place}
use Rattle.cob_tree.specs.declared.program.Program.{Program}
use Rattle.cobol_lex.specs.declared.token.TokenKind.{TokenKind}
use Rattle.cobol_lex.specs.declared.token.TokenKind.TheVariants as kinds
use Rattle.parser_combinators.specs.declared.note.Position.{Position}
use Rattle.parser_combinators.specs.Form as form
use Rattle.parser_combinators.specs.Form.{begins_by}
use Rattle.parser_combinators.specs.Part as part
use Rattle.unparser.specs.Token.{Tokens, in_parentheses}
use Rattle.unparser.specs.Place.{op_mark, operand_tokens, place_tokens, expr_tokens}
use Rattle.unparser.specs.Condition.{cond_tokens, rel_tokens, not_tokens, class_word, sign_word}
use Rattle.symbol_tables.specs.data_names.Names.{Names}
use Rattle.program_facts.specs.term_counts.Condition.{cond_terms}
use Rattle.program_facts.specs.term_counts.Expression.{expr_terms, place_terms}
use Rattle.cobol_grammar.specs.declared.expr_forms.side.Side.{Side}
use Rattle.cobol_grammar.specs.declared.expr_forms.side.ValueKind.{ValueKind}
use Rattle.cobol_grammar.specs.declared.expr_forms.side.ValueKind.TheVariants as values
use Rattle.cobol_grammar.specs.declared.expr_forms.side.ParsedExpr.{ParsedExpr}
use Rattle.cobol_grammar.specs.declared.expr_forms.side.ParsedExpr.TheVariants as whats
use Rattle.cobol_grammar.specs.expr_forms.Expression as expressions
use Rattle.cobol_grammar.specs.expr_forms.Fault.{condition_fault, condition_fault_at, is_condition}
use Rattle.cobol_grammar.specs.expr_forms.Limit.{Inner}
use Rattle.cobol_grammar.specs.expr_forms.Side.{shape_of}
use Rattle.cobol_grammar.specs.expr_forms.Token.{is_of, begins_turn}
use Rattle.cobol_grammar.specs.declared.cond_forms.part.SimpleCond.{SimpleCond}
use Rattle.cobol_grammar.specs.declared.cond_forms.test.Primary.{Primary}
use Rattle.cobol_grammar.specs.declared.cond_forms.test.Primary.TheVariants as prims
use Rattle.cobol_grammar.specs.declared.cond_forms.test.Read.{Read}
use Rattle.cobol_grammar.specs.declared.cond_forms.test.Setting.{Setting}
use Rattle.cobol_grammar.specs.cond_forms.Alone as alones
use Rattle.cobol_grammar.specs.cond_forms.Primary as primaries
use Rattle.cobol_grammar.specs.cond_forms.Test as tests
use Rattle.round_trip.specs.spelled_forms.Spelling.{first_of, Any, Spelled}
use Rattle.round_trip.proofs.spelled_forms_lemmas.Makers.{pure, note, hence, where_behind, bind, ending, behind_none, behind_first, chosen_there, there_next, other_next}
use Rattle.round_trip.proofs.spelled_forms_lemmas.Tokens.{sign}
use Rattle.round_trip.specs.spelling.expr_spelling.Printable.{is_number, judged_expr, judged_place, IsPrintableExpr, IsPrintablePlace}
use Rattle.round_trip.specs.spelling.expr_spelling.Spelled.{Ends, continues_place, continues_expr, IsOperandSide, IsExprSide}
use Rattle.round_trip.proofs.spelling_lemmas.expr_spelling_lemmas.Layers.{expr-cases, tokens-Leaf, tokens-Place, judged-Leaf, judged-Place, terms-Leaf, terms-Both, terms-Place}
use Rattle.round_trip.proofs.spelling_lemmas.expr_spelling_lemmas.Tests.{expr-ends, op-ends, operand-first}
use Rattle.round_trip.proofs.spelling_lemmas.expr_spelling_lemmas.Places.{by_tokens, at_same, InnerSpells}
use Rattle.round_trip.proofs.spelling_lemmas.expr_spelling_lemmas.Exprs.{IsFound, FitBoth, both-fit, some-terms, plain-Minus, plain-Both, within-Minus, within-Both, unary_operand, unary_leaf, unary_minus, sum_none, sum_more}
use Rattle.round_trip.specs.spelling.cond_spelling.Printable.{is_value, are_comparable, IsPrintableCond}
use Rattle.round_trip.specs.spelling.cond_spelling.Behind.{continues_part}
use Rattle.round_trip.proofs.spelling_lemmas.cond_spelling_lemmas.Layers.{tokens-Relation, tokens-Class, tokens-SignIs, tokens-Named, tokens-And, tokens-Or, fit-Relation, fit-Class, fit-SignIs, fit-Named, terms-Relation, terms-Class, terms-SignIs, terms-Named, terms-Not, terms-And, terms-Or}
use Rattle.round_trip.proofs.spelling_lemmas.cond_spelling_lemmas.Tests.{part-ends}
use Rattle.round_trip.proofs.spelling_lemmas.cond_spelling_lemmas.Relations.{IsTest, FitRelation, no_test, class_spelled, sign_is_spelled, relation_spelled}

-- ---- faults, and what stands behind

condition-none : (position : Position) (kind : ValueKind) → is_condition kind ≡ true → condition_fault_at position kind ≡ None
condition-none position values.Condition e = refl
condition-none position kind e = absurd (both_ways false refl e)

condition-free : (side : Side) → is_condition side.kind ≡ true → condition_fault side ≡ None
unfolding condition_fault
condition-free side e = condition-none side.leaf side.kind e

rel-ends : (rel : Rel) (more : Tokens) (o : Option TokenKind) → Ends continues_expr (first_of (rel_tokens rel ++ more) o)
unfolding continues_expr continues_place is_of begins_turn
rel-ends rels.Equal more o = refl
rel-ends rels.NotEqual more o = refl
rel-ends rels.Less more o = refl
rel-ends rels.Greater more o = refl
rel-ends rels.LessEqual more o = refl
rel-ends rels.GreaterEqual more o = refl

class-ends : (said : Bool) (class : ClassKind) (o : Option TokenKind) → Ends continues_expr (first_of (not_tokens said ++ kinds.Word (class_word class) ∷ []) o)
unfolding continues_expr continues_place is_of begins_turn
class-ends true class o = refl
class-ends false class o = by class
  where
    by : (class : ClassKind) → Ends continues_expr (Some (kinds.Word (class_word class)))
    by classes.Numeric = refl
    by classes.Alphabetic = refl

sign-ends : (said : Bool) (sign : SignKind) (o : Option TokenKind) → Ends continues_expr (first_of (not_tokens said ++ kinds.Word (sign_word sign) ∷ []) o)
unfolding continues_expr continues_place is_of begins_turn
sign-ends true sign o = refl
sign-ends false sign o = by sign
  where
    by : (sign : SignKind) → Ends continues_expr (Some (kinds.Word (sign_word sign)))
    by signs.Positive = refl
    by signs.Negative = refl
    by signs.Zero = refl

pub front-of : (list more : Tokens) (o : Option TokenKind) → first_of (list ++ more) o ≡ first_of list (first_of more o)
front-of [] more o = refl
front-of (x ∷ list) more o = refl

-- ---- what was read

abbrev pub PrimIs : Cond → Primary → Type 0
PrimIs cond (prims.Test found setting) = found ≡ cond
PrimIs cond (prims.Alone side) =
    (place : Place) × (cond ≡ conds.Named place) × ((side.what ≡ whats.Ref place) ⊎ (side.what ≡ whats.Enclosed place)) × (is_condition side.kind ≡ true)

pub record IsRead (count : ℕ) (cond : Cond) (read : Read) : Type 0 where
  pub prim : PrimIs cond read.prim
  pub counted : read.count ≡ count
  pub pending_not : read.pending_not ≡ false

pub record IsPart (count : ℕ) (cond : Cond) (found : SimpleCond) : Type 0 where
  pub cond_is : found.cond ≡ cond
  pub counted : found.count ≡ count
  pub pending_not : found.pending_not ≡ false

test-read : (count : ℕ) (cond : Cond) (read : Read) → IsTest count cond read → IsRead count cond read
test-read count cond read h = record { prim = subst (λ prim. PrimIs cond prim) (sym h.prim) refl; counted = h.counted; pending_not = h.pending_not }

-- a name alone is settled as a condition
named_by : {n : ℕ} (negated : Bool) (place : Place) (what : ParsedExpr) (count : ℕ) (said : Bool) → (what ≡ whats.Ref place) ⊎ (what ≡ whats.Enclosed place) →
    Spelled (alones.named_by negated what count said) n [] Any (λ found. (found.cond ≡ alones.with_not negated (conds.Named place)) × (found.count ≡ count) × (found.pending_not ≡ said))
unfolding alones.named_by
named_by negated place what count said (inl is) = at_same (λ what. alones.named_by negated what count said) is (pure (refl, refl, refl))
named_by negated place what count said (inr is) = at_same (λ what. alones.named_by negated what count said) is (pure (refl, refl, refl))

pub alone_named : {n : ℕ} (negated : Bool) (setting : Option Setting) (place : Place) (side : Side) (count : ℕ) (said : Bool) → (side.what ≡ whats.Ref place) ⊎ (side.what ≡ whats.Enclosed place) →
    is_condition side.kind ≡ true →
    Spelled (alones.alone_part negated setting side count said) n [] Any (λ found. (found.cond ≡ alones.with_not negated (conds.Named place)) × (found.count ≡ count) × (found.pending_not ≡ said))
unfolding alones.alone_part alones.part_by_shape alones.named alones.ref_part alones.kept
alone_named {n = n} negated setting place side count said (inl is) cond =
    at_same (λ shape. alones.part_by_shape shape negated setting side count said) (ap (λ what. shape_of what) is) (by negated setting)
  where
    by : (negated : Bool) (setting : Option Setting) →
        Spelled (alones.ref_part negated setting side count said) n [] Any (λ found. (found.cond ≡ alones.with_not negated (conds.Named place)) × (found.count ≡ count) × (found.pending_not ≡ said))
    by true setting = behind_none (note (condition-free side cond)) (λ _ _. named_by true place side.what count said (inl is))
    by false None = behind_none (note (condition-free side cond)) (λ _ _. named_by false place side.what count said (inl is))
    by false (Some setting) = chosen_there _ cond (at_same (λ what. alones.kept setting what count said) is (pure (refl, refl, refl)))
alone_named negated setting place side count said (inr is) cond =
    at_same (λ shape. alones.part_by_shape shape negated setting side count said) (ap (λ what. shape_of what) is)
    (behind_none (note (condition-free side cond)) (λ _ _. named_by negated place side.what count said (inr is)))

settled_by : {n : ℕ} (negated : Bool) (setting : Option Setting) (cond : Cond) (prim : Primary) (count : ℕ) (said : Bool) → PrimIs cond prim → said ≡ false →
    Spelled (alones.part_by negated setting prim count said) n [] Any (IsPart count (alones.with_not negated cond))
unfolding alones.part_by
settled_by negated setting cond (prims.Test found after) count said is unsaid = pure (record { cond_is = ap (λ c. alones.with_not negated c) is; counted = refl; pending_not = unsaid })
settled_by negated setting cond (prims.Alone side) count said is unsaid =
    hence (λ found h. record { cond_is = h.0 ∙ ap (λ c. alones.with_not negated c) (sym is.1); counted = h.1; pending_not = h.2 ∙ unsaid }) (alone_named negated setting is.0 side count said is.2 is.3)

pub settled : {n : ℕ} (negated : Bool) (setting : Option Setting) (count : ℕ) (cond : Cond) (read : Read) → IsRead count cond read →
    Spelled (alones.settled negated setting read) n [] Any (IsPart count (alones.with_not negated cond))
settled negated setting count cond read h =
    hence (λ found k. record { cond_is = k.cond_is; counted = k.counted ∙ h.counted; pending_not = k.pending_not }) (settled_by negated setting cond read.prim read.count read.pending_not h.prim h.pending_not)

module _ (names : Names) (program : Program) where
  pub record IsExprRead (count : ℕ) (expr : Expr) (read : Read) : Type 0 where
    pub side : Side
    pub prim : read.prim ≡ prims.Alone side
    pub is : IsExprSide names program expr side
    pub counted : read.count ≡ count + expr_terms expr
    pub pending_not : read.pending_not ≡ false

  -- what stands in parentheses is spelled, within fewer levels of parentheses than these
  pub record ContentSpells (content : ℕ → form.Form Read) (levels : ℕ) : Type 0 where
    pub exprs : {n : ℕ} (count : ℕ) (expr : Expr) → IsPrintableExpr names program expr → expr_terms expr < levels → count + expr_terms expr ≤ 500 →
        Spelled (content count) n (in_parentheses (expr_tokens program expr false)) Any (IsExprRead count expr)
    pub conds : {n : ℕ} (count : ℕ) (cond : Cond) → IsPrintableCond names program cond → cond_terms cond < levels → count + cond_terms cond ≤ 500 →
        Spelled (content count) n (in_parentheses (cond_tokens program cond false)) Any (IsRead (count + cond_terms cond) cond)

  pub plain-And : (left right : Cond) → cond_tokens program (conds.And left right) false ≡ cond_tokens program left true ++ kinds.Word (codes "AND") ∷ cond_tokens program right true
  plain-And left right = tokens-And program left right false ∙ append-nil (cond_tokens program left true ++ kinds.Word (codes "AND") ∷ cond_tokens program right true)

  pub plain-Or : (left right : Cond) → cond_tokens program (conds.Or left right) false ≡ cond_tokens program left true ++ kinds.Word (codes "OR") ∷ cond_tokens program right true
  plain-Or left right = tokens-Or program left right false ∙ append-nil (cond_tokens program left true ++ kinds.Word (codes "OR") ∷ cond_tokens program right true)

  pub within-And : (left right : Cond) → cond_tokens program (conds.And left right) true ≡ in_parentheses (cond_tokens program (conds.And left right) false)
  within-And left right = tokens-And program left right true ∙ ap (λ list. in_parentheses list) (sym (plain-And left right))

  pub within-Or : (left right : Cond) → cond_tokens program (conds.Or left right) true ≡ in_parentheses (cond_tokens program (conds.Or left right) false)
  within-Or left right = tokens-Or program left right true ∙ ap (λ list. in_parentheses list) (sym (plain-Or left right))

  abbrev FilledCond : Type 0
  FilledCond = (cond : Cond) × (0 < cond_terms cond)

  filled-cond : (x : Cond-F FilledCond) → 0 < cond_terms (roll-Cond (map-Cond FilledCond Cond (λ e. e.0) x))
  filled-cond (Cond-F.Relation left rel right) =
      let e = terms-Relation left rel right in
      let some = some-terms left in
      subst (λ z. 0 < cond_terms z) (sym (conds.rolls-Relation left rel right)) (omega (arith, e, some))
  filled-cond (Cond-F.Class place class said) = let e = terms-Class place class said in subst (λ z. 0 < cond_terms z) (sym (conds.rolls-Class place class said)) (omega (arith, e))
  filled-cond (Cond-F.SignIs expr sign said) =
      let e = terms-SignIs expr sign said in
      let some = some-terms expr in
      subst (λ z. 0 < cond_terms z) (sym (conds.rolls-SignIs expr sign said)) (omega (arith, e, some))
  filled-cond (Cond-F.Named place) = let e = terms-Named place in subst (λ z. 0 < cond_terms z) (sym (conds.rolls-Named place)) (omega (arith, e))
  filled-cond (Cond-F.Not inside) = let e = terms-Not inside.0 in subst (λ z. 0 < cond_terms z) (sym (conds.rolls-Not inside.0)) (omega (arith, e))
  filled-cond (Cond-F.And left right) =
      let e = terms-And left.0 right.0 in
      let some = left.1 in
      subst (λ z. 0 < cond_terms z) (sym (conds.rolls-And left.0 right.0)) (omega (arith, e, some))
  filled-cond (Cond-F.Or left right) =
      let e = terms-Or left.0 right.0 in
      let some = left.1 in
      subst (λ z. 0 < cond_terms z) (sym (conds.rolls-Or left.0 right.0)) (omega (arith, e, some))

  pub some-cond : (cond : Cond) → 0 < cond_terms cond
  some-cond cond = ind-Cond (λ cond. 0 < cond_terms cond) (λ x y is. subst (λ z. 0 < cond_terms (roll-Cond z)) is (filled-cond y)) cond

  pub relation-fit : (left : Expr) (rel : Rel) (right : Expr) → IsPrintableCond names program (conds.Relation left rel right) → FitRelation names program left right
  relation-fit left rel right fit =
      let l = judged_expr names program left in
      let r = judged_expr names program right in
      let all = and_parts (is_value l && is_value r) (are_comparable l r) (sym (fit-Relation names program left rel right) ∙ fit) in
      let values = and_parts (is_value l) (is_value r) all.0 in
      let first = and_parts l.fit (not (is_condition l.kind)) values.0 in
      let second = and_parts r.fit (not (is_condition r.kind)) values.1 in
      record { left_fit = first.0; left_value = first.1; right_fit = second.0; right_value = second.1; comparable = all.1 }

  -- the fit conditions of one part
  abbrev pub Room : ℕ → ℕ → Cond → Type 0
  Room levels count cond = IsPrintableCond names program cond × (cond_terms cond ≤ levels) × (count + cond_terms cond ≤ 500)

  module _ {inner : Inner} {content : ℕ → form.Form Read} {levels : ℕ} (I : InnerSpells names program inner false levels) (C : ContentSpells content levels) where
    -- ---- an expression, and a test behind it

    module _ {tail : Tokens} {Behind : Option TokenKind → Type 0} {Has : Read → Type 0} (E : (o : Option TokenKind) → Behind o → Ends continues_expr (first_of tail o)) where
      unary_with : {n : ℕ} (count : ℕ) {tokens : Tokens} {Had : Side × ℕ → Type 0} → ((o : Option TokenKind) → begins_by (part.is_mark left_parenthesis) (first_of tokens o) ≡ false) →
          Spelled (expressions.unary names inner count) n tokens (Ends continues_place) Had →
          ((found : Side × ℕ) (m : ℕ) → Had found → Spelled (tests.tested names inner found.0 count found.1) m tail Behind Has) →
          Spelled (primaries.prim names inner content count) n (tokens ++ tail) Behind Has
      unfolding primaries.prim primaries.expr_prim primaries.side_prim
      unary_with count {tokens = tokens} first U G =
          other_next (part.is_mark left_parenthesis) _ (λ o b. ap (λ k. begins_by (part.is_mark left_parenthesis) k) (front-of tokens tail o) ∙ first (first_of tail o))
          (bind U (λ o b. (expr-ends (first_of tail o) (E o b)).0)
          (λ found h. behind_first (sum_none names program I found.1 found.0) (λ o b. (expr-ends (first_of tail o) (E o b)).1)
          (λ left e. at_same (λ left. tests.tested names inner left.0 count left.1) e (G found _ h))))

      leaf_both_with : {n : ℕ} (count : ℕ) (op : Op) (operand : Operand) (right : Expr) → FitBoth names program (exprs.Leaf operand) right →
          expr_terms (exprs.Leaf operand) ≤ levels → expr_terms right < levels → count + (expr_terms (exprs.Leaf operand) + expr_terms right) ≤ 500 →
          ((side : Side) (k m : ℕ) → IsFound names program count (exprs.Both op (exprs.Leaf operand) right) (side, k) → Spelled (tests.tested names inner side count k) m tail Behind Has) →
          Spelled (primaries.prim names inner content count) n (expr_tokens program (exprs.Leaf operand) true ++ ((kinds.Mark (op_mark op) ∷ expr_tokens program right true) ++ tail)) Behind Has
      unfolding primaries.prim primaries.expr_prim primaries.side_prim
      leaf_both_with count op operand right fit one few room G =
          other_next (part.is_mark left_parenthesis) _
          (λ o b. ap (λ list. begins_by (part.is_mark left_parenthesis) (first_of (list ++ ((kinds.Mark (op_mark op) ∷ expr_tokens program right true) ++ tail)) o)) (tokens-Leaf program operand true)
          ∙ ap (λ k. begins_by (part.is_mark left_parenthesis) k) (front-of (operand_tokens program operand) ((kinds.Mark (op_mark op) ∷ expr_tokens program right true) ++ tail) o)
          ∙ operand-first program left_parenthesis operand (Some (kinds.Mark (op_mark op))))
          (bind (unary_leaf names program I count operand true fit.left_fit one (omega (arith, room))) (λ o b. op-ends op)
          (λ found h. let k = h.counted in
          bind (sum_more names program I count found.1 op (exprs.Leaf operand) right found.0 h.side fit few h.counted (omega (arith, k, room))) E
          (λ left s. G left.0 left.1 _ s)))

      paren_both_with : {n : ℕ} (count : ℕ) (op : Op) (left right : Expr) → expr_tokens program left true ≡ in_parentheses (expr_tokens program left false) → FitBoth names program left right →
          expr_terms left < levels → expr_terms right < levels → count + (expr_terms left + expr_terms right) ≤ 500 →
          ((side : Side) (k m : ℕ) → IsFound names program count (exprs.Both op left right) (side, k) → Spelled (tests.tested names inner side count k) m tail Behind Has) →
          Spelled (primaries.prim names inner content count) n (expr_tokens program left true ++ ((kinds.Mark (op_mark op) ∷ expr_tokens program right true) ++ tail)) Behind Has
      unfolding primaries.prim primaries.parens_prim primaries.prim_behind primaries.side_prim
      paren_both_with count op left right e fit one few room G =
          by_tokens (ap (λ list. list ++ ((kinds.Mark (op_mark op) ∷ expr_tokens program right true) ++ tail)) e)
          (there_next (part.is_mark left_parenthesis) _ (λ o b. refl)
          (bind (C.exprs count left fit.left_fit one (omega (arith, room))) (λ o b. tt)
          (λ read h. let k = h.counted in
          at_same (λ prim. primaries.prim_behind names inner count prim read.count) h.prim
          (bind (sum_more names program I count read.count op left right h.side h.is fit few h.counted (omega (arith, k, room))) E
          (λ found s. G found.0 found.1 _ s)))))

      both_with : {n : ℕ} (count : ℕ) (op : Op) (left right : Expr) → FitBoth names program left right →
          expr_terms left < levels → expr_terms right < levels → count + (expr_terms left + expr_terms right) ≤ 500 →
          ((side : Side) (k m : ℕ) → IsFound names program count (exprs.Both op left right) (side, k) → Spelled (tests.tested names inner side count k) m tail Behind Has) →
          Spelled (primaries.prim names inner content count) n (expr_tokens program left true ++ ((kinds.Mark (op_mark op) ∷ expr_tokens program right true) ++ tail)) Behind Has
      both_with {n = n} count op left right =
          expr-cases (λ left. FitBoth names program left right →
          expr_terms left < levels → expr_terms right < levels → count + (expr_terms left + expr_terms right) ≤ 500 →
          ((side : Side) (k m : ℕ) → IsFound names program count (exprs.Both op left right) (side, k) → Spelled (tests.tested names inner side count k) m tail Behind Has) →
          Spelled (primaries.prim names inner content count) n (expr_tokens program left true ++ ((kinds.Mark (op_mark op) ∷ expr_tokens program right true) ++ tail)) Behind Has)
          (λ operand fit one few room G. leaf_both_with count op operand right fit (omega (arith, one)) few room G)
          (λ x fit one few room G. paren_both_with count op (exprs.Minus x) right (within-Minus names program x) fit one few room G)
          (λ o l r fit one few room G. paren_both_with count op (exprs.Both o l r) right (within-Both names program o l r) fit one few room G) left

      pub expr_with : {n : ℕ} (count : ℕ) (expr : Expr) → IsPrintableExpr names program expr → expr_terms expr ≤ levels → count + expr_terms expr ≤ 500 →
          ((side : Side) (k m : ℕ) → IsFound names program count expr (side, k) → Spelled (tests.tested names inner side count k) m tail Behind Has) →
          Spelled (primaries.prim names inner content count) n (expr_tokens program expr false ++ tail) Behind Has
      expr_with {n = n} count expr =
          expr-cases (λ expr. IsPrintableExpr names program expr → expr_terms expr ≤ levels → count + expr_terms expr ≤ 500 →
          ((side : Side) (k m : ℕ) → IsFound names program count expr (side, k) → Spelled (tests.tested names inner side count k) m tail Behind Has) →
          Spelled (primaries.prim names inner content count) n (expr_tokens program expr false ++ tail) Behind Has)
          (λ operand fit few room G.
          unary_with count (λ o. ap (λ list. begins_by (part.is_mark left_parenthesis) (first_of list o)) (tokens-Leaf program operand false) ∙ operand-first program left_parenthesis operand o)
          (unary_leaf names program I count operand false fit few room) (λ found m h. G found.0 found.1 m h))
          (λ x fit few room G.
          by_tokens (ap (λ list. list ++ tail) (plain-Minus names program x))
          (unary_with count (λ o. refl) (unary_minus names program I count x fit few room) (λ found m h. G found.0 found.1 m h)))
          (λ op left right fit few room G.
          let e = terms-Both op left right in
          let some = some-terms left in
          let others = some-terms right in
          by_tokens (ap (λ list. list ++ tail) (plain-Both names program op left right) ∙ append_assoc (expr_tokens program left true) (kinds.Mark (op_mark op) ∷ expr_tokens program right true) tail)
          (both_with count op left right (both-fit names program op left right fit) (omega (arith, e, few, others)) (omega (arith, e, few, some)) (omega (arith, e, room)) G)) expr

      -- a place, of which it is kept that it is a reference alone
      pub place_with : {n : ℕ} (count : ℕ) (place : Place) → IsPrintablePlace names program place → 1 + place_terms place ≤ levels → count + (1 + place_terms place) ≤ 500 →
          ((side : Side) (k m : ℕ) → IsOperandSide names program (operands.Place place) side → k ≡ count + (1 + place_terms place) → Spelled (tests.tested names inner side count k) m tail Behind Has) →
          Spelled (primaries.prim names inner content count) n (place_tokens program place ++ tail) Behind Has
      place_with count place fit few room G =
          let o = operands.Place place in
          let e = terms-Leaf o in
          let p = terms-Place place in
          by_tokens (ap (λ list. list ++ tail) (sym (tokens-Leaf program o false ∙ tokens-Place program place)))
          (unary_with count (λ k. ap (λ list. begins_by (part.is_mark left_parenthesis) (first_of list k)) (tokens-Leaf program o false) ∙ operand-first program left_parenthesis o k)
          (unary_operand names program I count o false (subst (λ j. j.fit ≡ true) (sym (judged-Leaf names program o ∙ judged-Place names program place)) fit) (omega (arith, e, p, few)) (omega (arith, e, p, room)))
          (λ found m h. G found.0 found.1 m h.side (h.counted refl ∙ ap (λ t. count + (1 + t)) p)))

    -- ---- parts of a condition

    -- behind which a NOT may stand
    pub relation_read : {n : ℕ} (count : ℕ) (left : Expr) (rel : Rel) (right : Expr) → Room levels count (conds.Relation left rel right) →
        Spelled (primaries.prim names inner content count) n (cond_tokens program (conds.Relation left rel right) true) (Ends continues_expr)
        (IsRead (count + cond_terms (conds.Relation left rel right)) (conds.Relation left rel right))
    relation_read count left rel right (fit, few, room) =
        let e = terms-Relation left rel right in
        let is = relation-fit left rel right fit in
        by_tokens (tokens-Relation program left rel right true)
        (expr_with {tail = rel_tokens rel ++ expr_tokens program right false} (λ o b. rel-ends rel (expr_tokens program right false) o) count left is.left_fit (omega (arith, e, few)) (omega (arith, e, room))
        (λ side k m h. let c = h.counted in
        hence (λ read t. let r = test-read (k + expr_terms right) (conds.Relation left rel right) read t in
        record { prim = r.prim; counted = r.counted ∙ ap (λ x. x + expr_terms right) c ∙ sum-is count (expr_terms left) (expr_terms right) (cond_terms (conds.Relation left rel right)) e; pending_not = r.pending_not })
        (relation_spelled names program I left rel right side count k h.side is (omega (arith, e, few)) (omega (arith, e, room, c)))))
      where
        sum-is : (count a b c : ℕ) → c ≡ a + b → (count + a) + b ≡ count + c
        sum-is count a b c e = omega (arith, e)

    pub relation_prim : {n : ℕ} (count : ℕ) (left : Expr) (rel : Rel) (right : Expr) → Room levels count (conds.Relation left rel right) →
        Spelled (primaries.prim names inner content count) n (cond_tokens program (conds.Relation left rel right) true) (Ends continues_part)
        (IsRead (count + cond_terms (conds.Relation left rel right)) (conds.Relation left rel right))
    relation_prim count left rel right room = where_behind (λ o b. (part-ends o b).expr) (relation_read count left rel right room)

    pub class_read : {n : ℕ} (count : ℕ) (place : Place) (class : ClassKind) (said : Bool) → Room levels count (conds.Class place class said) →
        Spelled (primaries.prim names inner content count) n (cond_tokens program (conds.Class place class said) true) Any
        (IsRead (count + cond_terms (conds.Class place class said)) (conds.Class place class said))
    class_read count place class said (fit, few, room) =
        let e = terms-Class place class said in
        let j = judged_place names program place in
        let is = and_parts j.fit (not (is_condition j.kind)) (sym (fit-Class names program place class said) ∙ fit) in
        by_tokens (tokens-Class program place class said true)
        (place_with {tail = not_tokens said ++ kinds.Word (class_word class) ∷ []} (λ o b. class-ends said class o) count place is.0 (omega (arith, e, few)) (omega (arith, e, room))
        (λ side k m h c.
        hence (λ read t. let r = test-read k (conds.Class place class said) read t in record { prim = r.prim; counted = r.counted ∙ c ∙ ap (λ x. count + x) (sym e); pending_not = r.pending_not })
        (class_spelled names program inner place class said side count k h (subst (λ j. not (is_condition j.kind) ≡ true) (sym (judged-Place names program place)) is.1))))

    pub class_prim : {n : ℕ} (count : ℕ) (place : Place) (class : ClassKind) (said : Bool) → Room levels count (conds.Class place class said) →
        Spelled (primaries.prim names inner content count) n (cond_tokens program (conds.Class place class said) true) (Ends continues_part)
        (IsRead (count + cond_terms (conds.Class place class said)) (conds.Class place class said))
    class_prim count place class said room = where_behind (λ o b. tt) (class_read count place class said room)

    pub sign_read : {n : ℕ} (count : ℕ) (expr : Expr) (sign : SignKind) (said : Bool) → Room levels count (conds.SignIs expr sign said) →
        Spelled (primaries.prim names inner content count) n (cond_tokens program (conds.SignIs expr sign said) true) Any
        (IsRead (count + cond_terms (conds.SignIs expr sign said)) (conds.SignIs expr sign said))
    sign_read count expr sign said (fit, few, room) =
        let e = terms-SignIs expr sign said in
        let j = judged_expr names program expr in
        let is = and_parts j.fit (is_number j.kind) (sym (fit-SignIs names program expr sign said) ∙ fit) in
        by_tokens (tokens-SignIs program expr sign said true)
        (expr_with {tail = not_tokens said ++ kinds.Word (sign_word sign) ∷ []} (λ o b. sign-ends said sign o) count expr is.0 (omega (arith, e, few)) (omega (arith, e, room))
        (λ side k m h.
        hence (λ read t. let r = test-read k (conds.SignIs expr sign said) read t in record { prim = r.prim; counted = r.counted ∙ h.counted ∙ ap (λ x. count + x) (sym e); pending_not = r.pending_not })
        (sign_is_spelled names program inner expr sign said side count k h.side is.1)))

    pub sign_prim : {n : ℕ} (count : ℕ) (expr : Expr) (sign : SignKind) (said : Bool) → Room levels count (conds.SignIs expr sign said) →
        Spelled (primaries.prim names inner content count) n (cond_tokens program (conds.SignIs expr sign said) true) (Ends continues_part)
        (IsRead (count + cond_terms (conds.SignIs expr sign said)) (conds.SignIs expr sign said))
    sign_prim count expr sign said room = where_behind (λ o b. tt) (sign_read count expr sign said room)

    pub named_prim : {n : ℕ} (count : ℕ) (place : Place) → Room levels count (conds.Named place) →
        Spelled (primaries.prim names inner content count) n (cond_tokens program (conds.Named place) true) (Ends continues_part) (IsRead (count + cond_terms (conds.Named place)) (conds.Named place))
    named_prim count place (fit, few, room) =
        let e = terms-Named place in
        let j = judged_place names program place in
        let is = and_parts j.fit (is_condition j.kind) (sym (fit-Named names program place) ∙ fit) in
        by_tokens (tokens-Named program place true ∙ sym (append-nil (place_tokens program place)))
        (place_with {tail = []} (λ o b. (part-ends o b).expr) count place is.0 (omega (arith, e, few)) (omega (arith, e, room))
        (λ side k m h c.
        hence (λ read t. record {
          prim = subst (λ prim. PrimIs (conds.Named place) prim) (sym t.prim)
              (place, refl, inl h.what, subst (λ kind. is_condition kind ≡ true) (sym (h.known.kind ∙ ap (λ j. j.kind) (judged-Place names program place))) is.1);
          counted = t.counted ∙ c ∙ ap (λ x. count + x) (sym e);
          pending_not = t.pending_not;
        })
        (no_test names program inner side count k)))

    -- behind the parentheses of a condition no test stands
    prim_after : {m : ℕ} (before count k : ℕ) (cond : Cond) (prim : Primary) → PrimIs cond prim → k ≡ count →
        Spelled (primaries.prim_behind names inner before prim k) m [] (Ends continues_part) (IsRead count cond)
    unfolding primaries.prim_behind primaries.side_prim
    prim_after before count k cond (prims.Test found setting) is e = pure (record { prim = is; counted = e; pending_not = refl })
    prim_after before count k cond (prims.Alone side) is e =
        behind_first (sum_none names program I k side) (λ o b. (expr-ends o (part-ends o b).expr).1)
        (λ left same. at_same (λ left. tests.tested names inner left.0 before left.1) same
        (hence (λ read t. record { prim = subst (λ prim. PrimIs cond prim) (sym t.prim) is; counted = t.counted ∙ e; pending_not = t.pending_not }) (no_test names program inner side before k)))

    pub paren_prim : {n : ℕ} (count : ℕ) (cond : Cond) → IsPrintableCond names program cond → cond_terms cond < levels → count + cond_terms cond ≤ 500 →
        Spelled (primaries.prim names inner content count) n (in_parentheses (cond_tokens program cond false)) (Ends continues_part) (IsRead (count + cond_terms cond) cond)
    unfolding primaries.prim primaries.parens_prim
    paren_prim count cond fit few room =
        there_next (part.is_mark left_parenthesis) _ (λ o b. refl)
        (ending (where_behind (λ o b. tt) (C.conds count cond fit few room)) (λ read h. prim_after count (count + cond_terms cond) read.count cond read.prim h.prim h.counted))
