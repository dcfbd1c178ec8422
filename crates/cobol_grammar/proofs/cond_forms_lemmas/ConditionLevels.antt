-- More levels of parentheses only add to what conditions read.
use Rattle.std.proofs.Common.{ℕ, zero, suc, ◌≤◌, Bool, true, false, Option, Some, None, arith}
use Rattle.std.specs.Prelude.{codes}
use Rattle.cob_base.specs.Bytes.{left_parenthesis}
use Rattle.cob_tree.specs.declared.cond.Cond.{Cond}
use Rattle.parser_combinators.specs.declared.note.Position.{Position}
use Rattle.parser_combinators.specs.declared.why.Why.TheVariants.{Parens}
use Rattle.parser_combinators.specs.Form.{Form}
use Rattle.parser_combinators.specs.Part.{is_mark, too_deep}
use Rattle.parser_combinators.specs.Reading.{levels_of}
use Rattle.parser_combinators.proofs.MakerLaws as laws
use Rattle.parser_combinators.proofs.MakerLaws.{Law, pure, refuse, note, key, mark}
use Rattle.parser_combinators.proofs.Deeper.{Deepens, same, chosen, where_next, loop, ◌>>=◌, ◌>>◌}
use Rattle.symbol_tables.specs.data_names.Names.{Names}
use Rattle.cobol_grammar.specs.declared.expr_forms.side.Side.{Side}
use Rattle.cobol_grammar.specs.expr_forms.Limit.{Inner}
use Rattle.cobol_grammar.specs.expr_forms.Levels as knots
use Rattle.cobol_grammar.proofs.expr_forms_lemmas.ExpressionLaws.{tally}
use Rattle.cobol_grammar.proofs.expr_forms_lemmas.ExpressionLaws as expr_law
use Rattle.cobol_grammar.proofs.expr_forms_lemmas.ExpressionLevels as level
use Rattle.cobol_grammar.proofs.expr_forms_lemmas.ExpressionLevels.{InnerDeepens, eased, one_more}
use Rattle.cobol_grammar.specs.declared.cond_forms.part.Joined.{Joined}
use Rattle.cobol_grammar.specs.declared.cond_forms.part.SimpleCond.{SimpleCond}
use Rattle.cobol_grammar.specs.declared.cond_forms.test.Primary.{Primary}
use Rattle.cobol_grammar.specs.declared.cond_forms.test.Primary.TheVariants as prims
use Rattle.cobol_grammar.specs.declared.cond_forms.test.Read.{Read}
use Rattle.cobol_grammar.specs.declared.cond_forms.test.Setting.{Setting}
use Rattle.cobol_grammar.specs.cond_forms.Test as tests
use Rattle.cobol_grammar.specs.cond_forms.Primary as primaries
use Rattle.cobol_grammar.specs.cond_forms.Neg as negs
use Rattle.cobol_grammar.specs.cond_forms.Condition as conditions
use Rattle.cobol_grammar.proofs.cond_forms_lemmas.ConditionLaws as law

module _ (names : Names) {less more : Inner} (I : InnerDeepens less more) where
  relation : (negated : Bool) (left : Side) (before count : ℕ) →
      Deepens (levels_of Parens) true (tests.relation names less negated left before count)
      (tests.relation names more negated left before count)
  unfolding tests.relation
  relation negated left before count = do
    sign ← same (law.rel negated)
    right ← level.expr names I count
    same note
    same note
    same note
    same pure

  one_test : (negated : Bool) (end : Option Bool) (left : Side) (before count : ℕ) →
      Deepens (levels_of Parens) false (tests.one_test names less negated end left before count)
      (tests.one_test names more negated end left before count)
  unfolding tests.one_test
  one_test negated end left before count =
      where_next (eased (relation negated left before count))
      (where_next (same (laws.loose (law.sign_test negated left count))) (same
      (law.class_or _ negated end left count)))

  not_test : (end : Option Bool) (left : Side) (before count : ℕ) →
      Deepens (levels_of Parens) true (tests.not_test names less end left before count)
      (tests.not_test names more end left before count)
  unfolding tests.not_test
  not_test end left before count = same (key (codes "NOT")) >> one_test true end left before count

  behind_is : (left : Side) (before count : ℕ) →
      Deepens (levels_of Parens) true (tests.behind_is names less left before count)
      (tests.behind_is names more left before count)
  unfolding tests.behind_is
  behind_is left before count = same (key (codes "IS")) >> where_next (eased
      (not_test None left before count)) (one_test false None left before count)

  tested : (left : Side) (before count : ℕ) →
      Deepens (levels_of Parens) false (tests.tested names less left before count)
      (tests.tested names more left before count)
  unfolding tests.tested
  tested left before count =
      where_next (eased (behind_is left before count))
      (where_next (eased (not_test (Some true) left before count)) (one_test false
      (Some false) left before count))

  side_prim : (before : ℕ) (side : Side) (count : ℕ) →
      Deepens (levels_of Parens) false (primaries.side_prim names less before side count)
      (primaries.side_prim names more before side count)
  unfolding primaries.side_prim
  side_prim before side count = level.sum names I side count >>=
      (λ left. tested left.0 before left.1)

  prim_behind : (before : ℕ) (prim : Primary) (count : ℕ) →
      Deepens (levels_of Parens) false (primaries.prim_behind names less before prim count)
      (primaries.prim_behind names more before prim count)
  unfolding primaries.prim_behind
  prim_behind before (prims.Test cond setting) count = same pure
  prim_behind before (prims.Alone side) count = side_prim before side count

  expr_prim : (count : ℕ) →
      Deepens (levels_of Parens) true (primaries.expr_prim names less count)
      (primaries.expr_prim names more count)
  unfolding primaries.expr_prim
  expr_prim count = level.unary names I count >>= (λ first. side_prim count first.0 first.1)

  abbreviated_by : (negated : Bool) (setting : Setting) (count : ℕ) →
      Deepens (levels_of Parens) true (negs.abbreviated_by names less negated setting count)
      (negs.abbreviated_by names more negated setting count)
  unfolding negs.abbreviated_by
  abbreviated_by negated setting count = do
    sum ← same (tally count setting.terms)
    sign ← same (law.rel negated)
    right ← level.operand names I sum
    same note
    same note
    same pure

  abbreviated : (negated : Bool) (setting : Option Setting) (count : ℕ) →
      Deepens (levels_of Parens) true (negs.abbreviated names less negated setting count)
      (negs.abbreviated names more negated setting count)
  unfolding negs.abbreviated
  abbreviated negated None count = same refuse
  abbreviated negated (Some setting) count = abbreviated_by negated setting count

  module _ {c d : ℕ → Form Read} (C : (count : ℕ) → Deepens (levels_of Parens) true (c count)
      (d count)) where
    parens_prim : (count : ℕ) →
        Deepens (levels_of Parens) true (primaries.parens_prim names less c count)
        (primaries.parens_prim names more d count)
    unfolding primaries.parens_prim
    parens_prim count = C count >>= (λ read. prim_behind count read.prim read.count)

    prim : (count : ℕ) →
        Deepens (levels_of Parens) true (primaries.prim names less c count)
        (primaries.prim names more d count)
    unfolding primaries.prim
    prim count = where_next (parens_prim count) (expr_prim count)

    prim_part : (negated : Bool) (setting : Option Setting) (count : ℕ) →
        Deepens (levels_of Parens) true (negs.prim_part names less c negated setting count)
        (negs.prim_part names more d negated setting count)
    unfolding negs.prim_part
    prim_part negated setting count = prim count >>=
        (λ read. same (law.part_by negated setting read.prim read.count read.pending_not))

    behind_not : (setting : Option Setting) (count : ℕ) →
        Deepens (levels_of Parens) true (negs.behind_not names less c setting count)
        (negs.behind_not names more d setting count)
    unfolding negs.behind_not
    behind_not setting count = where_next (abbreviated true setting count) (same
        (tally count 1) >>= (λ sum. prim_part true setting sum))

    not_neg : (setting : Option Setting) (count : ℕ) →
        Deepens (levels_of Parens) true (negs.not_neg names less c setting count)
        (negs.not_neg names more d setting count)
    unfolding negs.not_neg
    not_neg setting count = same (key (codes "NOT")) >> behind_not setting count

    neg : (setting : Option Setting) (count : ℕ) →
        Deepens (levels_of Parens) true (negs.neg names less c setting count)
        (negs.neg names more d setting count)
    unfolding negs.neg
    neg setting count = where_next (not_neg setting count) (where_next
        (abbreviated false setting count) (prim_part false setting count))

    and_part : (before : Option Cond) (left : Cond) (setting : Option Setting) (count : ℕ) →
        Deepens (levels_of Parens) true (conditions.and_part names less c before left setting count)
        (conditions.and_part names more d before left setting count)
    unfolding conditions.and_part
    and_part before left setting count = do
      same (key (codes "AND"))
      next ← neg setting count
      same pure

    or_part : (before : Option Cond) (left : Cond) (setting : Option Setting) (count : ℕ) →
        Deepens (levels_of Parens) true (conditions.or_part names less c before left setting count)
        (conditions.or_part names more d before left setting count)
    unfolding conditions.or_part
    or_part before left setting count = do
      same (key (codes "OR"))
      next ← neg setting count
      same pure

    join : (state : Joined) → Deepens (levels_of Parens) true (conditions.join names less c state)
        (conditions.join names more d state)
    unfolding conditions.join
    join state = chosen state.part.pending_not (same refuse)
        (where_next (and_part _ _ state.part.setting state.part.count)
        (or_part _ _ state.part.setting state.part.count))

    conds_from : (first : SimpleCond) →
        Deepens (levels_of Parens) false (conditions.conds_from names less c first)
        (conditions.conds_from names more d first)
    unfolding conditions.conds_from
    conds_from first = loop join >>= (λ state. same pure)

    cond_with : (count : ℕ) →
        Deepens (levels_of Parens) true (conditions.cond_with names less c count)
        (conditions.cond_with names more d count)
    unfolding conditions.cond_with
    cond_with count = neg None count >>= conds_from

    content_from : (first : SimpleCond) →
        Deepens (levels_of Parens) true (conditions.content_from names less c first)
        (conditions.content_from names more d first)
    unfolding conditions.content_from
    content_from first = conds_from first >>= (λ part. same (law.close_cond part))

    alone_content : (side : Side) (count : ℕ) (pending_not : Bool) →
        Deepens (levels_of Parens) true
        (conditions.alone_content names less c side count pending_not)
        (conditions.alone_content names more d side count pending_not)
    unfolding conditions.alone_content
    alone_content side count pending_not = same
        (law.alone_part false None side count pending_not) >>= content_from

    content_by : (position : Position) (prim : Primary) (count : ℕ) (pending_not : Bool) →
        Deepens (levels_of Parens) true
        (conditions.content_by names less c position prim count pending_not)
        (conditions.content_by names more d position prim count pending_not)
    unfolding conditions.content_by
    content_by position (prims.Alone side) count false = where_next (same
        (law.close_side position side count)) (alone_content side count false)
    content_by position (prims.Alone side) count true = alone_content side count true
    content_by position (prims.Test cond after) count pending_not = content_from _

    neg_content : (count : ℕ) →
        Deepens (levels_of Parens) true (conditions.neg_content names less c count)
        (conditions.neg_content names more d count)
    unfolding conditions.neg_content
    neg_content count = neg None count >>= content_from

    prim_content : (position : Position) (count : ℕ) →
        Deepens (levels_of Parens) true (conditions.prim_content names less c position count)
        (conditions.prim_content names more d position count)
    unfolding conditions.prim_content
    prim_content position count = prim count >>=
        (λ read. content_by position read.prim read.count read.pending_not)

    in_content : (count : ℕ) →
        Deepens (levels_of Parens) true (conditions.in_content names less c count)
        (conditions.in_content names more d count)
    unfolding conditions.in_content
    in_content count = same (mark left_parenthesis) >>=
        (λ position. where_next (neg_content count) (prim_content position count))

content_more : (names : Names) (n count : ℕ) →
    Deepens (levels_of Parens) true (too_deep Parens (is_mark left_parenthesis))
    (conditions.in_content names (knots.inner names n) (conditions.content names n) count)
unfolding conditions.in_content
content_more names n count = one_more Parens (is_mark left_parenthesis) (λ position.
    laws.where_next (law.neg_content names (expr_law.inner names n) (law.content names n) count)
    (law.prim_content names (expr_law.inner names n) (law.content names n) position count))

pub content : (names : Names) (m n : ℕ) → m ≤ n → (count : ℕ) →
    Deepens (levels_of Parens) true (conditions.content names m count)
    (conditions.content names n count)
unfolding conditions.content
content names zero zero h count = same laws.too_deep
content names zero (suc n) h count = content_more names n count
content names (suc m) zero h count = absurd (omega (arith, h))
content names (suc m) (suc n) h count =
    in_content names (level.inner names m n (omega (arith, h))) (content names m n (omega
    (arith, h))) count

-- a condition with more levels
pub cond : (names : Names) (m n : ℕ) → m ≤ n → (count : ℕ) →
    Deepens (levels_of Parens) true (conditions.cond_with names (knots.inner names m)
    (conditions.content names m) count) (conditions.cond_with names (knots.inner names n)
    (conditions.content names n) count)
cond names m n h count = cond_with names (level.inner names m n h) (content names m n h) count
