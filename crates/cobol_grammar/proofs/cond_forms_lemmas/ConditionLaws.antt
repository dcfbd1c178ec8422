-- Conditions are lawful.
use Rattle.std.proofs.Common.{ℕ, zero, suc, Bool, true, false, List, Option, Some, None}
use Rattle.std.specs.Prelude.{codes}
use Rattle.cob_base.specs.Bytes.{left_parenthesis, right_parenthesis}
use Rattle.cob_tree.specs.declared.cond.ClassKind.{ClassKind}
use Rattle.cob_tree.specs.declared.cond.Cond.{Cond}
use Rattle.cob_tree.specs.declared.cond.Rel.{Rel}
use Rattle.parser_combinators.specs.declared.note.Position.{Position}
use Rattle.parser_combinators.specs.Form.{Form}
use Rattle.parser_combinators.proofs.MakerLaws.{Law, pure, refuse, note, one, key, mark, maybe, chosen, where_next, loop, loose, too_deep, ◌>>=◌, ◌>>◌, ◌<$>◌}
use Rattle.symbol_tables.specs.data_names.Names.{Names}
use Rattle.cobol_grammar.specs.declared.expr_forms.side.ExprForm.{ExprForm}
use Rattle.cobol_grammar.specs.declared.expr_forms.side.ExprForm.TheVariants as shapes
use Rattle.cobol_grammar.specs.declared.expr_forms.side.Side.{Side}
use Rattle.cobol_grammar.specs.declared.expr_forms.side.ParsedExpr.{ParsedExpr}
use Rattle.cobol_grammar.specs.declared.expr_forms.side.ParsedExpr.TheVariants as whats
use Rattle.cobol_grammar.specs.expr_forms.Fault as faults
use Rattle.cob_base.specs.Limit.{max_parens}
use Rattle.cobol_grammar.specs.expr_forms.Limit.{Inner}
use Rattle.cobol_grammar.proofs.expr_forms_lemmas.ExpressionLaws as law
use Rattle.cobol_grammar.proofs.expr_forms_lemmas.ExpressionLaws.{InnerLaw, tally}
use Rattle.cobol_grammar.specs.declared.cond_forms.part.Joined.{Joined}
use Rattle.cobol_grammar.specs.declared.cond_forms.part.SimpleCond.{SimpleCond}
use Rattle.cobol_grammar.specs.declared.cond_forms.test.Primary.{Primary}
use Rattle.cobol_grammar.specs.declared.cond_forms.test.Primary.TheVariants as prims
use Rattle.cobol_grammar.specs.declared.cond_forms.test.Read.{Read}
use Rattle.cobol_grammar.specs.declared.cond_forms.test.Setting.{Setting}
use Rattle.cobol_grammar.specs.cond_forms.Token as tokens
use Rattle.cobol_grammar.specs.cond_forms.Relation as relations
use Rattle.cobol_grammar.specs.cond_forms.Test as tests
use Rattle.cobol_grammar.specs.cond_forms.Primary as primaries
use Rattle.cobol_grammar.specs.cond_forms.Alone as alones
use Rattle.cobol_grammar.specs.cond_forms.Neg as negs
use Rattle.cobol_grammar.specs.cond_forms.Condition as conditions

-- ---- rel

pub or_equal : (negated : Bool) (narrow wide : Rel) →
    Law false (relations.or_equal negated narrow wide)
unfolding relations.or_equal
or_equal true narrow wide = pure
or_equal false narrow wide =
    where_next (loose (key (codes "OR") >> (key (codes "EQUAL") >> (maybe
    (codes "TO") >> pure)))) pure

pub equal : (negated : Bool) → Law true (relations.equal negated)
unfolding relations.equal
equal negated = key (codes "EQUAL") >> (maybe (codes "TO") >> pure)

pub ordered : (word : List ℕ) (negated : Bool) (narrow wide : Rel) →
    Law true (relations.ordered word negated narrow wide)
unfolding relations.ordered
ordered word negated narrow wide =
    key word >> (maybe (codes "THAN") >> or_equal negated narrow wide)

pub sign_rel : (negated : Bool) → Law true (relations.sign_rel negated)
unfolding relations.sign_rel
sign_rel negated = _ <$> one (λ position kind. tokens.rel_of kind)

pub other_rel : (negated : Bool) → Law true (relations.other_rel negated)
unfolding relations.other_rel
other_rel negated = where_next (ordered _ negated _ _) (sign_rel negated)

pub rel : (negated : Bool) → Law true (relations.rel negated)
unfolding relations.rel
rel negated = where_next (equal negated) (where_next (ordered _ negated _ _) (other_rel negated))

-- ---- tests

pub relation : (names : Names) {inner : Inner} → InnerLaw inner →
    (negated : Bool) (left : Side) (before count : ℕ) →
    Law true (tests.relation names inner negated left before count)
unfolding tests.relation
relation names I negated left before count = do
  sign ← rel negated
  right ← law.expr names I count
  note
  note
  note
  pure

pub sign_test : (negated : Bool) (left : Side) (count : ℕ) →
    Law true (tests.sign_test negated left count)
unfolding tests.sign_test
sign_test negated left count = one (λ position kind. tokens.sign_of kind) >>= (λ sign. note >> pure)

pub class_of_ref : (negated : Bool) (class : ClassKind) (what : ParsedExpr) (count : ℕ) →
    Law false (tests.class_of_ref negated class what count)
unfolding tests.class_of_ref
class_of_ref negated class (whats.Ref place) count = pure
class_of_ref negated class (whats.Literal operand) count = refuse
class_of_ref negated class (whats.Enclosed place) count = refuse
class_of_ref negated class (whats.Sum expr) count = refuse

pub class_test : (negated : Bool) (left : Side) (count : ℕ) →
    Law true (tests.class_test negated left count)
unfolding tests.class_test
class_test negated left count =
    one (λ position kind. tokens.class_of kind) >>=
    (λ class. note >> class_of_ref negated class left.what count)

pub untested : (end : Option Bool) (left : Side) (count : ℕ) →
    Law false (tests.untested end left count)
unfolding tests.untested
untested None left count = refuse
untested (Some pending_not) left count = pure

pub class_or : (shape : ExprForm) (negated : Bool) (end : Option Bool) (left : Side) (count : ℕ) →
    Law false (tests.class_or shape negated end left count)
unfolding tests.class_or
class_or shapes.Ref negated end left count =
    where_next (loose (class_test negated left count)) (untested end left count)
class_or shapes.Literal negated end left count = untested end left count
class_or shapes.Enclosed negated end left count = untested end left count
class_or shapes.Sum negated end left count = untested end left count

pub one_test : (names : Names) {inner : Inner} → InnerLaw inner →
    (negated : Bool) (end : Option Bool) (left : Side) (before count : ℕ) →
    Law false (tests.one_test names inner negated end left before count)
unfolding tests.one_test
one_test names I negated end left before count =
    where_next (loose (relation names I negated left before count))
    (where_next (loose (sign_test negated left count))
    (class_or _ negated end left count))

pub not_test : (names : Names) {inner : Inner} → InnerLaw inner →
    (end : Option Bool) (left : Side) (before count : ℕ) →
    Law true (tests.not_test names inner end left before count)
unfolding tests.not_test
not_test names I end left before count =
    key (codes "NOT") >> one_test names I true end left before count

pub behind_is : (names : Names) {inner : Inner} → InnerLaw inner →
    (left : Side) (before count : ℕ) → Law true (tests.behind_is names inner left before count)
unfolding tests.behind_is
behind_is names I left before count =
    key (codes "IS") >> where_next (loose (not_test names I None left before count))
    (one_test names I false None left before count)

pub tested : (names : Names) {inner : Inner} → InnerLaw inner → (left : Side) (before count : ℕ) →
    Law false (tests.tested names inner left before count)
unfolding tests.tested
tested names I left before count =
    where_next (loose (behind_is names I left before count))
    (where_next (loose (not_test names I (Some true) left before count)) (one_test names I false
    (Some false) left before count))

-- ---- prim

pub side_prim : (names : Names) {inner : Inner} → InnerLaw inner →
    (before : ℕ) (side : Side) (count : ℕ) →
    Law false (primaries.side_prim names inner before side count)
unfolding primaries.side_prim
side_prim names I before side count =
    law.sum names I side count >>= (λ left. tested names I left.0 before left.1)

pub prim_behind : (names : Names) {inner : Inner} → InnerLaw inner →
    (before : ℕ) (prim : Primary) (count : ℕ) →
    Law false (primaries.prim_behind names inner before prim count)
unfolding primaries.prim_behind
prim_behind names I before (prims.Test cond setting) count = pure
prim_behind names I before (prims.Alone side) count = side_prim names I before side count

pub expr_prim : (names : Names) {inner : Inner} → InnerLaw inner → (count : ℕ) →
    Law true (primaries.expr_prim names inner count)
unfolding primaries.expr_prim
expr_prim names I count =
    law.unary names I count >>= (λ first. side_prim names I count first.0 first.1)

pub parens_prim : (names : Names) {inner : Inner} → InnerLaw inner → {content : ℕ → Form Read} →
    ((count : ℕ) → Law true (content count)) → (count : ℕ) →
    Law true (primaries.parens_prim names inner content count)
unfolding primaries.parens_prim
parens_prim names I C count = C count >>= (λ read. prim_behind names I count read.prim read.count)

pub prim : (names : Names) {inner : Inner} → InnerLaw inner → {content : ℕ → Form Read} →
    ((count : ℕ) → Law true (content count)) → (count : ℕ) →
    Law true (primaries.prim names inner content count)
unfolding primaries.prim
prim names I C count = where_next (parens_prim names I C count) (expr_prim names I count)

-- ---- an expression without test

pub carried : (setting : Setting) (right : Side) (count : ℕ) (pending_not : Bool) →
    Law false (alones.carried setting right count pending_not)
unfolding alones.carried
carried setting right count pending_not = do
  more ← tally count setting.terms
  note
  note
  pure

pub named_by : (negated : Bool) (what : ParsedExpr) (count : ℕ) (pending_not : Bool) →
    Law false (alones.named_by negated what count pending_not)
unfolding alones.named_by
named_by negated (whats.Ref place) count pending_not = pure
named_by negated (whats.Enclosed place) count pending_not = pure
named_by negated (whats.Literal operand) count pending_not = refuse
named_by negated (whats.Sum expr) count pending_not = refuse

pub named : (negated : Bool) (side : Side) (count : ℕ) (pending_not : Bool) →
    Law false (alones.named negated side count pending_not)
unfolding alones.named
named negated side count pending_not = note >> named_by negated side.what count pending_not

pub kept : (setting : Setting) (what : ParsedExpr) (count : ℕ) (pending_not : Bool) →
    Law false (alones.kept setting what count pending_not)
unfolding alones.kept
kept setting (whats.Ref place) count pending_not = pure
kept setting (whats.Enclosed place) count pending_not = refuse
kept setting (whats.Literal operand) count pending_not = refuse
kept setting (whats.Sum expr) count pending_not = refuse

pub ref_part : (negated : Bool) (setting : Option Setting) (side : Side) (count : ℕ)
    (pending_not : Bool) → Law false (alones.ref_part negated setting side count pending_not)
unfolding alones.ref_part
ref_part false (Some setting) side count pending_not =
    chosen (faults.is_condition side.kind) (kept setting side.what count pending_not)
    (carried setting side count pending_not)
ref_part false None side count pending_not = named false side count pending_not
ref_part true setting side count pending_not = named true side count pending_not

pub literal_part : (negated : Bool) (setting : Option Setting) (side : Side) (count : ℕ)
    (pending_not : Bool) → Law false (alones.literal_part negated setting side count pending_not)
unfolding alones.literal_part
literal_part false (Some setting) side count pending_not = carried setting side count pending_not
literal_part false None side count pending_not = refuse
literal_part true setting side count pending_not = refuse

pub part_by_shape : (shape : ExprForm) (negated : Bool) (setting : Option Setting) (side : Side)
    (count : ℕ) (pending_not : Bool) →
    Law false (alones.part_by_shape shape negated setting side count pending_not)
unfolding alones.part_by_shape
part_by_shape shapes.Ref negated setting side count pending_not =
    ref_part negated setting side count pending_not
part_by_shape shapes.Literal negated setting side count pending_not =
    literal_part negated setting side count pending_not
part_by_shape shapes.Enclosed negated setting side count pending_not =
    named negated side count pending_not
part_by_shape shapes.Sum negated setting side count pending_not = refuse

pub alone_part : (negated : Bool) (setting : Option Setting) (side : Side) (count : ℕ)
    (pending_not : Bool) → Law false (alones.alone_part negated setting side count pending_not)
unfolding alones.alone_part
alone_part negated setting side count pending_not = part_by_shape _ negated setting side count pending_not

pub part_by : (negated : Bool) (setting : Option Setting) (prim : Primary) (count : ℕ)
    (pending_not : Bool) → Law false (alones.part_by negated setting prim count pending_not)
unfolding alones.part_by
part_by negated setting (prims.Test cond after) count pending_not = pure
part_by negated setting (prims.Alone side) count pending_not =
    alone_part negated setting side count pending_not

-- ---- neg

pub abbreviated_by : (names : Names) {inner : Inner} → InnerLaw inner →
    (negated : Bool) (setting : Setting) (count : ℕ) →
    Law true (negs.abbreviated_by names inner negated setting count)
unfolding negs.abbreviated_by
abbreviated_by names I negated setting count = do
  more ← tally count setting.terms
  sign ← rel negated
  right ← law.operand names I more
  note
  note
  pure

pub abbreviated : (names : Names) {inner : Inner} → InnerLaw inner →
    (negated : Bool) (setting : Option Setting) (count : ℕ) →
    Law true (negs.abbreviated names inner negated setting count)
unfolding negs.abbreviated
abbreviated names I negated None count = refuse
abbreviated names I negated (Some setting) count = abbreviated_by names I negated setting count

pub close_cond : (part : SimpleCond) → Law true (conditions.close_cond part)
unfolding conditions.close_cond
close_cond part = chosen part.pending_not refuse (mark right_parenthesis >> pure)

pub close_side : (position : Position) (side : Side) (count : ℕ) →
    Law true (conditions.close_side position side count)
unfolding conditions.close_side
close_side position side count = mark right_parenthesis >> pure

module _ (names : Names) {inner : Inner} (I : InnerLaw inner) {content : ℕ → Form Read} (C :
    (count : ℕ) → Law true (content count)) where
  pub prim_part : (negated : Bool) (setting : Option Setting) (count : ℕ) →
      Law true (negs.prim_part names inner content negated setting count)
  unfolding negs.prim_part
  prim_part negated setting count = prim names I C count >>=
      (λ read. part_by negated setting read.prim read.count read.pending_not)

  pub behind_not : (setting : Option Setting) (count : ℕ) →
      Law true (negs.behind_not names inner content setting count)
  unfolding negs.behind_not
  behind_not setting count = where_next (abbreviated names I true setting count)
      (tally count 1 >>= (λ more. prim_part true setting more))

  pub not_neg : (setting : Option Setting) (count : ℕ) →
      Law true (negs.not_neg names inner content setting count)
  unfolding negs.not_neg
  not_neg setting count = key (codes "NOT") >> behind_not setting count

  pub neg : (setting : Option Setting) (count : ℕ) →
      Law true (negs.neg names inner content setting count)
  unfolding negs.neg
  neg setting count =
      where_next (not_neg setting count)
      (where_next (abbreviated names I false setting count) (prim_part false setting count))

  -- ---- cond

  pub and_part : (before : Option Cond) (left : Cond) (setting : Option Setting) (count : ℕ) →
      Law true (conditions.and_part names inner content before left setting count)
  unfolding conditions.and_part
  and_part before left setting count = do
    key (codes "AND")
    next ← neg setting count
    pure

  pub or_part : (before : Option Cond) (left : Cond) (setting : Option Setting) (count : ℕ) →
      Law true (conditions.or_part names inner content before left setting count)
  unfolding conditions.or_part
  or_part before left setting count = do
    key (codes "OR")
    next ← neg setting count
    pure

  pub join : (state : Joined) → Law true (conditions.join names inner content state)
  unfolding conditions.join
  join state = chosen state.part.pending_not refuse
      (where_next (and_part _ _ state.part.setting state.part.count)
      (or_part _ _ state.part.setting state.part.count))

  pub conds_from : (first : SimpleCond) → Law false (conditions.conds_from names inner content first)
  unfolding conditions.conds_from
  conds_from first = loop join >>= (λ state. pure)

  pub cond_with : (count : ℕ) → Law true (conditions.cond_with names inner content count)
  unfolding conditions.cond_with
  cond_with count = neg None count >>= conds_from

  -- ---- in parentheses

  pub content_from : (first : SimpleCond) → Law true (conditions.content_from names inner content first)
  unfolding conditions.content_from
  content_from first = conds_from first >>= close_cond

  pub alone_content : (side : Side) (count : ℕ) (pending_not : Bool) →
      Law true (conditions.alone_content names inner content side count pending_not)
  unfolding conditions.alone_content
  alone_content side count pending_not = alone_part false None side count pending_not >>= content_from

  pub content_by : (position : Position) (prim : Primary) (count : ℕ) (pending_not : Bool) →
      Law true (conditions.content_by names inner content position prim count pending_not)
  unfolding conditions.content_by
  content_by position (prims.Alone side) count false = where_next (close_side position side count)
      (alone_content side count false)
  content_by position (prims.Alone side) count true = alone_content side count true
  content_by position (prims.Test cond after) count pending_not = content_from _

  pub neg_content : (count : ℕ) → Law true (conditions.neg_content names inner content count)
  unfolding conditions.neg_content
  neg_content count = neg None count >>= content_from

  pub prim_content : (position : Position) (count : ℕ) →
      Law true (conditions.prim_content names inner content position count)
  unfolding conditions.prim_content
  prim_content position count = prim names I C count >>=
      (λ read. content_by position read.prim read.count read.pending_not)

  pub in_content : (count : ℕ) → Law true (conditions.in_content names inner content count)
  unfolding conditions.in_content
  in_content count = mark left_parenthesis >>=
      (λ position. where_next (neg_content count) (prim_content position count))

pub content : (names : Names) (levels count : ℕ) → Law true (conditions.content names levels count)
unfolding conditions.content
content names zero count = too_deep
content names (suc n) count = in_content names (law.inner names n) (content names n) count

pub cond : (names : Names) → Law true (conditions.cond names)
unfolding conditions.cond
cond names = cond_with names (law.inner names max_parens) (content names max_parens) 0

pub whole_cond : (names : Names) → Law true (conditions.whole_cond names)
unfolding conditions.whole_cond
whole_cond names = cond names >>= (λ part. pure)
