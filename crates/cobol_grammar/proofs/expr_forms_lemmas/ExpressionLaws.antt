-- References, operands and expressions are lawful.
use Rattle.std.proofs.Common.{ℕ, zero, suc, Bool, true, false, List}
use Rattle.std.specs.Prelude.{codes, nat_lt, ◌+◌}
use Rattle.cob_base.specs.Bytes.{left_parenthesis, right_parenthesis, plus_sign, hyphen, colon}
use Rattle.cob_tree.specs.declared.place.Op.{Op}
use Rattle.cob_tree.specs.declared.place.Place.{Place}
use Rattle.parser_combinators.specs.declared.note.Position.{Position}
use Rattle.parser_combinators.specs.declared.why.Why.TheVariants.{Terms}
use Rattle.parser_combinators.proofs.MakerLaws.{Law, pure, refuse, note, one, key, mark, digits, chosen, where_next, loop, many, added, loose, too_deep, unless, ◌>>=◌, ◌>>◌}
use Rattle.parser_combinators.proofs.words_lemmas.WordLaws.{name, literal}
use Rattle.symbol_tables.specs.declared.data_names.name.Referent.{Referent}
use Rattle.symbol_tables.specs.data_names.Names.{Names}
use Rattle.cobol_grammar.specs.declared.expr_forms.chain.Chain.{Chain}
use Rattle.cobol_grammar.specs.declared.expr_forms.either.MaybeSubscripts.{MaybeSubscripts}
use Rattle.cobol_grammar.specs.declared.expr_forms.front.FirstInParens.{FirstInParens}
use Rattle.cobol_grammar.specs.declared.expr_forms.front.FirstInParens.TheVariants as fronts
use Rattle.cobol_grammar.specs.declared.expr_forms.side.Side.{Side}
use Rattle.cobol_grammar.specs.declared.expr_forms.reference.Suffix.{Suffix}
use Rattle.cobol_grammar.specs.declared.expr_forms.reference.Suffix.TheVariants as suffixes
use Rattle.cob_base.specs.Limit.{max_terms, max_parens}
use Rattle.cobol_grammar.specs.expr_forms.Limit as limits
use Rattle.cobol_grammar.specs.expr_forms.Limit.{Inner}
use Rattle.cobol_grammar.specs.expr_forms.Reference as references
use Rattle.cobol_grammar.specs.expr_forms.Operand as operands
use Rattle.cobol_grammar.specs.expr_forms.Expression as expressions
use Rattle.cobol_grammar.specs.expr_forms.Window as windows
use Rattle.cobol_grammar.specs.expr_forms.Subscript as subscripts
use Rattle.cobol_grammar.specs.expr_forms.Front as front_forms
use Rattle.cobol_grammar.specs.expr_forms.Levels as knots
use Rattle.cobol_grammar.specs.expr_forms.Token as tokens

pub record InnerLaw (inner : Inner) : Type 0 where
  pub nested : (count : ℕ) → Law true (inner.nested count)
  pub suffix : (count : ℕ) → Law true (inner.suffix count)
  pub window : (count : ℕ) → Law true (inner.window count)

pub tally : (count more : ℕ) → Law false (limits.count_terms count more)
tally count more = unless Terms (nat_lt max_terms (count + more)) (count + more)

pub operator : Law true expressions.operator
operator = one (λ position kind. tokens.op_of kind)

-- ---- references

pub qualifier : Law true references.qualifier
unfolding references.qualifier
qualifier = do
  where_next (key (codes "OF")) (key (codes "IN"))
  found ← name
  pure

pub qualifiers : Law false references.qualifiers
qualifiers = many qualifier

pub more_behind : {inner : Inner} → InnerLaw inner → (suffix : Suffix) (count : ℕ) →
    Law false (references.more_behind inner suffix count)
more_behind I (suffixes.Window window) count = pure
more_behind I (suffixes.Subs subs) count = where_next (loose (I.window count >>= (λ w. pure))) pure

pub behind : {inner : Inner} → InnerLaw inner → (count : ℕ) →
    Law false (references.behind inner count)
unfolding references.behind
behind I count =
    where_next (loose (I.suffix count >>= (λ suffix. more_behind I suffix.0 suffix.1))) pure

pub ref_behind : {inner : Inner} → InnerLaw inner →
    (found : Referent) (of : List (List ℕ)) (position : Position) (count : ℕ) →
    Law false (references.ref_behind inner found of position count)
unfolding references.ref_behind
ref_behind I found of position count = do
  tail ← behind I count
  note
  pure

pub reference_behind : (names : Names) {inner : Inner} → InnerLaw inner →
    (first : List ℕ) (position : Position) (count : ℕ) →
    Law false (references.reference_behind names inner first position count)
unfolding references.reference_behind
reference_behind names I first position count = do
  of ← qualifiers
  ref_behind I _ of position count

pub reference : (names : Names) {inner : Inner} → InnerLaw inner → (count : ℕ) →
    Law true (references.reference names inner count)
unfolding references.reference
reference names I count = name >>= (λ first. reference_behind names I first.0 first.1 count)

-- ---- operands

pub literal_operand : (count : ℕ) → Law true (operands.literal_operand count)
unfolding operands.literal_operand
literal_operand count = literal >>= (λ found. pure)

pub operand : (names : Names) {inner : Inner} → InnerLaw inner → (count : ℕ) →
    Law true (operands.operand names inner count)
unfolding operands.operand
operand names I count =
    where_next (tally count 1 >>=
    (λ more. where_next (reference names I more) (literal_operand more))) refuse

-- ---- expressions

pub unsigned : (names : Names) {inner : Inner} → InnerLaw inner → (count : ℕ) →
    Law true (expressions.unsigned names inner count)
unfolding expressions.unsigned
unsigned names I count = where_next (I.nested count) (operand names I count)

pub plussed : (names : Names) {inner : Inner} → InnerLaw inner → (count : ℕ) →
    Law true (expressions.plussed names inner count)
unfolding expressions.plussed
plussed names I count = do
  position ← mark plus_sign
  side ← unsigned names I count
  pure

pub minussed : (names : Names) {inner : Inner} → InnerLaw inner → (count : ℕ) →
    Law true (expressions.minussed names inner count)
unfolding expressions.minussed
minussed names I count = do
  more ← tally count 1
  position ← mark hyphen
  side ← unsigned names I more
  note
  pure

pub unary : (names : Names) {inner : Inner} → InnerLaw inner → (count : ℕ) →
    Law true (expressions.unary names inner count)
unfolding expressions.unary
unary names I count =
    where_next (minussed names I count) (where_next (plussed names I count)
    (unsigned names I count))

pub operated : (names : Names) {inner : Inner} → InnerLaw inner →
    (op : Op) (chain : Chain) (count : ℕ) →
    Law true (expressions.operated names inner op chain count)
unfolding expressions.operated
operated names I op chain count = do
  right ← unary names I count
  note
  note
  pure

pub turn : (names : Names) {inner : Inner} → InnerLaw inner → (state : Chain × ℕ) →
    Law true (expressions.turn names inner state)
unfolding expressions.turn
turn names I state = operator >>= (λ op. operated names I op state.0 state.1)

pub sum : (names : Names) {inner : Inner} → InnerLaw inner → (side : Side) (count : ℕ) →
    Law false (expressions.sum names inner side count)
unfolding expressions.sum
sum names I side count = loop (turn names I) >>= (λ state. pure)

pub expr : (names : Names) {inner : Inner} → InnerLaw inner → (count : ℕ) →
    Law true (expressions.expr names inner count)
unfolding expressions.expr
expr names I count = unary names I count >>= (λ first. sum names I first.0 first.1)

pub in_nested : (names : Names) {inner : Inner} → InnerLaw inner → (count : ℕ) →
    Law true (expressions.in_nested names inner count)
unfolding expressions.in_nested
in_nested names I count = do
  position ← mark left_parenthesis
  side ← expr names I count
  mark right_parenthesis
  pure

-- ---- windows

pub length_part : (names : Names) {inner : Inner} → InnerLaw inner → (count : ℕ) →
    Law false (windows.length_part names inner count)
unfolding windows.length_part
length_part names I count = where_next pure (loose (expr names I count >>= (λ side. note >> pure)))

pub window_behind : (names : Names) {inner : Inner} → InnerLaw inner →
    (alone : Bool) (first : Side) (count : ℕ) →
    Law true (windows.window_behind names inner alone first count)
unfolding windows.window_behind
window_behind names I alone first count = do
  mark colon
  note
  size ← length_part names I _
  mark right_parenthesis
  pure

pub in_window : (names : Names) {inner : Inner} → InnerLaw inner → (alone : Bool) (count : ℕ) →
    Law true (windows.in_window names inner alone count)
unfolding windows.in_window
in_window names I alone count = do
  mark left_parenthesis
  first ← expr names I count
  window_behind names I alone first.0 first.1

-- ---- subscripts

pub plus_sub_form : Law true subscripts.plus_sub_form
unfolding subscripts.plus_sub_form
plus_sub_form = do
  mark plus_sign
  found ← digits
  pure

pub number_sub_form : Law true subscripts.number_sub_form
unfolding subscripts.number_sub_form
number_sub_form = digits >>= (λ found. pure)

pub item_sub_by : (byte : ℕ) (negative : Bool) (place : Place) →
    Law true (subscripts.item_sub_by byte negative place)
unfolding subscripts.item_sub_by
item_sub_by byte negative place = do
  mark byte
  found ← digits
  pure

pub item_sub_behind : (place : Place) → Law false (subscripts.item_sub_behind place)
unfolding subscripts.item_sub_behind
item_sub_behind place =
    where_next (loose (item_sub_by plus_sign false place)) (where_next (loose
    (item_sub_by hyphen true place)) pure)

pub item_sub_form : (names : Names) → Law true (subscripts.item_sub_form names)
unfolding subscripts.item_sub_form
item_sub_form names = do
  first ← name
  of ← qualifiers
  note
  note
  item_sub_behind _

pub sub : (names : Names) → Law true (subscripts.sub names)
unfolding subscripts.sub
sub names = where_next plus_sub_form (where_next number_sub_form (item_sub_form names))

-- ---- subscripts or a window

pub digits_front : Law true front_forms.digits_front
unfolding front_forms.digits_front
digits_front = digits >>= (λ found. pure)

pub plus_front : (names : Names) {inner : Inner} → InnerLaw inner → (count : ℕ) →
    Law true (front_forms.plus_front names inner count)
unfolding front_forms.plus_front
plus_front names I count =
    mark plus_sign >>= (λ position. where_next digits_front (unsigned names I count >>=
    (λ side. pure)))

pub name_front : (names : Names) {inner : Inner} → InnerLaw inner → (count : ℕ) →
    Law true (front_forms.name_front names inner count)
unfolding front_forms.name_front
name_front names I count = do
  first ← name
  of ← qualifiers
  where_next (tally count 1 >>= (λ more. ref_behind I _ of _ more >>=
      (λ side. pure))) (note >> pure)

pub unary_front : (names : Names) {inner : Inner} → InnerLaw inner → (count : ℕ) →
    Law true (front_forms.unary_front names inner count)
unfolding front_forms.unary_front
unary_front names I count = unary names I count >>= (λ side. pure)

pub other_front : (names : Names) {inner : Inner} → InnerLaw inner → (count : ℕ) →
    Law true (front_forms.other_front names inner count)
unfolding front_forms.other_front
other_front names I count = where_next (name_front names I count) (unary_front names I count)

pub first_front : (names : Names) {inner : Inner} → InnerLaw inner → (count : ℕ) →
    Law true (front_forms.first_front names inner count)
unfolding front_forms.first_front
first_front names I count =
    where_next (plus_front names I count) (where_next digits_front (other_front names I count))

pub decided : (names : Names) {inner : Inner} → InnerLaw inner →
    (count : ℕ) (e : MaybeSubscripts) (op : Op) → Law true (front_forms.decided names inner count e op)
unfolding front_forms.decided
decided names I count e op = do
  more ← tally count e.leaves
  state ← operated names I op e.chain more
  pure

pub number_turn : (op : Op) (negative : Bool) (e : MaybeSubscripts) →
    Law true (front_forms.number_turn op negative e)
unfolding front_forms.number_turn
number_turn op negative e = digits >>= (λ found. note >> pure)

pub number_or_decided : (names : Names) {inner : Inner} → InnerLaw inner →
    (count : ℕ) (e : MaybeSubscripts) (op : Op) (negative : Bool) →
    Law true (front_forms.number_or_decided names inner count e op negative)
unfolding front_forms.number_or_decided
number_or_decided names I count e op negative =
    where_next (number_turn op negative e) (decided names I count e op)

pub plus_turn : (names : Names) {inner : Inner} → InnerLaw inner → (count : ℕ) (e : MaybeSubscripts) →
    Law true (front_forms.plus_turn names inner count e)
unfolding front_forms.plus_turn
plus_turn names I count e = mark plus_sign >> number_or_decided names I count e _ false

pub minus_behind : (names : Names) {inner : Inner} → InnerLaw inner → (count : ℕ) (e : MaybeSubscripts) →
    Law true (front_forms.minus_behind names inner count e)
unfolding front_forms.minus_behind
minus_behind names I count e =
    chosen (front_forms.takes_minus e) (number_or_decided names I count e _ true)
    (decided names I count e _)

pub minus_turn : (names : Names) {inner : Inner} → InnerLaw inner → (count : ℕ) (e : MaybeSubscripts) →
    Law true (front_forms.minus_turn names inner count e)
unfolding front_forms.minus_turn
minus_turn names I count e = mark hyphen >> minus_behind names I count e

pub factor_turn : (names : Names) {inner : Inner} → InnerLaw inner → (count : ℕ) (e : MaybeSubscripts) →
    Law true (front_forms.factor_turn names inner count e)
unfolding front_forms.factor_turn
factor_turn names I count e = operator >>= (λ op. decided names I count e op)

pub front_turn : (names : Names) {inner : Inner} → InnerLaw inner → (count : ℕ) (front : FirstInParens) →
    Law true (front_forms.front_turn names inner count front)
unfolding front_forms.front_turn
front_turn names I count (fronts.Sum chain more) = turn names I (chain, more) >>= (λ state. pure)
front_turn names I count (fronts.Either e) =
    where_next (plus_turn names I count e) (where_next (minus_turn names I count e)
    (factor_turn names I count e))

pub window_suffix : (names : Names) {inner : Inner} → InnerLaw inner →
    (alone : Bool) (first : Side) (count : ℕ) →
    Law true (front_forms.window_suffix names inner alone first count)
window_suffix names I alone first count =
    window_behind names I alone first count >>= (λ window. pure)

pub subs_suffix : (names : Names) (count : ℕ) (e : MaybeSubscripts) →
    Law true (front_forms.subs_suffix names count e)
unfolding front_forms.subs_suffix
subs_suffix names count e = do
  note
  subs ← loop (λ front. added front (sub names))
  mark right_parenthesis
  pure

pub front_end : (names : Names) {inner : Inner} → InnerLaw inner →
    (alone : Bool) (count : ℕ) (front : FirstInParens) →
    Law true (front_forms.front_end names inner alone count front)
unfolding front_forms.front_end
front_end names I alone count (fronts.Sum chain more) = window_suffix names I alone _ more
front_end names I alone count (fronts.Either e) =
    where_next (tally count e.leaves >>=
    (λ more. window_suffix names I alone _ more)) (subs_suffix names count e)

pub in_suffix : (names : Names) {inner : Inner} → InnerLaw inner → (alone : Bool) (count : ℕ) →
    Law true (front_forms.in_suffix names inner alone count)
unfolding front_forms.in_suffix
in_suffix names I alone count = do
  mark left_parenthesis
  first ← first_front names I count
  front ← loop (front_turn names I count)
  front_end names I alone count front

-- ---- with so many levels of parentheses

pub inner : (names : Names) (levels : ℕ) → InnerLaw (knots.inner names levels)
unfolding knots.inner
inner names zero = record {
  nested = λ count. too_deep;
  suffix = λ count. too_deep;
  window = λ count. too_deep;
}
inner names (suc n) = record {
  nested = λ count. in_nested names (inner names n) count;
  suffix = λ count. in_suffix names (inner names n) false count;
  window = λ count. in_window names (inner names n) false count;
}

pub outer : (names : Names) → InnerLaw (knots.outer names)
outer names = record {
  nested = λ count. in_nested names (inner names max_parens) count;
  suffix = λ count. in_suffix names (inner names max_parens) true count;
  window = λ count. in_window names (inner names max_parens) true count;
}

-- ---- as statements have them

pub data_reference : (names : Names) → Law true (knots.data_reference names)
unfolding knots.data_reference
data_reference names = reference names (outer names) 0 >>= (λ side. pure)

pub data_reference_behind : (names : Names) (first : List ℕ) (position : Position) →
    Law false (knots.data_reference_behind names first position)
unfolding knots.data_reference_behind
data_reference_behind names first position =
    reference_behind names (outer names) first position 0 >>= (λ side. pure)

pub data_operand : (names : Names) → Law true (knots.data_operand names)
unfolding knots.data_operand
data_operand names = operand names (outer names) 0 >>= (λ side. pure)

pub whole_expr : (names : Names) → Law true (knots.whole_expr names)
unfolding knots.whole_expr
whole_expr names = expr names (inner names max_parens) 0 >>= (λ side. pure)
