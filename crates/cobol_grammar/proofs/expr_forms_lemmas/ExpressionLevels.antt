-- More levels of parentheses only add to what references and expressions read.
use Rattle.std.proofs.Common.{ℕ, zero, suc, ◌≤◌, Bool, true, false, inl, inr, List, [], ◌∷◌, refl, arith}
use Rattle.cob_base.specs.Bytes.{left_parenthesis, right_parenthesis, plus_sign, hyphen, colon}
use Rattle.cob_tree.specs.declared.place.Op.{Op}
use Rattle.cobol_lex.specs.declared.token.Token.{Token}
use Rattle.cobol_lex.specs.declared.token.TokenKind.{TokenKind}
use Rattle.parser_combinators.specs.declared.note.Position.{Position}
use Rattle.parser_combinators.specs.declared.why.Why.{Why}
use Rattle.parser_combinators.specs.declared.why.Why.TheVariants.{Syntax, Parens}
use Rattle.parser_combinators.specs.Form as form
use Rattle.parser_combinators.specs.Form.{Form, Input, Outcome, at, past, position_of, then_read, taken_as, one_reads}
use Rattle.parser_combinators.specs.Part as parts_of
use Rattle.parser_combinators.specs.Part.{is_mark, when}
use Rattle.parser_combinators.specs.Reading.{Bound, Deeper, levels_of}
use Rattle.parser_combinators.proofs.MakerLaws as laws
use Rattle.parser_combinators.proofs.MakerLaws.{Law, pure, refuse, note, mark, too_deep}
use Rattle.parser_combinators.proofs.Deeper.{Deepens, same, chosen, where_next, loop, shorter, ◌>>=◌, ◌>>◌}
use Rattle.parser_combinators.proofs.words_lemmas.WordLaws.{name}
use Rattle.symbol_tables.specs.declared.data_names.name.Referent.{Referent}
use Rattle.symbol_tables.specs.data_names.Names.{Names}
use Rattle.cobol_grammar.specs.declared.expr_forms.chain.Chain.{Chain}
use Rattle.cobol_grammar.specs.declared.expr_forms.either.MaybeSubscripts.{MaybeSubscripts}
use Rattle.cobol_grammar.specs.declared.expr_forms.front.FirstInParens.{FirstInParens}
use Rattle.cobol_grammar.specs.declared.expr_forms.front.FirstInParens.TheVariants as fronts
use Rattle.cobol_grammar.specs.declared.expr_forms.side.Side.{Side}
use Rattle.cobol_grammar.specs.declared.expr_forms.reference.Suffix.{Suffix}
use Rattle.cobol_grammar.specs.declared.expr_forms.reference.Suffix.TheVariants as suffixes
use Rattle.cobol_grammar.specs.expr_forms.Limit.{Inner}
use Rattle.cobol_grammar.specs.expr_forms.Reference as references
use Rattle.cobol_grammar.specs.expr_forms.Operand as operands
use Rattle.cobol_grammar.specs.expr_forms.Expression as expressions
use Rattle.cobol_grammar.specs.expr_forms.Window as windows
use Rattle.cobol_grammar.specs.expr_forms.Front as front_forms
use Rattle.cobol_grammar.specs.expr_forms.Levels as knots
use Rattle.cobol_grammar.proofs.expr_forms_lemmas.ExpressionLaws as law
use Rattle.cobol_grammar.proofs.expr_forms_lemmas.ExpressionLaws.{InnerLaw}

pub eased : {A : Type 0} {bound : Bound} {b : Bool} {f g : Form A} → Deepens bound b f g →
    Deepens bound false f g
eased D = record { goes = D.goes; law = laws.loose D.law }

-- as `one_more`, where what follows is given the token's position
pub one_more : {A : Type 0} (want : Why) (begin : TokenKind → Bool) {f : Position →
    Form A} {b : Bool} → ((position : Position) → Law b (f position)) → Deepens
    (levels_of want) true (parts_of.too_deep want begin) (form.◌>>=◌ (parts_of.sign begin) f)
one_more {A =
    A} want begin {f = f} F = record {
      goes = λ p. go p p.rest;
      law = laws.◌>>=◌ (laws.sign begin) F;
    }
  where
    more : Input → List Token → Outcome A
    more p ts = then_read (one_reads (λ position kind. when (begin kind) position) ts p)
        (λ u q. (f u).reads q)

    begun : (p : Input) (t : Token) (ts : List Token) (test : Bool)
        → Deeper (levels_of want) ((form.chosen test (form.refuse {A = A} want)
        (form.refuse Syntax)).reads (at (t ∷
        ts) p)) (then_read (taken_as (when test (position_of p t)) t ts p)
        (λ u q. (f u).reads q))
    begun p t ts true = inr (
      refl,
      shorter 1 ts (form.left ((f (position_of p t)).reads
          (past ts p))) (t ∷ ts) ((F (position_of p t)).lawful.within (past ts p)) (omega arith),
    )
    begun p t ts false = inl refl

    go : (p : Input) (ts : List Token) →
        Deeper (levels_of want) ((parts_of.too_deep {A = A} want begin).reads (at ts p)) (more p ts)
    go p [] = inl refl
    go p (t ∷ ts) = begun p t ts (begin t.kind)

pub record InnerDeepens (less more : Inner) : Type 0 where
  pub nested : (count : ℕ) → Deepens (levels_of Parens) true (less.nested count) (more.nested count)
  pub suffix : (count : ℕ) → Deepens (levels_of Parens) true (less.suffix count) (more.suffix count)
  pub window : (count : ℕ) → Deepens (levels_of Parens) true (less.window count) (more.window count)

module _ (names : Names) {less more : Inner} (I : InnerDeepens less more) where
  more_behind : (suffix : Suffix) (count : ℕ) →
      Deepens (levels_of Parens) false (references.more_behind less suffix count)
      (references.more_behind more suffix count)
  more_behind (suffixes.Window window) count = same pure
  more_behind (suffixes.Subs subs) count = where_next (eased (I.window count >>=
      (λ w. same pure))) (same pure)

  behind : (count : ℕ) →
      Deepens (levels_of Parens) false (references.behind less count) (references.behind more count)
  unfolding references.behind
  behind count = where_next (eased (I.suffix count >>=
      (λ suffix. more_behind suffix.0 suffix.1))) (same pure)

  ref_behind : (found : Referent) (of : List (List ℕ)) (position : Position) (count : ℕ) →
      Deepens (levels_of Parens) false (references.ref_behind less found of position count)
      (references.ref_behind more found of position count)
  unfolding references.ref_behind
  ref_behind found of position count = do
    tail ← behind count
    same note
    same pure

  reference_behind : (first : List ℕ) (position : Position) (count : ℕ) →
      Deepens (levels_of Parens) false
      (references.reference_behind names less first position count)
      (references.reference_behind names more first position count)
  unfolding references.reference_behind
  reference_behind first position count = do
    of ← same law.qualifiers
    ref_behind _ of position count

  reference : (count : ℕ) →
      Deepens (levels_of Parens) true (references.reference names less count)
      (references.reference names more count)
  unfolding references.reference
  reference count = same name >>= (λ first. reference_behind first.0 first.1 count)

  pub operand : (count : ℕ) →
      Deepens (levels_of Parens) true (operands.operand names less count)
      (operands.operand names more count)
  unfolding operands.operand
  operand count = where_next (same (law.tally count 1) >>=
      (λ sum. where_next (reference sum) (same (law.literal_operand sum)))) (same refuse)

  unsigned : (count : ℕ) →
      Deepens (levels_of Parens) true (expressions.unsigned names less count)
      (expressions.unsigned names more count)
  unfolding expressions.unsigned
  unsigned count = where_next (I.nested count) (operand count)

  plussed : (count : ℕ) →
      Deepens (levels_of Parens) true (expressions.plussed names less count)
      (expressions.plussed names more count)
  unfolding expressions.plussed
  plussed count = do
    position ← same (mark plus_sign)
    side ← unsigned count
    same pure

  minussed : (count : ℕ) →
      Deepens (levels_of Parens) true (expressions.minussed names less count)
      (expressions.minussed names more count)
  unfolding expressions.minussed
  minussed count = do
    sum ← same (law.tally count 1)
    position ← same (mark hyphen)
    side ← unsigned sum
    same note
    same pure

  pub unary : (count : ℕ) →
      Deepens (levels_of Parens) true (expressions.unary names less count)
      (expressions.unary names more count)
  unfolding expressions.unary
  unary count = where_next (minussed count) (where_next (plussed count) (unsigned count))

  operated : (op : Op) (chain : Chain) (count : ℕ) →
      Deepens (levels_of Parens) true (expressions.operated names less op chain count)
      (expressions.operated names more op chain count)
  unfolding expressions.operated
  operated op chain count = do
    right ← unary count
    same note
    same note
    same pure

  turn : (state : Chain × ℕ) →
      Deepens (levels_of Parens) true (expressions.turn names less state)
      (expressions.turn names more state)
  unfolding expressions.turn
  turn state = same law.operator >>= (λ op. operated op state.0 state.1)

  pub sum : (side : Side) (count : ℕ) →
      Deepens (levels_of Parens) false (expressions.sum names less side count)
      (expressions.sum names more side count)
  unfolding expressions.sum
  sum side count = loop turn >>= (λ state. same pure)

  pub expr : (count : ℕ) →
      Deepens (levels_of Parens) true (expressions.expr names less count)
      (expressions.expr names more count)
  unfolding expressions.expr
  expr count = unary count >>= (λ first. sum first.0 first.1)

  in_nested : (count : ℕ) →
      Deepens (levels_of Parens) true (expressions.in_nested names less count)
      (expressions.in_nested names more count)
  unfolding expressions.in_nested
  in_nested count = do
    position ← same (mark left_parenthesis)
    side ← expr count
    same (mark right_parenthesis)
    same pure

  length_part : (count : ℕ) →
      Deepens (levels_of Parens) false (windows.length_part names less count)
      (windows.length_part names more count)
  unfolding windows.length_part
  length_part count = where_next (same pure) (eased (expr count >>=
      (λ side. same note >> same pure)))

  window_behind : (alone : Bool) (first : Side) (count : ℕ) →
      Deepens (levels_of Parens) true (windows.window_behind names less alone first count)
      (windows.window_behind names more alone first count)
  unfolding windows.window_behind
  window_behind alone first count = do
    same (mark colon)
    same note
    size ← length_part _
    same (mark right_parenthesis)
    same pure

  in_window : (alone : Bool) (count : ℕ) →
      Deepens (levels_of Parens) true (windows.in_window names less alone count)
      (windows.in_window names more alone count)
  unfolding windows.in_window
  in_window alone count = do
    same (mark left_parenthesis)
    first ← expr count
    window_behind alone first.0 first.1

  plus_front : (count : ℕ) →
      Deepens (levels_of Parens) true (front_forms.plus_front names less count)
      (front_forms.plus_front names more count)
  unfolding front_forms.plus_front
  plus_front count = same (mark plus_sign) >>=
      (λ position. where_next (same law.digits_front) (unsigned count >>= (λ side. same pure)))

  name_front : (count : ℕ) →
      Deepens (levels_of Parens) true (front_forms.name_front names less count)
      (front_forms.name_front names more count)
  unfolding front_forms.name_front
  name_front count = do
    first ← same name
    of ← same law.qualifiers
    where_next (same (law.tally count 1) >>= (λ sum. ref_behind _ of _ sum >>=
        (λ side. same pure))) (same note >> same pure)

  unary_front : (count : ℕ) →
      Deepens (levels_of Parens) true (front_forms.unary_front names less count)
      (front_forms.unary_front names more count)
  unfolding front_forms.unary_front
  unary_front count = unary count >>= (λ side. same pure)

  other_front : (count : ℕ) →
      Deepens (levels_of Parens) true (front_forms.other_front names less count)
      (front_forms.other_front names more count)
  unfolding front_forms.other_front
  other_front count = where_next (name_front count) (unary_front count)

  first_front : (count : ℕ) →
      Deepens (levels_of Parens) true (front_forms.first_front names less count)
      (front_forms.first_front names more count)
  unfolding front_forms.first_front
  first_front count = where_next (plus_front count) (where_next (same law.digits_front)
      (other_front count))

  decided : (count : ℕ) (e : MaybeSubscripts) (op : Op) →
      Deepens (levels_of Parens) true (front_forms.decided names less count e op)
      (front_forms.decided names more count e op)
  unfolding front_forms.decided
  decided count e op = do
    sum ← same (law.tally count e.leaves)
    state ← operated op e.chain sum
    same pure

  number_or_decided : (count : ℕ) (e : MaybeSubscripts) (op : Op) (negative : Bool) →
      Deepens (levels_of Parens) true
      (front_forms.number_or_decided names less count e op negative)
      (front_forms.number_or_decided names more count e op negative)
  unfolding front_forms.number_or_decided
  number_or_decided count e op negative = where_next (same (law.number_turn op negative e))
      (decided count e op)

  plus_turn : (count : ℕ) (e : MaybeSubscripts) →
      Deepens (levels_of Parens) true (front_forms.plus_turn names less count e)
      (front_forms.plus_turn names more count e)
  unfolding front_forms.plus_turn
  plus_turn count e = same (mark plus_sign) >> number_or_decided count e _ false

  minus_behind : (count : ℕ) (e : MaybeSubscripts) →
      Deepens (levels_of Parens) true (front_forms.minus_behind names less count e)
      (front_forms.minus_behind names more count e)
  unfolding front_forms.minus_behind
  minus_behind count e = chosen (front_forms.takes_minus e) (number_or_decided count e _ true)
      (decided count e _)

  minus_turn : (count : ℕ) (e : MaybeSubscripts) →
      Deepens (levels_of Parens) true (front_forms.minus_turn names less count e)
      (front_forms.minus_turn names more count e)
  unfolding front_forms.minus_turn
  minus_turn count e = same (mark hyphen) >> minus_behind count e

  factor_turn : (count : ℕ) (e : MaybeSubscripts) →
      Deepens (levels_of Parens) true (front_forms.factor_turn names less count e)
      (front_forms.factor_turn names more count e)
  unfolding front_forms.factor_turn
  factor_turn count e = same law.operator >>= (λ op. decided count e op)

  front_turn : (count : ℕ) (front : FirstInParens) →
      Deepens (levels_of Parens) true (front_forms.front_turn names less count front)
      (front_forms.front_turn names more count front)
  unfolding front_forms.front_turn
  front_turn count (fronts.Sum chain sum) = turn (chain, sum) >>= (λ state. same pure)
  front_turn count (fronts.Either e) = where_next (plus_turn count e) (where_next
      (minus_turn count e) (factor_turn count e))

  window_suffix : (alone : Bool) (first : Side) (count : ℕ) →
      Deepens (levels_of Parens) true (front_forms.window_suffix names less alone first count)
      (front_forms.window_suffix names more alone first count)
  window_suffix alone first count = window_behind alone first count >>= (λ window. same pure)

  front_end : (alone : Bool) (count : ℕ) (front : FirstInParens) →
      Deepens (levels_of Parens) true (front_forms.front_end names less alone count front)
      (front_forms.front_end names more alone count front)
  unfolding front_forms.front_end
  front_end alone count (fronts.Sum chain sum) = window_suffix alone _ sum
  front_end alone count (fronts.Either e) = where_next (same (law.tally count e.leaves) >>=
      (λ sum. window_suffix alone _ sum)) (same (law.subs_suffix names count e))

  in_suffix : (alone : Bool) (count : ℕ) →
      Deepens (levels_of Parens) true (front_forms.in_suffix names less alone count)
      (front_forms.in_suffix names more alone count)
  unfolding front_forms.in_suffix
  in_suffix alone count = do
    same (mark left_parenthesis)
    first ← first_front count
    front ← loop (front_turn count)
    front_end alone count front

-- ---- with so many levels of parentheses

abbrev refused : {A : Type 0} → Form A
refused = parts_of.too_deep Parens (is_mark left_parenthesis)

nested_more : (names : Names) {inner : Inner} → InnerLaw inner → (count : ℕ) →
    Deepens (levels_of Parens) true refused (expressions.in_nested names inner count)
unfolding expressions.in_nested
nested_more names I count =
    one_more Parens (is_mark left_parenthesis) (λ position. laws.◌>>=◌ (law.expr names I count)
    (λ side. laws.◌>>◌ (mark right_parenthesis) pure))

suffix_more : (names : Names) {inner : Inner} → InnerLaw inner → (count : ℕ) →
    Deepens (levels_of Parens) true refused (front_forms.in_suffix names inner false count)
unfolding front_forms.in_suffix
suffix_more names I count = one_more Parens (is_mark left_parenthesis) (λ position.
    laws.◌>>=◌ (law.first_front names I count)
    (λ first. laws.◌>>=◌ (laws.loop (law.front_turn names I count))
    (λ front. law.front_end names I false count front)))

window_more : (names : Names) {inner : Inner} → InnerLaw inner → (count : ℕ) →
    Deepens (levels_of Parens) true refused (windows.in_window names inner false count)
unfolding windows.in_window
window_more names I count =
    one_more Parens (is_mark left_parenthesis) (λ position. laws.◌>>=◌ (law.expr names I count)
    (λ first. law.window_behind names I false first.0 first.1))

pub inner : (names : Names) (m n : ℕ) → m ≤ n →
    InnerDeepens (knots.inner names m) (knots.inner names n)
unfolding knots.inner
inner names zero zero h = record {
  nested = λ count. same too_deep;
  suffix = λ count. same too_deep;
  window = λ count. same too_deep;
}
inner names zero (suc n) h = record {
  nested = λ count. nested_more names (law.inner names n) count;
  suffix = λ count. suffix_more names (law.inner names n) count;
  window = λ count. window_more names (law.inner names n) count;
}
inner names (suc m) zero h = absurd (omega (arith, h))
inner names (suc m) (suc n) h = record {
  nested = λ count. in_nested names (inner names m n (omega (arith, h))) count;
  suffix = λ count. in_suffix names (inner names m n (omega (arith, h))) false count;
  window = λ count. in_window names (inner names m n (omega (arith, h))) false count;
}
