-- What references, operands and expressions give.
use Rattle.std.proofs.Common.{◌≡◌, ℕ, zero, suc, ◌+◌, Bool, true, false, List, [], Option, Some, None, refl}
use Rattle.std.specs.Prelude.{codes, nat_lt}
use Rattle.cob_base.specs.Bytes.{left_parenthesis, right_parenthesis, plus_sign, hyphen, colon}
use Rattle.cob_tree.specs.declared.place.Expr.TheVariants as exprs
use Rattle.cob_tree.specs.declared.place.Op.{Op}
use Rattle.cob_tree.specs.declared.place.Op.TheVariants as ops
use Rattle.cob_tree.specs.declared.place.Operand.{Operand}
use Rattle.cob_tree.specs.declared.place.Place.{Place}
use Rattle.cob_tree.specs.declared.place.Sub.{Sub}
use Rattle.parser_combinators.specs.declared.note.Position.{Position}
use Rattle.parser_combinators.specs.declared.why.Why.TheVariants.{Terms}
use Rattle.symbol_tables.specs.declared.data_names.name.Referent.{Referent}
use Rattle.symbol_tables.specs.data_names.Names.{Names}
use Rattle.symbol_tables.specs.data_names.Look.{look}
use Rattle.parser_combinators.proofs.words_lemmas.WordLaws as words
use Rattle.cobol_grammar.specs.declared.expr_forms.chain.PendingTerm.{PendingTerm}
use Rattle.cobol_grammar.specs.declared.expr_forms.chain.Chain.{Chain}
use Rattle.cobol_grammar.specs.declared.expr_forms.either.MaybeSubscripts.{MaybeSubscripts}
use Rattle.cobol_grammar.specs.declared.expr_forms.front.FirstInParens.{FirstInParens}
use Rattle.cobol_grammar.specs.declared.expr_forms.front.FirstInParens.TheVariants as fronts
use Rattle.cobol_grammar.specs.declared.expr_forms.reference.RefSuffixes.{RefSuffixes}
use Rattle.cobol_grammar.specs.declared.expr_forms.reference.Suffix.{Suffix}
use Rattle.cobol_grammar.specs.declared.expr_forms.reference.Suffix.TheVariants as suffixes
use Rattle.cobol_grammar.specs.declared.expr_forms.side.Side.{Side}
use Rattle.cobol_grammar.specs.declared.expr_forms.side.ParsedExpr.{ParsedExpr}
use Rattle.cobol_grammar.specs.declared.expr_forms.side.ParsedExpr.TheVariants as whats
use Rattle.cob_base.specs.Limit.{max_terms, max_parens}
use Rattle.cobol_grammar.specs.expr_forms.Limit as limits
use Rattle.cobol_grammar.specs.expr_forms.Limit.{Inner}
use Rattle.cobol_grammar.specs.expr_forms.Fault.{item_of}
use Rattle.cobol_grammar.specs.expr_forms.Side as sides
use Rattle.cobol_grammar.specs.expr_forms.Side.{expr_of, place_of}
use Rattle.cobol_grammar.specs.expr_forms.Chain as chains
use Rattle.cobol_grammar.specs.expr_forms.Either as eithers
use Rattle.cobol_grammar.specs.expr_forms.Reference as references
use Rattle.cobol_grammar.specs.expr_forms.Operand as operands
use Rattle.cobol_grammar.specs.expr_forms.Expression as expressions
use Rattle.cobol_grammar.specs.expr_forms.Window as windows
use Rattle.cobol_grammar.specs.expr_forms.Subscript as subscripts
use Rattle.cobol_grammar.specs.expr_forms.Front as front_forms
use Rattle.cobol_grammar.specs.expr_forms.Levels as knots
use Rattle.cobol_grammar.proofs.expr_forms_lemmas.ExpressionLaws as law
use Rattle.program_facts.specs.well_scoped.Part.{if_any, are_digits}
use Rattle.program_facts.proofs.well_scoped_lemmas.Made.{both, all-added}
use Rattle.grammar_laws.specs.form_results.Giving.{Gives}
use Rattle.grammar_laws.proofs.form_results_lemmas.Giving.{any, hence, still, pure, refuse, note, mark, too_deep, unless, chosen, key, where_next, loop, items_all, ◌>>=◌, ◌>>◌}
use Rattle.grammar_laws.proofs.form_results_lemmas.Literals.{whole-named}
use Rattle.round_trip.specs.printable.printable_tokens.Printable.{IsPrintable}
use Rattle.round_trip.specs.printable.Part.{is_printable_place, is_printable_operand, is_printable_expr, is_printable_sub, is_printable_window, is_printable_name}
use Rattle.round_trip.proofs.printable_lemmas.Made.{are_printable_names, are_printable_subs, place-made, sub-made, window-made, made-Place-operand, made-Leaf, made-Minus, made-Both}
use Rattle.round_trip.specs.printable.printable_exprs.Sides.{is_printable_what}
use Rattle.round_trip.proofs.printable_lemmas.printable_exprs_lemmas.Words.{whole-literal, literal, digits, name}

-- a number in a program: digits, or a literal 0 of a subscript
zero-fine : are_digits (codes "0") ≡ true
zero-fine = refl

-- ---- what is known of what is read

abbrev pub Fine : Side → Type 0
Fine side = is_printable_what side.what ≡ true

abbrev pub ChainFine : Chain → Type 0
ChainFine chain = (if_any (λ (before : PendingTerm). is_printable_expr before.left) chain.before ≡ true) × Fine chain.last

pub record EitherFine (either : MaybeSubscripts) : Type 0 where
  pub subs : are_printable_subs either.subs ≡ true
  pub base : if_any (is_printable_place) either.base ≡ true
  pub chain : ChainFine either.chain

abbrev FrontFine : FirstInParens → Type 0
FrontFine (fronts.Either either) = EitherFine either
FrontFine (fronts.Sum chain count) = ChainFine chain

abbrev SuffixFine : Suffix → Type 0
SuffixFine (suffixes.Subs subs) = are_printable_subs subs ≡ true
SuffixFine (suffixes.Window window) = is_printable_window window ≡ true

abbrev BehindFine : RefSuffixes → Type 0
BehindFine behind = (are_printable_subs behind.subs ≡ true) × (if_any (is_printable_window) behind.window ≡ true)

pub record InnerGives (inner : Inner) : Type 0 where
  pub nested : (count : ℕ) → Gives IsPrintable (inner.nested count) (λ found. Fine found.0)
  pub suffix : (count : ℕ) → Gives IsPrintable (inner.suffix count) (λ found. SuffixFine found.0)
  pub window : (count : ℕ) → Gives IsPrintable (inner.window count) (λ found. is_printable_window found.0 ≡ true)

-- ---- what is made of it

pub leaf-fine : (operand : Operand) → is_printable_operand operand ≡ true → is_printable_expr (exprs.Leaf operand) ≡ true
leaf-fine operand h = made-Leaf operand h

pub expr-fine : (what : ParsedExpr) → is_printable_what what ≡ true → is_printable_expr (expr_of what) ≡ true
expr-fine (whats.Ref place) h = made-Leaf _ (made-Place-operand place h)
expr-fine (whats.Literal operand) h = made-Leaf operand h
expr-fine (whats.Enclosed place) h = made-Leaf _ (made-Place-operand place h)
expr-fine (whats.Sum expr) h = h

finished-fine : (before : Option PendingTerm) (last : Side) → if_any (λ (before : PendingTerm). is_printable_expr before.left) before ≡ true → Fine last → Fine (chains.finished before last)
finished-fine None last b l = l
finished-fine (Some before) last b l = made-Both before.op before.left (expr_of last.what) b (expr-fine last.what l)

pub finish-fine : (chain : Chain) → ChainFine chain → Fine (chains.finish chain)
unfolding chains.finish
finish-fine chain h = finished-fine chain.before chain.last h.0 h.1

joined-fine : (op : Op) (chain : Chain) (right : Side) → ChainFine chain → Fine right → ChainFine (chains.joined op chain right)
unfolding chains.joined chains.finish
joined-fine ops.Add chain right c r = (expr-fine _ (finish-fine chain c), r)
joined-fine ops.Sub chain right c r = (expr-fine _ (finish-fine chain c), r)
joined-fine ops.Mul chain right c r = (c.0, made-Both ops.Mul _ _ (expr-fine chain.last.what c.1) (expr-fine right.what r))
joined-fine ops.Div chain right c r = (c.0, made-Both ops.Div _ _ (expr-fine chain.last.what c.1) (expr-fine right.what r))

number_sub-fine : (found : List ℕ) → are_digits found ≡ true → is_printable_sub (eithers.number_sub found) ≡ true
number_sub-fine found d = sub-made None (sides.number_of false found) (whole-named false found d) refl

item_sub-fine : (place : Place) (negative : Bool) (found : List ℕ) → is_printable_place place ≡ true → are_digits found ≡ true → is_printable_sub (eithers.item_sub place negative found) ≡ true
item_sub-fine place negative found p d = sub-made (Some place) (sides.number_of negative found) (whole-named negative found d) p

added_sub-fine : (base : Option Place) (negative : Bool) (found : List ℕ) → if_any (is_printable_place) base ≡ true → are_digits found ≡ true → is_printable_sub (eithers.added_sub base negative found) ≡ true
added_sub-fine None negative found b d = number_sub-fine found d
added_sub-fine (Some place) negative found b d = item_sub-fine place negative found b d

subs_with-fine : (base : Option Place) (subs : List Sub) → if_any (is_printable_place) base ≡ true → are_printable_subs subs ≡ true → are_printable_subs (eithers.subs_with base subs) ≡ true
subs_with-fine None subs b s = s
subs_with-fine (Some place) subs b s = all-added (is_printable_sub) subs _ s (item_sub-fine place false (codes "0") b zero-fine)

subs_of-fine : (either : MaybeSubscripts) → EitherFine either → are_printable_subs (eithers.subs_of either) ≡ true
unfolding eithers.subs_of
subs_of-fine either e = subs_with-fine either.base either.subs e.base e.subs

pub digits_side-fine : (found : List ℕ) (position : Position) → are_digits found ≡ true → Fine (sides.digits_side found position)
unfolding sides.literal_side
digits_side-fine found position d = whole-literal found d

number_either-fine : (found : List ℕ) (position : Position) → are_digits found ≡ true → EitherFine (eithers.number_either found position)
number_either-fine found position d = record {
  subs = both (number_sub-fine found d) refl;
  base = refl;
  chain = (refl, digits_side-fine found position d);
}

with_number-fine : (op : Op) (negative : Bool) (found : List ℕ) (position : Position) (either : MaybeSubscripts) → are_digits found ≡ true → EitherFine either →
    EitherFine (eithers.with_number op negative found position either)
unfolding eithers.with_number
with_number-fine op negative found position either d e = record {
  subs = all-added (is_printable_sub) either.subs _ e.subs (added_sub-fine either.base negative found e.base d);
  base = refl;
  chain = joined-fine op either.chain _ e.chain (digits_side-fine found position d);
}

bare_place-fine : (found : Referent) (of : List (List ℕ)) → are_printable_names of ≡ true → is_printable_place (place_of found of [] None) ≡ true
bare_place-fine found of i = place-made (item_of found) of [] None i refl refl

ref_either-fine : (found : Referent) (of : List (List ℕ)) (position : Position) → are_printable_names of ≡ true → EitherFine (eithers.ref_either found of position)
unfolding sides.ref_side
ref_either-fine found of position i = record {
  subs = refl;
  base = bare_place-fine found of i;
  chain = (refl, bare_place-fine found of i);
}

-- ---- references

pub tally : (count more : ℕ) → Gives IsPrintable (limits.count_terms count more) (λ _. Unit {0})
tally count more = unless Terms (nat_lt max_terms (count + more)) (count + more) tt

more_behind : {inner : Inner} → InnerGives inner → (suffix : Suffix) (count : ℕ) → Gives IsPrintable (references.more_behind inner suffix count) (λ behind. SuffixFine suffix → BehindFine behind)
more_behind I (suffixes.Window window) count = pure (λ w. (refl, w))
more_behind I (suffixes.Subs subs) count = where_next (I.window count >>= (λ w. pure (λ k s. (s, k)))) (pure (λ s. (s, refl)))

behind : {inner : Inner} → InnerGives inner → (count : ℕ) → Gives IsPrintable (references.behind inner count) BehindFine
unfolding references.behind
behind I count = where_next (I.suffix count >>= (λ suffix. more_behind I suffix.0 suffix.1)) (pure (refl, refl))

ref_behind : {inner : Inner} → InnerGives inner → (found : Referent) (of : List (List ℕ)) (position : Position) (count : ℕ) →
    Gives IsPrintable (references.ref_behind inner found of position count) (λ side. are_printable_names of ≡ true → Fine side.0)
unfolding references.ref_behind sides.ref_side
ref_behind I found of position count = do
  tail ← behind I count
  note
  pure (λ _ t o. place-made (item_of found) of tail.subs tail.window o t.0 t.1)

module _ (names : Names) where
  qualifier : Gives IsPrintable references.qualifier (λ found. is_printable_name found ≡ true)
  unfolding references.qualifier
  qualifier = where_next (key (codes "OF")) (key (codes "IN")) >> (name >>= (λ found. pure (λ n _. n)))

  qualifiers : Gives IsPrintable references.qualifiers (λ of. are_printable_names of ≡ true)
  qualifiers = hence (λ of h. h refl) (items_all is_printable_name qualifier)

  reference_behind : {inner : Inner} → InnerGives inner → (first : List ℕ) (position : Position) (count : ℕ) →
      Gives IsPrintable (references.reference_behind names inner first position count) (λ side. Fine side.0)
  unfolding references.reference_behind
  reference_behind I first position count = qualifiers >>= (λ of. ref_behind I _ of position count)

  reference : {inner : Inner} → InnerGives inner → (count : ℕ) → Gives IsPrintable (references.reference names inner count) (λ side. Fine side.0)
  unfolding references.reference
  reference I count = any words.name >>= (λ first. still (reference_behind I first.0 first.1 count))

  -- ---- operands

  literal_operand : (count : ℕ) → Gives IsPrintable (operands.literal_operand count) (λ side. Fine side.0)
  unfolding operands.literal_operand sides.literal_side
  literal_operand count = literal >>= (λ found. pure (λ l. l))

  pub operand : {inner : Inner} → InnerGives inner → (count : ℕ) → Gives IsPrintable (operands.operand names inner count) (λ side. Fine side.0)
  unfolding operands.operand
  operand I count = where_next (tally count 1 >>= (λ more. where_next (still (reference I more)) (still (literal_operand more)))) refuse

  -- ---- expressions

  unsigned : {inner : Inner} → InnerGives inner → (count : ℕ) → Gives IsPrintable (expressions.unsigned names inner count) (λ side. Fine side.0)
  unfolding expressions.unsigned
  unsigned I count = where_next (I.nested count) (operand I count)

  plussed : {inner : Inner} → InnerGives inner → (count : ℕ) → Gives IsPrintable (expressions.plussed names inner count) (λ side. Fine side.0)
  unfolding expressions.plussed sides.sum_side
  plussed I count = mark plus_sign >>= (λ position. unsigned I count >>= (λ side. pure (λ s _. expr-fine side.0.what s)))

  minussed : {inner : Inner} → InnerGives inner → (count : ℕ) → Gives IsPrintable (expressions.minussed names inner count) (λ side. Fine side.0)
  unfolding expressions.minussed sides.negated
  minussed I count = do
    more ← tally count 1
    position ← mark hyphen
    side ← unsigned I more
    note
    pure (λ _ s _ _. made-Minus _ (expr-fine side.0.what s))

  pub unary : {inner : Inner} → InnerGives inner → (count : ℕ) → Gives IsPrintable (expressions.unary names inner count) (λ side. Fine side.0)
  unfolding expressions.unary
  unary I count = where_next (minussed I count) (where_next (plussed I count) (unsigned I count))

  operated : {inner : Inner} → InnerGives inner → (op : Op) (chain : Chain) (count : ℕ) → Gives IsPrintable (expressions.operated names inner op chain count) (λ state. ChainFine chain → ChainFine state.0)
  unfolding expressions.operated
  operated I op chain count = do
    right ← unary I count
    note
    note
    pure (λ _ _ r c. joined-fine op chain right.0 c r)

  turn : {inner : Inner} → InnerGives inner → (state : Chain × ℕ) → Gives IsPrintable (expressions.turn names inner state) (λ last. ChainFine state.0 → ChainFine last.0)
  unfolding expressions.turn
  turn I state = any law.operator >>= (λ op. still (operated I op state.0 state.1))

  pub sum : {inner : Inner} → InnerGives inner → (side : Side) (count : ℕ) → Gives IsPrintable (expressions.sum names inner side count) (λ last. Fine side → Fine last.0)
  unfolding expressions.sum
  sum I side count = loop {P = λ (state : Chain × ℕ). ChainFine state.0} (turn I) >>= (λ state. pure (λ h s. finish-fine state.0 (h (refl, s))))

  pub expr : {inner : Inner} → InnerGives inner → (count : ℕ) → Gives IsPrintable (expressions.expr names inner count) (λ side. Fine side.0)
  unfolding expressions.expr
  expr I count = unary I count >>= (λ first. sum I first.0 first.1)

  in_nested : {inner : Inner} → InnerGives inner → (count : ℕ) → Gives IsPrintable (expressions.in_nested names inner count) (λ side. Fine side.0)
  unfolding expressions.in_nested sides.sum_side
  in_nested I count = do
    position ← mark left_parenthesis
    side ← expr I count
    mark right_parenthesis
    pure (λ _ s _. expr-fine side.0.what s)

  -- ---- windows

  length_part : {inner : Inner} → InnerGives inner → (count : ℕ) → Gives IsPrintable (windows.length_part names inner count) (λ size. if_any (is_printable_expr) size.0 ≡ true)
  unfolding windows.length_part
  length_part I count = where_next (pure refl) (expr I count >>= (λ side. note >> pure (λ _ s. expr-fine side.0.what s)))

  window_behind : {inner : Inner} → InnerGives inner → (alone : Bool) (first : Side) (count : ℕ) →
      Gives IsPrintable (windows.window_behind names inner alone first count) (λ window. Fine first → is_printable_window window.0 ≡ true)
  unfolding windows.window_behind
  window_behind I alone first count = do
    mark colon
    note
    size ← length_part I (windows.second_count alone count)
    mark right_parenthesis
    pure (λ _ l _ _ f. window-made (expr_of first.what) size.0 (expr-fine first.what f) l)

  in_window : {inner : Inner} → InnerGives inner → (alone : Bool) (count : ℕ) → Gives IsPrintable (windows.in_window names inner alone count) (λ window. is_printable_window window.0 ≡ true)
  unfolding windows.in_window
  in_window I alone count = mark left_parenthesis >> (expr I count >>= (λ first. hence (λ w h f _. h f) (window_behind I alone first.0 first.1)))

  -- ---- subscripts

  plus_sub_form : Gives IsPrintable subscripts.plus_sub_form (λ sub. is_printable_sub sub ≡ true)
  unfolding subscripts.plus_sub_form
  plus_sub_form = mark plus_sign >> (digits >>= (λ found. pure (λ d _. number_sub-fine found.0 d)))

  number_sub_form : Gives IsPrintable subscripts.number_sub_form (λ sub. is_printable_sub sub ≡ true)
  unfolding subscripts.number_sub_form
  number_sub_form = digits >>= (λ found. pure (λ d. number_sub-fine found.0 d))

  item_sub_by : (byte : ℕ) (negative : Bool) (place : Place) → Gives IsPrintable (subscripts.item_sub_by byte negative place) (λ sub. is_printable_place place ≡ true → is_printable_sub sub ≡ true)
  unfolding subscripts.item_sub_by
  item_sub_by byte negative place = mark byte >> (digits >>= (λ found. pure (λ d _ p. item_sub-fine place negative found.0 p d)))

  item_sub_behind : (place : Place) → Gives IsPrintable (subscripts.item_sub_behind place) (λ sub. is_printable_place place ≡ true → is_printable_sub sub ≡ true)
  unfolding subscripts.item_sub_behind
  item_sub_behind place =
      where_next (item_sub_by plus_sign false place) (where_next (item_sub_by hyphen true place)
      (pure (λ p. item_sub-fine place false (codes "0") p zero-fine)))

  item_sub_form : Gives IsPrintable (subscripts.item_sub_form names) (λ sub. is_printable_sub sub ≡ true)
  unfolding subscripts.item_sub_form
  item_sub_form = do
    first ← any words.name
    of ← qualifiers
    note
    note
    hence (λ sub h _ _ o _. h (bare_place-fine (look names first.0 of) of o)) (item_sub_behind _)

  sub : Gives IsPrintable (subscripts.sub names) (λ sub. is_printable_sub sub ≡ true)
  unfolding subscripts.sub
  sub = where_next plus_sub_form (where_next number_sub_form item_sub_form)

  -- ---- subscripts or a window

  digits_front : Gives IsPrintable front_forms.digits_front FrontFine
  unfolding front_forms.digits_front
  digits_front = digits >>= (λ found. pure (λ d. number_either-fine found.0 found.1 d))

  sum_front : (side : Side × ℕ) → Gives IsPrintable (front_forms.sum_front side) (λ front. Fine side.0 → FrontFine front)
  sum_front side = pure (λ s. (refl, s))

  plus_front : {inner : Inner} → InnerGives inner → (count : ℕ) → Gives IsPrintable (front_forms.plus_front names inner count) FrontFine
  unfolding front_forms.plus_front sides.sum_side
  plus_front I count = mark plus_sign >>= (λ position. where_next (still digits_front) (unsigned I count >>= (λ side. pure (λ s _. (refl, expr-fine side.0.what s)))))

  name_front : {inner : Inner} → InnerGives inner → (count : ℕ) → Gives IsPrintable (front_forms.name_front names inner count) FrontFine
  unfolding front_forms.name_front
  name_front I count = do
    first ← any words.name
    of ← qualifiers
    where_next (tally count 1 >>= (λ more. ref_behind I (look names first.0 of) of first.1 more >>= (λ side. pure (λ s _ o _. (refl, s o)))))
        (note >> pure (λ _ o _. ref_either-fine (look names first.0 of) of first.1 o))

  unary_front : {inner : Inner} → InnerGives inner → (count : ℕ) → Gives IsPrintable (front_forms.unary_front names inner count) FrontFine
  unfolding front_forms.unary_front
  unary_front I count = unary I count >>= sum_front

  other_front : {inner : Inner} → InnerGives inner → (count : ℕ) → Gives IsPrintable (front_forms.other_front names inner count) FrontFine
  unfolding front_forms.other_front
  other_front I count = where_next (name_front I count) (unary_front I count)

  first_front : {inner : Inner} → InnerGives inner → (count : ℕ) → Gives IsPrintable (front_forms.first_front names inner count) FrontFine
  unfolding front_forms.first_front
  first_front I count = where_next (plus_front I count) (where_next digits_front (other_front I count))

  decided : {inner : Inner} → InnerGives inner → (count : ℕ) (e : MaybeSubscripts) (op : Op) → Gives IsPrintable (front_forms.decided names inner count e op) (λ front. EitherFine e → FrontFine front)
  unfolding front_forms.decided
  decided I count e op = do
    more ← tally count e.leaves
    state ← operated I op e.chain more
    pure (λ h _ k. h k.chain)

  number_turn : (op : Op) (negative : Bool) (e : MaybeSubscripts) → Gives IsPrintable (front_forms.number_turn op negative e) (λ front. EitherFine e → FrontFine front)
  unfolding front_forms.number_turn
  number_turn op negative e = digits >>= (λ found. note >> pure (λ _ d k. with_number-fine op negative found.0 found.1 e d k))

  number_or_decided : {inner : Inner} → InnerGives inner → (count : ℕ) (e : MaybeSubscripts) (op : Op) (negative : Bool) →
      Gives IsPrintable (front_forms.number_or_decided names inner count e op negative) (λ front. EitherFine e → FrontFine front)
  unfolding front_forms.number_or_decided
  number_or_decided I count e op negative = where_next (number_turn op negative e) (decided I count e op)

  plus_turn : {inner : Inner} → InnerGives inner → (count : ℕ) (e : MaybeSubscripts) → Gives IsPrintable (front_forms.plus_turn names inner count e) (λ front. EitherFine e → FrontFine front)
  unfolding front_forms.plus_turn
  plus_turn I count e = mark plus_sign >> still (number_or_decided I count e ops.Add false)

  minus_behind : {inner : Inner} → InnerGives inner → (count : ℕ) (e : MaybeSubscripts) → Gives IsPrintable (front_forms.minus_behind names inner count e) (λ front. EitherFine e → FrontFine front)
  unfolding front_forms.minus_behind
  minus_behind I count e = chosen (front_forms.takes_minus e) (number_or_decided I count e ops.Sub true) (decided I count e ops.Sub)

  minus_turn : {inner : Inner} → InnerGives inner → (count : ℕ) (e : MaybeSubscripts) → Gives IsPrintable (front_forms.minus_turn names inner count e) (λ front. EitherFine e → FrontFine front)
  unfolding front_forms.minus_turn
  minus_turn I count e = mark hyphen >> still (minus_behind I count e)

  factor_turn : {inner : Inner} → InnerGives inner → (count : ℕ) (e : MaybeSubscripts) → Gives IsPrintable (front_forms.factor_turn names inner count e) (λ front. EitherFine e → FrontFine front)
  unfolding front_forms.factor_turn
  factor_turn I count e = any law.operator >>= (λ op. still (decided I count e op))

  front_turn : {inner : Inner} → InnerGives inner → (count : ℕ) (front : FirstInParens) → Gives IsPrintable (front_forms.front_turn names inner count front) (λ last. FrontFine front → FrontFine last)
  unfolding front_forms.front_turn
  front_turn I count (fronts.Sum chain more) = turn I (chain, more) >>= (λ state. pure (λ h. h))
  front_turn I count (fronts.Either e) = where_next (plus_turn I count e) (where_next (minus_turn I count e) (factor_turn I count e))

  window_suffix : {inner : Inner} → InnerGives inner → (alone : Bool) (first : Side) (count : ℕ) →
      Gives IsPrintable (front_forms.window_suffix names inner alone first count) (λ suffix. Fine first → SuffixFine suffix.0)
  window_suffix I alone first count = window_behind I alone first count >>= (λ window. pure (λ h. h))

  subs_suffix : (count : ℕ) (e : MaybeSubscripts) → Gives IsPrintable (front_forms.subs_suffix names count e) (λ suffix. EitherFine e → SuffixFine suffix.0)
  unfolding front_forms.subs_suffix
  subs_suffix count e = do
    note
    subs ← items_all (is_printable_sub) sub
    mark right_parenthesis
    pure (λ _ h _ k. h (subs_of-fine e k))

  front_end : {inner : Inner} → InnerGives inner → (alone : Bool) (count : ℕ) (front : FirstInParens) →
      Gives IsPrintable (front_forms.front_end names inner alone count front) (λ suffix. FrontFine front → SuffixFine suffix.0)
  unfolding front_forms.front_end
  front_end I alone count (fronts.Sum chain more) = hence (λ suffix h c. h (finish-fine chain c)) (window_suffix I alone (chains.finish chain) more)
  front_end I alone count (fronts.Either e) =
      where_next (tally count e.leaves >>= (λ more. hence (λ suffix h _ k. h (finish-fine e.chain k.chain)) (window_suffix I alone (chains.finish e.chain) more)))
      (subs_suffix count e)

  in_suffix : {inner : Inner} → InnerGives inner → (alone : Bool) (count : ℕ) → Gives IsPrintable (front_forms.in_suffix names inner alone count) (λ suffix. SuffixFine suffix.0)
  unfolding front_forms.in_suffix
  in_suffix I alone count = do
    mark left_parenthesis
    first ← first_front I count
    front ← loop {P = FrontFine} (front_turn I count)
    hence (λ suffix h w f _. h (w f)) (front_end I alone count front)

  -- ---- with so many levels of parentheses

  pub inner : (levels : ℕ) → InnerGives (knots.inner names levels)
  unfolding knots.inner
  inner zero = record {
    nested = λ count. too_deep;
    suffix = λ count. too_deep;
    window = λ count. too_deep;
  }
  inner (suc n) = record {
    nested = λ count. in_nested (inner n) count;
    suffix = λ count. in_suffix (inner n) false count;
    window = λ count. in_window (inner n) false count;
  }

  outer : InnerGives (knots.outer names)
  outer = record {
    nested = λ count. in_nested (inner max_parens) count;
    suffix = λ count. in_suffix (inner max_parens) true count;
    window = λ count. in_window (inner max_parens) true count;
  }

  -- ---- as statements have them

  pub data_reference : Gives IsPrintable (knots.data_reference names) Fine
  unfolding knots.data_reference
  data_reference = reference outer 0 >>= (λ side. pure (λ s. s))

  pub data_reference_behind : (first : List ℕ) (position : Position) → Gives IsPrintable (knots.data_reference_behind names first position) Fine
  unfolding knots.data_reference_behind
  data_reference_behind first position = reference_behind outer first position 0 >>= (λ side. pure (λ s. s))

  pub data_operand : Gives IsPrintable (knots.data_operand names) Fine
  unfolding knots.data_operand
  data_operand = operand outer 0 >>= (λ side. pure (λ s. s))

  pub whole_expr : Gives IsPrintable (knots.whole_expr names) Fine
  unfolding knots.whole_expr
  whole_expr = expr (inner max_parens) 0 >>= (λ side. pure (λ s. s))
