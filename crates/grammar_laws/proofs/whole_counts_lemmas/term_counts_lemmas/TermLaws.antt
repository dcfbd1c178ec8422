-- Terms that were counted before change nothing but the count, up to the limit.
use Rattle.std.proofs.Common.{◌≡◌, ℕ, zero, suc, ◌+◌, ◌<◌, ◌≤◌, Bool, true, false, inl, inr, List, [], Some, None, refl, sym, ap, ◌∙◌, arith}
use Rattle.cob_base.specs.Bytes.{left_parenthesis, right_parenthesis, plus_sign, hyphen, colon}
use Rattle.cob_tree.specs.declared.place.Op.{Op}
use Rattle.cob_tree.specs.declared.place.Window.{roll-Window}
use Rattle.parser_combinators.specs.declared.note.Position.{Position}
use Rattle.parser_combinators.specs.Form.{Input, Outcome, Got, Stop, Form, pure, ◌>>◌}
use Rattle.parser_combinators.specs.Part as parts
use Rattle.parser_combinators.proofs.Lawful.{got_is}
use Rattle.parser_combinators.proofs.MakerLaws.{mark, digits, note, added}
use Rattle.parser_combinators.proofs.MakerLaws as makers
use Rattle.parser_combinators.proofs.words_lemmas.WordLaws.{name, literal}
use Rattle.symbol_tables.specs.declared.data_names.name.Referent.{Referent}
use Rattle.symbol_tables.specs.data_names.Names.{Names}
use Rattle.symbol_tables.specs.data_names.Look.{look}
use Rattle.cobol_grammar.specs.declared.expr_forms.chain.Chain.{Chain}
use Rattle.cobol_grammar.specs.declared.expr_forms.either.MaybeSubscripts.{MaybeSubscripts}
use Rattle.cobol_grammar.specs.declared.expr_forms.front.FirstInParens.{FirstInParens}
use Rattle.cobol_grammar.specs.declared.expr_forms.front.FirstInParens.TheVariants as fronts
use Rattle.cobol_grammar.specs.declared.expr_forms.reference.RefSuffixes.{RefSuffixes}
use Rattle.cobol_grammar.specs.declared.expr_forms.reference.Suffix.{Suffix}
use Rattle.cobol_grammar.specs.declared.expr_forms.reference.Suffix.TheVariants as suffixes
use Rattle.cobol_grammar.specs.declared.expr_forms.side.Side.{Side}
use Rattle.cob_base.specs.Limit.{max_terms}
use Rattle.cobol_grammar.specs.expr_forms.Limit.{Inner}
use Rattle.cobol_grammar.specs.expr_forms.Side as sides
use Rattle.cobol_grammar.specs.expr_forms.Chain as chains
use Rattle.cobol_grammar.specs.expr_forms.Either as eithers
use Rattle.cobol_grammar.specs.expr_forms.Reference as references
use Rattle.cobol_grammar.specs.expr_forms.Operand as operands
use Rattle.cobol_grammar.specs.expr_forms.Expression as expressions
use Rattle.cobol_grammar.specs.expr_forms.Window as windows
use Rattle.cobol_grammar.specs.expr_forms.Front as front_forms
use Rattle.cobol_grammar.specs.expr_forms.Levels as knots
use Rattle.cobol_grammar.proofs.expr_forms_lemmas.ExpressionLaws as law
use Rattle.grammar_laws.specs.whole_counts.term_counts.Count.{Passes, WithFewer, IsCounted}
use Rattle.grammar_laws.proofs.whole_counts_lemmas.term_counts_lemmas.Fewer.{Fewer, Counted, behind, done, refused, chosen, where_next, eased, tallied, loop, and_then}

-- ---- how values count

abbrev pub term_count : {A : Type 0} → A × ℕ → ℕ
term_count a = a.1

abbrev pub more_terms : {A : Type 0} → ℕ → A × ℕ → A × ℕ
more_terms before a = (a.0, a.1 + before)

-- a form that gives its count with its value
abbrev pub Counts : {A : Type 0} → (before count : ℕ) (takes : Bool) → (ℕ → Form (A × ℕ)) → Type 0
Counts before count takes f =
    Counted before count takes (more_terms before) term_count (f (count + before)) (f count)

abbrev more_behind_terms : ℕ → RefSuffixes → RefSuffixes
more_behind_terms before b = record b { count = b.count + before }

abbrev behind_count : RefSuffixes → ℕ
behind_count b = b.count

abbrev more_front : ℕ → FirstInParens → FirstInParens
more_front before (fronts.Either e) = fronts.Either e
more_front before (fronts.Sum chain n) = fronts.Sum chain (n + before)

-- what may turn out to be subscripts isn't counted yet
abbrev front_count : ℕ → FirstInParens → ℕ
front_count count (fronts.Either e) = count
front_count count (fronts.Sum chain n) = n

abbrev Fronts : (before count least : ℕ) (takes : Bool) → Form FirstInParens → Form FirstInParens → Type 0
Fronts before count least takes f g =
    Counted before least takes (more_front before) (front_count count) f g

pub record InnerCounts (before : ℕ) (inner : Inner) : Type 0 where
  pub nested : (count : ℕ) → Counts before count true (λ n. inner.nested n)
  pub suffix : (count : ℕ) → Counts before count true (λ n. inner.suffix n)
  pub window : (count : ℕ) → Counts before count true (λ n. inner.window n)

module _ (names : Names) (before : ℕ) {inner : Inner} (I : InnerCounts before inner) where
  -- ---- references

  more_behind : (suffix : Suffix) (count : ℕ) →
      Counted before count false (more_behind_terms before) behind_count
      (references.more_behind inner suffix (count + before)) (references.more_behind inner suffix count)
  more_behind (suffixes.Window window) count =
      done (record { subs = []; window = Some window; count = count }) (omega arith)
  more_behind (suffixes.Subs subs) count = where_next
      (eased (and_then _ (I.window count) (λ w. done (record { subs = subs; window = Some w.0; count = w.1 }) (omega arith))))
      (done (record { subs = subs; window = None; count = count }) (omega arith))

  behind_ref : (count : ℕ) →
      Counted before count false (more_behind_terms before) behind_count
      (references.behind inner (count + before)) (references.behind inner count)
  unfolding references.behind
  behind_ref count = where_next (eased (and_then _ (I.suffix count) (λ suffix. more_behind suffix.0 suffix.1)))
      (done (record { subs = []; window = None; count = count }) (omega arith))

  ref_behind : (found : Referent) (of : List (List ℕ)) (position : Position) (count : ℕ) →
      Counts before count false (λ n. references.ref_behind inner found of position n)
  unfolding references.ref_behind
  ref_behind found of position count = and_then _ (behind_ref count) (λ tail. behind note
      (λ u. done (sides.ref_side found of tail.subs tail.window position, tail.count) (omega arith)))

  reference_behind : (first : List ℕ) (position : Position) (count : ℕ) →
      Counts before count false (λ n. references.reference_behind names inner first position n)
  unfolding references.reference_behind
  reference_behind first position count = behind law.qualifiers
      (λ of. ref_behind (look names first of) of position count)

  pub reference : (count : ℕ) → Counts before count true (λ n. references.reference names inner n)
  unfolding references.reference
  reference count = behind name (λ first. reference_behind first.0 first.1 count)

  -- ---- operands and expressions

  literal_operand : (count : ℕ) → Counts before count true (λ n. operands.literal_operand n)
  unfolding operands.literal_operand
  literal_operand count = behind literal
      (λ found. done (sides.literal_side found.0 (sides.literal_kind found.0) found.1, count) (omega arith))

  pub operand : (count : ℕ) → Counts before count true (λ n. operands.operand names inner n)
  unfolding operands.operand
  operand count = where_next (and_then _ (tallied before count 1) (λ more. where_next (reference more) (literal_operand more))) refused

  unsigned : (count : ℕ) → Counts before count true (λ n. expressions.unsigned names inner n)
  unfolding expressions.unsigned
  unsigned count = where_next (I.nested count) (operand count)

  plussed : (count : ℕ) → Counts before count true (λ n. expressions.plussed names inner n)
  unfolding expressions.plussed
  plussed count = behind (mark plus_sign)
      (λ position. and_then _ (unsigned count) (λ side. done (sides.sum_side position side.0, side.1) (omega arith)))

  minussed : (count : ℕ) → Counts before count true (λ n. expressions.minussed names inner n)
  unfolding expressions.minussed
  minussed count = and_then _ (tallied before count 1) (λ more. behind (mark hyphen)
      (λ position. and_then _ (unsigned more) (λ side. behind note (λ u. done (sides.negated position side.0, side.1) (omega arith)))))

  unary : (count : ℕ) → Counts before count true (λ n. expressions.unary names inner n)
  unfolding expressions.unary
  unary count = where_next (minussed count) (where_next (plussed count) (unsigned count))

  operated : (op : Op) (chain : Chain) (count : ℕ) →
      Counts before count true (λ n. expressions.operated names inner op chain n)
  unfolding expressions.operated
  operated op chain count = and_then _ (unary count) (λ right. behind note
      (λ u. behind note (λ v. done (chains.joined op chain right.0, right.1) (omega arith))))

  turn : (state : Chain × ℕ) →
      Counted before state.1 true (more_terms before) term_count
      (expressions.turn names inner (more_terms before state)) (expressions.turn names inner state)
  unfolding expressions.turn
  turn state = behind law.operator (λ op. operated op state.0 state.1)

  sum : (side : Side) (count : ℕ) → Counts before count false (λ n. expressions.sum names inner side n)
  unfolding expressions.sum
  sum side count =
      and_then _ (loop before (more_terms before) term_count _ (expressions.turn names inner)
      (expressions.turn names inner) turn (chains.chain_of side, count)) (λ state. done (chains.finish state.0, state.1) (omega arith))

  pub expr : (count : ℕ) → Counts before count true (λ n. expressions.expr names inner n)
  unfolding expressions.expr
  expr count = and_then _ (unary count) (λ first. sum first.0 first.1)

  in_nested : (count : ℕ) → Counts before count true (λ n. expressions.in_nested names inner n)
  unfolding expressions.in_nested
  in_nested count = behind (mark left_parenthesis)
      (λ position. and_then _ (expr count) (λ side. behind (mark right_parenthesis)
      (λ u. done (sides.sum_side position side.0, side.1) (omega arith))))

  -- ---- windows

  length_part : (count : ℕ) → Counts before count false (λ n. windows.length_part names inner n)
  unfolding windows.length_part
  length_part count = where_next (done (None, count) (omega arith))
      (eased (and_then _ (expr count) (λ side. behind note (λ u. done (Some (sides.expr_of side.0.what), side.1) (omega arith)))))

  window_behind : (first : Side) (count : ℕ) →
      Counts before count true (λ n. windows.window_behind names inner false first n)
  unfolding windows.window_behind
  window_behind first count = behind (mark colon)
      (λ u. behind note
      (λ v. and_then (λ size. parts.mark right_parenthesis >>
      pure (roll-Window (record { from = sides.expr_of first.what; length = size.0 }), size.1))
      (length_part count) (λ size. behind (mark right_parenthesis)
      (λ w. done (roll-Window (record { from = sides.expr_of first.what; length = size.0 }), size.1) (omega arith)))))

  in_window : (count : ℕ) → Counts before count true (λ n. windows.in_window names inner false n)
  unfolding windows.in_window
  in_window count = behind (mark left_parenthesis)
      (λ u. and_then _ (expr count) (λ first. window_behind first.0 first.1))

  -- ---- subscripts or a window

  digits_front : (count : ℕ) → Fronts before count count true front_forms.digits_front front_forms.digits_front
  unfolding front_forms.digits_front
  digits_front count = behind digits
      (λ found. done (fronts.Either (eithers.number_either found.0 found.1)) (omega arith))

  plus_front : (count : ℕ) →
      Fronts before count count true (front_forms.plus_front names inner (count + before))
      (front_forms.plus_front names inner count)
  unfolding front_forms.plus_front
  plus_front count = behind (mark plus_sign)
      (λ position. where_next (digits_front count)
      (and_then _ (unsigned count) (λ side. done (fronts.Sum (chains.chain_of (sides.sum_side position side.0)) side.1) (omega arith))))

  name_front : (count : ℕ) →
      Fronts before count count true (front_forms.name_front names inner (count + before))
      (front_forms.name_front names inner count)
  unfolding front_forms.name_front
  name_front count = behind name
      (λ first. behind law.qualifiers
      (λ of. where_next
      (and_then _ (tallied before count 1)
      (λ more. and_then _ (ref_behind (look names first.0 of) of first.1 more)
      (λ side. done (fronts.Sum (chains.chain_of side.0) side.1) (omega arith))))
      (behind note
      (λ u. done (fronts.Either (eithers.ref_either (look names first.0 of) of first.1)) (omega arith)))))

  unary_front : (count : ℕ) →
      Fronts before count count true (front_forms.unary_front names inner (count + before))
      (front_forms.unary_front names inner count)
  unfolding front_forms.unary_front
  unary_front count = and_then _ (unary count) (λ side. done (fronts.Sum (chains.chain_of side.0) side.1) (omega arith))

  other_front : (count : ℕ) →
      Fronts before count count true (front_forms.other_front names inner (count + before))
      (front_forms.other_front names inner count)
  unfolding front_forms.other_front
  other_front count = where_next (name_front count) (unary_front count)

  first_front : (count : ℕ) →
      Fronts before count count true (front_forms.first_front names inner (count + before))
      (front_forms.first_front names inner count)
  unfolding front_forms.first_front
  first_front count = where_next (plus_front count) (where_next (digits_front count) (other_front count))

  decided : (count : ℕ) (e : MaybeSubscripts) (op : Op) →
      Fronts before count count true (front_forms.decided names inner (count + before) e op)
      (front_forms.decided names inner count e op)
  unfolding front_forms.decided
  decided count e op = and_then _ (tallied before count e.leaves) (λ more. and_then _ (operated op e.chain more) (λ state. done (fronts.Sum state.0 state.1) (omega arith)))

  number_turn : (count : ℕ) (op : Op) (negative : Bool) (e : MaybeSubscripts) →
      Fronts before count count true (front_forms.number_turn op negative e)
      (front_forms.number_turn op negative e)
  unfolding front_forms.number_turn
  number_turn count op negative e = behind digits
      (λ found. behind note
      (λ u. done (fronts.Either (eithers.with_number op negative found.0 found.1 e)) (omega arith)))

  number_or_decided : (count : ℕ) (e : MaybeSubscripts) (op : Op) (negative : Bool) →
      Fronts before count count true
      (front_forms.number_or_decided names inner (count + before) e op negative)
      (front_forms.number_or_decided names inner count e op negative)
  unfolding front_forms.number_or_decided
  number_or_decided count e op negative = where_next (number_turn count op negative e) (decided count e op)

  plus_turn : (count : ℕ) (e : MaybeSubscripts) →
      Fronts before count count true (front_forms.plus_turn names inner (count + before) e)
      (front_forms.plus_turn names inner count e)
  unfolding front_forms.plus_turn
  plus_turn count e = behind (mark plus_sign) (λ u. number_or_decided count e _ false)

  minus_behind : (count : ℕ) (e : MaybeSubscripts) →
      Fronts before count count true (front_forms.minus_behind names inner (count + before) e)
      (front_forms.minus_behind names inner count e)
  unfolding front_forms.minus_behind
  minus_behind count e = chosen (front_forms.takes_minus e) (number_or_decided count e _ true)
      (decided count e _)

  minus_turn : (count : ℕ) (e : MaybeSubscripts) →
      Fronts before count count true (front_forms.minus_turn names inner (count + before) e)
      (front_forms.minus_turn names inner count e)
  unfolding front_forms.minus_turn
  minus_turn count e = behind (mark hyphen) (λ u. minus_behind count e)

  factor_turn : (count : ℕ) (e : MaybeSubscripts) →
      Fronts before count count true (front_forms.factor_turn names inner (count + before) e)
      (front_forms.factor_turn names inner count e)
  unfolding front_forms.factor_turn
  factor_turn count e = behind law.operator (λ op. decided count e op)

  front_turn : (count : ℕ) (front : FirstInParens) →
      Fronts before count (front_count count front) true
      (front_forms.front_turn names inner (count + before) (more_front before front))
      (front_forms.front_turn names inner count front)
  unfolding front_forms.front_turn
  front_turn count (fronts.Sum chain sum) = and_then _ (turn (chain, sum)) (λ state. done (fronts.Sum state.0 state.1) (omega arith))
  front_turn count (fronts.Either e) = where_next (plus_turn count e)
      (where_next (minus_turn count e) (factor_turn count e))

  subs_suffix : (count : ℕ) (e : MaybeSubscripts) →
      Counts before count true (λ n. front_forms.subs_suffix names n e)
  unfolding front_forms.subs_suffix
  subs_suffix count e = behind note
      (λ u. behind (makers.loop (λ front. added front (law.sub names)))
      (λ subs. behind (mark right_parenthesis) (λ v. done (suffixes.Subs subs, count) (omega arith))))

  window_suffix : (first : Side) (count : ℕ) →
      Counts before count true (λ n. front_forms.window_suffix names inner false first n)
  window_suffix first count = and_then _ (window_behind first count) (λ window. done (suffixes.Window window.0, window.1) (omega arith))

  front_end : (count : ℕ) (front : FirstInParens) →
      Counted before (front_count count front) true (more_terms before) term_count
      (front_forms.front_end names inner false (count + before) (more_front before front))
      (front_forms.front_end names inner false count front)
  unfolding front_forms.front_end
  front_end count (fronts.Sum chain sum) = window_suffix (chains.finish chain) sum
  front_end count (fronts.Either e) = where_next
      (and_then _ (tallied before count e.leaves) (λ more. window_suffix (chains.finish e.chain) more))
      (subs_suffix count e)

  in_suffix : (count : ℕ) → Counts before count true (λ n. front_forms.in_suffix names inner false n)
  unfolding front_forms.in_suffix
  in_suffix count = behind (mark left_parenthesis)
      (λ u. and_then _ (first_front count) (λ first. and_then _ (loop before (more_front before) (front_count count) _ _ _ (front_turn count) first)
      (λ front. front_end count front)))

-- ---- with so many levels of parentheses

pub inner : (names : Names) (before levels : ℕ) → InnerCounts before (knots.inner names levels)
unfolding knots.inner
inner names before zero = record {
  nested = λ count. where_next refused refused;
  suffix = λ count. where_next refused refused;
  window = λ count. where_next refused refused;
}
inner names before (suc n) = record {
  nested = λ count. in_nested names before (inner names before n) count;
  suffix = λ count. in_suffix names before (inner names before n) count;
  window = λ count. in_window names before (inner names before n) count;
}

-- ---- what that says

passes : {A : Type 0} (before : ℕ) (o : Outcome (A × ℕ)) →
    ((b : A × ℕ) (q : Input) → o ≡ Got b q → max_terms < b.1 + before) → Passes before o
passes before (Got a q) h = h a q refl
passes before (Stop why rest) h = tt

alike : {A : Type 0} (before : ℕ) (o p : Outcome (A × ℕ)) →
    Fewer before (more_terms before) term_count o p → WithFewer before o p
alike before (Got a q) p h = (
  h.0.1,
  ap (λ x. x.1) h.1,
  h.2 ∙ ap (λ v. Got (v, h.0.1) q) (sym (ap (λ x. x.0) h.1)),
)
alike before (Stop why rest) p (inl h) = inl h
alike before (Stop why rest) p (inr h) = inr (h.0, h.1, passes before p h.2)

kept : {A : Type 0} (before : ℕ) (a : A) (n : ℕ) (q : Input) (o p : Outcome (A × ℕ)) →
    Fewer before (more_terms before) term_count o p → p ≡ Got (a, n) q → n + before ≤ max_terms →
    o ≡ Got (a, n + before) q
kept before a n q (Got b r) p g e h =
    let s = got_is g.0 (a, n) r q (sym g.2 ∙ e) in
    ap (λ x. Got x r) (g.1 ∙ ap (λ x. more_terms before x) s.0) ∙ ap (λ y. Got (a, n + before) y) s.1
kept before a n q (Stop why r) p (inl g) e h = absurd cc
kept before a n q (Stop why r) p (inr g) e h =
    let passed = g.2 (a, n) q e in absurd (omega (arith, passed, h))

pub is_counted : {A : Type 0} (f : ℕ → Form (A × ℕ)) →
    ((before count : ℕ) → Counts before count true f) → IsCounted f
is_counted f C = record {
  only_counts = λ count p a q e. (C zero count).grows p a q e;
  counts_alike = λ count before p.
      alike before ((f (count + before)).reads p) ((f count).reads p) ((C before count).goes p);
  keeps_within = λ count before p a n q e h.
      kept before a n q ((f (count + before)).reads p) ((f count).reads p) ((C before count).goes p) e h;
}
