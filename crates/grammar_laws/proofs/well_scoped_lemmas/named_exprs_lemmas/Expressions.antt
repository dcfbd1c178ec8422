-- What references, operands and expressions give.
use Rattle.std.proofs.Common.{◌≡◌, ℕ, zero, suc, ◌+◌, Bool, true, false, List, [], length, Option, Some, None, refl}
use Rattle.std.specs.Prelude.{codes, nat_lt}
use Rattle.std.specs.Option.{is_some}
use Rattle.cob_base.specs.Bytes.{left_parenthesis, right_parenthesis, plus_sign, hyphen, colon}
use Rattle.cob_tree.specs.declared.place.Expr.TheVariants as exprs
use Rattle.cob_tree.specs.declared.place.Op.{Op}
use Rattle.cob_tree.specs.declared.place.Op.TheVariants as ops
use Rattle.cob_tree.specs.declared.place.Operand.{Operand}
use Rattle.cob_tree.specs.declared.place.Place.{Place}
use Rattle.cob_tree.specs.declared.place.Sub.{Sub}
use Rattle.parser_combinators.specs.declared.note.Position.{Position}
use Rattle.parser_combinators.specs.declared.why.Why.TheVariants.{Terms}
use Rattle.symbol_tables.specs.declared.data_names.name.Referent.{Referent}
use Rattle.symbol_tables.specs.data_names.Names.{Names}
use Rattle.symbol_tables.specs.data_names.Look.{look}
use Rattle.parser_combinators.proofs.words_lemmas.WordLaws as words
use Rattle.cobol_grammar.specs.declared.expr_forms.chain.PendingTerm.{PendingTerm}
use Rattle.cobol_grammar.specs.declared.expr_forms.chain.Chain.{Chain}
use Rattle.cobol_grammar.specs.declared.expr_forms.either.MaybeSubscripts.{MaybeSubscripts}
use Rattle.cobol_grammar.specs.declared.expr_forms.front.FirstInParens.{FirstInParens}
use Rattle.cobol_grammar.specs.declared.expr_forms.front.FirstInParens.TheVariants as fronts
use Rattle.cobol_grammar.specs.declared.expr_forms.reference.RefSuffixes.{RefSuffixes}
use Rattle.cobol_grammar.specs.declared.expr_forms.reference.Suffix.{Suffix}
use Rattle.cobol_grammar.specs.declared.expr_forms.reference.Suffix.TheVariants as suffixes
use Rattle.cobol_grammar.specs.declared.expr_forms.side.Side.{Side}
use Rattle.cobol_grammar.specs.declared.expr_forms.side.ParsedExpr.{ParsedExpr}
use Rattle.cobol_grammar.specs.declared.expr_forms.side.ParsedExpr.TheVariants as whats
use Rattle.cob_base.specs.Limit.{max_terms, max_parens}
use Rattle.cobol_grammar.specs.expr_forms.Limit as limits
use Rattle.cobol_grammar.specs.expr_forms.Limit.{Inner}
use Rattle.cobol_grammar.specs.expr_forms.Fault.{item_of}
use Rattle.cobol_grammar.specs.expr_forms.Side as sides
use Rattle.cobol_grammar.specs.expr_forms.Side.{expr_of, place_of}
use Rattle.cobol_grammar.specs.expr_forms.Chain as chains
use Rattle.cobol_grammar.specs.expr_forms.Either as eithers
use Rattle.cobol_grammar.specs.expr_forms.Reference as references
use Rattle.cobol_grammar.specs.expr_forms.Operand as operands
use Rattle.cobol_grammar.specs.expr_forms.Expression as expressions
use Rattle.cobol_grammar.specs.expr_forms.Window as windows
use Rattle.cobol_grammar.specs.expr_forms.Subscript as subscripts
use Rattle.cobol_grammar.specs.expr_forms.Front as front_forms
use Rattle.cobol_grammar.specs.expr_forms.Levels as knots
use Rattle.cobol_grammar.proofs.expr_forms_lemmas.ExpressionLaws as law
use Rattle.program_facts.specs.well_scoped.Part.{Counts, if_any, are_digits, item_named, place_named, operand_named, expr_named, sub_named, window_named, subs_named}
use Rattle.program_facts.proofs.well_scoped_lemmas.Made.{both, all-added, place-made, sub-made, window-made, made-Place-operand, made-Leaf, made-Minus, made-Both}
use Rattle.grammar_laws.specs.form_results.Giving.{Gives}
use Rattle.grammar_laws.specs.form_results.Numbered.{IsNumbered}
use Rattle.grammar_laws.proofs.form_results_lemmas.Giving.{any, hence, still, pure, refuse, note, mark, too_deep, unless, chosen, where_next, loop, items_all, ◌>>=◌, ◌>>◌}
use Rattle.grammar_laws.proofs.form_results_lemmas.Literals.{whole-named, whole-literal, literal-given, digits}
use Rattle.grammar_laws.specs.well_scoped.named_exprs.Sides.{AreDeclared, is_reference, what_named}
use Rattle.grammar_laws.proofs.well_scoped_lemmas.named_exprs_lemmas.Found.{Fine, look-fine}

-- a number in a program: digits, or a literal 0 of a subscript
zero-named : are_digits (codes "0") ≡ true
zero-named = refl

module _ (counts : Counts) where
  -- ---- what is known of what is read

  abbrev pub Named : Side → Type 0
  Named side = what_named counts side.what ≡ true

  abbrev pub RefNamed : Side → Type 0
  RefNamed side = (what_named counts side.what ≡ true) × (is_reference side.what ≡ true)

  abbrev pub ChainNamed : Chain → Type 0
  ChainNamed chain = (if_any (λ (before : PendingTerm). expr_named counts before.left) chain.before ≡ true) × Named chain.last

  pub record EitherNamed (either : MaybeSubscripts) : Type 0 where
    pub subs : subs_named counts either.subs ≡ true
    pub base : if_any (place_named counts) either.base ≡ true
    pub chain : ChainNamed either.chain

  abbrev FrontNamed : FirstInParens → Type 0
  FrontNamed (fronts.Either either) = EitherNamed either
  FrontNamed (fronts.Sum chain count) = ChainNamed chain

  abbrev SuffixNamed : Suffix → Type 0
  SuffixNamed (suffixes.Subs subs) = subs_named counts subs ≡ true
  SuffixNamed (suffixes.Window window) = window_named counts window ≡ true

  abbrev BehindNamed : RefSuffixes → Type 0
  BehindNamed behind = (subs_named counts behind.subs ≡ true) × (if_any (window_named counts) behind.window ≡ true)

  pub record InnerGives (inner : Inner) : Type 0 where
    pub nested : (count : ℕ) → Gives IsNumbered (inner.nested count) (λ found. Named found.0)
    pub suffix : (count : ℕ) → Gives IsNumbered (inner.suffix count) (λ found. SuffixNamed found.0)
    pub window : (count : ℕ) → Gives IsNumbered (inner.window count) (λ found. window_named counts found.0 ≡ true)

  -- ---- what is made of it

  pub leaf-named : (operand : Operand) → operand_named counts operand ≡ true → expr_named counts (exprs.Leaf operand) ≡ true
  leaf-named operand h = made-Leaf counts operand h

  pub expr-named : (what : ParsedExpr) → what_named counts what ≡ true → expr_named counts (expr_of what) ≡ true
  expr-named (whats.Ref place) h = made-Leaf counts _ (made-Place-operand counts place h)
  expr-named (whats.Literal operand) h = made-Leaf counts operand h
  expr-named (whats.Enclosed place) h = made-Leaf counts _ (made-Place-operand counts place h)
  expr-named (whats.Sum expr) h = h

  finished-named : (before : Option PendingTerm) (last : Side) → if_any (λ (before : PendingTerm). expr_named counts before.left) before ≡ true → Named last → Named (chains.finished before last)
  finished-named None last b l = l
  finished-named (Some before) last b l = made-Both counts before.op before.left (expr_of last.what) b (expr-named last.what l)

  pub finish-named : (chain : Chain) → ChainNamed chain → Named (chains.finish chain)
  unfolding chains.finish
  finish-named chain h = finished-named chain.before chain.last h.0 h.1

  joined-named : (op : Op) (chain : Chain) (right : Side) → ChainNamed chain → Named right → ChainNamed (chains.joined op chain right)
  unfolding chains.joined chains.finish
  joined-named ops.Add chain right c r = (expr-named _ (finish-named chain c), r)
  joined-named ops.Sub chain right c r = (expr-named _ (finish-named chain c), r)
  joined-named ops.Mul chain right c r = (c.0, made-Both counts ops.Mul _ _ (expr-named chain.last.what c.1) (expr-named right.what r))
  joined-named ops.Div chain right c r = (c.0, made-Both counts ops.Div _ _ (expr-named chain.last.what c.1) (expr-named right.what r))

  number_sub-named : (found : List ℕ) → are_digits found ≡ true → sub_named counts (eithers.number_sub found) ≡ true
  number_sub-named found d = sub-made counts None (sides.number_of false found) (whole-named false found d) refl

  item_sub-named : (place : Place) (negative : Bool) (found : List ℕ) → place_named counts place ≡ true → are_digits found ≡ true → sub_named counts (eithers.item_sub place negative found) ≡ true
  item_sub-named place negative found p d = sub-made counts (Some place) (sides.number_of negative found) (whole-named negative found d) p

  added_sub-named : (base : Option Place) (negative : Bool) (found : List ℕ) → if_any (place_named counts) base ≡ true → are_digits found ≡ true → sub_named counts (eithers.added_sub base negative found) ≡ true
  added_sub-named None negative found b d = number_sub-named found d
  added_sub-named (Some place) negative found b d = item_sub-named place negative found b d

  subs_with-named : (base : Option Place) (subs : List Sub) → if_any (place_named counts) base ≡ true → subs_named counts subs ≡ true → subs_named counts (eithers.subs_with base subs) ≡ true
  subs_with-named None subs b s = s
  subs_with-named (Some place) subs b s = all-added (sub_named counts) subs _ s (item_sub-named place false (codes "0") b zero-named)

  subs_of-named : (either : MaybeSubscripts) → EitherNamed either → subs_named counts (eithers.subs_of either) ≡ true
  unfolding eithers.subs_of
  subs_of-named either e = subs_with-named either.base either.subs e.base e.subs

  pub digits_side-named : (found : List ℕ) (position : Position) → are_digits found ≡ true → Named (sides.digits_side found position)
  unfolding sides.literal_side
  digits_side-named found position d = (whole-literal found d).1 counts

  number_either-named : (found : List ℕ) (position : Position) → are_digits found ≡ true → EitherNamed (eithers.number_either found position)
  number_either-named found position d = record {
    subs = both (number_sub-named found d) refl;
    base = refl;
    chain = (refl, digits_side-named found position d);
  }

  with_number-named : (op : Op) (negative : Bool) (found : List ℕ) (position : Position) (either : MaybeSubscripts) → are_digits found ≡ true → EitherNamed either →
      EitherNamed (eithers.with_number op negative found position either)
  unfolding eithers.with_number
  with_number-named op negative found position either d e = record {
    subs = all-added (sub_named counts) either.subs _ e.subs (added_sub-named either.base negative found e.base d);
    base = refl;
    chain = joined-named op either.chain _ e.chain (digits_side-named found position d);
  }

  bare_place-named : (found : Referent) (of : List (List ℕ)) → item_named counts (item_of found) ≡ true → place_named counts (place_of found of [] None) ≡ true
  bare_place-named found of i = place-made counts (item_of found) of [] None i refl refl

  ref_either-named : (found : Referent) (of : List (List ℕ)) (position : Position) → item_named counts (item_of found) ≡ true → EitherNamed (eithers.ref_either found of position)
  unfolding sides.ref_side
  ref_either-named found of position i = record {
    subs = refl;
    base = bare_place-named found of i;
    chain = (refl, bare_place-named found of i);
  }

  -- ---- references

  pub tally : (count more : ℕ) → Gives IsNumbered (limits.count_terms count more) (λ _. Unit {0})
  tally count more = unless Terms (nat_lt max_terms (count + more)) (count + more) tt

  more_behind : {inner : Inner} → InnerGives inner → (suffix : Suffix) (count : ℕ) → Gives IsNumbered (references.more_behind inner suffix count) (λ behind. SuffixNamed suffix → BehindNamed behind)
  more_behind I (suffixes.Window window) count = pure (λ w. (refl, w))
  more_behind I (suffixes.Subs subs) count = where_next (I.window count >>= (λ w. pure (λ k s. (s, k)))) (pure (λ s. (s, refl)))

  behind : {inner : Inner} → InnerGives inner → (count : ℕ) → Gives IsNumbered (references.behind inner count) BehindNamed
  unfolding references.behind
  behind I count = where_next (I.suffix count >>= (λ suffix. more_behind I suffix.0 suffix.1)) (pure (refl, refl))

  ref_behind : {inner : Inner} → InnerGives inner → (found : Referent) → Fine counts found → (of : List (List ℕ)) (position : Position) (count : ℕ) →
      Gives IsNumbered (references.ref_behind inner found of position count) (λ side. RefNamed side.0)
  unfolding references.ref_behind sides.ref_side
  ref_behind I found F of position count = do
    tail ← behind I count
    note
    pure (λ n t. (place-made counts (item_of found) of tail.subs tail.window (F (length tail.subs) (is_some tail.window) position n.1) t.0 t.1, refl))

  module _ (names : Names) (declared : AreDeclared names counts) where
    reference_behind : {inner : Inner} → InnerGives inner → (first : List ℕ) (position : Position) (count : ℕ) →
        Gives IsNumbered (references.reference_behind names inner first position count) (λ side. RefNamed side.0)
    unfolding references.reference_behind
    reference_behind I first position count = any law.qualifiers >>= (λ of. still (ref_behind I _ (look-fine counts names declared first of) of position count))

    reference : {inner : Inner} → InnerGives inner → (count : ℕ) → Gives IsNumbered (references.reference names inner count) (λ side. RefNamed side.0)
    unfolding references.reference
    reference I count = any words.name >>= (λ first. still (reference_behind I first.0 first.1 count))

    -- ---- operands

    literal_operand : (count : ℕ) → Gives IsNumbered (operands.literal_operand count) (λ side. Named side.0)
    unfolding operands.literal_operand sides.literal_side
    literal_operand count = literal-given >>= (λ found. pure (λ l. l.1 counts))

    pub operand : {inner : Inner} → InnerGives inner → (count : ℕ) → Gives IsNumbered (operands.operand names inner count) (λ side. Named side.0)
    unfolding operands.operand
    operand I count = where_next (tally count 1 >>= (λ more. where_next (hence (λ side h _. h.0) (reference I more)) (still (literal_operand more)))) refuse

    -- ---- expressions

    unsigned : {inner : Inner} → InnerGives inner → (count : ℕ) → Gives IsNumbered (expressions.unsigned names inner count) (λ side. Named side.0)
    unfolding expressions.unsigned
    unsigned I count = where_next (I.nested count) (operand I count)

    plussed : {inner : Inner} → InnerGives inner → (count : ℕ) → Gives IsNumbered (expressions.plussed names inner count) (λ side. Named side.0)
    unfolding expressions.plussed sides.sum_side
    plussed I count = mark plus_sign >>= (λ position. unsigned I count >>= (λ side. pure (λ s _. expr-named side.0.what s)))

    minussed : {inner : Inner} → InnerGives inner → (count : ℕ) → Gives IsNumbered (expressions.minussed names inner count) (λ side. Named side.0)
    unfolding expressions.minussed sides.negated
    minussed I count = do
      more ← tally count 1
      position ← mark hyphen
      side ← unsigned I more
      note
      pure (λ _ s _ _. made-Minus counts _ (expr-named side.0.what s))

    pub unary : {inner : Inner} → InnerGives inner → (count : ℕ) → Gives IsNumbered (expressions.unary names inner count) (λ side. Named side.0)
    unfolding expressions.unary
    unary I count = where_next (minussed I count) (where_next (plussed I count) (unsigned I count))

    operated : {inner : Inner} → InnerGives inner → (op : Op) (chain : Chain) (count : ℕ) → Gives IsNumbered (expressions.operated names inner op chain count) (λ state. ChainNamed chain → ChainNamed state.0)
    unfolding expressions.operated
    operated I op chain count = do
      right ← unary I count
      note
      note
      pure (λ _ _ r c. joined-named op chain right.0 c r)

    turn : {inner : Inner} → InnerGives inner → (state : Chain × ℕ) → Gives IsNumbered (expressions.turn names inner state) (λ last. ChainNamed state.0 → ChainNamed last.0)
    unfolding expressions.turn
    turn I state = any law.operator >>= (λ op. still (operated I op state.0 state.1))

    pub sum : {inner : Inner} → InnerGives inner → (side : Side) (count : ℕ) → Gives IsNumbered (expressions.sum names inner side count) (λ last. Named side → Named last.0)
    unfolding expressions.sum
    sum I side count = loop {P = λ (state : Chain × ℕ). ChainNamed state.0} (turn I) >>= (λ state. pure (λ h s. finish-named state.0 (h (refl, s))))

    pub expr : {inner : Inner} → InnerGives inner → (count : ℕ) → Gives IsNumbered (expressions.expr names inner count) (λ side. Named side.0)
    unfolding expressions.expr
    expr I count = unary I count >>= (λ first. sum I first.0 first.1)

    in_nested : {inner : Inner} → InnerGives inner → (count : ℕ) → Gives IsNumbered (expressions.in_nested names inner count) (λ side. Named side.0)
    unfolding expressions.in_nested sides.sum_side
    in_nested I count = do
      position ← mark left_parenthesis
      side ← expr I count
      mark right_parenthesis
      pure (λ _ s _. expr-named side.0.what s)

    -- ---- windows

    length_part : {inner : Inner} → InnerGives inner → (count : ℕ) → Gives IsNumbered (windows.length_part names inner count) (λ size. if_any (expr_named counts) size.0 ≡ true)
    unfolding windows.length_part
    length_part I count = where_next (pure refl) (expr I count >>= (λ side. note >> pure (λ _ s. expr-named side.0.what s)))

    window_behind : {inner : Inner} → InnerGives inner → (alone : Bool) (first : Side) (count : ℕ) →
        Gives IsNumbered (windows.window_behind names inner alone first count) (λ window. Named first → window_named counts window.0 ≡ true)
    unfolding windows.window_behind
    window_behind I alone first count = do
      mark colon
      note
      size ← length_part I (windows.second_count alone count)
      mark right_parenthesis
      pure (λ _ l _ _ f. window-made counts (expr_of first.what) size.0 (expr-named first.what f) l)

    in_window : {inner : Inner} → InnerGives inner → (alone : Bool) (count : ℕ) → Gives IsNumbered (windows.in_window names inner alone count) (λ window. window_named counts window.0 ≡ true)
    unfolding windows.in_window
    in_window I alone count = mark left_parenthesis >> (expr I count >>= (λ first. hence (λ w h f _. h f) (window_behind I alone first.0 first.1)))

    -- ---- subscripts

    plus_sub_form : Gives IsNumbered subscripts.plus_sub_form (λ sub. sub_named counts sub ≡ true)
    unfolding subscripts.plus_sub_form
    plus_sub_form = mark plus_sign >> (digits >>= (λ found. pure (λ d _. number_sub-named found.0 d)))

    number_sub_form : Gives IsNumbered subscripts.number_sub_form (λ sub. sub_named counts sub ≡ true)
    unfolding subscripts.number_sub_form
    number_sub_form = digits >>= (λ found. pure (λ d. number_sub-named found.0 d))

    item_sub_by : (byte : ℕ) (negative : Bool) (place : Place) → Gives IsNumbered (subscripts.item_sub_by byte negative place) (λ sub. place_named counts place ≡ true → sub_named counts sub ≡ true)
    unfolding subscripts.item_sub_by
    item_sub_by byte negative place = mark byte >> (digits >>= (λ found. pure (λ d _ p. item_sub-named place negative found.0 p d)))

    item_sub_behind : (place : Place) → Gives IsNumbered (subscripts.item_sub_behind place) (λ sub. place_named counts place ≡ true → sub_named counts sub ≡ true)
    unfolding subscripts.item_sub_behind
    item_sub_behind place =
        where_next (item_sub_by plus_sign false place) (where_next (item_sub_by hyphen true place)
        (pure (λ p. item_sub-named place false (codes "0") p zero-named)))

    item_sub_form : Gives IsNumbered (subscripts.item_sub_form names) (λ sub. sub_named counts sub ≡ true)
    unfolding subscripts.item_sub_form
    item_sub_form = do
      first ← any words.name
      of ← any law.qualifiers
      note
      note
      hence (λ sub h _ n _ _. h (bare_place-named (look names first.0 of) of (look-fine counts names declared first.0 of 0 false first.1 n.1))) (item_sub_behind _)

    sub : Gives IsNumbered (subscripts.sub names) (λ sub. sub_named counts sub ≡ true)
    unfolding subscripts.sub
    sub = where_next plus_sub_form (where_next number_sub_form item_sub_form)

    -- ---- subscripts or a window

    digits_front : Gives IsNumbered front_forms.digits_front FrontNamed
    unfolding front_forms.digits_front
    digits_front = digits >>= (λ found. pure (λ d. number_either-named found.0 found.1 d))

    sum_front : (side : Side × ℕ) → Gives IsNumbered (front_forms.sum_front side) (λ front. Named side.0 → FrontNamed front)
    sum_front side = pure (λ s. (refl, s))

    plus_front : {inner : Inner} → InnerGives inner → (count : ℕ) → Gives IsNumbered (front_forms.plus_front names inner count) FrontNamed
    unfolding front_forms.plus_front sides.sum_side
    plus_front I count = mark plus_sign >>= (λ position. where_next (still digits_front) (unsigned I count >>= (λ side. pure (λ s _. (refl, expr-named side.0.what s)))))

    name_front : {inner : Inner} → InnerGives inner → (count : ℕ) → Gives IsNumbered (front_forms.name_front names inner count) FrontNamed
    unfolding front_forms.name_front
    name_front I count = do
      first ← any words.name
      of ← any law.qualifiers
      where_next (tally count 1 >>= (λ more. ref_behind I (look names first.0 of) (look-fine counts names declared first.0 of) of first.1 more >>= (λ side. pure (λ s _ _ _. (refl, s.0)))))
          (note >> pure (λ n _ _. ref_either-named (look names first.0 of) of first.1 (look-fine counts names declared first.0 of 0 false first.1 n.1)))

    unary_front : {inner : Inner} → InnerGives inner → (count : ℕ) → Gives IsNumbered (front_forms.unary_front names inner count) FrontNamed
    unfolding front_forms.unary_front
    unary_front I count = unary I count >>= sum_front

    other_front : {inner : Inner} → InnerGives inner → (count : ℕ) → Gives IsNumbered (front_forms.other_front names inner count) FrontNamed
    unfolding front_forms.other_front
    other_front I count = where_next (name_front I count) (unary_front I count)

    first_front : {inner : Inner} → InnerGives inner → (count : ℕ) → Gives IsNumbered (front_forms.first_front names inner count) FrontNamed
    unfolding front_forms.first_front
    first_front I count = where_next (plus_front I count) (where_next digits_front (other_front I count))

    decided : {inner : Inner} → InnerGives inner → (count : ℕ) (e : MaybeSubscripts) (op : Op) → Gives IsNumbered (front_forms.decided names inner count e op) (λ front. EitherNamed e → FrontNamed front)
    unfolding front_forms.decided
    decided I count e op = do
      more ← tally count e.leaves
      state ← operated I op e.chain more
      pure (λ h _ k. h k.chain)

    number_turn : (op : Op) (negative : Bool) (e : MaybeSubscripts) → Gives IsNumbered (front_forms.number_turn op negative e) (λ front. EitherNamed e → FrontNamed front)
    unfolding front_forms.number_turn
    number_turn op negative e = digits >>= (λ found. note >> pure (λ _ d k. with_number-named op negative found.0 found.1 e d k))

    number_or_decided : {inner : Inner} → InnerGives inner → (count : ℕ) (e : MaybeSubscripts) (op : Op) (negative : Bool) →
        Gives IsNumbered (front_forms.number_or_decided names inner count e op negative) (λ front. EitherNamed e → FrontNamed front)
    unfolding front_forms.number_or_decided
    number_or_decided I count e op negative = where_next (number_turn op negative e) (decided I count e op)

    plus_turn : {inner : Inner} → InnerGives inner → (count : ℕ) (e : MaybeSubscripts) → Gives IsNumbered (front_forms.plus_turn names inner count e) (λ front. EitherNamed e → FrontNamed front)
    unfolding front_forms.plus_turn
    plus_turn I count e = mark plus_sign >> still (number_or_decided I count e ops.Add false)

    minus_behind : {inner : Inner} → InnerGives inner → (count : ℕ) (e : MaybeSubscripts) → Gives IsNumbered (front_forms.minus_behind names inner count e) (λ front. EitherNamed e → FrontNamed front)
    unfolding front_forms.minus_behind
    minus_behind I count e = chosen (front_forms.takes_minus e) (number_or_decided I count e ops.Sub true) (decided I count e ops.Sub)

    minus_turn : {inner : Inner} → InnerGives inner → (count : ℕ) (e : MaybeSubscripts) → Gives IsNumbered (front_forms.minus_turn names inner count e) (λ front. EitherNamed e → FrontNamed front)
    unfolding front_forms.minus_turn
    minus_turn I count e = mark hyphen >> still (minus_behind I count e)

    factor_turn : {inner : Inner} → InnerGives inner → (count : ℕ) (e : MaybeSubscripts) → Gives IsNumbered (front_forms.factor_turn names inner count e) (λ front. EitherNamed e → FrontNamed front)
    unfolding front_forms.factor_turn
    factor_turn I count e = any law.operator >>= (λ op. still (decided I count e op))

    front_turn : {inner : Inner} → InnerGives inner → (count : ℕ) (front : FirstInParens) → Gives IsNumbered (front_forms.front_turn names inner count front) (λ last. FrontNamed front → FrontNamed last)
    unfolding front_forms.front_turn
    front_turn I count (fronts.Sum chain more) = turn I (chain, more) >>= (λ state. pure (λ h. h))
    front_turn I count (fronts.Either e) = where_next (plus_turn I count e) (where_next (minus_turn I count e) (factor_turn I count e))

    window_suffix : {inner : Inner} → InnerGives inner → (alone : Bool) (first : Side) (count : ℕ) →
        Gives IsNumbered (front_forms.window_suffix names inner alone first count) (λ suffix. Named first → SuffixNamed suffix.0)
    window_suffix I alone first count = window_behind I alone first count >>= (λ window. pure (λ h. h))

    subs_suffix : (count : ℕ) (e : MaybeSubscripts) → Gives IsNumbered (front_forms.subs_suffix names count e) (λ suffix. EitherNamed e → SuffixNamed suffix.0)
    unfolding front_forms.subs_suffix
    subs_suffix count e = do
      note
      subs ← items_all (sub_named counts) sub
      mark right_parenthesis
      pure (λ _ h _ k. h (subs_of-named e k))

    front_end : {inner : Inner} → InnerGives inner → (alone : Bool) (count : ℕ) (front : FirstInParens) →
        Gives IsNumbered (front_forms.front_end names inner alone count front) (λ suffix. FrontNamed front → SuffixNamed suffix.0)
    unfolding front_forms.front_end
    front_end I alone count (fronts.Sum chain more) = hence (λ suffix h c. h (finish-named chain c)) (window_suffix I alone (chains.finish chain) more)
    front_end I alone count (fronts.Either e) =
        where_next (tally count e.leaves >>= (λ more. hence (λ suffix h _ k. h (finish-named e.chain k.chain)) (window_suffix I alone (chains.finish e.chain) more)))
        (subs_suffix count e)

    in_suffix : {inner : Inner} → InnerGives inner → (alone : Bool) (count : ℕ) → Gives IsNumbered (front_forms.in_suffix names inner alone count) (λ suffix. SuffixNamed suffix.0)
    unfolding front_forms.in_suffix
    in_suffix I alone count = do
      mark left_parenthesis
      first ← first_front I count
      front ← loop {P = FrontNamed} (front_turn I count)
      hence (λ suffix h w f _. h (w f)) (front_end I alone count front)

    -- ---- with so many levels of parentheses

    pub inner : (levels : ℕ) → InnerGives (knots.inner names levels)
    unfolding knots.inner
    inner zero = record {
      nested = λ count. too_deep;
      suffix = λ count. too_deep;
      window = λ count. too_deep;
    }
    inner (suc n) = record {
      nested = λ count. in_nested (inner n) count;
      suffix = λ count. in_suffix (inner n) false count;
      window = λ count. in_window (inner n) false count;
    }

    outer : InnerGives (knots.outer names)
    outer = record {
      nested = λ count. in_nested (inner max_parens) count;
      suffix = λ count. in_suffix (inner max_parens) true count;
      window = λ count. in_window (inner max_parens) true count;
    }

    -- ---- as statements have them

    pub data_reference : Gives IsNumbered (knots.data_reference names) RefNamed
    unfolding knots.data_reference
    data_reference = reference outer 0 >>= (λ side. pure (λ s. s))

    pub data_reference_behind : (first : List ℕ) (position : Position) → Gives IsNumbered (knots.data_reference_behind names first position) RefNamed
    unfolding knots.data_reference_behind
    data_reference_behind first position = reference_behind outer first position 0 >>= (λ side. pure (λ s. s))

    pub data_operand : Gives IsNumbered (knots.data_operand names) Named
    unfolding knots.data_operand
    data_operand = operand outer 0 >>= (λ side. pure (λ s. s))

    pub whole_expr : Gives IsNumbered (knots.whole_expr names) Named
    unfolding knots.whole_expr
    whole_expr = expr (inner max_parens) 0 >>= (λ side. pure (λ s. s))
