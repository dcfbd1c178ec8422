-- What references, operands and expressions give.
use Rattle.std.proofs.Common.{◌≡◌, ℕ, zero, suc, ◌+◌, ◌≤◌, Bool, true, false, List, [], map, None, refl, sym, subst, arith}
use Rattle.std.specs.Prelude.{codes}
use Rattle.cob_base.specs.Bytes.{left_parenthesis, right_parenthesis, plus_sign, hyphen, colon}
use Rattle.cob_tree.specs.declared.place.Op.{Op}
use Rattle.cob_tree.specs.declared.place.Op.TheVariants as ops
use Rattle.cob_tree.specs.declared.place.Place.{Place}
use Rattle.cob_tree.specs.declared.place.Sub.{Sub}
use Rattle.cob_tree.specs.declared.program.Program.{Program}
use Rattle.cobol_lex.specs.declared.token.TokenKind.{TokenKind}
use Rattle.parser_combinators.specs.declared.note.Position.{Position}
use Rattle.parser_combinators.proofs.MakerLaws as laws
use Rattle.parser_combinators.specs.words.Word.{is_data_word}
use Rattle.symbol_tables.specs.declared.data_names.name.Referent.{Referent}
use Rattle.symbol_tables.specs.data_names.Names.{Names}
use Rattle.symbol_tables.specs.data_names.Look.{look}
use Rattle.cobol_grammar.specs.declared.expr_forms.chain.Chain.{Chain}
use Rattle.cobol_grammar.specs.declared.expr_forms.either.MaybeSubscripts.{MaybeSubscripts}
use Rattle.cobol_grammar.specs.declared.expr_forms.front.FirstInParens.{FirstInParens}
use Rattle.cobol_grammar.specs.declared.expr_forms.front.FirstInParens.TheVariants as fronts
use Rattle.cobol_grammar.specs.declared.expr_forms.reference.Suffix.{Suffix}
use Rattle.cobol_grammar.specs.declared.expr_forms.reference.Suffix.TheVariants as suffixes
use Rattle.cobol_grammar.specs.declared.expr_forms.side.Side.{Side}
use Rattle.cob_base.specs.Limit.{max_parens}
use Rattle.cobol_grammar.specs.expr_forms.Limit.{Inner}
use Rattle.cobol_grammar.specs.expr_forms.Chain as chains
use Rattle.cobol_grammar.specs.expr_forms.Either as eithers
use Rattle.cobol_grammar.specs.expr_forms.Reference as references
use Rattle.cobol_grammar.specs.expr_forms.Operand as operand_forms
use Rattle.cobol_grammar.specs.expr_forms.Expression as expressions
use Rattle.cobol_grammar.specs.expr_forms.Window as windows
use Rattle.cobol_grammar.specs.expr_forms.Subscript as subscripts
use Rattle.cobol_grammar.specs.expr_forms.Front as front_forms
use Rattle.cobol_grammar.specs.expr_forms.Levels as knots
use Rattle.cobol_grammar.specs.expr_forms.Side as sides
use Rattle.cobol_grammar.specs.expr_forms.Side.{place_of}
use Rattle.cobol_grammar.proofs.expr_forms_lemmas.ExpressionLaws as law
use Rattle.grammar_laws.specs.form_results.Giving.{Gives}
use Rattle.grammar_laws.proofs.form_results_lemmas.Giving.{any, hence, still, pure, refuse, note, mark, too_deep, chosen, where_next, loop, ◌>>=◌, ◌>>◌}
use Rattle.round_trip.specs.spelling.expr_spelling.Printable.{are_data_words, are_fit, judged_sub}
use Rattle.round_trip.proofs.procedures_lemmas.readable_exprs_lemmas.Named.{Finds}
use Rattle.round_trip.proofs.procedures_lemmas.readable_exprs_lemmas.Words.{name, qualifiers, literal, tally}
use Rattle.round_trip.proofs.procedures_lemmas.readable_exprs_lemmas.Known.{IsItem, IsBase, item-found, place-known, number-known, base-known, number_sub-fit, item_sub-fit, subs-added}
use Rattle.round_trip.specs.procedures.readable_exprs.Readable.{IsReadablePlace, IsReadableOperand, IsReadableExpr}
use Rattle.round_trip.proofs.procedures_lemmas.readable_exprs_lemmas.Ends as ends
use Rattle.round_trip.proofs.procedures_lemmas.readable_exprs_lemmas.Told as tell
use Rattle.round_trip.proofs.procedures_lemmas.readable_exprs_lemmas.Told.{Told, WindowTold, SuffixTold, BehindTold, PlaceTold, OperandTold, SizeTold, ChainTold, EitherTold, FrontTold, none-room}

module _ (Kind : TokenKind → Type 0) (names : Names) (program : Program) (finds : Finds names program) where
  -- what stands in parentheses, outside of any expression or within one
  pub record InnerTold (alone : Bool) (inner : Inner) : Type 0 where
    pub nested : (count : ℕ) → Gives Kind (inner.nested count) (λ found. Told names program count found.0 found.1)
    pub suffix : (count : ℕ) → Gives Kind (inner.suffix count) (λ found. SuffixTold names program alone count found.0 found.1)
    pub window : (count : ℕ) → Gives Kind (inner.window count) (λ found. WindowTold names program alone count found.0 found.1)

  -- ---- references and operands

  module _ {alone : Bool} {inner : Inner} (I : InnerTold alone inner) where
    more_behind : (before : ℕ) (suffix : Suffix) (count : ℕ) →
        Gives Kind (references.more_behind inner suffix count) (λ behind. SuffixTold names program alone before suffix count → BehindTold names program alone before behind)
    more_behind before (suffixes.Window window) count =
        pure (λ w. record { subs = refl; fit = w.fit; room = w.room; few = w.few; counted = w.counted })
    more_behind before (suffixes.Subs subs) count =
        where_next (I.window count >>= (λ w. pure (λ k s.
        let h = subst (λ n. WindowTold names program alone n w.0 w.1) s.1 k in
        record { subs = s.0; fit = h.fit; room = h.room; few = h.few; counted = h.counted })))
        (pure (λ s. let e = s.1 in record {
          subs = s.0;
          fit = refl;
          room = λ few. none-room alone before;
          few = λ few. subst (λ n. n ≤ 500) (sym e) few;
          counted = λ within. omega (arith, e);
        }))

    behind : (count : ℕ) → Gives Kind (references.behind inner count) (λ behind. BehindTold names program alone count behind)
    unfolding references.behind
    behind count =
        where_next (I.suffix count >>= (λ suffix. more_behind count suffix.0 suffix.1))
        (pure (record { subs = refl; fit = refl; room = λ few. none-room alone count; few = λ few. few; counted = λ within. omega arith }))

    ref_behind : (found : Referent) (of : List (List ℕ)) (position : Position) (count : ℕ) →
        Gives Kind (references.ref_behind inner found of position count)
        (λ side. IsItem names program found of → are_data_words of ≡ true → PlaceTold names program alone count side.0 side.1)
    unfolding references.ref_behind
    ref_behind found of position count = do
      tail ← behind count
      note
      pure (λ n t i o. tell.place-told names program alone count found of position tail (place-known names program found of tail.subs tail.window position i o n.1 t.subs t.fit) t)

    reference_behind : (first : List ℕ) (position : Position) (count : ℕ) →
        Gives Kind (references.reference_behind names inner first position count) (λ side. is_data_word first ≡ true → PlaceTold names program alone count side.0 side.1)
    unfolding references.reference_behind
    reference_behind first position count =
        qualifiers >>= (λ of. hence (λ side h o w. h (item-found names program finds first of w) o) (ref_behind (look names first of) of position count))

    reference : (count : ℕ) → Gives Kind (references.reference names inner count) (λ side. PlaceTold names program alone count side.0 side.1)
    unfolding references.reference
    reference count = name >>= (λ first. reference_behind first.0 first.1 count)

    literal_operand : (before more : ℕ) →
        Gives Kind (operand_forms.literal_operand more) (λ side. (more ≡ before + 1) × (more ≤ 500) → OperandTold names program alone before side.0 side.1)
    unfolding operand_forms.literal_operand
    literal_operand before more = literal names program >>= (λ found. pure (λ l m. tell.literal-operand names program alone before more found.0 found.1 m.0 m.1 l))

    pub operand : (count : ℕ) → Gives Kind (operand_forms.operand names inner count) (λ side. OperandTold names program alone count side.0 side.1)
    unfolding operand_forms.operand
    operand count = where_next
        (tally count 1 >>= (λ more. where_next
        (hence (λ side h m. tell.place-operand names program alone count more side.0 side.1 m.0 m.1 h) (reference more))
        (literal_operand count more)))
        refuse

  -- ---- subscripts

  abbrev SubFits : Sub → Type 0
  SubFits sub = (judged_sub names program sub).fit ≡ true

  plus_sub_form : Gives Kind subscripts.plus_sub_form SubFits
  unfolding subscripts.plus_sub_form
  plus_sub_form = mark plus_sign >> (any laws.digits >>= (λ found. pure (λ _ _. number_sub-fit names program found.0)))

  number_sub_form : Gives Kind subscripts.number_sub_form SubFits
  unfolding subscripts.number_sub_form
  number_sub_form = any laws.digits >>= (λ found. pure (λ _. number_sub-fit names program found.0))

  item_sub_by : (byte : ℕ) (negative : Bool) (place : Place) → Gives Kind (subscripts.item_sub_by byte negative place) (λ sub. IsBase names program place → SubFits sub)
  unfolding subscripts.item_sub_by
  item_sub_by byte negative place = mark byte >> (any laws.digits >>= (λ found. pure (λ _ _ b. item_sub-fit names program place negative found.0 b)))

  item_sub_behind : (place : Place) → Gives Kind (subscripts.item_sub_behind place) (λ sub. IsBase names program place → SubFits sub)
  unfolding subscripts.item_sub_behind
  item_sub_behind place =
      where_next (item_sub_by plus_sign false place) (where_next (item_sub_by hyphen true place)
      (pure (λ b. item_sub-fit names program place false (codes "0") b)))

  item_sub_form : Gives Kind (subscripts.item_sub_form names) SubFits
  unfolding subscripts.item_sub_form
  item_sub_form = do
    first ← name
    of ← qualifiers
    note
    note
    hence (λ sub h m n o w.
        let found = look names first.0 of in
        h (base-known names program found of first.1 first.1 (place-known names program found of [] None first.1 (item-found names program finds first.0 of w) o n.1 refl refl) m.1))
        (item_sub_behind (place_of (look names first.0 of) of [] None))

  sub : Gives Kind (subscripts.sub names) SubFits
  unfolding subscripts.sub
  sub = where_next plus_sub_form (where_next number_sub_form item_sub_form)

  more_subs : (first : List Sub) → Gives Kind (subscripts.more_subs names first)
      (λ subs. are_fit (map (judged_sub names program) first) ≡ true → are_fit (map (judged_sub names program) subs) ≡ true)
  more_subs first =
      loop {P = λ subs. are_fit (map (judged_sub names program) subs) ≡ true} (λ front. sub >>= (λ x. pure (λ s f. subs-added names program front x f s)))

  -- ---- expressions

  module _ {inner : Inner} (I : InnerTold false inner) where
    unsigned : (count : ℕ) → Gives Kind (expressions.unsigned names inner count) (λ side. Told names program count side.0 side.1)
    unfolding expressions.unsigned
    unsigned count = where_next (I.nested count) (hence (λ side h. tell.leaf-told names program count side.0 side.1 h) (operand I count))

    plussed : (count : ℕ) → Gives Kind (expressions.plussed names inner count) (λ side. Told names program count side.0 side.1)
    unfolding expressions.plussed
    plussed count =
        mark plus_sign >>= (λ position. unsigned count >>= (λ side. pure (λ s _. tell.sum-told names program position count side.0 side.1 s)))

    minussed : (count : ℕ) → Gives Kind (expressions.minussed names inner count) (λ side. Told names program count side.0 side.1)
    unfolding expressions.minussed
    minussed count = do
      more ← tally count 1
      position ← mark hyphen
      side ← unsigned more
      note
      pure (λ n s _ m. tell.negated-told names program position count more side.0 side.1 m.0 m.1 s (number-known names program side.0 s.known n.1))

    pub unary : (count : ℕ) → Gives Kind (expressions.unary names inner count) (λ side. Told names program count side.0 side.1)
    unfolding expressions.unary
    unary count = where_next (minussed count) (where_next (plussed count) (unsigned count))

    operated : (before : ℕ) (op : Op) (chain : Chain) (count : ℕ) →
        Gives Kind (expressions.operated names inner op chain count) (λ state. ChainTold names program before chain count → ChainTold names program before state.0 state.1)
    unfolding expressions.operated
    operated before op chain count = do
      right ← unary count
      note
      note
      pure (λ n m r c. tell.joined-told names program op before count chain right.0 right.1 c r
          (number-known names program chain.last c.known.last m.1) (number-known names program right.0 r.known n.1))

    turn : (before : ℕ) (state : Chain × ℕ) →
        Gives Kind (expressions.turn names inner state) (λ last. ChainTold names program before state.0 state.1 → ChainTold names program before last.0 last.1)
    unfolding expressions.turn
    turn before state = any law.operator >>= (λ op. still (operated before op state.0 state.1))

    pub sum : (before : ℕ) (side : Side) (count : ℕ) →
        Gives Kind (expressions.sum names inner side count) (λ last. Told names program before side count → Told names program before last.0 last.1)
    unfolding expressions.sum
    sum before side count =
        loop {P = λ (state : Chain × ℕ). ChainTold names program before state.0 state.1} (turn before)
        >>= (λ state. pure (λ h s. tell.finish-told names program before state.0 state.1 (h (tell.one-told names program before side count s))))

    pub expr : (count : ℕ) → Gives Kind (expressions.expr names inner count) (λ side. Told names program count side.0 side.1)
    unfolding expressions.expr
    expr count = unary count >>= (λ first. sum count first.0 first.1)

    in_nested : (count : ℕ) → Gives Kind (expressions.in_nested names inner count) (λ side. Told names program count side.0 side.1)
    unfolding expressions.in_nested
    in_nested count = do
      position ← mark left_parenthesis
      side ← expr count
      mark right_parenthesis
      pure (λ _ s _. tell.sum-told names program position count side.0 side.1 s)

    -- ---- windows

    length_part : (count : ℕ) → Gives Kind (windows.length_part names inner count) (λ size. SizeTold names program count size.0 size.1)
    unfolding windows.length_part
    length_part count =
        where_next (pure (record { fit = refl; few = λ few. few; counted = omega arith }))
        (expr count >>= (λ side. note >> pure (λ n s. tell.size-told names program count side.0 side.1 s n.1)))

    window_behind : (alone : Bool) (before : ℕ) (first : Side) (count : ℕ) →
        Gives Kind (windows.window_behind names inner alone first count) (λ window. Told names program before first count → WindowTold names program alone before window.0 window.1)
    unfolding windows.window_behind
    window_behind alone before first count = do
      mark colon
      note
      size ← length_part (windows.second_count alone count)
      mark right_parenthesis
      pure (λ _ s n _ f. tell.window-told names program alone before count first size.0 size.1 f n.1 s)

    in_window : (alone : Bool) (count : ℕ) → Gives Kind (windows.in_window names inner alone count) (λ window. WindowTold names program alone count window.0 window.1)
    unfolding windows.in_window
    in_window alone count =
        mark left_parenthesis >> (expr count >>= (λ first. hence (λ w h f _. h f) (window_behind alone count first.0 first.1)))

    -- ---- subscripts or a window

    digits_front : (count : ℕ) → Gives Kind front_forms.digits_front (λ front. FrontTold names program count front)
    unfolding front_forms.digits_front
    digits_front count = any laws.digits >>= (λ found. pure (λ _. tell.number-either names program found.0 found.1))

    sum_front : (count : ℕ) (side : Side × ℕ) → Gives Kind (front_forms.sum_front side) (λ front. Told names program count side.0 side.1 → FrontTold names program count front)
    sum_front count side = pure (λ s. tell.one-told names program count side.0 side.1 s)

    plus_front : (count : ℕ) → Gives Kind (front_forms.plus_front names inner count) (λ front. FrontTold names program count front)
    unfolding front_forms.plus_front
    plus_front count =
        mark plus_sign >>= (λ position. where_next (still (digits_front count))
        (unsigned count >>= (λ side. pure (λ s _. tell.one-told names program count (sides.sum_side position side.0) side.1 (tell.sum-told names program position count side.0 side.1 s)))))

    name_front : (count : ℕ) → Gives Kind (front_forms.name_front names inner count) (λ front. FrontTold names program count front)
    unfolding front_forms.name_front
    name_front count = do
      first ← name
      of ← qualifiers
      where_next
          (tally count 1 >>= (λ more. ref_behind I (look names first.0 of) of first.1 more >>= (λ side. pure (λ s m o w.
          tell.one-told names program count side.0 side.1 (tell.leaf-told names program count side.0 side.1
          (tell.place-operand names program false count more side.0 side.1 m.0 m.1 (s (item-found names program finds first.0 of w) o)))))))
          (note >> pure (λ n o w.
          tell.ref-either names program (look names first.0 of) of first.1
          (place-known names program (look names first.0 of) of [] None first.1 (item-found names program finds first.0 of w) o n.1 refl refl)))

    unary_front : (count : ℕ) → Gives Kind (front_forms.unary_front names inner count) (λ front. FrontTold names program count front)
    unfolding front_forms.unary_front
    unary_front count = unary count >>= sum_front count

    other_front : (count : ℕ) → Gives Kind (front_forms.other_front names inner count) (λ front. FrontTold names program count front)
    unfolding front_forms.other_front
    other_front count = where_next (name_front count) (unary_front count)

    first_front : (count : ℕ) → Gives Kind (front_forms.first_front names inner count) (λ front. FrontTold names program count front)
    unfolding front_forms.first_front
    first_front count = where_next (plus_front count) (where_next (digits_front count) (other_front count))

    decided : (count : ℕ) (e : MaybeSubscripts) (op : Op) → Gives Kind (front_forms.decided names inner count e op) (λ front. EitherTold names program e → FrontTold names program count front)
    unfolding front_forms.decided
    decided count e op = do
      more ← tally count e.leaves
      state ← operated count op e.chain more
      pure (λ h m k. h (tell.either-told names program count more e m.0 m.1 k))

    number_turn : (count : ℕ) (op : Op) (negative : Bool) (e : MaybeSubscripts) → Gives Kind (front_forms.number_turn op negative e) (λ front. EitherTold names program e → FrontTold names program count front)
    unfolding front_forms.number_turn
    number_turn count op negative e =
        any laws.digits >>= (λ found. note >> pure (λ n _ k. tell.with-number names program op negative found.0 found.1 e k (number-known names program e.chain.last k.chain.last n.1)))

    number_or_decided : (count : ℕ) (e : MaybeSubscripts) (op : Op) (negative : Bool) →
        Gives Kind (front_forms.number_or_decided names inner count e op negative) (λ front. EitherTold names program e → FrontTold names program count front)
    unfolding front_forms.number_or_decided
    number_or_decided count e op negative = where_next (number_turn count op negative e) (decided count e op)

    plus_turn : (count : ℕ) (e : MaybeSubscripts) → Gives Kind (front_forms.plus_turn names inner count e) (λ front. EitherTold names program e → FrontTold names program count front)
    unfolding front_forms.plus_turn
    plus_turn count e = mark plus_sign >> still (number_or_decided count e ops.Add false)

    minus_behind : (count : ℕ) (e : MaybeSubscripts) → Gives Kind (front_forms.minus_behind names inner count e) (λ front. EitherTold names program e → FrontTold names program count front)
    unfolding front_forms.minus_behind
    minus_behind count e = chosen (front_forms.takes_minus e) (number_or_decided count e ops.Sub true) (decided count e ops.Sub)

    minus_turn : (count : ℕ) (e : MaybeSubscripts) → Gives Kind (front_forms.minus_turn names inner count e) (λ front. EitherTold names program e → FrontTold names program count front)
    unfolding front_forms.minus_turn
    minus_turn count e = mark hyphen >> still (minus_behind count e)

    factor_turn : (count : ℕ) (e : MaybeSubscripts) → Gives Kind (front_forms.factor_turn names inner count e) (λ front. EitherTold names program e → FrontTold names program count front)
    unfolding front_forms.factor_turn
    factor_turn count e = any law.operator >>= (λ op. still (decided count e op))

    front_turn : (count : ℕ) (front : FirstInParens) → Gives Kind (front_forms.front_turn names inner count front) (λ last. FrontTold names program count front → FrontTold names program count last)
    unfolding front_forms.front_turn
    front_turn count (fronts.Sum chain more) = turn count (chain, more) >>= (λ state. pure (λ h. h))
    front_turn count (fronts.Either e) = where_next (plus_turn count e) (where_next (minus_turn count e) (factor_turn count e))

    window_suffix : (alone : Bool) (before : ℕ) (first : Side) (count : ℕ) →
        Gives Kind (front_forms.window_suffix names inner alone first count) (λ suffix. Told names program before first count → SuffixTold names program alone before suffix.0 suffix.1)
    window_suffix alone before first count = window_behind alone before first count >>= (λ window. pure (λ h. h))

    subs_suffix : (alone : Bool) (count : ℕ) (e : MaybeSubscripts) → Gives Kind (front_forms.subs_suffix names count e) (λ suffix. EitherTold names program e → SuffixTold names program alone count suffix.0 suffix.1)
    unfolding front_forms.subs_suffix
    subs_suffix alone count e = do
      note
      subs ← more_subs (eithers.subs_of e)
      mark right_parenthesis
      pure (λ _ h n k. (h (tell.subs-of names program e k n.1), refl))

    front_end : (alone : Bool) (count : ℕ) (front : FirstInParens) →
        Gives Kind (front_forms.front_end names inner alone count front) (λ suffix. FrontTold names program count front → SuffixTold names program alone count suffix.0 suffix.1)
    unfolding front_forms.front_end
    front_end alone count (fronts.Sum chain more) =
        hence (λ suffix h c. h (tell.finish-told names program count chain more c)) (window_suffix alone count (chains.finish chain) more)
    front_end alone count (fronts.Either e) =
        where_next (tally count e.leaves >>= (λ more. hence (λ suffix h m k.
        h (tell.finish-told names program count e.chain more (tell.either-told names program count more e m.0 m.1 k))) (window_suffix alone count (chains.finish e.chain) more)))
        (subs_suffix alone count e)

    in_suffix : (alone : Bool) (count : ℕ) → Gives Kind (front_forms.in_suffix names inner alone count) (λ suffix. SuffixTold names program alone count suffix.0 suffix.1)
    unfolding front_forms.in_suffix
    in_suffix alone count = do
      mark left_parenthesis
      first ← first_front count
      front ← loop {P = λ front. FrontTold names program count front} (front_turn count)
      hence (λ suffix h w f _. h (w f)) (front_end alone count front)

  -- ---- with so many levels of parentheses

  pub inner : (levels : ℕ) → InnerTold false (knots.inner names levels)
  unfolding knots.inner
  inner zero = record {
    nested = λ count. too_deep;
    suffix = λ count. too_deep;
    window = λ count. too_deep;
  }
  inner (suc n) = record {
    nested = λ count. in_nested (inner n) count;
    suffix = λ count. in_suffix (inner n) false count;
    window = λ count. in_window (inner n) false count;
  }

  outer : InnerTold true (knots.outer names)
  outer = record {
    nested = λ count. in_nested (inner max_parens) count;
    suffix = λ count. in_suffix (inner max_parens) true count;
    window = λ count. in_window (inner max_parens) true count;
  }

  -- ---- as statements have them

  pub data_reference : Gives Kind (knots.data_reference names) (IsReadablePlace names program)
  unfolding knots.data_reference
  data_reference = reference outer 0 >>= (λ side. pure (λ h. ends.readable-place names program side.0 side.1 h))

  pub data_reference_behind : (first : List ℕ) (position : Position) →
      Gives Kind (knots.data_reference_behind names first position) (λ side. is_data_word first ≡ true → IsReadablePlace names program side)
  unfolding knots.data_reference_behind
  data_reference_behind first position = reference_behind outer first position 0 >>= (λ side. pure (λ h w. ends.readable-place names program side.0 side.1 (h w)))

  pub data_operand : Gives Kind (knots.data_operand names) (IsReadableOperand names program 1)
  unfolding knots.data_operand
  data_operand = operand outer 0 >>= (λ side. pure (λ h. ends.readable-operand names program side.0 side.1 h))

  pub whole_expr : Gives Kind (knots.whole_expr names) (IsReadableExpr names program)
  unfolding knots.whole_expr
  whole_expr = expr (inner max_parens) 0 >>= (λ side. pure (λ h. ends.readable-expr names program side.0 side.1 h))
