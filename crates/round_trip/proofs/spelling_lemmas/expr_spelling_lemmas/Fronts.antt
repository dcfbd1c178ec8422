-- What spells the parentheses behind a name, which are subscripts or a window.
use Rattle.std.proofs.Common.{◌≡◌, ℕ, suc, ◌+◌, ◌<◌, ◌≤◌, Bool, true, false, not, ◌&&◌, ◌⊎◌, inl, inr, List, [], ◌∷◌, ◌++◌, map, Option, Some, None, refl, ap, sym, ◌∙◌, subst, arith, append_assoc, append-nil}
use Rattle.std.specs.Prelude.{◌==◌, if◌then◌else◌}
use Rattle.std.proofs.lemmas.Bool.{and_parts, not-true, eqb-true}
use Rattle.cob_base.specs.Bytes.{left_parenthesis, right_parenthesis, hyphen, plus_sign, colon}
use Rattle.cob_tree.specs.declared.number.Number.{Number}
use Rattle.cob_tree.specs.declared.place.Expr.{Expr}
use Rattle.cob_tree.specs.declared.place.Expr.TheVariants as exprs
use Rattle.cob_tree.specs.declared.place.Op.{Op}
use Rattle.cob_tree.specs.declared.place.Op.TheVariants as ops
use Rattle.cob_tree.specs.declared.place.Operand.{Operand}
use Rattle.cob_tree.specs.declared.place.Operand.TheVariants as operands
use Rattle.cob_tree.specs.declared.place.Place.{Place}
use Rattle.cob_tree.specs.declared.place.Sub.{Sub}
use Rattle.cob_tree.specs.declared.place.Window.{Window}
use Rattle.cob_tree.specs.declared.program.Program.{Program}
use Rattle.cobol_lex.specs.declared.token.TokenKind.{TokenKind}
use Rattle.cobol_lex.specs.declared.token.TokenKind.TheVariants as kinds
use Rattle.parser_combinators.specs.declared.note.Position.{Position}
use Rattle.parser_combinators.specs.Form as form
use Rattle.parser_combinators.specs.Form.{begins_by, ◌>>=◌, ◌>>◌}
use Rattle.parser_combinators.specs.Part as part
use Rattle.unparser.specs.Token.{in_parentheses}
use Rattle.unparser.specs.Place.{item_name, of_tokens, op_mark, figure_word, subs_tokens, expr_tokens, sub_tokens, window_tokens}
use Rattle.parser_combinators.specs.words.Word.{is_name, is_data_word}
use Rattle.parser_combinators.specs.words.Constant as constants
use Rattle.symbol_tables.specs.data_names.Names.{Names}
use Rattle.symbol_tables.specs.data_names.Look.{look}
use Rattle.symbol_tables.specs.declared.data_names.name.Referent.{Referent}
use Rattle.program_facts.specs.term_counts.Expression.{expr_terms, operand_terms}
use Rattle.cobol_grammar.specs.declared.expr_forms.either.MaybeSubscripts.{MaybeSubscripts}
use Rattle.cobol_grammar.specs.declared.expr_forms.front.FirstInParens.{FirstInParens}
use Rattle.cobol_grammar.specs.declared.expr_forms.front.FirstInParens.TheVariants as fronts
use Rattle.cobol_grammar.specs.declared.expr_forms.reference.Suffix.TheVariants as suffixes
use Rattle.cobol_grammar.specs.declared.expr_forms.side.Side.{Side}
use Rattle.cobol_grammar.specs.declared.expr_forms.side.ParsedExpr.TheVariants as whats
use Rattle.cobol_grammar.specs.expr_forms.Chain.{chain_of, finish, joined}
use Rattle.cobol_grammar.specs.expr_forms.Either.{number_either, ref_either, with_number, more_leaves}
use Rattle.cobol_grammar.specs.expr_forms.Expression as expressions
use Rattle.cobol_grammar.specs.expr_forms.Fault.{found_fault, number_fault}
use Rattle.cobol_grammar.specs.expr_forms.Front as front_forms
use Rattle.cobol_grammar.specs.expr_forms.Limit.{Inner}
use Rattle.cobol_grammar.specs.expr_forms.Limit as limits
use Rattle.cobol_grammar.specs.declared.expr_forms.side.ValueKind.TheVariants as values
use Rattle.cobol_grammar.specs.expr_forms.Reference as references
use Rattle.cobol_grammar.specs.expr_forms.Side.{digits_side, ref_side, literal_side}
use Rattle.cobol_grammar.specs.expr_forms.Token.{is_of, begins_turn}
use Rattle.round_trip.specs.spelled_forms.Spelling.{first_of, Any, Spelled}
use Rattle.round_trip.proofs.spelled_forms_lemmas.Makers.{pure, note, hence, where_behind, bind, then, ending, behind_none, behind_first, chosen_there, chosen_other, there_next, other_next, no_turn, last_turn}
use Rattle.round_trip.proofs.spelled_forms_lemmas.Tokens.{sign, valued, name}
use Rattle.round_trip.specs.spelling.expr_spelling.Printable.{reference, is_number, judged_expr, judged_window, judged_window, are_data_words, IsPrintableExpr}
use Rattle.round_trip.specs.spelling.expr_spelling.Spelled.{Ends, continues_place, continues_expr, IsOperandSide, IsExprSide, size_terms, HasRoom, made_window, made_place, WindowHasRoom}
use Rattle.round_trip.proofs.spelling_lemmas.expr_spelling_lemmas.Layers.{expr-cases, operand-cases, place-cases, window-cases, size_tokens, tokens-Leaf, tokens-Place, tokens-Number, tokens-Text, tokens-Figure, tokens-place, tokens-window, windows_tokens, judged-Place, judged-Number, terms-Leaf, terms-Both, terms-Place, terms-Number, terms-place}
use Rattle.round_trip.proofs.spelling_lemmas.expr_spelling_lemmas.Tests.{mark-no-of, place-ends, expr-ends, op-ends, op-turn, colon-ends, first-tail, no-data-word, figure-listed}
use Rattle.round_trip.proofs.spelling_lemmas.expr_spelling_lemmas.Places.{by_tokens, at_same, tally, whole-is, qualifiers, no-fault, FitPlace, fit-place, InnerSpells, side-is, ref_behind}
use Rattle.round_trip.proofs.spelling_lemmas.expr_spelling_lemmas.Exprs.{IsFound, FitBoth, both-fit, number-free, operator, some-terms, leaf-side, leaf-fit, joined-side, plain-Minus, plain-Both, within-Minus, within-Both, operand-room, unary_leaf, unary_minus, unary_within, operated_spelled, turn_spelled}
use Rattle.round_trip.proofs.spelling_lemmas.expr_spelling_lemmas.Windows.{FitWindow, window-fit, window_behind, window-tokens}

module _ (names : Names) (program : Program) where
  -- a number alone stands first, which may be a subscript too
  pub digits_first : {n : ℕ} (inner : Inner) (count : ℕ) (digits : List ℕ) →
      Spelled (front_forms.first_front names inner count) n (kinds.Digits digits ∷ []) Any (λ front. (position : Position) × (front ≡ fronts.Either (number_either digits position)))
  unfolding front_forms.first_front front_forms.digits_front
  digits_first inner count digits =
      other_next (part.is_mark plus_sign) _ (λ o b. refl) (there_next constants.is_digits _ (λ o b. refl)
      (ending (valued part.digits_of digits refl) (λ found h. pure (found.1, ap (λ d. fronts.Either (number_either d found.1)) h.0))))

  digits-side : (number : Number) (position : Position) → number.negative ≡ false → (number.scale == 0) ≡ true →
      IsOperandSide names program (operands.Number number) (digits_side number.digits position)
  unfolding literal_side
  digits-side number position plus exact = record {
    what = ap (λ x. whats.Literal (operands.Number x)) (whole-is number plus (eqb-true number.scale 0 exact));
    known = record {
      kind = ap (λ b. values.Number b) (sym exact) ∙ sym (ap (λ j. j.kind) (judged-Number names program number));
      make = sym (ap (λ j. j.make) (judged-Number names program number));
    };
  }

  -- what stands first: a sum so far, or what may be subscripts too
  abbrev IsFirst : ℕ → Expr → FirstInParens → Type 0
  IsFirst count expr (fronts.Sum chain more) = (side : Side) × (chain ≡ chain_of side) × IsFound names program count expr (side, more)
  IsFirst count expr (fronts.Either e) = (side : Side) × (e.chain ≡ chain_of side) × IsExprSide names program expr side × (e.leaves ≡ 1) × (expr_terms expr ≡ 1)

  -- a whole expression so read
  abbrev IsFront : ℕ → Expr → FirstInParens → Type 0
  IsFront count expr (fronts.Sum chain more) = IsFound names program count expr (finish chain, more)
  IsFront count expr (fronts.Either e) = IsExprSide names program expr (finish e.chain) × (e.leaves ≡ expr_terms expr)

  one-term : (operand : Operand) → operand_terms operand ≡ 0 → expr_terms (exprs.Leaf operand) ≡ 1
  one-term operand none = terms-Leaf operand ∙ ap (λ m. 1 + m) none

  module _ {inner : Inner} {levels : ℕ} (I : InnerSpells names program inner false levels) where
    abbrev name_rest : ℕ → Referent → List (List ℕ) → Position → form.Form FirstInParens
    name_rest count found of position =
        form.where_next (part.is_mark left_parenthesis)
        (limits.count_terms count 1 >>= (λ more. references.ref_behind inner found of position more >>= front_forms.sum_front))
        (form.note (found_fault found 0 false position) >> form.pure (fronts.Either (ref_either found of position)))

    -- the words of a reference stand first
    named_first : {n : ℕ} (count item : ℕ) (of : List (List ℕ)) {tail : List TokenKind} {Behind : Option TokenKind → Type 0} {Has : FirstInParens → Type 0} →
        is_data_word (item_name program item) ≡ true → are_data_words of ≡ true → ((o : Option TokenKind) → Behind o → Ends is_of (first_of tail o)) →
        ((position : Position) (m : ℕ) → Spelled (name_rest count (reference names program item of) of position) m tail Behind Has) →
        Spelled (front_forms.first_front names inner count) n (kinds.Word (item_name program item) ∷ (of_tokens of ++ tail)) Behind Has
    unfolding front_forms.first_front front_forms.other_front front_forms.name_front
    named_first count item of w q mid G =
        other_next (part.is_mark plus_sign) _ (λ o b. refl) (other_next constants.is_digits _ (λ o b. refl) (there_next is_name _ (λ o b. w)
        ((then) (name (item_name program item) w)
        (λ first h. at_same (λ f. references.qualifiers >>= (λ of. name_rest count (look names f of) of first.1)) h.0
        (bind (qualifiers of q) mid
        (λ list e. at_same (λ of. name_rest count (look names (item_name program item) of) of first.1) e (G first.1 _)))))))

    pub bare_first : {n : ℕ} (count item : ℕ) (of : List (List ℕ)) → FitPlace names program item of [] None →
        Spelled (front_forms.first_front names inner count) n (kinds.Word (item_name program item) ∷ of_tokens of) (Ends continues_place)
        (λ front. (position : Position) × (front ≡ fronts.Either (ref_either (reference names program item of) of position)))
    bare_first count item of F =
        by_tokens (ap (λ list. kinds.Word (item_name program item) ∷ list) (sym (append-nil (of_tokens of))))
        (named_first count item of F.word F.of_words (λ o b. (place-ends o b).0)
        (λ position m. other_next (part.is_mark left_parenthesis) _ (λ o b. (place-ends o b).1)
        (behind_none (note (no-fault item 0 false (reference names program item of) position F.suit)) (λ _ _. pure (position, refl)))))

    tailed_first : {n : ℕ} (count item : ℕ) (of : List (List ℕ)) (subs : List Sub) (window : Option Window) → FitPlace names program item of subs window →
        ((o : Option TokenKind) → begins_by (part.is_mark left_parenthesis) (first_of (subs_tokens (map (sub_tokens program) subs) ++ windows_tokens program window) o) ≡ true) →
        count + 1 ≤ 500 → 0 < levels → WindowHasRoom false levels (count + 1) window →
        Spelled (front_forms.first_front names inner count) n (kinds.Word (item_name program item) ∷ (of_tokens of ++ (subs_tokens (map (sub_tokens program) subs) ++ windows_tokens program window))) (Ends continues_place)
        (IsFirst count (exprs.Leaf (operands.Place (made_place item of subs window))))
    tailed_first count item of subs window F begins few some room =
        named_first count item of F.word F.of_words (λ o b. first-tail program is_of (mark-no-of left_parenthesis) subs window o (place-ends o b).0)
        (λ position m. there_next (part.is_mark left_parenthesis) _ (λ o b. begins o)
        (behind_none (tally count 1 few)
        (λ more e. ending (at_same (λ k. references.ref_behind inner (reference names program item of) of position k) e
        (where_behind (λ o b. (place-ends o b).1) (ref_behind names program I (count + 1) item of subs window position F.suit F.subs_fit F.window_fit some room)))
        (λ found h. pure (
          found.0,
          refl,
          (let place = made_place item of subs window in
              let k = h.counted refl in
              let t = terms-Leaf (operands.Place place) in
              let p = terms-Place place in
              let w = terms-place item of subs window in
              record { side = leaf-side names program (operands.Place place) found.0 h.side; counted = omega (arith, k, t, p, w) }),
        )))))

    -- an item without subscripts and window
    bare-is : (item : ℕ) (of : List (List ℕ)) → FitPlace names program item of [] None → (count : ℕ) (front : FirstInParens) →
        ((position : Position) × (front ≡ fronts.Either (ref_either (reference names program item of) of position))) → IsFirst count (exprs.Leaf (operands.Place (made_place item of [] None))) front
    bare-is item of F count front h =
        subst (λ front. IsFirst count (exprs.Leaf (operands.Place (made_place item of [] None))) front) (sym h.1) (
          ref_side (reference names program item of) of [] None h.0,
          refl,
          leaf-side names program (operands.Place (made_place item of [] None)) (ref_side (reference names program item of) of [] None h.0) (side-is names program I item of [] None h.0 F.suit),
          refl,
          one-term (operands.Place (made_place item of [] None)) (terms-Place (made_place item of [] None) ∙ terms-place item of [] None),
        )

    tail-open : (subs : List Sub) (window : Option Window) →
        ((subs ≡ []) × (window ≡ None)) ⊎ ((o : Option TokenKind) → begins_by (part.is_mark left_parenthesis) (first_of (subs_tokens (map (sub_tokens program) subs) ++ windows_tokens program window) o) ≡ true)
    tail-open [] None = inl (refl, refl)
    tail-open [] (Some window) =
        inr (λ o. window-cases (λ window. begins_by (part.is_mark left_parenthesis) (first_of (window_tokens program window) o) ≡ true)
        (λ from size. ap (λ list. begins_by (part.is_mark left_parenthesis) (first_of list o)) (tokens-window program from size)) window)
    tail-open (sub ∷ subs) window = inr (λ o. refl)

    place_first_by : {n : ℕ} (count item : ℕ) (of : List (List ℕ)) (subs : List Sub) (window : Option Window) → FitPlace names program item of subs window →
        ((subs ≡ []) × (window ≡ None)) ⊎ ((o : Option TokenKind) → begins_by (part.is_mark left_parenthesis) (first_of (subs_tokens (map (sub_tokens program) subs) ++ windows_tokens program window) o) ≡ true) →
        count + 1 ≤ 500 → 0 < levels → WindowHasRoom false levels (count + 1) window →
        Spelled (front_forms.first_front names inner count) n (kinds.Word (item_name program item) ∷ (of_tokens of ++ (subs_tokens (map (sub_tokens program) subs) ++ windows_tokens program window))) (Ends continues_place)
        (IsFirst count (exprs.Leaf (operands.Place (made_place item of subs window))))
    place_first_by {n = n} count item of subs window F (inl none) few some room =
        (subst (λ s. FitPlace names program item of s window → Spelled (front_forms.first_front names inner count) n (kinds.Word (item_name program item) ∷ (of_tokens of ++ (subs_tokens (map (sub_tokens program) s) ++ windows_tokens program window))) (Ends continues_place)
        (IsFirst count (exprs.Leaf (operands.Place (made_place item of s window))))) (sym none.0)
        (subst (λ w. FitPlace names program item of [] w → Spelled (front_forms.first_front names inner count) n (kinds.Word (item_name program item) ∷ (of_tokens of ++ ([] ++ windows_tokens program w))) (Ends continues_place)
        (IsFirst count (exprs.Leaf (operands.Place (made_place item of [] w))))) (sym none.1)
        (λ F. by_tokens (ap (λ list. kinds.Word (item_name program item) ∷ list) (append-nil (of_tokens of))) (hence (bare-is item of F count) (bare_first count item of F))))) F
    place_first_by count item of subs window F (inr begins) few some room = tailed_first count item of subs window F begins few some room

    -- no number alone and no name
    other_first : {n : ℕ} (count : ℕ) (expr : Expr) {tokens : List TokenKind} →
        ((o : Option TokenKind) → begins_by (part.is_mark plus_sign) (first_of tokens o) ≡ false) → ((o : Option TokenKind) → begins_by constants.is_digits (first_of tokens o) ≡ false) →
        ((o : Option TokenKind) → begins_by is_name (first_of tokens o) ≡ false) →
        Spelled (expressions.unary names inner count) n tokens (Ends continues_place) (IsFound names program count expr) →
        Spelled (front_forms.first_front names inner count) n tokens (Ends continues_place) (IsFirst count expr)
    unfolding front_forms.first_front front_forms.other_front front_forms.unary_front
    other_first count expr plus digits named U =
        other_next (part.is_mark plus_sign) _ (λ o b. plus o) (other_next constants.is_digits _ (λ o b. digits o) (other_next is_name _ (λ o b. named o)
        (ending U (λ side h. pure (side.0, refl, h)))))

    place_first : {n : ℕ} (count : ℕ) (place : Place) (within : Bool) → IsPrintableExpr names program (exprs.Leaf (operands.Place place)) →
        expr_terms (exprs.Leaf (operands.Place place)) ≤ levels → count + expr_terms (exprs.Leaf (operands.Place place)) ≤ 500 →
        Spelled (front_forms.first_front names inner count) n (expr_tokens program (exprs.Leaf (operands.Place place)) within) (Ends continues_place) (IsFirst count (exprs.Leaf (operands.Place place)))
    place_first {n = n} count place within =
        place-cases (λ place. IsPrintableExpr names program (exprs.Leaf (operands.Place place)) →
        expr_terms (exprs.Leaf (operands.Place place)) ≤ levels → count + expr_terms (exprs.Leaf (operands.Place place)) ≤ 500 →
        Spelled (front_forms.first_front names inner count) n (expr_tokens program (exprs.Leaf (operands.Place place)) within) (Ends continues_place) (IsFirst count (exprs.Leaf (operands.Place place))))
        (λ item of subs window fit few room.
        let place = made_place item of subs window in
        let t = terms-Leaf (operands.Place place) in
        by_tokens (tokens-Leaf program (operands.Place place) within ∙ tokens-Place program place ∙ tokens-place program item of subs window)
        (place_first_by count item of subs window
        (fit-place names program item of subs window (subst (λ j. j.fit ≡ true) (judged-Place names program place) (leaf-fit names program (operands.Place place) fit)))
        (tail-open subs window) (omega (arith, t, room)) (omega (arith, t, few))
        (operand-room names program levels count (operands.Place place) (omega (arith, t, few)) (omega (arith, t, room)) place refl item of subs window refl))) place

    number_first : {n : ℕ} (count : ℕ) (number : Number) (within plain : Bool) → (not number.negative && number.scale == 0) ≡ plain →
        IsPrintableExpr names program (exprs.Leaf (operands.Number number)) →
        expr_terms (exprs.Leaf (operands.Number number)) ≤ levels → count + expr_terms (exprs.Leaf (operands.Number number)) ≤ 500 →
        Spelled (front_forms.first_front names inner count) n (expr_tokens program (exprs.Leaf (operands.Number number)) within) (Ends continues_place) (IsFirst count (exprs.Leaf (operands.Number number)))
    number_first count number within true is fit few room =
        let both = and_parts (not number.negative) (number.scale == 0) is in
        by_tokens (tokens-Leaf program (operands.Number number) within ∙ tokens-Number program number
        ∙ ap (λ b. (if b then kinds.Digits number.digits else kinds.Decimal number) ∷ []) is)
        (where_behind (λ o b. tt) (hence (λ front h. subst (λ front. IsFirst count (exprs.Leaf (operands.Number number)) front) (sym h.1) (
          digits_side number.digits h.0,
          refl,
          leaf-side names program (operands.Number number) (digits_side number.digits h.0) (digits-side number h.0 (not-true number.negative both.0) both.1),
          refl,
          one-term (operands.Number number) (terms-Number number),
        ))
        (digits_first inner count number.digits)))
    number_first count number within false is fit few room =
        let e = tokens-Leaf program (operands.Number number) within ∙ tokens-Number program number
        ∙ ap (λ b. (if b then kinds.Digits number.digits else kinds.Decimal number) ∷ []) is in
        other_first count (exprs.Leaf (operands.Number number))
        (λ o. ap (λ list. begins_by (part.is_mark plus_sign) (first_of list o)) e)
        (λ o. ap (λ list. begins_by constants.is_digits (first_of list o)) e)
        (λ o. ap (λ list. begins_by is_name (first_of list o)) e)
        (unary_leaf names program I count (operands.Number number) within fit few room)

    leaf_first : {n : ℕ} (count : ℕ) (operand : Operand) (within : Bool) → IsPrintableExpr names program (exprs.Leaf operand) →
        expr_terms (exprs.Leaf operand) ≤ levels → count + expr_terms (exprs.Leaf operand) ≤ 500 →
        Spelled (front_forms.first_front names inner count) n (expr_tokens program (exprs.Leaf operand) within) (Ends continues_place) (IsFirst count (exprs.Leaf operand))
    leaf_first {n = n} count operand within =
        operand-cases (λ operand. IsPrintableExpr names program (exprs.Leaf operand) →
        expr_terms (exprs.Leaf operand) ≤ levels → count + expr_terms (exprs.Leaf operand) ≤ 500 →
        Spelled (front_forms.first_front names inner count) n (expr_tokens program (exprs.Leaf operand) within) (Ends continues_place) (IsFirst count (exprs.Leaf operand)))
        (λ place. place_first count place within)
        (λ number. number_first count number within (not number.negative && number.scale == 0) refl)
        (λ text fit few room.
        let e = tokens-Leaf program (operands.Text text) within ∙ tokens-Text program text in
        other_first count (exprs.Leaf (operands.Text text))
        (λ o. ap (λ list. begins_by (part.is_mark plus_sign) (first_of list o)) e)
        (λ o. ap (λ list. begins_by constants.is_digits (first_of list o)) e)
        (λ o. ap (λ list. begins_by is_name (first_of list o)) e)
        (unary_leaf names program I count (operands.Text text) within fit few room))
        (λ figure fit few room.
        let e = tokens-Leaf program (operands.Figure figure) within ∙ tokens-Figure program figure in
        other_first count (exprs.Leaf (operands.Figure figure))
        (λ o. ap (λ list. begins_by (part.is_mark plus_sign) (first_of list o)) e)
        (λ o. ap (λ list. begins_by constants.is_digits (first_of list o)) e)
        (λ o. ap (λ list. begins_by is_name (first_of list o)) e ∙ no-data-word (figure_word figure) (figure-listed figure))
        (unary_leaf names program I count (operands.Figure figure) within fit few room)) operand

    minus_first : {n : ℕ} (count : ℕ) (expr : Expr) → IsPrintableExpr names program (exprs.Minus expr) → expr_terms (exprs.Minus expr) ≤ levels → count + expr_terms (exprs.Minus expr) ≤ 500 →
        Spelled (front_forms.first_front names inner count) n (kinds.Mark hyphen ∷ expr_tokens program expr true) (Ends continues_place) (IsFirst count (exprs.Minus expr))
    minus_first count expr fit few room =
        other_first count (exprs.Minus expr) (λ o. refl) (λ o. refl) (λ o. refl) (unary_minus names program I count expr fit few room)

    paren_first : {n : ℕ} (count : ℕ) (expr : Expr) → expr_tokens program expr true ≡ in_parentheses (expr_tokens program expr false) → IsPrintableExpr names program expr →
        expr_terms expr < levels → count + expr_terms expr ≤ 500 →
        Spelled (front_forms.first_front names inner count) n (expr_tokens program expr true) (Ends continues_place) (IsFirst count expr)
    paren_first count expr e fit few room =
        other_first count expr (λ o. ap (λ list. begins_by (part.is_mark plus_sign) (first_of list o)) e)
        (λ o. ap (λ list. begins_by constants.is_digits (first_of list o)) e)
        (λ o. ap (λ list. begins_by is_name (first_of list o)) e)
        (unary_within names program I count expr fit few room)

    within_first : {n : ℕ} (count : ℕ) (expr : Expr) → IsPrintableExpr names program expr → expr_terms expr < levels → count + expr_terms expr ≤ 500 →
        Spelled (front_forms.first_front names inner count) n (expr_tokens program expr true) (Ends continues_place) (IsFirst count expr)
    within_first {n = n} count expr =
        expr-cases (λ expr. IsPrintableExpr names program expr → expr_terms expr < levels → count + expr_terms expr ≤ 500 →
        Spelled (front_forms.first_front names inner count) n (expr_tokens program expr true) (Ends continues_place) (IsFirst count expr))
        (λ operand fit few room. leaf_first count operand true fit (omega (arith, few)) room)
        (λ inner fit few room. paren_first count (exprs.Minus inner) (within-Minus names program inner) fit few room)
        (λ op left right fit few room. paren_first count (exprs.Both op left right) (within-Both names program op left right) fit few room) expr

    -- ---- one operator behind it

    -- a number alone stands there, or none
    abbrev NumberNext : Expr → Type 0
    NumberNext right = ((number : Number) × (right ≡ exprs.Leaf (operands.Number number)) × ((not number.negative && number.scale == 0) ≡ true))
        ⊎ ((o : Option TokenKind) → begins_by constants.is_digits (first_of (expr_tokens program right true) o) ≡ false)

    number-next : (number : Number) (plain : Bool) → (not number.negative && number.scale == 0) ≡ plain → NumberNext (exprs.Leaf (operands.Number number))
    number-next number true is = inl (number, refl, is)
    number-next number false is =
        inr (λ o. ap (λ list. begins_by constants.is_digits (first_of list o)) (tokens-Leaf program (operands.Number number) true ∙ tokens-Number program number
        ∙ ap (λ b. (if b then kinds.Digits number.digits else kinds.Decimal number) ∷ []) is))

    right-next : (right : Expr) → NumberNext right
    right-next right =
        expr-cases NumberNext
        (λ operand. operand-cases (λ operand. NumberNext (exprs.Leaf operand))
        (λ place. inr (λ o. place-cases (λ place. begins_by constants.is_digits (first_of (expr_tokens program (exprs.Leaf (operands.Place place)) true) o) ≡ false)
        (λ item of subs window. ap (λ list. begins_by constants.is_digits (first_of list o))
        (tokens-Leaf program (operands.Place (made_place item of subs window)) true ∙ tokens-Place program (made_place item of subs window) ∙ tokens-place program item of subs window)) place))
        (λ number. number-next number (not number.negative && number.scale == 0) refl)
        (λ text. inr (λ o. ap (λ list. begins_by constants.is_digits (first_of list o)) (tokens-Leaf program (operands.Text text) true ∙ tokens-Text program text)))
        (λ figure. inr (λ o. ap (λ list. begins_by constants.is_digits (first_of list o)) (tokens-Leaf program (operands.Figure figure) true ∙ tokens-Figure program figure))) operand)
        (λ inner. inr (λ o. ap (λ list. begins_by constants.is_digits (first_of list o)) (within-Minus names program inner)))
        (λ op left right. inr (λ o. ap (λ list. begins_by constants.is_digits (first_of list o)) (within-Both names program op left right))) right

    decided : {n : ℕ} (count : ℕ) (e : MaybeSubscripts) (op : Op) (left right : Expr) (first : Side) → e.chain ≡ chain_of first → e.leaves ≡ 1 → expr_terms left ≡ 1 →
        IsExprSide names program left first → FitBoth names program left right → expr_terms right < levels → count + (1 + expr_terms right) ≤ 500 →
        Spelled (front_forms.decided names inner count e op) n (expr_tokens program right true) (Ends continues_place) (IsFront count (exprs.Both op left right))
    unfolding front_forms.decided
    decided count e op left right first chain leaves one l fit few room =
        behind_none (tally count e.leaves (omega (arith, leaves, room)))
        (λ more same. ending (at_same (λ c. expressions.operated names inner op c more) chain
        (operated_spelled names program I count more op left right first l fit few (omega (arith, same, leaves, one)) (omega (arith, same, leaves, room))))
        (λ state h. pure h))

    number_turn : {n : ℕ} (count : ℕ) (e : MaybeSubscripts) (op : Op) (negative : Bool) (left : Expr) (number : Number) (first : Side) → e.chain ≡ chain_of first → e.leaves ≡ 1 → expr_terms left ≡ 1 →
        IsExprSide names program left first → is_number (judged_expr names program left).kind ≡ true → (not number.negative && number.scale == 0) ≡ true →
        Spelled (front_forms.number_turn op negative e) n (kinds.Digits number.digits ∷ []) Any (IsFront count (exprs.Both op left (exprs.Leaf (operands.Number number))))
    unfolding front_forms.number_turn with_number
    number_turn count e op negative left number first chain leaves one l num is =
        let both = and_parts (not number.negative) (number.scale == 0) is in
        let right = exprs.Leaf (operands.Number number) in
        ending (valued part.digits_of number.digits refl)
        (λ found h. behind_none
        (note (subst (λ c. number_fault c.last ≡ None) (sym chain) (number-free (judged_expr names program left) first l.known num)))
        (λ _ _. pure (
          subst (λ c. IsExprSide names program (exprs.Both op left right) (finish (joined op c (digits_side found.0 found.1)))) (sym chain)
              (subst (λ d. IsExprSide names program (exprs.Both op left right) (finish (joined op (chain_of first) (digits_side d found.1)))) (sym h.0)
              (joined-side names program op left right first (digits_side number.digits found.1) l
              (leaf-side names program (operands.Number number) (digits_side number.digits found.1) (digits-side number found.1 (not-true number.negative both.0) both.1)))),
          ap (λ m. more_leaves m) leaves ∙ sym (terms-Both op left right ∙ ap (λ m. m + expr_terms right) one ∙ ap (λ m. 1 + m) (one-term (operands.Number number) (terms-Number number))),
        )))

    number_or_decided : {n : ℕ} (count : ℕ) (e : MaybeSubscripts) (op : Op) (negative : Bool) (left right : Expr) (first : Side) → e.chain ≡ chain_of first → e.leaves ≡ 1 → expr_terms left ≡ 1 →
        IsExprSide names program left first → FitBoth names program left right → expr_terms right < levels → count + (1 + expr_terms right) ≤ 500 → NumberNext right →
        Spelled (front_forms.number_or_decided names inner count e op negative) n (expr_tokens program right true) (Ends continues_place) (IsFront count (exprs.Both op left right))
    unfolding front_forms.number_or_decided
    number_or_decided {n = n} count e op negative left right first chain leaves one l fit few room (inl (number, same, is)) =
        subst (λ right. Spelled (front_forms.number_or_decided names inner count e op negative) n (expr_tokens program right true) (Ends continues_place) (IsFront count (exprs.Both op left right))) (sym same)
        (by_tokens (tokens-Leaf program (operands.Number number) true ∙ tokens-Number program number
        ∙ ap (λ b. (if b then kinds.Digits number.digits else kinds.Decimal number) ∷ []) is)
        (there_next constants.is_digits _ (λ o b. refl) (where_behind (λ o b. tt) (number_turn count e op negative left number first chain leaves one l fit.left_number is))))
    number_or_decided count e op negative left right first chain leaves one l fit few room (inr other) =
        other_next constants.is_digits _ (λ o b. other o) (decided count e op left right first chain leaves one l fit few room)

    either_turn : {n : ℕ} (count : ℕ) (e : MaybeSubscripts) (op : Op) (left right : Expr) (first : Side) → e.chain ≡ chain_of first → e.leaves ≡ 1 → expr_terms left ≡ 1 →
        IsExprSide names program left first → FitBoth names program left right → expr_terms right < levels → count + (1 + expr_terms right) ≤ 500 →
        Spelled (front_forms.front_turn names inner count (fronts.Either e)) n (kinds.Mark (op_mark op) ∷ expr_tokens program right true) (Ends continues_place) (IsFront count (exprs.Both op left right))
    unfolding front_forms.front_turn front_forms.plus_turn front_forms.minus_turn front_forms.minus_behind front_forms.factor_turn
    either_turn count e ops.Add left right first chain leaves one l fit few room =
        there_next (part.is_mark plus_sign) _ (λ o b. refl)
        ((then) (sign (part.is_mark plus_sign) refl) (λ _ _. number_or_decided count e ops.Add false left right first chain leaves one l fit few room (right-next right)))
    either_turn count e ops.Sub left right first chain leaves one l fit few room =
        other_next (part.is_mark plus_sign) _ (λ o b. refl) (there_next (part.is_mark hyphen) _ (λ o b. refl)
        ((then) (sign (part.is_mark hyphen) refl) (λ _ _. either-minus (front_forms.takes_minus e) refl)))
      where
        either-minus : {m : ℕ} (b : Bool) → front_forms.takes_minus e ≡ b →
            Spelled (form.chosen (front_forms.takes_minus e) (front_forms.number_or_decided names inner count e ops.Sub true) (front_forms.decided names inner count e ops.Sub)) m
            (expr_tokens program right true) (Ends continues_place) (IsFront count (exprs.Both ops.Sub left right))
        either-minus true is = chosen_there _ is (number_or_decided count e ops.Sub true left right first chain leaves one l fit few room (right-next right))
        either-minus false is = chosen_other _ is (decided count e ops.Sub left right first chain leaves one l fit few room)
    either_turn count e ops.Mul left right first chain leaves one l fit few room =
        other_next (part.is_mark plus_sign) _ (λ o b. refl) (other_next (part.is_mark hyphen) _ (λ o b. refl)
        ((then) (operator ops.Mul) (λ o is. at_same (λ op. front_forms.decided names inner count e op) is (decided count e ops.Mul left right first chain leaves one l fit few room))))
    either_turn count e ops.Div left right first chain leaves one l fit few room =
        other_next (part.is_mark plus_sign) _ (λ o b. refl) (other_next (part.is_mark hyphen) _ (λ o b. refl)
        ((then) (operator ops.Div) (λ o is. at_same (λ op. front_forms.decided names inner count e op) is (decided count e ops.Div left right first chain leaves one l fit few room))))

    front_turn_spelled : {n : ℕ} (count : ℕ) (front : FirstInParens) (op : Op) (left right : Expr) → IsFirst count left front → FitBoth names program left right → expr_terms right < levels →
        count + (expr_terms left + expr_terms right) ≤ 500 →
        Spelled (front_forms.front_turn names inner count front) n (kinds.Mark (op_mark op) ∷ expr_tokens program right true) (Ends continues_place) (IsFront count (exprs.Both op left right))
    unfolding front_forms.front_turn
    front_turn_spelled count (fronts.Sum chain more) op left right first fit few room =
        let k = first.2.counted in
        ending (at_same (λ c. expressions.turn names inner (c, more)) first.1
        (turn_spelled names program I count more op left right first.0 first.2.side fit few first.2.counted (omega (arith, k, room)))) (λ state h. pure h)
    front_turn_spelled count (fronts.Either e) op left right first fit few room =
        let one = first.4 in
        either_turn count e op left right first.0 first.1 first.3 first.4 first.2 fit few (omega (arith, one, room))

    -- ---- a whole window

    abbrev AtColon : Option TokenKind → Type 0
    AtColon behind = behind ≡ Some (kinds.Mark colon)

    alone-front : (count : ℕ) (expr : Expr) (front : FirstInParens) → IsFirst count expr front → IsFront count expr front
    unfolding finish
    alone-front count expr (fronts.Sum chain more) first = subst (λ c. IsFound names program count expr (finish c, more)) (sym first.1) first.2
    alone-front count expr (fronts.Either e) first = (subst (λ c. IsExprSide names program expr (finish c)) (sym first.1) first.2, first.3 ∙ sym first.4)

    colon-no-turn : (o : Option TokenKind) → AtColon o → Ends begins_turn o
    colon-no-turn o e = (expr-ends o (subst (λ k. Ends continues_expr k) (sym e) colon-ends)).1

    colon-no-place : (o : Option TokenKind) → AtColon o → Ends continues_place o
    colon-no-place o e = (expr-ends o (subst (λ k. Ends continues_expr k) (sym e) colon-ends)).0

    -- what stands first, operators behind it, and more
    abbrev whole_front : {A : Type 0} → (FirstInParens → form.Form A) → ℕ → form.Form A
    whole_front more count = front_forms.first_front names inner count >>= (λ first. front_forms.front_turns names inner count first >>= more)

    module _ {tail : List TokenKind} {A : Type 0} {Has : A → Type 0} (more : FirstInParens → form.Form A) (begun : (o : Option TokenKind) → AtColon (first_of tail o)) where
      alone_front : {n : ℕ} (count : ℕ) (expr : Expr) {tokens : List TokenKind} → Spelled (front_forms.first_front names inner count) n tokens (Ends continues_place) (IsFirst count expr) →
          ((m : ℕ) (front : FirstInParens) → IsFront count expr front → Spelled (more front) m tail Any Has) → Spelled (whole_front more count) n (tokens ++ tail) Any Has
      alone_front count expr F G =
          bind F (λ o b. colon-no-place (first_of tail o) (begun o))
          (λ first h. behind_first (no_turn begins_turn (front_forms.front_turn names inner count) (λ o b. colon-no-turn o b) (alone-front count expr first h)) (λ o b. begun o) (λ front k. G _ front k))

      both_front : {n : ℕ} (count : ℕ) (op : Op) (left right : Expr) → FitBoth names program left right → expr_terms left < levels → expr_terms right < levels →
          count + (expr_terms left + expr_terms right) ≤ 500 →
          ((m : ℕ) (front : FirstInParens) → IsFront count (exprs.Both op left right) front → Spelled (more front) m tail Any Has) →
          Spelled (whole_front more count) n (expr_tokens program left true ++ ((kinds.Mark (op_mark op) ∷ expr_tokens program right true) ++ tail)) Any Has
      both_front count op left right fit first second room G =
          bind (within_first count left fit.left_fit first (omega (arith, room))) (λ o b. op-ends op)
          (λ front h. bind (last_turn begins_turn (front_forms.front_turn names inner count) (λ o. op-turn op) (front_turn_spelled count front op left right h fit second room)
          (λ o b. colon-no-place o b) (λ o b. colon-no-turn o b)) (λ o b. begun o) (λ front k. G _ front k))

      front_spelled : {n : ℕ} (count : ℕ) (expr : Expr) → IsPrintableExpr names program expr → expr_terms expr ≤ levels → count + expr_terms expr ≤ 500 →
          ((m : ℕ) (front : FirstInParens) → IsFront count expr front → Spelled (more front) m tail Any Has) → Spelled (whole_front more count) n (expr_tokens program expr false ++ tail) Any Has
      front_spelled {n = n} count expr =
          expr-cases (λ expr. IsPrintableExpr names program expr → expr_terms expr ≤ levels → count + expr_terms expr ≤ 500 →
          ((m : ℕ) (front : FirstInParens) → IsFront count expr front → Spelled (more front) m tail Any Has) → Spelled (whole_front more count) n (expr_tokens program expr false ++ tail) Any Has)
          (λ operand fit few room G. alone_front count (exprs.Leaf operand) (leaf_first count operand false fit few room) G)
          (λ inner fit few room G. by_tokens (ap (λ list. list ++ tail) (plain-Minus names program inner)) (alone_front count (exprs.Minus inner) (minus_first count inner fit few room) G))
          (λ op left right fit few room G.
          let e = terms-Both op left right in
          let some = some-terms left in
          let others = some-terms right in
          by_tokens (ap (λ list. list ++ tail) (plain-Both names program op left right)
          ∙ append_assoc (expr_tokens program left true) (kinds.Mark (op_mark op) ∷ expr_tokens program right true) tail)
          (both_front count op left right (both-fit names program op left right fit) (omega (arith, e, few, others)) (omega (arith, e, few, some)) (omega (arith, e, room)) G)) expr

    end_spelled : {m : ℕ} (alone : Bool) (count : ℕ) (from : Expr) (size : Option Expr) (front : FirstInParens) → FitWindow names program from size → HasRoom alone (suc levels) count from size →
        IsFront count from front →
        Spelled (front_forms.front_end names inner alone count front) m (kinds.Mark colon ∷ (size_tokens program size ++ kinds.Mark right_parenthesis ∷ [])) Any
        (λ found. (found.0 ≡ suffixes.Window (made_window from size)) × (alone ≡ false → found.1 ≡ count + (expr_terms from + size_terms size)))
    unfolding front_forms.front_end
    end_spelled alone count from size (fronts.Sum chain k) is room h =
        ending (window_behind names program I alone count k from size (finish chain) is room h)
        (λ window w. pure (ap (λ x. suffixes.Window x) w.same, w.counted))
    end_spelled alone count from size (fronts.Either e) is room h =
        there_next (part.is_mark colon) _ (λ o b. refl)
        (behind_none (tally count e.leaves (subst (λ m. count + m ≤ 500) (sym h.1) room.some))
        (λ more same. ending (window_behind names program I alone count more from size (finish e.chain) is room
        (record { side = h.0; counted = same ∙ ap (λ m. count + m) h.1 }))
        (λ window w. pure (ap (λ x. suffixes.Window x) w.same, w.counted))))

    pub suffix_spelled : {n : ℕ} (alone : Bool) (count : ℕ) (from : Expr) (size : Option Expr) → (judged_window names program (made_window from size)).fit ≡ true →
        HasRoom alone (suc levels) count from size →
        Spelled (front_forms.in_suffix names inner alone count) n (window_tokens program (made_window from size)) Any
        (λ found. (found.0 ≡ suffixes.Window (made_window from size)) × (alone ≡ false → found.1 ≡ count + (expr_terms from + size_terms size)))
    unfolding front_forms.in_suffix
    suffix_spelled alone count from size fit room =
        let is = window-fit names program from size fit in
        by_tokens (window-tokens names program I from size) ((then) (sign (part.is_mark left_parenthesis) refl)
        (λ _ _. front_spelled {tail = kinds.Mark colon ∷ (size_tokens program size ++ kinds.Mark right_parenthesis ∷ [])} (front_forms.front_end names inner alone count) (λ o. refl) count from is.first_fit (let x = room.first in omega (arith, x)) room.some
        (λ m front h. end_spelled alone count from size front is room h)))
