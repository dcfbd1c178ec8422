-- What spells expressions, and those in parentheses.
use Rattle.std.proofs.Common.{◌≡◌, ℕ, ◌+◌, ◌<◌, ◌≤◌, Bool, true, false, ◌&&◌, [], ◌∷◌, ◌++◌, Option, Some, None, refl, ap, sym, ◌∙◌, subst, arith, append-nil}
use Rattle.std.specs.Prelude.{◌==◌}
use Rattle.std.proofs.lemmas.Bool.{and_parts, both_ways}
use Rattle.cob_base.specs.Bytes.{left_parenthesis, right_parenthesis, hyphen, plus_sign}
use Rattle.cob_tree.specs.declared.place.Expr.{Expr, ind-Expr, map-Expr, roll-Expr}
use Rattle.cob_tree.specs.declared.place.Expr.TheOpen.{Expr-F}
use Rattle.cob_tree.specs.declared.place.Expr.TheVariants as exprs
use Rattle.cob_tree.specs.declared.place.Op.{Op}
use Rattle.cob_tree.specs.declared.place.Op.TheVariants as ops
use Rattle.cob_tree.specs.declared.place.Operand.{Operand}
use Rattle.cob_tree.specs.declared.place.Place.{Place}
use Rattle.cob_tree.specs.declared.place.Sub.{Sub}
use Rattle.cob_tree.specs.declared.place.Window.{Window}
use Rattle.cob_tree.specs.declared.program.Program.{Program}
use Rattle.cobol_lex.specs.declared.token.TokenKind.{TokenKind}
use Rattle.cobol_lex.specs.declared.token.TokenKind.TheVariants as kinds
use Rattle.parser_combinators.specs.declared.note.Position.{Position}
use Rattle.parser_combinators.specs.Form.{begins_by}
use Rattle.parser_combinators.specs.Part as part
use Rattle.unparser.specs.Token.{in_parentheses}
use Rattle.unparser.specs.Place.{op_mark, expr_tokens}
use Rattle.symbol_tables.specs.data_names.Names.{Names}
use Rattle.program_facts.specs.term_counts.Expression.{expr_terms, operand_terms, place_terms}
use Rattle.cobol_grammar.specs.declared.expr_forms.side.Side.{Side}
use Rattle.cobol_grammar.specs.declared.expr_forms.side.ValueKind.{ValueKind}
use Rattle.cobol_grammar.specs.declared.expr_forms.side.ValueKind.TheVariants as values
use Rattle.cobol_grammar.specs.expr_forms.Chain.{chain_of, finish, joined}
use Rattle.cobol_grammar.specs.expr_forms.Expression as expressions
use Rattle.cobol_grammar.specs.expr_forms.Fault.{is_whole, number_fault, number_fault_at, result_fault, result_fault_at, whole_fault, whole_fault_at}
use Rattle.cobol_grammar.specs.expr_forms.Limit.{Inner}
use Rattle.cobol_grammar.specs.expr_forms.Side.{expr_of, sum_side, negated}
use Rattle.cobol_grammar.specs.expr_forms.Token.{begins_turn, op_of}
use Rattle.round_trip.specs.spelled_forms.Spelling.{first_of, Any, Spelled}
use Rattle.round_trip.proofs.spelled_forms_lemmas.Makers.{pure, note, hence, where_behind, bind, then, ending, behind_none, there_next, other_next, one, no_turn, last_turn}
use Rattle.round_trip.proofs.spelled_forms_lemmas.Tokens.{sign}
use Rattle.round_trip.specs.spelling.expr_spelling.Printable.{Judged, is_number, takes_result, is_counting, judged_expr, IsPrintableExpr, IsPrintableOperand}
use Rattle.round_trip.specs.spelling.expr_spelling.Printable as judging
use Rattle.round_trip.specs.spelling.expr_spelling.Spelled.{Ends, continues_place, continues_expr, what_of, IsKnownAs, IsOperandSide, IsExprSide, size_terms, OperandHasRoom}
use Rattle.round_trip.proofs.spelling_lemmas.expr_spelling_lemmas.Layers.{expr-cases, operand-cases, tokens-Leaf, tokens-Minus, tokens-Both, judged-Leaf, judged-Minus, judged-Both, terms-Leaf, terms-Minus, terms-Both, terms-Place, terms-place, terms-window, window_count}
use Rattle.round_trip.proofs.spelling_lemmas.expr_spelling_lemmas.Tests.{expr-ends, op-ends, op-turn, close-ends, operand-first}
use Rattle.round_trip.proofs.spelling_lemmas.expr_spelling_lemmas.Places.{by_tokens, at_same, tally, InnerSpells, IsOperandFound, operand_spelled}

-- ---- faults

pub number-none : (position : Position) (kind : ValueKind) → is_number kind ≡ true → number_fault_at position kind ≡ None
number-none position (values.Number whole) e = refl
number-none position kind e = absurd (both_ways false refl e)

pub number-free : (judged : Judged) (side : Side) → IsKnownAs judged side → is_number judged.kind ≡ true → number_fault side ≡ None
unfolding number_fault
number-free judged side known e = number-none side.leaf side.kind (subst (λ k. is_number k ≡ true) (sym known.kind) e)

result-none : (position : Position) (kind : ValueKind) → takes_result kind ≡ true → result_fault_at position kind ≡ None
result-none position values.Edited e = refl
result-none position (values.Number whole) e = refl
result-none position kind e = absurd (both_ways false refl e)

pub result-free : (judged : Judged) (side : Side) → IsKnownAs judged side → takes_result judged.kind ≡ true → result_fault side ≡ None
unfolding result_fault
result-free judged side known e = result-none side.leaf side.kind (subst (λ k. takes_result k ≡ true) (sym known.kind) e)

pub whole-none : (position : Position) (kind : ValueKind) → is_counting kind ≡ true → whole_fault_at position kind ≡ None
unfolding whole_fault_at
whole-none position (values.Number true) e = refl
whole-none position (values.Number false) e = absurd (both_ways false refl e)
whole-none position kind e = absurd (both_ways false refl e)

pub whole-free : (judged : Judged) (side : Side) → IsKnownAs judged side → is_counting judged.kind ≡ true → whole_fault side ≡ None
whole-free judged side known e = whole-none side.position side.kind (subst (λ k. is_counting k ≡ true) (sym known.kind) e)

pub op-of : (op : Op) → op_of (kinds.Mark (op_mark op)) ≡ Some op
op-of ops.Add = refl
op-of ops.Sub = refl
op-of ops.Mul = refl
op-of ops.Div = refl

pub operator : {n : ℕ} (op : Op) → Spelled expressions.operator n (kinds.Mark (op_mark op) ∷ []) Any (λ found. found ≡ op)
operator op = one (λ position kind. op_of kind) (λ position i. (op, op-of op, refl))

-- ---- every expression has a term

abbrev Always : {A : Type 0} → A → Type 0
Always a = Unit {0}

abbrev Filled : Type 0
Filled = (expr : Expr) × (0 < expr_terms expr)

abbrev Other : Type 0 → Type 0
Other A = A × Unit {0}

filled-layer : (x : Expr-F Filled (Other Operand) (Other Place) (Other Sub) (Other Window)) →
    0 < expr_terms (roll-Expr (map-Expr Filled (Other Operand) (Other Place) (Other Sub) (Other Window) Expr Operand Place Sub Window (λ e. e.0) (λ e. e.0) (λ e. e.0) (λ e. e.0) (λ e. e.0) x))
filled-layer (Expr-F.Leaf operand) = let e = terms-Leaf operand.0 in subst (λ z. 0 < expr_terms z) (sym (exprs.rolls-Leaf operand.0)) (omega (arith, e))
filled-layer (Expr-F.Minus inner) = let e = terms-Minus inner.0 in subst (λ z. 0 < expr_terms z) (sym (exprs.rolls-Minus inner.0)) (omega (arith, e))
filled-layer (Expr-F.Both op left right) =
    let e = terms-Both op left.0 right.0 in
    let some = left.1 in
    subst (λ z. 0 < expr_terms z) (sym (exprs.rolls-Both op left.0 right.0)) (omega (arith, e, some))

pub some-terms : (expr : Expr) → 0 < expr_terms expr
some-terms expr =
    ind-Expr (λ expr. 0 < expr_terms expr) Always Always Always Always
    (λ x y is. subst (λ z. 0 < expr_terms (roll-Expr z)) is (filled-layer y)) (λ x y is. tt) (λ x y is. tt) (λ x y is. tt) (λ x y is. tt) expr

module _ (names : Names) (program : Program) where
  -- what is found of an expression, and how many terms there are up to its end
  pub record IsFound (count : ℕ) (expr : Expr) (found : Side × ℕ) : Type 0 where
    pub side : IsExprSide names program expr found.0
    pub counted : found.1 ≡ count + expr_terms expr

  told-what : (operand : Operand) → expr_of (what_of operand) ≡ exprs.Leaf operand
  told-what operand = operand-cases (λ operand. expr_of (what_of operand) ≡ exprs.Leaf operand) (λ place. refl) (λ number. refl) (λ text. refl) (λ figure. refl) operand

  pub leaf-side : (operand : Operand) (side : Side) → IsOperandSide names program operand side → IsExprSide names program (exprs.Leaf operand) side
  leaf-side operand side h = record {
    told = ap (λ w. expr_of w) h.what ∙ told-what operand;
    known = record {
      kind = h.known.kind ∙ sym (ap (λ j. j.kind) (judged-Leaf names program operand));
      make = h.known.make ∙ sym (ap (λ j. j.make) (judged-Leaf names program operand));
    };
  }

  pub leaf-fit : (operand : Operand) → IsPrintableExpr names program (exprs.Leaf operand) → IsPrintableOperand names program operand
  leaf-fit operand fit = subst (λ j. j.fit ≡ true) (judged-Leaf names program operand) fit

  pub minus-fit : (inner : Expr) → IsPrintableExpr names program (exprs.Minus inner) → IsPrintableExpr names program inner × (is_number (judged_expr names program inner).kind ≡ true)
  minus-fit inner fit =
      and_parts (judged_expr names program inner).fit (is_number (judged_expr names program inner).kind) (subst (λ j. j.fit ≡ true) (judged-Minus names program inner) fit)

  pub record FitBoth (left right : Expr) : Type 0 where
    pub left_fit : IsPrintableExpr names program left
    pub left_number : is_number (judged_expr names program left).kind ≡ true
    pub right_fit : IsPrintableExpr names program right
    pub right_number : is_number (judged_expr names program right).kind ≡ true

  pub both-fit : (op : Op) (left right : Expr) → IsPrintableExpr names program (exprs.Both op left right) → FitBoth left right
  both-fit op left right fit =
      let l = judged_expr names program left in
      let r = judged_expr names program right in
      let all = and_parts (l.fit && is_number l.kind) (r.fit && is_number r.kind) (subst (λ j. j.fit ≡ true) (judged-Both names program op left right) fit) in
      let first = and_parts l.fit (is_number l.kind) all.0 in
      let second = and_parts r.fit (is_number r.kind) all.1 in
      record { left_fit = first.0; left_number = first.1; right_fit = second.0; right_number = second.1 }

  -- ---- tokens of expressions, in parentheses or not

  pub plain-Minus : (inner : Expr) → expr_tokens program (exprs.Minus inner) false ≡ kinds.Mark hyphen ∷ expr_tokens program inner true
  plain-Minus inner = tokens-Minus program inner false ∙ append-nil (kinds.Mark hyphen ∷ expr_tokens program inner true)

  pub plain-Both : (op : Op) (left right : Expr) → expr_tokens program (exprs.Both op left right) false ≡ expr_tokens program left true ++ kinds.Mark (op_mark op) ∷ expr_tokens program right true
  plain-Both op left right = tokens-Both program op left right false ∙ append-nil (expr_tokens program left true ++ kinds.Mark (op_mark op) ∷ expr_tokens program right true)

  pub within-Minus : (inner : Expr) → expr_tokens program (exprs.Minus inner) true ≡ in_parentheses (expr_tokens program (exprs.Minus inner) false)
  within-Minus inner = tokens-Minus program inner true ∙ ap (λ list. in_parentheses list) (sym (plain-Minus inner))

  pub within-Both : (op : Op) (left right : Expr) → expr_tokens program (exprs.Both op left right) true ≡ in_parentheses (expr_tokens program (exprs.Both op left right) false)
  within-Both op left right = tokens-Both program op left right true ∙ ap (λ list. in_parentheses list) (sym (plain-Both op left right))

  -- an expression within another one begins as an operand does, or with a parenthesis
  pub within-first : (byte : ℕ) → (byte == left_parenthesis) ≡ false → (expr : Expr) (o : Option TokenKind) → begins_by (part.is_mark byte) (first_of (expr_tokens program expr true) o) ≡ false
  within-first byte other expr o =
      expr-cases (λ expr. begins_by (part.is_mark byte) (first_of (expr_tokens program expr true) o) ≡ false)
      (λ operand. ap (λ list. begins_by (part.is_mark byte) (first_of list o)) (tokens-Leaf program operand true) ∙ operand-first program byte operand o)
      (λ inner. ap (λ list. begins_by (part.is_mark byte) (first_of list o)) (within-Minus inner) ∙ other)
      (λ op left right. ap (λ list. begins_by (part.is_mark byte) (first_of list o)) (within-Both op left right) ∙ other) expr

  -- ---- what is joined

  sum-known : (op : Op) (left right : Expr) (first second : Side) (whole : Bool) →
      IsExprSide names program left first → IsExprSide names program right second →
      (judging.is_exact op && (is_whole first.kind && is_whole second.kind)) ≡ whole → (side : Side) →
      expr_of side.what ≡ exprs.Both op (expr_of first.what) (expr_of second.what) → side.kind ≡ values.Number whole → side.make ≡ (judging.joined true true).make →
      IsExprSide names program (exprs.Both op left right) side
  sum-known op left right first second whole l r w side told kind make = record {
    told = told ∙ ap (λ e. exprs.Both op e (expr_of second.what)) l.told ∙ ap (λ e. exprs.Both op left e) r.told;
    known = record {
      kind = kind ∙ ap (λ b. values.Number b) (sym w)
          ∙ ap (λ k. values.Number (judging.is_exact op && (is_whole k && is_whole second.kind))) l.known.kind
          ∙ ap (λ k. values.Number (judging.is_exact op && (is_whole (judged_expr names program left).kind && is_whole k))) r.known.kind
          ∙ sym (ap (λ j. j.kind) (judged-Both names program op left right));
      make = make ∙ sym (ap (λ j. j.make) (judged-Both names program op left right));
    };
  }

  pub joined-side : (op : Op) (left right : Expr) (first second : Side) → IsExprSide names program left first → IsExprSide names program right second →
      IsExprSide names program (exprs.Both op left right) (finish (joined op (chain_of first) second))
  unfolding finish joined
  joined-side ops.Add left right first second l r = sum-known ops.Add left right first second _ l r refl _ refl refl refl
  joined-side ops.Sub left right first second l r = sum-known ops.Sub left right first second _ l r refl _ refl refl refl
  joined-side ops.Mul left right first second l r = sum-known ops.Mul left right first second _ l r refl _ refl refl refl
  joined-side ops.Div left right first second l r = sum-known ops.Div left right first second _ l r refl _ refl refl refl

  -- ---- room

  pub operand-room : (levels count : ℕ) (operand : Operand) → 1 + operand_terms operand ≤ levels → count + (1 + operand_terms operand) ≤ 500 → OperandHasRoom false levels (count + 1) operand
  operand-room levels count operand few within place is item of subs window same from size some =
      let e : operand_terms operand ≡ expr_terms from + size_terms size =
      ap (λ x. operand_terms x) is ∙ terms-Place place ∙ ap (λ x. place_terms x) same ∙ terms-place item of subs window ∙ ap (λ x. window_count x) some ∙ terms-window from size in
      record {
        first = omega (arith, e, few);
        second = omega (arith, e, few);
        some = omega (arith, e, within);
        all = omega (arith, e, within);
      }

  module _ {inner : Inner} {levels : ℕ} (I : InnerSpells names program inner false levels) where
    -- ---- with a sign, in parentheses, or an operand

    leaf-found : (count : ℕ) (operand : Operand) (found : Side × ℕ) → IsOperandFound names program I count operand found → IsFound count (exprs.Leaf operand) found
    leaf-found count operand found h = record {
      side = leaf-side operand found.0 h.side;
      counted = h.counted refl ∙ ap (λ m. count + m) (sym (terms-Leaf operand));
    }

    leaf_operand : {n : ℕ} (count : ℕ) (operand : Operand) (within : Bool) → IsPrintableExpr names program (exprs.Leaf operand) → expr_terms (exprs.Leaf operand) ≤ levels →
        count + expr_terms (exprs.Leaf operand) ≤ 500 →
        Spelled (expressions.unsigned names inner count) n (expr_tokens program (exprs.Leaf operand) within) (Ends continues_place) (IsOperandFound names program I count operand)
    unfolding expressions.unsigned
    leaf_operand count operand within fit few room =
        let e = terms-Leaf operand in
        by_tokens (tokens-Leaf program operand within)
        (other_next (part.is_mark left_parenthesis) _ (λ o b. operand-first program left_parenthesis operand o)
        (operand_spelled names program I count operand (leaf-fit operand fit) (omega (arith, e, few)) (omega (arith, e, room))
        (operand-room levels count operand (omega (arith, e, few)) (omega (arith, e, room)))))

    pub unary_operand : {n : ℕ} (count : ℕ) (operand : Operand) (within : Bool) → IsPrintableExpr names program (exprs.Leaf operand) → expr_terms (exprs.Leaf operand) ≤ levels →
        count + expr_terms (exprs.Leaf operand) ≤ 500 →
        Spelled (expressions.unary names inner count) n (expr_tokens program (exprs.Leaf operand) within) (Ends continues_place) (IsOperandFound names program I count operand)
    unfolding expressions.unary
    unary_operand count operand within fit few room =
        other_next (part.is_mark hyphen) _ (λ o b. ap (λ list. begins_by (part.is_mark hyphen) (first_of list o)) (tokens-Leaf program operand within) ∙ operand-first program hyphen operand o)
        (other_next (part.is_mark plus_sign) _ (λ o b. ap (λ list. begins_by (part.is_mark plus_sign) (first_of list o)) (tokens-Leaf program operand within) ∙ operand-first program plus_sign operand o)
        (leaf_operand count operand within fit few room))

    pub unary_leaf : {n : ℕ} (count : ℕ) (operand : Operand) (within : Bool) → IsPrintableExpr names program (exprs.Leaf operand) → expr_terms (exprs.Leaf operand) ≤ levels →
        count + expr_terms (exprs.Leaf operand) ≤ 500 →
        Spelled (expressions.unary names inner count) n (expr_tokens program (exprs.Leaf operand) within) (Ends continues_place) (IsFound count (exprs.Leaf operand))
    unary_leaf count operand within fit few room = hence (leaf-found count operand) (unary_operand count operand within fit few room)

    paren : {n : ℕ} (count : ℕ) (expr : Expr) → expr_tokens program expr true ≡ in_parentheses (expr_tokens program expr false) → IsPrintableExpr names program expr →
        expr_terms expr < levels → count + expr_terms expr ≤ 500 →
        Spelled (expressions.unsigned names inner count) n (expr_tokens program expr true) (Ends continues_place) (IsFound count expr)
    unfolding expressions.unsigned
    paren count expr e fit few room =
        by_tokens e (there_next (part.is_mark left_parenthesis) _ (λ o b. refl)
        (where_behind (λ o b. tt) (hence (λ found h. record { side = h.0; counted = h.1 }) (I.nested count expr fit few room))))

    pub unsigned_within : {n : ℕ} (count : ℕ) (expr : Expr) → IsPrintableExpr names program expr → expr_terms expr < levels → count + expr_terms expr ≤ 500 →
        Spelled (expressions.unsigned names inner count) n (expr_tokens program expr true) (Ends continues_place) (IsFound count expr)
    unsigned_within {n = n} count expr =
        expr-cases (λ expr. IsPrintableExpr names program expr → expr_terms expr < levels → count + expr_terms expr ≤ 500 →
        Spelled (expressions.unsigned names inner count) n (expr_tokens program expr true) (Ends continues_place) (IsFound count expr))
        (λ operand fit few room. hence (leaf-found count operand) (leaf_operand count operand true fit (omega (arith, few)) room))
        (λ inner fit few room. paren count (exprs.Minus inner) (within-Minus inner) fit few room)
        (λ op left right fit few room. paren count (exprs.Both op left right) (within-Both op left right) fit few room) expr

    pub unary_within : {n : ℕ} (count : ℕ) (expr : Expr) → IsPrintableExpr names program expr → expr_terms expr < levels → count + expr_terms expr ≤ 500 →
        Spelled (expressions.unary names inner count) n (expr_tokens program expr true) (Ends continues_place) (IsFound count expr)
    unfolding expressions.unary
    unary_within count expr fit few room =
        other_next (part.is_mark hyphen) _ (λ o b. within-first hyphen refl expr o)
        (other_next (part.is_mark plus_sign) _ (λ o b. within-first plus_sign refl expr o) (unsigned_within count expr fit few room))

    minus-found : (count : ℕ) (inner : Expr) (position : Position) (found : Side × ℕ) → IsFound (count + 1) inner found → IsFound count (exprs.Minus inner) (negated position found.0, found.1)
    unfolding negated
    minus-found count inner position found h =
        let e = terms-Minus inner in
        let k = h.counted in
        record {
          side = record {
            told = ap (λ x. exprs.Minus x) h.side.told;
            known = record {
              kind = ap (λ k. values.Number (is_whole k)) h.side.known.kind ∙ sym (ap (λ j. j.kind) (judged-Minus names program inner));
              make = sym (ap (λ j. j.make) (judged-Minus names program inner));
            };
          };
          counted = omega (arith, e, k);
        }

    pub unary_minus : {n : ℕ} (count : ℕ) (expr : Expr) → IsPrintableExpr names program (exprs.Minus expr) → expr_terms (exprs.Minus expr) ≤ levels → count + expr_terms (exprs.Minus expr) ≤ 500 →
        Spelled (expressions.unary names inner count) n (kinds.Mark hyphen ∷ expr_tokens program expr true) (Ends continues_place) (IsFound count (exprs.Minus expr))
    unfolding expressions.unary expressions.minussed
    unary_minus count expr fit few room =
        let e = terms-Minus expr in
        let parts = minus-fit expr fit in
        there_next (part.is_mark hyphen) _ (λ o b. refl)
        (behind_none (tally count 1 (omega (arith, e, room)))
        (λ more same. (then) (sign (part.is_mark hyphen) refl)
        (λ position _. ending (at_same (λ m. expressions.unsigned names inner m) same (unsigned_within (count + 1) expr parts.0 (omega (arith, e, few)) (omega (arith, e, room))))
        (λ side h. behind_none (note (number-free (judged_expr names program expr) side.0 h.side.known parts.1))
        (λ _ _. pure (minus-found count expr position side h))))))

    -- ---- behind a first operand

    pub operated_spelled : {n : ℕ} (count more : ℕ) (op : Op) (left right : Expr) (first : Side) → IsExprSide names program left first → FitBoth left right →
        expr_terms right < levels → more ≡ count + expr_terms left → more + expr_terms right ≤ 500 →
        Spelled (expressions.operated names inner op (chain_of first) more) n (expr_tokens program right true) (Ends continues_place)
        (λ found. IsFound count (exprs.Both op left right) (finish found.0, found.1))
    unfolding expressions.operated
    operated_spelled count more op left right first l fit few same room =
        ending (unary_within more right fit.right_fit few room)
        (λ second h. behind_none (note (number-free (judged_expr names program left) first l.known fit.left_number))
        (λ _ _. behind_none (note (number-free (judged_expr names program right) second.0 h.side.known fit.right_number))
        (λ _ _. pure (
        let e = terms-Both op left right in
        let k = h.counted in
        record { side = joined-side op left right first second.0 l h.side; counted = omega (arith, e, k, same) }))))

    pub turn_spelled : {n : ℕ} (count more : ℕ) (op : Op) (left right : Expr) (first : Side) → IsExprSide names program left first → FitBoth left right →
        expr_terms right < levels → more ≡ count + expr_terms left → more + expr_terms right ≤ 500 →
        Spelled (expressions.turn names inner (chain_of first, more)) n (kinds.Mark (op_mark op) ∷ expr_tokens program right true) (Ends continues_place)
        (λ found. IsFound count (exprs.Both op left right) (finish found.0, found.1))
    unfolding expressions.turn
    turn_spelled count more op left right first l fit few same room =
        (then) (operator op) (λ o e. at_same (λ op. expressions.operated names inner op (chain_of first) more) e (operated_spelled count more op left right first l fit few same room))

    pub sum_none : {n : ℕ} (more : ℕ) (side : Side) → Spelled (expressions.sum names inner side more) n [] (Ends begins_turn) (λ found. found ≡ (side, more))
    unfolding expressions.sum finish
    sum_none more side =
        ending (no_turn begins_turn (expressions.turn names inner) {Has = λ state. state ≡ (chain_of side, more)} (λ o b. b) refl)
        (λ state e. pure (ap (λ state. (finish state.0, state.1)) e))

    pub sum_alone : {n : ℕ} (count more : ℕ) (expr : Expr) (side : Side) → IsFound count expr (side, more) →
        Spelled (expressions.sum names inner side more) n [] (Ends begins_turn) (IsFound count expr)
    sum_alone count more expr side h = hence (λ found e. subst (IsFound count expr) (sym e) h) (sum_none more side)

    pub sum_more : {n : ℕ} (count more : ℕ) (op : Op) (left right : Expr) (first : Side) → IsExprSide names program left first → FitBoth left right →
        expr_terms right < levels → more ≡ count + expr_terms left → more + expr_terms right ≤ 500 →
        Spelled (expressions.sum names inner first more) n (kinds.Mark (op_mark op) ∷ expr_tokens program right true) (Ends continues_expr) (IsFound count (exprs.Both op left right))
    unfolding expressions.sum
    sum_more count more op left right first l fit few same room =
        ending (last_turn begins_turn (expressions.turn names inner) (λ o. op-turn op) (turn_spelled count more op left right first l fit few same room)
        (λ o b. (expr-ends o b).0) (λ o b. (expr-ends o b).1)) (λ state k. pure k)

    -- ---- whole expressions

    pub expr_spelled : {n : ℕ} (count : ℕ) (expr : Expr) → IsPrintableExpr names program expr → expr_terms expr ≤ levels → count + expr_terms expr ≤ 500 →
        Spelled (expressions.expr names inner count) n (expr_tokens program expr false) (Ends continues_expr) (IsFound count expr)
    unfolding expressions.expr
    expr_spelled {n = n} count expr =
        expr-cases (λ expr. IsPrintableExpr names program expr → expr_terms expr ≤ levels → count + expr_terms expr ≤ 500 →
        Spelled (expressions.expr names inner count) n (expr_tokens program expr false) (Ends continues_expr) (IsFound count expr))
        (λ operand fit few room. ending (where_behind (λ o b. (expr-ends o b).0) (unary_leaf count operand false fit few room))
        (λ first h. where_behind (λ o b. (expr-ends o b).1) (sum_alone count first.1 (exprs.Leaf operand) first.0 h)))
        (λ inner fit few room. by_tokens (plain-Minus inner) (ending (where_behind (λ o b. (expr-ends o b).0) (unary_minus count inner fit few room))
        (λ first h. where_behind (λ o b. (expr-ends o b).1) (sum_alone count first.1 (exprs.Minus inner) first.0 h))))
        (λ op left right fit few room.
        let e = terms-Both op left right in
        let some = some-terms left in
        let others = some-terms right in
        by_tokens (plain-Both op left right) (bind (unary_within count left (both-fit op left right fit).left_fit (omega (arith, e, few, others)) (omega (arith, e, room)))
        (λ o b. op-ends op)
        (λ first h. sum_more count first.1 op left right first.0 h.side (both-fit op left right fit) (omega (arith, e, few, some)) h.counted (let k = h.counted in omega (arith, e, room, k))))) expr

    enclosed-found : (count : ℕ) (expr : Expr) (position : Position) (found : Side × ℕ) → IsFound count expr found → IsFound count expr (sum_side position found.0, found.1)
    unfolding sum_side
    enclosed-found count expr position found h = record { side = record { told = h.side.told; known = record { kind = h.side.known.kind; make = h.side.known.make } }; counted = h.counted }

    pub in_nested_spelled : {n : ℕ} (count : ℕ) (expr : Expr) → IsPrintableExpr names program expr → expr_terms expr ≤ levels → count + expr_terms expr ≤ 500 →
        Spelled (expressions.in_nested names inner count) n (in_parentheses (expr_tokens program expr false)) Any (IsFound count expr)
    unfolding expressions.in_nested
    in_nested_spelled count expr fit few room =
        (then) (sign (part.is_mark left_parenthesis) refl)
        (λ position _. bind (expr_spelled count expr fit few room) (λ o b. close-ends)
        (λ side h. ending (sign (part.is_mark right_parenthesis) refl) (λ _ _. pure (enclosed-found count expr position side h))))
