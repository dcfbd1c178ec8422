-- What spells windows, where both readings of what stands in parentheses are kept.
use Rattle.std.proofs.Common.{◌≡◌, ℕ, suc, ◌+◌, ◌≤◌, Bool, true, false, ◌&&◌, [], ◌∷◌, ◌++◌, Option, Some, None, refl, ap, sym, ◌∙◌, subst, arith, append_assoc}
use Rattle.std.specs.Prelude.{◌==◌}
use Rattle.std.proofs.lemmas.Bool.{and_parts, both_ways}
use Rattle.cob_base.specs.Bytes.{left_parenthesis, right_parenthesis, hyphen, colon}
use Rattle.cob_tree.specs.declared.place.Expr.{Expr}
use Rattle.cob_tree.specs.declared.place.Window.{Window}
use Rattle.cob_tree.specs.declared.program.Program.{Program}
use Rattle.cobol_lex.specs.declared.token.TokenKind.{TokenKind}
use Rattle.cobol_lex.specs.declared.token.TokenKind.TheVariants as kinds
use Rattle.parser_combinators.specs.Form.{begins_by}
use Rattle.parser_combinators.specs.Part as part
use Rattle.unparser.specs.Token.{Tokens}
use Rattle.unparser.specs.Place.{op_mark, expr_tokens, window_tokens}
use Rattle.symbol_tables.specs.data_names.Names.{Names}
use Rattle.program_facts.specs.term_counts.Expression.{expr_terms}
use Rattle.cobol_grammar.specs.declared.expr_forms.side.Side.{Side}
use Rattle.cobol_grammar.specs.expr_forms.Limit.{Inner}
use Rattle.cobol_grammar.specs.expr_forms.Window as windows
use Rattle.cobol_grammar.specs.expr_forms.Window.{second_count}
use Rattle.round_trip.specs.spelled_forms.Spelling.{first_of, Any, Spelled}
use Rattle.round_trip.proofs.spelled_forms_lemmas.Makers.{pure, note, hence, where_behind, bind, then, ending, behind_none, there_next, other_next}
use Rattle.round_trip.proofs.spelled_forms_lemmas.Tokens.{sign}
use Rattle.round_trip.specs.spelling.expr_spelling.Printable.{is_counting, judged_expr, judged_window, IsPrintableExpr}
use Rattle.round_trip.specs.spelling.expr_spelling.Printable as judging
use Rattle.round_trip.specs.spelling.expr_spelling.Spelled.{Ends, continues_expr, size_terms, HasRoom, made_window}
use Rattle.round_trip.proofs.spelling_lemmas.expr_spelling_lemmas.Layers.{expr-cases, size_tokens, tokens-Leaf, tokens-window, judged-window, judged_sizes}
use Rattle.round_trip.proofs.spelling_lemmas.expr_spelling_lemmas.Tests.{close-ends, colon-ends, operand-first}
use Rattle.round_trip.proofs.spelling_lemmas.expr_spelling_lemmas.Places.{by_tokens, InnerSpells}
use Rattle.round_trip.proofs.spelling_lemmas.expr_spelling_lemmas.Exprs.{IsFound, whole-free, plain-Minus, plain-Both, within-first, expr_spelled}

module _ (names : Names) (program : Program) where
  -- both expressions of a window are numbers without decimals
  pub record FitWindow (from : Expr) (size : Option Expr) : Type 0 where
    pub first_fit : IsPrintableExpr names program from
    pub first_whole : is_counting (judged_expr names program from).kind ≡ true
    pub second_fit : (other : Expr) → size ≡ Some other → IsPrintableExpr names program other × (is_counting (judged_expr names program other).kind ≡ true)

  second-fit : (size : Option Expr) → judging.if_counting (judged_sizes names program size) ≡ true → (other : Expr) → size ≡ Some other →
      IsPrintableExpr names program other × (is_counting (judged_expr names program other).kind ≡ true)
  second-fit None e other is = absurd cc
  second-fit (Some size) e other is =
      let same : size ≡ other = cc in
      subst (λ x. IsPrintableExpr names program x × (is_counting (judged_expr names program x).kind ≡ true)) same
      (and_parts (judged_expr names program size).fit (is_counting (judged_expr names program size).kind) e)

  pub window-fit : (from : Expr) (size : Option Expr) → (judged_window names program (made_window from size)).fit ≡ true → FitWindow from size
  window-fit from size fit =
      let first = judged_expr names program from in
      let all = and_parts (first.fit && is_counting first.kind) (judging.if_counting (judged_sizes names program size))
      (subst (λ j. j.fit ≡ true) (judged-window names program from size) fit) in
      let front = and_parts first.fit (is_counting first.kind) all.0 in
      record { first_fit = front.0; first_whole = front.1; second_fit = second-fit size all.1 }

  -- no whole expression begins with a closing parenthesis or a colon
  pub expr-first : (byte : ℕ) → (byte == left_parenthesis) ≡ false → (byte == hyphen) ≡ false → (expr : Expr) (o : Option TokenKind) →
      begins_by (part.is_mark byte) (first_of (expr_tokens program expr false) o) ≡ false
  expr-first byte other minus expr o =
      expr-cases (λ expr. begins_by (part.is_mark byte) (first_of (expr_tokens program expr false) o) ≡ false)
      (λ operand. ap (λ list. begins_by (part.is_mark byte) (first_of list o)) (tokens-Leaf program operand false) ∙ operand-first program byte operand o)
      (λ inner. ap (λ list. begins_by (part.is_mark byte) (first_of list o)) (plain-Minus names program inner) ∙ minus)
      (λ op left right. ap (λ list. begins_by (part.is_mark byte) (first_of list o)) (plain-Both names program op left right)
      ∙ within-front byte other left (kinds.Mark (op_mark op) ∷ expr_tokens program right true) o) expr
    where
      within-front : (byte : ℕ) → (byte == left_parenthesis) ≡ false → (expr : Expr) (more : Tokens) (o : Option TokenKind) →
          begins_by (part.is_mark byte) (first_of (expr_tokens program expr true ++ more) o) ≡ false
      within-front byte other expr more o = subst (λ k. begins_by (part.is_mark byte) k ≡ false) (sym (front-of (expr_tokens program expr true) more o)) (within-first names program byte other expr (first_of more o))
        where
          front-of : (list more : Tokens) (o : Option TokenKind) → first_of (list ++ more) o ≡ first_of list (first_of more o)
          front-of [] more o = refl
          front-of (x ∷ list) more o = refl

  module _ {inner : Inner} {levels : ℕ} (I : InnerSpells names program inner false levels) where
    record IsSize (count : ℕ) (size : Option Expr) (found : Option Expr × ℕ) : Type 0 where
      pub same : found.0 ≡ size
      pub counted : found.1 ≡ count + size_terms size

    -- a closing parenthesis stands behind
    abbrev Closed : Option TokenKind → Type 0
    Closed behind = behind ≡ Some (kinds.Mark right_parenthesis)

    closed-ends : (o : Option TokenKind) → Closed o → Ends continues_expr o
    closed-ends o e = subst (λ k. Ends continues_expr k) (sym e) close-ends

    length_spelled : {n : ℕ} (count : ℕ) (size : Option Expr) →
        ((other : Expr) → size ≡ Some other → IsPrintableExpr names program other × (is_counting (judged_expr names program other).kind ≡ true)) →
        size_terms size ≤ levels → count + size_terms size ≤ 500 →
        Spelled (windows.length_part names inner count) n (size_tokens program size) Closed (IsSize count size)
    unfolding windows.length_part
    length_spelled count None fit few room =
        there_next (part.is_mark right_parenthesis) _ (λ o b. ap (λ k. begins_by (part.is_mark right_parenthesis) k) b) (pure (record { same = refl; counted = omega arith }))
    length_spelled count (Some size) fit few room =
        let is = fit size refl in
        other_next (part.is_mark right_parenthesis) _ (λ o b. expr-first right_parenthesis refl refl size o)
        (ending (where_behind closed-ends (expr_spelled names program I count size is.0 few room))
        (λ side h. behind_none (note (whole-free (judged_expr names program size) side.0 h.side.known is.1))
        (λ _ _. pure (record { same = ap (λ x. Some x) h.side.told; counted = h.counted }))))

    pub record IsWindow (alone : Bool) (count : ℕ) (from : Expr) (size : Option Expr) (found : Window × ℕ) : Type 0 where
      pub same : found.0 ≡ made_window from size
      pub counted : alone ≡ false → found.1 ≡ count + (expr_terms from + size_terms size)

    second-counted : (alone : Bool) (count k a b m : ℕ) → k ≡ count + a → m ≡ second_count alone k + b → alone ≡ false → m ≡ count + (a + b)
    second-counted true count k a b m e h within = absurd (both_ways true within refl)
    second-counted false count k a b m e h within = omega (arith, e, h)

    -- behind the first expression of a window
    pub window_behind : {n : ℕ} (alone : Bool) (count k : ℕ) (from : Expr) (size : Option Expr) (first : Side) → FitWindow from size → HasRoom alone (suc levels) count from size →
        IsFound names program count from (first, k) →
        Spelled (windows.window_behind names inner alone first k) n (kinds.Mark colon ∷ (size_tokens program size ++ kinds.Mark right_parenthesis ∷ [])) Any (IsWindow alone count from size)
    unfolding windows.window_behind
    window_behind alone count k from size first fit room h =
        (then) (sign (part.is_mark colon) refl)
        (λ _ _. behind_none (note (whole-free (judged_expr names program from) first h.side.known fit.first_whole))
        (λ _ _. bind (length_spelled (second_count alone k) size fit.second_fit (let x = room.second in omega (arith, x))
        (subst (λ m. second_count alone m + size_terms size ≤ 500) (sym h.counted) room.all)) (λ o b. refl)
        (λ found s. ending (sign (part.is_mark right_parenthesis) refl)
        (λ _ _. pure (record {
          same = ap (λ x. made_window x found.0) h.side.told ∙ ap (λ x. made_window from x) s.same;
          counted = second-counted alone count k (expr_terms from) (size_terms size) found.1 h.counted s.counted;
        })))))

    pub window-tokens : (from : Expr) (size : Option Expr) →
        window_tokens program (made_window from size) ≡ kinds.Mark left_parenthesis ∷ (expr_tokens program from false ++ (kinds.Mark colon ∷ (size_tokens program size ++ kinds.Mark right_parenthesis ∷ [])))
    window-tokens from size =
        tokens-window program from size
        ∙ ap (λ list. kinds.Mark left_parenthesis ∷ list) (append_assoc (expr_tokens program from false) (kinds.Mark colon ∷ size_tokens program size) (kinds.Mark right_parenthesis ∷ []))

    -- a window behind subscripts
    pub in_window_spelled : {n : ℕ} (alone : Bool) (count : ℕ) (from : Expr) (size : Option Expr) → (judged_window names program (made_window from size)).fit ≡ true →
        HasRoom alone (suc levels) count from size →
        Spelled (windows.in_window names inner alone count) n (window_tokens program (made_window from size)) Any
        (λ found. (found.0 ≡ made_window from size) × (alone ≡ false → found.1 ≡ count + (expr_terms from + size_terms size)))
    unfolding windows.in_window
    in_window_spelled alone count from size fit room =
        let is = window-fit from size fit in
        by_tokens (window-tokens from size) ((then) (sign (part.is_mark left_parenthesis) refl)
        (λ _ _. bind (expr_spelled names program I count from is.first_fit (let x = room.first in omega (arith, x)) room.some) (λ o b. colon-ends)
        (λ first h. hence (λ found w. (w.same, w.counted)) (window_behind alone count first.1 from size first.0 is room h))))
