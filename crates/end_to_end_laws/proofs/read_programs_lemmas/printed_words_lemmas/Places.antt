-- The tokens of places, operands and expressions aren't left out.
use Rattle.std.proofs.Common.{◌≡◌, ℕ, Bool, true, false, ◌&&◌, List, [], ◌∷◌, map, Option, Some, None, refl, sym, ◌∙◌, subst}
use Rattle.std.specs.Prelude.{codes, if◌then◌else◌}
use Rattle.std.specs.Str.{bytes_eq}
use Rattle.std.proofs.lemmas.Bool.{and_parts}
use Rattle.cob_base.specs.Bytes.{hyphen, plus_sign, colon, left_parenthesis, right_parenthesis}
use Rattle.cob_tree.specs.declared.number.Number.{Number}
use Rattle.cob_tree.specs.declared.place.Expr.{Expr, ind-Expr, map-Expr, roll-Expr, fold-roll-Expr}
use Rattle.cob_tree.specs.declared.place.Expr.TheOpen.{Expr-F, Operand-F, Place-F, Sub-F, Window-F}
use Rattle.cob_tree.specs.declared.place.Figure.{Figure}
use Rattle.cob_tree.specs.declared.place.Figure.TheVariants as figure
use Rattle.cob_tree.specs.declared.place.Op.{Op}
use Rattle.cob_tree.specs.declared.place.Op.TheVariants as op
use Rattle.cob_tree.specs.declared.place.Operand.{Operand, ind-Operand, map-Operand, roll-Operand, fold-roll-Operand}
use Rattle.cob_tree.specs.declared.place.Place.{Place, ind-Place, map-Place, roll-Place, fold-roll-Place}
use Rattle.cob_tree.specs.declared.place.Sub.{Sub, map-Sub, roll-Sub, fold-roll-Sub}
use Rattle.cob_tree.specs.declared.place.Window.{Window, map-Window, roll-Window, fold-roll-Window}
use Rattle.cob_tree.specs.declared.program.Program.{Program}
use Rattle.cobol_lex.specs.declared.token.TokenKind.TheVariants as kind
use Rattle.control_flow_theory.specs.language.All.{all}
use Rattle.program_facts.specs.well_scoped.Part.{number_named}
use Rattle.unparser.specs.Token.{Tokens, joined, opened_by, closed_by, in_parentheses, enclosed}
use Rattle.unparser.specs.Place as tok
use Rattle.unparser.specs.Place.{of_tokens, plus_tokens, op_mark, figure_word, subs_tokens, place_tokens, operand_tokens, operands_tokens, expr_tokens, sub_tokens, window_tokens}
use Rattle.round_trip.specs.printable.Part as part
use Rattle.round_trip.specs.printable.Part.{is_printable_name, is_printable_place, are_printable_places, is_printable_operand, are_printable_operands, is_printable_expr, is_printable_sub, is_printable_window}
use Rattle.end_to_end_laws.proofs.read_programs_lemmas.printed_words_lemmas.Tokens.{Allowed, AreAllowed, none, word, mark, text-allowed, digits-allowed, number-allowed, printable-name, ItemsNamed, ◌∷∷◌, ◌+++◌}

-- ---- parts of them

of-allowed : (names : List (List ℕ)) → all (map is_printable_name names) ≡ true → AreAllowed (of_tokens names)
of-allowed [] h = none
of-allowed (name ∷ names) h =
    let e = and_parts (is_printable_name name) (all (map is_printable_name names)) h in
    word (codes "OF") refl ∷∷ printable-name name e.0 ∷∷ of-allowed names e.1

plus-allowed : (number : Number) → number_named number ≡ true → AreAllowed (plus_tokens number)
plus-allowed number h = go number.negative (bytes_eq number.digits (codes "0"))
  where
    go : (n z : Bool) → AreAllowed (if n then kind.Mark hyphen ∷ kind.Digits number.digits ∷ [] else if z then [] else kind.Mark plus_sign ∷ kind.Digits number.digits ∷ [])
    go true z = mark hyphen ∷∷ digits-allowed number.digits ∷∷ none
    go false true = none
    go false false = mark plus_sign ∷∷ digits-allowed number.digits ∷∷ none

pub parens-allowed : (tokens : Tokens) → AreAllowed tokens → AreAllowed (in_parentheses tokens)
parens-allowed tokens h = mark left_parenthesis ∷∷ h +++ mark right_parenthesis ∷∷ none

opened-allowed : (asked : Bool) → AreAllowed (opened_by asked)
opened-allowed true = mark left_parenthesis ∷∷ none
opened-allowed false = none

closed-allowed : (asked : Bool) → AreAllowed (closed_by asked)
closed-allowed true = mark right_parenthesis ∷∷ none
closed-allowed false = none

pub enclosed-allowed : (within : Bool) (tokens : Tokens) → AreAllowed tokens → AreAllowed (enclosed within tokens)
enclosed-allowed within tokens h = opened-allowed within +++ h +++ closed-allowed within

op-allowed : (o : Op) → Allowed (kind.Mark (op_mark o))
op-allowed op.Add = mark (op_mark op.Add)
op-allowed op.Sub = mark (op_mark op.Sub)
op-allowed op.Mul = mark (op_mark op.Mul)
op-allowed op.Div = mark (op_mark op.Div)

figure-allowed : (f : Figure) → Allowed (kind.Word (figure_word f))
figure-allowed figure.Zero = word (codes "ZERO") refl
figure-allowed figure.Space = word (codes "SPACE") refl
figure-allowed figure.HighValue = word (codes "HIGH-VALUE") refl
figure-allowed figure.LowValue = word (codes "LOW-VALUE") refl
figure-allowed figure.Quote = word (codes "QUOTE") refl

-- ---- by induction

module _ (program : Program) (named : ItemsNamed program) where
  abbrev IsExpr : Expr → Type 0
  IsExpr x = is_printable_expr x ≡ true → (within : Bool) → AreAllowed (expr_tokens program x within)

  abbrev IsOperand : Operand → Type 0
  IsOperand x = is_printable_operand x ≡ true → AreAllowed (operand_tokens program x)

  abbrev IsPlace : Place → Type 0
  IsPlace x = is_printable_place x ≡ true → AreAllowed (place_tokens program x)

  abbrev IsSub : Sub → Type 0
  IsSub x = is_printable_sub x ≡ true → AreAllowed (sub_tokens program x)

  abbrev IsWindow : Window → Type 0
  IsWindow x = is_printable_window x ≡ true → AreAllowed (window_tokens program x)

  abbrev SuchExpr : Type 0
  SuchExpr = (x : Expr) × IsExpr x

  abbrev SuchOperand : Type 0
  SuchOperand = (x : Operand) × IsOperand x

  abbrev SuchPlace : Type 0
  SuchPlace = (x : Place) × IsPlace x

  abbrev SuchSub : Type 0
  SuchSub = (x : Sub) × IsSub x

  abbrev SuchWindow : Type 0
  SuchWindow = (x : Window) × IsWindow x

  expr-by : (y : Expr-F Expr Operand Place Sub Window) →
      (part.expr_step (map-Expr Expr Operand Place Sub Window Bool Bool Bool Bool Bool is_printable_expr is_printable_operand is_printable_place is_printable_sub is_printable_window y) ≡ true →
      (within : Bool) → AreAllowed (tok.expr_step (map-Expr Expr Operand Place Sub Window (Bool → Tokens) Tokens Tokens Tokens Tokens (expr_tokens program) (operand_tokens program) (place_tokens program) (sub_tokens program) (window_tokens program) y) within)) →
      IsExpr (roll-Expr y)
  expr-by y h e within =
      subst (λ (f : Bool → Tokens). AreAllowed (f within)) (sym (fold-roll-Expr (Bool → Tokens) Tokens Tokens Tokens Tokens tok.expr_step tok.operand_step (tok.place_step program) tok.sub_step tok.window_step y))
      (h (sym (fold-roll-Expr Bool Bool Bool Bool Bool part.expr_step part.operand_step part.place_step part.sub_step part.window_step y) ∙ e) within)

  operand-by : (y : Operand-F Expr Operand Place Sub Window) →
      (part.operand_step (map-Operand Expr Operand Place Sub Window Bool Bool Bool Bool Bool is_printable_expr is_printable_operand is_printable_place is_printable_sub is_printable_window y) ≡ true →
      AreAllowed (tok.operand_step (map-Operand Expr Operand Place Sub Window (Bool → Tokens) Tokens Tokens Tokens Tokens (expr_tokens program) (operand_tokens program) (place_tokens program) (sub_tokens program) (window_tokens program) y))) →
      IsOperand (roll-Operand y)
  operand-by y h e =
      subst AreAllowed (sym (fold-roll-Operand (Bool → Tokens) Tokens Tokens Tokens Tokens tok.expr_step tok.operand_step (tok.place_step program) tok.sub_step tok.window_step y))
      (h (sym (fold-roll-Operand Bool Bool Bool Bool Bool part.expr_step part.operand_step part.place_step part.sub_step part.window_step y) ∙ e))

  place-by : (y : Place-F Expr Operand Place Sub Window) →
      (part.place_step (map-Place Expr Operand Place Sub Window Bool Bool Bool Bool Bool is_printable_expr is_printable_operand is_printable_place is_printable_sub is_printable_window y) ≡ true →
      AreAllowed (tok.place_step program (map-Place Expr Operand Place Sub Window (Bool → Tokens) Tokens Tokens Tokens Tokens (expr_tokens program) (operand_tokens program) (place_tokens program) (sub_tokens program) (window_tokens program) y))) →
      IsPlace (roll-Place y)
  place-by y h e =
      subst AreAllowed (sym (fold-roll-Place (Bool → Tokens) Tokens Tokens Tokens Tokens tok.expr_step tok.operand_step (tok.place_step program) tok.sub_step tok.window_step y))
      (h (sym (fold-roll-Place Bool Bool Bool Bool Bool part.expr_step part.operand_step part.place_step part.sub_step part.window_step y) ∙ e))

  sub-by : (y : Sub-F Expr Operand Place Sub Window) →
      (part.sub_step (map-Sub Expr Operand Place Sub Window Bool Bool Bool Bool Bool is_printable_expr is_printable_operand is_printable_place is_printable_sub is_printable_window y) ≡ true →
      AreAllowed (tok.sub_step (map-Sub Expr Operand Place Sub Window (Bool → Tokens) Tokens Tokens Tokens Tokens (expr_tokens program) (operand_tokens program) (place_tokens program) (sub_tokens program) (window_tokens program) y))) →
      IsSub (roll-Sub y)
  sub-by y h e =
      subst AreAllowed (sym (fold-roll-Sub (Bool → Tokens) Tokens Tokens Tokens Tokens tok.expr_step tok.operand_step (tok.place_step program) tok.sub_step tok.window_step y))
      (h (sym (fold-roll-Sub Bool Bool Bool Bool Bool part.expr_step part.operand_step part.place_step part.sub_step part.window_step y) ∙ e))

  window-by : (y : Window-F Expr Operand Place Sub Window) →
      (part.window_step (map-Window Expr Operand Place Sub Window Bool Bool Bool Bool Bool is_printable_expr is_printable_operand is_printable_place is_printable_sub is_printable_window y) ≡ true →
      AreAllowed (tok.window_step (map-Window Expr Operand Place Sub Window (Bool → Tokens) Tokens Tokens Tokens Tokens (expr_tokens program) (operand_tokens program) (place_tokens program) (sub_tokens program) (window_tokens program) y))) →
      IsWindow (roll-Window y)
  window-by y h e =
      subst AreAllowed (sym (fold-roll-Window (Bool → Tokens) Tokens Tokens Tokens Tokens tok.expr_step tok.operand_step (tok.place_step program) tok.sub_step tok.window_step y))
      (h (sym (fold-roll-Window Bool Bool Bool Bool Bool part.expr_step part.operand_step part.place_step part.sub_step part.window_step y) ∙ e))

  expr-layer : (y : Expr-F SuchExpr SuchOperand SuchPlace SuchSub SuchWindow) → IsExpr (roll-Expr (map-Expr SuchExpr SuchOperand SuchPlace SuchSub SuchWindow Expr Operand Place Sub Window (λ e. e.0) (λ e. e.0) (λ e. e.0) (λ e. e.0) (λ e. e.0) y))
  expr-layer (Expr-F.Leaf operand) = expr-by (Expr-F.Leaf operand.0) (λ e within. operand.1 e)
  expr-layer (Expr-F.Minus inner) =
      expr-by (Expr-F.Minus inner.0) (λ e within. enclosed-allowed within _ (mark hyphen ∷∷ inner.1 e true))
  expr-layer (Expr-F.Both op left right) =
      expr-by (Expr-F.Both op left.0 right.0)
      (λ e within. let h = and_parts (is_printable_expr left.0) (is_printable_expr right.0) e in
      enclosed-allowed within _ (left.1 h.0 true +++ op-allowed op ∷∷ right.1 h.1 true))

  operand-layer : (y : Operand-F SuchExpr SuchOperand SuchPlace SuchSub SuchWindow) → IsOperand (roll-Operand (map-Operand SuchExpr SuchOperand SuchPlace SuchSub SuchWindow Expr Operand Place Sub Window (λ e. e.0) (λ e. e.0) (λ e. e.0) (λ e. e.0) (λ e. e.0) y))
  operand-layer (Operand-F.Place place) = operand-by (Operand-F.Place place.0) place.1
  operand-layer (Operand-F.Number number) = operand-by (Operand-F.Number number) (λ e. number-allowed number ∷∷ none)
  operand-layer (Operand-F.Text text) = operand-by (Operand-F.Text text) (λ e. text-allowed text ∷∷ none)
  operand-layer (Operand-F.Figure figure) = operand-by (Operand-F.Figure figure) (λ e. figure-allowed figure ∷∷ none)

  all-subs : (list : List SuchSub) → all (map is_printable_sub (map (λ e. e.0) list)) ≡ true → AreAllowed (joined (map (sub_tokens program) (map (λ e. e.0) list)))
  all-subs [] e = none
  all-subs (x ∷ list) e =
      let h = and_parts (is_printable_sub x.0) (all (map is_printable_sub (map (λ e. e.0) list))) e in x.1 h.0 +++ all-subs list h.1

  subs-allowed : (list : List SuchSub) → all (map is_printable_sub (map (λ e. e.0) list)) ≡ true → AreAllowed (subs_tokens (map (sub_tokens program) (map (λ e. e.0) list)))
  subs-allowed [] e = none
  subs-allowed (x ∷ list) e = parens-allowed _ (all-subs (x ∷ list) e)

  place-layer : (item : ℕ) (of : List (List ℕ)) (subs : List SuchSub) (window : Option SuchWindow) →
      IsPlace (roll-Place (map-Place SuchExpr SuchOperand SuchPlace SuchSub SuchWindow Expr Operand Place Sub Window (λ e. e.0) (λ e. e.0) (λ e. e.0) (λ e. e.0) (λ e. e.0) (record { item = item; of = of; subs = subs; window = window })))
  place-layer item of subs None =
      place-by (record { item = item; of = of; subs = map (λ e. e.0) subs; window = None })
      (λ e. let h = and_parts (all (map is_printable_name of) && all (map is_printable_sub (map (λ e. e.0) subs))) true e in
      let k = and_parts (all (map is_printable_name of)) (all (map is_printable_sub (map (λ e. e.0) subs))) h.0 in
      named item ∷∷ of-allowed of k.0 +++ subs-allowed subs k.1 +++ none)
  place-layer item of subs (Some window) =
      place-by (record { item = item; of = of; subs = map (λ e. e.0) subs; window = Some window.0 })
      (λ e. let h = and_parts (all (map is_printable_name of) && all (map is_printable_sub (map (λ e. e.0) subs))) (is_printable_window window.0) e in
      let k = and_parts (all (map is_printable_name of)) (all (map is_printable_sub (map (λ e. e.0) subs))) h.0 in
      named item ∷∷ of-allowed of k.0 +++ subs-allowed subs k.1 +++ window.1 h.1)

  sub-layer : (base : Option SuchPlace) (plus : Number) → IsSub (roll-Sub (map-Sub SuchExpr SuchOperand SuchPlace SuchSub SuchWindow Expr Operand Place Sub Window (λ e. e.0) (λ e. e.0) (λ e. e.0) (λ e. e.0) (λ e. e.0) (record { base = base; plus = plus })))
  sub-layer None plus = sub-by (record { base = None; plus = plus }) (λ e. digits-allowed plus.digits ∷∷ none)
  sub-layer (Some base) plus =
      sub-by (record { base = Some base.0; plus = plus })
      (λ e. let h = and_parts (number_named plus) (is_printable_place base.0) e in base.1 h.1 +++ plus-allowed plus h.0)

  window-layer : (from : SuchExpr) (size : Option SuchExpr) → IsWindow (roll-Window (map-Window SuchExpr SuchOperand SuchPlace SuchSub SuchWindow Expr Operand Place Sub Window (λ e. e.0) (λ e. e.0) (λ e. e.0) (λ e. e.0) (λ e. e.0) (record { from = from; «length» = size })))
  window-layer from None =
      window-by (record { from = from.0; «length» = None })
      (λ e. parens-allowed _ (from.1 (and_parts (is_printable_expr from.0) true e).0 false +++ mark colon ∷∷ none))
  window-layer from (Some size) =
      window-by (record { from = from.0; «length» = Some size.0 })
      (λ e. let h = and_parts (is_printable_expr from.0) (is_printable_expr size.0) e in
      parens-allowed _ (from.1 h.0 false +++ mark colon ∷∷ size.1 h.1 false))

  pub expr-allowed : (x : Expr) → IsExpr x
  expr-allowed x =
      ind-Expr IsExpr IsOperand IsPlace IsSub IsWindow
      (λ x y is. subst (λ z. IsExpr (roll-Expr z)) is (expr-layer y))
      (λ x y is. subst (λ z. IsOperand (roll-Operand z)) is (operand-layer y))
      (λ x y is. subst (λ z. IsPlace (roll-Place z)) is (place-layer y.item y.of y.subs y.window))
      (λ x y is. subst (λ z. IsSub (roll-Sub z)) is (sub-layer y.base y.plus))
      (λ x y is. subst (λ z. IsWindow (roll-Window z)) is (window-layer y.from y.«length»)) x

  pub operand-allowed : (x : Operand) → IsOperand x
  operand-allowed x =
      ind-Operand IsExpr IsOperand IsPlace IsSub IsWindow
      (λ x y is. subst (λ z. IsExpr (roll-Expr z)) is (expr-layer y))
      (λ x y is. subst (λ z. IsOperand (roll-Operand z)) is (operand-layer y))
      (λ x y is. subst (λ z. IsPlace (roll-Place z)) is (place-layer y.item y.of y.subs y.window))
      (λ x y is. subst (λ z. IsSub (roll-Sub z)) is (sub-layer y.base y.plus))
      (λ x y is. subst (λ z. IsWindow (roll-Window z)) is (window-layer y.from y.«length»)) x

  pub place-allowed : (x : Place) → IsPlace x
  place-allowed x =
      ind-Place IsExpr IsOperand IsPlace IsSub IsWindow
      (λ x y is. subst (λ z. IsExpr (roll-Expr z)) is (expr-layer y))
      (λ x y is. subst (λ z. IsOperand (roll-Operand z)) is (operand-layer y))
      (λ x y is. subst (λ z. IsPlace (roll-Place z)) is (place-layer y.item y.of y.subs y.window))
      (λ x y is. subst (λ z. IsSub (roll-Sub z)) is (sub-layer y.base y.plus))
      (λ x y is. subst (λ z. IsWindow (roll-Window z)) is (window-layer y.from y.«length»)) x

  -- ---- lists of them

  pub operands-allowed : (list : List Operand) → are_printable_operands list ≡ true → AreAllowed (operands_tokens program list)
  operands-allowed [] h = none
  operands-allowed (x ∷ list) h =
      let e = and_parts (is_printable_operand x) (are_printable_operands list) h in operand-allowed x e.0 +++ operands-allowed list e.1

  pub places-allowed : (list : List Place) → are_printable_places list ≡ true → AreAllowed (joined (map (place_tokens program) list))
  places-allowed [] h = none
  places-allowed (x ∷ list) h =
      let e = and_parts (is_printable_place x) (are_printable_places list) h in place-allowed x e.0 +++ places-allowed list e.1
