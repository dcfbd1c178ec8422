-- The tokens of places, operands and expressions that can be printed.
use Rattle.std.proofs.Common.{◌≡◌, ℕ, Bool, true, false, ◌&&◌, List, [], ◌∷◌, map, Option, Some, None, refl, sym, ◌∙◌, subst}
use Rattle.std.specs.Prelude.{codes, if◌then◌else◌}
use Rattle.std.specs.Str.{bytes_eq}
use Rattle.std.proofs.lemmas.Bool.{and_parts}
use Rattle.cob_base.specs.Bytes.{hyphen, plus_sign, colon, left_parenthesis, right_parenthesis}
use Rattle.cob_tree.specs.declared.number.Number.{Number}
use Rattle.cob_tree.specs.declared.place.Expr.{Expr, ind-Expr, map-Expr, roll-Expr, fold-roll-Expr}
use Rattle.cob_tree.specs.declared.place.Expr.TheOpen.{Expr-F, Operand-F, Place-F, Sub-F, Window-F}
use Rattle.cob_tree.specs.declared.place.Figure.{Figure}
use Rattle.cob_tree.specs.declared.place.Figure.TheVariants as figure
use Rattle.cob_tree.specs.declared.place.Op.{Op}
use Rattle.cob_tree.specs.declared.place.Op.TheVariants as op
use Rattle.cob_tree.specs.declared.place.Operand.{Operand, ind-Operand, map-Operand, roll-Operand, fold-roll-Operand}
use Rattle.cob_tree.specs.declared.place.Place.{Place, ind-Place, map-Place, roll-Place, fold-roll-Place}
use Rattle.cob_tree.specs.declared.place.Sub.{Sub, map-Sub, roll-Sub, fold-roll-Sub}
use Rattle.cob_tree.specs.declared.place.Window.{Window, map-Window, roll-Window, fold-roll-Window}
use Rattle.cob_tree.specs.declared.program.Program.{Program}
use Rattle.cobol_lex.specs.declared.token.TokenKind.TheVariants as kind
use Rattle.control_flow_theory.specs.language.All.{all}
use Rattle.program_facts.specs.well_scoped.Part.{number_named}
use Rattle.unparser.specs.Token.{Tokens, joined, opened_by, closed_by, in_parentheses, enclosed}
use Rattle.unparser.specs.Place as tok
use Rattle.unparser.specs.Place.{of_tokens, plus_tokens, op_mark, figure_word, subs_tokens, place_tokens, operand_tokens, operands_tokens, expr_tokens, sub_tokens, window_tokens}
use Rattle.round_trip.proofs.printable_lemmas.Free.{text-free}
use Rattle.round_trip.specs.printable.Part as part
use Rattle.round_trip.specs.printable.Part.{is_printable_name, is_printable_place, are_printable_places, is_printable_operand, are_printable_operands, is_printable_expr, is_printable_sub, is_printable_window}
use Rattle.round_trip.proofs.printable_lemmas.Tokens.{Fit, Fits, none, word, mark, number-digits, number-free, printable-name, ItemsNamed, ◌∷∷◌, ◌+++◌}

-- ---- parts of them

of-free : (names : List (List ℕ)) → all (map is_printable_name names) ≡ true → Fits (of_tokens names)
of-free [] h = none
of-free (name ∷ names) h =
    let e = and_parts (is_printable_name name) (all (map is_printable_name names)) h in
    word (codes "OF") refl ∷∷ printable-name name e.0 ∷∷ of-free names e.1

plus-free : (number : Number) → number_named number ≡ true → Fits (plus_tokens number)
plus-free number h = go number.negative (bytes_eq number.digits (codes "0"))
  where
    go : (n z : Bool) → Fits (if n then kind.Mark hyphen ∷ kind.Digits number.digits ∷ [] else if z then [] else kind.Mark plus_sign ∷ kind.Digits number.digits ∷ [])
    go true z = mark hyphen refl ∷∷ number-digits number h ∷∷ none
    go false true = none
    go false false = mark plus_sign refl ∷∷ number-digits number h ∷∷ none

pub parens-free : (tokens : Tokens) → Fits tokens → Fits (in_parentheses tokens)
parens-free tokens h = mark left_parenthesis refl ∷∷ h +++ mark right_parenthesis refl ∷∷ none

opened-free : (asked : Bool) → Fits (opened_by asked)
opened-free true = mark left_parenthesis refl ∷∷ none
opened-free false = none

closed-free : (asked : Bool) → Fits (closed_by asked)
closed-free true = mark right_parenthesis refl ∷∷ none
closed-free false = none

pub enclosed-free : (within : Bool) (tokens : Tokens) → Fits tokens → Fits (enclosed within tokens)
enclosed-free within tokens h = opened-free within +++ h +++ closed-free within

op-free : (o : Op) → Fit (kind.Mark (op_mark o))
op-free op.Add = mark (op_mark op.Add) refl
op-free op.Sub = mark (op_mark op.Sub) refl
op-free op.Mul = mark (op_mark op.Mul) refl
op-free op.Div = mark (op_mark op.Div) refl

figure-free : (f : Figure) → Fit (kind.Word (figure_word f))
figure-free figure.Zero = word (codes "ZERO") refl
figure-free figure.Space = word (codes "SPACE") refl
figure-free figure.HighValue = word (codes "HIGH-VALUE") refl
figure-free figure.LowValue = word (codes "LOW-VALUE") refl
figure-free figure.Quote = word (codes "QUOTE") refl

-- ---- by induction

module _ (program : Program) (named : ItemsNamed program) where
  abbrev IsExpr : Expr → Type 0
  IsExpr x = is_printable_expr x ≡ true → (within : Bool) → Fits (expr_tokens program x within)

  abbrev IsOperand : Operand → Type 0
  IsOperand x = is_printable_operand x ≡ true → Fits (operand_tokens program x)

  abbrev IsPlace : Place → Type 0
  IsPlace x = is_printable_place x ≡ true → Fits (place_tokens program x)

  abbrev IsSub : Sub → Type 0
  IsSub x = is_printable_sub x ≡ true → Fits (sub_tokens program x)

  abbrev IsWindow : Window → Type 0
  IsWindow x = is_printable_window x ≡ true → Fits (window_tokens program x)

  abbrev SuchExpr : Type 0
  SuchExpr = (x : Expr) × IsExpr x

  abbrev SuchOperand : Type 0
  SuchOperand = (x : Operand) × IsOperand x

  abbrev SuchPlace : Type 0
  SuchPlace = (x : Place) × IsPlace x

  abbrev SuchSub : Type 0
  SuchSub = (x : Sub) × IsSub x

  abbrev SuchWindow : Type 0
  SuchWindow = (x : Window) × IsWindow x

  expr-by : (y : Expr-F Expr Operand Place Sub Window) →
      (part.expr_step (map-Expr Expr Operand Place Sub Window Bool Bool Bool Bool Bool is_printable_expr is_printable_operand is_printable_place is_printable_sub is_printable_window y) ≡ true →
      (within : Bool) → Fits (tok.expr_step (map-Expr Expr Operand Place Sub Window (Bool → Tokens) Tokens Tokens Tokens Tokens (expr_tokens program) (operand_tokens program) (place_tokens program) (sub_tokens program) (window_tokens program) y) within)) →
      IsExpr (roll-Expr y)
  expr-by y h e within =
      subst (λ (f : Bool → Tokens). Fits (f within)) (sym (fold-roll-Expr (Bool → Tokens) Tokens Tokens Tokens Tokens tok.expr_step tok.operand_step (tok.place_step program) tok.sub_step tok.window_step y))
      (h (sym (fold-roll-Expr Bool Bool Bool Bool Bool part.expr_step part.operand_step part.place_step part.sub_step part.window_step y) ∙ e) within)

  operand-by : (y : Operand-F Expr Operand Place Sub Window) →
      (part.operand_step (map-Operand Expr Operand Place Sub Window Bool Bool Bool Bool Bool is_printable_expr is_printable_operand is_printable_place is_printable_sub is_printable_window y) ≡ true →
      Fits (tok.operand_step (map-Operand Expr Operand Place Sub Window (Bool → Tokens) Tokens Tokens Tokens Tokens (expr_tokens program) (operand_tokens program) (place_tokens program) (sub_tokens program) (window_tokens program) y))) →
      IsOperand (roll-Operand y)
  operand-by y h e =
      subst Fits (sym (fold-roll-Operand (Bool → Tokens) Tokens Tokens Tokens Tokens tok.expr_step tok.operand_step (tok.place_step program) tok.sub_step tok.window_step y))
      (h (sym (fold-roll-Operand Bool Bool Bool Bool Bool part.expr_step part.operand_step part.place_step part.sub_step part.window_step y) ∙ e))

  place-by : (y : Place-F Expr Operand Place Sub Window) →
      (part.place_step (map-Place Expr Operand Place Sub Window Bool Bool Bool Bool Bool is_printable_expr is_printable_operand is_printable_place is_printable_sub is_printable_window y) ≡ true →
      Fits (tok.place_step program (map-Place Expr Operand Place Sub Window (Bool → Tokens) Tokens Tokens Tokens Tokens (expr_tokens program) (operand_tokens program) (place_tokens program) (sub_tokens program) (window_tokens program) y))) →
      IsPlace (roll-Place y)
  place-by y h e =
      subst Fits (sym (fold-roll-Place (Bool → Tokens) Tokens Tokens Tokens Tokens tok.expr_step tok.operand_step (tok.place_step program) tok.sub_step tok.window_step y))
      (h (sym (fold-roll-Place Bool Bool Bool Bool Bool part.expr_step part.operand_step part.place_step part.sub_step part.window_step y) ∙ e))

  sub-by : (y : Sub-F Expr Operand Place Sub Window) →
      (part.sub_step (map-Sub Expr Operand Place Sub Window Bool Bool Bool Bool Bool is_printable_expr is_printable_operand is_printable_place is_printable_sub is_printable_window y) ≡ true →
      Fits (tok.sub_step (map-Sub Expr Operand Place Sub Window (Bool → Tokens) Tokens Tokens Tokens Tokens (expr_tokens program) (operand_tokens program) (place_tokens program) (sub_tokens program) (window_tokens program) y))) →
      IsSub (roll-Sub y)
  sub-by y h e =
      subst Fits (sym (fold-roll-Sub (Bool → Tokens) Tokens Tokens Tokens Tokens tok.expr_step tok.operand_step (tok.place_step program) tok.sub_step tok.window_step y))
      (h (sym (fold-roll-Sub Bool Bool Bool Bool Bool part.expr_step part.operand_step part.place_step part.sub_step part.window_step y) ∙ e))

  window-by : (y : Window-F Expr Operand Place Sub Window) →
      (part.window_step (map-Window Expr Operand Place Sub Window Bool Bool Bool Bool Bool is_printable_expr is_printable_operand is_printable_place is_printable_sub is_printable_window y) ≡ true →
      Fits (tok.window_step (map-Window Expr Operand Place Sub Window (Bool → Tokens) Tokens Tokens Tokens Tokens (expr_tokens program) (operand_tokens program) (place_tokens program) (sub_tokens program) (window_tokens program) y))) →
      IsWindow (roll-Window y)
  window-by y h e =
      subst Fits (sym (fold-roll-Window (Bool → Tokens) Tokens Tokens Tokens Tokens tok.expr_step tok.operand_step (tok.place_step program) tok.sub_step tok.window_step y))
      (h (sym (fold-roll-Window Bool Bool Bool Bool Bool part.expr_step part.operand_step part.place_step part.sub_step part.window_step y) ∙ e))

  expr-layer : (y : Expr-F SuchExpr SuchOperand SuchPlace SuchSub SuchWindow) → IsExpr (roll-Expr (map-Expr SuchExpr SuchOperand SuchPlace SuchSub SuchWindow Expr Operand Place Sub Window (λ e. e.0) (λ e. e.0) (λ e. e.0) (λ e. e.0) (λ e. e.0) y))
  expr-layer (Expr-F.Leaf operand) = expr-by (Expr-F.Leaf operand.0) (λ e within. operand.1 e)
  expr-layer (Expr-F.Minus inner) =
      expr-by (Expr-F.Minus inner.0) (λ e within. enclosed-free within _ (mark hyphen refl ∷∷ inner.1 e true))
  expr-layer (Expr-F.Both op left right) =
      expr-by (Expr-F.Both op left.0 right.0)
      (λ e within. let h = and_parts (is_printable_expr left.0) (is_printable_expr right.0) e in
      enclosed-free within _ (left.1 h.0 true +++ op-free op ∷∷ right.1 h.1 true))

  operand-layer : (y : Operand-F SuchExpr SuchOperand SuchPlace SuchSub SuchWindow) → IsOperand (roll-Operand (map-Operand SuchExpr SuchOperand SuchPlace SuchSub SuchWindow Expr Operand Place Sub Window (λ e. e.0) (λ e. e.0) (λ e. e.0) (λ e. e.0) (λ e. e.0) y))
  operand-layer (Operand-F.Place place) = operand-by (Operand-F.Place place.0) place.1
  operand-layer (Operand-F.Number number) = operand-by (Operand-F.Number number) (λ e. number-free number e ∷∷ none)
  operand-layer (Operand-F.Text text) = operand-by (Operand-F.Text text) (λ e. (record { free = text-free text e }) ∷∷ none)
  operand-layer (Operand-F.Figure figure) = operand-by (Operand-F.Figure figure) (λ e. figure-free figure ∷∷ none)

  all-subs : (list : List SuchSub) → all (map is_printable_sub (map (λ e. e.0) list)) ≡ true → Fits (joined (map (sub_tokens program) (map (λ e. e.0) list)))
  all-subs [] e = none
  all-subs (x ∷ list) e =
      let h = and_parts (is_printable_sub x.0) (all (map is_printable_sub (map (λ e. e.0) list))) e in x.1 h.0 +++ all-subs list h.1

  subs-free : (list : List SuchSub) → all (map is_printable_sub (map (λ e. e.0) list)) ≡ true → Fits (subs_tokens (map (sub_tokens program) (map (λ e. e.0) list)))
  subs-free [] e = none
  subs-free (x ∷ list) e = parens-free _ (all-subs (x ∷ list) e)

  place-layer : (item : ℕ) (of : List (List ℕ)) (subs : List SuchSub) (window : Option SuchWindow) →
      IsPlace (roll-Place (map-Place SuchExpr SuchOperand SuchPlace SuchSub SuchWindow Expr Operand Place Sub Window (λ e. e.0) (λ e. e.0) (λ e. e.0) (λ e. e.0) (λ e. e.0) (record { item = item; of = of; subs = subs; window = window })))
  place-layer item of subs None =
      place-by (record { item = item; of = of; subs = map (λ e. e.0) subs; window = None })
      (λ e. let h = and_parts (all (map is_printable_name of) && all (map is_printable_sub (map (λ e. e.0) subs))) true e in
      let k = and_parts (all (map is_printable_name of)) (all (map is_printable_sub (map (λ e. e.0) subs))) h.0 in
      named item ∷∷ of-free of k.0 +++ subs-free subs k.1 +++ none)
  place-layer item of subs (Some window) =
      place-by (record { item = item; of = of; subs = map (λ e. e.0) subs; window = Some window.0 })
      (λ e. let h = and_parts (all (map is_printable_name of) && all (map is_printable_sub (map (λ e. e.0) subs))) (is_printable_window window.0) e in
      let k = and_parts (all (map is_printable_name of)) (all (map is_printable_sub (map (λ e. e.0) subs))) h.0 in
      named item ∷∷ of-free of k.0 +++ subs-free subs k.1 +++ window.1 h.1)

  sub-layer : (base : Option SuchPlace) (plus : Number) → IsSub (roll-Sub (map-Sub SuchExpr SuchOperand SuchPlace SuchSub SuchWindow Expr Operand Place Sub Window (λ e. e.0) (λ e. e.0) (λ e. e.0) (λ e. e.0) (λ e. e.0) (record { base = base; plus = plus })))
  sub-layer None plus = sub-by (record { base = None; plus = plus }) (λ e. number-digits plus (and_parts (number_named plus) true e).0 ∷∷ none)
  sub-layer (Some base) plus =
      sub-by (record { base = Some base.0; plus = plus })
      (λ e. let h = and_parts (number_named plus) (is_printable_place base.0) e in base.1 h.1 +++ plus-free plus h.0)

  window-layer : (from : SuchExpr) (size : Option SuchExpr) → IsWindow (roll-Window (map-Window SuchExpr SuchOperand SuchPlace SuchSub SuchWindow Expr Operand Place Sub Window (λ e. e.0) (λ e. e.0) (λ e. e.0) (λ e. e.0) (λ e. e.0) (record { from = from; «length» = size })))
  window-layer from None =
      window-by (record { from = from.0; «length» = None })
      (λ e. parens-free _ (from.1 (and_parts (is_printable_expr from.0) true e).0 false +++ mark colon refl ∷∷ none))
  window-layer from (Some size) =
      window-by (record { from = from.0; «length» = Some size.0 })
      (λ e. let h = and_parts (is_printable_expr from.0) (is_printable_expr size.0) e in
      parens-free _ (from.1 h.0 false +++ mark colon refl ∷∷ size.1 h.1 false))

  pub expr-free : (x : Expr) → IsExpr x
  expr-free x =
      ind-Expr IsExpr IsOperand IsPlace IsSub IsWindow
      (λ x y is. subst (λ z. IsExpr (roll-Expr z)) is (expr-layer y))
      (λ x y is. subst (λ z. IsOperand (roll-Operand z)) is (operand-layer y))
      (λ x y is. subst (λ z. IsPlace (roll-Place z)) is (place-layer y.item y.of y.subs y.window))
      (λ x y is. subst (λ z. IsSub (roll-Sub z)) is (sub-layer y.base y.plus))
      (λ x y is. subst (λ z. IsWindow (roll-Window z)) is (window-layer y.from y.«length»)) x

  pub operand-free : (x : Operand) → IsOperand x
  operand-free x =
      ind-Operand IsExpr IsOperand IsPlace IsSub IsWindow
      (λ x y is. subst (λ z. IsExpr (roll-Expr z)) is (expr-layer y))
      (λ x y is. subst (λ z. IsOperand (roll-Operand z)) is (operand-layer y))
      (λ x y is. subst (λ z. IsPlace (roll-Place z)) is (place-layer y.item y.of y.subs y.window))
      (λ x y is. subst (λ z. IsSub (roll-Sub z)) is (sub-layer y.base y.plus))
      (λ x y is. subst (λ z. IsWindow (roll-Window z)) is (window-layer y.from y.«length»)) x

  pub place-free : (x : Place) → IsPlace x
  place-free x =
      ind-Place IsExpr IsOperand IsPlace IsSub IsWindow
      (λ x y is. subst (λ z. IsExpr (roll-Expr z)) is (expr-layer y))
      (λ x y is. subst (λ z. IsOperand (roll-Operand z)) is (operand-layer y))
      (λ x y is. subst (λ z. IsPlace (roll-Place z)) is (place-layer y.item y.of y.subs y.window))
      (λ x y is. subst (λ z. IsSub (roll-Sub z)) is (sub-layer y.base y.plus))
      (λ x y is. subst (λ z. IsWindow (roll-Window z)) is (window-layer y.from y.«length»)) x

  -- ---- lists of them

  pub operands-free : (list : List Operand) → are_printable_operands list ≡ true → Fits (operands_tokens program list)
  operands-free [] h = none
  operands-free (x ∷ list) h =
      let e = and_parts (is_printable_operand x) (are_printable_operands list) h in operand-free x e.0 +++ operands-free list e.1

  pub places-free : (list : List Place) → are_printable_places list ≡ true → Fits (joined (map (place_tokens program) list))
  places-free [] h = none
  places-free (x ∷ list) h =
      let e = and_parts (is_printable_place x) (are_printable_places list) h in place-free x e.0 +++ places-free list e.1
