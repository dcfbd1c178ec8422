-- What is fit to be printed is judged alike with added entries behind.
use Rattle.std.proofs.Common.{◌≡◌, ℕ, Bool, true, not, ◌&&◌, List, [], ◌∷◌, length, map, Option, Some, None, refl, ap, sym, ◌∙◌, subst}
use Rattle.std.specs.Prelude.{◌==◌}
use Rattle.std.specs.Option.{is_some}
use Rattle.std.proofs.lemmas.Bool.{and_parts, and_from, eqb-true}
use Rattle.cob_tree.specs.declared.cond.Cond.{Cond, ind-Cond, map-Cond, roll-Cond, fold-roll-Cond}
use Rattle.cob_tree.specs.declared.cond.Cond.TheOpen.{Cond-F}
use Rattle.cob_tree.specs.declared.number.Number.{Number}
use Rattle.cob_tree.specs.declared.place.Expr.{Expr, ind-Expr, map-Expr, roll-Expr, fold-roll-Expr}
use Rattle.cob_tree.specs.declared.place.Expr.TheOpen.{Expr-F, Operand-F, Place-F, Sub-F, Window-F}
use Rattle.cob_tree.specs.declared.place.Operand.{Operand, ind-Operand, map-Operand, roll-Operand, fold-roll-Operand}
use Rattle.cob_tree.specs.declared.place.Place.{Place, ind-Place, map-Place, roll-Place, fold-roll-Place}
use Rattle.cob_tree.specs.declared.place.Sub.{Sub, map-Sub, roll-Sub, fold-roll-Sub}
use Rattle.cob_tree.specs.declared.place.Window.{Window, map-Window, roll-Window, fold-roll-Window}
use Rattle.cob_tree.specs.declared.program.Program.{Program}
use Rattle.parser_combinators.specs.words.Word.{is_data_word}
use Rattle.unparser.specs.Place.{item_name}
use Rattle.symbol_tables.specs.declared.data_names.name.Referent.{Referent}
use Rattle.symbol_tables.specs.declared.data_names.name.Referent.TheVariants as found
use Rattle.symbol_tables.specs.declared.data_names.name.ItemKind.{ItemKind}
use Rattle.symbol_tables.specs.data_names.Look.{look}
use Rattle.symbol_tables.specs.data_names.Names.{Names}
use Rattle.cobol_grammar.specs.declared.expr_forms.side.ExprContent.TheVariants as makes
use Rattle.cobol_grammar.specs.expr_forms.Fault.{item_kind, kind_of, is_condition}
use Rattle.round_trip.specs.spelling.expr_spelling.Printable as judging
use Rattle.round_trip.specs.spelling.expr_spelling.Printable.{Judged, is_number, is_counting, are_data_words, suits, are_fit, if_fit, kind_seen, is_bare, reference, judged_expr, judged_operand, judged_place, judged_sub, judged_window}
use Rattle.round_trip.specs.spelling.cond_spelling.Printable as conditions
use Rattle.round_trip.specs.spelling.cond_spelling.Printable.{is_value, are_comparable, cond_fit}
use Rattle.round_trip.specs.declarations.added_entries.Items.{WholeItem, HasAdded, AreNew}
use Rattle.round_trip.specs.declarations.added_entries.References.{known_by, AreJudgedAlike}
use Rattle.round_trip.proofs.declarations_lemmas.added_entries_lemmas.Found.{look-stays, name-stays, own-word}

-- ---- what suits is found

suits-found : (item subs : ℕ) (windowed : Bool) (f : Referent) → suits item subs windowed f ≡ true → (kind : ItemKind) × (dims : ℕ) × (f ≡ found.Item item kind dims)
suits-found item subs windowed (found.Item number kind dims) h =
    (kind, dims, ap (λ n. found.Item n kind dims) (eqb-true number item (and_parts (number == item) (dims == subs && not (is_condition (item_kind kind) && windowed)) h).0))
suits-found item subs windowed found.Unknown h = absurd cc
suits-found item subs windowed found.Ambiguous h = absurd cc

-- a place by its name, what that stands for and its parts
abbrev placed : (word : List ℕ) (f : Referent) (item : ℕ) (of : List (List ℕ)) (subs : List Judged) (window : Option Judged) → Judged
placed word f item of subs window = record {
  fit = (is_data_word word && are_data_words of) && (suits item (length subs) (is_some window) f && (are_fit subs && if_fit window));
  kind = kind_seen window (kind_of f);
  make = makes.Item;
  bare = is_bare (length subs) (is_some window);
}

module _ (program made : Program) (items : List WholeItem) (has : HasAdded program items made) (new : AreNew program items) where
  abbrev old : Names
  old = known_by program

  abbrev now : Names
  now = known_by made

  abbrev IsExpr : Expr → Type 0
  IsExpr x = (judged_expr old program x).fit ≡ true → judged_expr now made x ≡ judged_expr old program x

  abbrev IsOperand : Operand → Type 0
  IsOperand x = (judged_operand old program x).fit ≡ true → judged_operand now made x ≡ judged_operand old program x

  abbrev IsPlace : Place → Type 0
  IsPlace x = (judged_place old program x).fit ≡ true → judged_place now made x ≡ judged_place old program x

  abbrev IsSub : Sub → Type 0
  IsSub x = (judged_sub old program x).fit ≡ true → judged_sub now made x ≡ judged_sub old program x

  abbrev IsWindow : Window → Type 0
  IsWindow x = (judged_window old program x).fit ≡ true → judged_window now made x ≡ judged_window old program x

  abbrev SuchExpr : Type 0
  SuchExpr = (x : Expr) × IsExpr x

  abbrev SuchOperand : Type 0
  SuchOperand = (x : Operand) × IsOperand x

  abbrev SuchPlace : Type 0
  SuchPlace = (x : Place) × IsPlace x

  abbrev SuchSub : Type 0
  SuchSub = (x : Sub) × IsSub x

  abbrev SuchWindow : Type 0
  SuchWindow = (x : Window) × IsWindow x

  -- ---- by what each is made of

  module _ (names : Names) (of : Program) where
    abbrev expr-of : Expr-F Expr Operand Place Sub Window → Judged
    expr-of y = judging.expr_step (map-Expr Expr Operand Place Sub Window Judged Judged Judged Judged Judged (judged_expr names of) (judged_operand names of) (judged_place names of) (judged_sub names of) (judged_window names of) y)

    abbrev operand-of : Operand-F Expr Operand Place Sub Window → Judged
    operand-of y = judging.operand_step (map-Operand Expr Operand Place Sub Window Judged Judged Judged Judged Judged (judged_expr names of) (judged_operand names of) (judged_place names of) (judged_sub names of) (judged_window names of) y)

    abbrev place-of : Place-F Expr Operand Place Sub Window → Judged
    place-of y = judging.place_step names of (map-Place Expr Operand Place Sub Window Judged Judged Judged Judged Judged (judged_expr names of) (judged_operand names of) (judged_place names of) (judged_sub names of) (judged_window names of) y)

    abbrev sub-of : Sub-F Expr Operand Place Sub Window → Judged
    sub-of y = judging.sub_step (map-Sub Expr Operand Place Sub Window Judged Judged Judged Judged Judged (judged_expr names of) (judged_operand names of) (judged_place names of) (judged_sub names of) (judged_window names of) y)

    abbrev window-of : Window-F Expr Operand Place Sub Window → Judged
    window-of y = judging.window_step (map-Window Expr Operand Place Sub Window Judged Judged Judged Judged Judged (judged_expr names of) (judged_operand names of) (judged_place names of) (judged_sub names of) (judged_window names of) y)

    expr-is : (y : Expr-F Expr Operand Place Sub Window) → judged_expr names of (roll-Expr y) ≡ expr-of y
    expr-is y = fold-roll-Expr Judged Judged Judged Judged Judged judging.expr_step judging.operand_step (judging.place_step names of) judging.sub_step judging.window_step y

    operand-is : (y : Operand-F Expr Operand Place Sub Window) → judged_operand names of (roll-Operand y) ≡ operand-of y
    operand-is y = fold-roll-Operand Judged Judged Judged Judged Judged judging.expr_step judging.operand_step (judging.place_step names of) judging.sub_step judging.window_step y

    place-is : (y : Place-F Expr Operand Place Sub Window) → judged_place names of (roll-Place y) ≡ place-of y
    place-is y = fold-roll-Place Judged Judged Judged Judged Judged judging.expr_step judging.operand_step (judging.place_step names of) judging.sub_step judging.window_step y

    sub-is : (y : Sub-F Expr Operand Place Sub Window) → judged_sub names of (roll-Sub y) ≡ sub-of y
    sub-is y = fold-roll-Sub Judged Judged Judged Judged Judged judging.expr_step judging.operand_step (judging.place_step names of) judging.sub_step judging.window_step y

    window-is : (y : Window-F Expr Operand Place Sub Window) → judged_window names of (roll-Window y) ≡ window-of y
    window-is y = fold-roll-Window Judged Judged Judged Judged Judged judging.expr_step judging.operand_step (judging.place_step names of) judging.sub_step judging.window_step y

  expr-by : (y : Expr-F Expr Operand Place Sub Window) → ((expr-of old program y).fit ≡ true → expr-of now made y ≡ expr-of old program y) → IsExpr (roll-Expr y)
  expr-by y h e = expr-is now made y ∙ h (ap (λ j. j.fit) (sym (expr-is old program y)) ∙ e) ∙ sym (expr-is old program y)

  operand-by : (y : Operand-F Expr Operand Place Sub Window) → ((operand-of old program y).fit ≡ true → operand-of now made y ≡ operand-of old program y) → IsOperand (roll-Operand y)
  operand-by y h e = operand-is now made y ∙ h (ap (λ j. j.fit) (sym (operand-is old program y)) ∙ e) ∙ sym (operand-is old program y)

  place-by : (y : Place-F Expr Operand Place Sub Window) → ((place-of old program y).fit ≡ true → place-of now made y ≡ place-of old program y) → IsPlace (roll-Place y)
  place-by y h e = place-is now made y ∙ h (ap (λ j. j.fit) (sym (place-is old program y)) ∙ e) ∙ sym (place-is old program y)

  sub-by : (y : Sub-F Expr Operand Place Sub Window) → ((sub-of old program y).fit ≡ true → sub-of now made y ≡ sub-of old program y) → IsSub (roll-Sub y)
  sub-by y h e = sub-is now made y ∙ h (ap (λ j. j.fit) (sym (sub-is old program y)) ∙ e) ∙ sym (sub-is old program y)

  window-by : (y : Window-F Expr Operand Place Sub Window) → ((window-of old program y).fit ≡ true → window-of now made y ≡ window-of old program y) → IsWindow (roll-Window y)
  window-by y h e = window-is now made y ∙ h (ap (λ j. j.fit) (sym (window-is old program y)) ∙ e) ∙ sym (window-is old program y)

  -- ---- places

  -- the item's name, and what it stands for
  abbrev Stays : (item : ℕ) (of : List (List ℕ)) → Type 0
  Stays item of = (item_name made item ≡ item_name program item) × (reference now made item of ≡ reference old program item of)

  name-found : (item : ℕ) (of : List (List ℕ)) (subs : ℕ) (windowed : Bool) → suits item subs windowed (reference old program item of) ≡ true → Stays item of
  name-found item of subs windowed h =
      let f = suits-found item subs windowed (reference old program item of) h in
      let here = own-word program items (item_name program item) of item f.0 f.1 new f.2 in
      let same = name-stays program made items item has here.1 in
      (same, ap (λ word. look now word of) same ∙ look-stays program made items (item_name program item) of has here.0)

  subs-same : (list : List SuchSub) → are_fit (map (judged_sub old program) (map (λ e. e.0) list)) ≡ true → map (judged_sub now made) (map (λ e. e.0) list) ≡ map (judged_sub old program) (map (λ e. e.0) list)
  subs-same [] h = refl
  subs-same (sub ∷ list) h =
      let parts = and_parts (judged_sub old program sub.0).fit (are_fit (map (judged_sub old program) (map (λ e. e.0) list))) h in
      ap (λ j. j ∷ map (judged_sub now made) (map (λ e. e.0) list)) (sub.1 parts.0)
      ∙ ap (λ js. judged_sub old program sub.0 ∷ js) (subs-same list parts.1)

  place-same : (item : ℕ) (of : List (List ℕ)) (subs : List SuchSub) (window last : Option Judged) → (if_fit window ≡ true → last ≡ window) →
      (placed (item_name program item) (reference old program item of) item of (map (judged_sub old program) (map (λ e. e.0) subs)) window).fit ≡ true →
      placed (item_name made item) (reference now made item of) item of (map (judged_sub now made) (map (λ e. e.0) subs)) last
      ≡ placed (item_name program item) (reference old program item of) item of (map (judged_sub old program) (map (λ e. e.0) subs)) window
  place-same item of subs window last w h =
      let parts = map (judged_sub old program) (map (λ e. e.0) subs) in
      let newer = map (judged_sub now made) (map (λ e. e.0) subs) in
      let ref = reference old program item of in
      let all = (and_parts (is_data_word (item_name program item) && are_data_words of) (suits item (length parts) (is_some window) ref && (are_fit parts && if_fit window)) h).1 in
      let suited = and_parts (suits item (length parts) (is_some window) ref) (are_fit parts && if_fit window) all in
      let fit = and_parts (are_fit parts) (if_fit window) suited.1 in
      let stays = name-found item of (length parts) (is_some window) suited.0 in
      ap (λ word. placed word (reference now made item of) item of newer last) stays.0
      ∙ ap (λ f. placed (item_name program item) f item of newer last) stays.1
      ∙ ap (λ js. placed (item_name program item) ref item of js last) (subs-same subs fit.0)
      ∙ ap (λ o. placed (item_name program item) ref item of parts o) (w fit.1)

  -- ---- layer by layer

  expr-layer : (y : Expr-F SuchExpr SuchOperand SuchPlace SuchSub SuchWindow) → IsExpr (roll-Expr (map-Expr SuchExpr SuchOperand SuchPlace SuchSub SuchWindow Expr Operand Place Sub Window (λ e. e.0) (λ e. e.0) (λ e. e.0) (λ e. e.0) (λ e. e.0) y))
  expr-layer (Expr-F.Leaf operand) = expr-by (Expr-F.Leaf operand.0) operand.1
  expr-layer (Expr-F.Minus inner) =
      expr-by (Expr-F.Minus inner.0)
      (λ e. let h = and_parts (judged_expr old program inner.0).fit (is_number (judged_expr old program inner.0).kind) e in
      ap (λ j. judging.expr_step (Expr-F.Minus j)) (inner.1 h.0))
  expr-layer (Expr-F.Both op left right) =
      expr-by (Expr-F.Both op left.0 right.0)
      (λ e. let l = judged_expr old program left.0 in
      let r = judged_expr old program right.0 in
      let h = and_parts (l.fit && is_number l.kind) (r.fit && is_number r.kind) e in
      ap (λ j. judging.expr_step (Expr-F.Both op j (judged_expr now made right.0))) (left.1 (and_parts l.fit (is_number l.kind) h.0).0)
      ∙ ap (λ j. judging.expr_step (Expr-F.Both op l j)) (right.1 (and_parts r.fit (is_number r.kind) h.1).0))

  operand-layer : (y : Operand-F SuchExpr SuchOperand SuchPlace SuchSub SuchWindow) → IsOperand (roll-Operand (map-Operand SuchExpr SuchOperand SuchPlace SuchSub SuchWindow Expr Operand Place Sub Window (λ e. e.0) (λ e. e.0) (λ e. e.0) (λ e. e.0) (λ e. e.0) y))
  operand-layer (Operand-F.Place place) = operand-by (Operand-F.Place place.0) place.1
  operand-layer (Operand-F.Number number) = operand-by (Operand-F.Number number) (λ e. refl)
  operand-layer (Operand-F.Text text) = operand-by (Operand-F.Text text) (λ e. refl)
  operand-layer (Operand-F.Figure figure) = operand-by (Operand-F.Figure figure) (λ e. refl)

  place-layer : (item : ℕ) (of : List (List ℕ)) (subs : List SuchSub) (window : Option SuchWindow) →
      IsPlace (roll-Place (map-Place SuchExpr SuchOperand SuchPlace SuchSub SuchWindow Expr Operand Place Sub Window (λ e. e.0) (λ e. e.0) (λ e. e.0) (λ e. e.0) (λ e. e.0) (record { item = item; of = of; subs = subs; window = window })))
  place-layer item of subs None =
      place-by (record { item = item; of = of; subs = map (λ e. e.0) subs; window = None })
      (λ e. place-same item of subs None None (λ w. refl) e)
  place-layer item of subs (Some window) =
      place-by (record { item = item; of = of; subs = map (λ e. e.0) subs; window = Some window.0 })
      (λ e. place-same item of subs (Some (judged_window old program window.0)) (Some (judged_window now made window.0)) (λ w. ap (λ (j : Judged). Some j) (window.1 w)) e)

  sub-layer : (base : Option SuchPlace) (plus : Number) → IsSub (roll-Sub (map-Sub SuchExpr SuchOperand SuchPlace SuchSub SuchWindow Expr Operand Place Sub Window (λ e. e.0) (λ e. e.0) (λ e. e.0) (λ e. e.0) (λ e. e.0) (record { base = base; plus = plus })))
  sub-layer None plus = sub-by (record { base = None; plus = plus }) (λ e. refl)
  sub-layer (Some base) plus =
      sub-by (record { base = Some base.0; plus = plus })
      (λ e. let j = judged_place old program base.0 in
      let h = (and_parts (plus.scale == 0) (j.fit && (j.bare && is_counting j.kind)) e).1 in
      ap (λ k. judging.sub_step (record { base = Some k; plus = plus })) (base.1 (and_parts j.fit (j.bare && is_counting j.kind) h).0))

  window-layer : (from : SuchExpr) (size : Option SuchExpr) → IsWindow (roll-Window (map-Window SuchExpr SuchOperand SuchPlace SuchSub SuchWindow Expr Operand Place Sub Window (λ e. e.0) (λ e. e.0) (λ e. e.0) (λ e. e.0) (λ e. e.0) (record { from = from; «length» = size })))
  window-layer from None =
      window-by (record { from = from.0; «length» = None })
      (λ e. let j = judged_expr old program from.0 in
      let h = (and_parts (j.fit && is_counting j.kind) true e).0 in
      ap (λ k. judging.window_step (record { from = k; «length» = None })) (from.1 (and_parts j.fit (is_counting j.kind) h).0))
  window-layer from (Some size) =
      window-by (record { from = from.0; «length» = Some size.0 })
      (λ e. let j = judged_expr old program from.0 in
      let s = judged_expr old program size.0 in
      let h = and_parts (j.fit && is_counting j.kind) (s.fit && is_counting s.kind) e in
      ap (λ k. judging.window_step (record { from = k; «length» = Some (judged_expr now made size.0) })) (from.1 (and_parts j.fit (is_counting j.kind) h.0).0)
      ∙ ap (λ k. judging.window_step (record { from = j; «length» = Some k })) (size.1 (and_parts s.fit (is_counting s.kind) h.1).0))

  expr-alike : (x : Expr) → IsExpr x
  expr-alike x =
      ind-Expr IsExpr IsOperand IsPlace IsSub IsWindow
      (λ x y is. subst (λ z. IsExpr (roll-Expr z)) is (expr-layer y))
      (λ x y is. subst (λ z. IsOperand (roll-Operand z)) is (operand-layer y))
      (λ x y is. subst (λ z. IsPlace (roll-Place z)) is (place-layer y.item y.of y.subs y.window))
      (λ x y is. subst (λ z. IsSub (roll-Sub z)) is (sub-layer y.base y.plus))
      (λ x y is. subst (λ z. IsWindow (roll-Window z)) is (window-layer y.from y.«length»)) x

  operand-alike : (x : Operand) → IsOperand x
  operand-alike x =
      ind-Operand IsExpr IsOperand IsPlace IsSub IsWindow
      (λ x y is. subst (λ z. IsExpr (roll-Expr z)) is (expr-layer y))
      (λ x y is. subst (λ z. IsOperand (roll-Operand z)) is (operand-layer y))
      (λ x y is. subst (λ z. IsPlace (roll-Place z)) is (place-layer y.item y.of y.subs y.window))
      (λ x y is. subst (λ z. IsSub (roll-Sub z)) is (sub-layer y.base y.plus))
      (λ x y is. subst (λ z. IsWindow (roll-Window z)) is (window-layer y.from y.«length»)) x

  place-alike : (x : Place) → IsPlace x
  place-alike x =
      ind-Place IsExpr IsOperand IsPlace IsSub IsWindow
      (λ x y is. subst (λ z. IsExpr (roll-Expr z)) is (expr-layer y))
      (λ x y is. subst (λ z. IsOperand (roll-Operand z)) is (operand-layer y))
      (λ x y is. subst (λ z. IsPlace (roll-Place z)) is (place-layer y.item y.of y.subs y.window))
      (λ x y is. subst (λ z. IsSub (roll-Sub z)) is (sub-layer y.base y.plus))
      (λ x y is. subst (λ z. IsWindow (roll-Window z)) is (window-layer y.from y.«length»)) x

  -- ---- conditions

  abbrev IsCond : Cond → Type 0
  IsCond x = cond_fit old program x ≡ true → cond_fit now made x ≡ true

  abbrev SuchCond : Type 0
  SuchCond = (x : Cond) × IsCond x

  cond-by : (y : Cond-F Cond) →
      (conditions.cond_step old program (map-Cond Cond Bool (cond_fit old program) y) ≡ true →
      conditions.cond_step now made (map-Cond Cond Bool (cond_fit now made) y) ≡ true) →
      IsCond (roll-Cond y)
  cond-by y h e =
      fold-roll-Cond Bool (conditions.cond_step now made) y
      ∙ h (sym (fold-roll-Cond Bool (conditions.cond_step old program) y) ∙ e)

  cond-layer : (y : Cond-F SuchCond) → IsCond (roll-Cond (map-Cond SuchCond Cond (λ e. e.0) y))
  cond-layer (Cond-F.Relation left rel right) =
      cond-by (Cond-F.Relation left rel right)
      (λ e. let l = judged_expr old program left in
      let r = judged_expr old program right in
      let h = and_parts (is_value l) (is_value r) (and_parts (is_value l && is_value r) (are_comparable l r) e).0 in
      ap (λ j. (is_value j && is_value (judged_expr now made right)) && are_comparable j (judged_expr now made right)) (expr-alike left (and_parts l.fit (not (is_condition l.kind)) h.0).0)
      ∙ ap (λ j. (is_value l && is_value j) && are_comparable l j) (expr-alike right (and_parts r.fit (not (is_condition r.kind)) h.1).0)
      ∙ e)
  cond-layer (Cond-F.Class place class not_) =
      cond-by (Cond-F.Class place class not_)
      (λ e. let j = judged_place old program place in
      ap is_value (place-alike place (and_parts j.fit (not (is_condition j.kind)) e).0) ∙ e)
  cond-layer (Cond-F.SignIs expr sign not_) =
      cond-by (Cond-F.SignIs expr sign not_)
      (λ e. let j = judged_expr old program expr in
      ap (λ (k : Judged). k.fit && is_number k.kind) (expr-alike expr (and_parts j.fit (is_number j.kind) e).0) ∙ e)
  cond-layer (Cond-F.Named place) =
      cond-by (Cond-F.Named place)
      (λ e. let j = judged_place old program place in
      ap (λ (k : Judged). k.fit && is_condition k.kind) (place-alike place (and_parts j.fit (is_condition j.kind) e).0) ∙ e)
  cond-layer (Cond-F.Not inner) = cond-by (Cond-F.Not inner.0) inner.1
  cond-layer (Cond-F.And left right) =
      cond-by (Cond-F.And left.0 right.0)
      (λ e. let h = and_parts (cond_fit old program left.0) (cond_fit old program right.0) e in
      and_from (cond_fit now made left.0) (cond_fit now made right.0) (left.1 h.0) (right.1 h.1))
  cond-layer (Cond-F.Or left right) =
      cond-by (Cond-F.Or left.0 right.0)
      (λ e. let h = and_parts (cond_fit old program left.0) (cond_fit old program right.0) e in
      and_from (cond_fit now made left.0) (cond_fit now made right.0) (left.1 h.0) (right.1 h.1))

  cond-alike : (x : Cond) → IsCond x
  cond-alike x = ind-Cond IsCond (λ x y is. subst (λ z. IsCond (roll-Cond z)) is (cond-layer y)) x

  pub judged-alike : AreJudgedAlike program made
  judged-alike = record { place = place-alike; operand = operand-alike; expr = expr-alike; cond = cond-alike }
