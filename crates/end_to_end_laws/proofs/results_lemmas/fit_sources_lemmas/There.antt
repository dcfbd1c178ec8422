-- What can be printed so that it is read back is of a kind that is known.
use Rattle.std.proofs.Common.{◌≡◌, ℕ, Bool, true, false, ◌&&◌, List, map, length, Option, Some, None, refl, ap, sym, ◌∙◌}
use Rattle.std.specs.Option.{is_some}
use Rattle.std.proofs.lemmas.Bool.{and_parts, both_ways}
use Rattle.cob_tree.specs.declared.place.Expr.{Expr}
use Rattle.cob_tree.specs.declared.place.Figure.{Figure}
use Rattle.cob_tree.specs.declared.place.Figure.TheVariants as figures
use Rattle.cob_tree.specs.declared.place.Operand.{Operand}
use Rattle.cob_tree.specs.declared.place.Place.{Place}
use Rattle.cob_tree.specs.declared.place.Sub.{Sub}
use Rattle.cob_tree.specs.declared.place.Window.{Window}
use Rattle.cob_tree.specs.declared.program.Program.{Program}
use Rattle.unparser.specs.Place.{item_name}
use Rattle.parser_combinators.specs.words.Word.{is_data_word}
use Rattle.symbol_tables.specs.declared.data_names.name.Referent.{Referent}
use Rattle.symbol_tables.specs.declared.data_names.name.Referent.TheVariants as founds
use Rattle.symbol_tables.specs.declared.data_names.name.ItemKind.{ItemKind}
use Rattle.symbol_tables.specs.declared.data_names.name.ItemKind.TheVariants as items
use Rattle.symbol_tables.specs.data_names.Names.{Names}
use Rattle.cobol_grammar.specs.declared.expr_forms.side.ValueKind.{ValueKind}
use Rattle.cobol_grammar.specs.declared.expr_forms.side.ValueKind.TheVariants as values
use Rattle.cobol_grammar.specs.expr_forms.Fault.{item_kind, kind_of}
use Rattle.cobol_grammar.specs.expr_forms.Side.{windowed, figure_kind}
use Rattle.round_trip.specs.spelling.expr_spelling.Printable.{Judged, are_data_words, suits, are_fit, if_fit, kind_seen, reference, judged_expr, judged_operand, judged_place, judged_sub, IsPrintableExpr, IsPrintableOperand, IsPrintablePlace}
use Rattle.round_trip.specs.spelling.expr_spelling.Spelled.{made_place}
use Rattle.round_trip.proofs.spelling_lemmas.expr_spelling_lemmas.Layers.{expr-cases, operand-cases, place-cases, judged-Leaf, judged-Minus, judged-Both, judged-Place, judged-Number, judged-Text, judged-Figure, judged_windows, judged-place}
use Rattle.round_trip.proofs.procedures_lemmas.readable_exprs_lemmas.Words.{is_there}

item-there : (kind : ItemKind) → is_there (item_kind kind) ≡ true
item-there (items.Number whole) = refl
item-there items.Edited = refl
item-there items.Text = refl
item-there items.Group = refl
item-there items.Condition = refl

figure-there : (figure : Figure) → is_there (figure_kind figure) ≡ true
figure-there figures.Zero = refl
figure-there figures.Space = refl
figure-there figures.HighValue = refl
figure-there figures.LowValue = refl
figure-there figures.Quote = refl

window-there : (kind : ValueKind) → is_there kind ≡ true → is_there (windowed kind) ≡ true
window-there values.Unknown t = t
window-there values.Condition t = refl
window-there kind t = refl

seen-there : (window : Option Judged) (kind : ValueKind) → is_there kind ≡ true → is_there (kind_seen window kind) ≡ true
seen-there None kind t = t
seen-there (Some window) kind t = window-there kind t

found-there : (item subs : ℕ) (windowed : Bool) (found : Referent) → suits item subs windowed found ≡ true → is_there (kind_of found) ≡ true
found-there item subs windowed (founds.Item number kind dims) s = item-there kind
found-there item subs windowed found s = absurd (both_ways false refl s)

module _ (names : Names) (program : Program) where
  made-there : (item : ℕ) (of : List (List ℕ)) (subs : List Sub) (window : Option Window) → IsPrintablePlace names program (made_place item of subs window) →
      is_there (judged_place names program (made_place item of subs window)).kind ≡ true
  made-there item of subs window fit =
      let e = judged-place names program item of subs window in
      let inner = map (judged_sub names program) subs in
      let seen = judged_windows names program window in
      let words = is_data_word (item_name program item) && are_data_words of in
      let suited = suits item (length inner) (is_some seen) (reference names program item of) in
      let p = and_parts words (suited && (are_fit inner && if_fit seen)) (sym (ap (λ j. j.fit) e) ∙ fit) in
      let q = and_parts suited (are_fit inner && if_fit seen) p.1 in
      ap (λ j. is_there j.kind) e ∙ seen-there seen (kind_of (reference names program item of)) (found-there item (length inner) (is_some seen) (reference names program item of) q.0)

  pub place-there : (place : Place) → IsPrintablePlace names program place → is_there (judged_place names program place).kind ≡ true
  place-there place = place-cases (λ place. IsPrintablePlace names program place → is_there (judged_place names program place).kind ≡ true) made-there place

  abbrev OperandThere : Operand → Type 0
  OperandThere operand = IsPrintableOperand names program operand → is_there (judged_operand names program operand).kind ≡ true

  pub operand-there : (operand : Operand) → OperandThere operand
  operand-there operand =
      operand-cases OperandThere
      (λ place fit. let e = judged-Place names program place in ap (λ j. is_there j.kind) e ∙ place-there place (sym (ap (λ j. j.fit) e) ∙ fit))
      (λ number fit. ap (λ j. is_there j.kind) (judged-Number names program number)) (λ text fit. ap (λ j. is_there j.kind) (judged-Text names program text))
      (λ figure fit. ap (λ j. is_there j.kind) (judged-Figure names program figure) ∙ figure-there figure) operand

  abbrev ExprThere : Expr → Type 0
  ExprThere expr = IsPrintableExpr names program expr → is_there (judged_expr names program expr).kind ≡ true

  pub expr-there : (expr : Expr) → ExprThere expr
  expr-there expr =
      expr-cases ExprThere
      (λ operand fit. let e = judged-Leaf names program operand in ap (λ j. is_there j.kind) e ∙ operand-there operand (sym (ap (λ j. j.fit) e) ∙ fit))
      (λ inner fit. ap (λ j. is_there j.kind) (judged-Minus names program inner)) (λ op left right fit. ap (λ j. is_there j.kind) (judged-Both names program op left right)) expr
