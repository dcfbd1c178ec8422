-- What is told of a side outside of any expression is what printing asks.
use Rattle.std.proofs.Common.{◌≡◌, ℕ, ◌≤◌, true, false, List, Option, Some, None, refl, ap, sym, ◌∙◌, subst, arith}
use Rattle.std.proofs.lemmas.Bool.{both_ways}
use Rattle.cob_tree.specs.declared.place.Expr.{Expr}
use Rattle.cob_tree.specs.declared.place.Operand.{Operand}
use Rattle.cob_tree.specs.declared.place.Operand.TheVariants as operands
use Rattle.cob_tree.specs.declared.place.Place.{Place}
use Rattle.cob_tree.specs.declared.place.Sub.{Sub}
use Rattle.cob_tree.specs.declared.place.Window.{Window}
use Rattle.cob_tree.specs.declared.program.Program.{Program}
use Rattle.parser_combinators.specs.declared.note.Position.{Position}
use Rattle.symbol_tables.specs.data_names.Names.{Names}
use Rattle.cobol_grammar.specs.declared.expr_forms.side.Side.{Side}
use Rattle.cobol_grammar.specs.declared.expr_forms.side.ValueKind.{ValueKind}
use Rattle.cobol_grammar.specs.declared.expr_forms.side.ValueKind.TheVariants as values
use Rattle.cobol_grammar.specs.expr_forms.Fault.{number_fault, whole_fault, kind_of}
use Rattle.cobol_grammar.specs.expr_forms.Side.{number_of, digits_side, windowed}
use Rattle.cobol_grammar.specs.Use.{operand_of, place_of}
use Rattle.round_trip.specs.spelling.expr_spelling.Printable.{reference, is_number, is_counting, judged_place, IsPrintableOperand, IsPrintablePlace}
use Rattle.round_trip.specs.spelling.expr_spelling.Spelled.{made_place, what_of, IsOperandSide, HasRoom, PlaceHasRoom, OperandHasRoom}
use Rattle.round_trip.proofs.spelling_lemmas.expr_spelling_lemmas.Layers.{operand-cases, place-cases, judged-Place, judged-place}
use Rattle.round_trip.specs.procedures.readable_exprs.Readable.{IsReadablePlace, IsReadableOperand, IsReadableExpr}
use Rattle.round_trip.proofs.procedures_lemmas.readable_exprs_lemmas.Words.{number-literal}
use Rattle.round_trip.proofs.procedures_lemmas.readable_exprs_lemmas.Known.{IsPlace, number-of, whole-of, literal-is, literal-fit}
use Rattle.round_trip.proofs.procedures_lemmas.readable_exprs_lemmas.Told.{Told, PlaceTold, OperandTold, none-room, place-room, operand-room, literal-room}

-- room behind so many terms is room behind fewer

fewer-room : (before count : ℕ) (from : Expr) (size : Option Expr) → before ≤ count → HasRoom true 501 count from size → HasRoom true 501 before from size
fewer-room before count from size le room =
    let some = room.some in
    record { first = room.first; second = room.second; some = omega (arith, le, some); all = room.all }

fewer-place : (before count : ℕ) (place : Place) → before ≤ count → PlaceHasRoom true 501 count place → PlaceHasRoom true 501 before place
fewer-place before count place le room item of subs window e from size is = fewer-room before count from size le (room item of subs window e from size is)

fewer-operand : (before count : ℕ) (operand : Operand) → before ≤ count → OperandHasRoom true 501 count operand → OperandHasRoom true 501 before operand
fewer-operand before count operand le room place e = fewer-place before count place le (room place e)

what-operand : (operand : Operand) → operand_of (what_of operand) ≡ operand
what-operand operand = operand-cases (λ operand. operand_of (what_of operand) ≡ operand) (λ place. refl) (λ number. refl) (λ text. refl) (λ figure. refl) operand

counting-number : (kind : ValueKind) → is_counting kind ≡ true → is_number kind ≡ true
counting-number (values.Number whole) e = refl
counting-number kind e = absurd (both_ways false refl e)

-- what a window shows is no number
window-number : (kind : ValueKind) → is_number (windowed kind) ≡ true → ⊥
window-number values.Condition e = both_ways false refl e
window-number values.Unknown e = both_ways false refl e
window-number kind e = both_ways false refl e

module _ (names : Names) (program : Program) where
  made-room : (count item : ℕ) (of : List (List ℕ)) (subs : List Sub) (window : Option Window) → is_number (judged_place names program (made_place item of subs window)).kind ≡ true →
      PlaceHasRoom true 501 count (made_place item of subs window)
  made-room count item of subs None n = place-room true count item of subs None (none-room true count)
  made-room count item of subs (Some window) n =
      absurd (window-number (kind_of (reference names program item of)) (subst (λ j. is_number j.kind ≡ true) (judged-place names program item of subs (Some window)) n))

  -- so a number has room behind any terms
  number-room : (count : ℕ) (place : Place) → is_number (judged_place names program place).kind ≡ true → PlaceHasRoom true 501 count place
  number-room count place =
      place-cases (λ place. is_number (judged_place names program place).kind ≡ true → PlaceHasRoom true 501 count place) (λ item of subs window n. made-room count item of subs window n) place

  operand-by : (most : ℕ) (operand : Operand) (side : Side) → IsOperandSide names program operand side → IsPrintableOperand names program operand → OperandHasRoom true 501 most operand →
      IsReadableOperand names program most side
  operand-by most operand side is fit room =
      let same : operand ≡ operand_of side.what = sym (ap (λ w. operand_of w) is.what ∙ what-operand operand) in
      record {
        fit = subst (λ o. IsPrintableOperand names program o) same fit;
        room = λ before le. subst (λ o. OperandHasRoom true 501 before o) same (fewer-operand before most operand le room);
        kept = subst (λ o. IsOperandSide names program o side) same is;
      }

  pub readable-operand : (side : Side) (after : ℕ) → OperandTold names program true 0 side after → IsReadableOperand names program 1 side
  readable-operand side after h = operand-by 1 h.operand side h.is h.fit h.room

  pub readable-digits : (digits : List ℕ) (position : Position) → IsReadableOperand names program 1 (digits_side digits position)
  readable-digits digits position =
      let number = number_of false digits in
      let is = number-literal names program number in
      operand-by 1 (operands.Number number) (digits_side digits position) (literal-is names program (operands.Number number) position is) (literal-fit names program (operands.Number number) is)
      (literal-room names program true 1 (operands.Number number) is)

  -- a reference that is a number, as an operand
  number-operand : (most : ℕ) (place : Place) (side : Side) → IsPlace names program place side → is_number side.kind ≡ true → IsReadableOperand names program most side
  number-operand most place side h n =
      let kind = h.is.known.kind ∙ ap (λ j. j.kind) (judged-Place names program place) in
      operand-by most (operands.Place place) side h.is (ap (λ j. j.fit) (judged-Place names program place) ∙ h.fit)
      (operand-room true most place (number-room most place (subst (λ k. is_number k ≡ true) kind n)))

  number-free : (most : ℕ) (place : Place) (side : Side) → IsPlace names program place side → number_fault side ≡ None → IsReadableOperand names program most side
  unfolding number_fault
  number-free most place side h n = number-operand most place side h (number-of side.leaf side.kind n h.there)

  whole-free : (most : ℕ) (place : Place) (side : Side) → IsPlace names program place side → whole_fault side ≡ None → IsReadableOperand names program most side
  whole-free most place side h n = number-operand most place side h (counting-number side.kind (whole-of side.position side.kind n h.there))

  pub readable-place : (side : Side) (after : ℕ) → PlaceTold names program true 0 side after → IsReadablePlace names program side
  readable-place side after h =
      let same : h.place ≡ place_of side.what = sym (ap (λ w. place_of w) h.is.is.what) in
      record {
        fit = subst (λ p. IsPrintablePlace names program p) same h.is.fit;
        room = subst (λ p. PlaceHasRoom true 501 0 p) same (h.room (omega arith));
        kept = subst (λ p. IsOperandSide names program (operands.Place p) side) same h.is.is;
        same = ap (λ w. operand_of w) h.is.is.what ∙ ap (λ p. operands.Place p) same;
        operand = operand-by 0 (operands.Place h.place) side h.is.is (ap (λ j. j.fit) (judged-Place names program h.place) ∙ h.is.fit)
            (operand-room true 0 h.place (h.room (omega arith)));
        number = λ most n. number-free most h.place side h.is n;
        whole = λ most n. whole-free most h.place side h.is n;
      }

  pub readable-expr : (side : Side) (after : ℕ) → Told names program 0 side after → IsReadableExpr names program side
  readable-expr side after h =
      let c = h.counted in
      let few = h.few (omega arith) in
      record { fit = h.known.fit; few = omega (arith, c, few); kept = h.known.is }
