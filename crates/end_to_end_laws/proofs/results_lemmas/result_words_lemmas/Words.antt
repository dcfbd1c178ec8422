-- Words on an item for a whole number pass the tests of its program.
use Rattle.std.proofs.Common.{arith, ◌≡◌, ℕ, zero, suc, ◌+◌, ◌≤◌, leb-true, Bool, true, false, ◌&&◌, nat_le, List, [], ◌∷◌, map, Option, Some, None, refl, ap, sym, ◌∙◌}
use Rattle.std.specs.Prelude.{◌==◌}
use Rattle.std.proofs.lemmas.Bool.{and_parts, le-leb}
use Rattle.cob_tree.specs.declared.calc.Calc.TheVariants as calcs
use Rattle.cob_tree.specs.declared.choice.Subject.{Subject}
use Rattle.cob_tree.specs.declared.choice.Subject.TheVariants as subjects
use Rattle.cob_tree.specs.declared.cond.Cond.{Cond, fold-roll-Cond}
use Rattle.cob_tree.specs.declared.cond.Cond.TheOpen.{Cond-F}
use Rattle.cob_tree.specs.declared.cond.Cond.TheVariants as conds
use Rattle.cob_tree.specs.declared.cond.Rel.{Rel}
use Rattle.cob_tree.specs.declared.cond.Rel.TheVariants as rels
use Rattle.cob_tree.specs.declared.number.Number.{Number}
use Rattle.cob_tree.specs.declared.place.Expr.{Expr, fold-roll-Expr}
use Rattle.cob_tree.specs.declared.place.Expr.TheOpen.{Expr-F, Operand-F}
use Rattle.cob_tree.specs.declared.place.Figure.TheVariants as figures
use Rattle.cob_tree.specs.declared.place.Operand.{Operand, roll-Operand, fold-roll-Operand}
use Rattle.cob_tree.specs.declared.place.Operand.TheVariants as operands
use Rattle.cob_tree.specs.declared.place.Place.{Place, fold-roll-Place, out-roll-Place}
use Rattle.cob_tree.specs.declared.place.Sub.{Sub}
use Rattle.cob_tree.specs.declared.place.Window.{Window}
use Rattle.cob_tree.specs.declared.program.Program.{Program}
use Rattle.cob_tree.specs.declared.stmt.Arms.{Arms, fold-roll-Arms}
use Rattle.cob_tree.specs.declared.stmt.Stmt.{Stmt, map-Stmt, roll-Stmt, fold-roll-Stmt}
use Rattle.cob_tree.specs.declared.stmt.Stmt.TheOpen.{Stmt-F}
use Rattle.cob_tree.specs.declared.stmt.Stmt.TheVariants as stmts
use Rattle.cob_tree.specs.declared.stmt.When.{When}
use Rattle.control_flow_theory.specs.language.All.{all}
use Rattle.control_flow_theory.specs.language.Control.{always, bare, zero_side}
use Rattle.control_flow_theory.specs.language.Language.{Evaluate}
use Rattle.program_facts.specs.well_scoped.Part.{if_any}
use Rattle.program_facts.proofs.well_scoped_lemmas.Made.{both}
use Rattle.program_facts.specs.term_counts.Condition as cond_sizes
use Rattle.program_facts.specs.term_counts.Condition.{cond_terms}
use Rattle.program_facts.specs.term_counts.Expression as sizes
use Rattle.program_facts.specs.term_counts.Expression.{expr_terms, place_terms}
use Rattle.cob_base.specs.Limit.{max_terms}
use Rattle.cobol_grammar.specs.declared.expr_forms.side.ExprContent.{ExprContent}
use Rattle.cobol_grammar.specs.declared.expr_forms.side.ExprContent.TheVariants as makes
use Rattle.cobol_grammar.specs.declared.expr_forms.side.ValueKind.{ValueKind}
use Rattle.cobol_grammar.specs.declared.expr_forms.side.ValueKind.TheVariants as kinds
use Rattle.cobol_grammar.specs.expr_forms.Fault.{compared_as, kind_of}
use Rattle.cobol_grammar.specs.expr_forms.Side.{windowed}
use Rattle.round_trip.specs.spelling.expr_spelling.Printable as judging
use Rattle.round_trip.specs.spelling.expr_spelling.Printable.{Judged, literal, is_number, is_counting, reference}
use Rattle.round_trip.specs.spelling.expr_spelling.Spelled.{made_place}
use Rattle.round_trip.proofs.spelling_lemmas.expr_spelling_lemmas.Layers.{place-cases, judged-place}
use Rattle.round_trip.proofs.spelling_lemmas.cond_spelling_lemmas.Layers.{fit-Relation, fit-Not, terms-Not}
use Rattle.round_trip.specs.spelling.cond_spelling.Printable as conditions
use Rattle.round_trip.specs.spelling.cond_spelling.Printable.{cond_fit, kinds_suit}
use Rattle.round_trip.specs.fitting_statements.Fits.{Fits}
use Rattle.round_trip.specs.fitting_statements.Statement.{stmt_step, arms_step, when_step, fit_stmt, fit_arms, fit_when}
use Rattle.round_trip.specs.fitting_statements.own_fits.Move.{number_may_move, may_move}
use Rattle.round_trip.specs.fitting_statements.own_fits.Room.{window_has_room, operand_has_room, place_has_room}
use Rattle.round_trip.specs.fitting_statements.own_fits.Own.{has_value, is_fit_as, may_compare, own_names, own_operand, own_place, own_expr, operand_fits, place_fits, expr_fits, cond_fits, compares, own_fits}
use Rattle.round_trip.specs.fitting_statements.fit_control.Fit.{fit_tests, fit_chooser}
use Rattle.cobol_theory.specs.cell_items.Cell.{cell_place, cell_operand, number_operand, operand_expr}
use Rattle.cobol_theory.specs.cell_items.Laws.{cell_relation, target_of, number_tests}
use Rattle.cobol_theory.specs.cell_serving.Choosing.{place_expr}
use Rattle.cobol_theory.specs.cell_serving.Entries.{whole_literal}
use Rattle.cobol_theory.specs.cell_serving.Naming.{move_to, subtract_from, numbers_from}
use Rattle.end_to_end_laws.specs.results.result_words.Words.{whole_item}

-- ---- kinds

number-is : (kind : ValueKind) → is_number kind ≡ true → (whole : Bool) × (kind ≡ kinds.Number whole)
number-is (kinds.Number whole) h = (whole, refl)
number-is kinds.Text h = cc
number-is kinds.Edited h = cc
number-is kinds.Group h = cc
number-is kinds.Figure h = cc
number-is kinds.Condition h = cc
number-is kinds.Unknown h = cc

pub number-value : (kind : ValueKind) → is_number kind ≡ true → has_value kind ≡ true
number-value kind h = ap has_value (number-is kind h).1

pub counting-number : (kind : ValueKind) → is_counting kind ≡ true → is_number kind ≡ true
counting-number (kinds.Number whole) h = refl
counting-number kinds.Text h = cc
counting-number kinds.Edited h = cc
counting-number kinds.Group h = cc
counting-number kinds.Figure h = cc
counting-number kinds.Condition h = cc
counting-number kinds.Unknown h = cc

-- a number may be moved to a number
number-goes : (make : ExprContent) (whole other : Bool) → number_may_move make whole (kinds.Number other) ≡ true
number-goes makes.Item whole other = refl
number-goes makes.Literal whole other = refl
number-goes makes.Joined whole other = refl

pub number-moves : (make : ExprContent) (from to : ValueKind) → is_number from ≡ true → is_number to ≡ true → may_move make from to ≡ true
number-moves make from to f t =
    let one = number-is from f in let other = number-is to t in
    ap (λ k. may_move make k to) one.1 ∙ ap (λ k. number_may_move make one.0 k) other.1 ∙ number-goes make one.0 other.0

-- and compared with one
number-compares : (subject other : Judged) → is_number subject.kind ≡ true → is_number other.kind ≡ true → may_compare subject other ≡ true
number-compares subject other f t =
    let one = number-is subject.kind f in let next = number-is other.kind t in
    ap (λ k. kinds_suit (compared_as k) (compared_as other.kind) subject other) one.1
    ∙ ap (λ k. kinds_suit (kinds.Number one.0) (compared_as k) subject other) next.1

-- what has a window is no number
windowed-counts : (kind : ValueKind) → is_counting (windowed kind) ≡ true → ⊥
windowed-counts (kinds.Number whole) h = cc
windowed-counts kinds.Text h = cc
windowed-counts kinds.Edited h = cc
windowed-counts kinds.Group h = cc
windowed-counts kinds.Figure h = cc
windowed-counts kinds.Condition h = cc
windowed-counts kinds.Unknown h = cc

-- what fits as a value of these kinds fits as one of those
pub fit-as : (is_kind other : ValueKind → Bool) → ((kind : ValueKind) → is_kind kind ≡ true → other kind ≡ true) → (judged : Judged) → is_fit_as is_kind judged ≡ true → is_fit_as other judged ≡ true
fit-as is_kind other h judged f = let parts = and_parts judged.fit (is_kind judged.kind) f in both parts.0 (h judged.kind parts.1)

-- ---- moves, over any tests

module _ (fits : Fits) where
  rolled : (y : Stmt-F Stmt Arms When) → fit_stmt fits (roll-Stmt y) ≡ stmt_step fits (map-Stmt Stmt Arms When Bool Bool (Subject → Bool) (fit_stmt fits) (fit_arms fits) (fit_when fits) y)
  rolled y = fold-roll-Stmt Bool Bool (Subject → Bool) (stmt_step fits) (arms_step fits) (when_step fits) y

  pub move-fits : (from : Operand) (place : Place) → fits.value from ≡ true → fits.receives place ≡ true → fits.moves from place ≡ true → fit_stmt fits (stmts.Move from (place ∷ [])) ≡ true
  move-fits from place f r m =
      ap (fit_stmt fits) (sym (stmts.rolls-Move from (place ∷ [])))
      ∙ rolled (Stmt-F.Move from (place ∷ []))
      ∙ both f (both (both r m) refl)

  bare-fits : fit_arms fits bare ≡ true
  bare-fits = fold-roll-Arms Bool Bool (Subject → Bool) (stmt_step fits) (arms_step fits) (when_step fits) (record { first = None; second = None })

  pub subtract-fits : (item : ℕ) (number : Number) → fits.number (number_operand number) ≡ true → fits.number_place (cell_place item) ≡ true → fit_stmt fits (subtract_from item number) ≡ true
  subtract-fits item number n p =
      ap (fit_stmt fits) (sym (stmts.rolls-Arith (calcs.Subtract (number_operand number ∷ [])) (target_of item ∷ []) bare))
      ∙ rolled (Stmt-F.Arith (calcs.Subtract (number_operand number ∷ [])) (target_of item ∷ []) bare)
      ∙ both (both (both n refl) (both p refl)) bare-fits

  pub nothing-fits : fit_stmt fits stmts.Continue ≡ true
  nothing-fits = ap (fit_stmt fits) (sym stmts.rolls-Continue) ∙ rolled Stmt-F.Continue

  -- EVALUATE beside numbers
  tests-fit : (expr : Expr) (number : Number) → fits.expr_value (operand_expr (number_operand number)) ≡ true → fits.compares expr (operand_expr (number_operand number)) ≡ true →
      fit_tests fits (subjects.Value expr) (number_tests number) ≡ true
  tests-fit expr number v c = both (both (both v c) refl) refl

  numbers-fit : (expr : Expr) (literal : ℕ → Number) →
      ((number : ℕ) → fits.expr_value (operand_expr (number_operand (literal number))) ≡ true) →
      ((number : ℕ) → fits.compares expr (operand_expr (number_operand (literal number))) ≡ true) →
      (first count : ℕ) → all (map (fit_tests fits (subjects.Value expr)) (map number_tests (numbers_from literal first count))) ≡ true
  numbers-fit expr literal v c first zero = refl
  numbers-fit expr literal v c first (suc count) =
      both (tests-fit expr (literal first) (v first) (c first)) (numbers-fit expr literal v c (suc first) count)

  pub evaluate-fits : (expr : Expr) (literal : ℕ → Number) → fits.expr_value expr ≡ true →
      ((number : ℕ) → fits.expr_value (operand_expr (number_operand (literal number))) ≡ true) →
      ((number : ℕ) → fits.compares expr (operand_expr (number_operand (literal number))) ≡ true) →
      (count : ℕ) → nat_le 1 count ≡ true → (has_other : Bool) →
      fit_chooser fits (Evaluate (subjects.Value expr) (map number_tests (numbers_from literal 1 count)) has_other) ≡ true
  evaluate-fits expr literal e v c zero h has_other = cc
  evaluate-fits expr literal e v c (suc count) h has_other = both e (numbers-fit expr literal v c 1 (suc count))

-- ---- literals and items, by the names of a program

module _ (made : Program) where
  judged-leaf : (operand : Operand) → own_expr made (operand_expr operand) ≡ own_operand made operand
  judged-leaf operand =
      fold-roll-Expr Judged Judged Judged Judged Judged judging.expr_step judging.operand_step (judging.place_step (own_names made) made) judging.sub_step judging.window_step (Expr-F.Leaf operand)

  judged-number : (number : Number) → own_operand made (number_operand number) ≡ literal (kinds.Number (number.scale == 0))
  judged-number number =
      fold-roll-Operand Judged Judged Judged Judged Judged judging.expr_step judging.operand_step (judging.place_step (own_names made) made) judging.sub_step judging.window_step (Operand-F.Number number)

  judged-item : (place : Place) → own_operand made (roll-Operand (Operand-F.Place place)) ≡ own_place made place
  judged-item place =
      fold-roll-Operand Judged Judged Judged Judged Judged judging.expr_step judging.operand_step (judging.place_step (own_names made) made) judging.sub_step judging.window_step (Operand-F.Place place)

  -- ---- literals

  abbrev whole : Judged
  whole = literal (kinds.Number true)

  judged-literal : (number : ℕ) → own_operand made (number_operand (whole_literal number)) ≡ whole
  judged-literal number = judged-number (whole_literal number)

  judged-literal-expr : (number : ℕ) → own_expr made (operand_expr (number_operand (whole_literal number))) ≡ whole
  judged-literal-expr number = judged-leaf (number_operand (whole_literal number)) ∙ judged-literal number

  number-room : (number : Number) → operand_has_room (number_operand number) ≡ true
  number-room number = ap operand_has_room (operands.rolls-Number number)

  pub literal-fits : (is_kind : ValueKind → Bool) → is_kind (kinds.Number true) ≡ true → (number : ℕ) → operand_fits made is_kind (number_operand (whole_literal number)) ≡ true
  literal-fits is_kind k number =
      ap (λ j. is_fit_as is_kind j && operand_has_room (number_operand (whole_literal number))) (judged-literal number)
      ∙ both k (number-room (whole_literal number))

  number-terms : (number : Number) → expr_terms (operand_expr (number_operand number)) ≡ 1
  number-terms number =
      fold-roll-Expr ℕ ℕ ℕ ℕ ℕ sizes.expr_step sizes.operand_step sizes.place_step sizes.sub_step sizes.window_step (Expr-F.Leaf (number_operand number))
      ∙ ap (λ n. 1 + n) (fold-roll-Operand ℕ ℕ ℕ ℕ ℕ sizes.expr_step sizes.operand_step sizes.place_step sizes.sub_step sizes.window_step (Operand-F.Number number))

  pub literal-expr-fits : (is_kind : ValueKind → Bool) → is_kind (kinds.Number true) ≡ true → (number : ℕ) → expr_fits made is_kind (operand_expr (number_operand (whole_literal number))) ≡ true
  literal-expr-fits is_kind k number =
      ap (λ j. is_fit_as is_kind j && nat_le (expr_terms (operand_expr (number_operand (whole_literal number)))) max_terms) (judged-literal-expr number)
      ∙ ap (λ n. is_kind (kinds.Number true) && nat_le n max_terms) (number-terms (whole_literal number))
      ∙ both k refl

  -- ---- items without a window

  item-terms : (place : Place) → place_terms place ≡ 0 → expr_terms (place_expr place) ≡ 1
  item-terms place none =
      fold-roll-Expr ℕ ℕ ℕ ℕ ℕ sizes.expr_step sizes.operand_step sizes.place_step sizes.sub_step sizes.window_step (Expr-F.Leaf (roll-Operand (Operand-F.Place place)))
      ∙ ap (λ n. 1 + n) (fold-roll-Operand ℕ ℕ ℕ ℕ ℕ sizes.expr_step sizes.operand_step sizes.place_step sizes.sub_step sizes.window_step (Operand-F.Place place))
      ∙ ap (λ n. 1 + n) none

  plain-terms : (item : ℕ) (of : List (List ℕ)) (subs : List Sub) → place_terms (made_place item of subs None) ≡ 0
  plain-terms item of subs =
      fold-roll-Place ℕ ℕ ℕ ℕ ℕ sizes.expr_step sizes.operand_step sizes.place_step sizes.sub_step sizes.window_step (record { item = item; of = of; subs = subs; window = None })

  pub judged-place-expr : (place : Place) → own_expr made (place_expr place) ≡ own_place made place
  judged-place-expr place = judged-leaf (roll-Operand (Operand-F.Place place)) ∙ judged-item place

  -- a number without decimals has none
  counting-terms : (place : Place) → is_counting (own_place made place).kind ≡ true → place_terms place ≡ 0
  counting-terms place = place-cases (λ p. is_counting (own_place made p).kind ≡ true → place_terms p ≡ 0) by place
    where
      by : (item : ℕ) (of : List (List ℕ)) (subs : List Sub) (window : Option Window) → is_counting (own_place made (made_place item of subs window)).kind ≡ true → place_terms (made_place item of subs window) ≡ 0
      by item of subs None h = plain-terms item of subs
      by item of subs (Some window) h =
          absurd (windowed-counts (kind_of (reference (own_names made) made item of))
          (ap (λ (j : Judged). is_counting j.kind) (sym (judged-place (own_names made) made item of subs (Some window))) ∙ h))

  place-expr-fits : (is_kind : ValueKind → Bool) (place : Place) → is_fit_as is_kind (own_place made place) ≡ true → place_terms place ≡ 0 → expr_fits made is_kind (place_expr place) ≡ true
  place-expr-fits is_kind place f none =
      ap (λ j. is_fit_as is_kind j && nat_le (expr_terms (place_expr place)) max_terms) (judged-place-expr place)
      ∙ ap (λ n. is_fit_as is_kind (own_place made place) && nat_le n max_terms) (item-terms place none)
      ∙ both f refl

  -- ---- a choice by a number item

  module _ (label : ℕ → Bool) (range : ℕ → ℕ → Bool) where
    abbrev fits : Fits
    fits = own_fits made label range

    choice-fits : (place : Place) → (own_place made place).fit ≡ true → is_number (own_place made place).kind ≡ true → place_terms place ≡ 0 →
        (count : ℕ) → nat_le 1 count ≡ true → (has_other : Bool) →
        fit_chooser fits (Evaluate (subjects.Value (place_expr place)) (map number_tests (numbers_from whole_literal 1 count)) has_other) ≡ true
    choice-fits place f n none count some has_other =
        evaluate-fits fits (place_expr place) whole_literal (place-expr-fits has_value place (both f (number-value (own_place made place).kind n)) none)
        (literal-expr-fits has_value refl) compared count some has_other
      where
        compared : (number : ℕ) → compares made (place_expr place) (operand_expr (number_operand (whole_literal number))) ≡ true
        compared number =
            ap (λ j. may_compare j (own_expr made (operand_expr (number_operand (whole_literal number))))) (judged-place-expr place)
            ∙ ap (λ j. may_compare (own_place made place) j) (judged-literal-expr number)
            ∙ number-compares (own_place made place) whole n refl

    pub depending-fits : (place : Place) → place_fits made is_counting place ≡ true → (count : ℕ) → nat_le 1 count ≡ true → (has_other : Bool) →
        fit_chooser fits (Evaluate (subjects.Value (place_expr place)) (map number_tests (numbers_from whole_literal 1 count)) has_other) ≡ true
    depending-fits place h count some has_other =
        let fit = (and_parts (is_fit_as is_counting (own_place made place)) (place_has_room 0 place) h).0 in
        let parts = and_parts (own_place made place).fit (is_counting (own_place made place).kind) fit in
        choice-fits place parts.0 (counting-number (own_place made place).kind parts.1) (counting-terms place parts.1) count some has_other

    -- ---- words on an item

    module _ (item : ℕ) (counts : own_place made (cell_place item) ≡ whole_item) where
      item-room : place_has_room 0 (cell_place item) ≡ true
      item-room = ap (λ p. if_any (window_has_room 0) p.window) (out-roll-Place (record { item = item; of = []; subs = []; window = None }))

      pub item-fits : (is_kind : ValueKind → Bool) → is_kind (kinds.Number true) ≡ true → place_fits made is_kind (cell_place item) ≡ true
      item-fits is_kind k = ap (λ j. is_fit_as is_kind j && place_has_room 0 (cell_place item)) counts ∙ both k item-room

      pub set-fits : (value : ℕ) → fit_stmt fits (move_to item (number_operand (whole_literal value))) ≡ true
      set-fits value =
          move-fits fits (number_operand (whole_literal value)) (cell_place item) (literal-fits has_value refl value) (item-fits has_value refl)
          (ap (λ (j : Judged). may_move j.make j.kind (own_place made (cell_place item)).kind) (judged-literal value)
          ∙ ap (λ (j : Judged). may_move makes.Literal (kinds.Number true) j.kind) counts)

      pub take-fits : (amount : Operand) → operand_fits made is_counting amount ≡ true → fit_stmt fits (move_to item amount) ≡ true
      take-fits amount h =
          let j = own_operand made amount in
          let parts = and_parts (is_fit_as is_counting j) (operand_has_room amount) h in
          let number = counting-number j.kind (and_parts j.fit (is_counting j.kind) parts.0).1 in
          move-fits fits amount (cell_place item)
          (both (fit-as is_counting has_value (λ kind k. number-value kind (counting-number kind k)) j parts.0) parts.1)
          (item-fits has_value refl)
          (number-moves j.make j.kind (own_place made (cell_place item)).kind number (ap (λ (k : Judged). is_number k.kind) counts))

      pub lower-fits : fit_stmt fits (subtract_from item (whole_literal 1)) ≡ true
      lower-fits = subtract-fits fits item (whole_literal 1) (literal-fits is_number refl 1) (item-fits is_number refl)

      item-plain : place_terms (cell_place item) ≡ 0
      item-plain = plain-terms item [] []

      pub relation-fits : (rel : Rel) (number : ℕ) → cond_fits made (cell_relation item rel (whole_literal number)) ≡ true
      relation-fits rel number = both printable few
        where
          left : Expr
          left = place_expr (cell_place item)

          right : Expr
          right = operand_expr (number_operand (whole_literal number))

          printable : cond_fit (own_names made) made (cell_relation item rel (whole_literal number)) ≡ true
          printable =
              fold-roll-Cond Bool (conditions.cond_step (own_names made) made) (Cond-F.Relation left rel right)
              ∙ ap (λ j. (conditions.is_value j && conditions.is_value (own_expr made right)) && conditions.are_comparable j (own_expr made right)) (judged-place-expr (cell_place item) ∙ counts)
              ∙ ap (λ j. (conditions.is_value whole_item && conditions.is_value j) && conditions.are_comparable whole_item j) (judged-literal-expr number)

          few : nat_le (cond_terms (cell_relation item rel (whole_literal number))) max_terms ≡ true
          few =
              ap (λ n. nat_le n max_terms) (fold-roll-Cond ℕ cond_sizes.cond_step (Cond-F.Relation left rel right)
              ∙ ap (λ n. n + expr_terms right) (item-terms (cell_place item) item-plain)
              ∙ ap (λ n. 1 + n) (number-terms (whole_literal number)))

      pub by-cell-fits : (count : ℕ) → nat_le 1 count ≡ true → (has_other : Bool) →
          fit_chooser fits (Evaluate (subjects.Value (operand_expr (cell_operand item))) (map number_tests (numbers_from whole_literal 1 count)) has_other) ≡ true
      by-cell-fits count some has_other =
          choice-fits (cell_place item) (ap (λ (j : Judged). j.fit) counts) (ap (λ (j : Judged). is_number j.kind) counts) item-plain count some has_other

  -- ---- conditions

  zero-judged : own_expr made zero_side ≡ whole
  zero-judged =
      judged-leaf (roll-Operand (Operand-F.Figure figures.Zero))
      ∙ fold-roll-Operand Judged Judged Judged Judged Judged judging.expr_step judging.operand_step (judging.place_step (own_names made) made) judging.sub_step judging.window_step (Operand-F.Figure figures.Zero)

  -- two literals aren't compared
  pub always-fails : cond_fits made always ≡ false
  always-fails =
      ap (λ b. b && nat_le (cond_terms always) max_terms)
      (fit-Relation (own_names made) made zero_side rels.Equal zero_side
      ∙ ap (λ j. (conditions.is_value j && conditions.is_value j) && conditions.are_comparable j j) zero-judged)

  pub not-fits : (cond : Cond) → cond_fits made cond ≡ true → cond_terms (conds.Not cond) ≤ max_terms → cond_fits made (conds.Not cond) ≡ true
  not-fits cond h few =
      both (fit-Not (own_names made) made cond ∙ (and_parts (cond_fit (own_names made) made cond) (nat_le (cond_terms cond) max_terms) h).0) (le-leb (cond_terms (conds.Not cond)) max_terms few)

  pub inner-fits : (cond : Cond) → cond_fits made (conds.Not cond) ≡ true → cond_fits made cond ≡ true
  inner-fits cond h =
      let parts = and_parts (cond_fit (own_names made) made (conds.Not cond)) (nat_le (cond_terms (conds.Not cond)) max_terms) h in
      both (sym (fit-Not (own_names made) made cond) ∙ parts.0)
      (le-leb (cond_terms cond) max_terms (less (cond_terms (conds.Not cond)) (terms-Not cond) (leb-true (cond_terms (conds.Not cond)) max_terms parts.1)))
    where
      less : (n : ℕ) → n ≡ 1 + cond_terms cond → n ≤ max_terms → cond_terms cond ≤ max_terms
      less n e h = omega (arith, e, h)
