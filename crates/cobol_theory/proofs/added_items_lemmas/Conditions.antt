-- Conditions and choices.
use Rattle.std.proofs.Common.{◌≡◌, ℕ, zero, suc, ◌<◌, Bool, true, false, ◌&&◌, List, [], ◌∷◌, ◌++◌, length, map, Option, Some, None, refl, ap, sym, ◌∙◌, subst}
use Rattle.std.specs.Prelude.{Ok, if◌then◌else◌, not, slice_get}
use Rattle.std.specs.Ordering.{is_eq, is_le, is_ge}
use Rattle.std.proofs.lemmas.Bool.{and_parts}
use Rattle.cob_tree.specs.declared.entry.Entry.{Entry}
use Rattle.cob_tree.specs.declared.entry.Span.{Span}
use Rattle.cob_tree.specs.declared.choice.Subject.{Subject}
use Rattle.cob_tree.specs.declared.choice.Subject.TheVariants as subjects
use Rattle.cob_tree.specs.declared.choice.Test.{Test}
use Rattle.cob_tree.specs.declared.choice.Test.TheVariants as tests
use Rattle.cob_tree.specs.declared.cond.Cond.{Cond, ind-Cond, map-Cond, roll-Cond, fold-roll-Cond}
use Rattle.cob_tree.specs.declared.cond.Cond.TheOpen.{Cond-F}
use Rattle.cob_tree.specs.declared.place.Expr.{Expr}
use Rattle.cob_tree.specs.declared.place.Operand.{Operand}
use Rattle.cob_tree.specs.declared.place.Place.{Place, out-Place}
use Rattle.cob_store.specs.declared.area.Area.{Area}
use Rattle.cob_store.specs.Answer.{and_then}
use Rattle.cob_store.specs.Store.{Roots}
use Rattle.cob_store.specs.Place.{Memory}
use Rattle.meanings.specs.statements.Side.{Side, place_side, operand_side, expr_side, compared, valued}
use Rattle.meanings.specs.statements.Condition as condition
use Rattle.meanings.specs.statements.Condition.{Tests, rel_holds, is_of_class, has_sign, turned, in_span, in_spans, spans_of, named, holds}
use Rattle.meanings.specs.statements.Choice.{Asked, Truth, Beside, asked, if_chosen, in_range, same_truth, test_holds, one_holds, when_chosen, evaluated}
use Rattle.control_flow_theory.specs.language.All.{all}
use Rattle.cobol_theory.specs.added_items.Within as within
use Rattle.cobol_theory.specs.added_items.Within.{place_within, operand_within, expr_within, if_any, span_within, spans_within, entries_within, cond_within, subject_within, test_within, whens_within}
use Rattle.cobol_theory.specs.added_items.Widened.{AreInside}
use Rattle.cobol_theory.proofs.added_items_lemmas.Bytes.{get-append}
use Rattle.cobol_theory.proofs.added_items_lemmas.Places as places
use Rattle.cobol_theory.proofs.added_items_lemmas.Places.{then-same}
use Rattle.cobol_theory.proofs.added_items_lemmas.Sides as sides
use Rattle.cobol_theory.proofs.added_items_lemmas.Sides.{item-below}

-- the values of an entry whose entries are within
pub entry-within : (count : ℕ) (entries : List Entry) → entries_within count entries ≡ true → (item : ℕ) → spans_within count (spans_of (slice_get entries item)) ≡ true
entry-within count [] e item = refl
entry-within count (entry ∷ entries) e zero = (and_parts (spans_within count entry.ranges) (entries_within count entries) e).0
entry-within count (entry ∷ entries) e (suc item) = entry-within count entries (and_parts (spans_within count entry.ranges) (entries_within count entries) e).1 item

module _ (areas more : List Area) (store tail : Roots) (inside : AreInside areas store) where
  abbrev here : Memory
  here = places.here areas more store tail inside

  abbrev there : Memory
  there = places.there areas more store tail inside

  -- the values of a level 88

  compared-span : (side : Side) (from : Operand) (to : Option Operand) → (operand_within (length areas) from && if_any (length areas) (operand_within (length areas)) to) ≡ true →
      in_span there side from to ≡ in_span here side from to
  compared-span side from None e =
      ap (λ low. and_then low (λ low. and_then (compared side low) (λ order. Ok (is_eq order))))
      (sides.operand_side-same areas more store tail inside from (and_parts (operand_within (length areas) from) true e).0)
  compared-span side from (Some to) e =
      let h = and_parts (operand_within (length areas) from) (operand_within (length areas) to) e in
      ap (λ low. and_then low (λ low. and_then (operand_side there to) (λ high. and_then (compared side low) (λ order.
      if is_ge order then and_then (compared side high) (λ upper. Ok (is_le upper)) else Ok false))))
      (sides.operand_side-same areas more store tail inside from h.0)
      ∙ ap (λ high. and_then (operand_side here from) (λ low. and_then high (λ high. and_then (compared side low) (λ order.
      if is_ge order then and_then (compared side high) (λ upper. Ok (is_le upper)) else Ok false))))
      (sides.operand_side-same areas more store tail inside to h.1)

  spans-same : (side : Side) (spans : List Span) → spans_within (length areas) spans ≡ true → in_spans there side spans ≡ in_spans here side spans
  spans-same side [] e = refl
  spans-same side (span ∷ spans) e =
      let h = and_parts (span_within (length areas) span) (spans_within (length areas) spans) e in
      ap (λ test. and_then test (λ test. if test then Ok true else in_spans there side spans)) (compared-span side span.from span.to h.0)
      ∙ ap (λ rest. and_then (in_span here side span.from span.to) (λ test. if test then Ok true else rest)) (spans-same side spans h.1)

  module _ (entries added : List Entry) (sized : length entries ≡ length areas) (own : entries_within (length areas) entries ≡ true) where
    named-same : (place : Place) → place_within (length areas) place ≡ true → named (entries ++ added) there place ≡ named entries here place
    named-same place e =
        ap (λ entry. and_then (place_side there place) (λ side. in_spans there side (spans_of entry)))
        (get-append entries added (out-Place place).item (subst (λ n. (out-Place place).item < n) (sym sized) (item-below (length areas) place e)))
        ∙ ap (λ side. and_then side (λ side. in_spans there side (spans_of (slice_get entries (out-Place place).item)))) (sides.place_side-same areas more store tail inside place e)
        ∙ then-same (place_side here place) _ _ (λ side. spans-same side (spans_of (slice_get entries (out-Place place).item)) (entry-within (length areas) entries own (out-Place place).item))

    -- conditions

    abbrev Same : Cond → Type 0
    Same cond = cond_within (length areas) cond ≡ true → holds cond (entries ++ added) there ≡ holds cond entries here

    abbrev Such : Type 0
    Such = (cond : Cond) × Same cond

    cond-by : (y : Cond-F Cond) →
        (within.cond_step (length areas) (map-Cond Cond Bool (cond_within (length areas)) y) ≡ true →
        condition.cond_step (map-Cond Cond Tests holds y) (entries ++ added) there ≡ condition.cond_step (map-Cond Cond Tests holds y) entries here) →
        Same (roll-Cond y)
    cond-by y h e =
        ap (λ f. f (entries ++ added) there) (fold-roll-Cond Tests condition.cond_step y)
        ∙ h (sym (fold-roll-Cond Bool (within.cond_step (length areas)) y) ∙ e)
        ∙ sym (ap (λ f. f entries here) (fold-roll-Cond Tests condition.cond_step y))

    layer : (y : Cond-F Such) → Same (roll-Cond (map-Cond Such Cond (λ e. e.0) y))
    layer (Cond-F.Relation left rel right) =
        cond-by (Cond-F.Relation left rel right)
        (λ e. let h = and_parts (expr_within (length areas) left) (expr_within (length areas) right) e in
        ap (λ a. and_then a (λ a. and_then (expr_side there right) (λ b. and_then (compared a b) (λ order. Ok (rel_holds rel order))))) (sides.expr_side-same areas more store tail inside left h.0)
        ∙ ap (λ b. and_then (expr_side here left) (λ a. and_then b (λ b. and_then (compared a b) (λ order. Ok (rel_holds rel order))))) (sides.expr_side-same areas more store tail inside right h.1))
    layer (Cond-F.Class place kind turn) =
        cond-by (Cond-F.Class place kind turn)
        (λ e. ap (λ side. and_then side (λ side. Ok (turned turn (is_of_class kind side)))) (sides.place_side-same areas more store tail inside place e))
    layer (Cond-F.SignIs expr kind turn) =
        cond-by (Cond-F.SignIs expr kind turn)
        (λ e. ap (λ value. and_then value (λ value. and_then (valued value) (λ number. Ok (turned turn (has_sign kind number))))) (places.expr-same areas more store tail inside expr e))
    layer (Cond-F.Named place) = cond-by (Cond-F.Named place) (named-same place)
    layer (Cond-F.Not inner) = cond-by (Cond-F.Not inner.0) (λ e. ap (λ test. and_then test (λ test. Ok (not test))) (inner.1 e))
    layer (Cond-F.And left right) =
        cond-by (Cond-F.And left.0 right.0)
        (λ e. let h = and_parts (cond_within (length areas) left.0) (cond_within (length areas) right.0) e in
        ap (λ test. and_then test (λ test. if test then holds right.0 (entries ++ added) there else Ok false)) (left.1 h.0)
        ∙ ap (λ rest. and_then (holds left.0 entries here) (λ test. if test then rest else Ok false)) (right.1 h.1))
    layer (Cond-F.Or left right) =
        cond-by (Cond-F.Or left.0 right.0)
        (λ e. let h = and_parts (cond_within (length areas) left.0) (cond_within (length areas) right.0) e in
        ap (λ test. and_then test (λ test. if test then Ok true else holds right.0 (entries ++ added) there)) (left.1 h.0)
        ∙ ap (λ rest. and_then (holds left.0 entries here) (λ test. if test then Ok true else rest)) (right.1 h.1))

    pub holds-same : (cond : Cond) → Same cond
    holds-same cond = ind-Cond Same (λ x y is. subst (λ z. Same (roll-Cond z)) is (layer y)) cond

    pub if_chosen-same : (cond : Cond) → cond_within (length areas) cond ≡ true → if_chosen (entries ++ added) there cond ≡ if_chosen entries here cond
    if_chosen-same cond e = ap (λ test. and_then test (λ test. Ok (if test then 1 else 2))) (holds-same cond e)

    -- EVALUATE

    asked-same : (subject : Subject) → subject_within (length areas) subject ≡ true → asked there subject ≡ asked here subject
    asked-same subjects.True e = refl
    asked-same subjects.False e = refl
    asked-same (subjects.Value expr) e = ap (λ side. and_then side (λ side. Ok (Beside side))) (sides.expr_side-same areas more store tail inside expr e)

    range-same : (side : Side) (from : Expr) (to : Option Expr) → (expr_within (length areas) from && if_any (length areas) (expr_within (length areas)) to) ≡ true →
        in_range there side from to ≡ in_range here side from to
    range-same side from None e =
        ap (λ low. and_then low (λ low. and_then (compared side low) (λ order. Ok (is_eq order))))
        (sides.expr_side-same areas more store tail inside from (and_parts (expr_within (length areas) from) true e).0)
    range-same side from (Some to) e =
        let h = and_parts (expr_within (length areas) from) (expr_within (length areas) to) e in
        ap (λ low. and_then low (λ low. and_then (expr_side there to) (λ high. and_then (compared side low) (λ order.
        if is_ge order then and_then (compared side high) (λ upper. Ok (is_le upper)) else Ok false))))
        (sides.expr_side-same areas more store tail inside from h.0)
        ∙ ap (λ high. and_then (expr_side here from) (λ low. and_then high (λ high. and_then (compared side low) (λ order.
        if is_ge order then and_then (compared side high) (λ upper. Ok (is_le upper)) else Ok false))))
        (sides.expr_side-same areas more store tail inside to h.1)

    test-same : (subject : Asked) (test : Test) → test_within (length areas) test ≡ true → test_holds (entries ++ added) there subject test ≡ test_holds entries here subject test
    test-same (Truth truth) tests.Any e = refl
    test-same (Beside side) tests.Any e = refl
    test-same (Truth truth) (tests.Holds cond) e = ap (λ test. and_then test (λ test. Ok (same_truth truth test))) (holds-same cond e)
    test-same (Beside side) (tests.Holds cond) e = refl
    test-same (Truth truth) (tests.Value turn from to) e = refl
    test-same (Beside side) (tests.Value turn from to) e = ap (λ test. and_then test (λ test. Ok (turned turn test))) (range-same side from to e)

    one-same : (subject : Asked) (tested : List Test) → all (map (test_within (length areas)) tested) ≡ true → one_holds (entries ++ added) there subject tested ≡ one_holds entries here subject tested
    one-same subject [] e = refl
    one-same subject (test ∷ others) e =
        let h = and_parts (test_within (length areas) test) (all (map (test_within (length areas)) others)) e in
        ap (λ here. and_then here (λ here. if here then Ok true else one_holds (entries ++ added) there subject others)) (test-same subject test h.0)
        ∙ ap (λ rest. and_then (test_holds entries here subject test) (λ here. if here then Ok true else rest)) (one-same subject others h.1)

    when-same : (subject : Asked) (number : ℕ) (whens : List (List Test)) → whens_within (length areas) whens ≡ true →
        when_chosen (entries ++ added) there subject number whens ≡ when_chosen entries here subject number whens
    when-same subject number [] e = refl
    when-same subject number (when ∷ whens) e =
        let h = and_parts (all (map (test_within (length areas)) when)) (whens_within (length areas) whens) e in
        ap (λ here. and_then here (λ here. if here then Ok number else when_chosen (entries ++ added) there subject (suc number) whens)) (one-same subject when h.0)
        ∙ ap (λ rest. and_then (one_holds entries here subject when) (λ here. if here then Ok number else rest)) (when-same subject (suc number) whens h.1)

    pub evaluated-same : (subject : Subject) (whens : List (List Test)) → subject_within (length areas) subject ≡ true → whens_within (length areas) whens ≡ true →
        evaluated (entries ++ added) there subject whens ≡ evaluated entries here subject whens
    evaluated-same subject whens first second =
        ap (λ read. and_then read (λ read. when_chosen (entries ++ added) there read 1 whens)) (asked-same subject first)
        ∙ then-same (asked here subject) _ _ (λ read. when-same read 1 whens second)
