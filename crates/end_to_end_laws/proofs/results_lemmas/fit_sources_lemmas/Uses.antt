-- What is moved or compared with no fault noted may be.
use Rattle.std.proofs.Common.{◌≡◌, Bool, true, false, not, None, refl, ap, sym, ◌∙◌, subst}
use Rattle.parser_combinators.specs.declared.note.Position.{Position}
use Rattle.cobol_grammar.specs.declared.expr_forms.side.ExprContent.{ExprContent}
use Rattle.cobol_grammar.specs.declared.expr_forms.side.ExprContent.TheVariants as makes
use Rattle.cobol_grammar.specs.declared.expr_forms.side.Side.{Side}
use Rattle.cobol_grammar.specs.declared.expr_forms.side.ValueKind.{ValueKind}
use Rattle.cobol_grammar.specs.declared.expr_forms.side.ValueKind.TheVariants as values
use Rattle.cobol_grammar.specs.expr_forms.Fault.{compared_as, inexact_fault, whole_fault_at}
use Rattle.cobol_grammar.specs.Use.{known_of, unless_whole, to_group_fault, number_moved, to_number_fault, moved_fault, compared_fault, subject_fault}
use Rattle.round_trip.specs.spelling.expr_spelling.Printable.{Judged, is_number}
use Rattle.round_trip.specs.spelling.expr_spelling.Spelled.{IsKnownAs}
use Rattle.round_trip.specs.spelling.cond_spelling.Printable.{is_plain, kinds_suit}
use Rattle.round_trip.specs.fitting_statements.own_fits.Move.{may_fill, number_may_move, may_move}
use Rattle.round_trip.specs.fitting_statements.own_fits.Own.{may_compare}

-- ---- a move of which no fault is noted

unless-of : (whole : Bool) (position : Position) → unless_whole whole position ≡ None → whole ≡ true
unless-of true position n = refl
unless-of false position n = absurd cc

group-of : (make : ExprContent) (whole : Bool) (position : Position) → to_group_fault make whole position ≡ None → may_fill make whole ≡ true
group-of makes.Literal whole position n = unless-of whole position n
group-of makes.Item whole position n = refl
group-of makes.Joined whole position n = refl

number-of : (make : ExprContent) (whole : Bool) (to : ValueKind) (position : Position) → number_moved make whole to position ≡ None → number_may_move make whole to ≡ true
number-of make whole values.Text position n = unless-of whole position n
number-of make whole values.Group position n = group-of make whole position n
number-of make whole to position n = refl

unnumbered-of : (to : ValueKind) (position : Position) → to_number_fault to position ≡ None → not (is_number to) ≡ true
unnumbered-of (values.Number whole) position n = absurd cc
unnumbered-of to position n = refl

move-of : (make : ExprContent) (from to : ValueKind) (position : Position) → moved_fault make from to position ≡ None → may_move make from to ≡ true
move-of make (values.Number whole) to position n = number-of make whole to position n
move-of make values.Edited to position n = unnumbered-of to position n
move-of make values.Figure to position n = unnumbered-of to position n
move-of make from to position n = refl

-- what is known of them is what is judged
pub move-known : (make other : ExprContent) (from seen to met : ValueKind) (position : Position) → other ≡ make → seen ≡ from → met ≡ to → moved_fault other seen met position ≡ None → may_move make from to ≡ true
move-known make other from seen to met position m s t n =
    sym (ap (λ x. may_move x seen met) m ∙ ap (λ x. may_move make x met) s ∙ ap (λ x. may_move make from x) t) ∙ move-of other seen met position n

-- ---- a comparison of which no fault is noted

plain-of : (make : ExprContent) (whole : Bool) (position : Position) → inexact_fault make (values.Number whole) position ≡ None → is_plain make (values.Number whole) ≡ true
unfolding whole_fault_at
plain-of makes.Joined whole position n = absurd cc
plain-of makes.Item true position n = refl
plain-of makes.Item false position n = absurd cc
plain-of makes.Literal true position n = refl
plain-of makes.Literal false position n = absurd cc

kinds-of : (one other : ValueKind) (left right : Judged) (position : Position) (side : Side) → left.kind ≡ one → right.kind ≡ other →
    compared_fault (compared_as one) (compared_as other) (record { kind = one; make = left.make; position = position }) (record side { kind = other; make = right.make }) ≡ None →
    kinds_suit (compared_as one) (compared_as other) left right ≡ true
kinds-of values.Text (values.Number whole) left right position side l r n = subst (λ k. is_plain right.make k ≡ true) (sym r) (plain-of right.make whole side.position n)
kinds-of values.Edited (values.Number whole) left right position side l r n = subst (λ k. is_plain right.make k ≡ true) (sym r) (plain-of right.make whole side.position n)
kinds-of values.Group (values.Number whole) left right position side l r n = subst (λ k. is_plain right.make k ≡ true) (sym r) (plain-of right.make whole side.position n)
kinds-of (values.Number whole) values.Text left right position side l r n = subst (λ k. is_plain left.make k ≡ true) (sym l) (plain-of left.make whole position n)
kinds-of (values.Number whole) values.Edited left right position side l r n = subst (λ k. is_plain left.make k ≡ true) (sym l) (plain-of left.make whole position n)
kinds-of (values.Number whole) values.Group left right position side l r n = subst (λ k. is_plain left.make k ≡ true) (sym l) (plain-of left.make whole position n)
kinds-of (values.Number whole) values.Figure left right position side l r n = absurd cc
kinds-of values.Figure (values.Number whole) left right position side l r n = absurd cc
kinds-of one other left right position side l r n = refl

abbrev as_known : Judged → Side → Side
as_known judged side = record side { kind = judged.kind; make = judged.make }

same-known : (judged : Judged) (side : Side) → IsKnownAs judged side → side ≡ as_known judged side
same-known judged side known = ap (λ k. record side { kind = k }) known.kind ∙ ap (λ m. record side { kind = judged.kind; make = m }) known.make

pub compare-known : (left right : Judged) (side next : Side) → IsKnownAs left side → IsKnownAs right next → subject_fault (known_of side) next ≡ None → may_compare left right ≡ true
unfolding subject_fault
compare-known left right side next l r n =
    kinds-of left.kind right.kind left right side.position next refl refl
    (sym (ap (λ s. subject_fault (known_of s) next) (same-known left side l) ∙ ap (λ o. subject_fault (known_of (as_known left side)) o) (same-known right next r)) ∙ n)
