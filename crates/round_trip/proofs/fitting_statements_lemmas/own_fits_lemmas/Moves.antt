-- No fault is noted of a move that may be.
use Rattle.std.proofs.Common.{◌≡◌, Bool, true, false, not, None, refl}
use Rattle.parser_combinators.specs.declared.note.Position.{Position}
use Rattle.cobol_grammar.specs.declared.expr_forms.side.ExprContent.{ExprContent}
use Rattle.cobol_grammar.specs.declared.expr_forms.side.ExprContent.TheVariants as makes
use Rattle.cobol_grammar.specs.declared.expr_forms.side.ValueKind.{ValueKind}
use Rattle.cobol_grammar.specs.declared.expr_forms.side.ValueKind.TheVariants as values
use Rattle.cobol_grammar.specs.Use.{unless_whole, to_group_fault, number_moved, to_number_fault}
use Rattle.round_trip.specs.spelling.expr_spelling.Printable.{is_number}
use Rattle.round_trip.specs.spelling.Use.{MayMove}
use Rattle.round_trip.specs.fitting_statements.own_fits.Move.{may_fill, number_may_move, may_move}

unless-none : (whole : Bool) (position : Position) → whole ≡ true → unless_whole whole position ≡ None
unless-none true position e = refl
unless-none false position e = absurd cc

group-none : (make : ExprContent) (whole : Bool) (position : Position) → may_fill make whole ≡ true → to_group_fault make whole position ≡ None
group-none makes.Literal whole position e = unless-none whole position e
group-none makes.Item whole position e = refl
group-none makes.Joined whole position e = refl

number-none : (make : ExprContent) (whole : Bool) (to : ValueKind) (position : Position) → number_may_move make whole to ≡ true → number_moved make whole to position ≡ None
number-none make whole values.Text position e = unless-none whole position e
number-none make whole values.Group position e = group-none make whole position e
number-none make whole to position e = refl

figure-none : (to : ValueKind) (position : Position) → not (is_number to) ≡ true → to_number_fault to position ≡ None
figure-none (values.Number whole) position e = absurd cc
figure-none to position e = refl

pub move-free : (make : ExprContent) (from to : ValueKind) → may_move make from to ≡ true → MayMove make from to
move-free make (values.Number whole) to e position = number-none make whole to position e
move-free make values.Edited to e position = figure-none to position e
move-free make values.Figure to e position = figure-none to position e
move-free make from to e position = refl
