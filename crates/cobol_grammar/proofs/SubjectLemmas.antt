-- A subject is compared as a side of a relation is.
use Rattle.std.proofs.Common.{◌≡◌, ◌∙◌, refl, sym}
use Rattle.cobol_grammar.specs.declared.expr_forms.side.ExprContent.{ExprContent}
use Rattle.cobol_grammar.specs.declared.expr_forms.side.ExprContent.TheVariants as makes
use Rattle.cobol_grammar.specs.declared.expr_forms.side.Side.{Side}
use Rattle.cobol_grammar.specs.declared.expr_forms.side.ValueKind.{ValueKind}
use Rattle.cobol_grammar.specs.declared.expr_forms.side.ValueKind.TheVariants as kinds
use Rattle.cobol_grammar.specs.expr_forms.Fault as faults
use Rattle.cobol_grammar.specs.Use as uses

kinds_alike : (a b : ValueKind) (left right : Side) →
    uses.compared_fault a b (uses.known_of left) right ≡ faults.kinds_fault a b left right
kinds_alike kinds.Text kinds.Text left right = refl
kinds_alike kinds.Text (kinds.Number whole) left right = refl
kinds_alike kinds.Text kinds.Edited left right = refl
kinds_alike kinds.Text kinds.Group left right = refl
kinds_alike kinds.Text kinds.Figure left right = refl
kinds_alike kinds.Text kinds.Condition left right = refl
kinds_alike kinds.Text kinds.Unknown left right = refl
kinds_alike (kinds.Number whole) kinds.Text left right = refl
kinds_alike (kinds.Number whole) (kinds.Number other) left right = refl
kinds_alike (kinds.Number whole) kinds.Edited left right = refl
kinds_alike (kinds.Number whole) kinds.Group left right = refl
kinds_alike (kinds.Number whole) kinds.Figure left right = refl
kinds_alike (kinds.Number whole) kinds.Condition left right = refl
kinds_alike (kinds.Number whole) kinds.Unknown left right = refl
kinds_alike kinds.Edited kinds.Text left right = refl
kinds_alike kinds.Edited (kinds.Number whole) left right = refl
kinds_alike kinds.Edited kinds.Edited left right = refl
kinds_alike kinds.Edited kinds.Group left right = refl
kinds_alike kinds.Edited kinds.Figure left right = refl
kinds_alike kinds.Edited kinds.Condition left right = refl
kinds_alike kinds.Edited kinds.Unknown left right = refl
kinds_alike kinds.Group kinds.Text left right = refl
kinds_alike kinds.Group (kinds.Number whole) left right = refl
kinds_alike kinds.Group kinds.Edited left right = refl
kinds_alike kinds.Group kinds.Group left right = refl
kinds_alike kinds.Group kinds.Figure left right = refl
kinds_alike kinds.Group kinds.Condition left right = refl
kinds_alike kinds.Group kinds.Unknown left right = refl
kinds_alike kinds.Figure kinds.Text left right = refl
kinds_alike kinds.Figure (kinds.Number whole) left right = refl
kinds_alike kinds.Figure kinds.Edited left right = refl
kinds_alike kinds.Figure kinds.Group left right = refl
kinds_alike kinds.Figure kinds.Figure left right = refl
kinds_alike kinds.Figure kinds.Condition left right = refl
kinds_alike kinds.Figure kinds.Unknown left right = refl
kinds_alike kinds.Condition kinds.Text left right = refl
kinds_alike kinds.Condition (kinds.Number whole) left right = refl
kinds_alike kinds.Condition kinds.Edited left right = refl
kinds_alike kinds.Condition kinds.Group left right = refl
kinds_alike kinds.Condition kinds.Figure left right = refl
kinds_alike kinds.Condition kinds.Condition left right = refl
kinds_alike kinds.Condition kinds.Unknown left right = refl
kinds_alike kinds.Unknown kinds.Text left right = refl
kinds_alike kinds.Unknown (kinds.Number whole) left right = refl
kinds_alike kinds.Unknown kinds.Edited left right = refl
kinds_alike kinds.Unknown kinds.Group left right = refl
kinds_alike kinds.Unknown kinds.Figure left right = refl
kinds_alike kinds.Unknown kinds.Condition left right = refl
kinds_alike kinds.Unknown kinds.Unknown left right = refl

makes_alike : (a b : ExprContent) → (a ≡ makes.Literal → ⊥) → (left right : Side) →
    faults.makes_fault a b left right
    ≡ faults.kinds_fault (faults.compared_as left.kind) (faults.compared_as right.kind) left right
makes_alike makes.Literal b not left right = absurd (not refl)
makes_alike makes.Item makes.Literal not left right = refl
makes_alike makes.Item makes.Item not left right = refl
makes_alike makes.Item makes.Joined not left right = refl
makes_alike makes.Joined makes.Literal not left right = refl
makes_alike makes.Joined makes.Item not left right = refl
makes_alike makes.Joined makes.Joined not left right = refl

pub alike : (left right : Side) → (left.make ≡ makes.Literal → ⊥) →
    uses.subject_fault (uses.known_of left) right ≡ faults.relation_fault left right
unfolding uses.subject_fault faults.relation_fault
alike left right not =
    kinds_alike (faults.compared_as left.kind) (faults.compared_as right.kind) left right
    ∙ sym (makes_alike left.make right.make not left right)
