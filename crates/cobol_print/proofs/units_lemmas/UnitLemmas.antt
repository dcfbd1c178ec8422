-- The last unit of a list, and units that are added behind others.
use Rattle.std.proofs.Common.{◌≡◌, List, [], ◌∷◌, ◌++◌, refl, ap, ◌∙◌, Result, OnOk}
use Rattle.std.proofs.lemmas.List.{append_assoc}
use Rattle.std.proofs.lemmas.Result.{on_ok_weaker}
use Rattle.cobol_lex.specs.declared.token.TokenKind.TheVariants as kind
use Rattle.cobol_print.specs.declared.units.unit.PrintUnit.{PrintUnit}
use Rattle.cobol_print.specs.units.Unit.{unit_at, ended}

-- a unit with a period behind it
abbrev pub with_period : PrintUnit → PrintUnit
with_period unit = unit_at unit.column (unit.tokens ++ kind.Period ∷ [])

pub ended-last : (units : List PrintUnit) (unit : PrintUnit) →
    ended (units ++ unit ∷ []) ≡ units ++ with_period unit ∷ []
ended-last [] unit = refl
ended-last (first ∷ []) unit = refl
ended-last (first ∷ next ∷ units) unit = ap (λ x. first ∷ x) (ended-last (next ∷ units) unit)

-- what is added behind what was added
pub joined_on : {X : Type 0} (old mid new front more : List X) → mid ≡ old ++ front → new ≡ mid ++ more →
    new ≡ old ++ (front ++ more)
joined_on old mid new front more first second =
    second ∙ ap (λ x. x ++ more) first ∙ append_assoc old front more

pub added_on : {X A E : Type 0} (result : Result A E) (old mid new front more : List X) → mid ≡ old ++ front →
    OnOk result (new ≡ mid ++ more) → OnOk result (new ≡ old ++ (front ++ more))
added_on result old mid new front more first second =
    on_ok_weaker result (joined_on old mid new front more first) second
