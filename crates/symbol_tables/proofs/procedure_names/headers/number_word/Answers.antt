use Rattle.std.proofs.Common.{◌≡◌, ℕ, List, Option, Some, None, ap, ◌∙◌}
use Rattle.std.specs.Option.{IsSome, IfSome}
use Rattle.cob_base.specs.Spelling.{folded}
use Rattle.symbol_tables.proofs.procedure_names_lemmas.DigitWords.{few_digits, digits_word, digits_capital}
use Rattle.symbol_tables.proofs.procedure_names.headers.number_word.Goals as goal

made_is : (made : Option (List ℕ)) (digits : List ℕ) → IsSome made → IfSome made (λ w. w ≡ folded digits) → folded digits ≡ digits → made ≡ Some digits
made_is (Some w) digits is value same = ap Some (value ∙ same)
made_is None digits is value same = absurd cc

pub returns : goal.returns
returns c =
    let few = few_digits c.args.digits.now c.requires in
    made_is _ c.args.digits.now (c.new.ensures.whole.1 (digits_word c.args.digits.now few.0 few.1 few.2)) c.new.ensures.value (digits_capital c.args.digits.now few.2)
