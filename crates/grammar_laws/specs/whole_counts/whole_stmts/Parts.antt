-- What the forms of which statements are made are to give: a value in which no fault is found as a
-- whole number is one.
use Rattle.std.specs.Prelude.{ℕ, ◌≡◌, true, List, None}
use Rattle.cob_tree.specs.declared.entry.Entry.{Entry}
use Rattle.parser_combinators.specs.declared.note.Position.{Position}
use Rattle.cobol_grammar.specs.stmt_forms.Part.{Parts}
use Rattle.program_facts.specs.whole_counts.Whole.{amount_is_whole, place_is_whole}
use Rattle.grammar_laws.specs.form_results.Giving.{Gives}
use Rattle.grammar_laws.specs.form_results.Numbered.{IsNumbered}

module _ (entries : List Entry) {Side Known : Type 0} (parts : Parts Side Known) where
  -- the side is a whole number as an operand, where no such fault is noted of it
  abbrev pub IsWholeAmount : Side → Type 0
  IsWholeAmount side =
      parts.whole_fault side ≡ None → amount_is_whole entries (parts.operand_of side) ≡ true

  -- the side is an item for whole numbers, where no such fault is noted of it
  abbrev pub IsWholeItem : Side → Type 0
  IsWholeItem side =
      parts.whole_fault side ≡ None → place_is_whole entries (parts.place_of side) ≡ true

  -- each form gives such a value
  pub record PartsCountWhole : Type 0 where
    pub operand : Gives IsNumbered parts.operand IsWholeAmount
    pub reference : Gives IsNumbered parts.reference IsWholeItem
    pub reference_behind : (name : List ℕ) (position : Position) →
        Gives IsNumbered (parts.reference_behind name position) IsWholeAmount
    pub digits_side : (digits : List ℕ) (position : Position) →
        IsWholeAmount (parts.digits_side digits position)
