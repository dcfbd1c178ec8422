-- What the parts of statements give, over names that fit the entries.
use Rattle.std.proofs.Common.{◌≡◌, ℕ, ◌+◌, Bool, true, false, ◌&&◌, not, if◌then◌else◌, List, length, Option, Some, None, refl, ap, sym, ◌∙◌}
use Rattle.std.specs.Prelude.{◌==◌, drop, slice_get}
use Rattle.std.specs.Prelude.{position as first_place}
use Rattle.std.specs.List.{list_any}
use Rattle.std.specs.Option.{is_some}
use Rattle.cob_tree.specs.declared.entry.Entry.{Entry}
use Rattle.cob_tree.specs.declared.number.Number.{Number}
use Rattle.cob_tree.specs.declared.place.Expr.TheOpen.{Operand-F}
use Rattle.cob_tree.specs.declared.place.Figure.TheVariants as figures
use Rattle.cob_tree.specs.declared.place.Operand.{Operand, out-roll-Operand}
use Rattle.cob_tree.specs.declared.place.Operand.TheVariants as operands
use Rattle.cob_tree.specs.declared.place.Place.{Place, out-roll-Place}
use Rattle.cob_tree.specs.declared.place.Sub.{Sub}
use Rattle.cob_tree.specs.declared.place.Window.{Window}
use Rattle.parser_combinators.specs.declared.note.Position.{Position}
use Rattle.symbol_tables.specs.declared.data_names.name.Referent.{Referent}
use Rattle.symbol_tables.specs.declared.data_names.name.Referent.TheVariants as found
use Rattle.symbol_tables.specs.declared.data_names.name.ItemKind.{ItemKind}
use Rattle.symbol_tables.specs.declared.data_names.name.ItemKind.TheVariants as items
use Rattle.symbol_tables.specs.declared.data_names.name.Name.{Name}
use Rattle.symbol_tables.specs.data_names.Names.{Names}
use Rattle.symbol_tables.specs.data_names.Look as looks
use Rattle.symbol_tables.specs.data_names.Look.{found_at, found_from, look}
use Rattle.parser_combinators.proofs.words_lemmas.WordLaws as words
use Rattle.cobol_grammar.specs.declared.expr_forms.side.Side.{Side}
use Rattle.cobol_grammar.specs.expr_forms.Fault as faults
use Rattle.cobol_grammar.specs.expr_forms.Fault.{whole_fault_at, usage, item_kind, kind_of, found_fault}
use Rattle.cobol_grammar.specs.expr_forms.Levels as knots
use Rattle.cobol_grammar.specs.expr_forms.Operand as operand_forms
use Rattle.cobol_grammar.specs.expr_forms.Reference as references
use Rattle.cobol_grammar.specs.expr_forms.Side as sides
use Rattle.cobol_grammar.specs.expr_forms.Side.{windowed, kind_within, literal_kind, place_of}
use Rattle.cobol_grammar.proofs.expr_forms_lemmas.ExpressionLaws as law
use Rattle.symbol_tables.specs.declared.procedure_names.table.ProcedureTable.{ProcedureTable}
use Rattle.cobol_grammar.specs.Use as uses
use Rattle.cobol_grammar.specs.Whole.{parts_of}
use Rattle.grammar_laws.specs.form_results.Giving.{Gives}
use Rattle.grammar_laws.specs.form_results.Numbered.{IsNumbered, literal_step, is_literal}
use Rattle.grammar_laws.proofs.form_results_lemmas.Giving.{any, hence, still, pure, refuse, note, where_next, ◌>>=◌, ◌>>◌}
use Rattle.grammar_laws.proofs.form_results_lemmas.Literals as literals
use Rattle.program_facts.specs.whole_counts.Whole.{is_whole_entry, place_is_whole, amount_is_whole_by, amount_is_whole}
use Rattle.grammar_laws.specs.whole_counts.whole_stmts.Parts.{PartsCountWhole}
use Rattle.grammar_laws.specs.whole_counts.whole_entries.Fitting.{NamesFit}

-- ---- kinds in which no fault is found

-- it is a number without decimals
whole-kind : (position : Position) (kind : ItemKind) → whole_fault_at position (item_kind kind) ≡ None → kind ≡ items.Number true
unfolding whole_fault_at
whole-kind position (items.Number true) n = refl
whole-kind position (items.Number false) n = absurd cc
whole-kind position items.Text n = absurd cc
whole-kind position items.Edited n = absurd cc
whole-kind position items.Group n = absurd cc
whole-kind position items.Condition n = absurd cc

-- what a window shows is none
no-window : (position : Position) (kind : ItemKind) → whole_fault_at position (windowed (item_kind kind)) ≡ None → ⊥
unfolding whole_fault_at
no-window position (items.Number whole) n = cc
no-window position items.Text n = cc
no-window position items.Edited n = cc
no-window position items.Group n = cc
no-window position items.Condition n = cc

whole-told : (position : Position) (whole : Bool) → (if whole then None else usage position) ≡ None → whole ≡ true
whole-told position true n = refl
whole-told position false n = absurd cc

module _ (entries : List Entry) where
  -- ---- what stands in the tree

  amount-place : (place : Place) → place_is_whole entries place ≡ true → amount_is_whole entries (operands.Place place) ≡ true
  amount-place place h = ap (amount_is_whole entries) (sym (operands.rolls-Place place)) ∙ ap (amount_is_whole_by entries) (out-roll-Operand (Operand-F.Place place)) ∙ h

  amount-number : (number : Number) → (number.scale == 0) ≡ true → amount_is_whole entries (operands.Number number) ≡ true
  amount-number number h = ap (amount_is_whole entries) (sym (operands.rolls-Number number)) ∙ ap (amount_is_whole_by entries) (out-roll-Operand (Operand-F.Number number)) ∙ h

  amount-zero : amount_is_whole entries (operands.Figure figures.Zero) ≡ true
  amount-zero = ap (amount_is_whole entries) (sym (operands.rolls-Figure figures.Zero)) ∙ ap (amount_is_whole_by entries) (out-roll-Operand (Operand-F.Figure figures.Zero))

  -- ---- literals

  no-place : (place : Place) → is_literal (operands.Place place) ≡ true → ⊥
  no-place place h = apart (sym (ap is_literal (sym (operands.rolls-Place place)) ∙ ap literal_step (out-roll-Operand (Operand-F.Place place))) ∙ h)
    where
      apart : false ≡ true → ⊥
      apart e = cc

  literal-whole : (position : Position) (operand : Operand) → is_literal operand ≡ true → whole_fault_at position (literal_kind operand) ≡ None → amount_is_whole entries operand ≡ true
  unfolding whole_fault_at
  literal-whole position (operands.Number number) h n = amount-number number (whole-told position (number.scale == 0) n)
  literal-whole position (operands.Text text) h n = absurd cc
  literal-whole position (operands.Figure figures.Zero) h n = amount-zero
  literal-whole position (operands.Figure figures.Space) h n = absurd cc
  literal-whole position (operands.Figure figures.HighValue) h n = absurd cc
  literal-whole position (operands.Figure figures.LowValue) h n = absurd cc
  literal-whole position (operands.Figure figures.Quote) h n = absurd cc
  literal-whole position (operands.Place place) h n = absurd (no-place place h)

  -- ---- what a name stands for

  abbrev FoundFits : Referent → Type 0
  FoundFits (found.Item item kind dims) = kind ≡ items.Number true → is_whole_entry (slice_get entries item) ≡ true
  FoundFits found.Unknown = Unit {0}
  FoundFits found.Ambiguous = Unit {0}

  ref-whole : (stands : Referent) → FoundFits stands → (of : List (List ℕ)) (subs : List Sub) (window : Option Window) (position : Position) →
      found_fault stands (length subs) (is_some window) position ≡ None → whole_fault_at position (kind_within window (kind_of stands)) ≡ None → place_is_whole entries (place_of stands of subs window) ≡ true
  unfolding found_fault
  ref-whole (found.Item item kind dims) F of subs None position n w =
      ap (λ place. not (is_some place.window) && is_whole_entry (slice_get entries place.item)) (out-roll-Place (record { item = item; of = of; subs = subs; window = None }))
      ∙ F (whole-kind position kind w)
  ref-whole (found.Item item kind dims) F of subs (Some window) position n w = absurd (no-window position kind w)
  ref-whole found.Unknown F of subs window position n w = absurd cc
  ref-whole found.Ambiguous F of subs window position n w = absurd cc

  module _ (names : Names) (fit : NamesFit names entries) where
    at-fits : (item : ℕ) (name : Option Name) → slice_get names.items item ≡ name → FoundFits (found_at item name)
    at-fits item None e = tt
    at-fits item (Some name) e = fit item name e

    look-fits : (word : List ℕ) (of : List (List ℕ)) → FoundFits (look names word of)
    look-fits word of = from (first_place (looks.fits word of) names.items)
      where
        alone : (item : ℕ) (again : Bool) → FoundFits (if again then found.Ambiguous else found_at item (slice_get names.items item))
        alone item true = tt
        alone item false = at-fits item (slice_get names.items item) refl

        from : (place : Option ℕ) → FoundFits (found_from names.items word of place)
        from None = tt
        from (Some item) = alone item (list_any (looks.fits word of) (drop (item + 1) names.items))

    -- ---- references and operands

    abbrev IsWholeAmount : Side → Type 0
    IsWholeAmount side = faults.whole_fault side ≡ None → amount_is_whole entries (uses.operand_of side.what) ≡ true

    record RefFits (side : Side) : Type 0 where
      item : faults.whole_fault side ≡ None → place_is_whole entries (uses.place_of side.what) ≡ true
      amount : IsWholeAmount side

    ref_behind : (stands : Referent) → FoundFits stands → (of : List (List ℕ)) (position : Position) (count : ℕ) →
        Gives IsNumbered (references.ref_behind (knots.outer names) stands of position count) (λ side. RefFits side.0)
    unfolding references.ref_behind sides.ref_side
    ref_behind stands F of position count = do
      tail ← any (law.behind (law.outer names) count)
      note
      pure (λ n _. let whole = ref-whole stands F of tail.subs tail.window position n.1 in record { item = whole; amount = λ w. amount-place _ (whole w) })

    reference_behind : (first : List ℕ) (position : Position) (count : ℕ) → Gives IsNumbered (references.reference_behind names (knots.outer names) first position count) (λ side. RefFits side.0)
    unfolding references.reference_behind
    reference_behind first position count = any law.qualifiers >>= (λ of. still (ref_behind (look names first of) (look-fits first of) of position count))

    reference : (count : ℕ) → Gives IsNumbered (references.reference names (knots.outer names) count) (λ side. RefFits side.0)
    unfolding references.reference
    reference count = any words.name >>= (λ first. still (reference_behind first.0 first.1 count))

    literal_operand : (count : ℕ) → Gives IsNumbered (operand_forms.literal_operand count) (λ side. IsWholeAmount side.0)
    unfolding operand_forms.literal_operand sides.literal_side
    literal_operand count = literals.literal >>= (λ found. pure (λ l n. literal-whole found.1 found.0 l n))

    operand : (count : ℕ) → Gives IsNumbered (operand_forms.operand names (knots.outer names) count) (λ side. IsWholeAmount side.0)
    unfolding operand_forms.operand
    operand count = where_next (any (law.tally count 1) >>= (λ more. still (where_next (hence (λ side h. h.amount) (reference more)) (literal_operand more)))) refuse

    -- ---- as statements have them

    data_reference : Gives IsNumbered (knots.data_reference names) RefFits
    unfolding knots.data_reference
    data_reference = reference 0 >>= (λ side. pure (λ h. h))

    data_reference_behind : (first : List ℕ) (position : Position) → Gives IsNumbered (knots.data_reference_behind names first position) RefFits
    unfolding knots.data_reference_behind
    data_reference_behind first position = reference_behind first position 0 >>= (λ side. pure (λ h. h))

    data_operand : Gives IsNumbered (knots.data_operand names) IsWholeAmount
    unfolding knots.data_operand
    data_operand = operand 0 >>= (λ side. pure (λ h. h))

    digits_whole : (digits : List ℕ) (position : Position) → IsWholeAmount (sides.digits_side digits position)
    unfolding sides.literal_side
    digits_whole digits position n = amount-number (sides.number_of false digits) refl

pub parts : (names : Names) (entries : List Entry) (table : ProcedureTable) → NamesFit names entries → PartsCountWhole entries (parts_of names entries table)
parts names entries table fit = record {
  operand = data_operand entries names fit;
  reference = hence (λ side h. h.item) (data_reference entries names fit);
  reference_behind = λ first position. hence (λ side h. h.amount) (data_reference_behind entries names fit first position);
  digits_side = digits_whole entries names fit;
}
