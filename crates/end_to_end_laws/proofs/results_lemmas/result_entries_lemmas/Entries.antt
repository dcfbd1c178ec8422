-- The entries for cells are those of items with fresh names.
use Rattle.std.proofs.Common.{◌≡◌, ℕ, suc, Bool, false, List, [], ◌∷◌, ◌++◌, length, Some, None, refl, ap, ◌∙◌, arith}
use Rattle.std.specs.Fmt.{decimal}
use Rattle.std.proofs.lemmas.Fmt.{decimal_digit}
use Rattle.cob_tree.specs.declared.entry.Entry.{Entry}
use Rattle.cob_tree.specs.declared.picture.Picture.TheVariants as pictures
use Rattle.cob_tree.specs.declared.picture.Sign.TheVariants.{Within}
use Rattle.cob_tree.specs.declared.picture.Usage.TheVariants.{Display}
use Rattle.cob_tree.specs.declared.place.Operand.{Operand}
use Rattle.cob_tree.specs.declared.place.Operand.TheVariants as operands
use Rattle.control_flow_theory.specs.graph_rules.Families.{Added, Never, Flag, Count, State, Exit}
use Rattle.out_names.specs.FreshWords.{fresh_number}
use Rattle.cobol_theory.specs.cell_items.Cell.{number_operand}
use Rattle.cobol_theory.specs.cell_serving.Entries.{cell_entry, entries_of, whole_literal}
use Rattle.added_items.specs.item_table.Naming as cells
use Rattle.added_items.specs.declared.item_table.naming.NextNumbers.{NextNumbers}
use Rattle.round_trip.specs.declarations.added_entries.Items.{zero_literal, whole_entry, whole_entries}
use Rattle.round_trip.specs.declarations.fresh_items.Fresh.{NextOf, stem_of, digits_of, is_signed, with_next, item_named, items_from}

-- both look from the same numbers on
abbrev pub LookAlike : NextNumbers → NextOf → Type 0
LookAlike numbers next = (kind : Added) → cells.next_of numbers kind ≡ next kind

pub first-alike : LookAlike cells.all_from_one (λ kind. 1)
first-alike Never = refl
first-alike Flag = refl
first-alike Count = refl
first-alike State = refl
first-alike Exit = refl

next-alike : (numbers : NextNumbers) (next : NextOf) (kind : Added) (number : ℕ) → LookAlike numbers next → LookAlike (cells.with_next numbers kind number) (with_next next kind number)
next-alike numbers next Never number h Never = refl
next-alike numbers next Never number h Flag = h Flag
next-alike numbers next Never number h Count = h Count
next-alike numbers next Never number h State = h State
next-alike numbers next Never number h Exit = h Exit
next-alike numbers next Flag number h Never = h Never
next-alike numbers next Flag number h Flag = refl
next-alike numbers next Flag number h Count = h Count
next-alike numbers next Flag number h State = h State
next-alike numbers next Flag number h Exit = h Exit
next-alike numbers next Count number h Never = h Never
next-alike numbers next Count number h Flag = h Flag
next-alike numbers next Count number h Count = refl
next-alike numbers next Count number h State = h State
next-alike numbers next Count number h Exit = h Exit
next-alike numbers next State number h Never = h Never
next-alike numbers next State number h Flag = h Flag
next-alike numbers next State number h Count = h Count
next-alike numbers next State number h State = refl
next-alike numbers next State number h Exit = h Exit
next-alike numbers next Exit number h Never = h Never
next-alike numbers next Exit number h Flag = h Flag
next-alike numbers next Exit number h Count = h Count
next-alike numbers next Exit number h State = h State
next-alike numbers next Exit number h Exit = refl

stem-alike : (kind : Added) → cells.stem_of kind ≡ stem_of kind
stem-alike Never = refl
stem-alike Flag = refl
stem-alike Count = refl
stem-alike State = refl
stem-alike Exit = refl

zero-alike : number_operand (whole_literal 0) ≡ operands.Number zero_literal
zero-alike =
    operands.rolls-Number (whole_literal 0)
    ∙ ap (λ digits. operands.Number (record { negative = false; digits = digits; scale = 0 })) (decimal_digit 0 (omega arith))

entry-by : (name : List ℕ) (digits : ℕ) (signed : Bool) → cell_entry name digits signed ≡ whole_entry (record { name = name; digits = digits; signed = signed })
entry-by name digits signed = ap valued zero-alike
  where
    valued : Operand → Entry
    valued value = record {
      level = 1;
      name = Some name;
      file = None;
      redefines = None;
      picture = Some (pictures.Number signed digits 0);
      sign = Within;
      usage = Display;
      occurs = None;
      value = Some value;
      ranges = [];
    }

entry-alike : (kind : Added) (number : ℕ) → cell_entry (cells.stem_of kind ++ decimal number) (cells.digits_of kind) (cells.is_signed kind) ≡ whole_entry (item_named (stem_of kind ++ decimal number) kind)
entry-alike Never number = entry-by (stem_of Never ++ decimal number) (digits_of Never) (is_signed Never)
entry-alike Flag number = entry-by (stem_of Flag ++ decimal number) (digits_of Flag) (is_signed Flag)
entry-alike Count number = entry-by (stem_of Count ++ decimal number) (digits_of Count) (is_signed Count)
entry-alike State number = entry-by (stem_of State ++ decimal number) (digits_of State) (is_signed State)
entry-alike Exit number = entry-by (stem_of Exit ++ decimal number) (digits_of Exit) (is_signed Exit)

pub entries-alike : (words : List (List ℕ)) (numbers : NextNumbers) (next : NextOf) (kinds : List Added) → LookAlike numbers next →
    entries_of (cells.entries_from words numbers kinds) ≡ whole_entries (items_from words next kinds)
entries-alike words numbers next [] h = refl
entries-alike words numbers next (kind ∷ kinds) h =
    ap (λ list. cell_entry (cells.stem_of kind ++ decimal number) (cells.digits_of kind) (cells.is_signed kind) ∷ list)
    (entries-alike words (cells.with_next numbers kind (suc number)) (with_next next kind (suc number)) kinds (next-alike numbers next kind (suc number) h))
    ∙ ap (λ (entry : Entry). entry ∷ whole_entries (items_from words (with_next next kind (suc number)) kinds)) (entry-alike kind number)
    ∙ ap (λ n. whole_entries (item_named (stem_of kind ++ decimal n) kind ∷ items_from words (with_next next kind (suc n)) kinds)) same
  where
    number : ℕ
    number = fresh_number words (cells.stem_of kind) (cells.next_of numbers kind)

    same : number ≡ fresh_number words (stem_of kind) (next kind)
    same = ap (λ stem. fresh_number words stem (cells.next_of numbers kind)) (stem-alike kind) ∙ ap (fresh_number words (stem_of kind)) (h kind)

-- one for each kind
pub length-entries : (words : List (List ℕ)) (numbers : NextNumbers) (kinds : List Added) → length (cells.entries_from words numbers kinds) ≡ length kinds
length-entries words numbers [] = refl
length-entries words numbers (kind ∷ kinds) =
    ap suc (length-entries words (cells.with_next numbers kind (suc (fresh_number words (cells.stem_of kind) (cells.next_of numbers kind)))) kinds)

pub length-items : (words : List (List ℕ)) (next : NextOf) (kinds : List Added) → length (items_from words next kinds) ≡ length kinds
length-items words next [] = refl
length-items words next (kind ∷ kinds) = ap suc (length-items words (with_next next kind (suc (fresh_number words (stem_of kind) (next kind)))) kinds)
