-- The names of procedures, in output order.
use Rattle.std.specs.Prelude.{ℕ, suc, Bool, true, false, if◌then◌else◌, ◌==◌, List, [], ◌∷◌, ◌++◌, Option, Some, None, slice_get, codes}
use Rattle.std.specs.Fmt.{decimal}
use Rattle.cob_tree.specs.declared.program.Paragraph.{Paragraph}
use Rattle.cob_tree.specs.declared.program.Program.{Program}
use Rattle.cob_tree.specs.declared.program.Range.{Range}
use Rattle.out_names.specs.declared.naming.Named.{Named}
use Rattle.out_names.specs.FreshWords.{fresh_number}
use Rattle.out_names.specs.Words.{program_words, table_of}

-- the stem of the names of procedures
abbrev pub procedure_stem : List ℕ
procedure_stem = codes "RX-PARA-"

-- the first of the two that is there
abbrev pub either : Option (List ℕ) → Option (List ℕ) → Option (List ℕ)
either None other = other
either (Some name) other = Some name

-- the label of a paragraph: its name, or else its section's
abbrev pub label_of : Option Paragraph → Option (List ℕ)
label_of None = None
label_of (Some paragraph) = either paragraph.name paragraph.section

-- a paragraph's name, else its section's
abbrev pub paragraph_label : List Paragraph → ℕ → Option (List ℕ)
paragraph_label paragraphs entry = label_of (slice_get paragraphs entry)

-- one of the ranges begins there
abbrev pub has_entry : List Range → ℕ → Bool
has_entry [] entry = false
has_entry (range ∷ ranges) entry = if range.entry == entry then true else has_entry ranges entry

-- the label of its entry, where no range before has it
abbrev pub own_label : List Paragraph → List Range → ℕ → Option (List ℕ)
own_label paragraphs before entry =
    if has_entry before entry then None else paragraph_label paragraphs entry

-- the label, or the next fresh name; and the number from which the next one is looked for
abbrev pub named : List (List ℕ) → Option (List ℕ) → ℕ → Named
named words (Some label) from = record { name = label; next = from }
named words None from =
    let number = fresh_number words procedure_stem from in
    record { name = procedure_stem ++ decimal number; next = suc number }

-- the names of the ranges after these, the next fresh name being looked for from a number on
abbrev pub names_behind :
    List (List ℕ) → List Paragraph → List Range → ℕ → List Range → List (List ℕ)
names_behind words paragraphs before from [] = []
names_behind words paragraphs before from (range ∷ ranges) =
    let next = named words (own_label paragraphs before range.entry) from in
    next.name ∷ names_behind words paragraphs (before ++ range ∷ []) next.next ranges

-- the first range with an entry takes its label, any other the next fresh RX-PARA-1, RX-PARA-2 ..
abbrev pub names_of : Program → List Range → List (List ℕ)
names_of program ranges =
    names_behind (table_of (program_words program)) program.paragraphs [] 1 ranges
