-- The lines of a report.
use Rattle.std.specs.Prelude.{ℕ, List, [], ◌∷◌, ◌++◌, length, Option, Some, None, codes}
use Rattle.std.specs.Fmt.{decimal}
use Rattle.cob_base.specs.Bytes.{line_feed}
use Rattle.procedure_split.specs.declared.report.report.Report.{Report}

-- words, and a name after them
abbrev pub name_line : List ℕ → List ℕ → List ℕ
name_line words name = words ++ name ++ line_feed ∷ []

-- words, and a number after them
abbrev pub number_line : List ℕ → ℕ → List ℕ
number_line words number = name_line words (decimal number)

-- the line of a paragraph that is dropped, by its label, or by a star where it has none
abbrev pub dropped_line : Option (List ℕ) → List ℕ
dropped_line None = name_line (codes "DROPPED ") (codes "*")
dropped_line (Some label) = name_line (codes "DROPPED ") label

-- the paragraphs that are dropped, a line each
abbrev pub dropped_lines : List (Option (List ℕ)) → List ℕ
dropped_lines [] = []
dropped_lines (label ∷ labels) = dropped_line label ++ dropped_lines labels

-- how many items of each kind are added
abbrev pub added_lines : Report → List ℕ
added_lines report = number_line (codes "NEVER ") report.never
    ++ number_line (codes "FLAGS ") report.flags
    ++ number_line (codes "COUNTS ") report.counts
    ++ number_line (codes "STATES ") report.states
    ++ number_line (codes "EXITS ") report.exits

-- all of them
abbrev pub report_text : Report → List ℕ
report_text report = name_line (codes "PROGRAM ") report.name
    ++ number_line (codes "PARAGRAPHS ") report.paragraphs
    ++ number_line (codes "RANGES ") report.ranges
    ++ number_line (codes "UNREACHABLE ") (length report.dropped)
    ++ dropped_lines report.dropped
    ++ added_lines report
