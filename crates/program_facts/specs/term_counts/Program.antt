-- How many terms the largest condition or expression of a program has, and the limit of the result.
use Rattle.std.specs.Prelude.{ℕ, ◌+◌, max, nat_lt, true, if◌then◌else◌, map, Option, Some, None}
use Rattle.cob_base.specs.Limit.{max_terms, past}
use Rattle.cob_base.specs.declared.limit.Limit.{Limit}
use Rattle.cob_base.specs.declared.limit.LimitKind.TheVariants.{Terms}
use Rattle.cob_tree.specs.Depth.{largest}
use Rattle.cob_tree.specs.declared.file.FileEntry.{FileEntry}
use Rattle.cob_tree.specs.declared.program.Paragraph.{Paragraph}
use Rattle.cob_tree.specs.declared.program.Program.{Program}
use Rattle.cob_tree.specs.declared.program.Sentence.{Sentence}
use Rattle.program_facts.specs.term_counts.Expression.{if_any, place_most}
use Rattle.program_facts.specs.term_counts.Statement.{stmts_most}

-- the largest in a sentence
abbrev pub sentence_most : Sentence → ℕ
sentence_most sentence = stmts_most sentence.stmts

-- the largest in a paragraph
abbrev pub paragraph_most : Paragraph → ℕ
paragraph_most paragraph = largest (map sentence_most paragraph.sentences)

-- the most terms in the place of a file's status
abbrev pub file_most : FileEntry → ℕ
file_most file = if_any place_most file.status

-- the most terms of one condition or expression
abbrev pub terms_of : Program → ℕ
terms_of program =
    max (largest (map paragraph_most program.paragraphs)) (largest (map file_most program.files))

-- the limit of the result's terms, passed by one
abbrev pub terms_passed : Limit
terms_passed = past Terms true (max_terms + 1)

-- the limit, where the program passes it
abbrev pub terms_limit : Program → Option Limit
terms_limit program = if nat_lt max_terms (terms_of program) then Some terms_passed else None
