-- Tests of the tree: the first paragraph's first sentence ends in STOP RUN.
use Rattle.std.specs.Prelude.{Bool, true, false, List, [], ◌∷◌}
use Rattle.cob_tree.specs.declared.stmt.Stmt.{Stmt}
use Rattle.cob_tree.specs.declared.stmt.Stmt.TheVariants.{StopRun}
use Rattle.cob_tree.specs.declared.program.Sentence.{Sentence}
use Rattle.cob_tree.specs.declared.program.Paragraph.{Paragraph}

-- the statement is STOP RUN
abbrev pub is_stop : Stmt → Bool
is_stop StopRun = true
is_stop _ = false

-- the last statement is STOP RUN
abbrev pub ends_in_stop : List Stmt → Bool
ends_in_stop [] = false
ends_in_stop (stmt ∷ []) = is_stop stmt
ends_in_stop (stmt ∷ next ∷ stmts) = ends_in_stop (next ∷ stmts)

-- the first of these sentences ends in STOP RUN
abbrev pub sentences_stop : List Sentence → Bool
sentences_stop [] = false
sentences_stop (sentence ∷ sentences) = ends_in_stop sentence.stmts

-- the first sentence of the first of these paragraphs ends in STOP RUN
abbrev pub first_stops : List Paragraph → Bool
first_stops [] = false
first_stops (paragraph ∷ paragraphs) = sentences_stop paragraph.sentences
