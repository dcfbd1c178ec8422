-- EXIT without a further word is alone in its sentences.
use Rattle.std.specs.Prelude.{Bool, true, false, ◌||◌, List, [], ◌∷◌, map}
use Rattle.cob_tree.specs.declared.program.Paragraph.{Paragraph}
use Rattle.cob_tree.specs.declared.program.Program.{Program}
use Rattle.cob_tree.specs.declared.program.Sentence.{Sentence}
use Rattle.cob_tree.specs.declared.stmt.Stmt.{Stmt}
use Rattle.cob_tree.specs.declared.stmt.Stmt.TheVariants.{Exit}
use Rattle.control_flow_theory.specs.language.All.{all}
use Rattle.struct_form.specs.Structured.{stmts_exitless}

-- the statement is EXIT without a further word
abbrev pub is_exit : Stmt → Bool
is_exit Exit = true
is_exit _ = false

-- the only statement is EXIT without a further word
abbrev pub is_lone_exit : List Stmt → Bool
is_lone_exit [] = false
is_lone_exit (stmt ∷ []) = is_exit stmt
is_lone_exit (stmt ∷ next ∷ stmts) = false

-- the sentence is such an EXIT alone, or holds none
abbrev pub sentence_exits_alone : Sentence → Bool
sentence_exits_alone sentence = is_lone_exit sentence.stmts || stmts_exitless sentence.stmts

-- each of these sentences is so
abbrev pub sentences_exit_alone : List Sentence → Bool
sentences_exit_alone sentences = all (map sentence_exits_alone sentences)

-- each sentence of a paragraph is so
abbrev pub paragraph_exits_alone : Paragraph → Bool
paragraph_exits_alone paragraph = sentences_exit_alone paragraph.sentences

-- each sentence of these paragraphs is so
abbrev pub paragraphs_exit_alone : List Paragraph → Bool
paragraphs_exit_alone paragraphs = all (map paragraph_exits_alone paragraphs)

-- each EXIT without a further word is the only statement of its paragraph
abbrev pub exits_alone : Program → Bool
exits_alone program = paragraphs_exit_alone program.paragraphs
