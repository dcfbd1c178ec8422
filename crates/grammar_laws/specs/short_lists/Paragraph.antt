-- Sentences and paragraphs in which each GO TO DEPENDING names few paragraphs.
use Rattle.std.specs.Prelude.{Bool, List, map}
use Rattle.cob_tree.specs.declared.program.Paragraph.{Paragraph}
use Rattle.cob_tree.specs.declared.program.Sentence.{Sentence}
use Rattle.cob_tree.specs.declared.stmt.Stmt.{Stmt}
use Rattle.cobol_theory.specs.fit_programs.Fit.{stmt_names_few}
use Rattle.control_flow_theory.specs.language.All.{all}

-- each GO TO DEPENDING in these statements does
abbrev pub stmts_name_few : List Stmt → Bool
stmts_name_few stmts = all (map stmt_names_few stmts)

-- each one in a sentence does
abbrev pub sentence_names_few : Sentence → Bool
sentence_names_few sentence = stmts_name_few sentence.stmts

-- each one in these sentences does
abbrev pub sentences_name_few : List Sentence → Bool
sentences_name_few sentences = all (map sentence_names_few sentences)

-- each one in a paragraph does
abbrev pub paragraph_names_few : Paragraph → Bool
paragraph_names_few paragraph = sentences_name_few paragraph.sentences

-- each one in these paragraphs does
abbrev pub paragraphs_name_few : List Paragraph → Bool
paragraphs_name_few paragraphs = all (map paragraph_names_few paragraphs)
