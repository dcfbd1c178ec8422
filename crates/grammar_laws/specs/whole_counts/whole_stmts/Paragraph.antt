-- Sentences and paragraphs that count by whole numbers.
use Rattle.std.specs.Prelude.{Bool, List, map}
use Rattle.cob_tree.specs.declared.entry.Entry.{Entry}
use Rattle.cob_tree.specs.declared.program.Paragraph.{Paragraph}
use Rattle.cob_tree.specs.declared.program.Sentence.{Sentence}
use Rattle.cob_tree.specs.declared.stmt.Stmt.{Stmt}
use Rattle.control_flow_theory.specs.language.All.{all}
use Rattle.program_facts.specs.whole_counts.Whole.{stmt_counts_whole}

module _ (entries : List Entry) where
  -- each count in these statements is by a whole number
  abbrev pub stmts_count_whole : List Stmt → Bool
  stmts_count_whole stmts = all (map (stmt_counts_whole entries) stmts)

  -- each count in a sentence is
  abbrev pub sentence_counts_whole : Sentence → Bool
  sentence_counts_whole sentence = stmts_count_whole sentence.stmts

  -- each count in these sentences is
  abbrev pub sentences_count_whole : List Sentence → Bool
  sentences_count_whole sentences = all (map sentence_counts_whole sentences)

  -- each count in a paragraph is
  abbrev pub paragraph_counts_whole : Paragraph → Bool
  paragraph_counts_whole paragraph = sentences_count_whole paragraph.sentences

  -- each count in these paragraphs is
  abbrev pub paragraphs_count_whole : List Paragraph → Bool
  paragraphs_count_whole paragraphs = all (map paragraph_counts_whole paragraphs)
