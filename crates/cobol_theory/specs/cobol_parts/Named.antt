-- Statements name paragraphs that there are, and each inline loop says how it turns.
use Rattle.std.specs.Prelude.{ℕ, nat_lt, Bool, true, false, ◌&&◌, List, length, map, IsTrue}
use Rattle.cob_tree.specs.declared.control.Control.{Control}
use Rattle.cob_tree.specs.declared.control.Control.TheVariants as control
use Rattle.cob_tree.specs.declared.stmt.Stmt.{Stmt, fold-Stmt}
use Rattle.cob_tree.specs.declared.stmt.Stmt.TheOpen.{Stmt-F, Arms-F, When-F}
use Rattle.cob_tree.specs.declared.stmt.Arms.{Arms, fold-Arms}
use Rattle.cob_tree.specs.declared.stmt.When.{When, fold-When}
use Rattle.cob_tree.specs.declared.program.Sentence.{Sentence}
use Rattle.cob_tree.specs.declared.program.Paragraph.{Paragraph}
use Rattle.cob_tree.specs.declared.program.Program.{Program}
use Rattle.control_flow_theory.specs.language.All.{all, all_if}

-- the control is TIMES, UNTIL or VARYING
abbrev pub turns : Control → Bool
turns control.Once = false
turns _ = true

-- where there are so many paragraphs
module _ (paragraphs : ℕ) where
  -- the paragraph with this number is one of them
  abbrev pub is_there : ℕ → Bool
  is_there number = nat_lt number paragraphs

  -- one level of a statement
  abbrev pub stmt_step : Stmt-F Bool Bool Bool → Bool
  stmt_step (Stmt-F.Arith calc into arms) = arms
  stmt_step (Stmt-F.Read file into arms) = arms
  stmt_step (Stmt-F.If cond met unmet) = all met && all unmet
  stmt_step (Stmt-F.Evaluate subject whens other) = all whens && all_if other
  stmt_step (Stmt-F.Loop control body) = turns control && all body
  stmt_step (Stmt-F.Perform entry exit control) = is_there entry && is_there exit
  stmt_step (Stmt-F.Go to) = is_there to
  stmt_step (Stmt-F.GoDepending to on) = all (map is_there to)
  stmt_step _ = true

  -- one level of a statement's arms
  abbrev pub arms_step : Arms-F Bool Bool Bool → Bool
  arms_step arms = all_if arms.first && all_if arms.second

  -- one level of a WHEN
  abbrev pub when_step : When-F Bool Bool Bool → Bool
  when_step when = all when.stmts

  -- a statement names paragraphs that there are, and its loops say how they turn
  abbrev pub stmt_named : Stmt → Bool
  stmt_named = fold-Stmt Bool Bool Bool stmt_step arms_step when_step

  -- the same of arms
  abbrev pub arms_named : Arms → Bool
  arms_named = fold-Arms Bool Bool Bool stmt_step arms_step when_step

  -- the same of a WHEN
  abbrev pub when_named : When → Bool
  when_named = fold-When Bool Bool Bool stmt_step arms_step when_step

  -- the same of statements
  abbrev pub stmts_named : List Stmt → Bool
  stmts_named stmts = all (map stmt_named stmts)

  -- the same of sentences
  abbrev pub sentences_named : List Sentence → Bool
  sentences_named sentences = all (map (λ sentence. stmts_named sentence.stmts) sentences)

  -- the same of paragraphs
  abbrev pub paragraphs_named : List Paragraph → Bool
  paragraphs_named list = all (map (λ paragraph. sentences_named paragraph.sentences) list)

-- each paragraph that its statements name is one of its own
abbrev pub NamesOwnParagraphs : Program → Type 0
NamesOwnParagraphs program =
    IsTrue (paragraphs_named (length program.paragraphs) program.paragraphs)
