-- How many places a program has.
use Rattle.std.specs.Prelude.{ℕ, ◌+◌, List, sum, sum_by, Option, Some, None}
use Rattle.cob_tree.specs.declared.stmt.Stmt.{Stmt, fold-Stmt}
use Rattle.cob_tree.specs.declared.stmt.Stmt.TheOpen.{Stmt-F, Arms-F, When-F}
use Rattle.cob_tree.specs.declared.stmt.Arms.{Arms, fold-Arms}
use Rattle.cob_tree.specs.declared.stmt.When.{When, fold-When}
use Rattle.cob_tree.specs.declared.program.Sentence.{Sentence}
use Rattle.cob_tree.specs.declared.program.Paragraph.{Paragraph}
use Rattle.cob_tree.specs.declared.program.Program.{Program}

-- those of an arm, which may be absent
abbrev pub if_any : Option (List ℕ) → ℕ
if_any None = 0
if_any (Some counts) = sum counts

-- how many places one level of a statement takes: one, and those of the statements that it holds
abbrev pub places_step : Stmt-F ℕ ℕ ℕ → ℕ
places_step (Stmt-F.Arith calc into arms) = 1 + arms
places_step (Stmt-F.Read file into arms) = 1 + arms
places_step (Stmt-F.If cond met unmet) = 1 + sum met + sum unmet
places_step (Stmt-F.Evaluate subject whens other) = 1 + sum whens + if_any other
places_step (Stmt-F.Loop control body) = 1 + sum body
places_step _ = 1

-- those of a statement's arms
abbrev pub arms_step : Arms-F ℕ ℕ ℕ → ℕ
arms_step arms = if_any arms.first + if_any arms.second

-- those of a WHEN
abbrev pub when_step : When-F ℕ ℕ ℕ → ℕ
when_step when = sum when.stmts

-- how many places a statement has
abbrev pub stmt_places : Stmt → ℕ
stmt_places = fold-Stmt ℕ ℕ ℕ places_step arms_step when_step

-- how many places a statement's arms have
abbrev pub arms_places : Arms → ℕ
arms_places = fold-Arms ℕ ℕ ℕ places_step arms_step when_step

-- how many places a WHEN has
abbrev pub when_places : When → ℕ
when_places = fold-When ℕ ℕ ℕ places_step arms_step when_step

-- a sentence and its statements
abbrev pub sentence_places : Sentence → ℕ
sentence_places sentence = 1 + sum_by stmt_places sentence.stmts

-- a paragraph and its sentences
abbrev pub paragraph_places : Paragraph → ℕ
paragraph_places paragraph = 1 + sum_by sentence_places paragraph.sentences

-- statements, nested ones included, sentences and paragraphs
abbrev pub program_places : Program → ℕ
program_places program = sum_by paragraph_places program.paragraphs
