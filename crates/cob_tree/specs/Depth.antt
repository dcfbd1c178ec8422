-- How deep the statements of a program nest.
use Rattle.std.specs.Prelude.{ℕ, ◌+◌, max, List, [], ◌∷◌, map, Option, Some, None}
use Rattle.cob_tree.specs.declared.stmt.Stmt.{Stmt, fold-Stmt}
use Rattle.cob_tree.specs.declared.stmt.Stmt.TheOpen.{Stmt-F, Arms-F, When-F}
use Rattle.cob_tree.specs.declared.stmt.Arms.{Arms, fold-Arms}
use Rattle.cob_tree.specs.declared.stmt.When.{When, fold-When}
use Rattle.cob_tree.specs.declared.program.Sentence.{Sentence}
use Rattle.cob_tree.specs.declared.program.Paragraph.{Paragraph}
use Rattle.cob_tree.specs.declared.program.Program.{Program}

-- the largest of a list, or 0
abbrev pub largest : List ℕ → ℕ
largest [] = 0
largest (first ∷ others) = max first (largest others)

-- one level more than the deepest of an arm, where there is an arm
abbrev pub level : Option (List ℕ) → ℕ
level None = 0
level (Some depths) = 1 + largest depths

-- how deep one level of a statement nests: one that holds statements is one level more than the
-- deepest of them
abbrev pub depth_step : Stmt-F ℕ ℕ ℕ → ℕ
depth_step (Stmt-F.Arith calc into arms) = arms
depth_step (Stmt-F.Read file into arms) = arms
depth_step (Stmt-F.If cond met unmet) = 1 + max (largest met) (largest unmet)
depth_step (Stmt-F.Evaluate subject whens other) = max (1 + largest whens) (level other)
depth_step (Stmt-F.Loop control body) = 1 + largest body
depth_step _ = 0

-- one level of a statement's arms
abbrev pub arms_step : Arms-F ℕ ℕ ℕ → ℕ
arms_step arms = max (level arms.first) (level arms.second)

-- one level of a WHEN, which is no level by itself
abbrev pub when_step : When-F ℕ ℕ ℕ → ℕ
when_step when = largest when.stmts

-- how deep a statement nests
abbrev pub stmt_depth : Stmt → ℕ
stmt_depth = fold-Stmt ℕ ℕ ℕ depth_step arms_step when_step

-- how deep the arms of READ or of arithmetic nest
abbrev pub arms_depth : Arms → ℕ
arms_depth = fold-Arms ℕ ℕ ℕ depth_step arms_step when_step

-- how deep the statements of a WHEN nest
abbrev pub when_depth : When → ℕ
when_depth = fold-When ℕ ℕ ℕ depth_step arms_step when_step

-- how deep these statements nest
abbrev pub stmts_depth : List Stmt → ℕ
stmts_depth stmts = largest (map stmt_depth stmts)

-- how deep these WHENs nest
abbrev pub whens_depth : List When → ℕ
whens_depth whens = largest (map when_depth whens)

-- how deep a sentence nests
abbrev pub sentence_depth : Sentence → ℕ
sentence_depth sentence = stmts_depth sentence.stmts

-- how deep a paragraph nests
abbrev pub paragraph_depth : Paragraph → ℕ
paragraph_depth paragraph = largest (map sentence_depth paragraph.sentences)

-- the deepest nesting, 0 where no statement holds statements
abbrev pub program_depth : Program → ℕ
program_depth program = largest (map paragraph_depth program.paragraphs)
