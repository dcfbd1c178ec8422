-- Tests of the tree: there is no jump in it, and each PERFORM of paragraphs names one later
-- paragraph.
use Rattle.std.specs.Prelude.{ℕ, suc, Bool, true, false, ◌==◌, ◌&&◌, nat_lt, List, [], ◌∷◌, map, is_some, is_none}
use Rattle.cob_tree.specs.declared.stmt.Stmt.{Stmt, fold-Stmt}
use Rattle.cob_tree.specs.declared.stmt.Stmt.TheOpen.{Stmt-F, Arms-F, When-F}
use Rattle.cob_tree.specs.declared.stmt.Arms.{Arms, fold-Arms}
use Rattle.cob_tree.specs.declared.stmt.When.{When, fold-When}
use Rattle.cob_tree.specs.declared.program.Sentence.{Sentence}
use Rattle.cob_tree.specs.declared.program.Paragraph.{Paragraph}
use Rattle.control_flow_theory.specs.language.All.{all, all_if}

-- the range is one paragraph by itself, past this one, of so many
abbrev pub names_later : (count here entry exit : ℕ) → Bool
names_later count here entry exit = entry == exit && nat_lt here entry && nat_lt entry count

-- one level of a statement
abbrev pub nests_step : ℕ → ℕ → Stmt-F Bool Bool Bool → Bool
nests_step count here (Stmt-F.Arith calc into arms) = arms
nests_step count here (Stmt-F.Read file into arms) = arms
nests_step count here (Stmt-F.If cond met unmet) = all met && all unmet
nests_step count here (Stmt-F.Evaluate subject whens other) = all whens && all_if other
nests_step count here (Stmt-F.Loop control body) = all body
nests_step count here (Stmt-F.Perform entry exit control) = names_later count here entry exit
nests_step count here (Stmt-F.Go to) = false
nests_step count here (Stmt-F.GoDepending to on) = false
nests_step count here Stmt-F.NextSentence = false
nests_step count here Stmt-F.Exit = false
nests_step count here Stmt-F.ExitParagraph = false
nests_step count here Stmt-F.ExitSection = false
nests_step count here (Stmt-F.ExitPerform cycle) = false
nests_step count here _ = true

-- one level of a statement's arms
abbrev pub arms_step : Arms-F Bool Bool Bool → Bool
arms_step arms = all_if arms.first && all_if arms.second

-- one level of a WHEN
abbrev pub when_step : When-F Bool Bool Bool → Bool
when_step when = all when.stmts

-- a statement nests in this paragraph, of so many: it has no jump, and each PERFORM in it names one
-- later paragraph
abbrev pub stmt_nests : ℕ → ℕ → Stmt → Bool
stmt_nests count here = fold-Stmt Bool Bool Bool (nests_step count here) arms_step when_step

-- the same of a statement's arms
abbrev pub arms_nest : ℕ → ℕ → Arms → Bool
arms_nest count here = fold-Arms Bool Bool Bool (nests_step count here) arms_step when_step

-- the same of a WHEN
abbrev pub when_nests : ℕ → ℕ → When → Bool
when_nests count here = fold-When Bool Bool Bool (nests_step count here) arms_step when_step

-- the same of these statements
abbrev pub stmts_nest : ℕ → ℕ → List Stmt → Bool
stmts_nest count here stmts = all (map (stmt_nests count here) stmts)

-- the same of these WHENs
abbrev pub whens_nest : ℕ → ℕ → List When → Bool
whens_nest count here whens = all (map (when_nests count here) whens)

-- the paragraph is one sentence, whose statements nest
abbrev pub sentences_nest : ℕ → ℕ → List Sentence → Bool
sentences_nest count here [] = false
sentences_nest count here (sentence ∷ []) = stmts_nest count here sentence.stmts
sentences_nest count here (sentence ∷ next ∷ others) = false

-- named, in no section, and of one sentence
abbrev pub paragraph_nests : ℕ → ℕ → Paragraph → Bool
paragraph_nests count here paragraph =
    is_some paragraph.name && is_none paragraph.section
    && sentences_nest count here paragraph.sentences

-- the first of these paragraphs has this number
abbrev pub paragraphs_nest : ℕ → ℕ → List Paragraph → Bool
paragraphs_nest count first [] = true
paragraphs_nest count first (paragraph ∷ others) =
    paragraph_nests count first paragraph && paragraphs_nest count (suc first) others
