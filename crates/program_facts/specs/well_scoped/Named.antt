-- Statements and programs: each item, file and paragraph that they name is there, their numbers are
-- numbers, and no list that is required is empty.
use Rattle.std.specs.Prelude.{ℕ, ◌≡◌, nat_lt, Bool, true, ◌&&◌, List, length, map, Option, Some, None, IsTrue}
use Rattle.cob_tree.specs.declared.choice.Subject.{Subject}
use Rattle.cob_tree.specs.declared.choice.Subject.TheVariants as subject
use Rattle.cob_tree.specs.declared.entry.Entry.{Entry}
use Rattle.cob_tree.specs.declared.entry.Span.{Span}
use Rattle.cob_tree.specs.declared.file.FileEntry.{FileEntry}
use Rattle.cob_tree.specs.declared.file.Opening.{Opening}
use Rattle.cob_tree.specs.declared.place.Operand.{Operand, out-Operand}
use Rattle.cob_tree.specs.declared.place.Expr.TheOpen.{Operand-F}
use Rattle.cob_tree.specs.declared.stmt.Stmt.{Stmt, fold-Stmt}
use Rattle.cob_tree.specs.declared.stmt.Stmt.TheOpen.{Stmt-F, Arms-F, When-F}
use Rattle.cob_tree.specs.declared.stmt.Arms.{Arms, fold-Arms}
use Rattle.cob_tree.specs.declared.stmt.When.{When, fold-When}
use Rattle.cob_tree.specs.declared.program.Sentence.{Sentence}
use Rattle.cob_tree.specs.declared.program.Paragraph.{Paragraph}
use Rattle.cob_tree.specs.declared.program.Program.{Program}
use Rattle.control_flow_theory.specs.language.All.{all}
use Rattle.program_facts.specs.well_scoped.Part.{Counts, is_filled, if_any, number_named, item_named, file_named, paragraph_named, place_named, places_named, operand_named, operands_named}
use Rattle.program_facts.specs.well_scoped.Beside.{turns, is_truth, is_value, cond_named, control_named, calc_named, target_named, subject_named, test_named}

-- what is known of a WHEN: whether what it holds is named, and under which subjects its tests may
-- be
pub record Branch : Type 0 where
  pub named : Bool
  -- its tests may be under TRUE or FALSE
  pub truths : Bool
  -- its tests may be under a value
  pub values : Bool

-- statements, one at least
abbrev pub arm : List Bool → Bool
arm stmts = is_filled stmts && all stmts

-- the tests suit the subject: conditions under TRUE and FALSE, else values
abbrev pub fit : Subject → List Branch → Bool
fit (subject.Value expr) whens = all (map (λ when. when.values) whens)
fit _ whens = all (map (λ when. when.truths) whens)

module _ (counts : Counts) where
  -- the file of an OPEN is there
  abbrev pub opening_named : Opening → Bool
  opening_named opening = file_named counts opening.file

  -- one level of a statement
  abbrev pub stmt_step : Stmt-F Bool Bool Branch → Bool
  stmt_step (Stmt-F.Display items advance) = is_filled items && operands_named counts items
  stmt_step (Stmt-F.Move from to) =
      operand_named counts from && (is_filled to && places_named counts to)
  stmt_step (Stmt-F.Arith calc into arms) =
      calc_named counts calc && (is_filled into && all (map (target_named counts) into)) && arms
  stmt_step (Stmt-F.SetTrue place) = place_named counts place
  stmt_step (Stmt-F.Opens openings) = is_filled openings && all (map opening_named openings)
  stmt_step (Stmt-F.Closes files) = is_filled files && all (map (file_named counts) files)
  stmt_step (Stmt-F.Read file into arms) =
      file_named counts file && if_any (place_named counts) into && arms
  stmt_step (Stmt-F.Write entry from) =
      item_named counts entry && if_any (operand_named counts) from
  stmt_step (Stmt-F.Rewrite entry from) =
      item_named counts entry && if_any (operand_named counts) from
  stmt_step (Stmt-F.If cond met unmet) = cond_named counts cond && arm met && all unmet
  stmt_step (Stmt-F.Evaluate subject whens other) =
      subject_named counts subject && (is_filled whens && all (map (λ when. when.named) whens))
      && fit subject whens && if_any arm other
  stmt_step (Stmt-F.Loop control body) = turns control && control_named counts control && arm body
  stmt_step (Stmt-F.Perform entry exit control) =
      paragraph_named counts entry && paragraph_named counts exit && control_named counts control
  stmt_step (Stmt-F.Go to) = paragraph_named counts to
  stmt_step (Stmt-F.GoDepending to on) =
      (is_filled to && all (map (paragraph_named counts) to)) && place_named counts on
  stmt_step _ = true

  -- one level of a statement's arms
  abbrev pub arms_step : Arms-F Bool Bool Branch → Bool
  arms_step arms = if_any arm arms.first && if_any arm arms.second

  -- one level of a WHEN
  abbrev pub when_step : When-F Bool Bool Branch → Branch
  when_step when = record {
    named = (is_filled when.tests && all (map (test_named counts) when.tests)) && arm when.stmts;
    truths = all (map is_truth when.tests);
    values = all (map is_value when.tests);
  }

  -- what a statement names is there, and its lists are filled
  abbrev pub stmt_named : Stmt → Bool
  stmt_named = fold-Stmt Bool Bool Branch stmt_step arms_step when_step

  -- the same of a statement's arms
  abbrev pub arms_named : Arms → Bool
  arms_named = fold-Arms Bool Bool Branch stmt_step arms_step when_step

  -- the same of a WHEN, and under which subjects its tests may be
  abbrev pub when_seen : When → Branch
  when_seen = fold-When Bool Bool Branch stmt_step arms_step when_step

  -- the same of these statements
  abbrev pub stmts_named : List Stmt → Bool
  stmts_named stmts = all (map stmt_named stmts)

  -- a sentence has one statement at least
  abbrev pub sentence_named : Sentence → Bool
  sentence_named sentence = is_filled sentence.stmts && stmts_named sentence.stmts

  -- the same of these sentences
  abbrev pub sentences_named : List Sentence → Bool
  sentences_named sentences = all (map sentence_named sentences)

  -- the same of these paragraphs
  abbrev pub paragraphs_named : List Paragraph → Bool
  paragraphs_named paragraphs = all
      (map (λ paragraph. sentences_named paragraph.sentences) paragraphs)

-- what a program has
abbrev pub counts_of : Program → Counts
counts_of program = record {
  items = length program.entries;
  files = length program.files;
  paragraphs = length program.paragraphs;
}

-- the statements of a program that has a paragraph
pub record NamesItsOwn (program : Program) : Type 0 where
  -- there is a paragraph
  pub some : IsTrue (is_filled program.paragraphs)
  pub statements : IsTrue (paragraphs_named (counts_of program) program.paragraphs)
