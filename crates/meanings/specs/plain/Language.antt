-- The language as its meanings see it: paragraphs of sentences of statements.
use Rattle.std.specs.Prelude.{ℕ, Bool, List, [], ◌∷◌, map, Option, Some, None, slice_get}
use Rattle.cob_tree.specs.declared.place.Operand.{Operand}
use Rattle.cob_tree.specs.declared.control.Control.{Control}
use Rattle.cob_tree.specs.declared.control.Control.TheVariants.{Once, Times, Until, Varying}
use Rattle.cob_tree.specs.declared.stmt.Stmt as tree_stmt
use Rattle.cob_tree.specs.declared.stmt.Stmt.TheVariants as tree_stmts
use Rattle.cob_tree.specs.declared.program.Sentence as tree_sentence
use Rattle.cob_tree.specs.declared.program.Paragraph as tree_paragraph
use Rattle.cob_tree.specs.declared.program.Program as tree_program

-- a statement of the plain form, or another one
pub data Stmt : Type 0 where
  Display : (items : List Operand) → (advance : Bool) → Stmt
  Go : (to : ℕ) → Stmt
  -- PERFORM of paragraphs, once
  Perform : (entry : ℕ) → (exit : ℕ) → Stmt
  StopRun : Stmt
  Other : Stmt

-- a sentence is its statements
abbrev pub Sentence : Type 0
Sentence = List Stmt

-- a paragraph is its sentences
abbrev pub Paragraph : Type 0
Paragraph = List Sentence

-- a program is its paragraphs
pub record Program : Type 0 where
  pub paragraphs : List Paragraph

-- what is still to do in a paragraph
pub data Item : Type 0 where
  Do : Stmt → Item
  SentenceEnd : Item

-- the statements, and then the rest
abbrev pub before : List Stmt → List Item → List Item
before [] rest = rest
before (stmt ∷ stmts) rest = Do stmt ∷ before stmts rest

-- all that is to do in a paragraph
abbrev pub items_of : Paragraph → List Item
items_of [] = []
items_of (sentence ∷ sentences) = before sentence (SentenceEnd ∷ items_of sentences)

-- the paragraph, or one with nothing to do where it is absent
abbrev pub unless_absent : Option Paragraph → Paragraph
unless_absent None = []
unless_absent (Some paragraph) = paragraph

-- the paragraph with this number, from 0; past the last one, one with nothing to do
abbrev pub paragraph_at : Program → ℕ → Paragraph
paragraph_at program number = unless_absent (slice_get program.paragraphs number)

-- The tree as the meanings see it.

-- a PERFORM of a range; one that is a loop is not of the plain form
abbrev pub performing : ℕ → ℕ → Control → Stmt
performing entry exit Once = Perform entry exit
performing entry exit (Times amount) = Other
performing entry exit (Until after until) = Other
performing entry exit (Varying after item from by until) = Other

-- a statement of the tree
abbrev pub seen_stmt : tree_stmt.Stmt → Stmt
seen_stmt (tree_stmts.Display items advance) = Display items advance
seen_stmt (tree_stmts.Go to) = Go to
seen_stmt (tree_stmts.Perform entry exit control) = performing entry exit control
seen_stmt tree_stmts.StopRun = StopRun
seen_stmt _ = Other

-- a sentence of the tree
abbrev pub seen_sentence : tree_sentence.Sentence → Sentence
seen_sentence sentence = map seen_stmt sentence.stmts

-- a paragraph of the tree
abbrev pub seen_paragraph : tree_paragraph.Paragraph → Paragraph
seen_paragraph paragraph = map seen_sentence paragraph.sentences

-- a program of the tree
abbrev pub seen : tree_program.Program → Program
seen program = record { paragraphs = map seen_paragraph program.paragraphs }
