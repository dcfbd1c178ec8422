-- Programs as far as control goes: what acts, chooses and tests is kept whole, and only the words
-- of control are looked at.
use Rattle.std.specs.Prelude.{ℕ, Bool, true, false, if◌then◌else◌, ◌==◌, List, [], Option, Some, None, slice_get}
use Rattle.cob_tree.specs.declared.place.Place as places
use Rattle.cob_tree.specs.declared.place.Operand as operands
use Rattle.cob_tree.specs.declared.cond.Cond as conds
use Rattle.cob_tree.specs.declared.choice.Subject as subjects
use Rattle.cob_tree.specs.declared.choice.Test as choices
use Rattle.cob_tree.specs.declared.calc.Calc as calcs
use Rattle.cob_tree.specs.declared.calc.Target as targets
use Rattle.cob_tree.specs.declared.stmt.Stmt as stmts

-- Parts that control never looks inside: they are the program's own.

-- a statement that acts and is dropped
abbrev pub Simple : Type 0
Simple = stmts.Stmt

-- a condition
abbrev pub Cond : Type 0
Cond = conds.Cond

-- the operand of TIMES
abbrev pub Amount : Type 0
Amount = operands.Operand

-- what chooses an arm, but for a condition
pub data Chooser : Type 0 where
  -- EVALUATE: its subject, the tests of each WHEN, and whether WHEN OTHER is there
  Evaluate : (subject : subjects.Subject) → (tests : List (List choices.Test)) →
      (has_other : Bool) → Chooser
  -- READ: its file, the INTO, and whether AT END is there
  Read : (file : ℕ) → (into : Option places.Place) → (has_end : Bool) → Chooser
  -- arithmetic with a phrase on size errors
  Arith : (calc : calcs.Calc) → (into : List targets.Target) → Chooser
  -- the item of GO TO DEPENDING, which has so many names
  Depending : (on : places.Place) → (names : ℕ) → Chooser

-- Restructuring adds items: cells, each a number of the range that owns them. No source program
-- has these words.

-- a statement that acts and goes on: the program's own, or a word on a cell
pub data Act : Type 0 where
  Own : (simple : Simple) → Act
  -- MOVE a number TO the cell
  Set : (cell : ℕ) → (value : ℕ) → Act
  -- MOVE the operand of TIMES TO the cell
  Take : (cell : ℕ) → (amount : Amount) → Act
  -- SUBTRACT 1 FROM the cell
  Lower : (cell : ℕ) → Act

-- what a statement tests: a condition of the program, or a cell
pub data Test : Type 0 where
  Holds : (cond : Cond) → Test
  Not : (test : Test) → Test
  -- the cell holds the number
  Is : (cell : ℕ) → (value : ℕ) → Test
  -- the cell is above zero
  Above : (cell : ℕ) → Test

-- what chooses among arms, the first of which is arm 0; by a cell, arm k is for the value k + 1
pub data Picker : Type 0 where
  If : (test : Test) → Picker
  By : (chooser : Chooser) → Picker
  ByCell : (cell : ℕ) → Picker

-- how a loop turns: so many times, until a test holds, or with an item that varies
pub data Control : Type 0 where
  Times : (amount : Amount) → Control
  Until : (after : Bool) → (test : Test) → Control
  -- VARYING: its setting MOVE, and its augmenting ADD
  Varying : (after : Bool) → (set : Act) → (step : Act) → (test : Test) → Control

mutual
  -- a statement
  pub data Stmt : Type 0 where
    Do : (act : Act) → Stmt
    -- a statement with arms; an arm may be missing
    Choose : (picker : Picker) → (arms : Arms) → Stmt
    Loop : (control : Control) → (body : Body) → Stmt
    Perform : (entry : ℕ) → (exit : ℕ) → Stmt
    Go : (to : ℕ) → Stmt
    GoDepending : (to : List ℕ) → (on : Chooser) → Stmt
    NextSentence : Stmt
    -- the rest of the paragraph is left out
    ExitParagraph : Stmt
    -- to the end of the last paragraph of the section, which is this one
    ExitSection : (last : ℕ) → Stmt
    -- the innermost loop of nested statements is left, or with CYCLE this turn of it
    ExitPerform : (cycle : Bool) → Stmt
    StopRun : Stmt

  -- statements in order
  pub data Stmts : Type 0 where
    none : Stmts
    also : (first : Stmt) → (others : Stmts) → Stmts

  -- the arms in order
  pub data Arms : Type 0 where
    done : Arms
    given : (arm : Stmts) → (others : Arms) → Arms
    missing : (others : Arms) → Arms

  -- the body of a loop: statements, or the range of a PERFORM
  pub data Body : Type 0 where
    Nested : (stmts : Stmts) → Body
    Performed : (entry : ℕ) → (exit : ℕ) → Body

-- a sentence is its statements
abbrev pub Sentence : Type 0
Sentence = Stmts

-- a paragraph is a list of sentences
abbrev pub Paragraph : Type 0
Paragraph = List Sentence

-- a program is its paragraphs
pub record Program : Type 0 where
  pub paragraphs : List Paragraph

-- the paragraph, or one with nothing to do where it is absent
abbrev pub unless_absent : Option Paragraph → Paragraph
unless_absent None = []
unless_absent (Some paragraph) = paragraph

-- the paragraph with this number, from 0; past the last one, one with nothing to do
abbrev pub paragraph_at : Program → ℕ → Paragraph
paragraph_at program number = unless_absent (slice_get program.paragraphs number)

-- The ranges of a program: the whole of it, and what a PERFORM names.

-- main, or the paragraphs from an entry to an exit
pub data Range : Type 0 where
  Main : Range
  Part : (entry : ℕ) → (exit : ℕ) → Range

-- the two are one range
abbrev pub same_range : Range → Range → Bool
same_range Main Main = true
same_range Main (Part entry exit) = false
same_range (Part entry exit) Main = false
same_range (Part entry exit) (Part other_entry other_exit) =
    if entry == other_entry then exit == other_exit else false
