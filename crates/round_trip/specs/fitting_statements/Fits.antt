-- Tests of the parts of statements, one for each use of a part.
use Rattle.std.specs.Prelude.{ℕ, Bool}
use Rattle.cob_tree.specs.declared.cond.Cond.{Cond}
use Rattle.cob_tree.specs.declared.place.Expr.{Expr}
use Rattle.cob_tree.specs.declared.place.Operand.{Operand}
use Rattle.cob_tree.specs.declared.place.Place.{Place}

-- a test of each part, by its use: which may be used so
pub record Fits : Type 0 where
  -- an operand as a value
  pub value : Operand → Bool
  -- an operand that arithmetic reads
  pub number : Operand → Bool
  -- an operand that counts by a whole number
  pub whole : Operand → Bool
  -- a count before statements that are done so often
  pub turns : Operand → Bool
  -- a place that takes a value
  pub receives : Place → Bool
  -- a place that arithmetic reads and changes
  pub number_place : Place → Bool
  -- a place that arithmetic only sets
  pub result_place : Place → Bool
  -- a place that chooses a jump
  pub whole_place : Place → Bool
  -- a name of level 88 that is SET
  pub condition_place : Place → Bool
  -- a value with the place that takes it
  pub moves : Operand → Place → Bool
  -- the place of INTO, for records of this file
  pub into : ℕ → Place → Bool
  -- an expression as a value
  pub expr_value : Expr → Bool
  -- an expression that arithmetic works out
  pub expr_number : Expr → Bool
  -- a subject of EVALUATE with what it is compared with
  pub compares : Expr → Expr → Bool
  -- a condition
  pub cond : Cond → Bool
  -- a file that is opened, read or closed
  pub file : ℕ → Bool
  -- a record that is written
  pub entry_record : ℕ → Bool
  -- the operand of FROM, for this record
  pub writes : ℕ → Operand → Bool
  -- a paragraph to go to
  pub label : ℕ → Bool
  -- an entry and an exit that may be performed
  pub range : ℕ → ℕ → Bool
