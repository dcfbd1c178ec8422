-- Tests that ask no more than others.
use Rattle.std.specs.Prelude.{ℕ, ◌≡◌, true}
use Rattle.cob_tree.specs.declared.cond.Cond.{Cond}
use Rattle.cob_tree.specs.declared.place.Expr.{Expr}
use Rattle.cob_tree.specs.declared.place.Operand.{Operand}
use Rattle.cob_tree.specs.declared.place.Place.{Place}
use Rattle.cob_tree.specs.declared.stmt.Stmt.{Stmt}
use Rattle.round_trip.specs.fitting_statements.Fits.{Fits}
use Rattle.round_trip.specs.fitting_statements.Statement.{fit_stmt}

-- what passes these passes the others too, but for jumps
pub record PartsArePassed (fits others : Fits) : Type 0 where
  -- an operand as a value
  pub value : (operand : Operand) → fits.value operand ≡ true → others.value operand ≡ true
  -- an operand that arithmetic reads
  pub number : (operand : Operand) → fits.number operand ≡ true → others.number operand ≡ true
  -- an operand that counts by a whole number
  pub whole : (operand : Operand) → fits.whole operand ≡ true → others.whole operand ≡ true
  -- a count before statements that are done so often
  pub turns : (operand : Operand) → fits.turns operand ≡ true → others.turns operand ≡ true
  -- a place that takes a value
  pub receives : (place : Place) → fits.receives place ≡ true → others.receives place ≡ true
  -- a place that arithmetic reads and changes
  pub number_place : (place : Place) → fits.number_place place ≡ true →
      others.number_place place ≡ true
  -- a place that arithmetic only sets
  pub result_place : (place : Place) → fits.result_place place ≡ true →
      others.result_place place ≡ true
  -- a place that chooses a jump
  pub whole_place : (place : Place) → fits.whole_place place ≡ true →
      others.whole_place place ≡ true
  -- a name of level 88 that is SET
  pub condition_place : (place : Place) → fits.condition_place place ≡ true →
      others.condition_place place ≡ true
  -- a value with the place that takes it
  pub moves : (from : Operand) (place : Place) → fits.value from ≡ true →
      fits.receives place ≡ true → fits.moves from place ≡ true → others.moves from place ≡ true
  -- the place of INTO, for records of this file
  pub into : (file : ℕ) (place : Place) → fits.receives place ≡ true →
      fits.into file place ≡ true → others.into file place ≡ true
  -- an expression as a value
  pub expr_value : (expr : Expr) → fits.expr_value expr ≡ true → others.expr_value expr ≡ true
  -- an expression that arithmetic works out
  pub expr_number : (expr : Expr) → fits.expr_number expr ≡ true → others.expr_number expr ≡ true
  -- a subject of EVALUATE with what it is compared with
  pub compares : (subject expr : Expr) → fits.expr_value subject ≡ true →
      fits.expr_value expr ≡ true → fits.compares subject expr ≡ true →
      others.compares subject expr ≡ true
  pub cond : (cond : Cond) → fits.cond cond ≡ true → others.cond cond ≡ true
  pub file : (file : ℕ) → fits.file file ≡ true → others.file file ≡ true
  -- a record that is written
  pub entry_record : (entry : ℕ) → fits.entry_record entry ≡ true →
      others.entry_record entry ≡ true
  -- a record with what it is written from
  pub writes : (entry : ℕ) (from : Operand) → fits.entry_record entry ≡ true →
      fits.value from ≡ true → fits.writes entry from ≡ true → others.writes entry from ≡ true

-- what passes these passes the others too, and where they jump to as well
pub record ArePassed (fits others : Fits) : Type 0 where
  pub parts : PartsArePassed fits others
  -- a paragraph to go to
  pub label : (to : ℕ) → fits.label to ≡ true → others.label to ≡ true
  -- an entry and an exit that are performed
  pub range : (entry exit : ℕ) → fits.range entry exit ≡ true → others.range entry exit ≡ true

-- a statement that passes these passes the others, where all parts do
abbrev pub StatementsArePassed : Type 0
StatementsArePassed =
    (fits others : Fits) → ArePassed fits others → (stmt : Stmt) → fit_stmt fits stmt ≡ true →
    fit_stmt others stmt ≡ true
