-- Parts that may be written and pass tests.
use Rattle.std.specs.Prelude.{ℕ, ◌≡◌, ◌<◌, ◌≤◌, Bool, true, false, List, [], ◌∷◌, length}
use Rattle.cob_tree.specs.declared.cond.Cond.TheVariants.{Not}
use Rattle.cob_tree.specs.declared.place.Operand.{Operand}
use Rattle.cob_tree.specs.declared.place.Place.{Place}
use Rattle.cob_tree.specs.declared.stmt.Stmt.TheVariants as stmts
use Rattle.control_flow_theory.specs.language.Control.{always}
use Rattle.control_flow_theory.specs.language.Language.{Simple, Cond, Chooser, Amount, Range}
use Rattle.control_flow_theory.specs.rendering.Rendering.{Naming}
use Rattle.control_flow_theory.specs.rendering.Procedures.{Writable}
use Rattle.program_facts.specs.term_counts.Condition.{cond_terms}
use Rattle.cob_base.specs.Limit.{max_terms}
use Rattle.round_trip.specs.fitting_statements.Fits.{Fits}
use Rattle.round_trip.specs.fitting_statements.Statement.{fit_stmt}
use Rattle.round_trip.specs.fitting_statements.fit_control.Fit.{without_jumps, fit_chooser, moves_number}

-- what passes may be written; nothing more is asked of a chooser's arms
pub record PartsServed (fits : Fits) (kinds : Writable) : Type 0 where
  -- none of them jumps
  pub simples : (simple : Simple) → fit_stmt (without_jumps fits) simple ≡ true →
      kinds.simples simple ≡ true
  -- a condition that passes may be written
  pub conds : (cond : Cond) → fits.cond cond ≡ true → kinds.conds cond ≡ true
  -- after a NOT too
  pub nots : (cond : Cond) → fits.cond (Not cond) ≡ true → fits.cond cond ≡ true
  -- a chooser that passes may be written, whatever its arms
  pub choosers : (chooser : Chooser) (arms : List Bool) → fit_chooser fits chooser ≡ true →
      kinds.choosers chooser arms ≡ true
  -- a count that passes may be written
  pub amounts : (amount : Amount) → fits.whole amount ≡ true → kinds.amounts amount ≡ true
  -- what VARYING begins with
  pub settings : (item : Place) (from : Operand) → fits.number_place item ≡ true →
      fits.number from ≡ true → kinds.simples (stmts.Move from (item ∷ [])) ≡ true

-- Which conditions pass: not that zero is zero, as where a loop has no control; and NOT one
-- that passes, where that doesn't make it too large to be read back.
pub record CondsFit (fits : Fits) : Type 0 where
  -- that zero is zero doesn't pass
  pub always : fits.cond always ≡ false
  -- NOT of a condition passes where that does
  pub nots : (cond : Cond) → fits.cond cond ≡ true →
      cond_terms (Not cond) ≤ max_terms → fits.cond (Not cond) ≡ true

-- What parts are called passes, where they may be written, and so do the words on cells; so does a
-- statement that begins a VARYING, and a choice by a cell that has arms enough. There are so many
-- procedures.
pub record NamesFit (naming : Naming) (kinds : Writable) (may_begin : Simple → Bool)
    (enough : Range → (cell arms : ℕ) → Bool) (fits : Fits) (procedures : ℕ) : Type 0 where
  -- CONTINUE passes
  pub nothing : fit_stmt fits naming.nothing ≡ true
  pub simples : (simple : Simple) → kinds.simples simple ≡ true →
      fit_stmt fits (naming.simple simple) ≡ true
  -- a statement that may begin a VARYING passes as one
  pub begins : (simple : Simple) → may_begin simple ≡ true →
      moves_number fits (naming.simple simple) ≡ true
  pub conds : (cond : Cond) → kinds.conds cond ≡ true → fits.cond (naming.cond cond) ≡ true
  pub choosers : (chooser : Chooser) (arms : List Bool) → kinds.choosers chooser arms ≡ true →
      fit_chooser fits (naming.chooser chooser arms) ≡ true
  pub amounts : (amount : Amount) → kinds.amounts amount ≡ true →
      (fits.whole (naming.amount amount) ≡ true) × (fits.turns (naming.amount amount) ≡ true)
  -- a cell is set
  pub set : (range : Range) (cell value : ℕ) → kinds.sets range cell value ≡ true →
      fit_stmt fits (naming.set range cell value) ≡ true
  -- a cell takes a count
  pub take : (range : Range) (cell : ℕ) (amount : Amount) → kinds.counts range cell ≡ true →
      kinds.amounts amount ≡ true → fit_stmt fits (naming.take range cell amount) ≡ true
  -- a cell is lowered by one
  pub lower : (range : Range) (cell : ℕ) → kinds.counts range cell ≡ true →
      fit_stmt fits (naming.lower range cell) ≡ true
  -- a cell is compared with a number
  pub is : (range : Range) (cell value : ℕ) → kinds.compares range cell value ≡ true →
      fits.cond (naming.is range cell value) ≡ true
  -- a cell is tested for being above zero
  pub above : (range : Range) (cell : ℕ) → kinds.aboves range cell ≡ true →
      fits.cond (naming.above range cell) ≡ true
  -- it chooses among as many arms
  pub by_cell : (range : Range) (cell : ℕ) (arms : List Bool) (count : ℕ) →
      length arms ≡ count → kinds.chooses range cell count ≡ true →
      enough range cell count ≡ true → fit_chooser fits (naming.by_cell range cell arms) ≡ true
  -- each procedure is performed by its place
  pub ranges : (place : ℕ) → place < procedures → fits.range place place ≡ true
