-- Parts that may be written and can be printed.
use Rattle.std.specs.Prelude.{ℕ, ◌≡◌, Bool, true, List, length}
use Rattle.control_flow_theory.specs.language.Language.{Simple, Cond, Chooser, Amount, Range}
use Rattle.control_flow_theory.specs.rendering.Rendering.{Naming}
use Rattle.control_flow_theory.specs.rendering.Procedures.{Writable}
use Rattle.round_trip.specs.printable.Part.{is_printable_operand}
use Rattle.round_trip.specs.printable.Beside.{is_printable_cond}
use Rattle.round_trip.specs.printable.Statement.{is_printable_stmt}
use Rattle.round_trip.specs.printable.printable_control.Prints.{chooser_prints}

-- what can be printed may be written; nothing more is asked of a chooser's arms
pub record PartsServed (kinds : Writable) : Type 0 where
  pub simples : (simple : Simple) → is_printable_stmt simple ≡ true →
      kinds.simples simple ≡ true
  pub conds : (cond : Cond) → is_printable_cond cond ≡ true → kinds.conds cond ≡ true
  pub choosers : (chooser : Chooser) (arms : List Bool) → chooser_prints chooser ≡ true →
      kinds.choosers chooser arms ≡ true
  pub amounts : (amount : Amount) → is_printable_operand amount ≡ true →
      kinds.amounts amount ≡ true

-- what parts are called can be printed, where they may be written
pub record NamesPrint (naming : Naming) (kinds : Writable) : Type 0 where
  -- CONTINUE
  pub nothing : is_printable_stmt naming.nothing ≡ true
  pub simples : (simple : Simple) → kinds.simples simple ≡ true →
      is_printable_stmt (naming.simple simple) ≡ true
  pub conds : (cond : Cond) → kinds.conds cond ≡ true →
      is_printable_cond (naming.cond cond) ≡ true
  pub choosers : (chooser : Chooser) (arms : List Bool) → kinds.choosers chooser arms ≡ true →
      chooser_prints (naming.chooser chooser arms) ≡ true
  pub amounts : (amount : Amount) → kinds.amounts amount ≡ true →
      is_printable_operand (naming.amount amount) ≡ true
  -- a cell is set
  pub set : (range : Range) (cell value : ℕ) → kinds.sets range cell value ≡ true →
      is_printable_stmt (naming.set range cell value) ≡ true
  -- a cell takes a count
  pub take : (range : Range) (cell : ℕ) (amount : Amount) → kinds.amounts amount ≡ true →
      is_printable_stmt (naming.take range cell amount) ≡ true
  -- a cell is lowered by one
  pub lower : (range : Range) (cell : ℕ) → is_printable_stmt (naming.lower range cell) ≡ true
  -- a cell is compared with a number
  pub is : (range : Range) (cell value : ℕ) → kinds.compares range cell value ≡ true →
      is_printable_cond (naming.is range cell value) ≡ true
  -- a cell is tested for being above zero
  pub above : (range : Range) (cell : ℕ) → is_printable_cond (naming.above range cell) ≡ true
  -- it chooses among as many arms
  pub by_cell : (range : Range) (cell : ℕ) (arms : List Bool) (count : ℕ) →
      length arms ≡ count → kinds.chooses range cell count ≡ true →
      chooser_prints (naming.by_cell range cell arms) ≡ true
