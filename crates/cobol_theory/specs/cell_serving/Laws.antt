-- That the written parts serve.
use Rattle.std.specs.Prelude.{ℕ, ◌≡◌, ◌^◌, ◌<◌, ◌≤◌, Bool, true, false, List, length, Ok, Err, Some, IsTrue, unsigned_abs, ◌⊎◌}
use Rattle.cob_num.specs.declared.number.Dec.{Dec}
use Rattle.cob_tree.specs.declared.ending.Abend.{Abend}
use Rattle.cob_tree.specs.declared.number.Number.{Number}
use Rattle.cob_tree.specs.declared.place.Operand.{Operand}
use Rattle.cob_store.specs.declared.area.Area.{Area}
use Rattle.cob_store.specs.Store.{Roots}
use Rattle.cob_store.specs.Place.{memory_of, operand_value}
use Rattle.control_flow_theory.specs.language.Language.{Simple, Cond, Chooser, Amount, Range, Picker}
use Rattle.control_flow_theory.specs.semantics.Outcome.{Tried, Got, Ends}
use Rattle.meanings.specs.statements.Filing.{Declared}
use Rattle.control_flow_theory.specs.rendering.Rendering.{Empty}
use Rattle.control_flow_theory.specs.rendering.Procedures.{Writable}
use Rattle.control_flow_theory.specs.rendering.Serving.{Serves, SameArm}
use Rattle.cobol_theory.specs.added_items.Within.{cond_within, operand_within}
use Rattle.cobol_theory.specs.added_items.Own.{items, stmt_own, chooser_own}
use Rattle.cobol_theory.specs.added_items.Widened.{AddedItems, declared_beside, IsWhole, AreApart}
use Rattle.cobol_theory.specs.cobol_meaning.Acting.{Memory, acting, chooses_in}
use Rattle.cobol_theory.specs.cobol_meaning.Runs.{Files, files_left, first_memory}
use Rattle.cobol_theory.specs.cell_items.Laws.{IsNumbered}
use Rattle.cobol_theory.specs.cell_serving.Table.{CellTable, AreCells, Carries}
use Rattle.cobol_theory.specs.cell_serving.Naming.{cell_naming}

-- the operand is worth a whole number of 18 digits at most, or can't be read, whatever is stored
abbrev pub IsWholeAmount : List Area → Operand → Type 0
IsWholeAmount areas operand =
    (store : Roots) →
    ((abend : Abend) × (operand_value operand (memory_of areas store) ≡ Err abend))
    ⊎ ((worth : Dec) × (operand_value operand (memory_of areas store) ≡ Ok (Some worth))
    × (worth.scale ≡ 0) × (unsigned_abs worth.value < 10 ^ 18))

-- two choices show the same, leave the same memory and take the same of so many arms, or both none;
-- or both end the run
abbrev pub SameChoice : (arms : ℕ) → Tried Memory ℕ → Tried Memory ℕ → Type 0
SameChoice arms (Got trace arm memory) (Got other_trace other_arm other) =
    (trace ≡ other_trace) × SameArm arms arm other_arm × (memory ≡ other)
SameChoice arms (Got trace arm memory) (Ends other_trace kind other) = ⊥
SameChoice arms (Ends trace kind memory) (Got other_trace other_arm other) = ⊥
SameChoice arms (Ends trace kind memory) (Ends other_trace other_kind other) =
    (trace ≡ other_trace) × (kind ≡ other_kind) × (memory ≡ other)

-- the chooser that is written takes the same arm
abbrev pub ChoosesAlike : Declared → Chooser → Chooser → (arms : ℕ) → Type 0
ChoosesAlike declared chooser written arms =
    (memory : Memory) →
    SameChoice arms (chooses_in declared chooser memory) (chooses_in declared written memory)

-- the parts of the program name its own items, and the words on cells suit their items
pub record AreOfKinds (declared : Declared) (added : AddedItems) (table : CellTable)
    (chooser : Chooser → List Bool → Chooser) (kinds : Writable) : Type 0 where
  -- a statement that may be written names own items
  pub simples : (simple : Simple) → kinds.simples simple ≡ true → IsTrue (stmt_own declared simple)
  -- a condition that may be written names own items
  pub conds : (cond : Cond) → kinds.conds cond ≡ true →
      IsTrue (cond_within (items declared) cond)
  -- a chooser that may be written names own items, and as it is written takes the same arm
  pub choosers : (each : Chooser) (arms : List Bool) → kinds.choosers each arms ≡ true →
      IsTrue (chooser_own declared each)
      × ChoosesAlike (declared_beside added declared) each (chooser each arms) (length arms)
  -- an operand of TIMES that may be written names own items, and is a whole number
  pub amounts : (amount : Amount) → kinds.amounts amount ≡ true →
      IsTrue (operand_within (items declared) amount)
      × IsWholeAmount (declared_beside added declared).areas.items amount
  -- a cell to which a number may be moved has room for it
  pub sets : (range : Range) (cell value : ℕ) → kinds.sets range cell value ≡ true →
      (table.stands range cell ≡ true) × (table.changes range cell ≡ true)
      × (table.signed range cell ≡ false) × (value ≤ table.most range cell)
  -- a cell that counts the turns of a TIMES has a sign and 18 digits
  pub counts : (range : Range) (cell : ℕ) → kinds.counts range cell ≡ true →
      (table.stands range cell ≡ true) × (table.changes range cell ≡ true)
      × (table.signed range cell ≡ true) × (table.digits range cell ≡ 18)
  -- a cell that may be compared has room for the number
  pub compares : (range : Range) (cell value : ℕ) → kinds.compares range cell value ≡ true →
      (table.stands range cell ≡ true) × (table.signed range cell ≡ false)
      × (value ≤ table.most range cell)
  -- a cell that may be tested for being above zero has an item
  pub aboves : (range : Range) (cell : ℕ) → kinds.aboves range cell ≡ true →
      table.stands range cell ≡ true
  -- a cell by which may be chosen holds the number of an arm
  pub chooses : (range : Range) (cell arms : ℕ) → kinds.chooses range cell arms ≡ true →
      (table.stands range cell ≡ true) × (table.signed range cell ≡ false)
      × (table.most range cell ≤ arms) × (arms < 10 ^ table.digits range cell)

-- each literal of at most 18 digits is worth its number
abbrev pub AreLiterals : (ℕ → Number) → Type 0
AreLiterals literal =
    (digits number : ℕ) → digits ≤ 18 → number < 10 ^ digits →
    IsNumbered digits number (literal number)

-- at the start each cell's item holds zero after what the program itself starts with
abbrev pub StartsCarried : Declared → AddedItems → CellTable → Type 0
StartsCarried declared added table =
    (files : Files) →
    Carries declared table
    (record { own = first_memory declared files; cells = λ range cell. 0 })
    (first_memory (declared_beside added declared) files)

-- the parts as they are written do what they did, where the items of the cells carry what the cells
-- hold
abbrev pub WrittenPartsServe : Type 0
WrittenPartsServe =
    (declared : Declared) (added : AddedItems) (table : CellTable) (literal : ℕ → Number)
    (chooser : Chooser → List Bool → Chooser) (empty : Range → Picker → ℕ → Empty)
    (kinds : Writable) →
    IsWhole declared → AreApart added → AreCells declared added table → AreLiterals literal →
    AreOfKinds declared added table chooser kinds → StartsCarried declared added table →
    Serves (acting declared) files_left (first_memory declared)
    (acting (declared_beside added declared)) files_left
    (first_memory (declared_beside added declared)) (Carries declared table)
    (cell_naming literal (items declared) table chooser empty) kinds
