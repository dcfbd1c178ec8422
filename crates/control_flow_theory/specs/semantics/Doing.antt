-- What the parts of a program do to a memory.
use Rattle.std.specs.Prelude.{ℕ, zero, suc, Bool, true, false, not, if◌then◌else◌, ◌==◌, ◌-◌, []}
use Rattle.control_flow_theory.specs.semantics.Outcome.{Tried, Got, Ends}
use Rattle.control_flow_theory.specs.language.Language.{Simple, Cond, Chooser, Amount, Act, Own, Set, Take, Lower, Test, Holds, Not, Is, Above, Picker, If, By, ByCell, Range, same_range}

-- what the parts that the theory doesn't look inside do: a choice gives the number of an arm, an
-- amount is never below zero
pub record Acting (Memory : Type 0) : Type 0 where
  -- what a statement of the program's own does
  pub act : Simple → Memory → Tried Memory (Unit {0})
  -- whether a condition holds
  pub test : Cond → Memory → Tried Memory Bool
  -- the arm that a chooser gives, from 0
  pub choose : Chooser → Memory → Tried Memory ℕ
  -- how often TIMES runs its body
  pub count : Amount → Memory → Tried Memory ℕ

-- the same with the words of restructuring
pub record Doing (Memory : Type 0) : Type 0 where
  -- what an act does
  pub act : Act → Memory → Tried Memory (Unit {0})
  -- whether a test holds
  pub test : Test → Memory → Tried Memory Bool
  -- the number of the arm that is chosen
  pub pick : Picker → Memory → Tried Memory ℕ
  -- how often TIMES runs its body
  pub count : Amount → Memory → Tried Memory ℕ

-- what was tried, with the value changed
abbrev pub giving : {Memory A B : Type 0} → (A → B) → Tried Memory A → Tried Memory B
giving f (Got trace value memory) = Got trace (f value) memory
giving f (Ends trace kind memory) = Ends trace kind memory

-- what was tried, with the memory changed
abbrev pub keeping : {Memory Other A : Type 0} → (Memory → Other) → Tried Memory A → Tried Other A
keeping f (Got trace value memory) = Got trace value (f memory)
keeping f (Ends trace kind memory) = Ends trace kind (f memory)

-- the arm of IF
abbrev pub arm_of : Bool → ℕ
arm_of true = 0
arm_of false = 1

-- what an act does in a program that owns no cells: a word on a cell does nothing, and none is in
-- it
abbrev pub alone_act : {Memory : Type 0} → Acting Memory → Act → Memory → Tried Memory (Unit {0})
alone_act acting (Own simple) memory = acting.act simple memory
alone_act acting (Set cell value) memory = Got [] tt memory
alone_act acting (Take cell amount) memory = Got [] tt memory
alone_act acting (Lower cell) memory = Got [] tt memory

-- what a test gives in a program without cells
abbrev pub alone_test : {Memory : Type 0} → Acting Memory → Test → Memory → Tried Memory Bool
alone_test acting (Holds cond) memory = acting.test cond memory
alone_test acting (Not test) memory = giving not (alone_test acting test memory)
alone_test acting (Is cell value) memory = Got [] true memory
alone_test acting (Above cell) memory = Got [] true memory

-- what a choice gives in a program without cells
abbrev pub alone_pick : {Memory : Type 0} → Acting Memory → Picker → Memory → Tried Memory ℕ
alone_pick acting (If test) memory = giving arm_of (alone_test acting test memory)
alone_pick acting (By chooser) memory = acting.choose chooser memory
alone_pick acting (ByCell cell) memory = Got [] 0 memory

-- the parts of a program without cells
abbrev pub alone : {Memory : Type 0} → Acting Memory → Doing Memory
alone acting =
    record {
      act = alone_act acting;
      test = alone_test acting;
      pick = alone_pick acting;
      count = acting.count;
    }

-- The cells of each range, beside the program's own memory.

-- the program's memory, and the value of each cell of each range
pub record Celled (Memory : Type 0) : Type 0 where
  -- the program's own memory
  pub own : Memory
  -- the value of each cell
  pub cells : Range → ℕ → ℕ

-- the memory with this one as the program's own, and the same cells
abbrev pub own_is : {Memory : Type 0} → Celled Memory → Memory → Celled Memory
own_is celled own = record { own = own; cells = celled.cells }

-- the memory in which the cell of the range holds the value
abbrev pub put : {Memory : Type 0} → Range → ℕ → ℕ → Celled Memory → Celled Memory
put range cell value celled = record {
  own = celled.own;
  cells = λ r c. if same_range r range then (if c == cell then value else celled.cells r c)
      else celled.cells r c;
}

-- the cell of the range holds the count that was tried, if it was got
abbrev pub taken : {Memory : Type 0} → Range → ℕ → Celled Memory → Tried Memory ℕ →
    Tried (Celled Memory) (Unit {0})
taken range cell celled (Got trace value memory) =
    Got trace tt (put range cell value (own_is celled memory))
taken range cell celled (Ends trace kind memory) = Ends trace kind (own_is celled memory)

-- what an act of the range does to the memory and the cells
abbrev pub celled_act : {Memory : Type 0} → Acting Memory → Range → Act → Celled Memory →
    Tried (Celled Memory) (Unit {0})
celled_act acting range (Own simple) celled = keeping (own_is celled) (acting.act simple celled.own)
celled_act acting range (Set cell value) celled = Got [] tt (put range cell value celled)
celled_act acting range (Take cell amount) celled =
    taken range cell celled (acting.count amount celled.own)
celled_act acting range (Lower cell) celled =
    Got [] tt (put range cell (celled.cells range cell - 1) celled)

-- the number is above zero
abbrev pub is_above : ℕ → Bool
is_above zero = false
is_above (suc n) = true

-- what a test of the range gives
abbrev pub celled_test : {Memory : Type 0} → Acting Memory → Range → Test → Celled Memory →
    Tried (Celled Memory) Bool
celled_test acting range (Holds cond) celled = keeping (own_is celled) (acting.test cond celled.own)
celled_test acting range (Not test) celled = giving not (celled_test acting range test celled)
celled_test acting range (Is cell value) celled = Got [] (celled.cells range cell == value) celled
celled_test acting range (Above cell) celled = Got [] (is_above (celled.cells range cell)) celled

-- which arm a choice of the range gives; by a cell, the arm before its value
abbrev pub celled_pick : {Memory : Type 0} → Acting Memory → Range → Picker → Celled Memory →
    Tried (Celled Memory) ℕ
celled_pick acting range (If test) celled = giving arm_of (celled_test acting range test celled)
celled_pick acting range (By chooser) celled =
    keeping (own_is celled) (acting.choose chooser celled.own)
celled_pick acting range (ByCell cell) celled = Got [] (celled.cells range cell - 1) celled

-- the statements of one range, whose cells are its own
abbrev pub celled : {Memory : Type 0} → Acting Memory → Range → Doing (Celled Memory)
celled acting range = record {
  act = celled_act acting range;
  test = celled_test acting range;
  pick = celled_pick acting range;
  count = λ amount memory. keeping (own_is memory) (acting.count amount memory.own);
}
