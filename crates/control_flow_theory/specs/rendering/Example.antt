-- A small family, and the program that is written of it.
use Rattle.std.specs.Prelude.{ℕ, ◌≡◌, Bool, true, false, if◌then◌else◌, ◌==◌, List, [], ◌∷◌, None}
use Rattle.cob_tree.specs.declared.calc.Calc.TheVariants as calc
use Rattle.control_flow_theory.specs.language.Language.{Chooser, Read, Arith, Own, Set, Take, Lower, Holds, Is, Above, Picker, If, By, ByCell, Times, Until, Do, Choose, Loop, Perform, StopRun, Stmts, none, also, done, given, missing, Nested, Performed, Program, Range, Main, Part}
use Rattle.control_flow_theory.specs.semantics.Parts.{says, is, amount}
use Rattle.control_flow_theory.specs.semantics.Graph.{Tree, tree, Return, Stop, Family}
use Rattle.control_flow_theory.specs.language.Structured.{IsStructuredControl}
use Rattle.control_flow_theory.specs.rendering.Rendering.{Empty, Continues, Goes, Naming, Procedure, rendered}
use Rattle.control_flow_theory.specs.rendering.Procedures.{Writable, AreProcedures}

-- main's cells: a flag, a state, what is left of a TIMES, and an exit number
abbrev pub flag : ℕ
flag = 0

-- the cell that is a state
abbrev pub state : ℕ
state = 1

-- the cell that holds the turns that are left of a TIMES
abbrev pub count : ℕ
count = 2

-- the cell that holds the number of an exit
abbrev pub exit_number : ℕ
exit_number = 3

-- READ with an AT END
abbrev pub reading : Chooser
reading = Read 7 None true

-- arithmetic with a phrase on size errors
abbrev pub adding : Chooser
adding = Arith (calc.Add []) []

-- a READ until its end, an IF that has nothing to do where it holds, arithmetic that does nothing
-- after it, two nodes that go to each other, a TIMES that is left early, a loop with two exits,
-- and a loop over a procedure
abbrev pub main_body : Stmts
main_body =
    also (Do (Own (says 1)))
    (also (Do (Set flag 0))
    (also (Loop (Until false (Is flag 1))
    (Nested (also
    (Choose (By reading)
    (given (also (Do (Set flag 1)) none) (given (also (Perform 4 6) none) done)))
    none)))
    (also (Choose (If (Holds (is 2))) (given none (given (also (Do (Own (says 3))) none) done)))
    (also (Choose (By adding) (given none (given none done)))
    (also (Do (Set state 1))
    (also (Loop (Until false (Is state 0))
    (Nested (also
    (Choose (ByCell state)
    (given (also (Do (Set state 2)) none) (given (also (Do (Set state 0)) none) done))) none)))
    (also (Do (Take count (amount 5)))
    (also (Loop (Until false (Is flag 1))
    (Nested (also
    (Choose (If (Above count))
    (given (also (Do (Lower count)) none) (given (also (Do (Set flag 1)) none) done))) none)))
    (also (Do (Set exit_number 0))
    (also (Loop (Until false (Above exit_number))
    (Nested (also
    (Choose (If (Holds (is 2)))
    (given (also (Do (Set exit_number 1)) none)
    (given (also (Do (Set exit_number 2)) none) done))) none)))
    (also (Choose (ByCell exit_number) (given (also (Do (Own (says 3))) none) (given none done)))
    (also (Loop (Times (amount 5)) (Performed 9 9)) none))))))))))))

-- main, a range that performs the other one, and a range with nothing to do
abbrev pub family_procedures : List Procedure
family_procedures =
    record { range = Main; body = main_body; end = Stop }
    ∷ record { range = Part 4 6; body = also (Perform 9 9) none; end = Return }
    ∷ record { range = Part 9 9; body = none; end = Return }
    ∷ []

-- the tree of a range by its entry
abbrev pub part_tree : ℕ → Tree
part_tree entry = if entry == 4 then tree (also (Perform 9 9) none) Return else tree none Return

-- the tree of each range
abbrev pub node_of : Range → Tree
node_of Main = tree main_body Stop
node_of (Part entry exit) = part_tree entry

-- each range has its one tree
abbrev pub small_family : Family
small_family = record { entry = λ range. 0; node = λ range label. node_of range }

-- the range is main
abbrev pub is_main : Range → Bool
is_main Main = true
is_main (Part entry exit) = false

-- every part may be written, and main's cells are what they are for
abbrev pub small_kinds : Writable
small_kinds = record {
  simples = λ simple. true;
  conds = λ cond. true;
  choosers = λ chooser arms. true;
  amounts = λ amount. true;
  sets = λ range cell value. is_main range;
  compares = λ range cell value. is_main range;
  counts = λ range cell. cell == count;
  aboves = λ range cell. is_main range;
  chooses = λ range cell arms. if cell == state then true else cell == exit_number;
}

-- an arm with nothing to do holds CONTINUE where it must be written, and else goes
abbrev pub must : Bool → Empty
must true = Continues
must false = Goes

-- what becomes of an empty arm: the first of IF and of arithmetic is written, each of a choice by a
-- state, and the first of one by an exit number; others go
abbrev pub always : Range → Picker → ℕ → Empty
always range (If test) arm = must (arm == 0)
always range (By (Arith calc into)) arm = must (arm == 0)
always range (By chooser) arm = Goes
always range (ByCell cell) arm = must (if cell == state then true else arm == 0)

-- the naming whose empty arms are so, and whose choices by the state have no WHEN OTHER
abbrev pub named : Naming → Naming
named naming = record naming {
  lacks_other = λ range cell. cell == state;
  empty = always;
}

-- the paragraphs of the three ranges have the numbers 0, 1 and 2
abbrev pub written_program : Naming → Program
written_program n = record {
  paragraphs =
      (also (Do (Own (n.simple (says 1))))
      (also (Do (Own (n.set Main flag 0)))
      (also (Loop (Until false (Holds (n.is Main flag 1)))
      (Nested (also
      (Choose (By (n.chooser reading (true ∷ true ∷ [])))
      (given (also (Do (Own (n.set Main flag 1))) none) (given (also (Perform 1 1) none) done)))
      none)))
      (also (Choose (If (Holds (n.cond (is 2))))
      (given (also (Do (Own n.nothing)) none)
      (given (also (Do (Own (n.simple (says 3)))) none) done)))
      (also (Choose (By (n.chooser adding (true ∷ false ∷ [])))
      (given (also (Do (Own n.nothing)) none) (missing done)))
      (also (Do (Own (n.set Main state 1)))
      (also (Loop (Until false (Holds (n.is Main state 0)))
      (Nested (also
      (Choose (By (n.by_cell Main state (true ∷ true ∷ [])))
      (given (also (Do (Own (n.set Main state 2))) none)
      (given (also (Do (Own (n.set Main state 0))) none) (missing done)))) none)))
      (also (Do (Own (n.take Main count (amount 5))))
      (also (Loop (Until false (Holds (n.is Main flag 1)))
      (Nested (also
      (Choose (If (Holds (n.above Main count)))
      (given (also (Do (Own (n.lower Main count))) none)
      (given (also (Do (Own (n.set Main flag 1))) none) done))) none)))
      (also (Do (Own (n.set Main exit_number 0)))
      (also (Loop (Until false (Holds (n.above Main exit_number)))
      (Nested (also
      (Choose (If (Holds (n.cond (is 2))))
      (given (also (Do (Own (n.set Main exit_number 1))) none)
      (given (also (Do (Own (n.set Main exit_number 2))) none) done))) none)))
      (also (Choose (By (n.by_cell Main exit_number (true ∷ false ∷ [])))
      (given (also (Do (Own (n.simple (says 3)))) none) (missing done)))
      (also (Loop (Times (n.amount (amount 5))) (Performed 2 2))
      (also StopRun none))))))))))))) ∷ [])
      ∷ (also (Perform 2 2) none ∷ [])
      ∷ (also (Do (Own n.nothing)) none ∷ [])
      ∷ [];
}

-- the family is written as that program, under any naming
abbrev pub IsWrittenAs : Type 0
IsWrittenAs = (naming : Naming) → rendered (named naming) family_procedures ≡ written_program naming

-- the family can be written
abbrev pub IsWritable : Type 0
IsWritable =
    (naming : Naming) → AreProcedures small_family (named naming) small_kinds family_procedures

-- the written program is structured
abbrev pub IsThenStructured : Type 0
IsThenStructured = (naming : Naming) → IsStructuredControl (written_program naming)
