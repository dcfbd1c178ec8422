-- What is still to do at a place, the same in a source paragraph and in the body of a tree, and
-- the returns that are pending.
use Rattle.std.specs.Prelude.{ℕ, zero, suc, Bool, true, false, if◌then◌else◌, ◌==◌, List, [], ◌∷◌}
use Rattle.control_flow_theory.specs.language.Language.{Act, Test, Stmt, Perform, Stmts, none, also, Arms, done, given, missing, Body, Nested, Performed, Paragraph}

-- what is left of a loop: turns that are counted, a test, and of VARYING whether the test was
-- reached before
pub data Turning : Type 0 where
  Counted : (turns : ℕ) → Turning
  Tests : (test : Test) → Turning
  Steps : (reached : Bool) → (step : Act) → (test : Test) → Turning
  StepsAfter : (step : Act) → (test : Test) → Turning

-- a statement, the end of a sentence, or the remainder of a loop
pub data Item : Type 0 where
  Do : Stmt → Item
  SentenceEnd : Item
  Turn : Turning → Body → Item

-- a return that is pending: the paragraph at whose end it is made, with the paragraph and the rest
-- to go on with
pub record Pending : Type 0 where
  pub end : ℕ
  pub paragraph : ℕ
  pub rest : List Item

-- some return is pending at the end of this paragraph
abbrev pub ends_at : ℕ → List Pending → Bool
ends_at number [] = false
ends_at number (return ∷ returns) = if return.end == number then true else ends_at number returns

-- the statements, and then the rest
abbrev pub before : Stmts → List Item → List Item
before none rest = rest
before (also stmt stmts) rest = Do stmt ∷ before stmts rest

-- a loop's body, and then the rest
abbrev pub before_body : Body → List Item → List Item
before_body (Nested stmts) rest = before stmts rest
before_body (Performed entry exit) rest = Do (Perform entry exit) ∷ rest

-- all that is to do in a paragraph
abbrev pub items_of : Paragraph → List Item
items_of [] = []
items_of (sentence ∷ sentences) = before sentence (SentenceEnd ∷ items_of sentences)

-- the arm with this number, from 0, and then the rest; nothing stands for one that is missing
abbrev pub before_arm : Arms → ℕ → List Item → List Item
before_arm done k rest = rest
before_arm (given arm others) zero rest = before arm rest
before_arm (given arm others) (suc k) rest = before_arm others k rest
before_arm (missing others) zero rest = rest
before_arm (missing others) (suc k) rest = before_arm others k rest

-- the rest after its first sentence end
abbrev pub past_sentence : List Item → List Item
past_sentence [] = []
past_sentence (Do stmt ∷ rest) = past_sentence rest
past_sentence (SentenceEnd ∷ rest) = rest
past_sentence (Turn turning body ∷ rest) = past_sentence rest

-- the rest from its first loop remainder on, which stays or goes
abbrev pub from_loop : Bool → List Item → List Item
from_loop cycle [] = []
from_loop cycle (Do stmt ∷ rest) = from_loop cycle rest
from_loop cycle (SentenceEnd ∷ rest) = from_loop cycle rest
from_loop true (Turn turning body ∷ rest) = Turn turning body ∷ rest
from_loop false (Turn turning body ∷ rest) = rest
