-- Items of a program in which only the first paragraph performs, and nothing leads to that one.
use Rattle.std.proofs.Common.{ℕ, ◌≤◌, List, [], ◌∷◌}
use Rattle.control_flow_theory.specs.language.Language.{Act, Test, If, Choose, Go, Perform, StopRun, none, also, done, given, missing, Program}
use Rattle.control_flow_theory.specs.language.Language as language
use Rattle.control_flow_theory.specs.language.Items.{Item, Do, SentenceEnd}
use Rattle.control_flow_theory.specs.semantics.Source.{rest_of}

-- an item that performs nothing, and jumps past the first paragraph if at all
pub data Quiet : Item → Type 0 where
  ends : Quiet SentenceEnd
  acts : (act : Act) → Quiet (Do (language.Do act))
  jumps : (to : ℕ) → 1 ≤ to → Quiet (Do (Go to))
  picks : (test : Test) (to : ℕ) → 1 ≤ to →
      Quiet (Do (Choose (If test) (given (also (Go to) none) (missing done))))

-- an item of the first paragraph: it may perform a range behind it, or stop
pub data Fit : Item → Type 0 where
  quiet : (item : Item) → Quiet item → Fit item
  performs : (entry exit : ℕ) → 1 ≤ entry → Fit (Do (Perform entry exit))
  stops : Fit (Do StopRun)

abbrev pub AllQuiet : List Item → Type 0
AllQuiet [] = Unit {0}
AllQuiet (item ∷ rest) = Quiet item × AllQuiet rest

abbrev pub AllFit : List Item → Type 0
AllFit [] = Unit {0}
AllFit (item ∷ rest) = Fit item × AllFit rest

pub quiet-fit : (rest : List Item) → AllQuiet rest → AllFit rest
quiet-fit [] h = tt
quiet-fit (item ∷ rest) h = (quiet item h.0, quiet-fit rest h.1)

-- a program of which only the first paragraph performs
pub record IsFlat (program : Program) : Type 0 where
  pub first : AllFit (rest_of program 0)
  pub later : (number : ℕ) → 1 ≤ number → AllQuiet (rest_of program number)
