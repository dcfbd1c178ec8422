-- Parts of the worked programs, and what they do to a memory that is one number N.
use Rattle.std.specs.Prelude.{ℕ, zero, suc, ◌-◌, ◌==◌, Bool, true, false, List, [], ◌∷◌, None}
use Rattle.cob_tree.specs.declared.place.Place.{Place, out-Place, roll-Place}
use Rattle.cob_tree.specs.declared.place.Operand.{Operand, out-Operand}
use Rattle.cob_tree.specs.declared.place.Operand.TheVariants as operand
use Rattle.cob_tree.specs.declared.place.Expr.TheOpen.{Operand-F}
use Rattle.cob_tree.specs.declared.cond.Cond.{out-Cond}
use Rattle.cob_tree.specs.declared.cond.Cond.TheOpen.{Cond-F}
use Rattle.cob_tree.specs.declared.cond.Cond.TheVariants as cond
use Rattle.cob_tree.specs.declared.calc.Calc.{Calc}
use Rattle.cob_tree.specs.declared.calc.Calc.TheVariants as calc
use Rattle.cob_tree.specs.declared.stmt.Arms.{roll-Arms}
use Rattle.cob_tree.specs.declared.stmt.Stmt.{out-Stmt}
use Rattle.cob_tree.specs.declared.stmt.Stmt.TheOpen.{Stmt-F}
use Rattle.cob_tree.specs.declared.stmt.Stmt.TheVariants as stmt
use Rattle.control_flow_theory.specs.semantics.Outcome.{Tried, Got}
use Rattle.control_flow_theory.specs.language.Language.{Simple, Cond, Amount, Chooser, Depending}
use Rattle.control_flow_theory.specs.semantics.Doing.{Acting, Doing, alone}

-- the item with this number
abbrev pub item : ℕ → Place
item number = roll-Place (record { item = number; of = []; subs = []; window = None })

-- DISPLAY of one byte
abbrev pub says : ℕ → Simple
says byte = stmt.Display (operand.Text (byte ∷ []) ∷ []) true

-- DISPLAY N
abbrev pub shows : Simple
shows = stmt.Display (operand.Place (item 0) ∷ []) true

-- arithmetic into no target, without phrases
abbrev pub changes : Calc → Simple
changes calc = stmt.Arith calc [] (roll-Arms (record { first = None; second = None }))

-- ADD 1 TO N
abbrev pub raises : Simple
raises = changes (calc.Add [])

-- SUBTRACT 1 FROM N
abbrev pub lowers : Simple
lowers = changes (calc.Subtract [])

-- CONTINUE
abbrev pub continues : Simple
continues = stmt.Continue

-- the condition-name of this number: N is that
abbrev pub is : ℕ → Cond
is number = cond.Named (item number)

-- an amount by its number; TIMES of the first takes N
abbrev pub amount : ℕ → Amount
amount number = operand.Place (item number)

-- DEPENDING ON the item
abbrev pub on_item : ℕ → Chooser
on_item number = Depending (item number) 2

-- What they do.

-- the text, or else N
abbrev pub shown_items : List Operand → ℕ → List ℕ
shown_items [] n = []
shown_items (first ∷ others) n = elim (out-Operand first)
    [ Operand-F.Text bytes ↦ bytes | _ ↦ n ∷ [] ]

-- an ADD makes N one more, and other arithmetic one less
abbrev pub changed : Calc → ℕ → ℕ
changed (calc.Add parts) n = suc n
changed calc n = n - 1

-- what DISPLAY and arithmetic show and do to N; other statements do nothing
abbrev pub small_act : Simple → ℕ → Tried ℕ (Unit {0})
small_act simple n = elim (out-Stmt simple) [
  | Stmt-F.Display items advance ↦ Got (shown_items items n ∷ []) tt n
  | Stmt-F.Arith calc into arms ↦ Got [] tt (changed calc n)
  | _ ↦ Got [] tt n
]

-- whether N is the number
abbrev pub small_test : Cond → ℕ → Tried ℕ Bool
small_test cond n = elim (out-Cond cond) [
  | Cond-F.Named place ↦ Got [] (n == (out-Place place).item) n
  | _ ↦ Got [] false n
]

-- DEPENDING ON N: no name is the hundredth
abbrev pub small_choose : Chooser → ℕ → Tried ℕ ℕ
small_choose chooser zero = Got [] 100 0
small_choose chooser (suc n) = Got [] n (suc n)

-- what the parts do to N
abbrev pub small : Acting ℕ
small = record {
  act = small_act;
  test = small_test;
  choose = small_choose;
  count = λ amount n. Got [] n n;
}

-- the same of a program without cells
abbrev pub small_doing : Doing ℕ
small_doing = alone small
