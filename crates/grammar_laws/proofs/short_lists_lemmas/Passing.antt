-- A test of statements by their parts: what is made of parts that pass it passes.
use Rattle.std.proofs.Common.{◌≡◌, ◌<◌, ◌+◌, ℕ, Bool, true, ◌&&◌, List, length, map, Option, Some, None, refl, ap, sym, ◌∙◌}
use Rattle.cob_tree.specs.declared.calc.Calc.{Calc}
use Rattle.cob_tree.specs.declared.calc.Target.{Target}
use Rattle.cob_tree.specs.declared.choice.Subject.{Subject}
use Rattle.cob_tree.specs.declared.choice.Test.{Test}
use Rattle.cob_tree.specs.declared.cond.Cond.{Cond}
use Rattle.cob_tree.specs.declared.control.Control.{Control}
use Rattle.cob_tree.specs.declared.file.Opening.{Opening}
use Rattle.cob_tree.specs.declared.place.Operand.{Operand}
use Rattle.cob_tree.specs.declared.place.Place.{Place}
use Rattle.cob_tree.specs.declared.stmt.Arms.{Arms, roll-Arms, fold-Arms, fold-roll-Arms}
use Rattle.cob_tree.specs.declared.stmt.Stmt.{Stmt, fold-Stmt, fold-roll-Stmt}
use Rattle.cob_tree.specs.declared.stmt.Stmt.TheOpen.{Stmt-F, Arms-F, When-F}
use Rattle.cob_tree.specs.declared.stmt.Stmt.TheVariants as stmts
use Rattle.cob_tree.specs.declared.stmt.When.{When, roll-When, fold-When, fold-roll-When}
use Rattle.control_flow_theory.specs.language.All.{all, all_if}
use Rattle.program_facts.proofs.well_scoped_lemmas.Made.{both}

-- what a test says of a statement, by what it says of those that it holds
pub record Fold : Type 0 where
  pub stmt : Stmt-F Bool Bool Bool → Bool
  pub arms : Arms-F Bool Bool Bool → Bool
  pub when : When-F Bool Bool Bool → Bool

abbrev pub stmt_passes : Fold → Stmt → Bool
stmt_passes fold = fold-Stmt Bool Bool Bool fold.stmt fold.arms fold.when

abbrev pub arms_pass : Fold → Arms → Bool
arms_pass fold = fold-Arms Bool Bool Bool fold.stmt fold.arms fold.when

abbrev pub when_passes : Fold → When → Bool
when_passes fold = fold-When Bool Bool Bool fold.stmt fold.arms fold.when

abbrev pub stmts_pass : Fold → List Stmt → Bool
stmts_pass fold stmts = all (map (stmt_passes fold) stmts)

-- an arm that may be missing
abbrev pub arm_passes : Fold → Option (List Stmt) → Bool
arm_passes fold None = true
arm_passes fold (Some arm) = stmts_pass fold arm

abbrev pub Passes : Fold → Stmt → Type 0
Passes fold stmt = stmt_passes fold stmt ≡ true

abbrev pub Stmts : Fold → List Stmt → Type 0
Stmts fold list = stmts_pass fold list ≡ true

-- behind those before
abbrev pub Behind : Fold → List Stmt → List Stmt → Type 0
Behind fold before list = Stmts fold before → Stmts fold list

-- It takes each statement that holds no others, EXIT aside, where no more paragraphs are named than
-- tokens of that many can name; and each other one where it takes all that it holds.
pub record IsByParts (bound : ℕ) (fold : Fold) : Type 0 where
  pub display : (items : List Operand) (advance : Bool) → fold.stmt (Stmt-F.Display items advance) ≡ true
  pub move : (from : Operand) (to : List Place) → fold.stmt (Stmt-F.Move from to) ≡ true
  pub set_true : (place : Place) → fold.stmt (Stmt-F.SetTrue place) ≡ true
  pub opens : (openings : List Opening) → fold.stmt (Stmt-F.Opens openings) ≡ true
  pub closes : (files : List ℕ) → fold.stmt (Stmt-F.Closes files) ≡ true
  pub write : (entry : ℕ) (from : Option Operand) → fold.stmt (Stmt-F.Write entry from) ≡ true
  pub rewrite : (entry : ℕ) (from : Option Operand) → fold.stmt (Stmt-F.Rewrite entry from) ≡ true
  pub go : (to : ℕ) → fold.stmt (Stmt-F.Go to) ≡ true
  pub go_depending : (to : List ℕ) (on : Place) → length to < 1 + bound → fold.stmt (Stmt-F.GoDepending to on) ≡ true
  pub next_sentence : fold.stmt Stmt-F.NextSentence ≡ true
  pub stop_run : fold.stmt Stmt-F.StopRun ≡ true
  pub exit_paragraph : fold.stmt Stmt-F.ExitParagraph ≡ true
  pub exit_section : fold.stmt Stmt-F.ExitSection ≡ true
  pub exit_perform : (cycle : Bool) → fold.stmt (Stmt-F.ExitPerform cycle) ≡ true
  pub continues : fold.stmt Stmt-F.Continue ≡ true
  pub perform : (entry exit : ℕ) (control : Control) → fold.stmt (Stmt-F.Perform entry exit control) ≡ true
  pub arith : (calc : Calc) (into : List Target) (arms : Bool) → fold.stmt (Stmt-F.Arith calc into arms) ≡ arms
  pub read : (file : ℕ) (into : Option Place) (arms : Bool) → fold.stmt (Stmt-F.Read file into arms) ≡ arms
  pub if_else : (cond : Cond) (met unmet : List Bool) → fold.stmt (Stmt-F.If cond met unmet) ≡ (all met && all unmet)
  pub loop : (control : Control) (body : List Bool) → fold.stmt (Stmt-F.Loop control body) ≡ all body
  pub evaluate : (subject : Subject) (whens : List Bool) (other : Option (List Bool)) → fold.stmt (Stmt-F.Evaluate subject whens other) ≡ (all whens && all_if other)
  pub both_arms : (first second : Option (List Bool)) → fold.arms (record { first = first; second = second }) ≡ (all_if first && all_if second)
  pub one_when : (tests : List Test) (held : List Bool) → fold.when (record { tests = tests; stmts = held }) ≡ all held

module _ {bound : ℕ} {fold : Fold} (is : IsByParts bound fold) where
  pub made-Display : (items : List Operand) (advance : Bool) → Passes fold (stmts.Display items advance)
  made-Display items advance =
      ap (stmt_passes fold) (sym (stmts.rolls-Display items advance)) ∙ fold-roll-Stmt Bool Bool Bool fold.stmt fold.arms fold.when (Stmt-F.Display items advance) ∙ is.display items advance

  pub made-Move : (from : Operand) (to : List Place) → Passes fold (stmts.Move from to)
  made-Move from to =
      ap (stmt_passes fold) (sym (stmts.rolls-Move from to)) ∙ fold-roll-Stmt Bool Bool Bool fold.stmt fold.arms fold.when (Stmt-F.Move from to) ∙ is.move from to

  pub made-SetTrue : (place : Place) → Passes fold (stmts.SetTrue place)
  made-SetTrue place =
      ap (stmt_passes fold) (sym (stmts.rolls-SetTrue place)) ∙ fold-roll-Stmt Bool Bool Bool fold.stmt fold.arms fold.when (Stmt-F.SetTrue place) ∙ is.set_true place

  pub made-Opens : (openings : List Opening) → Passes fold (stmts.Opens openings)
  made-Opens openings =
      ap (stmt_passes fold) (sym (stmts.rolls-Opens openings)) ∙ fold-roll-Stmt Bool Bool Bool fold.stmt fold.arms fold.when (Stmt-F.Opens openings) ∙ is.opens openings

  pub made-Closes : (files : List ℕ) → Passes fold (stmts.Closes files)
  made-Closes files =
      ap (stmt_passes fold) (sym (stmts.rolls-Closes files)) ∙ fold-roll-Stmt Bool Bool Bool fold.stmt fold.arms fold.when (Stmt-F.Closes files) ∙ is.closes files

  pub made-Write : (entry : ℕ) (from : Option Operand) → Passes fold (stmts.Write entry from)
  made-Write entry from =
      ap (stmt_passes fold) (sym (stmts.rolls-Write entry from)) ∙ fold-roll-Stmt Bool Bool Bool fold.stmt fold.arms fold.when (Stmt-F.Write entry from) ∙ is.write entry from

  pub made-Rewrite : (entry : ℕ) (from : Option Operand) → Passes fold (stmts.Rewrite entry from)
  made-Rewrite entry from =
      ap (stmt_passes fold) (sym (stmts.rolls-Rewrite entry from)) ∙ fold-roll-Stmt Bool Bool Bool fold.stmt fold.arms fold.when (Stmt-F.Rewrite entry from) ∙ is.rewrite entry from

  pub made-Go : (to : ℕ) → Passes fold (stmts.Go to)
  made-Go to =
      ap (stmt_passes fold) (sym (stmts.rolls-Go to)) ∙ fold-roll-Stmt Bool Bool Bool fold.stmt fold.arms fold.when (Stmt-F.Go to) ∙ is.go to

  pub made-NextSentence : Passes fold stmts.NextSentence
  made-NextSentence =
      ap (stmt_passes fold) (sym (stmts.rolls-NextSentence)) ∙ fold-roll-Stmt Bool Bool Bool fold.stmt fold.arms fold.when Stmt-F.NextSentence ∙ is.next_sentence

  pub made-StopRun : Passes fold stmts.StopRun
  made-StopRun =
      ap (stmt_passes fold) (sym (stmts.rolls-StopRun)) ∙ fold-roll-Stmt Bool Bool Bool fold.stmt fold.arms fold.when Stmt-F.StopRun ∙ is.stop_run

  pub made-ExitParagraph : Passes fold stmts.ExitParagraph
  made-ExitParagraph =
      ap (stmt_passes fold) (sym (stmts.rolls-ExitParagraph)) ∙ fold-roll-Stmt Bool Bool Bool fold.stmt fold.arms fold.when Stmt-F.ExitParagraph ∙ is.exit_paragraph

  pub made-ExitSection : Passes fold stmts.ExitSection
  made-ExitSection =
      ap (stmt_passes fold) (sym (stmts.rolls-ExitSection)) ∙ fold-roll-Stmt Bool Bool Bool fold.stmt fold.arms fold.when Stmt-F.ExitSection ∙ is.exit_section

  pub made-Continue : Passes fold stmts.Continue
  made-Continue =
      ap (stmt_passes fold) (sym (stmts.rolls-Continue)) ∙ fold-roll-Stmt Bool Bool Bool fold.stmt fold.arms fold.when Stmt-F.Continue ∙ is.continues

  pub made-ExitPerform : (cycle : Bool) → Passes fold (stmts.ExitPerform cycle)
  made-ExitPerform cycle =
      ap (stmt_passes fold) (sym (stmts.rolls-ExitPerform cycle)) ∙ fold-roll-Stmt Bool Bool Bool fold.stmt fold.arms fold.when (Stmt-F.ExitPerform cycle) ∙ is.exit_perform cycle

  pub made-Perform : (entry exit : ℕ) (control : Control) → Passes fold (stmts.Perform entry exit control)
  made-Perform entry exit control =
      ap (stmt_passes fold) (sym (stmts.rolls-Perform entry exit control)) ∙ fold-roll-Stmt Bool Bool Bool fold.stmt fold.arms fold.when (Stmt-F.Perform entry exit control) ∙ is.perform entry exit control

  pub made-GoDepending : (to : List ℕ) (on : Place) → length to < 1 + bound → Passes fold (stmts.GoDepending to on)
  made-GoDepending to on few =
      ap (stmt_passes fold) (sym (stmts.rolls-GoDepending to on)) ∙ fold-roll-Stmt Bool Bool Bool fold.stmt fold.arms fold.when (Stmt-F.GoDepending to on) ∙ is.go_depending to on few

  pub made-Arith : (calc : Calc) (into : List Target) (arms : Arms) → arms_pass fold arms ≡ true → Passes fold (stmts.Arith calc into arms)
  made-Arith calc into arms h =
      ap (stmt_passes fold) (sym (stmts.rolls-Arith calc into arms)) ∙ fold-roll-Stmt Bool Bool Bool fold.stmt fold.arms fold.when (Stmt-F.Arith calc into arms) ∙ is.arith calc into (arms_pass fold arms) ∙ h

  pub made-Read : (file : ℕ) (into : Option Place) (arms : Arms) → arms_pass fold arms ≡ true → Passes fold (stmts.Read file into arms)
  made-Read file into arms h =
      ap (stmt_passes fold) (sym (stmts.rolls-Read file into arms)) ∙ fold-roll-Stmt Bool Bool Bool fold.stmt fold.arms fold.when (Stmt-F.Read file into arms) ∙ is.read file into (arms_pass fold arms) ∙ h

  pub made-If : (cond : Cond) (met unmet : List Stmt) → Stmts fold met → Stmts fold unmet → Passes fold (stmts.If cond met unmet)
  made-If cond met unmet m u =
      ap (stmt_passes fold) (sym (stmts.rolls-If cond met unmet)) ∙ fold-roll-Stmt Bool Bool Bool fold.stmt fold.arms fold.when (Stmt-F.If cond met unmet) ∙ is.if_else cond (map (stmt_passes fold) met) (map (stmt_passes fold) unmet) ∙ both m u

  pub made-Loop : (control : Control) (body : List Stmt) → Stmts fold body → Passes fold (stmts.Loop control body)
  made-Loop control body b =
      ap (stmt_passes fold) (sym (stmts.rolls-Loop control body)) ∙ fold-roll-Stmt Bool Bool Bool fold.stmt fold.arms fold.when (Stmt-F.Loop control body) ∙ is.loop control (map (stmt_passes fold) body) ∙ b

  pub made-Arms : (first second : Option (List Stmt)) → arm_passes fold first ≡ true → arm_passes fold second ≡ true →
      arms_pass fold (roll-Arms (record { first = first; second = second })) ≡ true
  made-Arms None None f s =
      fold-roll-Arms Bool Bool Bool fold.stmt fold.arms fold.when (record { first = None; second = None })
      ∙ is.both_arms None None ∙ both refl refl
  made-Arms None (Some second) f s =
      fold-roll-Arms Bool Bool Bool fold.stmt fold.arms fold.when (record { first = None; second = Some second })
      ∙ is.both_arms None (Some (map (stmt_passes fold) second)) ∙ both refl s
  made-Arms (Some first) None f s =
      fold-roll-Arms Bool Bool Bool fold.stmt fold.arms fold.when (record { first = Some first; second = None })
      ∙ is.both_arms (Some (map (stmt_passes fold) first)) None ∙ both f refl
  made-Arms (Some first) (Some second) f s =
      fold-roll-Arms Bool Bool Bool fold.stmt fold.arms fold.when (record { first = Some first; second = Some second })
      ∙ is.both_arms (Some (map (stmt_passes fold) first)) (Some (map (stmt_passes fold) second)) ∙ both f s

  pub made-When : (tests : List Test) (held : List Stmt) → Stmts fold held →
      when_passes fold (roll-When (record { tests = tests; stmts = held })) ≡ true
  made-When tests held h =
      fold-roll-When Bool Bool Bool fold.stmt fold.arms fold.when (record { tests = tests; stmts = held })
      ∙ is.one_when tests (map (stmt_passes fold) held) ∙ h

  pub made-Evaluate : (subject : Subject) (whens : List When) (other : Option (List Stmt)) →
      all (map (when_passes fold) whens) ≡ true → arm_passes fold other ≡ true → Passes fold (stmts.Evaluate subject whens other)
  made-Evaluate subject whens None w o =
      ap (stmt_passes fold) (sym (stmts.rolls-Evaluate subject whens None)) ∙ fold-roll-Stmt Bool Bool Bool fold.stmt fold.arms fold.when (Stmt-F.Evaluate subject whens None)
      ∙ is.evaluate subject (map (when_passes fold) whens) None ∙ both w refl
  made-Evaluate subject whens (Some other) w o =
      ap (stmt_passes fold) (sym (stmts.rolls-Evaluate subject whens (Some other))) ∙ fold-roll-Stmt Bool Bool Bool fold.stmt fold.arms fold.when (Stmt-F.Evaluate subject whens (Some other))
      ∙ is.evaluate subject (map (when_passes fold) whens) (Some (map (stmt_passes fold) other)) ∙ both w o
