-- What is made of parts that count by whole numbers does so.
use Rattle.std.proofs.Common.{◌≡◌, ℕ, Bool, true, List, map, Option, Some, None, refl, ap, sym, ◌∙◌}
use Rattle.cob_tree.specs.declared.calc.Calc.{Calc}
use Rattle.cob_tree.specs.declared.calc.Target.{Target}
use Rattle.cob_tree.specs.declared.choice.Subject.{Subject}
use Rattle.cob_tree.specs.declared.choice.Test.{Test}
use Rattle.cob_tree.specs.declared.cond.Cond.{Cond}
use Rattle.cob_tree.specs.declared.control.Control.{Control}
use Rattle.cob_tree.specs.declared.entry.Entry.{Entry}
use Rattle.cob_tree.specs.declared.file.Opening.{Opening}
use Rattle.cob_tree.specs.declared.place.Operand.{Operand}
use Rattle.cob_tree.specs.declared.place.Place.{Place}
use Rattle.cob_tree.specs.declared.stmt.Arms.{Arms, roll-Arms, fold-Arms, fold-roll-Arms}
use Rattle.cob_tree.specs.declared.stmt.Stmt.{Stmt, fold-roll-Stmt}
use Rattle.cob_tree.specs.declared.stmt.Stmt.TheOpen.{Stmt-F}
use Rattle.cob_tree.specs.declared.stmt.Stmt.TheVariants as stmts
use Rattle.cob_tree.specs.declared.stmt.When.{When, roll-When, fold-When, fold-roll-When}
use Rattle.control_flow_theory.specs.language.All.{all}
use Rattle.program_facts.proofs.well_scoped_lemmas.Made.{both}
use Rattle.program_facts.specs.whole_counts.Whole.{place_is_whole, control_counts_whole, whole_step, whole_arms, whole_when, stmt_counts_whole}
use Rattle.grammar_laws.specs.whole_counts.whole_stmts.Paragraph.{stmts_count_whole}

module _ (entries : List Entry) where
  abbrev pub stmt_whole : Stmt → Bool
  stmt_whole = stmt_counts_whole entries

  abbrev pub arms_count_whole : Arms → Bool
  arms_count_whole = fold-Arms Bool Bool Bool (whole_step entries) (whole_arms entries) (whole_when entries)

  abbrev pub when_counts_whole : When → Bool
  when_counts_whole = fold-When Bool Bool Bool (whole_step entries) (whole_arms entries) (whole_when entries)

  abbrev pub Whole : Stmt → Type 0
  Whole stmt = stmt_whole stmt ≡ true

  -- an arm that may be missing
  abbrev pub arm_counts_whole : Option (List Stmt) → Bool
  arm_counts_whole None = true
  arm_counts_whole (Some arm) = stmts_count_whole entries arm

  pub made-Display : (items : List Operand) (advance : Bool) → Whole (stmts.Display items advance)
  made-Display items advance = ap stmt_whole (sym (stmts.rolls-Display items advance)) ∙ fold-roll-Stmt Bool Bool Bool (whole_step entries) (whole_arms entries) (whole_when entries) (Stmt-F.Display items advance)

  pub made-Move : (from : Operand) (to : List Place) → Whole (stmts.Move from to)
  made-Move from to = ap stmt_whole (sym (stmts.rolls-Move from to)) ∙ fold-roll-Stmt Bool Bool Bool (whole_step entries) (whole_arms entries) (whole_when entries) (Stmt-F.Move from to)

  pub made-SetTrue : (place : Place) → Whole (stmts.SetTrue place)
  made-SetTrue place = ap stmt_whole (sym (stmts.rolls-SetTrue place)) ∙ fold-roll-Stmt Bool Bool Bool (whole_step entries) (whole_arms entries) (whole_when entries) (Stmt-F.SetTrue place)

  pub made-Opens : (openings : List Opening) → Whole (stmts.Opens openings)
  made-Opens openings = ap stmt_whole (sym (stmts.rolls-Opens openings)) ∙ fold-roll-Stmt Bool Bool Bool (whole_step entries) (whole_arms entries) (whole_when entries) (Stmt-F.Opens openings)

  pub made-Closes : (files : List ℕ) → Whole (stmts.Closes files)
  made-Closes files = ap stmt_whole (sym (stmts.rolls-Closes files)) ∙ fold-roll-Stmt Bool Bool Bool (whole_step entries) (whole_arms entries) (whole_when entries) (Stmt-F.Closes files)

  pub made-Write : (entry : ℕ) (from : Option Operand) → Whole (stmts.Write entry from)
  made-Write entry from = ap stmt_whole (sym (stmts.rolls-Write entry from)) ∙ fold-roll-Stmt Bool Bool Bool (whole_step entries) (whole_arms entries) (whole_when entries) (Stmt-F.Write entry from)

  pub made-Rewrite : (entry : ℕ) (from : Option Operand) → Whole (stmts.Rewrite entry from)
  made-Rewrite entry from = ap stmt_whole (sym (stmts.rolls-Rewrite entry from)) ∙ fold-roll-Stmt Bool Bool Bool (whole_step entries) (whole_arms entries) (whole_when entries) (Stmt-F.Rewrite entry from)

  pub made-Go : (to : ℕ) → Whole (stmts.Go to)
  made-Go to = ap stmt_whole (sym (stmts.rolls-Go to)) ∙ fold-roll-Stmt Bool Bool Bool (whole_step entries) (whole_arms entries) (whole_when entries) (Stmt-F.Go to)

  pub made-NextSentence : Whole stmts.NextSentence
  made-NextSentence = ap stmt_whole (sym (stmts.rolls-NextSentence)) ∙ fold-roll-Stmt Bool Bool Bool (whole_step entries) (whole_arms entries) (whole_when entries) Stmt-F.NextSentence

  pub made-StopRun : Whole stmts.StopRun
  made-StopRun = ap stmt_whole (sym (stmts.rolls-StopRun)) ∙ fold-roll-Stmt Bool Bool Bool (whole_step entries) (whole_arms entries) (whole_when entries) Stmt-F.StopRun

  pub made-Exit : Whole stmts.Exit
  made-Exit = ap stmt_whole (sym (stmts.rolls-Exit)) ∙ fold-roll-Stmt Bool Bool Bool (whole_step entries) (whole_arms entries) (whole_when entries) Stmt-F.Exit

  pub made-ExitParagraph : Whole stmts.ExitParagraph
  made-ExitParagraph = ap stmt_whole (sym (stmts.rolls-ExitParagraph)) ∙ fold-roll-Stmt Bool Bool Bool (whole_step entries) (whole_arms entries) (whole_when entries) Stmt-F.ExitParagraph

  pub made-ExitSection : Whole stmts.ExitSection
  made-ExitSection = ap stmt_whole (sym (stmts.rolls-ExitSection)) ∙ fold-roll-Stmt Bool Bool Bool (whole_step entries) (whole_arms entries) (whole_when entries) Stmt-F.ExitSection

  pub made-ExitPerform : (cycle : Bool) → Whole (stmts.ExitPerform cycle)
  made-ExitPerform cycle = ap stmt_whole (sym (stmts.rolls-ExitPerform cycle)) ∙ fold-roll-Stmt Bool Bool Bool (whole_step entries) (whole_arms entries) (whole_when entries) (Stmt-F.ExitPerform cycle)

  pub made-Continue : Whole stmts.Continue
  made-Continue = ap stmt_whole (sym (stmts.rolls-Continue)) ∙ fold-roll-Stmt Bool Bool Bool (whole_step entries) (whole_arms entries) (whole_when entries) Stmt-F.Continue

  pub made-Arith : (calc : Calc) (into : List Target) (arms : Arms) → arms_count_whole arms ≡ true → Whole (stmts.Arith calc into arms)
  made-Arith calc into arms h = ap stmt_whole (sym (stmts.rolls-Arith calc into arms)) ∙ fold-roll-Stmt Bool Bool Bool (whole_step entries) (whole_arms entries) (whole_when entries) (Stmt-F.Arith calc into arms) ∙ h

  pub made-Read : (file : ℕ) (into : Option Place) (arms : Arms) → arms_count_whole arms ≡ true → Whole (stmts.Read file into arms)
  made-Read file into arms h = ap stmt_whole (sym (stmts.rolls-Read file into arms)) ∙ fold-roll-Stmt Bool Bool Bool (whole_step entries) (whole_arms entries) (whole_when entries) (Stmt-F.Read file into arms) ∙ h

  pub made-Perform : (entry : ℕ) (exit : ℕ) (control : Control) → control_counts_whole entries control ≡ true → Whole (stmts.Perform entry exit control)
  made-Perform entry exit control h = ap stmt_whole (sym (stmts.rolls-Perform entry exit control)) ∙ fold-roll-Stmt Bool Bool Bool (whole_step entries) (whole_arms entries) (whole_when entries) (Stmt-F.Perform entry exit control) ∙ h

  pub made-GoDepending : (to : List ℕ) (on : Place) → place_is_whole entries on ≡ true → Whole (stmts.GoDepending to on)
  made-GoDepending to on h = ap stmt_whole (sym (stmts.rolls-GoDepending to on)) ∙ fold-roll-Stmt Bool Bool Bool (whole_step entries) (whole_arms entries) (whole_when entries) (Stmt-F.GoDepending to on) ∙ h

  pub made-If : (cond : Cond) (met : List Stmt) (unmet : List Stmt) → stmts_count_whole entries met ≡ true → stmts_count_whole entries unmet ≡ true → Whole (stmts.If cond met unmet)
  made-If cond met unmet m u = ap stmt_whole (sym (stmts.rolls-If cond met unmet)) ∙ fold-roll-Stmt Bool Bool Bool (whole_step entries) (whole_arms entries) (whole_when entries) (Stmt-F.If cond met unmet) ∙ both m u

  pub made-Loop : (control : Control) (body : List Stmt) → control_counts_whole entries control ≡ true → stmts_count_whole entries body ≡ true → Whole (stmts.Loop control body)
  made-Loop control body c b = ap stmt_whole (sym (stmts.rolls-Loop control body)) ∙ fold-roll-Stmt Bool Bool Bool (whole_step entries) (whole_arms entries) (whole_when entries) (Stmt-F.Loop control body) ∙ both c b

  pub made-Arms : (first second : Option (List Stmt)) → arm_counts_whole first ≡ true → arm_counts_whole second ≡ true →
      arms_count_whole (roll-Arms (record { first = first; second = second })) ≡ true
  made-Arms None None f s = fold-roll-Arms Bool Bool Bool (whole_step entries) (whole_arms entries) (whole_when entries) (record { first = None; second = None })
  made-Arms None (Some second) f s = fold-roll-Arms Bool Bool Bool (whole_step entries) (whole_arms entries) (whole_when entries) (record { first = None; second = Some second }) ∙ s
  made-Arms (Some first) None f s = fold-roll-Arms Bool Bool Bool (whole_step entries) (whole_arms entries) (whole_when entries) (record { first = Some first; second = None }) ∙ both f refl
  made-Arms (Some first) (Some second) f s = fold-roll-Arms Bool Bool Bool (whole_step entries) (whole_arms entries) (whole_when entries) (record { first = Some first; second = Some second }) ∙ both f s

  pub made-When : (tests : List Test) (held : List Stmt) → stmts_count_whole entries held ≡ true →
      when_counts_whole (roll-When (record { tests = tests; stmts = held })) ≡ true
  made-When tests held h = fold-roll-When Bool Bool Bool (whole_step entries) (whole_arms entries) (whole_when entries) (record { tests = tests; stmts = held }) ∙ h

  pub made-Evaluate : (subject : Subject) (whens : List When) (other : Option (List Stmt)) →
      all (map when_counts_whole whens) ≡ true → arm_counts_whole other ≡ true → Whole (stmts.Evaluate subject whens other)
  made-Evaluate subject whens None w o =
      ap stmt_whole (sym (stmts.rolls-Evaluate subject whens None)) ∙ fold-roll-Stmt Bool Bool Bool (whole_step entries) (whole_arms entries) (whole_when entries) (Stmt-F.Evaluate subject whens None) ∙ both w refl
  made-Evaluate subject whens (Some other) w o =
      ap stmt_whole (sym (stmts.rolls-Evaluate subject whens (Some other))) ∙ fold-roll-Stmt Bool Bool Bool (whole_step entries) (whole_arms entries) (whole_when entries) (Stmt-F.Evaluate subject whens (Some other)) ∙ both w o
