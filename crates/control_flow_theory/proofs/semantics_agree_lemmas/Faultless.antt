-- A structural run goes on or stops, and so a structured program meets no fault of its flow.
use Rattle.std.proofs.Common.{◌≡◌, ◌≢◌, ℕ, zero, suc, Bool, true, false, if◌then◌else◌, ◌==◌, List, [], ◌∷◌, refl, subst}
use Rattle.control_flow_theory.specs.runs.Run.{Going, Over}
use Rattle.control_flow_theory.specs.runs.Machine.{meaning}
use Rattle.control_flow_theory.proofs.runs_lemmas.Ties.{tied-comes}
use Rattle.control_flow_theory.specs.semantics.Outcome.{Trace, Normally, FlowFault, Faulted, Standing, Tried, Got, Ends}
use Rattle.control_flow_theory.specs.language.Language.{Control, Times, Until, Varying, Stmt, Do, Choose, Loop, Perform, Go, GoDepending, NextSentence, ExitParagraph, ExitSection, ExitPerform, StopRun, Stmts, none, also, Arms, done, given, missing, Body, Nested, Performed, Paragraph, Program}
use Rattle.control_flow_theory.specs.semantics.Doing.{Doing}
use Rattle.control_flow_theory.specs.language.Items.{Turning, Counted, Tests, Steps, StepsAfter}
use Rattle.control_flow_theory.specs.semantics.Source.{source_machine}
use Rattle.control_flow_theory.specs.semantics.Structural.{Outcome, Went, Stands, nothing, behind, then_do, one_then, unit_of, stops, gets, acts, goes_round, turns, all_turns, first_turn, varying, loop_does, Performing, stmt_does, stmts_do, arm_does, body_does, paragraph_does, performing, program_does, run_of, structural}
use Rattle.control_flow_theory.specs.language.Structured.{IsStructuredControl}
use Rattle.control_flow_theory.specs.semantics_agree.Same.{EndsFairly}
use Rattle.control_flow_theory.proofs.semantics_agree_lemmas.Agreement.{structured-tied}

module _ {Memory Left : Type 0} (doing : Doing Memory) (left : Memory → Left) where
  abbrev D : Type 0
  D = Memory → ℕ → Outcome Memory Left

  abbrev Fair : Outcome Memory Left → Type 0
  Fair (Went trace memory units) = Unit {0}
  Fair (Stands trace standing) = EndsFairly standing

  abbrev AllFair : D → Type 0
  AllFair does = (memory : Memory) (units : ℕ) → Fair (does memory units)

  fair-behind : (shown : Trace) (o : Outcome Memory Left) → Fair o → Fair (behind doing left shown o)
  fair-behind shown (Went trace memory units) h = tt
  fair-behind shown (Stands trace standing) h = h

  fair-then : (o : Outcome Memory Left) (d : D) → Fair o → AllFair d → Fair (then_do doing left o d)
  fair-then (Went trace memory units) d h g = fair-behind trace (d memory units) (g memory units)
  fair-then (Stands trace standing) d h g = h

  fair-one : (a b : D) → AllFair a → AllFair b → AllFair (one_then doing left a b)
  fair-one a b h g memory units = fair-then (a memory units) b (h memory units) g

  fair-unit : (d : D) → AllFair d → AllFair (unit_of doing left d)
  fair-unit d h memory zero = tt
  fair-unit d h memory (suc n) = h memory n

  fair-gets : {Value : Type 0} (t : Tried Memory Value) (go : Value → D) → ((v : Value) → AllFair (go v)) → (units : ℕ) → Fair (gets doing left t go units)
  fair-gets (Got trace value memory) go h units = fair-behind trace (go value memory units) (h value memory units)
  fair-gets (Ends trace kind memory) go h units = tt

  fair-round : (ended : Bool) (turn : D) → AllFair turn → AllFair (goes_round doing left ended turn)
  fair-round true turn h memory units = tt
  fair-round false turn h memory units = fair-unit turn h memory units

  module _ (body : D) (fair : AllFair body) where
    fair-turns : (most : ℕ) (turning : Turning) → AllFair (turns doing left most turning body)
    fair-turns zero turning memory units = tt
    fair-turns (suc most) (Counted zero) memory units = tt
    fair-turns (suc most) (Counted (suc n)) memory units = fair-unit (one_then doing left body (turns doing left most (Counted n) body)) (fair-one body (turns doing left most (Counted n) body) fair (fair-turns most (Counted n))) memory units
    fair-turns (suc most) (Tests test) memory units =
        fair-gets (doing.test test memory) (λ ended. goes_round doing left ended (one_then doing left body (turns doing left most (Tests test) body)))
        (λ ended. fair-round ended (one_then doing left body (turns doing left most (Tests test) body)) (fair-one body (turns doing left most (Tests test) body) fair (fair-turns most (Tests test)))) units
    fair-turns (suc most) (Steps false step test) memory units =
        fair-gets (doing.test test memory) (λ ended. goes_round doing left ended (one_then doing left body (turns doing left most (Steps true step test) body)))
        (λ ended. fair-round ended (one_then doing left body (turns doing left most (Steps true step test) body)) (fair-one body (turns doing left most (Steps true step test) body) fair (fair-turns most (Steps true step test)))) units
    fair-turns (suc most) (Steps true step test) memory units =
        fair-gets (doing.act step memory) (λ u memory units. gets doing left (doing.test test memory) (λ ended. goes_round doing left ended (one_then doing left body (turns doing left most (Steps true step test) body))) units)
        (λ u m n. fair-gets (doing.test test m) (λ ended. goes_round doing left ended (one_then doing left body (turns doing left most (Steps true step test) body)))
        (λ ended. fair-round ended (one_then doing left body (turns doing left most (Steps true step test) body)) (fair-one body (turns doing left most (Steps true step test) body) fair (fair-turns most (Steps true step test)))) n) units
    fair-turns (suc most) (StepsAfter step test) memory units =
        fair-gets (doing.test test memory) (λ ended. goes_round doing left ended (acts doing left step (one_then doing left body (turns doing left most (StepsAfter step test) body))))
        (λ ended. fair-round ended (acts doing left step (one_then doing left body (turns doing left most (StepsAfter step test) body)))
        (λ m n. fair-gets (doing.act step m) (λ u. one_then doing left body (turns doing left most (StepsAfter step test) body)) (λ u. fair-one body (turns doing left most (StepsAfter step test) body) fair (fair-turns most (StepsAfter step test))) n)) units

    fair-all : (turning : Turning) → AllFair (all_turns doing left turning body)
    fair-all turning memory units = fair-turns (suc units) turning memory units

    fair-first : (after : Bool) (turning : Turning) → AllFair (first_turn doing left after turning body)
    fair-first false turning = fair-all turning
    fair-first true turning = fair-unit (one_then doing left body (all_turns doing left turning body)) (fair-one body (all_turns doing left turning body) fair (fair-all turning))

    fair-loop : (control : Control) → AllFair (loop_does doing left control body)
    fair-loop (Times amount) memory units = fair-gets (doing.count amount memory) (λ n. all_turns doing left (Counted n) body) (λ n. fair-all (Counted n)) units
    fair-loop (Until after test) memory units = fair-first after (Tests test) memory units
    fair-loop (Varying after set step test) memory units =
        fair-gets (doing.act set memory) (λ u. first_turn doing left after (varying doing left after step test) body) (λ u. fair-first after (varying doing left after step test)) units

  module _ (perform : Performing doing left) (fair : (number : ℕ) → AllFair (perform number)) where
    mutual
      fair-stmt : (stmt : Stmt) → AllFair (stmt_does doing left stmt perform)
      fair-stmt (Do act) = fair-unit (acts doing left act (nothing doing left)) (λ m n. fair-gets (doing.act act m) (λ u. nothing doing left) (λ u m n. tt) n)
      fair-stmt (Choose picker arms) = fair-unit (λ memory units. gets doing left (doing.pick picker memory) (arm_does doing left arms perform) units) (λ m n. fair-gets (doing.pick picker m) (arm_does doing left arms perform) (fair-arm arms) n)
      fair-stmt (Loop control body) = fair-unit (loop_does doing left control (body_does doing left body perform)) (fair-loop (body_does doing left body perform) (fair-body body) control)
      fair-stmt (Perform entry exit) = fair-unit (perform entry) (fair entry)
      fair-stmt (Go to) = λ m n. tt
      fair-stmt (GoDepending to chooser) = λ m n. tt
      fair-stmt NextSentence = λ m n. tt
      fair-stmt ExitParagraph = λ m n. tt
      fair-stmt (ExitSection last) = λ m n. tt
      fair-stmt (ExitPerform cycle) = λ m n. tt
      fair-stmt StopRun = fair-unit (stops doing left Normally) (λ m n. tt)

      fair-stmts : (stmts : Stmts) → AllFair (stmts_do doing left stmts perform)
      fair-stmts none = λ m n. tt
      fair-stmts (also stmt stmts) = fair-one (stmt_does doing left stmt perform) (stmts_do doing left stmts perform) (fair-stmt stmt) (fair-stmts stmts)

      fair-arm : (arms : Arms) (k : ℕ) → AllFair (arm_does doing left arms perform k)
      fair-arm done k = λ m n. tt
      fair-arm (given arm others) zero = fair-stmts arm
      fair-arm (given arm others) (suc k) = fair-arm others k
      fair-arm (missing others) zero = λ m n. tt
      fair-arm (missing others) (suc k) = fair-arm others k

      fair-body : (body : Body) → AllFair (body_does doing left body perform)
      fair-body (Nested stmts) = fair-stmts stmts
      fair-body (Performed entry exit) = fair entry

    fair-paragraph : (sentences : Paragraph) → AllFair (paragraph_does doing left sentences perform)
    fair-paragraph [] = λ m n. tt
    fair-paragraph (sentence ∷ sentences) = fair-one (stmts_do doing left sentence perform) (paragraph_does doing left sentences perform) (fair-stmts sentence) (fair-paragraph sentences)

  fair-performing : (first : ℕ) (paragraphs : List Paragraph) (number : ℕ) → AllFair (performing doing left first paragraphs number)
  fair-performing first [] number = λ m n. tt
  fair-performing first (paragraph ∷ others) number =
      elim (number == first) as (λ t. AllFair (if t then paragraph_does doing left paragraph (performing doing left (suc first) others) else performing doing left (suc first) others number)) [
        | true ↦ fair-paragraph (performing doing left (suc first) others) (fair-performing (suc first) others) paragraph
        | false ↦ fair-performing (suc first) others number
      ]

  fair-program : (paragraphs : List Paragraph) → AllFair (program_does doing left paragraphs)
  fair-program [] = λ m n. tt
  fair-program (paragraph ∷ others) = fair-paragraph (performing doing left 1 others) (fair-performing 1 others) paragraph

  fair-run : (o : Outcome Memory Left) → Fair o → EndsFairly (run_of doing left o).standing
  fair-run (Went trace memory units) h = tt
  fair-run (Stands trace standing) h = h

  -- a structural run goes on or stops
  pub structural-fair : (program : Program) (memory : Memory) (units : ℕ) → EndsFairly (structural doing left program memory units).standing
  structural-fair program memory units = fair-run (program_does doing left program.paragraphs memory units) (fair-program program.paragraphs memory units)

  faulted-over : (standing : Standing Left) (fault : FlowFault) → standing ≡ Over (Faulted fault) → standing ≢ Going
  faulted-over standing fault is going = cc

  -- a structured program meets no fault of its flow
  pub structured-faultless : (program : Program) → IsStructuredControl program → (memory : Memory) (n : ℕ) (fault : FlowFault) → (meaning (source_machine doing left program) memory n).standing ≢ Over (Faulted fault)
  structured-faultless program structured memory n fault is =
      let source = meaning (source_machine doing left program) in
      let comes = tied-comes source (structural doing left program) (structured-tied doing left program structured) memory (source memory n) (faulted-over (source memory n).standing fault is) (n, refl) in
      let fair : EndsFairly (source memory n).standing = subst (λ r. EndsFairly r.standing) comes.1 (structural-fair program memory comes.0) in
      subst EndsFairly is fair
