-- What is cut of a source may be written.
use Rattle.std.proofs.Common.{◌≡◌, ℕ, suc, true, false, if◌then◌else◌, [], refl, ap}
use Rattle.control_flow_theory.specs.language.Language.{Act, Own, Set, Take, Lower, Test, Holds, Not, Is, Above, Picker, If, By, ByCell, Control, Times, Until, Varying, Stmt, Choose, Loop, Perform, Go, GoDepending, NextSentence, ExitParagraph, ExitSection, ExitPerform, StopRun, Stmts, none, also, Arms, done, given, missing, Body, Nested, Performed, Range}
use Rattle.control_flow_theory.specs.language.Language as language
use Rattle.control_flow_theory.specs.language.Own.{OwnAct, OwnTest, OwnControl}
use Rattle.control_flow_theory.specs.lowering.FlowFacts.{FlowFacts, OwnPicker, IsFirstMissing, FirstMayBeMissing, OwnStmt, OwnStmts, OwnArms, OwnBody, arm_count}
use Rattle.control_flow_theory.specs.lowering.Completes.{completes, cut, cuts, cut_arms, cut_body}
use Rattle.control_flow_theory.specs.rendering.Rendering.{Naming, count_arms, standing}
use Rattle.control_flow_theory.specs.rendering.Procedures.{Writable, ActFits, TestFits, PickerFits, ControlFits}
use Rattle.control_flow_theory.specs.main_theorem.Chain.{StartsEmpty, StmtServed, StmtsServed, ArmsServed, BodyServed}
use Rattle.control_flow_theory.specs.expressible_graphs.Served.{ActIsServed, TestIsServed, PickerIsServed, ControlIsServed, StmtIsServed, StmtsAreServed, ArmsAreServed, BodyIsServed}

-- any cell may be a counter, and none anything else
abbrev pub with_counters : Writable → Writable
with_counters kinds = record {
  simples = kinds.simples;
  conds = kinds.conds;
  choosers = kinds.choosers;
  amounts = kinds.amounts;
  sets = λ range cell value. false;
  compares = λ range cell value. false;
  counts = λ range cell. true;
  aboves = λ range cell. true;
  chooses = λ range cell arms. false;
}

-- cutting leaves as many arms, and those that are missing
cut-count : (told : FlowFacts) (arms : Arms) → count_arms (cut_arms told arms) ≡ count_arms arms
cut-count told done = refl
cut-count told (given arm others) = ap suc (cut-count told others)
cut-count told (missing others) = ap suc (cut-count told others)

cut-starts : (told : FlowFacts) (arms : Arms) → IsFirstMissing arms → StartsEmpty (cut_arms told arms)
cut-starts told done first = absurd first
cut-starts told (given arm others) first = absurd first
cut-starts told (missing others) first = tt

module _ (naming : Naming) (kinds : Writable) (told : FlowFacts) (range : Range) (paragraphs : ℕ) where
  abbrev lent : Writable
  lent = with_counters kinds

  pub own-act : (act : Act) → OwnAct act → ActIsServed naming kinds told range act → ActFits naming lent [] range act
  own-act (Own simple) own s = s
  own-act (Set cell value) own s = absurd own
  own-act (Take cell amount) own s = absurd own
  own-act (Lower cell) own s = absurd own

  pub own-test : (test : Test) → OwnTest test → TestIsServed naming kinds told range test → TestFits naming lent [] range test
  own-test (Holds cond) own s = s
  own-test (Not test) own s = own-test test own s
  own-test (Is cell value) own s = absurd own
  own-test (Above cell) own s = absurd own

  pub own-control : (control : Control) → OwnControl control → ControlIsServed naming kinds told range control → ControlFits naming lent [] range control
  own-control (Times amount) own s = s
  own-control (Until after test) own s = own-test test own s
  own-control (Varying after set step test) own s = (own-act set own.0 s.0, own-act step own.1 s.1, own-test test own.2 s.2)

  cut-picker : (picker : Picker) (arms : Arms) → OwnPicker told picker (arm_count arms) → FirstMayBeMissing told picker arms → PickerIsServed naming kinds told range picker (count_arms arms) →
      PickerFits naming lent [] range picker (standing (naming.empty range picker) 0 (cut_arms told arms))
  cut-picker (If test) arms own first s = own-test test own.0 s
  cut-picker (By chooser) arms own first s = s (cut_arms told arms) (cut-count told arms) (λ e. cut-starts told arms (first e))
  cut-picker (ByCell cell) arms own first s = absurd own

  mutual
    pub cut-served : (s : Stmt) → OwnStmt told paragraphs s → StmtIsServed naming kinds told range s → StmtServed naming lent [] range (cut told s)
    cut-served (language.Do act) = λ own s. own-act act own s
    cut-served (Choose picker arms) = λ own s. (cut-picker picker arms own.0 own.2 s.0, cut-arms-served arms own.1 s.1)
    cut-served (Loop control body) = λ own s. (own-control control own.0 s.0, cut-body-served body own.1 s.1)
    cut-served (Perform e x) = λ own s. tt
    cut-served (Go to) = λ own s. tt
    cut-served (GoDepending to on) = λ own s. tt
    cut-served NextSentence = λ own s. tt
    cut-served ExitParagraph = λ own s. tt
    cut-served (ExitSection last) = λ own s. tt
    cut-served (ExitPerform cycle) = λ own s. tt
    cut-served StopRun = λ own s. tt

    cuts-served : (ss : Stmts) → OwnStmts told paragraphs ss → StmtsAreServed naming kinds told range ss → StmtsServed naming lent [] range (cuts told ss)
    cuts-served none = λ own s. tt
    cuts-served (also s ss) = λ own k. (
      cut-served s own.0 k.0,
      elim (completes told s) as (λ b. StmtsServed naming lent [] range (if b then cuts told ss else none)) [ true ↦ cuts-served ss own.1 k.1 | false ↦ tt ],
    )

    cut-arms-served : (arms : Arms) → OwnArms told paragraphs arms → ArmsAreServed naming kinds told range arms → ArmsServed naming lent [] range (cut_arms told arms)
    cut-arms-served done = λ own s. tt
    cut-arms-served (given arm others) = λ own s. (cuts-served arm own.0 s.0, cut-arms-served others own.1 s.1)
    cut-arms-served (missing others) = λ own s. cut-arms-served others own s

    cut-body-served : (body : Body) → OwnBody told paragraphs body → BodyIsServed naming kinds told range body → BodyServed naming lent [] range (cut_body told body)
    cut-body-served (Nested ss) = λ own s. cuts-served ss own s
    cut-body-served (Performed e x) = λ own s. tt
