-- Structured programs: no jump, and each paragraph but the first is performed from an earlier one.
use Rattle.std.specs.Prelude.{ℕ, suc, ◌≡◌, ◌<◌, ◌≤◌, Bool, true, false, if◌then◌else◌, ◌==◌, List, [], ◌∷◌, length}
use Rattle.control_flow_theory.specs.language.Language.{Stmt, Do, Choose, Loop, Perform, Go, GoDepending, NextSentence, ExitParagraph, ExitSection, ExitPerform, StopRun, Stmts, none, also, Arms, done, given, missing, Body, Nested, Performed, Paragraph, Program, paragraph_at}

-- there is no jump in it, and each range that it performs is such a one
abbrev mutual
  pub StmtNests : (ℕ → ℕ → Type 0) → Stmt → Type 0
  StmtNests Such (Do act) = Unit {0}
  StmtNests Such (Choose picker arms) = ArmsNest Such arms
  StmtNests Such (Loop control body) = BodyNests Such body
  StmtNests Such (Perform entry exit) = Such entry exit
  StmtNests Such (Go to) = ⊥
  StmtNests Such (GoDepending to chooser) = ⊥
  StmtNests Such NextSentence = ⊥
  StmtNests Such ExitParagraph = ⊥
  StmtNests Such (ExitSection last) = ⊥
  StmtNests Such (ExitPerform cycle) = ⊥
  StmtNests Such StopRun = Unit {0}

  -- the same of statements
  pub StmtsNest : (ℕ → ℕ → Type 0) → Stmts → Type 0
  StmtsNest Such none = Unit {0}
  StmtsNest Such (also stmt stmts) = StmtNests Such stmt × StmtsNest Such stmts

  -- the same of arms
  pub ArmsNest : (ℕ → ℕ → Type 0) → Arms → Type 0
  ArmsNest Such done = Unit {0}
  ArmsNest Such (given arm others) = StmtsNest Such arm × ArmsNest Such others
  ArmsNest Such (missing others) = ArmsNest Such others

  -- the same of a loop's body
  pub BodyNests : (ℕ → ℕ → Type 0) → Body → Type 0
  BodyNests Such (Nested stmts) = StmtsNest Such stmts
  BodyNests Such (Performed entry exit) = Such entry exit

-- a paragraph past this one, by itself
abbrev pub NamesLater : (count here entry exit : ℕ) → Type 0
NamesLater count here entry exit = (entry ≡ exit) × (here < entry) × (entry < count)

-- a paragraph is one sentence, without a jump; each of its PERFORMs names one later paragraph
abbrev pub ParagraphNests : (count here : ℕ) → Paragraph → Type 0
ParagraphNests count here [] = ⊥
ParagraphNests count here (sentence ∷ []) = StmtsNest (NamesLater count here) sentence
ParagraphNests count here (sentence ∷ next ∷ sentences) = ⊥

-- the first of these paragraphs has this number
abbrev pub ParagraphsNest : (count first : ℕ) → List Paragraph → Type 0
ParagraphsNest count first [] = Unit {0}
ParagraphsNest count first (paragraph ∷ others) =
    ParagraphNests count first paragraph × ParagraphsNest count (suc first) others

-- the last of these statements is STOP RUN
abbrev pub EndsInStop : Stmts → Type 0
EndsInStop none = ⊥
EndsInStop (also stmt none) = stmt ≡ StopRun
EndsInStop (also stmt (also next stmts)) = EndsInStop (also next stmts)

-- the first of these paragraphs has a first sentence whose last statement is STOP RUN
abbrev pub FirstStops : List Paragraph → Type 0
FirstStops [] = ⊥
FirstStops ([] ∷ others) = ⊥
FirstStops ((sentence ∷ sentences) ∷ others) = EndsInStop sentence

-- it performs the paragraph
abbrev mutual
  pub stmt_performs : ℕ → Stmt → Bool
  stmt_performs number (Do act) = false
  stmt_performs number (Choose picker arms) = arms_perform number arms
  stmt_performs number (Loop control body) = body_performs number body
  stmt_performs number (Perform entry exit) = entry == number
  stmt_performs number (Go to) = false
  stmt_performs number (GoDepending to chooser) = false
  stmt_performs number NextSentence = false
  stmt_performs number ExitParagraph = false
  stmt_performs number (ExitSection last) = false
  stmt_performs number (ExitPerform cycle) = false
  stmt_performs number StopRun = false

  -- one of these statements performs it
  pub stmts_perform : ℕ → Stmts → Bool
  stmts_perform number none = false
  stmts_perform number (also stmt stmts) =
      if stmt_performs number stmt then true else stmts_perform number stmts

  -- a statement of one of these arms performs it
  pub arms_perform : ℕ → Arms → Bool
  arms_perform number done = false
  arms_perform number (given arm others) =
      if stmts_perform number arm then true else arms_perform number others
  arms_perform number (missing others) = arms_perform number others

  -- the loop's body performs it
  pub body_performs : ℕ → Body → Bool
  body_performs number (Nested stmts) = stmts_perform number stmts
  body_performs number (Performed entry exit) = entry == number

-- a statement of the paragraph performs the paragraph with this number
abbrev pub paragraph_performs : ℕ → Paragraph → Bool
paragraph_performs number [] = false
paragraph_performs number (sentence ∷ sentences) =
    if stmts_perform number sentence then true else paragraph_performs number sentences

-- what a result of restructuring is
pub record IsStructuredControl (program : Program) : Type 0 where
  -- no jump, one sentence a paragraph, and each PERFORM names one later paragraph
  pub nests : ParagraphsNest (length program.paragraphs) 0 program.paragraphs
  -- the first paragraph's last statement is STOP RUN
  pub stops : FirstStops program.paragraphs
  -- each paragraph but the first is performed from an earlier one
  pub performed : (number : ℕ) → 1 ≤ number → number < length program.paragraphs →
      (from : ℕ) × (from < number) × (paragraph_performs number (paragraph_at program from) ≡ true)
