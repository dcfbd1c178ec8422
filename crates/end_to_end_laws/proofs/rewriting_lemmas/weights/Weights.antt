-- What statements weigh: one each, and three a loop over statements.
use Rattle.std.proofs.Common.{◌≡◌, ◌+◌, ℕ, Bool, List, [], ◌∷◌, ◌++◌, map, Option, Some, None, ap, sym, ◌∙◌, arith}
use Rattle.cob_tree.specs.declared.calc.Calc.{Calc}
use Rattle.cob_tree.specs.declared.calc.Target.{Target}
use Rattle.cob_tree.specs.declared.choice.Subject.{Subject}
use Rattle.cob_tree.specs.declared.choice.Test.{Test}
use Rattle.cob_tree.specs.declared.cond.Cond.{Cond}
use Rattle.cob_tree.specs.declared.control.Control.{Control}
use Rattle.cob_tree.specs.declared.file.Opening.{Opening}
use Rattle.cob_tree.specs.declared.place.Operand.{Operand}
use Rattle.cob_tree.specs.declared.place.Place.{Place}
use Rattle.cob_tree.specs.declared.program.Paragraph.{Paragraph}
use Rattle.cob_tree.specs.declared.program.Sentence.{Sentence}
use Rattle.cob_tree.specs.declared.stmt.Arms.{Arms, roll-Arms, fold-Arms, fold-roll-Arms}
use Rattle.cob_tree.specs.declared.stmt.Stmt.{Stmt, fold-Stmt, fold-roll-Stmt}
use Rattle.cob_tree.specs.declared.stmt.Stmt.TheOpen.{Stmt-F, Arms-F, When-F}
use Rattle.cob_tree.specs.declared.stmt.Stmt.TheVariants as stmts
use Rattle.cob_tree.specs.declared.stmt.When.{When, roll-When, fold-When, fold-roll-When}

-- how much these come to
abbrev pub total : List ℕ → ℕ
total [] = 0
total (first ∷ others) = first + total others

abbrev pub total_if : Option (List ℕ) → ℕ
total_if None = 0
total_if (Some list) = total list

-- one level of a statement
abbrev pub weigh_step : Stmt-F ℕ ℕ ℕ → ℕ
weigh_step (Stmt-F.Arith calc into arms) = 1 + arms
weigh_step (Stmt-F.Read file into arms) = 1 + arms
weigh_step (Stmt-F.If cond met unmet) = 1 + (total met + total unmet)
weigh_step (Stmt-F.Evaluate subject whens other) = 1 + (total whens + total_if other)
weigh_step (Stmt-F.Loop control body) = 3 + total body
weigh_step _ = 1

abbrev pub weigh_arms : Arms-F ℕ ℕ ℕ → ℕ
weigh_arms arms = total_if arms.first + total_if arms.second

abbrev pub weigh_when : When-F ℕ ℕ ℕ → ℕ
weigh_when when = total when.stmts

abbrev pub stmt_weighs : Stmt → ℕ
stmt_weighs = fold-Stmt ℕ ℕ ℕ weigh_step weigh_arms weigh_when

abbrev pub arms_weigh : Arms → ℕ
arms_weigh = fold-Arms ℕ ℕ ℕ weigh_step weigh_arms weigh_when

abbrev pub when_weighs : When → ℕ
when_weighs = fold-When ℕ ℕ ℕ weigh_step weigh_arms weigh_when

abbrev pub stmts_weigh : List Stmt → ℕ
stmts_weigh list = total (map stmt_weighs list)

abbrev pub whens_weigh : List When → ℕ
whens_weigh list = total (map when_weighs list)

abbrev pub arm_weighs : Option (List Stmt) → ℕ
arm_weighs None = 0
arm_weighs (Some arm) = stmts_weigh arm

abbrev pub sentence_weighs : Sentence → ℕ
sentence_weighs sentence = stmts_weigh sentence.stmts

abbrev pub sentences_weigh : List Sentence → ℕ
sentences_weigh list = total (map sentence_weighs list)

-- a paragraph weighs one itself
abbrev pub paragraph_weighs : Paragraph → ℕ
paragraph_weighs paragraph = 1 + sentences_weigh paragraph.sentences

abbrev pub paragraphs_weigh : List Paragraph → ℕ
paragraphs_weigh list = total (map paragraph_weighs list)

-- one more
pub one-more : {A : Type 0} (weigh : A → ℕ) (front : List A) (x : A) →
    total (map weigh (front ++ x ∷ [])) ≡ total (map weigh front) + weigh x
one-more weigh [] x = omega arith
one-more weigh (first ∷ front) x = (let rest = one-more weigh front x in omega (arith, rest))

pub made-Display : (items : List Operand) (advance : Bool) → stmt_weighs (stmts.Display items advance) ≡ 1
made-Display items advance = ap stmt_weighs (sym (stmts.rolls-Display items advance)) ∙ fold-roll-Stmt ℕ ℕ ℕ weigh_step weigh_arms weigh_when (Stmt-F.Display items advance)

pub made-Move : (from : Operand) (to : List Place) → stmt_weighs (stmts.Move from to) ≡ 1
made-Move from to = ap stmt_weighs (sym (stmts.rolls-Move from to)) ∙ fold-roll-Stmt ℕ ℕ ℕ weigh_step weigh_arms weigh_when (Stmt-F.Move from to)

pub made-SetTrue : (place : Place) → stmt_weighs (stmts.SetTrue place) ≡ 1
made-SetTrue place = ap stmt_weighs (sym (stmts.rolls-SetTrue place)) ∙ fold-roll-Stmt ℕ ℕ ℕ weigh_step weigh_arms weigh_when (Stmt-F.SetTrue place)

pub made-Opens : (openings : List Opening) → stmt_weighs (stmts.Opens openings) ≡ 1
made-Opens openings = ap stmt_weighs (sym (stmts.rolls-Opens openings)) ∙ fold-roll-Stmt ℕ ℕ ℕ weigh_step weigh_arms weigh_when (Stmt-F.Opens openings)

pub made-Closes : (files : List ℕ) → stmt_weighs (stmts.Closes files) ≡ 1
made-Closes files = ap stmt_weighs (sym (stmts.rolls-Closes files)) ∙ fold-roll-Stmt ℕ ℕ ℕ weigh_step weigh_arms weigh_when (Stmt-F.Closes files)

pub made-Write : (entry : ℕ) (from : Option Operand) → stmt_weighs (stmts.Write entry from) ≡ 1
made-Write entry from = ap stmt_weighs (sym (stmts.rolls-Write entry from)) ∙ fold-roll-Stmt ℕ ℕ ℕ weigh_step weigh_arms weigh_when (Stmt-F.Write entry from)

pub made-Rewrite : (entry : ℕ) (from : Option Operand) → stmt_weighs (stmts.Rewrite entry from) ≡ 1
made-Rewrite entry from = ap stmt_weighs (sym (stmts.rolls-Rewrite entry from)) ∙ fold-roll-Stmt ℕ ℕ ℕ weigh_step weigh_arms weigh_when (Stmt-F.Rewrite entry from)

pub made-Go : (to : ℕ) → stmt_weighs (stmts.Go to) ≡ 1
made-Go to = ap stmt_weighs (sym (stmts.rolls-Go to)) ∙ fold-roll-Stmt ℕ ℕ ℕ weigh_step weigh_arms weigh_when (Stmt-F.Go to)

pub made-GoDepending : (to : List ℕ) (on : Place) → stmt_weighs (stmts.GoDepending to on) ≡ 1
made-GoDepending to on = ap stmt_weighs (sym (stmts.rolls-GoDepending to on)) ∙ fold-roll-Stmt ℕ ℕ ℕ weigh_step weigh_arms weigh_when (Stmt-F.GoDepending to on)

pub made-NextSentence : stmt_weighs stmts.NextSentence ≡ 1
made-NextSentence = ap stmt_weighs (sym stmts.rolls-NextSentence) ∙ fold-roll-Stmt ℕ ℕ ℕ weigh_step weigh_arms weigh_when Stmt-F.NextSentence

pub made-StopRun : stmt_weighs stmts.StopRun ≡ 1
made-StopRun = ap stmt_weighs (sym stmts.rolls-StopRun) ∙ fold-roll-Stmt ℕ ℕ ℕ weigh_step weigh_arms weigh_when Stmt-F.StopRun

pub made-Exit : stmt_weighs stmts.Exit ≡ 1
made-Exit = ap stmt_weighs (sym stmts.rolls-Exit) ∙ fold-roll-Stmt ℕ ℕ ℕ weigh_step weigh_arms weigh_when Stmt-F.Exit

pub made-ExitParagraph : stmt_weighs stmts.ExitParagraph ≡ 1
made-ExitParagraph = ap stmt_weighs (sym stmts.rolls-ExitParagraph) ∙ fold-roll-Stmt ℕ ℕ ℕ weigh_step weigh_arms weigh_when Stmt-F.ExitParagraph

pub made-ExitSection : stmt_weighs stmts.ExitSection ≡ 1
made-ExitSection = ap stmt_weighs (sym stmts.rolls-ExitSection) ∙ fold-roll-Stmt ℕ ℕ ℕ weigh_step weigh_arms weigh_when Stmt-F.ExitSection

pub made-ExitPerform : (cycle : Bool) → stmt_weighs (stmts.ExitPerform cycle) ≡ 1
made-ExitPerform cycle = ap stmt_weighs (sym (stmts.rolls-ExitPerform cycle)) ∙ fold-roll-Stmt ℕ ℕ ℕ weigh_step weigh_arms weigh_when (Stmt-F.ExitPerform cycle)

pub made-Continue : stmt_weighs stmts.Continue ≡ 1
made-Continue = ap stmt_weighs (sym stmts.rolls-Continue) ∙ fold-roll-Stmt ℕ ℕ ℕ weigh_step weigh_arms weigh_when Stmt-F.Continue

pub made-Perform : (entry exit : ℕ) (control : Control) → stmt_weighs (stmts.Perform entry exit control) ≡ 1
made-Perform entry exit control = ap stmt_weighs (sym (stmts.rolls-Perform entry exit control)) ∙ fold-roll-Stmt ℕ ℕ ℕ weigh_step weigh_arms weigh_when (Stmt-F.Perform entry exit control)

pub made-Arith : (calc : Calc) (into : List Target) (arms : Arms) → stmt_weighs (stmts.Arith calc into arms) ≡ 1 + arms_weigh arms
made-Arith calc into arms = ap stmt_weighs (sym (stmts.rolls-Arith calc into arms)) ∙ fold-roll-Stmt ℕ ℕ ℕ weigh_step weigh_arms weigh_when (Stmt-F.Arith calc into arms)

pub made-Read : (file : ℕ) (into : Option Place) (arms : Arms) → stmt_weighs (stmts.Read file into arms) ≡ 1 + arms_weigh arms
made-Read file into arms = ap stmt_weighs (sym (stmts.rolls-Read file into arms)) ∙ fold-roll-Stmt ℕ ℕ ℕ weigh_step weigh_arms weigh_when (Stmt-F.Read file into arms)

pub made-If : (cond : Cond) (met unmet : List Stmt) → stmt_weighs (stmts.If cond met unmet) ≡ 1 + (stmts_weigh met + stmts_weigh unmet)
made-If cond met unmet = ap stmt_weighs (sym (stmts.rolls-If cond met unmet)) ∙ fold-roll-Stmt ℕ ℕ ℕ weigh_step weigh_arms weigh_when (Stmt-F.If cond met unmet)

pub made-Loop : (control : Control) (body : List Stmt) → stmt_weighs (stmts.Loop control body) ≡ 3 + stmts_weigh body
made-Loop control body = ap stmt_weighs (sym (stmts.rolls-Loop control body)) ∙ fold-roll-Stmt ℕ ℕ ℕ weigh_step weigh_arms weigh_when (Stmt-F.Loop control body)

pub made-Evaluate : (subject : Subject) (whens : List When) (other : Option (List Stmt)) → stmt_weighs (stmts.Evaluate subject whens other) ≡ 1 + (whens_weigh whens + arm_weighs other)
made-Evaluate subject whens None = ap stmt_weighs (sym (stmts.rolls-Evaluate subject whens None)) ∙ fold-roll-Stmt ℕ ℕ ℕ weigh_step weigh_arms weigh_when (Stmt-F.Evaluate subject whens None)
made-Evaluate subject whens (Some other) = ap stmt_weighs (sym (stmts.rolls-Evaluate subject whens (Some other))) ∙ fold-roll-Stmt ℕ ℕ ℕ weigh_step weigh_arms weigh_when (Stmt-F.Evaluate subject whens (Some other))

pub made-Arms : (first second : Option (List Stmt)) → arms_weigh (roll-Arms (record { first = first; second = second })) ≡ arm_weighs first + arm_weighs second
made-Arms None None = fold-roll-Arms ℕ ℕ ℕ weigh_step weigh_arms weigh_when (record { first = None; second = None })
made-Arms None (Some second) = fold-roll-Arms ℕ ℕ ℕ weigh_step weigh_arms weigh_when (record { first = None; second = Some second })
made-Arms (Some first) None = fold-roll-Arms ℕ ℕ ℕ weigh_step weigh_arms weigh_when (record { first = Some first; second = None })
made-Arms (Some first) (Some second) = fold-roll-Arms ℕ ℕ ℕ weigh_step weigh_arms weigh_when (record { first = Some first; second = Some second })

pub made-When : (tests : List Test) (held : List Stmt) → when_weighs (roll-When (record { tests = tests; stmts = held })) ≡ stmts_weigh held
made-When tests held = fold-roll-When ℕ ℕ ℕ weigh_step weigh_arms weigh_when (record { tests = tests; stmts = held })
