-- What is still to do, as the theory of control has it.
use Rattle.std.specs.Prelude.{ℕ, ◌≡◌, suc, Bool, false, ◌==◌, List, [], ◌∷◌, drop, Option, Some, None}
use Rattle.std.specs.Borrow.{Bor}
use Rattle.cob_tree.specs.declared.program.Sentence.{Sentence}
use Rattle.cob_tree.specs.declared.program.Paragraph.{Paragraph}
use Rattle.cob_tree.specs.declared.program.Program.{Program}
use Rattle.control_flow_theory.specs.language.Control.{augmented, section_last, seen, seen_sentence, seen_stmts, test_of}
use Rattle.control_flow_theory.specs.language.Items.{Item, Do, SentenceEnd, Turn, Pending, before}
use Rattle.control_flow_theory.specs.language.Items as items
use Rattle.control_flow_theory.specs.language.Language as language
use Rattle.cobol_run.specs.declared.frame.Body.{Body}
use Rattle.cobol_run.specs.declared.frame.Body.TheVariants.{Nested, Performed}
use Rattle.cobol_run.specs.declared.frame.LoopProgress.{LoopProgress}
use Rattle.cobol_run.specs.declared.frame.LoopProgress.TheVariants.{Counted, Tests, Steps, StepsAfter}
use Rattle.cobol_run.specs.declared.frame.Frame.{Frame}
use Rattle.cobol_run.specs.declared.frame.Frame.TheVariants as frames
use Rattle.cobol_run.specs.declared.frames.First.{First}
use Rattle.cobol_run.specs.declared.frames.Return.{Return}
use Rattle.cobol_run.specs.declared.frames.Head.{Head}
use Rattle.cobol_run.specs.declared.frames.Head.TheVariants as head

-- Statements in a section whose last paragraph is this one.

-- a loop's body as the theory has it
abbrev pub body_seen : ℕ → Body → language.Body
body_seen last (Nested stmts) = language.Nested (seen_stmts last stmts.now)
body_seen last (Performed entry exit) = language.Performed entry exit

-- a loop's remaining turns as the theory has them
abbrev pub turning_seen : LoopProgress → items.Turning
turning_seen (Counted turns) = items.Counted turns
turning_seen (Tests until) = items.Tests (test_of until.now)
turning_seen (Steps reached item by until) =
    items.Steps reached (augmented item.now by.now) (test_of until.now)
turning_seen (StepsAfter item by until) =
    items.StepsAfter (augmented item.now by.now) (test_of until.now)

-- sentences, each with its end, and then the rest
abbrev pub sentences_before : ℕ → List Sentence → List Item → List Item
sentences_before last [] rest = rest
sentences_before last (sentence ∷ sentences) rest =
    before (seen_sentence last sentence) (SentenceEnd ∷ sentences_before last sentences rest)

-- the rest of a paragraph, by the frames down to the first return
abbrev pub rest_of : ℕ → List Frame → List Item
rest_of last [] = []
rest_of last (frames.Stmts stmts ∷ below) =
    before (seen_stmts last stmts.now) (rest_of last below)
rest_of last (frames.Enter entry exit ∷ below) =
    Do (language.Perform entry exit) ∷ rest_of last below
rest_of last (frames.Sentences sentences ∷ below) =
    SentenceEnd ∷ sentences_before last sentences.now (rest_of last below)
rest_of last (frames.Turn turning body ∷ below) =
    Turn (turning_seen turning) (body_seen last body) ∷ rest_of last below
rest_of last (frames.Return end paragraph ∷ below) = []

-- what is done first as frames, before others
abbrev pub sentences_kept : Option (Bor (List Sentence)) → List Frame → List Frame
sentences_kept None below = below
sentences_kept (Some sentences) below = frames.Sentences sentences ∷ below

abbrev pub first_before : First → List Frame → List Frame
first_before first below = frames.Stmts first.stmts ∷ sentences_kept first.sentences below

-- the last paragraph of the section that a paragraph is in
abbrev pub last_in : List Paragraph → ℕ → ℕ
last_in paragraphs paragraph = section_last paragraph (drop (suc paragraph) paragraphs)

-- the last paragraph of the section that a paragraph of the program is in
abbrev pub last_of : Program → ℕ → ℕ
last_of program paragraph = last_in program.paragraphs paragraph

-- the returns that are pending
abbrev pub pending_of : Program → List Frame → List Pending
pending_of program [] = []
pending_of program (frames.Return end paragraph ∷ below) =
    record { end = end; paragraph = paragraph; rest = rest_of (last_of program paragraph) below }
    ∷ pending_of program below
pending_of program (frames.Stmts stmts ∷ below) = pending_of program below
pending_of program (frames.Enter entry exit ∷ below) = pending_of program below
pending_of program (frames.Sentences sentences ∷ below) = pending_of program below
pending_of program (frames.Turn turning body ∷ below) = pending_of program below

-- a return is pending here, at the end of this paragraph
abbrev pub ends_here : ℕ → Frame → Bool
ends_here end (frames.Return at paragraph) = at == end
ends_here end (frames.Stmts stmts) = false
ends_here end (frames.Enter entry exit) = false
ends_here end (frames.Sentences sentences) = false
ends_here end (frames.Turn turning body) = false

-- the return that was made last is taken, or none was pending and nothing is left
abbrev pub TakesReturn : Program → Option Return → (before after : List Frame) → Type 0
TakesReturn program None before after =
    (pending_of program before ≡ []) × (pending_of program after ≡ [])
    × ((last : ℕ) → rest_of last after ≡ [])
TakesReturn program (Some return) before after =
    pending_of program before
    ≡ record {
      end = return.end;
      paragraph = return.paragraph;
      rest = rest_of (last_of program return.paragraph) after;
    }
    ∷ pending_of program after

-- what is next, and then the rest
abbrev pub heads : ℕ → Head → List Item → List Item
heads last head.Nothing rest = []
heads last (head.Stmt stmt) rest = Do (seen last stmt.now) ∷ rest
heads last (head.Enter entry exit) rest = Do (language.Perform entry exit) ∷ rest
heads last head.SentenceEnd rest = SentenceEnd ∷ rest
heads last (head.Turn turning body) rest = Turn (turning_seen turning) (body_seen last body) ∷ rest
