-- The first line of a statement.
use Rattle.std.specs.Prelude.{ℕ, Bool, false, ◌==◌, List, [], ◌∷◌, ◌++◌, map, Option, Some, None, codes, if◌then◌else◌}
use Rattle.cob_tree.specs.declared.place.Operand.{Operand}
use Rattle.cob_tree.specs.declared.place.Place.{Place}
use Rattle.cob_tree.specs.declared.program.Program.{Program}
use Rattle.cob_tree.specs.declared.stmt.Stmt.TheOpen.{Stmt-F}
use Rattle.cobol_lex.specs.declared.token.TokenKind.TheVariants as kind
use Rattle.unparser.specs.Token.{Tokens, joined}
use Rattle.unparser.specs.Place.{item_name, place_tokens, operand_tokens, operands_tokens}
use Rattle.unparser.specs.Condition.{cond_tokens}
use Rattle.unparser.specs.Choice.{subject_tokens}
use Rattle.unparser.specs.Control.{control_tokens}
use Rattle.unparser.specs.Arithmetic.{arithmetic_tokens}
use Rattle.unparser.specs.File.{file_tokens, files_tokens, openings_tokens, label_tokens, labels_tokens}

-- WITH NO ADVANCING, or nothing
abbrev pub advance_tokens : (advance : Bool) → Tokens
advance_tokens advance =
    if advance then []
    else kind.Word (codes "WITH") ∷ kind.Word (codes "NO") ∷ kind.Word (codes "ADVANCING") ∷ []

-- DISPLAY of these operands
abbrev pub display_tokens : Program → List Operand → (advance : Bool) → Tokens
display_tokens program items advance =
    kind.Word (codes "DISPLAY") ∷ operands_tokens program items ++ advance_tokens advance

-- the tokens of these places
abbrev pub places_tokens : Program → List Place → Tokens
places_tokens program places = joined (map (place_tokens program) places)

-- INTO and its place, if there is one
abbrev pub into_tokens : Program → Option Place → Tokens
into_tokens program None = []
into_tokens program (Some place) = kind.Word (codes "INTO") ∷ place_tokens program place

-- FROM and its operand, if there is one
abbrev pub from_tokens : Program → Option Operand → Tokens
from_tokens program None = []
from_tokens program (Some operand) = kind.Word (codes "FROM") ∷ operand_tokens program operand

-- the range of a PERFORM; THRU is there where entry and exit differ
abbrev pub range_tokens : Program → (entry exit : ℕ) → Tokens
range_tokens program entry exit =
    label_tokens program entry
    ++ (if entry == exit then [] else kind.Word (codes "THRU") ∷ label_tokens program exit)

-- GO TO DEPENDING of these paragraphs
abbrev pub go_depending_tokens : Program → List ℕ → Place → Tokens
go_depending_tokens program to on =
    kind.Word (codes "GO") ∷ kind.Word (codes "TO") ∷ labels_tokens program to
    ++ kind.Word (codes "DEPENDING") ∷ kind.Word (codes "ON") ∷ place_tokens program on

-- EXIT PERFORM, or with CYCLE
abbrev pub exit_perform_tokens : (cycle : Bool) → Tokens
exit_perform_tokens cycle =
    kind.Word (codes "EXIT") ∷ kind.Word (codes "PERFORM")
    ∷ (if cycle then kind.Word (codes "CYCLE") ∷ [] else [])

-- the first line of statements that leave what they are in, and of CONTINUE
abbrev pub jump_head : {A B C : Type 0} → Program → Stmt-F A B C → Tokens
jump_head program (Stmt-F.Go to) =
    kind.Word (codes "GO") ∷ kind.Word (codes "TO") ∷ label_tokens program to
jump_head program (Stmt-F.GoDepending to on) = go_depending_tokens program to on
jump_head program Stmt-F.NextSentence =
    kind.Word (codes "NEXT") ∷ kind.Word (codes "SENTENCE") ∷ []
jump_head program Stmt-F.StopRun = kind.Word (codes "STOP") ∷ kind.Word (codes "RUN") ∷ []
jump_head program Stmt-F.Exit = kind.Word (codes "EXIT") ∷ []
jump_head program Stmt-F.ExitParagraph =
    kind.Word (codes "EXIT") ∷ kind.Word (codes "PARAGRAPH") ∷ []
jump_head program Stmt-F.ExitSection = kind.Word (codes "EXIT") ∷ kind.Word (codes "SECTION") ∷ []
jump_head program (Stmt-F.ExitPerform cycle) = exit_perform_tokens cycle
jump_head program _ = kind.Word (codes "CONTINUE") ∷ []

-- the first line of statements on files
abbrev pub file_head : {A B C : Type 0} → Program → Stmt-F A B C → Tokens
file_head program (Stmt-F.Opens openings) =
    kind.Word (codes "OPEN") ∷ openings_tokens program None openings
file_head program (Stmt-F.Closes files) = kind.Word (codes "CLOSE") ∷ files_tokens program files
file_head program (Stmt-F.Read file into arms) =
    kind.Word (codes "READ") ∷ file_tokens program file ++ into_tokens program into
file_head program (Stmt-F.Write entry from) =
    kind.Word (codes "WRITE") ∷ kind.Word (item_name program entry) ∷ from_tokens program from
file_head program (Stmt-F.Rewrite entry from) =
    kind.Word (codes "REWRITE") ∷ kind.Word (item_name program entry) ∷ from_tokens program from
file_head program stmt = jump_head program stmt

-- the first line of a statement, and the whole of one that holds none
abbrev pub head_step : {A B C : Type 0} → Program → Stmt-F A B C → Tokens
head_step program (Stmt-F.Display items advance) = display_tokens program items advance
head_step program (Stmt-F.Move from to) =
    kind.Word (codes "MOVE") ∷ operand_tokens program from
    ++ kind.Word (codes "TO") ∷ places_tokens program to
head_step program (Stmt-F.Arith calc into arms) = arithmetic_tokens program calc into
head_step program (Stmt-F.SetTrue place) =
    kind.Word (codes "SET") ∷ place_tokens program place
    ++ kind.Word (codes "TO") ∷ kind.Word (codes "TRUE") ∷ []
head_step program (Stmt-F.If cond met unmet) =
    kind.Word (codes "IF") ∷ cond_tokens program cond false
head_step program (Stmt-F.Evaluate subject whens other) =
    kind.Word (codes "EVALUATE") ∷ subject_tokens program subject
head_step program (Stmt-F.Loop control body) =
    kind.Word (codes "PERFORM") ∷ control_tokens program control
head_step program (Stmt-F.Perform entry exit control) =
    kind.Word (codes "PERFORM") ∷ range_tokens program entry exit ++ control_tokens program control
head_step program stmt = file_head program stmt
