-- What nested statements mean, by recursion on the statement, within a number of units.
use Rattle.std.specs.Prelude.{ℕ, zero, suc, if◌then◌else◌, ◌==◌, List, [], ◌∷◌, ◌++◌, map}
use Rattle.control_flow_theory.specs.runs.Run.{Going, Over}
use Rattle.cob_tree.specs.declared.program.Program as tree
use Rattle.meanings.specs.plain.Language.{Stmt, Display, Go, Perform, StopRun, Other, Sentence, Paragraph, Program, seen}
use Rattle.meanings.specs.plain.World.{World, Normally, Stopped, Run, Standing, Trace, displayed}
use Rattle.meanings.specs.plain.World as outside

-- what a statement comes to, with what it showed: it went on, with the world and the units that are
-- left, or the run stands so
pub data Outcome : Type 0 where
  Went : (trace : Trace) → (world : World) → (left : ℕ) → Outcome
  Stands : (trace : Trace) → (standing : Standing) → Outcome

-- what something does, from a world and a number of units
abbrev pub Does : Type 0
Does = World → ℕ → Outcome

-- nothing is done, and no unit is taken
abbrev pub nothing : Does
nothing world units = Went [] world units

-- what a jump does: it has no meaning here, and structured programs have none
abbrev pub meaningless : Does
meaningless world units = Stands [] Going

-- the same, after this was shown
abbrev pub behind : Trace → Outcome → Outcome
behind shown (Went trace world left) = Went (shown ++ trace) world left
behind shown (Stands trace standing) = Stands (shown ++ trace) standing

-- goes on where the first went on
abbrev pub then_do : Outcome → Does → Outcome
then_do (Went trace world left) more = behind trace (more world left)
then_do (Stands trace standing) more = Stands trace standing

-- one after the other
abbrev pub all : List Does → Does
all [] = nothing
all (first ∷ others) = λ world units. then_do (first world units) (all others)

-- takes one unit; where it is missing, the run is still going
abbrev pub unit_of : Does → Does
unit_of does world zero = Stands [] Going
unit_of does world (suc units) = does world units

-- what a PERFORM of the paragraph with this number does
abbrev pub Performing : Type 0
Performing = ℕ → Does

-- what a statement does; each one that is begun takes one unit, and one that isn't of the plain
-- form does nothing yet
abbrev pub stmt_does : Performing → Stmt → Does
stmt_does perform (Display items advance) =
    unit_of (λ world units. Went (outside.Display (displayed items advance) ∷ []) world units)
stmt_does perform (Go to) = meaningless
stmt_does perform (Perform entry exit) = unit_of (perform entry)
stmt_does perform StopRun = unit_of (λ world units. Stands [] (Over (Stopped Normally world.files)))
stmt_does perform Other = unit_of nothing

-- the statements of a sentence are done one after the other
abbrev pub sentence_does : Performing → Sentence → Does
sentence_does perform sentence = all (map (stmt_does perform) sentence)

-- the sentences of a paragraph are done one after the other
abbrev pub paragraph_does : Performing → Paragraph → Does
paragraph_does perform paragraph = all (map (sentence_does perform) paragraph)

-- what PERFORM of a paragraph does: it sees only those after it; the first of these has this number
abbrev pub performing : ℕ → List Paragraph → Performing
performing first [] number = meaningless
performing first (paragraph ∷ others) number =
    if number == first then paragraph_does (performing (suc first) others) paragraph
    else performing (suc first) others number

-- what the first paragraph does, in which the others are performed
abbrev pub program_does : List Paragraph → Does
program_does [] = nothing
program_does (paragraph ∷ others) = paragraph_does (performing 1 others) paragraph

-- the run of a program: it stops after its first paragraph
abbrev pub run_of : Outcome → Run
run_of (Went trace world left) = record
    { trace = trace; standing = Over (Stopped Normally world.files) }
run_of (Stands trace standing) = record { trace = trace; standing = standing }

-- the nested meaning of a program, in a world and within a number of units
abbrev pub structural : Program → World → ℕ → Run
structural program world units = run_of (program_does program.paragraphs world units)

-- what the program shows within this many units, and how it stands then
abbrev pub structural_run : tree.Program → World → ℕ → Run
structural_run program = structural (seen program)
