-- What holds of control whose parts pass tests.
use Rattle.std.specs.Prelude.{ℕ, ◌≡◌, ◌≤◌, Bool, true, List, length}
use Rattle.cob_tree.specs.declared.program.Program as trees
use Rattle.cob_tree.specs.declared.stmt.Stmt as stmts
use Rattle.control_flow_theory.specs.language.Language.{Simple, Range}
use Rattle.control_flow_theory.specs.language.Control.{control_of, seen_stmts}
use Rattle.control_flow_theory.specs.lowering.FlowFacts.{FlowFacts}
use Rattle.control_flow_theory.specs.rendering.Rendering.{Naming, Procedure, place_of, required, then_stmts, closing, written_stmts}
use Rattle.control_flow_theory.specs.rendering.Procedures.{Writable, StmtsStand}
use Rattle.control_flow_theory.specs.expressible_graphs.Served.{ProgramIsServed}
use Rattle.cob_base.specs.Limit.{max_terms}
use Rattle.program_facts.specs.term_counts.Statement.{stmts_most}
use Rattle.round_trip.specs.fitting_statements.sound_bodies.Sound.{two_arms, StmtsAreSound, ParagraphsAreSound}
use Rattle.round_trip.specs.fitting_statements.Fits.{Fits}
use Rattle.round_trip.specs.fitting_statements.Statement.{are_fit_stmts, are_fit_paragraphs}
use Rattle.round_trip.specs.fitting_statements.fit_control.Fit.{moves_number, IsFilled, StmtsFit}
use Rattle.round_trip.specs.fitting_statements.fit_control.Written.{CondsFit, PartsServed, NamesFit}

-- each part of a program whose statements fit may be written, where what passes may be
abbrev pub FitSourcesAreServed : Type 0
FitSourcesAreServed =
    (fits : Fits) (naming : Naming) (kinds : Writable) → PartsServed fits kinds →
    (told : FlowFacts) (range : Range) (program : trees.Program) →
    are_fit_paragraphs fits program.paragraphs ≡ true →
    ProgramIsServed naming kinds told range (control_of program)

-- VARYING begins with a number there, and an EVALUATE has two arms: a WHEN, and WHEN OTHER, be it
-- missing
abbrev pub FitSourcesAreSound : Type 0
FitSourcesAreSound =
    (fits : Fits) (program : trees.Program) →
    are_fit_paragraphs fits program.paragraphs ≡ true →
    ParagraphsAreSound (moves_number fits) two_arms
    (control_of program).paragraphs

-- the sentence of a procedure fits, where its parts do, and isn't empty
abbrev pub WrittenSentencesFit : Type 0
WrittenSentencesFit =
    (naming : Naming) (kinds : Writable) (begins : Simple → Bool)
    (enough : Range → (cell arms : ℕ) → Bool) (fits : Fits) (procedures : List Procedure) →
    NamesFit naming kinds begins enough fits (length procedures) →
    (procedure : Procedure) →
    StmtsStand naming kinds procedures procedure.range procedure.body →
    StmtsAreSound begins (enough procedure.range) procedure.body →
    let sentence = required naming.nothing
    (then_stmts (written_stmts naming (place_of procedures) procedure.range procedure.body)
    (closing procedure.range procedure.end)) in
    IsFilled sentence × StmtsFit fits sentence

-- statements whose control fits do, where no condition of theirs is too large to be read back
abbrev pub ControlTellsFit : Type 0
ControlTellsFit =
    (fits : Fits) → CondsFit fits →
    (last : ℕ) (list : List stmts.Stmt) → stmts_most list ≤ max_terms →
    StmtsFit fits (seen_stmts last list) → are_fit_stmts fits list ≡ true
