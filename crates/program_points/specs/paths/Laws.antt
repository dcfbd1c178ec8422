-- Laws of flow paths and trails.
use Rattle.std.specs.Prelude.{Bool, ℕ, ◌≡◌, true, List}
use Rattle.cob_tree.specs.declared.program.Range.{Range}
use Rattle.program_points.specs.declared.paths.trail.Trail.{Trail}
use Rattle.control_flow_theory.specs.language.Language.{Chooser, Program}
use Rattle.program_points.specs.paths.Step.{Point, Calls, next, is_paragraph}
use Rattle.program_points.specs.paths.Flow.{Pending, FreePath, IsFaulty}
use Rattle.program_points.specs.paths.Levels.{Comes, Levels}
use Rattle.program_points.specs.paths.Accepted.{IsAccepted, NoneTwice, lemma_ranges, hop_ranges}

-- a free path comes to a point exactly where levels are one on the other and the top one comes
-- there
abbrev pub PathsAreLevels : Type 0
PathsAreLevels = (never_first : Chooser → Bool) (program : Program) (base : Range)
    (point : Point) (pending : List Pending) →
    (FreePath never_first program base point pending → (range : Range)
    × Levels never_first program base range pending × Comes never_first program range point)
    × ((range : Range) → Levels never_first program base range pending →
    Comes never_first program range point → FreePath never_first program base point pending)

-- each PERFORM that control comes to names a paragraph as its entry
abbrev pub EntersParagraphs : (Chooser → Bool) → Program → Type 0
EntersParagraphs never_first program = (range : Range) (point after : Point) (entry exit : ℕ) →
    Comes never_first program range point →
    next never_first program point ≡ Calls entry exit after → is_paragraph program entry ≡ true

-- an accepted trail shows a fault
abbrev pub AcceptedIsFaulty : Type 0
AcceptedIsFaulty = (never_first : Chooser → Bool) (program : Program) (trail : Trail) →
    IsAccepted never_first program trail → IsFaulty never_first program

-- a fault has an accepted trail, with no range twice
abbrev pub FaultyHasTrail : Type 0
FaultyHasTrail = (never_first : Chooser → Bool) (program : Program) →
    is_paragraph program 0 ≡ true → EntersParagraphs never_first program →
    IsFaulty never_first program →
    (trail : Trail) × IsAccepted never_first program trail × NoneTwice (lemma_ranges trail.lemmas)
    × NoneTwice (hop_ranges trail.hops)
