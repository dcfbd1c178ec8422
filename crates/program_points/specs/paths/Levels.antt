-- Paths inside one level, and the levels that are one on the other.
use Rattle.std.specs.Prelude.{Bool, ℕ, suc, ◌≡◌, true, false, List, [], ◌∷◌, Option, Some}
use Rattle.cob_tree.specs.declared.program.Range.{Range}
use Rattle.control_flow_theory.specs.language.Language.{Chooser, Program}
use Rattle.program_points.specs.paths.Step.{Point, start, Ways, Calls, Ends, next, way_at, is_paragraph}
use Rattle.program_points.specs.paths.Flow.{part, is_exit, Pending, returning}

-- control comes here in this range's level; a PERFORM is stepped over where its range's level comes
-- to its return
pub data Comes (never_first : Chooser → Bool) (program : Program) : Range → Point → Type 0 where
  enters : (range : Range) → Comes never_first program range (start program range.entry)
  chooses : (range : Range) (from to : Point) (ways : List (Option Point)) (number : ℕ) →
      Comes never_first program range from → next never_first program from ≡ Ways ways →
      way_at ways number ≡ Some to → Comes never_first program range to
  over : (range : Range) (from after done : Point) (entry exit : ℕ) →
      Comes never_first program range from →
      next never_first program from ≡ Calls entry exit after →
      Comes never_first program (part entry exit) done →
      next never_first program done ≡ Ends exit → Comes never_first program range after
  passes : (range : Range) (from : Point) (paragraph : ℕ) →
      Comes never_first program range from → next never_first program from ≡ Ends paragraph →
      is_exit range.exit paragraph ≡ false → is_paragraph program (suc paragraph) ≡ true →
      Comes never_first program range (start program (suc paragraph))

-- the second range's level runs, called from levels of which the lowest is the first range's
pub data Levels (never_first : Chooser → Bool) (program : Program) (base : Range) : Range →
    List Pending → Type 0 where
  bottom : Levels never_first program base base []
  called : (range : Range) (pending : List Pending) (from after : Point) (entry exit : ℕ) →
      Levels never_first program base range pending → Comes never_first program range from →
      next never_first program from ≡ Calls entry exit after →
      Levels never_first program base (part entry exit) (returning exit after ∷ pending)
