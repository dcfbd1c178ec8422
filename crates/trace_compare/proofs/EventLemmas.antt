-- Events, and ways to end.
use Rattle.std.proofs.Common.{◌≡◌, false, List, ◌∷◌, ℕ, refl}
use Rattle.std.specs.Str.{bytes_eq}
use Rattle.file_model.specs.World.{Close, Open, Read, Rewrite, Verb, Write}
use Rattle.cobol_theory.specs.cobol_meaning.Acting.{verb_number}
use Rattle.cobol_run.specs.declared.machine.Ending.{Ending}
use Rattle.cobol_run.specs.declared.machine.Ending.TheVariants as ending
use Rattle.cobol_run.specs.Machine.{ending_seen}
use Rattle.cobol_theory.specs.cobol_meaning.Runs.{Files}
use Rattle.trace_compare.specs.Differing.{way_of}
use Rattle.trace_compare.specs.Event.{way_by}

-- a display is no operation on a file
pub displayed_first : (bytes : List ℕ) (verb : Verb) (rest : List ℕ) → bytes_eq (0 ∷ bytes) (verb_number verb ∷ rest) ≡ false
displayed_first bytes Open rest = refl
displayed_first bytes Read rest = refl
displayed_first bytes Write rest = refl
displayed_first bytes Rewrite rest = refl
displayed_first bytes Close rest = refl

pub displayed_second : (bytes : List ℕ) (verb : Verb) (rest : List ℕ) → bytes_eq (verb_number verb ∷ rest) (0 ∷ bytes) ≡ false
displayed_second bytes Open rest = refl
displayed_second bytes Read rest = refl
displayed_second bytes Write rest = refl
displayed_second bytes Rewrite rest = refl
displayed_second bytes Close rest = refl

-- the way is that of the ending, whatever files it left
pub way_seen : (ended : Ending) (left : Files) → way_of (ending_seen ended left) ≡ way_by ended
way_seen ending.Stopped left = refl
way_seen (ending.Abended abend) left = refl
way_seen (ending.Faulted fault) left = refl

-- lemmas that are named together
pub ruleset events_same = (displayed_first, displayed_second)
