-- What lowering knows of a COBOL program: by its files, and by the exits of the ranges that
-- return, for each entry.
use Rattle.std.specs.Prelude.{ℕ, suc, Bool, true, false, if◌then◌else◌, ◌==◌, List, [], ◌∷◌, length, Option, Some, None, is_none, slice_get}
use Rattle.cob_tree.specs.declared.file.FileEntry.{FileEntry}
use Rattle.cob_tree.specs.declared.stmt.Stmt.{Stmt}
use Rattle.cob_tree.specs.declared.stmt.Stmt.TheVariants.{Exit, Continue}
use Rattle.control_flow_theory.specs.language.Language.{Chooser, Evaluate, Read, Arith, Depending}
use Rattle.control_flow_theory.specs.lowering.FlowFacts.{FlowFacts}

-- CONTINUE and EXIT do nothing
abbrev pub does_nothing : Stmt → Bool
does_nothing Exit = true
does_nothing Continue = true
does_nothing _ = false

-- the number is one of these
abbrev pub is_among : ℕ → List ℕ → Bool
is_among number [] = false
is_among number (other ∷ others) = if other == number then true else is_among number others

-- the exit is one of these, if there are any
abbrev pub is_exit_of : ℕ → Option (List ℕ) → Bool
is_exit_of exit None = false
is_exit_of exit (Some exits) = is_among exit exits

-- the range returns
abbrev pub returns_by : List (List ℕ) → ℕ → ℕ → Bool
returns_by returning entry exit = is_exit_of exit (slice_get returning entry)

-- the file is there, and has no status item
abbrev pub status_missing : Option FileEntry → Bool
status_missing None = false
status_missing (Some file) = is_none file.status

-- READ without AT END of a file without a status item: at the end of the file the run ends
abbrev pub never_ends : List FileEntry → Chooser → Bool
never_ends files (Evaluate subject tests has_other) = false
never_ends files (Read file into has_end) =
    if has_end then false else status_missing (slice_get files file)
never_ends files (Arith calc into) = false
never_ends files (Depending on names) = false

-- how many arms a chooser has
abbrev pub width_of : Chooser → ℕ
width_of (Evaluate subject tests has_other) = suc (length tests)
width_of (Read file into has_end) = 2
width_of (Arith calc into) = 2
width_of (Depending on names) = suc names

-- what lowering knows of a program with these files, where these ranges return
abbrev pub flow_facts_of : List FileEntry → List (List ℕ) → FlowFacts
flow_facts_of files returning = record {
  returning = returns_by returning;
  skipped = does_nothing;
  never_first = never_ends files;
  width = width_of;
}
