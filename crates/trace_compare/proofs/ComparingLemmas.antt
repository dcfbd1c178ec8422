-- What comes of comparing two programs.
use Rattle.std.proofs.Common.{◌≡◌, ℕ, ◌<◌, ◌^◌, List, [], ◌∷◌, ◌++◌, length, take, Option, Some, None, ap, refl, subst, sym}
use Rattle.cob_tree.specs.declared.file.FileEntry.{FileEntry}
use Rattle.cob_tree.specs.declared.program.Program.{Program}
use Rattle.file_model.specs.World.{World}
use Rattle.file_model.specs.declared.table.FileRow.{FileRow}
use Rattle.file_model.specs.operations.Calls.{addresses_of}
use Rattle.file_model.specs.operations.Falling.{AreShut, LeftOf, is_used, name_behind}
use Rattle.file_model.specs.operations.Seen.{Seen}
use Rattle.file_model.specs.operations.Shutting.{LeavesFiles, StandsLeft}
use Rattle.file_model.proofs.operations_lemmas.ShutLemmas.{nothing_shut}
use Rattle.cobol_theory.specs.cobol_meaning.Runs.{Files, State}
use Rattle.cobol_run.specs.declared.events.Finished.{Finished}
use Rattle.cobol_run.specs.declared.events.Finished.TheVariants as finished
use Rattle.cobol_run.specs.declared.machine.Ending.{Ending}
use Rattle.cobol_run.specs.Events.{FinishNames, Finishes}
use Rattle.cobol_run.specs.Falling.{SameBench}
use Rattle.cobol_run.specs.Over.{StandsOver, TellFiles}
use Rattle.cobol_run.specs.Own.{IsOwn}
use Rattle.cobol_run.specs.Points.{world_after}
use Rattle.cobol_run.proofs.FallLemmas.{none_fell}
use Rattle.cobol_run.proofs.OverRunLemmas.{open_over}
use Rattle.control_flow_theory.specs.semantics.Outcome.{Trace}
use Rattle.trace_compare.specs.declared.compared.Compared.{Compared}
use Rattle.trace_compare.specs.declared.compared.Compared.TheVariants as compared
use Rattle.trace_compare.specs.declared.pair.Pair.{Pair}
use Rattle.trace_compare.specs.declared.pair.Verdict.{Verdict}
use Rattle.trace_compare.specs.declared.pair.Verdict.TheVariants as verdict
use Rattle.trace_compare.specs.declared.side.ComparedSide.{ComparedSide}
use Rattle.trace_compare.specs.Comparing.{Compares, FirstLeaves, FirstNames, IsOf, LeavesSome, SecondLeaves, SecondNames, answered, first_fault, second_fault, unless_failed}
use Rattle.trace_compare.specs.Pair.{FirstFalls, IsVerdict, SecondFalls, course_in}
use Rattle.trace_compare.specs.Side.{Reached, StandsAt, files_of, pending_of}
use Rattle.trace_compare.proofs.SideLemmas.{within}

-- ---- which devices failed

pub first_names : (came : Verdict) (first second : Finished) (gone : List (List ℕ)) → FinishNames first gone → FirstNames (answered came first second) gone
first_names (verdict.Same count) finished.Whole finished.Whole gone names = names
first_names (verdict.Same count) finished.Whole (finished.DeviceFault name) gone names = tt
first_names (verdict.Same count) finished.Whole finished.NoMemory gone names = tt
first_names (verdict.Same count) (finished.DeviceFault name) second gone names = names
first_names (verdict.Same count) finished.NoMemory second gone names = tt
first_names (verdict.Differ number) finished.Whole finished.Whole gone names = names
first_names (verdict.Differ number) finished.Whole (finished.DeviceFault name) gone names = tt
first_names (verdict.Differ number) finished.Whole finished.NoMemory gone names = tt
first_names (verdict.Differ number) (finished.DeviceFault name) second gone names = names
first_names (verdict.Differ number) finished.NoMemory second gone names = tt
first_names verdict.Budget finished.Whole finished.Whole gone names = names
first_names verdict.Budget finished.Whole (finished.DeviceFault name) gone names = tt
first_names verdict.Budget finished.Whole finished.NoMemory gone names = tt
first_names verdict.Budget (finished.DeviceFault name) second gone names = names
first_names verdict.Budget finished.NoMemory second gone names = tt
first_names verdict.FirstFailed finished.Whole second gone names = tt
first_names verdict.FirstFailed (finished.DeviceFault name) second gone names = names
first_names verdict.FirstFailed finished.NoMemory second gone names = tt
first_names verdict.SecondFailed first finished.Whole gone names = tt
first_names verdict.SecondFailed first (finished.DeviceFault name) gone names = tt
first_names verdict.SecondFailed first finished.NoMemory gone names = tt
first_names verdict.NoMemory first second gone names = tt

pub second_names : (came : Verdict) (first second : Finished) (gone : List (List ℕ)) → FinishNames second gone → SecondNames (answered came first second) gone
second_names (verdict.Same count) finished.Whole finished.Whole gone names = names
second_names (verdict.Same count) finished.Whole (finished.DeviceFault name) gone names = names
second_names (verdict.Same count) finished.Whole finished.NoMemory gone names = tt
second_names (verdict.Same count) (finished.DeviceFault name) second gone names = tt
second_names (verdict.Same count) finished.NoMemory second gone names = tt
second_names (verdict.Differ number) finished.Whole finished.Whole gone names = names
second_names (verdict.Differ number) finished.Whole (finished.DeviceFault name) gone names = names
second_names (verdict.Differ number) finished.Whole finished.NoMemory gone names = tt
second_names (verdict.Differ number) (finished.DeviceFault name) second gone names = tt
second_names (verdict.Differ number) finished.NoMemory second gone names = tt
second_names verdict.Budget finished.Whole finished.Whole gone names = names
second_names verdict.Budget finished.Whole (finished.DeviceFault name) gone names = names
second_names verdict.Budget finished.Whole finished.NoMemory gone names = tt
second_names verdict.Budget (finished.DeviceFault name) second gone names = tt
second_names verdict.Budget finished.NoMemory second gone names = tt
second_names verdict.FirstFailed finished.Whole second gone names = tt
second_names verdict.FirstFailed (finished.DeviceFault name) second gone names = tt
second_names verdict.FirstFailed finished.NoMemory second gone names = tt
second_names verdict.SecondFailed first finished.Whole gone names = tt
second_names verdict.SecondFailed first (finished.DeviceFault name) gone names = names
second_names verdict.SecondFailed first finished.NoMemory gone names = tt
second_names verdict.NoMemory first second gone names = tt

-- ---- the files that are left

-- what a side stands over is closed
module _ (program : Program) (files : Files) (side : ComparedSide) (devices : List Seen) (steps : ℕ) (compared : Trace) (stands : StandsAt program files side devices steps compared) (same : files_of side ≡ program.files) where
  over_here : (ended : Option Ending) → Reached program files side.machine devices stands.done (compared ++ pending_of side) ended → StandsOver side.machine devices (world_after program files stands.done)
  over_here None tracks = subst (StandsOver side.machine devices) (sym (ap (λ (s : State). s.memory.world) tracks.reached)) tracks.stands
  over_here (Some ending) ended = ended.stands

  pub left_here : StandsLeft (addresses_of program.files) [] devices side.machine.table.rows (world_after program files stands.done)
  left_here =
      subst (λ (entries : List FileEntry). StandsLeft (addresses_of entries) [] devices side.machine.table.rows (world_after program files stands.done)) same
      (open_over side.machine devices (world_after program files stands.done) (over_here side.ended stands.reached))

  pub leaves_some : (gone : List (List ℕ)) (now : List Seen) →
      ((world : World) → StandsLeft (addresses_of program.files) [] devices side.machine.table.rows world → LeavesFiles (addresses_of program.files) gone now world) → LeavesSome program files steps gone now
  leaves_some gone now closes =
      (stands.done, within program files side devices steps compared stands, closes (world_after program files stands.done) left_here)

-- ---- the benches before closing

-- the devices of the first bench that failed in a step
abbrev pub first_gone : Verdict → ℕ → List Seen → List (List ℕ)
first_gone verdict.FirstFailed mid between = name_behind mid between ∷ []
first_gone (verdict.Same count) mid between = []
first_gone (verdict.Differ number) mid between = []
first_gone verdict.Budget mid between = []
first_gone verdict.SecondFailed mid between = []
first_gone verdict.NoMemory mid between = []

-- those of the second
abbrev pub second_gone : Verdict → ℕ → List Seen → List (List ℕ)
second_gone verdict.SecondFailed mid between = name_behind mid between ∷ []
second_gone (verdict.Same count) mid between = []
second_gone (verdict.Differ number) mid between = []
second_gone verdict.Budget mid between = []
second_gone verdict.FirstFailed mid between = []
second_gone verdict.NoMemory mid between = []

module _ (files : List FileEntry) (left mid : ℕ) (old between : List Seen) (rows : List FileRow) where
  abbrev pub LeftSo : List (List ℕ) → Type 0
  LeftSo gone = LeftOf (is_used (addresses_of files)) gone left mid old between × AreShut gone (addresses_of files) rows

  none_so : SameBench files left mid old between → LeftSo []
  none_so so = (so, nothing_shut (addresses_of files) rows)

  pub first_bench : (came : Verdict) → FirstFalls came files left mid old between rows → LeftSo (first_gone came mid between)
  first_bench verdict.FirstFailed falls = falls
  first_bench (verdict.Same count) falls = none_so falls
  first_bench (verdict.Differ number) falls = none_so falls
  first_bench verdict.Budget falls = none_so falls
  first_bench verdict.SecondFailed falls = none_so falls
  first_bench verdict.NoMemory falls = none_so falls

  pub second_bench : (came : Verdict) → SecondFalls came files left mid old between rows → LeftSo (second_gone came mid between)
  second_bench verdict.SecondFailed falls = falls
  second_bench (verdict.Same count) falls = none_so falls
  second_bench (verdict.Differ number) falls = none_so falls
  second_bench verdict.Budget falls = none_so falls
  second_bench verdict.FirstFailed falls = none_so falls
  second_bench verdict.NoMemory falls = none_so falls

-- ---- what an answer tells of the runs and the files

module _ (p q : Program) (files other_files : Files) (steps : ℕ) (gone other_gone : List (List ℕ)) (devices others : List Seen) where
  abbrev pub FilesSo : Compared → Type 0
  FilesSo came =
      IsOf came (course_in p files steps) (course_in q other_files steps)
      × FirstLeaves came p files steps gone devices × SecondLeaves came q other_files steps other_gone others

  unless_so : (answer : Compared) (first second : Finished) → FilesSo answer → LeavesSome p files steps gone devices → LeavesSome q other_files steps other_gone others → FilesSo (unless_failed answer first second)
  unless_so answer finished.Whole finished.Whole so here there = so
  unless_so answer finished.Whole (finished.DeviceFault name) so here there = (tt, here, tt)
  unless_so answer finished.Whole finished.NoMemory so here there = (tt, tt, tt)
  unless_so answer (finished.DeviceFault name) second so here there = (tt, tt, there)
  unless_so answer finished.NoMemory second so here there = (tt, tt, tt)

  first_so : (first : Finished) → LeavesSome q other_files steps other_gone others → FilesSo (first_fault first)
  first_so finished.Whole there = (tt, tt, tt)
  first_so (finished.DeviceFault name) there = (tt, tt, there)
  first_so finished.NoMemory there = (tt, tt, tt)

  second_so : (second : Finished) → LeavesSome p files steps gone devices → FilesSo (second_fault second)
  second_so finished.Whole here = (tt, tt, tt)
  second_so (finished.DeviceFault name) here = (tt, here, tt)
  second_so finished.NoMemory here = (tt, tt, tt)

-- ---- the whole

module _ (p q : Program) (steps : ℕ) (pair : Pair) (left mid now : ℕ) (old between new : List Seen) (other other_mid other_now : ℕ) (other_old other_between other_new : List Seen)
    (same : files_of pair.first ≡ p.files) (same_too : files_of pair.second ≡ q.files) (first second : Finished) where
  closes_first : (gone : List (List ℕ)) (files : Files) (compared : Trace) (stands : StandsAt p files pair.first (take mid between) steps compared) → gone ≡ [] →
      (ends : Finishes first p.files gone left now old new (take mid between) pair.first.machine.table.rows) → LeavesSome p files steps ends.all (take now new)
  closes_first gone files compared stands none ends =
      leaves_some p files pair.first (take mid between) steps compared stands same ends.all (take now new)
      (λ world so. ends.leaves world (subst (λ (g : List (List ℕ)). StandsLeft (addresses_of p.files) g (take mid between) pair.first.machine.table.rows world) (sym none) so))

  closes_second : (gone : List (List ℕ)) (files : Files) (compared : Trace) (stands : StandsAt q files pair.second (take other_mid other_between) steps compared) → gone ≡ [] →
      (ends : Finishes second q.files gone other other_now other_old other_new (take other_mid other_between) pair.second.machine.table.rows) → LeavesSome q files steps ends.all (take other_now other_new)
  closes_second gone files compared stands none ends =
      leaves_some q files pair.second (take other_mid other_between) steps compared stands same_too ends.all (take other_now other_new)
      (λ world so. ends.leaves world (subst (λ (g : List (List ℕ)). StandsLeft (addresses_of q.files) g (take other_mid other_between) pair.second.machine.table.rows world) (sym none) so))

  files_so : (came : Verdict) (files other_files : Files) → IsVerdict came p q files other_files pair (take mid between) (take other_mid other_between) steps →
      (ends : Finishes first p.files (first_gone came mid between) left now old new (take mid between) pair.first.machine.table.rows)
      (ends_too : Finishes second q.files (second_gone came other_mid other_between) other other_now other_old other_new (take other_mid other_between) pair.second.machine.table.rows) →
      FilesSo p q files other_files steps ends.all ends_too.all (take now new) (take other_now other_new) (answered came first second)
  files_so (verdict.Same count) files other_files so ends ends_too =
      let here = closes_first [] files so.1.compared so.1.first refl ends in
      let there = closes_second [] other_files so.1.compared so.1.second refl ends_too in
      unless_so p q files other_files steps ends.all ends_too.all (take now new) (take other_now other_new) (compared.Same count) first second (so.0, here, there) here there
  files_so (verdict.Differ number) files other_files so ends ends_too =
      let here = closes_first [] files so.1.compared so.1.first refl ends in
      let there = closes_second [] other_files so.1.compared so.1.second refl ends_too in
      unless_so p q files other_files steps ends.all ends_too.all (take now new) (take other_now other_new) (compared.Differ number) first second (so.0, here, there) here there
  files_so verdict.Budget files other_files so ends ends_too =
      let here = closes_first [] files so.1.compared so.1.first refl ends in
      let there = closes_second [] other_files so.1.compared so.1.second refl ends_too in
      unless_so p q files other_files steps ends.all ends_too.all (take now new) (take other_now other_new) compared.Budget first second (so.0, here, there) here there
  files_so verdict.FirstFailed files other_files so ends ends_too =
      first_so p q files other_files steps ends.all ends_too.all (take now new) (take other_now other_new) first (closes_second [] other_files so.0 so.1 refl ends_too)
  files_so verdict.SecondFailed files other_files so ends ends_too =
      second_so p q files other_files steps ends.all ends_too.all (take now new) (take other_now other_new) second (closes_first [] files so.0 so.1 refl ends)
  files_so verdict.NoMemory files other_files so ends ends_too = (tt, tt, tt)

  pub compares : (came : Verdict) →
      ((files other_files : Files) → IsOwn p → IsOwn q → TellFiles p (take left old) files → TellFiles q (take other other_old) other_files → IsVerdict came p q files other_files pair (take mid between) (take other_mid other_between) steps) →
      Finishes first p.files (first_gone came mid between) left now old new (take mid between) pair.first.machine.table.rows →
      Finishes second q.files (second_gone came other_mid other_between) other other_now other_old other_new (take other_mid other_between) pair.second.machine.table.rows →
      Compares p q steps left now old new other other_now other_old other_new (answered came first second)
  compares came so ends ends_too = record {
    gone = ends.all;
    other_gone = ends_too.all;
    bench = ends.bench;
    other_bench = ends_too.bench;
    names = first_names came first second ends.all ends.names;
    other_names = second_names came first second ends_too.all ends_too.names;
    files = λ files other_files own own_too tell tell_too.
        files_so came files other_files (so files other_files own own_too tell tell_too) ends ends_too;
  }

-- ---- closing, as it was said of the machine's own files

module _ (came : Finished) (files of : List FileEntry) (left mid now : ℕ) (old between new : List Seen) (rows : List FileRow) (same : files ≡ of) (few : length of < 2 ^ 32)
    (ends : (gone : List (List ℕ)) (was : List Seen) → length files < 2 ^ 32 → LeftOf (is_used (addresses_of files)) gone left mid was between → AreShut gone (addresses_of files) rows → Finishes came files gone left now was new (take mid between) rows) where
  pub finishes_so : (gone : List (List ℕ)) → LeftSo files left mid old between rows gone → Finishes came of gone left now old new (take mid between) rows
  finishes_so gone so =
      subst (λ (entries : List FileEntry). Finishes came entries gone left now old new (take mid between) rows) same
      (ends gone old (subst (λ (entries : List FileEntry). length entries < 2 ^ 32) (sym same) few) so.0 so.1)

-- ---- nothing ran

pub never_compared : (p q : Program) (steps left other : ℕ) (devices others : List Seen) → Compares p q steps left left devices devices other other others others compared.NoMemory
never_compared p q steps left other devices others = record {
  gone = [];
  other_gone = [];
  bench = none_fell p.files left devices;
  other_bench = none_fell q.files other others;
  names = tt;
  other_names = tt;
  files = λ files other_files own own_too tell tell_too. (tt, tt, tt);
}
