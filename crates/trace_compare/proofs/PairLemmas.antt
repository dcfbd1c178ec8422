-- Two programs that run beside each other.
use Rattle.std.proofs.Common.{◌≡◌, ◌∙◌, ℕ, suc, ◌+◌, ◌-◌, ◌<◌, ◌≤◌, ◌^◌, inl, inr, List, [], ◌++◌, length, take, drop, Option, None, Some, ap, arith, refl, subst, sym}
use Rattle.std.proofs.lemmas.List.{length-append, length-drop, length-take-le}
use Rattle.cob_tree.specs.declared.file.FileEntry.{FileEntry}
use Rattle.cob_tree.specs.declared.program.Program.{Program}
use Rattle.file_model.specs.declared.table.FileRow.{FileRow}
use Rattle.file_model.specs.operations.Seen.{Seen}
use Rattle.control_flow_theory.specs.semantics.Outcome.{Trace}
use Rattle.cobol_theory.specs.cobol_meaning.Runs.{Files, source_run}
use Rattle.cobol_run.specs.declared.machine.Ending.{Ending}
use Rattle.cobol_run.specs.Falling.{SameBench}
use Rattle.trace_compare.specs.declared.compared.Compared.TheVariants as compared
use Rattle.trace_compare.specs.declared.next.Decision.{Decision}
use Rattle.trace_compare.specs.declared.next.Decision.TheVariants as next
use Rattle.trace_compare.specs.declared.pair.Pair.{Pair}
use Rattle.trace_compare.specs.declared.pair.Turn.{Turn}
use Rattle.trace_compare.specs.Differing.{DifferAt, IsAnswer, SameWith, Undecided, course_of}
use Rattle.trace_compare.specs.Event.{way_by, way_if}
use Rattle.trace_compare.specs.Next.{IsNext, front_of, next_of}
use Rattle.trace_compare.specs.Pair.{BothStand, FirstTurns, HasRoom, SecondTurns, course_in}
use Rattle.trace_compare.specs.Side.{StandsAt, ended_of, pending_of}
use Rattle.trace_compare.proofs.DifferingLemmas.{behind}
use Rattle.trace_compare.proofs.NextLemmas.{front_ends, front_same, front_within, next_right}
use Rattle.trace_compare.proofs.SideLemmas.{course_here, covers_here, skipped}
use Rattle.trace_compare.proofs.VerdictLemmas.{known_differ, known_open, known_open_too, known_same}

-- ---- events are compared

module _ (old new : Pair) (count : ℕ) (more : count ≡ front_of (pending_of old.first) (pending_of old.second)) (same : new.same ≡ old.same + count)
    (first_pending : pending_of new.first ≡ drop count (pending_of old.first)) (second_pending : pending_of new.second ≡ drop count (pending_of old.second))
    (first_left : new.first.left ≡ old.first.left) where
  count_within : count ≤ length (pending_of old.first)
  count_within = let w = front_within (pending_of old.first) (pending_of old.second) in omega (arith, more, w)

  pub room_still : HasRoom old → HasRoom new
  room_still room =
      let l : length (pending_of new.first) ≡ length (pending_of old.first) - count = ap length first_pending ∙ length-drop count (pending_of old.first) in
      let w = count_within in
      omega (arith, room, l, w, same, first_left)

  pub apart_then : front_of (pending_of new.first) (pending_of new.second) ≡ 0
  apart_then =
      ap (λ t. front_of t (pending_of new.second)) (first_pending ∙ ap (λ n. drop n (pending_of old.first)) more)
      ∙ ap (front_of (drop (front_of (pending_of old.first) (pending_of old.second)) (pending_of old.first))) (second_pending ∙ ap (λ n. drop n (pending_of old.second)) more)
      ∙ front_ends (pending_of old.first) (pending_of old.second)

  module _ (first_machine : new.first.machine ≡ old.first.machine) (second_machine : new.second.machine ≡ old.second.machine) (first_ended : new.first.ended ≡ old.first.ended) (second_ended : new.second.ended ≡ old.second.ended) (second_left : new.second.left ≡ old.second.left) where
    pub both_still : (p q : Program) (files other_files : Files) (devices others : List Seen) (steps : ℕ) → BothStand p q files other_files old devices others steps → BothStand p q files other_files new devices others steps
    both_still p q files other_files devices others steps both = record {
      compared = both.compared ++ take count (pending_of old.first);
      count =
          length-append both.compared (take count (pending_of old.first))
          ∙ ap (λ n. length both.compared + n) (length-take-le count (pending_of old.first) count_within)
          ∙ ap (λ n. n + count) both.count ∙ sym same;
      first = skipped p files old.first devices steps both.compared both.first new.first count first_left first_machine first_ended first_pending;
      second =
          let alike : take count (pending_of old.second) ≡ take count (pending_of old.first) =
          ap (λ n. take n (pending_of old.second)) more ∙ sym (front_same (pending_of old.first) (pending_of old.second)) ∙ sym (ap (λ n. take n (pending_of old.first)) more) in
          subst (λ (t : Trace). StandsAt q other_files new.second others steps (both.compared ++ t)) alike
          (skipped q other_files old.second others steps both.compared both.second new.second count second_left second_machine second_ended second_pending);
    }

-- ---- one more step

pub room_stepped : (old new : Pair) → HasRoom old → pending_of old.first ≡ [] → new.same ≡ old.same → new.first.left + 1 ≡ old.first.left → length (pending_of new.first) < 2 ^ 64 → HasRoom new
room_stepped old new room empty same left few =
    let l : length (pending_of old.first) ≡ 0 = ap length empty in
    omega (arith, room, l, same, left, few)

-- ---- what is known of both

module _ (p q : Program) (files other_files : Files) (pair : Pair) (devices others : List Seen) (steps : ℕ) (both : BothStand p q files other_files pair devices others steps) where
  abbrev Right : Decision → Type 0
  Right n = IsNext n (pending_of pair.first) (ended_of pair.first) pair.first.left (pending_of pair.second) (ended_of pair.second) pair.second.left

  pub knows_same : Right next.Same → IsAnswer (compared.Same pair.same) (course_in p files steps) (course_in q other_files steps)
  knows_same right =
      subst (λ (n : ℕ). SameWith n (course_in p files steps) (course_in q other_files steps)) both.count
      (known_same (source_run p files both.first.done) (source_run p files steps) (source_run q other_files both.second.done) (source_run q other_files steps)
      (covers_here p files pair.first devices steps both.compared both.first) (covers_here q other_files pair.second others steps both.compared both.second)
      both.compared (pending_of pair.first) (pending_of pair.second) (ended_of pair.first) (ended_of pair.second)
      (course_here p files pair.first devices steps both.compared both.first) (course_here q other_files pair.second others steps both.compared both.second) right)

  pub knows_differ : Right next.Differ → front_of (pending_of pair.first) (pending_of pair.second) ≡ 0 → IsAnswer (compared.Differ (pair.same + 1)) (course_in p files steps) (course_in q other_files steps)
  knows_differ right apart =
      let e : suc (length both.compared) ≡ pair.same + 1 = let k = both.count in omega (arith, k) in
      subst (λ (n : ℕ). DifferAt n (course_in p files steps) (course_in q other_files steps)) e
      (known_differ (source_run p files both.first.done) (source_run p files steps) (source_run q other_files both.second.done) (source_run q other_files steps)
      (covers_here p files pair.first devices steps both.compared both.first) (covers_here q other_files pair.second others steps both.compared both.second)
      both.compared (pending_of pair.first) (pending_of pair.second) (ended_of pair.first) (ended_of pair.second)
      (course_here p files pair.first devices steps both.compared both.first) (course_here q other_files pair.second others steps both.compared both.second) (right apart))

  pub knows_budget : Right next.Budget → IsAnswer compared.Budget (course_in p files steps) (course_in q other_files steps)
  knows_budget (inl out) =
      let all : both.first.done ≡ steps = let e = both.first.counted in let z = out.2 in omega (arith, e, z) in
      let here : course_of (source_run p files both.first.done) ≡ behind both.compared [] None =
      course_here p files pair.first devices steps both.compared both.first ∙ ap (λ (t : Trace). behind both.compared t (ended_of pair.first)) out.0 ∙ ap (behind both.compared []) out.1 in
      subst (λ (n : ℕ). Undecided (course_in p files n) (course_in q other_files steps)) all
      (known_open_too (source_run p files both.first.done) (source_run q other_files both.second.done) (source_run q other_files steps)
      (covers_here q other_files pair.second others steps both.compared both.second)
      both.compared (pending_of pair.second) (ended_of pair.second) here (course_here q other_files pair.second others steps both.compared both.second))
  knows_budget (inr out) =
      let all : both.second.done ≡ steps = let e = both.second.counted in let z = out.2 in omega (arith, e, z) in
      let there : course_of (source_run q other_files both.second.done) ≡ behind both.compared [] None =
      course_here q other_files pair.second others steps both.compared both.second ∙ ap (λ (t : Trace). behind both.compared t (ended_of pair.second)) out.0 ∙ ap (behind both.compared []) out.1 in
      subst (λ (n : ℕ). Undecided (course_in p files steps) (course_in q other_files n)) all
      (known_open (source_run q other_files both.second.done) (source_run p files both.first.done) (source_run p files steps)
      (covers_here p files pair.first devices steps both.compared both.first)
      both.compared (pending_of pair.first) (ended_of pair.first) there (course_here p files pair.first devices steps both.compared both.first))

-- ---- what is next is right

pub next_is_right : (pair : Pair) (following : Decision) → following ≡ next_of (pending_of pair.first) (ended_of pair.first) pair.first.left (pending_of pair.second) (ended_of pair.second) pair.second.left →
    IsNext following (pending_of pair.first) (ended_of pair.first) pair.first.left (pending_of pair.second) (ended_of pair.second) pair.second.left
next_is_right pair following is =
    subst (λ (n : Decision). IsNext n (pending_of pair.first) (ended_of pair.first) pair.first.left (pending_of pair.second) (ended_of pair.second) pair.second.left) (sym is)
    (next_right (pending_of pair.first) (ended_of pair.first) pair.first.left (pending_of pair.second) (ended_of pair.second) pair.second.left)

pub going_is : (ended : Option Ending) → way_if ended ≡ None → ended ≡ None
going_is None is = refl
going_is (Some ending) is = absurd (let e : Some (way_by ending) ≡ None = is in cc)

-- ---- the benches, whose files are those of the side at the start

module _ (came : Turn) (mine start : List FileEntry) (same : mine ≡ start) (mid now : ℕ) (between new : List Seen) (rows : List FileRow) where
  pub first_turns : ((left : ℕ) (old : List Seen) → SameBench mine left mid old between → FirstTurns came mine left now old new rows) → (left : ℕ) (old : List Seen) → SameBench start left mid old between → FirstTurns came start left now old new rows
  first_turns falls left old so =
      subst (λ (files : List FileEntry). FirstTurns came files left now old new rows) same
      (falls left old (subst (λ (files : List FileEntry). SameBench files left mid old between) (sym same) so))

  pub second_turns : ((left : ℕ) (old : List Seen) → SameBench mine left mid old between → SecondTurns came mine left now old new rows) → (left : ℕ) (old : List Seen) → SameBench start left mid old between → SecondTurns came start left now old new rows
  second_turns falls left old so =
      subst (λ (files : List FileEntry). SecondTurns came files left now old new rows) same
      (falls left old (subst (λ (files : List FileEntry). SameBench files left mid old between) (sym same) so))
