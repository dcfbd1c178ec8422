-- Free paths and flow paths, up to the first fault.
use Rattle.std.proofs.Common.{◌≡◌, ℕ, Bool, true, false, if◌then◌else◌, List, [], ◌∷◌, Some, None, refl, subst, ◌⊎◌, inl, inr}
use Rattle.cob_tree.specs.declared.ending.FlowFault.{FlowFault}
use Rattle.cob_tree.specs.declared.ending.FlowFault.TheVariants.{Reentry}
use Rattle.control_flow_theory.specs.language.Language.{Chooser, Program}
use Rattle.program_points.specs.paths.Step.{Point, next}
use Rattle.program_points.specs.paths.Flow.{main_range, Pending, FreeStep, goes, calls, returns, falls, FreePath, begins, steps, is_among, fault_of, ends_of, FlowPath, begins_flow, steps_flow, IsFaulty}

module _ (never_first : Chooser → Bool) (program : Program) where
  -- up to its first fault a free path is a flow path
  pub flows : (point : Point) (pending : List Pending) → FreePath never_first program main_range point pending → FlowPath never_first program point pending ⊎ IsFaulty never_first program
  flows point pending (begins) = inl begins_flow
  flows point pending (steps from to before after path step) =
      elim (flows from before path) [
        | inr faulty ↦ inr faulty
        | inl flow ↦
            (elim (fault_of (next never_first program from) (ends_of before)) as (λ o. fault_of (next never_first program from) (ends_of before) ≡ o → FlowPath never_first program to after ⊎ IsFaulty never_first program) [
              | None ↦ λ e. inl (steps_flow from to before after flow e step)
              | Some fault ↦ λ e. inr (record { point = from; pending = before; fault = fault; path = flow; meets = e })
            ]) refl
      ]

  pub frees : (point : Point) (pending : List Pending) → FlowPath never_first program point pending → FreePath never_first program main_range point pending
  frees point pending (begins_flow) = begins
  frees point pending (steps_flow from to before after path fine step) = steps from to before after (frees from before path) step

  pub faulty : (point : Point) (pending : List Pending) (fault : FlowFault) → FreePath never_first program main_range point pending → fault_of (next never_first program point) (ends_of pending) ≡ Some fault → IsFaulty never_first program
  faulty point pending fault path meets =
      elim (flows point pending path) [
        | inl flow ↦ record { point = point; pending = pending; fault = fault; path = flow; meets = meets }
        | inr known ↦ known
      ]

-- no end is pending twice
abbrev pub Apart : List ℕ → Type 0
Apart [] = Unit {0}
Apart (end ∷ ends) = (is_among end ends ≡ false) × Apart ends

not-among : (b : Bool) (exit : ℕ) → (if b then Some (Reentry exit) else None) ≡ None → b ≡ false
not-among true exit e = absurd (let h : Some (Reentry exit) ≡ None = e in let k : ⊥ = cc in k)
not-among false exit e = refl

module _ (never_first : Chooser → Bool) (program : Program) where
  apart-on : (from : Point) (before : List Pending) (to : Point) (after : List Pending) → FreeStep never_first program main_range from before to after →
      fault_of (next never_first program from) (ends_of before) ≡ None → Apart (ends_of before) → Apart (ends_of after)
  apart-on from before to after (goes from1 to1 pending ways number e w) fine apart = apart
  apart-on from before to after (calls from1 back pending entry exit e) fine apart =
      (not-among (is_among exit (ends_of pending)) exit (subst (λ n. fault_of n (ends_of pending) ≡ None) e fine), apart)
  apart-on from before to after (returns from1 back pending exit e) fine apart = apart.1
  apart-on from before to after (falls from1 pending paragraph e out is) fine apart = apart

  pub apart : (point : Point) (pending : List Pending) → FlowPath never_first program point pending → Apart (ends_of pending)
  apart point pending (begins_flow) = tt
  apart point pending (steps_flow from to before after path fine step) = apart-on from before to after step fine (apart from before path)
