-- In a program that isn't faulty no range performs itself, directly or not.
use Rattle.std.proofs.Common.{◌≡◌, ◌<◌, ℕ, zero, suc, Bool, List, [], ◌∷◌, length, Some, None, slice_get, refl, ap, sym, ◌∙◌, subst, inl, inr, arith}
use Rattle.std.proofs.lemmas.Option.{slice_get_within}
use Rattle.cob_tree.specs.declared.program.Range as tree
use Rattle.control_flow_theory.specs.language.Language.{Chooser, Program}
use Rattle.cob_tree.specs.declared.ending.FlowFault.TheVariants.{Overlap, Reentry}
use Rattle.program_points.specs.paths.Flow.{part, IsFaulty}
use Rattle.pending_returns.specs.levels.Reach.{Holds}
use Rattle.pending_returns.specs.declared.facts.RangeFacts.{RangeFacts}
use Rattle.pending_returns.specs.declared.facts.Summary.{Summary}
use Rattle.pending_returns.specs.Summary.{IsSummary}
use Rattle.pending_returns.specs.faults.Clash.{LeadsFrom, NoClash}
use Rattle.pending_returns.specs.faults.Clash as clashing
use Rattle.pending_returns.proofs.faults_lemmas.Clashes.{clash-faulty}
use Rattle.procedure_split.specs.plan.Planned.{calls_of}
use Rattle.procedure_split.specs.plan.Ordered.{Calls, Leads, begins, on, IsLayered}

pub get-there : {A : Type 0} → (xs : List A) (at : ℕ) → at < length xs → (x : A) × (slice_get xs at ≡ Some x)
get-there [] at lt = absurd (omega (arith, lt))
get-there (x ∷ xs) zero lt = (x, refl)
get-there (x ∷ xs) (suc at) lt = get-there xs at (omega (arith, lt))

pub size-calls : (ranges : List RangeFacts) → length (calls_of ranges) ≡ length ranges
size-calls [] = refl
size-calls (facts ∷ ranges) = ap (λ n. suc n) (size-calls ranges)

pub calls-at : (ranges : List RangeFacts) (number : ℕ) (facts : RangeFacts) → slice_get ranges number ≡ Some facts → slice_get (calls_of ranges) number ≡ Some facts.calls
calls-at [] number facts e = absurd (let k : ⊥ = cc in k)
calls-at (first ∷ ranges) zero facts e = (let same : first ≡ facts = cc in ap (λ (f : RangeFacts). Some f.calls) same)
calls-at (first ∷ ranges) (suc number) facts e = calls-at ranges number facts e

-- what calls has facts
pub caller-facts : (ranges : List RangeFacts) (from to : ℕ) → Calls (calls_of ranges) from to → (facts : RangeFacts) × (slice_get ranges from ≡ Some facts) × Holds facts.calls to
caller-facts ranges from to c =
    let there : from < length ranges = (let lt : from < length (calls_of ranges) = slice_get_within (calls_of ranges) from c.0 c.1 in let size = size-calls ranges in omega (arith, lt, size)) in
    let f = get-there ranges from there in
    let both : Some c.0 ≡ Some f.0.calls = sym c.1 ∙ calls-at ranges from f.0 f.1 in
    let same : c.0 ≡ f.0.calls = cc in
    (f.0, f.1, subst (λ cs. Holds cs to) same c.2)

pub leads-from : (ranges : List RangeFacts) (base number : ℕ) → Leads (calls_of ranges) base number → LeadsFrom ranges base number
leads-from ranges base number (begins) = clashing.begins
leads-from ranges base number (on from to led c) =
    let f = caller-facts ranges from to c in
    clashing.calls from to f.0 (leads-from ranges base from led) f.1 f.2

module _ (never_first : Chooser → Bool) (program : Program) (summary : Summary) (is : IsSummary never_first program summary) where
  abbrev ranges : List RangeFacts
  ranges = summary.ranges

  -- what is called has facts, and ends
  pub called-facts : (from to : ℕ) → Calls (calls_of ranges) from to → (facts : RangeFacts) × (entry : ℕ) × (exit : ℕ) × (slice_get ranges to ≡ Some facts) × (facts.range ≡ part entry exit)
  called-facts from to c =
      let f = caller-facts ranges from to c in
      let target = get-there ranges to ((is.told from f.0 f.1).calls_known to f.2) in
      let in_level = ((is.told from f.0 f.1).calls target.0.range).1 (to, f.2, (target.0, target.1, refl)) in
      (target.0, in_level.1, in_level.2, target.1, in_level.6)

  pub not-clashing : (IsFaulty never_first program → ⊥) → NoClash ranges
  not-clashing fine base end facts here ends number last leads there = (
    λ one. fine (clash-faulty never_first program summary is (record { base = base; last = number; fault = Reentry end }) (base, end, facts, here, ends, record { is_base = refl; leads = leads; facts = last; level = there; faults = inl (refl, one) })),
    λ passed. fine (clash-faulty never_first program summary is (record { base = base; last = number; fault = Overlap end }) (base, end, facts, here, ends, record { is_base = refl; leads = leads; facts = last; level = there; faults = inr (refl, passed) })),
  )

  pub layered : (IsFaulty never_first program → ⊥) → IsLayered (calls_of ranges)
  layered fine = record {
    some = (let lt : 0 < length ranges = slice_get_within ranges 0 is.main.0 is.main.1 in let size = size-calls ranges in omega (arith, lt, size));
    first = λ from c.
        let f = called-facts from 0 c in
        let both : Some is.main.0 ≡ Some f.0 = sym is.main.1 ∙ f.3 in
        let same : is.main.0 ≡ f.0 = cc in
        let wrong : None ≡ Some f.2 = ap (λ (r : tree.Range). r.exit) (sym is.main.2 ∙ ap (λ (x : RangeFacts). x.range) same ∙ f.4) in
        (let k : ⊥ = cc in k);
    never = λ from to led c.
        let base = called-facts to from c in
        let last = caller-facts ranges to from c in
        let ends : base.0.range.exit ≡ Some base.2 = ap (λ (r : tree.Range). r.exit) base.4 in
        (not-clashing fine from base.2 base.0 base.3 ends to last.0 (leads-from ranges from to led) last.1).0 (from, base.0, last.2, base.3, ends);
  }
