-- The ranges that some flow path performs, by levels.
use Rattle.std.proofs.Common.{◌≡◌, ◌<◌, ℕ, Bool, List, [], ◌∷◌, length, Some, slice_get, refl, ap, sym, ◌∙◌, subst, inl, inr, arith}
use Rattle.cob_tree.specs.declared.program.Range.{Range}
use Rattle.control_flow_theory.specs.language.Language.{Chooser, Program}
use Rattle.program_points.specs.paths.Step.{Point}
use Rattle.program_points.specs.paths.Flow.{main_range, part, Pending, returning, IsRange, IsReached}
use Rattle.program_points.specs.paths.Levels.{Levels, bottom, called}
use Rattle.program_points.proofs.paths_lemmas.Runs.{stands, levels-run}
use Rattle.program_points.specs.declared.point_table.table.Table.{Table}
use Rattle.program_points.specs.point_table.Table.{IsTable, IsTidy, IsSound, IsClosed}
use Rattle.pending_returns.specs.levels.Reach.{Holds}
use Rattle.pending_returns.proofs.levels_lemmas.Exact.{path-comes, comes-path, comes-in, found-in, calls-found, calls-true}
use Rattle.pending_returns.specs.declared.facts.RangeFacts.{RangeFacts}
use Rattle.pending_returns.specs.Tabled.{TellsLevel, TellsLevels, LeadsTo, begins, calls, ComesToOwner}
use Rattle.pending_returns.proofs.Getting.{get-below, get-some}

-- a level that stands is main's or is performed
from-level : (never_first : Chooser → Bool) (program : Program) (range : Range) (pending : List Pending) → Levels never_first program main_range range pending → IsRange never_first program range
from-level never_first program range pending (bottom) = inl refl
from-level never_first program range pending (called under others from after entry exit l c n) = inr (from, others, entry, exit, after, levels-run never_first program main_range under others l from c, n, refl)

-- and so is one that is performed
to-level : (never_first : Chooser → Bool) (program : Program) (range : Range) → IsRange never_first program range → (pending : List Pending) × Levels never_first program main_range range pending
to-level never_first program range (inl same) = ([], subst (λ (r : Range). Levels never_first program main_range r []) (sym same) bottom)
to-level never_first program range (inr p) =
    let s = stands never_first program main_range p.0 p.1 p.5 in
    (returning p.3 p.4 ∷ p.1, subst (λ (r : Range). Levels never_first program main_range r (returning p.3 p.4 ∷ p.1)) (sym p.7) (called s.0 p.1 p.0 p.4 p.2 p.3 s.1 s.2 p.6))

module _ (never_first : Chooser → Bool) (program : Program) (table : Table) (points : ℕ → Point) (returns : List Bool) (is : IsTable never_first program table points) (sound : IsSound never_first program table returns) (closed : IsClosed table returns) (levels : List RangeFacts) (told : TellsLevels table returns levels)
    (main : slice_get table.ranges 0 ≡ Some main_range) where
  level-of : (number : ℕ) → LeadsTo levels number → (range : Range) → slice_get table.ranges number ≡ Some range → (pending : List Pending) × Levels never_first program main_range range pending
  level-of number (begins) range e =
      let both : Some range ≡ Some main_range = sym e ∙ main in
      let same : range ≡ main_range = cc in
      ([], subst (λ (r : Range). Levels never_first program main_range r []) (sym same) bottom)
  level-of number (calls from to facts led level has) range e =
      let each = told.each from facts level in
      let below = level-of from led facts.range each.0 in
      let inner = calls-true never_first program table points returns is sound closed from facts.range each.0 each.2.places each.2.reach to range e ((each.2.calls_are to).1 has) in
      let comes = path-comes never_first program facts.range inner.0 inner.4 in
      (returning inner.2 inner.3 ∷ below.0, subst (λ (r : Range). Levels never_first program main_range r (returning inner.2 inner.3 ∷ below.0)) (sym inner.6) (called facts.range below.0 inner.0 inner.3 inner.1 inner.2 below.1 comes inner.5))

  number-of : (range : Range) (pending : List Pending) → Levels never_first program main_range range pending → (number : ℕ) × LeadsTo levels number × (slice_get table.ranges number ≡ Some range)
  number-of range pending (bottom) = (0, begins, main)
  number-of range pending (called under others from after entry exit l c n) =
      let below = number-of under others l in
      let inside : below.0 < length levels = omega (arith, get-below table.ranges below.0 under below.2, told.size) in
      let facts = get-some levels below.0 inside in
      let each = told.each below.0 facts.0 facts.1 in
      let both : Some facts.0.range ≡ Some under = sym each.0 ∙ below.2 in
      let same : facts.0.range ≡ under = cc in
      let level : TellsLevel table returns under facts.0.calls facts.0.ends = subst (λ (r : Range). TellsLevel table returns r facts.0.calls facts.0.ends) same each.2 in
      let found = calls-found never_first program table points returns is sound closed below.0 under below.2 level.places level.reach (part entry exit) (from, entry, exit, after, comes-path never_first program under from c, n, refl) in
      (found.0, calls below.0 found.0 facts.0 below.1 facts.1 ((level.calls_are found.0).0 found.2), found.1)

  pub range-led : (range : Range) → IsRange never_first program range → (number : ℕ) × LeadsTo levels number × (slice_get table.ranges number ≡ Some range)
  range-led range performed = (let l = to-level never_first program range performed in number-of range l.0 l.1)

  pub led-range : (number : ℕ) (range : Range) → LeadsTo levels number → slice_get table.ranges number ≡ Some range → IsRange never_first program range
  led-range number range led e = (let l = level-of number led range e in from-level never_first program range l.0 l.1)

  pub reached-owner : (paragraph : ℕ) (numbers : List ℕ) → ((number : ℕ) → LeadsTo levels number → Holds numbers number) → IsReached never_first program paragraph → ComesToOwner table returns numbers paragraph
  reached-owner paragraph numbers all r =
      let s = stands never_first program main_range r.0 r.1 r.2 in
      let n = number-of s.0 r.1 s.1 in
      let f = found-in never_first program table points returns is closed s.0 r.0 s.2 n.0 n.2 in
      let place = get-some table.places f.0 f.3 in
      (n.0, s.0, f.0, all n.0 n.1, n.2, f.1, is.owned f.0 place.0 place.1 ∙ ap (λ (p : Point). Some p.paragraph) f.2 ∙ ap (λ (k : ℕ). Some k) r.3)

  pub owner-reached : IsTidy table → (paragraph : ℕ) (numbers : List ℕ) → ((number : ℕ) → Holds numbers number → LeadsTo levels number) → ComesToOwner table returns numbers paragraph → IsReached never_first program paragraph
  owner-reached tidy paragraph numbers only c =
      let l = level-of c.0 (only c.0 c.3) c.1 c.4 in
      let comes = comes-in never_first program table points returns is sound c.1 c.2 c.5 in
      let path = levels-run never_first program main_range c.1 l.0 l.1 (points c.2) comes in
      let place = get-some table.places c.2 (let less : c.2 < length table.owners = get-below table.owners c.2 paragraph c.6 in omega (arith, less, tidy.size)) in
      let both : Some (points c.2).paragraph ≡ Some paragraph = sym (is.owned c.2 place.0 place.1) ∙ c.6 in
      let same : (points c.2).paragraph ≡ paragraph = cc in
      (points c.2, l.0, path, same)
