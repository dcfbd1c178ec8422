-- A free path comes to a point exactly where levels stand one on the other and the top one comes there.
use Rattle.std.proofs.Common.{Bool, ◌≡◌, ℕ, suc, false, List, [], ◌∷◌, refl, sym, subst}
use Rattle.cob_tree.specs.declared.program.Range.{Range}
use Rattle.control_flow_theory.specs.language.Language.{Chooser, Program}
use Rattle.program_points.specs.paths.Step.{Point, start, Calls, next}
use Rattle.program_points.specs.paths.Flow.{part, is_exit, Pending, returning, top_exit, FreeStep, goes, calls, returns, falls, FreePath, begins, steps}
use Rattle.program_points.specs.paths.Levels.{Comes, enters, chooses, over, passes, Levels, bottom, called}

module _ (never_first : Chooser → Bool) (program : Program) (base : Range) where
  -- what the level that runs was called from
  abbrev Under : Range → List Pending → Type 0
  Under range [] = Unit {0}
  Under range (top ∷ others) = (under : Range) × (from : Point) × (entry : ℕ) ×
      Levels never_first program base under others × Comes never_first program under from × (next never_first program from ≡ Calls entry top.end top.back) × (range ≡ part entry top.end)

  below : (range : Range) (pending : List Pending) → Levels never_first program base range pending → Under range pending
  below range pending (bottom) = tt
  below range pending (called under others from after entry exit l c e) = (under, from, entry, l, c, e, refl)

  pub exit-on-top : (range : Range) (pending : List Pending) → Levels never_first program base range pending → top_exit base pending ≡ range.exit
  exit-on-top range pending (bottom) = refl
  exit-on-top range pending (called under others from after entry exit l c e) = refl

  abbrev pub Stands : Point → List Pending → Type 0
  Stands point pending = (range : Range) × Levels never_first program base range pending × Comes never_first program range point

  stands-on : (from : Point) (before : List Pending) (to : Point) (after : List Pending) → FreeStep never_first program base from before to after → Stands from before → Stands to after
  stands-on from before to after (goes from1 to1 pending ways number e w) s = (s.0, s.1, chooses s.0 from1 to1 ways number s.2 e w)
  stands-on from before to after (calls from1 back pending entry exit e) s = (part entry exit, called s.0 pending from1 back entry exit s.1 s.2 e, enters (part entry exit))
  stands-on from before to after (returns from1 back pending exit e) s =
      let b = below s.0 (returning exit back ∷ pending) s.1 in
      (b.0, b.3, over b.0 b.1 back from1 b.2 exit b.4 b.5 (subst (λ r. Comes never_first program r from1) b.6 s.2) e)
  stands-on from before to after (falls from1 pending paragraph e out is) s =
      (s.0, s.1, passes s.0 from1 paragraph s.2 e (subst (λ x. is_exit x paragraph ≡ false) (exit-on-top s.0 pending s.1) out) is)

  pub stands : (point : Point) (pending : List Pending) → FreePath never_first program base point pending → Stands point pending
  stands point pending (begins) = (base, bottom, enters base)
  stands point pending (steps from to before after path step) = stands-on from before to after step (stands from before path)

  pub runs : (range : Range) (point : Point) → Comes never_first program range point → (pending : List Pending) → top_exit base pending ≡ range.exit →
      FreePath never_first program base (start program range.entry) pending → FreePath never_first program base point pending
  runs range point (enters r) pending same path = path
  runs range point (chooses r from to ways number c e w) pending same path =
      steps from to pending pending (runs r from c pending same path) (goes from to pending ways number e w)
  runs range point (over r from after done entry exit c e1 d e2) pending same path =
      let pushed : List Pending = returning exit after ∷ pending in
      steps done after pushed pending
      (runs (part entry exit) done d pushed refl
      (steps from (start program entry) pending pushed (runs r from c pending same path) (calls from after pending entry exit e1)))
      (returns done after pending exit e2)
  runs range point (passes r from paragraph c e out is) pending same path =
      steps from (start program (suc paragraph)) pending pending (runs r from c pending same path)
      (falls from pending paragraph e (subst (λ x. is_exit x paragraph ≡ false) (sym same) out) is)

  pub levels-run : (range : Range) (pending : List Pending) → Levels never_first program base range pending → (point : Point) → Comes never_first program range point → FreePath never_first program base point pending
  levels-run range pending (bottom) point c = runs base point c [] refl begins
  levels-run range pending (called under others from after entry exit l c e) point d =
      let pushed : List Pending = returning exit after ∷ others in
      runs (part entry exit) point d pushed refl
      (steps from (start program entry) others pushed (levels-run under others l from c) (calls from after others entry exit e))
