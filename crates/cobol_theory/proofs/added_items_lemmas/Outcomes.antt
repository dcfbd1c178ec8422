-- Outcomes with the same bytes behind what is stored.
use Rattle.std.proofs.Common.{◌≡◌, ℕ, ◌<◌, List, [], ◌∷◌, ◌++◌, length, refl, ap, sym, ◌∙◌, subst}
use Rattle.std.specs.Prelude.{Ok, Err}
use Rattle.cob_store.specs.declared.area.Area.{Area}
use Rattle.cob_store.specs.declared.spot.Spot.{Spot}
use Rattle.cob_store.specs.Answer.{Answer}
use Rattle.cob_store.specs.Store.{Roots, put_at}
use Rattle.meanings.specs.statements.Outcome.{Outcome, done, go_on, then_do, each}
use Rattle.cobol_theory.specs.added_items.Widened.{AreInside, widened}
use Rattle.cobol_theory.proofs.added_items_lemmas.Bytes.{put-same, put-long}

-- the items lie inside a store that is as long
pub inside-kept : (areas : List Area) (store later : Roots) → length later ≡ length store → AreInside areas store → AreInside areas later
inside-kept areas store later same inside item area is = subst (λ n. area.root < n) (sym same) (inside item area is)

module _ (tail : Roots) (roots : ℕ) where
  -- both are alike, and so many roots are stored
  pub record Widens {A : Type 0} (wide plain : Outcome A) : Type 0 where
    pub same : wide ≡ widened tail plain
    pub long : length plain.store ≡ roots

  pub done-widens : {A : Type 0} (store : Roots) (a : A) → length store ≡ roots → Widens (done (store ++ tail) a) (done store a)
  done-widens store a long = record { same = refl; long = long }

  pub go_on-widens : {A B : Type 0} (store : Roots) (wide plain : Answer A) (later next : Roots → A → Outcome B) → length store ≡ roots → wide ≡ plain →
      ((a : A) → Widens (later (store ++ tail) a) (next store a)) → Widens (go_on (store ++ tail) wide later) (go_on store plain next)
  go_on-widens {A = A} {B = B} store wide plain later next long same h = subst (λ x. Widens (go_on (store ++ tail) x later) (go_on store plain next)) (sym same) (by_case plain)
    where
      by_case : (x : Answer A) → Widens (go_on (store ++ tail) x later) (go_on store x next)
      by_case (Ok a) = h a
      by_case (Err abend) = record { same = refl; long = long }

  pub then_do-widens : {A B : Type 0} (wide plain : Outcome A) (later next : Roots → A → Outcome B) → Widens wide plain →
      ((store : Roots) → length store ≡ roots → (a : A) → Widens (later (store ++ tail) a) (next store a)) → Widens (then_do wide later) (then_do plain next)
  then_do-widens wide plain later next first h =
      subst (λ x. Widens (then_do x later) (then_do plain next)) (sym first.same)
      (go_on-widens plain.store plain.answer plain.answer later next first.long refl (h plain.store first.long))

  pub each-widens : {A : Type 0} (later next : Roots → A → Outcome (Unit {0})) (store : Roots) (items : List A) → length store ≡ roots →
      ((store : Roots) → length store ≡ roots → (a : A) → Widens (later (store ++ tail) a) (next store a)) →
      Widens (each later (store ++ tail) items) (each next store items)
  each-widens later next store [] long h = done-widens store tt long
  each-widens later next store (a ∷ others) long h =
      then_do-widens (later (store ++ tail) a) (next store a) (λ now _. each later now others) (λ now _. each next now others) (h store long a)
      (λ store long unit. each-widens later next store others long h)

  pub put-widens : {A : Type 0} (store : Roots) (spot : Spot) (bytes : List ℕ) (a : A) → length store ≡ roots → spot.root < length store →
      Widens (done (put_at (store ++ tail) spot bytes) a) (done (put_at store spot bytes) a)
  put-widens store spot bytes a long h = record {
    same = ap (λ s. done s a) (put-same store tail spot bytes h);
    long = put-long store tail spot bytes ∙ long;
  }
