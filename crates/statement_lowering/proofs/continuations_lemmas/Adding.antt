-- Rests that are added to others.
use Rattle.std.proofs.Common.{◌≡◌, ℕ, zero, suc, ◌+◌, List, [], ◌∷◌, ◌++◌, length, Some, refl, ap, ap₂, sym, ◌∙◌, subst, arith}
use Rattle.std.specs.Prelude.{slice_get}
use Rattle.std.proofs.Common.{length-append}
use Rattle.std.proofs.lemmas.List.{append-nil, append_assoc}
use Rattle.lowering_labels.specs.declared.points.layout.PlaceTable.{PlaceTable}
use Rattle.statement_lowering.specs.declared.continuations.continuation.Continuation.{Continuation}
use Rattle.statement_lowering.specs.continuations.Successors.{Lowering}
use Rattle.statement_lowering.specs.continuations.Statements.{Adds, AllFit, AreRests, Fits, IsRest}

some_same : (x y : Continuation) → Some x ≡ Some y → x ≡ y
some_same x y e = cc

pub fit_append : (end place : ℕ) (xs ys : List Continuation) → AllFit end place xs → AllFit end (place + length xs) ys → AllFit end place (xs ++ ys)
fit_append end place [] ys h k = subst (λ n. AllFit end n ys) (omega arith) k
fit_append end place (x ∷ xs) ys h k = (h.0, fit_append end (place + 1) xs ys h.1 (subst (λ n. AllFit end n ys) (omega arith) k))

module _ (layout : PlaceTable) where
  pub rests_append : (g : Lowering layout) (place : ℕ) (xs ys : List Continuation) → AreRests layout g place xs → AreRests layout g (place + length xs) ys → AreRests layout g place (xs ++ ys)
  rests_append g place [] ys h k = subst (λ n. AreRests layout g n ys) (omega arith) k
  rests_append g place (x ∷ xs) ys h k = (h.0, rests_append g (place + 1) xs ys h.1 (subst (λ n. AreRests layout g n ys) (omega arith) k))

  -- by its place
  pub rest_at_place : (g : Lowering layout) (place : ℕ) (xs : List Continuation) (i : ℕ) (spot : Continuation) → AreRests layout g place xs → slice_get xs i ≡ Some spot → IsRest layout g (place + i) spot
  rest_at_place g place [] i spot h e = absurd cc
  rest_at_place g place (x ∷ xs) zero spot h e = subst (λ n. IsRest layout g n spot) (omega arith) (subst (IsRest layout g place) (some_same x spot e) h.0)
  rest_at_place g place (x ∷ xs) (suc i) spot h e = subst (λ n. IsRest layout g n spot) (omega arith) (rest_at_place g (place + 1) xs i spot h.1 e)

  pub adds_none : (premise : Lowering layout → Type 0) (old : List Continuation) → Adds layout 0 premise old old
  adds_none premise old = record {
    made = [];
    is = sym (append-nil old);
    count = refl;
    fits = tt;
    rests = λ g h. tt;
  }

  pub adds_one : (premise : Lowering layout → Type 0) (old new : List Continuation) (spot : Continuation) → new ≡ old ++ spot ∷ [] → Fits layout.end (length old) spot →
      ((g : Lowering layout) → premise g → IsRest layout g (length old) spot) → Adds layout 1 premise old new
  adds_one premise old new spot is fits rest = record {
    made = spot ∷ [];
    is = is;
    count = refl;
    fits = (fits, tt);
    rests = λ g h. (rest g h, tt);
  }

  pub adds_both : (m n : ℕ) (first next : Lowering layout → Type 0) (old mid new : List Continuation) → Adds layout m first old mid → Adds layout n next mid new →
      Adds layout (m + n) (λ g. first g × next g) old new
  adds_both m n first next old mid new h k =
      let far : length mid ≡ length old + length h.made = ap length h.is ∙ length-append old h.made in
      record {
        made = h.made ++ k.made;
        is = k.is ∙ ap (λ l. l ++ k.made) h.is ∙ append_assoc old h.made k.made;
        count = length-append h.made k.made ∙ ap₂ (λ a b. a + b) h.count k.count;
        fits = fit_append layout.end (length old) h.made k.made h.fits (subst (λ p. AllFit layout.end p k.made) far k.fits);
        rests = λ g both. rests_append g (length old) h.made k.made (h.rests g both.0) (subst (λ p. AreRests layout g p k.made) far (k.rests g both.1));
      }

  pub adds_under : (m n : ℕ) (weak strong : Lowering layout → Type 0) (old new : List Continuation) → ((g : Lowering layout) → strong g → weak g) → m ≡ n → Adds layout m weak old new →
      Adds layout n strong old new
  adds_under m n weak strong old new less same h = record {
    made = h.made;
    is = h.is;
    count = h.count ∙ same;
    fits = h.fits;
    rests = λ g p. h.rests g (less g p);
  }

  pub longer_by : (n : ℕ) (premise : Lowering layout → Type 0) (old new : List Continuation) → Adds layout n premise old new → length new ≡ length old + n
  longer_by n premise old new h = ap length h.is ∙ length-append old h.made ∙ ap (λ k. length old + k) h.count
