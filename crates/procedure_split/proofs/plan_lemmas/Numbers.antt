-- Where calls stand later, each stands before those that it calls.
use Rattle.std.proofs.Common.{◌≡◌, ◌<◌, ℕ, zero, suc, List, [], ◌∷◌, length, Some, slice_get, sym, subst, arith}
use Rattle.pending_returns.specs.levels.Reach.{Holds}
use Rattle.procedure_split.specs.plan.Ordered.{Calls, CalledStandLater}

holds-later : (calls : List (List ℕ)) (order : List ℕ) → CalledStandLater calls order → (from to : ℕ) → Calls calls from to → to < length calls → (i : ℕ) → slice_get order i ≡ Some from → Holds order to
holds-later calls [] later from to c lt i e = absurd (let k : ⊥ = cc in k)
holds-later calls (number ∷ numbers) later from to c lt zero e =
    let one : number ≡ from = cc in
    let h = later.1 to (subst (λ n. Calls calls n to) (sym one) c) lt in
    (suc h.0, h.1)
holds-later calls (number ∷ numbers) later from to c lt (suc i) e = (let h = holds-later calls numbers later.2 from to c lt i e in (suc h.0, h.1))

pub caller-first : (calls : List (List ℕ)) (order : List ℕ) → CalledStandLater calls order → (from to : ℕ) → Calls calls from to → to < length calls → (i j : ℕ) → slice_get order i ≡ Some from → slice_get order j ≡ Some to → i < j
caller-first calls [] later from to c lt i j e f = absurd (let k : ⊥ = cc in k)
caller-first calls (number ∷ numbers) later from to c lt zero zero e f =
    let one : number ≡ from = cc in
    let two : number ≡ to = cc in
    absurd (later.0 (subst (λ n. Holds numbers n) (sym two) (later.1 to (subst (λ n. Calls calls n to) (sym one) c) lt)))
caller-first calls (number ∷ numbers) later from to c lt zero (suc j) e f = omega arith
caller-first calls (number ∷ numbers) later from to c lt (suc i) zero e f =
    let two : number ≡ to = cc in
    absurd (later.0 (subst (λ n. Holds numbers n) (sym two) (holds-later calls numbers later.2 from to c lt i e)))
caller-first calls (number ∷ numbers) later from to c lt (suc i) (suc j) e f = (let below : i < j = caller-first calls numbers later.2 from to c lt i j e f in omega (arith, below))
