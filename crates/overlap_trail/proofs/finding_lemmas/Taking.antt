-- What was taken, from the last back.
use Rattle.std.proofs.Common.{◌≡◌, ◌<◌, ℕ, List, [], ◌∷◌, ◌++◌, reverse, Some, slice_get, ap, sym, ◌∙◌, subst, append_assoc, append-nil}
use Rattle.std.proofs.lemmas.List.{reverse-append}
use Rattle.program_points.specs.declared.paths.trail.Move.{Move}
use Rattle.overlap_trail.specs.declared.finding.search.Predecessor.{Predecessor}
use Rattle.overlap_trail.specs.finding.Search.{listed, TakenTo}
use Rattle.overlap_trail.specs.finding.Search as routes
use Rattle.overlap_trail.specs.finding.Chain.{WentTo}
use Rattle.overlap_trail.specs.finding.Chain as chains

-- behind what leads to here these lead there
abbrev pub Taken : List Predecessor → ℕ → ℕ → List Move → Type 0
Taken came at here moves = (front : List Move) → TakenTo came here front → TakenTo came at (front ++ reverse moves)

pub taken-none : (came : List Predecessor) (at : ℕ) (moves : List Move) → moves ≡ [] → Taken came at at moves
taken-none came at moves none = λ front h.
    subst (λ (ms : List Move). TakenTo came at (front ++ reverse ms)) (sym none) (subst (λ (ms : List Move). TakenTo came at ms) (sym (append-nil front)) h)

pub taken-more : (came : List Predecessor) (at here : ℕ) (how : Predecessor) (moves later : List Move) → 0 < here → slice_get came here ≡ Some how → reverse later ≡ listed how.moved ++ reverse moves → Taken came at here moves → Taken came at how.before later
taken-more came at here how moves later lt e same taken = λ front h.
    subst (λ (ms : List Move). TakenTo came at ms) (append_assoc front (listed how.moved) (reverse moves) ∙ ap (λ (ms : List Move). front ++ ms) (sym same))
    (taken (front ++ listed how.moved) (routes.more here how front lt e h))

pub turned : (moves later : List Move) (moved : Move) → later ≡ moves ++ moved ∷ [] → reverse later ≡ moved ∷ reverse moves
turned moves later moved is = ap (λ (ms : List Move). reverse ms) is ∙ reverse-append moves (moved ∷ [])

pub taken-all : (came : List Predecessor) (at here : ℕ) (moves later : List Move) → here ≡ 0 → later ≡ reverse moves → Taken came at here moves → TakenTo came at later
taken-all came at here moves later first is taken =
    subst (λ (ms : List Move). TakenTo came at ms) (sym is) (taken [] (subst (λ (n : ℕ). TakenTo came n []) (sym first) routes.none))

-- the same of places

abbrev pub Went : List Predecessor → List ℕ → ℕ → ℕ → List ℕ → Type 0
Went came places at here path = (front : List ℕ) → WentTo came places here front → WentTo came places at (front ++ reverse path)

pub went-none : (came : List Predecessor) (places : List ℕ) (at : ℕ) (path : List ℕ) → path ≡ [] → Went came places at at path
went-none came places at path none = λ front h.
    subst (λ (ps : List ℕ). WentTo came places at (front ++ reverse ps)) (sym none) (subst (λ (ps : List ℕ). WentTo came places at ps) (sym (append-nil front)) h)

pub went-more : (came : List Predecessor) (places : List ℕ) (at here place : ℕ) (how : Predecessor) (path later : List ℕ) → 0 < here → slice_get places here ≡ Some place → slice_get came here ≡ Some how → later ≡ path ++ place ∷ [] → Went came places at here path → Went came places at how.before later
went-more came places at here place how path later lt e f is went = λ front h.
    subst (λ (ps : List ℕ). WentTo came places at ps)
    (append_assoc front (place ∷ []) (reverse path) ∙ ap (λ (ps : List ℕ). front ++ ps) (sym (ap (λ (ps : List ℕ). reverse ps) is ∙ reverse-append path (place ∷ []))))
    (went (front ++ place ∷ []) (chains.more here place how front lt e f h))

pub went-all : (came : List Predecessor) (places : List ℕ) (at here : ℕ) (path later : List ℕ) → here ≡ 0 → later ≡ reverse path → Went came places at here path → WentTo came places at later
went-all came places at here path later first is went =
    subst (λ (ps : List ℕ). WentTo came places at ps) (sym is) (went [] (subst (λ (n : ℕ). WentTo came places n []) (sym first) chains.none))
