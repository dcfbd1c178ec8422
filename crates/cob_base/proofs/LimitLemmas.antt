-- What passes a limit, and what is within it.
use Rattle.std.proofs.Common.{◌≡◌, ◌≤◌, ℕ, Bool, true, false, if◌then◌else◌, Option, Some, None, refl, ap}
use Rattle.std.specs.Prelude.{nat_le}
use Rattle.std.proofs.lemmas.Bool.{leb-true}
use Rattle.cob_base.specs.declared.limit.Limit.{Limit}
use Rattle.cob_base.specs.declared.limit.LimitKind.{LimitKind}
use Rattle.cob_base.specs.Limit.{most, past, passed}

-- what passes no limit is within it
pub within : (kind : LimitKind) (of_result : Bool) (counted : ℕ) → passed kind of_result counted ≡ None → counted ≤ most kind
within kind of_result counted = go (nat_le counted (most kind)) refl
  where
    go : (b : Bool) → nat_le counted (most kind) ≡ b → (if b then None else Some (past kind of_result counted)) ≡ None → counted ≤ most kind
    go true e h = leb-true counted (most kind) e
    go false e h = absurd cc

-- of whichever text it is counted
pub within-either : (kind : LimitKind) (one other : Bool) (counted : ℕ) → passed kind one counted ≡ None → passed kind other counted ≡ None
within-either kind one other counted =
    elim (nat_le counted (most kind)) as (λ t. (if t then None else Some (past kind one counted)) ≡ None →
    (if t then None else Some (past kind other counted)) ≡ None) [ true ↦ λ e. refl | false ↦ λ e. cc ]

-- the limit that is passed is one of that kind
pub passed-kind : (kind : LimitKind) (of_result : Bool) (counted : ℕ) (limit : Limit) → passed kind of_result counted ≡ Some limit → kind ≡ limit.kind
passed-kind kind of_result counted limit = go (nat_le counted (most kind))
  where
    kind_of : Option Limit → LimitKind
    kind_of None = kind
    kind_of (Some limit) = limit.kind

    go : (b : Bool) → (if b then None else Some (past kind of_result counted)) ≡ Some limit → kind ≡ limit.kind
    go true e = absurd cc
    go false e = ap kind_of e
