-- Where no repetitions are left, offsets lead no further.
use Rattle.std.proofs.Common.{◌≡◌, ℕ, List, [], ◌∷◌, length, refl}
use Rattle.cob_store.specs.declared.area.Dim.{Dim}
use Rattle.cob_store.specs.Place.{occurrence_at}

pub none_left : (offsets : List ℕ) (dims : List Dim) (start : ℕ) → length dims ≡ 0 → occurrence_at offsets dims start ≡ start
none_left [] dims start none = refl
none_left (offset ∷ offsets) [] start none = refl
none_left (offset ∷ offsets) (dim ∷ dims) start none = cc
