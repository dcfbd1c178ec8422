-- The sizes of entries before added ones, and how many there are.
use Rattle.std.proofs.Common.{◌≡◌, ℕ, zero, suc, ◌+◌, Bool, true, false, ◌||◌, nat_lt, if◌then◌else◌, List, [], ◌∷◌, ◌++◌, length, refl, ap, ◌∙◌, arith}
use Rattle.std.specs.Prelude.{◌==◌}
use Rattle.std.proofs.lemmas.Bool.{le-ltb}
use Rattle.cob_tree.specs.declared.entry.Entry.{Entry}
use Rattle.cob_store.specs.declared.size.SizedItem.{SizedItem}
use Rattle.cob_store.specs.Size.{capped, is_apart, inside, behind, size_by, times, added, Sized, item_sized, apart_sized}
use Rattle.cob_store.specs.sizes.Size.{is_bare, sized_by, sized}
use Rattle.round_trip.specs.declarations.added_entries.Items.{WholeItem, whole_entries}

-- none is below anything
abbrev Stops : List SizedItem → Type 0
Stops [] = Unit {0}
Stops (piece ∷ pieces) = piece.depth ≡ 1

whole-stops : (items : List WholeItem) → Stops (sized (whole_entries items)).pieces
whole-stops [] = tt
whole-stops (item ∷ items) = refl

low : (depth : ℕ) → (depth == 0) ≡ false → nat_lt depth 1 ≡ false
low zero h = absurd cc
low (suc n) h = le-ltb (suc n) 1 (omega arith)

inside-ends : (depth bytes : ℕ) (pieces : List SizedItem) → (depth == 0) ≡ false → Stops pieces → inside depth bytes pieces ≡ bytes
inside-ends depth bytes [] h s = refl
inside-ends depth bytes (piece ∷ pieces) h s =
    ap (λ n. if nat_lt depth n then inside depth (capped (bytes + piece.bytes)) pieces else bytes) s
    ∙ ap (λ b. if b then inside depth (capped (bytes + piece.bytes)) pieces else bytes) (low depth h)

inside-added : (depth bytes : ℕ) (pieces more : List SizedItem) → (depth == 0) ≡ false → Stops more → inside depth bytes (pieces ++ more) ≡ inside depth bytes pieces
inside-added depth bytes [] more h s = inside-ends depth bytes more h s
inside-added depth bytes (piece ∷ pieces) more h s =
    ap (λ n. if nat_lt depth piece.depth then n else bytes) (inside-added depth (capped (bytes + piece.bytes)) pieces more h s)

behind-ends : (depth : ℕ) (pieces : List SizedItem) → (depth == 0) ≡ false → Stops pieces → behind depth pieces ≡ pieces
behind-ends depth [] h s = refl
behind-ends depth (piece ∷ pieces) h s =
    ap (λ n. if nat_lt depth n then behind depth pieces else piece ∷ pieces) s
    ∙ ap (λ b. if b then behind depth pieces else piece ∷ pieces) (low depth h)

behind-added : (depth : ℕ) (pieces more : List SizedItem) → (depth == 0) ≡ false → Stops more → behind depth (pieces ++ more) ≡ behind depth pieces ++ more
behind-added depth [] more h s = behind-ends depth more h s
behind-added depth (piece ∷ pieces) more h s =
    ap (λ l. if nat_lt depth piece.depth then l else piece ∷ (pieces ++ more)) (behind-added depth pieces more h s)
    ∙ go (nat_lt depth piece.depth)
  where
    go : (b : Bool) → (if b then behind depth pieces ++ more else piece ∷ (pieces ++ more)) ≡ (if b then behind depth pieces else piece ∷ pieces) ++ more
    go true = refl
    go false = refl

abbrev joined : Sized → Sized → Sized
joined first second = record { sizes = first.sizes ++ second.sizes; pieces = first.pieces ++ second.pieces }

sized_by-added : (entry : Entry) (later more : Sized) → Stops more.pieces → sized_by entry (joined later more) ≡ joined (sized_by entry later) more
sized_by-added entry later more s = go (entry.level == 88) (entry.level == 0) refl (is_apart entry)
  where
    item : (entry.level == 0) ≡ false →
        item_sized entry (size_by entry.picture entry.sign entry.usage (inside entry.level 0 (later.pieces ++ more.pieces))) (joined later more)
        ≡ joined (item_sized entry (size_by entry.picture entry.sign entry.usage (inside entry.level 0 later.pieces)) later) more
    item h =
        ap (λ n. item_sized entry (size_by entry.picture entry.sign entry.usage n) (joined later more)) (inside-added entry.level 0 later.pieces more.pieces h s)
        ∙ ap (λ l. both_of (size_by entry.picture entry.sign entry.usage (inside entry.level 0 later.pieces)) l) (behind-added entry.level later.pieces more.pieces h s)
      where
        both_of : ℕ → List SizedItem → Sized
        both_of size l = record { sizes = size ∷ (later.sizes ++ more.sizes); pieces = (record { depth = entry.level; bytes = added entry.redefines (times entry.occurs size) }) ∷ l }

    by : Bool → Bool → Bool → Sized → Sized
    by condition none apart all =
        if (condition || none) then apart_sized 0 all
        else if apart then apart_sized (size_by entry.picture entry.sign entry.usage 0) all
        else item_sized entry (size_by entry.picture entry.sign entry.usage (inside entry.level 0 all.pieces)) all

    go : (condition none : Bool) → (entry.level == 0) ≡ none → (apart : Bool) → by condition none apart (joined later more) ≡ joined (by condition none apart later) more
    go true none h apart = refl
    go false true h apart = refl
    go false false h true = refl
    go false false h false = item h

pub sized-added : (entries : List Entry) (items : List WholeItem) → sized (entries ++ whole_entries items) ≡ joined (sized entries) (sized (whole_entries items))
sized-added [] items = refl
sized-added (entry ∷ entries) items =
    ap (sized_by entry) (sized-added entries items) ∙ sized_by-added entry (sized entries) (sized (whole_entries items)) (whole-stops items)

-- one for each entry
sizes-more : (entry : Entry) (later : Sized) → length (sized_by entry later).sizes ≡ suc (length later.sizes)
sizes-more entry later = go (is_bare entry) (is_apart entry)
  where
    go : (bare apart : Bool) → length (if bare then apart_sized 0 later
        else if apart then apart_sized (size_by entry.picture entry.sign entry.usage 0) later
        else item_sized entry (size_by entry.picture entry.sign entry.usage (inside entry.level 0 later.pieces)) later).sizes ≡ suc (length later.sizes)
    go true apart = refl
    go false true = refl
    go false false = refl

pub length-sizes : (entries : List Entry) → length (sized entries).sizes ≡ length entries
length-sizes [] = refl
length-sizes (entry ∷ entries) = sizes-more entry (sized entries) ∙ ap suc (length-sizes entries)
