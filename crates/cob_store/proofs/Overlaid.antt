-- What an entry adds to the starting bytes of the entries behind it.
use Rattle.std.proofs.Common.{◌≡◌, ℕ, zero, suc, List, [], ◌∷◌, drop, Some, None, refl, slice_get, sym, ap, ◌∙◌}
use Rattle.cob_tree.specs.declared.entry.Entry.{Entry}
use Rattle.cob_store.specs.declared.area.Area.{Area}
use Rattle.cob_store.specs.Starting.{item_started, started_over}
use Rattle.cob_store.specs.Store.{Roots}

nothing_over : (entries : List Entry) (roots : Roots) → started_over entries [] roots ≡ roots
nothing_over [] roots = refl
nothing_over (entry ∷ entries) roots = refl

pub one_over : (entries : List Entry) (areas : List Area) (at : ℕ) (entry : Entry) (area : Area) (roots : Roots) →
    slice_get entries at ≡ Some entry → slice_get areas at ≡ Some area →
    started_over (drop at entries) (drop at areas) roots ≡ item_started entry area (started_over (drop (suc at) entries) (drop (suc at) areas) roots)
one_over [] areas at entry area roots e a = cc
one_over (first ∷ entries) [] at entry area roots e a = cc
one_over (first ∷ entries) (second ∷ areas) zero entry area roots e a = let f : first ≡ entry = cc in let s : second ≡ area = cc in cc
one_over (first ∷ entries) (second ∷ areas) (suc at) entry area roots e a = one_over entries areas at entry area roots e a

pub none_over : (entries : List Entry) (areas : List Area) (at : ℕ) (roots : Roots) → slice_get areas at ≡ None →
    started_over (drop at entries) (drop at areas) roots ≡ started_over (drop (suc at) entries) (drop (suc at) areas) roots
none_over [] areas zero roots a = refl
none_over [] areas (suc at) roots a = refl
none_over (first ∷ entries) [] zero roots a = sym (nothing_over entries roots)
none_over (first ∷ entries) [] (suc at) roots a = nothing_over (drop at entries) roots ∙ sym (nothing_over (drop (suc at) entries) roots)
none_over (first ∷ entries) (second ∷ areas) zero roots a = cc
none_over (first ∷ entries) (second ∷ areas) (suc at) roots a = none_over entries areas at roots a

-- the same with the number of the next entry
pub one_more : (entries : List Entry) (areas : List Area) (at next : ℕ) (entry : Entry) (area : Area) (roots now then_store : Roots) →
    suc at ≡ next → slice_get entries at ≡ Some entry → slice_get areas at ≡ Some area →
    now ≡ started_over (drop next entries) (drop next areas) roots → then_store ≡ item_started entry area now →
    then_store ≡ started_over (drop at entries) (drop at areas) roots
one_more entries areas at next entry area roots now then_store n e a before made =
    made ∙ ap (item_started entry area) (before ∙ ap (λ (k : ℕ). started_over (drop k entries) (drop k areas) roots) (sym n)) ∙ sym (one_over entries areas at entry area roots e a)

pub none_more : (entries : List Entry) (areas : List Area) (at next : ℕ) (roots now : Roots) →
    suc at ≡ next → slice_get areas at ≡ None → now ≡ started_over (drop next entries) (drop next areas) roots →
    now ≡ started_over (drop at entries) (drop at areas) roots
none_more entries areas at next roots now n a before =
    before ∙ ap (λ (k : ℕ). started_over (drop k entries) (drop k areas) roots) (sym n) ∙ sym (none_over entries areas at roots a)
