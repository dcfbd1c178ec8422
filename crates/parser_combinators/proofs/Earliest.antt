-- The fault that counts of three doesn't depend on how they are taken together.
use Rattle.std.proofs.Common.{◌≡◌, ◌≢◌, ℕ, ◌+◌, ◌*◌, ◌<◌, ◌≤◌, Bool, true, false, nat_lt, Option, Some, None, if◌then◌else◌, refl, sym, ap, ◌∙◌, arith}
use Rattle.std.specs.Prelude.{◌==◌}
use Rattle.std.proofs.lemmas.Bool.{ltb-true, ltb-false, eqb-true, eqb-false}
use Rattle.parser_combinators.specs.declared.note.Note.{Note}
use Rattle.parser_combinators.specs.declared.note.NameKind.{NameKind}
use Rattle.parser_combinators.specs.declared.note.NameKind.TheVariants as kinds
use Rattle.parser_combinators.specs.Note.{rank, precedes, earliest}

small : (kind : NameKind) → rank kind ≤ 7
small kinds.Duplicate = omega arith
small kinds.Unknown = omega arith
small kinds.Ambiguous = omega arith
small kinds.Level = omega arith
small kinds.Picture = omega arith
small kinds.Redefines = omega arith
small kinds.Value = omega arith
small kinds.Usage = omega arith

abbrev weight : Note → ℕ
weight n = n.position.index * 8 + rank n.kind

abbrev by_place : Bool → Note → Note → Bool
by_place same a b = if same then nat_lt (rank a.kind) (rank b.kind) else nat_lt a.position.index b.position.index

lighter : (a b : Note) → precedes a b ≡ true → weight a < weight b
lighter a b = go (a.position.index == b.position.index) refl
  where
    go : (same : Bool) → (a.position.index == b.position.index) ≡ same → by_place same a b ≡ true → weight a < weight b
    go true is e =
        let here : a.position.index ≡ b.position.index = eqb-true _ _ is in
        let lt : rank a.kind < rank b.kind = ltb-true _ _ e in omega (arith, here, lt)
    go false is e =
        let lt : a.position.index < b.position.index = ltb-true _ _ e in
        let low : rank a.kind ≤ 7 = small a.kind in omega (arith, lt, low)

no_lighter : (a b : Note) → precedes a b ≡ false → weight b ≤ weight a
no_lighter a b = go (a.position.index == b.position.index) refl
  where
    go : (same : Bool) → (a.position.index == b.position.index) ≡ same → by_place same a b ≡ false → weight b ≤ weight a
    go true is e =
        let here : a.position.index ≡ b.position.index = eqb-true _ _ is in
        let le : rank b.kind ≤ rank a.kind = ltb-false _ _ e in omega (arith, here, le)
    go false is e =
        let other : a.position.index ≢ b.position.index = eqb-false _ _ is in
        let le : b.position.index ≤ a.position.index = ltb-false _ _ e in
        let low : rank b.kind ≤ 7 = small b.kind in omega (arith, other, le, low)

precedes_where : (a b : Note) → weight a < weight b → precedes a b ≡ true
precedes_where a b h = go (precedes a b) refl
  where
    go : (p : Bool) → precedes a b ≡ p → precedes a b ≡ true
    go true is = is
    go false is = let le = no_lighter a b is in absurd (omega (arith, h, le))

not_where : (a b : Note) → weight b ≤ weight a → precedes a b ≡ false
not_where a b h = go (precedes a b) refl
  where
    go : (p : Bool) → precedes a b ≡ p → precedes a b ≡ false
    go true is = let lt = lighter a b is in absurd (omega (arith, h, lt))
    go false is = is

abbrev pick : Bool → Note → Note → Option Note
pick late a b = if late then Some b else Some a

three : (a b c : Note) → earliest (earliest (Some a) (Some b)) (Some c) ≡ earliest (Some a) (earliest (Some b) (Some c))
three a b c = go (precedes b a) (precedes c b) refl refl
  where
    go : (x y : Bool) → precedes b a ≡ x → precedes c b ≡ y → earliest (pick x a b) (Some c) ≡ earliest (Some a) (pick y b c)
    go true true p q =
        let lt = lighter b a p in
        let lt_too = lighter c b q in
        ap (λ z. pick z b c) q ∙ sym (ap (λ z. pick z a c) (precedes_where c a (omega (arith, lt, lt_too))))
    go true false p q = ap (λ z. pick z b c) q ∙ sym (ap (λ z. pick z a b) p)
    go false true p q = refl
    go false false p q =
        let le = no_lighter b a p in
        let le_too = no_lighter c b q in
        ap (λ z. pick z a c) (not_where c a (omega (arith, le, le_too))) ∙ sym (ap (λ z. pick z a b) p)

pub earliest-assoc : (a b c : Option Note) → earliest (earliest a b) c ≡ earliest a (earliest b c)
earliest-assoc None b c = refl
earliest-assoc (Some a) None c = refl
earliest-assoc (Some a) (Some b) None = go (precedes b a)
  where
    go : (x : Bool) → earliest (pick x a b) None ≡ pick x a b
    go true = refl
    go false = refl
earliest-assoc (Some a) (Some b) (Some c) = three a b c
