-- The order of pieces behind one another is that of the first that differs.
use Rattle.std.proofs.Common.{◌≡◌, ℕ, List, [], ◌∷◌, ◌++◌, length, take, drop, refl, ap, sym, ◌∙◌}
use Rattle.std.specs.declared.cmp.Ordering.{Ordering}
use Rattle.std.specs.declared.cmp.Ordering.TheVariants.{Less, Equal, Greater}
use Rattle.std.specs.Ordering.{ordering_then}
use Rattle.meanings.specs.statements.Text.{byte_order, beside_spaces, text_order}

then_assoc : (a b c : Ordering) → ordering_then (ordering_then a b) c ≡ ordering_then a (ordering_then b c)
then_assoc Less b c = refl
then_assoc Equal b c = refl
then_assoc Greater b c = refl

beside_pieces : (xs ys : List ℕ) → beside_spaces (xs ++ ys) ≡ ordering_then (beside_spaces xs) (beside_spaces ys)
beside_pieces [] ys = refl
beside_pieces (x ∷ xs) ys = ap (ordering_then (byte_order x 32)) (beside_pieces xs ys) ∙ sym (then_assoc (byte_order x 32) (beside_spaces xs) (beside_spaces ys))

beside_nothing : (xs : List ℕ) → text_order xs [] ≡ beside_spaces xs
beside_nothing [] = refl
beside_nothing (x ∷ xs) = refl

pub text_order_pieces : (xs ys zs : List ℕ) → text_order (xs ++ ys) zs ≡ ordering_then (text_order xs (take (length xs) zs)) (text_order ys (drop (length xs) zs))
text_order_pieces [] ys zs = refl
text_order_pieces (x ∷ xs) ys [] = beside_pieces (x ∷ xs) ys ∙ ap (ordering_then (beside_spaces (x ∷ xs))) (sym (beside_nothing ys))
text_order_pieces (x ∷ xs) ys (z ∷ zs) = ap (ordering_then (byte_order x z)) (text_order_pieces xs ys zs) ∙ sym (then_assoc (byte_order x z) (text_order xs (take (length xs) zs)) (text_order ys (drop (length xs) zs)))
