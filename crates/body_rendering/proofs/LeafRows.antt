-- The numbers of labels, row by row.
use Rattle.std.proofs.Common.{◌≡◌, ℕ, zero, suc, ◌+◌, ◌<◌, Bool, true, false, if◌then◌else◌, ◌==◌, List, [], ◌∷◌, get_or, length, drop, refl, ap, sym, ◌∙◌, arith, add-one, drop-cons}
use Rattle.control_flow_theory.specs.language.Language.{Stmts, none}
use Rattle.control_flow_theory.specs.semantics.Graph.{Label}
use Rattle.control_flow_theory.specs.structuring.Dispatches.{one_further, number_in, length_of}

pub further_on : (number : ℕ) → 0 < number → number + 1 ≡ one_further number
further_on zero h = absurd (omega (arith, h))
further_on (suc number) h = omega arith

pub number_next : (labels : List Label) (at : ℕ) (first label : Label) (number : ℕ) → at < length labels → get_or labels at first ≡ first → number ≡ number_in (drop (at + 1) labels) label →
    (if first == label then 1 else one_further number) ≡ number_in (drop at labels) label
number_next labels at first label number lt same e =
    ap (λ n. if first == label then 1 else one_further n) (e ∙ ap (λ n. number_in (drop n labels) label) (add-one at))
    ∙ ap (λ x. if x == label then 1 else one_further (number_in (drop (suc at) labels) label)) (sym same)
    ∙ ap (λ ls. number_in ls label) (sym (drop-cons labels at first lt))

pub length_is : (labels : List Label) → length_of labels ≡ length labels
length_is [] = refl
length_is (first ∷ labels) = ap suc (length_is labels)

pub jumps_on : (test : Bool) (stmts : Stmts) → test ≡ true → (if test then none else stmts) ≡ none
jumps_on true stmts e = refl
jumps_on false stmts e = absurd (cc)
