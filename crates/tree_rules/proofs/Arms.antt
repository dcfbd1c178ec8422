-- Arms that are changed one after the other.
use Rattle.std.proofs.Common.{◌≡◌, ◌<◌, ◌≤◌, ◌+◌, ℕ, zero, suc, List, [], ◌∷◌, ◌++◌, map, length, take, drop, get_or, set, refl, ap, sym, ◌∙◌, arith, add-one}
use Rattle.std.proofs.Math.ListN.{get_or-map}
use Rattle.control_flow_theory.specs.semantics.Graph.{Tree, more}
use Rattle.control_flow_theory.specs.graph_rules.Shapes.{joined, joined_arms}
use Rattle.branch_tree.specs.declared.tree.Tree as tree
use Rattle.branch_tree.specs.Tree.{seen_tree, trees_of}

abbrev pub changed_to : (Tree → Tree) → ℕ → List Tree → List Tree
changed_to f at ts = map f (take at ts) ++ drop at ts

changed_one : (f : Tree → Tree) (ts : List Tree) (at : ℕ) (d : Tree) → at < length ts →
    set (changed_to f at ts) at (f (get_or ts at d)) ≡ changed_to f (suc at) ts
changed_one f [] at d within = let no : ⊥ = omega (arith, within) in absurd no
changed_one f (t ∷ ts) zero d within = refl
changed_one f (t ∷ ts) (suc at) d within =
    let less : at < length ts = omega (arith, within) in
    ap (λ l. f t ∷ l) (changed_one f ts at d less)

-- one arm more
pub changed_next : (f : Tree → Tree) (ts : List Tree) (at : ℕ) (d : Tree) → at < length ts →
    set (changed_to f at ts) at (f (get_or ts at d)) ≡ changed_to f (at + 1) ts
changed_next f ts at d within =
    changed_one f ts at d within ∙ ap (λ n. changed_to f n ts) (sym (add-one at))

-- all of them
pub changed_all : (f : Tree → Tree) (ts : List Tree) (at : ℕ) → length ts ≤ at →
    changed_to f at ts ≡ map f ts
changed_all f [] zero most = refl
changed_all f [] (suc at) most = refl
changed_all f (t ∷ ts) zero most = let no : ⊥ = omega (arith, most) in absurd no
changed_all f (t ∷ ts) (suc at) most =
    let less : length ts ≤ at = omega (arith, most) in
    ap (λ l. f t ∷ l) (changed_all f ts at less)

pub joined_each : (ts : List Tree) → trees_of (map joined ts) ≡ joined_arms (trees_of ts)
joined_each [] = refl
joined_each (t ∷ ts) = ap (more (joined t)) (joined_each ts)

-- an arm of a list that is seen so
pub seen_at : (arms : List tree.Tree) (at : ℕ) (d : tree.Tree) →
    seen_tree (get_or arms at d) ≡ get_or (map seen_tree arms) at (seen_tree d)
seen_at arms at d = sym (get_or-map seen_tree arms at d)

-- what is read in place of what isn't there doesn't matter
pub any_default : {A : Type 0} (xs : List A) (at : ℕ) (d e : A) → at < length xs → get_or xs at d ≡ get_or xs at e
any_default [] at d e within = let no : ⊥ = omega (arith, within) in absurd no
any_default (x ∷ xs) zero d e within = refl
any_default (x ∷ xs) (suc at) d e within = let less : at < length xs = omega (arith, within) in any_default xs at d e less
