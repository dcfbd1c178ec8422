-- The parts that are kept, with one more.
use Rattle.std.proofs.Common.{◌≡◌, ℕ, zero, suc, ◌*◌, ◌<◌, ◌/◌, ◌⊎◌, inl, inr, true, List, [], ◌∷◌, ◌++◌, get_or, length, set, Option, Some, None, slice_get, refl, ap, sym, ◌∙◌, subst, arith}
use Rattle.std.proofs.lemmas.Bool.Decides.{eqb_tells}
use Rattle.std.proofs.lemmas.List.{length-set}
use Rattle.std.proofs.lemmas.Option.{slice_get_read, slice_get_within}
use Rattle.cob_tree.specs.declared.program.Program.{Program}
use Rattle.cob_tree.specs.declared.program.Range as code
use Rattle.control_flow_theory.specs.semantics.Graph as graph
use Rattle.pending_returns.specs.levels.Reach.{IsMarked}
use Rattle.statement_lowering.specs.declared.context.LoweringContext.{LoweringContext}
use Rattle.flow_graph.specs.label_trees.Node.{IsTableOf, node_in}
use Rattle.statement_lowering.specs.declared.continuations.continuation.Continuation.{Continuation}
use Rattle.flow_graph.specs.declared.range_sizes.exits.Passing.{Passing}
use Rattle.flow_graph.specs.declared.range_sizes.exits.Passing.TheVariants.{Falls, Returns, Leaves}
use Rattle.flow_graph.specs.declared.range_sizes.cache.TreeSizeCache.{TreeSizeCache}
use Rattle.flow_graph.specs.declared.range_sizes.cache.Row.{Row}
use Rattle.flow_graph.specs.declared.range_sizes.parts.Jumps.{Jumps}
use Rattle.flow_graph.specs.declared.range_sizes.parts.TreeCount.{TreeCount}
use Rattle.flow_graph.specs.range_sizes.Exits.{AllGoWithin, GoesSo}
use Rattle.flow_graph.specs.range_sizes.Cache.{Counts, IsKept, IsKnown, IsPartAt, Keeps, kept_in, number_in, part_at, part_in, with_number}
use Rattle.flow_graph.specs.range_sizes.Parts.{IsPartIn, IsPartOf}

module _ {A : Type 0} where
  get-front : (xs ys : List A) (at : ℕ) (x : A) → slice_get xs at ≡ Some x →
      slice_get (xs ++ ys) at ≡ Some x
  get-front [] ys at x e = absurd (let k : ⊥ = cc in k)
  get-front (y ∷ xs) ys zero x e = e
  get-front (y ∷ xs) ys (suc at) x e = get-front xs ys at x e

  get-last : (xs : List A) (x : A) → slice_get (xs ++ x ∷ []) (length xs) ≡ Some x
  get-last [] x = refl
  get-last (y ∷ xs) x = get-last xs x

  set-here : (xs : List A) (at : ℕ) (x : A) → at < length xs → slice_get (set xs at x) at ≡ Some x
  set-here [] at x lt = absurd (omega (arith, lt))
  set-here (y ∷ xs) zero x lt = refl
  set-here (y ∷ xs) (suc at) x lt = set-here xs at x (omega (arith, lt))

  set-other : (xs : List A) (at other : ℕ) (x : A) → (at ≡ other → ⊥) →
      slice_get (set xs at x) other ≡ slice_get xs other
  set-other [] at other x ne = refl
  set-other (y ∷ xs) zero zero x ne = absurd (ne refl)
  set-other (y ∷ xs) zero (suc other) x ne = refl
  set-other (y ∷ xs) (suc at) zero x ne = refl
  set-other (y ∷ xs) (suc at) (suc other) x ne =
      set-other xs at other x (λ same. ne (ap (λ (n : ℕ). suc n) same))

  one-of : (x y : A) → Some x ≡ Some y → x ≡ y
  one-of x y e = cc

-- the number that is in a row then
number-with : (row : Row) (passing other : Passing) (number found : ℕ) →
    number_in (with_number row passing number) other ≡ Some found →
    ((passing ≡ other) × (number ≡ found)) ⊎ (number_in row other ≡ Some found)
number-with row Falls Falls number found e = inl (refl, one-of number found e)
number-with row Falls Returns number found e = inr e
number-with row Falls Leaves number found e = inr e
number-with row Returns Falls number found e = inr e
number-with row Returns Returns number found e = inl (refl, one-of number found e)
number-with row Returns Leaves number found e = inr e
number-with row Leaves Falls number found e = inr e
number-with row Leaves Returns number found e = inr e
number-with row Leaves Leaves number found e = inl (refl, one-of number found e)

-- the part that is kept of a label
pub kept-part : (telling : LoweringContext) (spots : List Continuation) (known : TreeSizeCache) (label : ℕ)
    (passing : Passing) (part : TreeCount) → IsKnown telling spots known →
    Some part ≡ kept_in known label passing →
    IsPartAt telling spots known.jumps.items label passing part
kept-part telling spots known label passing part was found = by-row (slice_get known.rows.items label) refl found
  where
    Is : TreeCount → Type 0
    Is one = IsPartAt telling spots known.jumps.items label passing one

    by-number : (row : Row) (number : Option ℕ) → slice_get known.rows.items label ≡ Some row →
        number_in row passing ≡ number → Some part ≡ part_at known.parts.items number → Is part
    by-number row None there is e = absurd (let k : ⊥ = cc in k)
    by-number row (Some number) there is e =
        let one = was.parts label number row passing there is in
        subst Is (one-of one.0 part (sym one.1 ∙ sym e)) one.2

    by-row : (found : Option Row) → slice_get known.rows.items label ≡ found →
        Some part ≡ part_in known.parts.items found passing → Is part
    by-row None there e = absurd (let k : ⊥ = cc in k)
    by-row (Some row) there e = by-number row (number_in row passing) there refl e

-- the jumps of a part, where they were read
pub own-part : (telling : LoweringContext) (spots : List Continuation) (lists : List Jumps) (range : code.Range)
    (label : ℕ) (passing : Passing) (part : TreeCount) (read : Jumps) →
    IsPartAt telling spots lists label passing part → GoesSo spots range (label / 3) passing →
    read ≡ get_or lists part.jumps read →
    IsPartIn telling spots range label part.size read.labels.items
own-part telling spots lists range label passing part read is goes at =
    let lt = slice_get_within lists part.jumps is.jumps is.there in
    let both : Some is.jumps ≡ Some read =
    sym is.there ∙ slice_get_read lists (length lists) part.jumps read refl lt at in
    subst (λ (j : Jumps). IsPartIn telling spots range label part.size j.labels.items)
    (one-of is.jumps read both) (is.is range goes)

-- no part yet
pub known-none : (telling : LoweringContext) (spots : List Continuation) (known : TreeSizeCache) (none : Row) →
    length known.rows.items ≡ 3 * length spots →
    ((label : ℕ) (row : Row) → slice_get known.rows.items label ≡ Some row → row ≡ none) →
    ((passing : Passing) → number_in none passing ≡ None) →
    IsMarked known.seen.places.items known.seen.marks.items →
    length known.seen.marks.items ≡ 3 * length spots →
    (known.shared ≡ true → AllGoWithin spots) → IsKnown telling spots known
known-none telling spots known none rows all empty marked size shared = record {
  rows = rows;
  parts = λ label number row passing there is. absurd (
      let no : None ≡ Some number =
      sym (empty passing) ∙ ap (λ r. number_in r passing) (sym (all label row there)) ∙ is in
      let k : ⊥ = cc in k
      );
  marked = marked;
  size = size;
  shared = shared;
}

module _ (telling : LoweringContext) (spots : List Continuation) (old new : TreeSizeCache)
    (was : IsKnown telling spots old) where
  abbrev Found : List Jumps → List TreeCount → ℕ → ℕ → Passing → Type 0
  Found lists parts at number by = (one : TreeCount) × (slice_get parts number ≡ Some one)
      × IsPartAt telling spots lists at by one

  module _ (label : ℕ) (passing : Passing) (part : TreeCount) where
    one-kept : IsPartAt telling spots old.jumps.items label passing part →
        IsKept label passing part old new → (at number : ℕ) (row : Row) (by : Passing) →
        slice_get new.rows.items at ≡ Some row → number_in row by ≡ Some number →
        Found old.jumps.items new.parts.items at number by
    one-kept is kept at number row by there found =
        let lists = old.jumps.items in
        let more : List TreeCount = old.parts.items ++ part ∷ [] in
        let later : (row : Row) → slice_get old.rows.items at ≡ Some row →
        number_in row by ≡ Some number → Found lists new.parts.items at number by =
        λ row old_there old_found.
        let one = was.parts at number row by old_there old_found in
        subst (λ ps. Found lists ps at number by) (sym kept.parts)
        (one.0, get-front old.parts.items (part ∷ []) number one.0 one.1, one.2) in
        let set_row = with_number kept.row passing (length old.parts.items) in
        let there_now : slice_get (set old.rows.items label set_row) at ≡ Some row =
        ap (λ (rs : List Row). slice_get rs at) (sym kept.rows) ∙ there in
        elim (eqb_tells label at) [
          | inl same ↦
              let here : slice_get (set old.rows.items label set_row) at ≡ Some set_row =
              subst (λ (n : ℕ). slice_get (set old.rows.items label set_row) n ≡ Some set_row)
              same.1 (set-here old.rows.items label set_row
              (slice_get_within old.rows.items label kept.row kept.there)) in
              let both : Some set_row ≡ Some row = sym here ∙ there_now in
              let is_row : set_row ≡ row = one-of set_row row both in
              elim (number-with kept.row passing by (length old.parts.items) number
              (ap (λ r. number_in r by) is_row ∙ found)) [
                | inl new_one ↦ subst (λ ps. Found lists ps at number by) (sym kept.parts) (
                  part,
                  subst (λ (n : ℕ). slice_get more n ≡ Some part) new_one.1
                      (get-last old.parts.items part),
                  subst (λ w. IsPartAt telling spots lists at w part) new_one.0
                      (subst (λ (n : ℕ). IsPartAt telling spots lists n passing part) same.1 is),
                )
                | inr old_one ↦ later kept.row
                    (subst (λ (n : ℕ). slice_get old.rows.items n ≡ Some kept.row) same.1 kept.there)
                    old_one
              ]
          | inr apart ↦ later row
              (sym (set-other old.rows.items label at set_row apart.1) ∙ there_now) found
        ]

    pub known-kept : Keeps label passing part old new → new.jumps ≡ old.jumps →
        new.seen ≡ old.seen → new.shared ≡ old.shared →
        IsPartAt telling spots old.jumps.items label passing part → IsKnown telling spots new
    known-kept keeps jumps seen shared is = record {
      rows = elim keeps [
        | inl same ↦ ap (λ (rs : List Row). length rs) same.0 ∙ was.rows
        | inr one ↦ ap (λ (rs : List Row). length rs) one.rows
            ∙ length-set old.rows.items label (with_number one.row passing (length old.parts.items))
            ∙ was.rows
      ];
      parts = λ at number row by there found.
          subst (λ js. Found js.items new.parts.items at number by) (sym jumps) (
          elim keeps [
            | inl same ↦ subst (λ ps. Found old.jumps.items ps at number by) (sym same.1)
                (was.parts at number row by
                (ap (λ (rs : List Row). slice_get rs at) (sym same.0) ∙ there) found)
            | inr one ↦ one-kept is one at number row by there found
          ]
          );
      marked = subst (λ s. IsMarked s.places.items s.marks.items) (sym seen) was.marked;
      size = ap (λ s. length s.marks.items) seen ∙ was.size;
      shared = λ holds. was.shared (sym shared ∙ holds);
    }

  -- the jumps of a tree more
  pub part-longer : (label : ℕ) (passing : Passing) (part : TreeCount) (jumps : Jumps) →
      IsPartAt telling spots old.jumps.items label passing part →
      IsPartAt telling spots (old.jumps.items ++ jumps ∷ []) label passing part
  part-longer label passing part jumps is = record {
    jumps = is.jumps;
    there = get-front old.jumps.items (jumps ∷ []) part.jumps is.jumps is.there;
    is = is.is;
  }

  module _ (tree : graph.Tree) (part : TreeCount) (counts : Counts tree part old new) where
    pub known-counted : IsKnown telling spots new
    known-counted = record {
      rows = ap (λ rs. length rs.items) counts.rows ∙ was.rows;
      parts = λ at number row by there found.
          let one = was.parts at number row by
          (ap (λ rs. slice_get rs.items at) (sym counts.rows) ∙ there) found in
          subst (λ ps. Found new.jumps.items ps.items at number by) (sym counts.parts) (
            one.0,
            one.1,
            subst (λ ls. IsPartAt telling spots ls at by one.0) (sym counts.lists)
                (part-longer at by one.0 counts.jumps one.2),
          );
      marked = counts.marked;
      size = counts.size ∙ was.size;
      shared = λ holds. was.shared (sym counts.shared ∙ holds);
    }

    -- it is the part at each label at which this is the tree
    pub part-counted : (label : ℕ) (passing : Passing) →
        ((range : code.Range) → GoesSo spots range (label / 3) passing → (program : Program) →
        IsTableOf telling spots program → tree ≡ node_in telling program range label) →
        IsPartAt telling spots new.jumps.items label passing part
    part-counted label passing same = record {
      jumps = counts.jumps;
      there =
          subst (λ ls. slice_get ls part.jumps ≡ Some counts.jumps) (sym counts.lists)
          (subst (λ (n : ℕ). slice_get (old.jumps.items ++ counts.jumps ∷ []) n ≡ Some counts.jumps)
          (sym counts.number) (get-last old.jumps.items counts.jumps));
      is = λ range goes program table.
          subst (λ t. IsPartOf t part.size counts.jumps.labels.items)
          (same range goes program table) counts.is;
    }
