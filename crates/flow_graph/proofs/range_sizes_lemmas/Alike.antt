-- Ranges that go on so from a rest go on alike from there.
use Rattle.std.proofs.Common.{◌≡◌, ℕ, zero, suc, ◌<◌, ◌==◌, Bool, true, false, if◌then◌else◌, List, [], ◌∷◌, get_or, length, Option, Some, None, slice_get, refl, ap, sym, ◌∙◌, arith, eqb-true, eq-eqb}
use Rattle.std.proofs.lemmas.Option.{slice_get-get_or}
use Rattle.cob_tree.specs.declared.program.Range as code
use Rattle.statement_lowering.specs.declared.continuations.continuation.Successors.{Successors}
use Rattle.statement_lowering.specs.declared.continuations.continuation.Continuation.{Continuation}
use Rattle.flow_graph.specs.label_trees.Node.{GoAlike, GoAlikeFrom, returns_at}
use Rattle.flow_graph.specs.label_trees.Run.{IsBehind}
use Rattle.flow_graph.specs.declared.range_sizes.exits.Passing.{Passing}
use Rattle.flow_graph.specs.declared.range_sizes.exits.Passing.TheVariants.{Falls, Returns, Leaves}
use Rattle.flow_graph.specs.range_sizes.Exits.{AllGoWithin, GoesSo, found_within, stands_within, passing_of}

exit-is : (exit : Option ℕ) (number : ℕ) → returns_at exit number ≡ true → exit ≡ Some number
exit-is None number is = absurd (let k : ⊥ = cc in k)
exit-is (Some exit) number is = ap (λ (n : ℕ). Some n) (eqb-true exit number is)

abbrev passing_by : Bool → Bool → Passing
passing_by paragraph last = if paragraph then Returns else if last then Leaves else Falls

same-passings : (a b c d : Bool) → passing_by a b ≡ passing_by c d → (a ≡ c) × (a ≡ false → b ≡ d)
same-passings true b true d e = (refl, λ not. absurd (let k : ⊥ = cc in k))
same-passings true b false true e = absurd (let k : ⊥ = cc in k)
same-passings true b false false e = absurd (let k : ⊥ = cc in k)
same-passings false true true d e = absurd (let k : ⊥ = cc in k)
same-passings false true false true e = (refl, λ not. refl)
same-passings false true false false e = absurd (let k : ⊥ = cc in k)
same-passings false false true d e = absurd (let k : ⊥ = cc in k)
same-passings false false false true e = absurd (let k : ⊥ = cc in k)
same-passings false false false false e = (refl, λ not. refl)

pub go-alike : (range other : code.Range) (onward : Successors) →
    passing_of range.exit onward ≡ passing_of other.exit onward → GoAlike range other onward
go-alike range other onward same =
    let a = returns_at range.exit onward.paragraph in
    let c = returns_at other.exit onward.paragraph in
    let both = same-passings a (returns_at range.exit onward.last) c
    (returns_at other.exit onward.last) same in
    record {
      paragraph = both.0;
      last = (elim (returns_at range.exit onward.paragraph) as
          (λ b. returns_at range.exit onward.paragraph ≡ b →
          returns_at range.exit onward.last ≡ returns_at other.exit onward.last) [
            | true ↦ λ is.
                let one = exit-is range.exit onward.paragraph is in
                let two = exit-is other.exit onward.paragraph (sym both.0 ∙ is) in
                ap (λ exit. returns_at exit onward.last) (one ∙ sym two)
            | false ↦ λ is. both.1 is
          ]) refl;
    }

-- Rests that stand in one paragraph and section.

stands-parts : (onward behind : Successors) → stands_within onward behind ≡ true →
    (behind.paragraph ≡ onward.paragraph) × (behind.last ≡ onward.last)
stands-parts onward behind is =
    (elim (behind.paragraph == onward.paragraph) as
    (λ b. (behind.paragraph == onward.paragraph) ≡ b →
    (if b then behind.last == onward.last else false) ≡ true →
    (behind.paragraph ≡ onward.paragraph) × (behind.last ≡ onward.last)) [
      | true ↦ λ same rest.
          (eqb-true behind.paragraph onward.paragraph same, eqb-true behind.last onward.last rest)
      | false ↦ λ same rest. absurd (let k : ⊥ = cc in k)
    ]) refl is

stands-by : (onward behind : Successors) → behind.paragraph ≡ onward.paragraph →
    behind.last ≡ onward.last → stands_within onward behind ≡ true
stands-by onward behind paragraph last =
    ap (λ b. if b then behind.last == onward.last else false)
    (eq-eqb behind.paragraph onward.paragraph paragraph)
    ∙ eq-eqb behind.last onward.last last

further : (found : Option Continuation) (onward behind : Successors) → stands_within onward behind ≡ true →
    found_within behind found ≡ true → found_within onward found ≡ true
further None onward behind stands found = refl
further (Some spot) onward behind stands found =
    let one = stands-parts onward behind stands in
    let two = stands-parts behind spot.onward found in
    stands-by onward spot.onward (two.0 ∙ one.0) (two.1 ∙ one.1)

pub alike-from : (spots : List Continuation) (range other : code.Range) (place : ℕ) (spot : Continuation) →
    AllGoWithin spots → slice_get spots place ≡ Some spot →
    passing_of range.exit spot.onward ≡ passing_of other.exit spot.onward →
    GoAlikeFrom spots range other place
alike-from spots range other place spot within there same =
    let own = spot.onward in
    let alike = go-alike range other own same in
    let stands : (at : ℕ) (one : Continuation) → found_within own (slice_get spots at) ≡ true →
    slice_get spots at ≡ Some one → stands_within own one.onward ≡ true =
    λ at one on is. sym (ap (found_within own) is) ∙ on in
    record {
      along = λ at. found_within own (slice_get spots at);
      here = ap (found_within own) there ∙ stands-by own own refl refl;
      behind = λ at next one on is goes.
          further (slice_get spots next) own one.onward (stands at one on is)
          (within at next one is goes);
      alike = λ at one on is.
          let parts = stands-parts own one.onward (stands at one on is) in
          record {
            paragraph = ap (returns_at range.exit) parts.0 ∙ alike.paragraph
                ∙ sym (ap (returns_at other.exit) parts.0);
            last = ap (returns_at range.exit) parts.1 ∙ alike.last
                ∙ sym (ap (returns_at other.exit) parts.1);
          };
    }

-- A range goes on behind a rest as from it.

same-spot : (one spot : Continuation) → Some one ≡ Some spot → one ≡ spot
same-spot one spot e = cc

pub goes-there : (spots : List Continuation) (range : code.Range) (place : ℕ) (passing : Passing)
    (spot : Continuation) → GoesSo spots range place passing → slice_get spots place ≡ Some spot →
    passing_of range.exit spot.onward ≡ passing
goes-there spots range place passing spot so there =
    sym (ap (λ (s : Continuation). passing_of range.exit s.onward)
    (same-spot so.spot spot (sym so.there ∙ there)))
    ∙ so.goes

pub alike-so : (spots : List Continuation) (range other : code.Range) (place : ℕ) (passing : Passing)
    (spot : Continuation) → GoesSo spots range place passing → GoesSo spots other place passing →
    slice_get spots place ≡ Some spot → GoAlike range other spot.onward
alike-so spots range other place passing spot one two there =
    go-alike range other spot.onward
    (goes-there spots range place passing spot one there
    ∙ sym (goes-there spots other place passing spot two there))

some-there : (spots : List Continuation) (at : ℕ) → at < length spots →
    (spot : Continuation) × (slice_get spots at ≡ Some spot)
some-there [] at lt = absurd (omega (arith, lt))
some-there (spot ∷ spots) zero lt = (spot, refl)
some-there (spot ∷ spots) (suc at) lt = some-there spots at (omega (arith, lt))

passes-so : (exit : Option ℕ) (onward behind : Successors) → stands_within onward behind ≡ true →
    passing_of exit behind ≡ passing_of exit onward
passes-so exit onward behind stands =
    let parts = stands-parts onward behind stands in
    ap (λ (n : ℕ). passing_by (returns_at exit n) (returns_at exit behind.last)) parts.0
    ∙ ap (λ (n : ℕ). passing_by (returns_at exit onward.paragraph) (returns_at exit n)) parts.1

pub goes-behind : (spots : List Continuation) (range : code.Range) (place next : ℕ) (passing : Passing) →
    AllGoWithin spots → IsBehind spots place next → GoesSo spots range place passing →
    GoesSo spots range next passing
goes-behind spots range place next passing within behind so =
    let one = some-there spots next behind.within in
    let found = within place next so.spot so.there (behind.behind so.spot so.there) in
    let stands : stands_within so.spot.onward one.0.onward ≡ true =
    sym (ap (found_within so.spot.onward) one.1) ∙ found in
    record {
      spot = one.0;
      there = one.1;
      goes = passes-so range.exit so.spot.onward one.0.onward stands ∙ so.goes;
    }

pub goes-read : (spots : List Continuation) (range : code.Range) (place : ℕ) (passing : Passing)
    (read : Continuation) → place < length spots →
    passing ≡ passing_of range.exit (get_or spots place read).onward →
    GoesSo spots range place passing
goes-read spots range place passing read lt is = record {
  spot = get_or spots place read;
  there = slice_get-get_or spots place read lt;
  goes = sym is;
}
