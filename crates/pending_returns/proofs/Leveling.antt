-- The levels of a table, and where calls lead.
use Rattle.std.proofs.Common.{◌≡◌, ◌+◌, ◌<◌, ◌≤◌, ℕ, Bool, true, List, [], ◌∷◌, ◌++◌, length, Some, slice_get, refl, ap, sym, ◌∙◌, subst, ◌⊎◌, inl, inr, arith, length-append}
use Rattle.cob_tree.specs.declared.program.Range.{Range}
use Rattle.program_points.specs.declared.point_table.table.Table.{Table}
use Rattle.program_points.specs.point_table.Table.{IsTidy}
use Rattle.pending_returns.specs.levels.Reach.{Holds, IsMarked, Adds, IsReach, AllPlaces, GathersAllCalls, GathersAllEnds}
use Rattle.pending_returns.proofs.levels_lemmas.Searching.{comes-below}
use Rattle.pending_returns.specs.declared.facts.RangeFacts.{RangeFacts}
use Rattle.pending_returns.specs.Tabled.{Orders, TellsLevel, TellsLevels, LeadsTo, AddsCalls}
use Rattle.pending_returns.specs.Tabled as tabled
use Rattle.pending_returns.proofs.Getting.{get-back, get-below, get-some, before-or-now}

-- the levels of the first ranges
pub record LevelsUpTo (table : Table) (returns : List Bool) (at : ℕ) (levels : List RangeFacts) : Type 0 where
  pub size : length levels ≡ at
  pub each : (number : ℕ) (facts : RangeFacts) → slice_get levels number ≡ Some facts → (slice_get table.ranges number ≡ Some facts.range) × (slice_get returns number ≡ Some facts.returns) × TellsLevel table returns facts.range facts.calls facts.ends

pub levels-none : (table : Table) (returns : List Bool) (levels : List RangeFacts) → levels ≡ [] → LevelsUpTo table returns 0 levels
levels-none table returns levels is = subst (λ (ls : List RangeFacts). LevelsUpTo table returns 0 ls) (sym is) (record {
  size = refl;
  each = λ number facts e. absurd (let k : ⊥ = cc in k);
})

pub levels-more : (table : Table) (returns : List Bool) (at : ℕ) (levels more : List RangeFacts) (range : Range) (back : Bool) (facts : RangeFacts) → slice_get table.ranges at ≡ Some range → slice_get returns at ≡ Some back → facts.range ≡ range → facts.returns ≡ back →
    TellsLevel table returns range facts.calls facts.ends → more ≡ levels ++ facts ∷ [] → LevelsUpTo table returns at levels → LevelsUpTo table returns (at + 1) more
levels-more table returns at levels more range back facts is_range is_back same_range same_back tells is so_far = subst (λ (ls : List RangeFacts). LevelsUpTo table returns (at + 1) ls) (sym is) (record {
  size = length-append levels (facts ∷ []) ∙ ap (λ (n : ℕ). n + 1) so_far.size;
  each = λ number other e. elim (get-back levels facts number other e) [
    | inl old ↦ so_far.each number other old
    | inr new ↦
        let here : number ≡ at = new.0 ∙ so_far.size in
        subst (λ (f : RangeFacts). (slice_get table.ranges number ≡ Some f.range) × (slice_get returns number ≡ Some f.returns) × TellsLevel table returns f.range f.calls f.ends) (sym new.1) (
          ap (λ (n : ℕ). slice_get table.ranges n) here ∙ is_range ∙ ap (λ (r : Range). Some r) (sym same_range),
          ap (λ (n : ℕ). slice_get returns n) here ∙ is_back ∙ ap (λ (b : Bool). Some b) (sym same_back),
          subst (λ (r : Range). TellsLevel table returns r facts.calls facts.ends) (sym same_range) tells,
        )
  ];
})

pub levels-all : (table : Table) (returns : List Bool) (at : ℕ) (levels : List RangeFacts) → at ≡ length table.ranges → LevelsUpTo table returns at levels → TellsLevels table returns levels
levels-all table returns at levels is so_far = record { size = so_far.size ∙ is; each = so_far.each }

-- the places of a level are places of the table
pub level-below : (table : Table) (returns : List Bool) (range : Range) (places same : List ℕ) → IsTidy table → IsReach table returns range places → same ≡ places → AllPlaces (length table.places) same
level-below table returns range places same tidy reach is = λ place has. comes-below table returns range tidy place (reach.0 place (subst (λ (ps : List ℕ). Holds ps place) is has))

-- what a level does is told by lists of what its places do
pub tells-level : (table : Table) (returns : List Bool) (range : Range) (places calls cs ends es called ended : List ℕ) → IsReach table returns range places → cs ≡ calls → es ≡ ends →
    GathersAllCalls table places calls → GathersAllEnds table range places ends → Orders cs called → Orders es ended → TellsLevel table returns range called ended
tells-level table returns range places calls cs ends es called ended reach one two all_calls all_ends order_calls order_ends =
    let oc = subst (λ (ns : List ℕ). Orders ns called) one order_calls in
    let oe = subst (λ (ns : List ℕ). Orders ns ended) two order_ends in
    record {
      places = places;
      reach = reach;
      calls_rise = oc.rises;
      calls_are = λ number. (λ is. (oc.same number).0 ((all_calls number).1 is), λ has. (all_calls number).0 ((oc.same number).1 has));
      ends_rise = oe.rises;
      ends_are = λ paragraph. (λ is. (oe.same paragraph).0 ((all_ends paragraph).1 is), λ has. (all_ends paragraph).0 ((oe.same paragraph).1 has));
    }

-- the first of the calls were added
pub record AddsFirst (calls : List ℕ) (index : ℕ) (before after : List ℕ) : Type 0 where
  pub added : (at number : ℕ) → at < index → slice_get calls at ≡ Some number → Holds after number
  pub kept : (at other : ℕ) → slice_get before at ≡ Some other → slice_get after at ≡ Some other
  pub only : (other : ℕ) → Holds after other → Holds before other ⊎ Holds calls other

pub adds-none : (calls places : List ℕ) → AddsFirst calls 0 places places
adds-none calls places = record { added = λ at number lt e. absurd (omega arith); kept = λ at other e. e; only = λ other has. inl has }

pub adds-more : (calls : List ℕ) (index number : ℕ) (before after later : List ℕ) → slice_get calls index ≡ Some number → AddsFirst calls index before after → Adds after later number → AddsFirst calls (index + 1) before later
adds-more calls index number before after later here so_far adds = record {
  added = λ at other lt e. elim (before-or-now at index lt) [
    | inl less ↦ (let has = so_far.added at other less e in (has.0, adds.kept has.0 other has.1))
    | inr now ↦
        let both : Some other ≡ Some number = sym e ∙ ap (λ (n : ℕ). slice_get calls n) now ∙ here in
        let same : number ≡ other = cc in
        subst (λ (n : ℕ). Holds later n) same adds.added
  ];
  kept = λ at other e. adds.kept at other (so_far.kept at other e);
  only = λ other has. elim (adds.only other has) [ inl old ↦ so_far.only other old | inr same ↦ inr (index, here ∙ ap (λ (n : ℕ). Some n) (sym same)) ];
}

pub adds-all : (calls : List ℕ) (index : ℕ) (before after : List ℕ) → length calls ≤ index → AddsFirst calls index before after → AddsCalls calls before after
adds-all calls index before after le so_far = record {
  added = λ number has. so_far.added has.0 number (let less : has.0 < length calls = get-below calls has.0 number has.1 in omega (arith, less)) has.1;
  kept = so_far.kept;
  only = so_far.only;
}

-- the ranges so far: those that were looked at have all that they perform among them
pub record LedSoFar (levels : List RangeFacts) (places : List ℕ) (marks : List Bool) (at : ℕ) : Type 0 where
  pub marked : IsMarked places marks
  pub size : length marks ≡ length levels
  pub begun : Holds places 0
  pub sound : (number : ℕ) → Holds places number → LeadsTo levels number
  pub done : (index from to : ℕ) (facts : RangeFacts) → index < at → slice_get places index ≡ Some from → slice_get levels from ≡ Some facts → Holds facts.calls to → Holds places to

pub led-begins : (levels : List RangeFacts) (before places : List ℕ) (marks : List Bool) → before ≡ [] → Adds before places 0 → IsMarked places marks → length marks ≡ length levels → LedSoFar levels places marks 0
led-begins levels before places marks none adds marked size = record {
  marked = marked;
  size = size;
  begun = adds.added;
  sound = λ number has. elim (adds.only number has) [
    | inl old ↦ absurd (let e : slice_get [] old.0 ≡ Some number = ap (λ (ps : List ℕ). slice_get ps old.0) (sym none) ∙ old.1 in let k : ⊥ = cc in k)
    | inr same ↦ subst (λ (n : ℕ). LeadsTo levels n) (sym same) tabled.begins
  ];
  done = λ index from to facts lt e l h. absurd (omega arith);
}

pub led-more : (levels : List RangeFacts) (places later : List ℕ) (marks more : List Bool) (at here : ℕ) (facts : RangeFacts) → slice_get places at ≡ Some here → slice_get levels here ≡ Some facts → AddsCalls facts.calls places later → IsMarked later more → length more ≡ length marks → LedSoFar levels places marks at →
    LedSoFar levels later more (at + 1)
led-more levels places later marks more at here facts at_here is adds marked size so_far = record {
  marked = marked;
  size = size ∙ so_far.size;
  begun = (so_far.begun.0, adds.kept so_far.begun.0 0 so_far.begun.1);
  sound = λ number has. elim (adds.only number has) [
    | inl old ↦ so_far.sound number old
    | inr new ↦ tabled.calls here number facts (so_far.sound here (at, at_here)) is new
  ];
  done = λ index from to other lt e l h. elim (before-or-now index at lt) [
    | inl less ↦
        let inside : index < length places = (let l2 : at < length places = get-below places at here at_here in omega (arith, l2, less)) in
        let old = get-some places index inside in
        let both : Some old.0 ≡ Some from = sym (adds.kept index old.0 old.1) ∙ e in
        let same : old.0 ≡ from = cc in
        let has = so_far.done index from to other less (old.1 ∙ ap (λ (n : ℕ). Some n) same) l h in
        (has.0, adds.kept has.0 to has.1)
    | inr now ↦
        let both : Some from ≡ Some here = sym e ∙ ap (λ (n : ℕ). slice_get later n) now ∙ adds.kept at here at_here in
        let same : from ≡ here = cc in
        let one : Some other ≡ Some facts = sym l ∙ ap (λ (n : ℕ). slice_get levels n) same ∙ is in
        let eq : other ≡ facts = cc in
        adds.added to (subst (λ (f : RangeFacts). Holds f.calls to) eq h)
  ];
}

led-there : (levels : List RangeFacts) (places : List ℕ) (marks : List Bool) (at number : ℕ) → length places ≤ at → LedSoFar levels places marks at → LeadsTo levels number → Holds places number
led-there levels places marks at number le so_far (tabled.begins) = so_far.begun
led-there levels places marks at number le so_far (tabled.calls from to facts led is has) =
    let there = led-there levels places marks at from le so_far led in
    so_far.done there.0 from to facts (let less : there.0 < length places = get-below places there.0 from there.1 in omega (arith, less, le)) there.1 is has

pub led-all : (levels : List RangeFacts) (places : List ℕ) (marks : List Bool) (at : ℕ) → length places ≤ at → LedSoFar levels places marks at → (number : ℕ) → (slice_get marks number ≡ Some true → LeadsTo levels number) × (LeadsTo levels number → slice_get marks number ≡ Some true)
led-all levels places marks at le so_far number = (
  λ e. so_far.sound number (so_far.marked.there number e),
  λ led. so_far.marked.marked number (led-there levels places marks at number le so_far led),
)
