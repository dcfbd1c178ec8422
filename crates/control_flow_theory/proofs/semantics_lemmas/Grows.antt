-- A step of the source or of the walk shows more, and a run that is over stays.
use Rattle.std.proofs.Common.{◌≡◌, ◌≢◌, ℕ, suc, true, false, if◌then◌else◌, nat_eq, List, [], ◌∷◌, ◌++◌, refl, sym, ◌∙◌, append-nil, Option, Some, None}
use Rattle.std.specs.Prelude.{slice_get}
use Rattle.control_flow_theory.specs.runs.Run.{Going, Over, Covers}
use Rattle.control_flow_theory.specs.runs.Machine.{Grows}
use Rattle.control_flow_theory.proofs.runs_lemmas.Ties.{covers-refl}
use Rattle.control_flow_theory.specs.semantics.Outcome.{Event, Trace, Ending, Faulted, Reentry, Overlap, Run, Standing, Tried, Got, Ends}
use Rattle.control_flow_theory.specs.language.Language.{Paragraph, Program}
use Rattle.control_flow_theory.specs.semantics.Doing.{Doing, Acting, Celled, celled}
use Rattle.control_flow_theory.specs.language.Items.{Item}
use Rattle.control_flow_theory.specs.semantics.Items.{Way, On, Halts, Into, To, ToEnd, item_way}
use Rattle.control_flow_theory.specs.language.Items.{Pending, ends_at}
use Rattle.control_flow_theory.specs.semantics.Source.{SourceState, comes_to, goes_to, goes, falls, end_step, rest_step, step_by, source_step}
use Rattle.control_flow_theory.specs.semantics.Graph.{Tree, End, Pick, Jump, Return, Stop, Dead, Trees, Family}
use Rattle.control_flow_theory.specs.semantics.Walk.{Level, Walk, walk_goes, picked, picks, tree_at, returns, walk_end, walk_items, walk_by, walk_step}

grown : {Left : Type 0} (t : Trace) (run next : Run Left) → run.standing ≡ Going → next.trace ≡ run.trace ++ t → Covers run next
grown t run next going shown = record { shows = (t, shown); ends = λ over. absurd (over going) }

stood : {Left : Type 0} (run next : Run Left) → run.standing ≡ Going → next.trace ≡ run.trace → Covers run next
stood run next going shown = grown [] run next going (shown ∙ sym (append-nil run.trace))

module _ {Memory Left : Type 0} (doing : Doing Memory) (left : Memory → Left) (program : Program) where
  abbrev State : Type 0
  State = SourceState Memory Left

  goes-more : (s : State) (way : Way Memory) → s.run.standing ≡ Going → Covers s.run (goes doing left program way s).run
  goes-more s (On t m items) e = grown t s.run (goes doing left program (On t m items) s).run e refl
  goes-more s (Halts t how m) e = grown t s.run (goes doing left program (Halts t how m) s).run e refl
  goes-more s (Into entry exit items) e =
      elim (ends_at exit s.pending) as (λ b. Covers s.run (if b then comes_to doing left program (Faulted (Reentry exit)) s else goes_to doing left program entry (record s { pending = record { end = exit; paragraph = s.paragraph; rest = items } ∷ s.pending })).run) [
        | true ↦ stood s.run (comes_to doing left program (Faulted (Reentry exit)) s).run e refl
        | false ↦ stood s.run s.run e refl
      ]
  goes-more s (To t m to) e = grown t s.run (goes doing left program (To t m to) s).run e refl
  goes-more s (ToEnd t m to) e = grown t s.run (goes doing left program (ToEnd t m to) s).run e refl

  falls-more : (s : State) (found : Option Paragraph) → s.run.standing ≡ Going → Covers s.run (falls doing left program found s).run
  falls-more s None e = stood s.run (falls doing left program None s).run e refl
  falls-more s (Some next) e = stood s.run s.run e refl

  end-more : (s : State) (pending : List Pending) → s.run.standing ≡ Going → Covers s.run (end_step doing left program pending s).run
  end-more s [] e = falls-more s (slice_get program.paragraphs (suc s.paragraph)) e
  end-more s (top ∷ others) e =
      let faulted = comes_to doing left program (Faulted (Overlap s.paragraph)) s in
      let fallen = falls doing left program (slice_get program.paragraphs (suc s.paragraph)) s in
      elim (nat_eq top.end s.paragraph) as (λ b. Covers s.run (if b then record s { paragraph = top.paragraph; rest = top.rest; pending = others } else (if ends_at s.paragraph others then faulted else fallen)).run) [
        | true ↦ stood s.run s.run e refl
        | false ↦ elim (ends_at s.paragraph others) as (λ b. Covers s.run (if b then faulted else fallen).run) [
          | true ↦ stood s.run faulted.run e refl
          | false ↦ falls-more s (slice_get program.paragraphs (suc s.paragraph)) e
        ]
      ]

  rest-more : (s : State) (rest : List Item) → s.run.standing ≡ Going → Covers s.run (rest_step doing left program rest s).run
  rest-more s [] e = end-more s s.pending e
  rest-more s (x ∷ xs) e = goes-more s (item_way doing x xs s.memory) e

  step-more : (standing : Standing Left) (s : State) → s.run.standing ≡ standing → Covers s.run (step_by doing left program standing s).run
  step-more Going s e = rest-more s s.rest e
  step-more (Over ending) s e = covers-refl s.run

  step-stays : (standing : Standing Left) (s : State) → standing ≢ Going → step_by doing left program standing s ≡ s
  step-stays Going s over = absurd (over refl)
  step-stays (Over ending) s over = refl

  pub source-grows : {World : Type 0} (begun : World → State) → Grows {World = World} {Event = Event} {End = Ending Left} (record { step = source_step doing left program; run = λ s. s.run; begun = begun })
  source-grows begun = record { more = λ s. step-more s.run.standing s refl; stays = λ s over. step-stays s.run.standing s over }

module _ {Memory Left : Type 0} (acting : Acting Memory) (left : Memory → Left) (family : Family) where
  abbrev Walking : Type 0
  Walking = Walk Memory Left

  walk-goes-more : (w : Walking) (way : Way (Celled Memory)) → w.run.standing ≡ Going → Covers w.run (walk_goes acting left family way w).run
  walk-goes-more w (On t m items) e = grown t w.run (walk_goes acting left family (On t m items) w).run e refl
  walk-goes-more w (Halts t how m) e = grown t w.run (walk_goes acting left family (Halts t how m) w).run e refl
  walk-goes-more w (Into entry exit items) e = stood w.run w.run e refl
  walk-goes-more w (To t m to) e = stood w.run (walk_goes acting left family (To t m to) w).run e refl
  walk-goes-more w (ToEnd t m to) e = stood w.run (walk_goes acting left family (ToEnd t m to) w).run e refl

  picked-more : (t : Trace) (m : Celled Memory) (w : Walking) (found : Option Tree) → w.run.standing ≡ Going →
      Covers w.run (picked acting left family found (record w { memory = m; run = record { trace = w.run.trace ++ t; standing = w.run.standing } })).run
  picked-more t m w None e = grown t w.run (picked acting left family None (record w { memory = m; run = record { trace = w.run.trace ++ t; standing = w.run.standing } })).run e refl
  picked-more t m w (Some one) e = grown t w.run (record { trace = w.run.trace ++ t; standing = w.run.standing }) e refl

  picks-more : (w : Walking) (arms : Trees) (a : Tried (Celled Memory) ℕ) → w.run.standing ≡ Going → Covers w.run (picks acting left family arms a w).run
  picks-more w arms (Got t k m) e = picked-more t m w (tree_at arms k) e
  picks-more w arms (Ends t kind m) e = grown t w.run (picks acting left family arms (Ends t kind m) w).run e refl

  returns-more : (w : Walking) (callers : List Level) → w.run.standing ≡ Going → Covers w.run (returns acting left family callers w).run
  returns-more w [] e = stood w.run (returns acting left family [] w).run e refl
  returns-more w (top ∷ others) e = stood w.run w.run e refl

  walk-end-more : (w : Walking) (end : End) → w.run.standing ≡ Going → Covers w.run (walk_end acting left family end w).run
  walk-end-more w (Pick picker arms) e = picks-more w arms ((celled acting w.level.range).pick picker w.memory) e
  walk-end-more w (Jump to) e = stood w.run w.run e refl
  walk-end-more w Return e = returns-more w w.callers e
  walk-end-more w Stop e = stood w.run (walk_end acting left family Stop w).run e refl
  walk-end-more w Dead e = stood w.run (walk_end acting left family Dead w).run e refl

  walk-items-more : (w : Walking) (items : List Item) → w.run.standing ≡ Going → Covers w.run (walk_items acting left family items w).run
  walk-items-more w [] e = walk-end-more w w.level.end e
  walk-items-more w (x ∷ rest) e = walk-goes-more w (item_way (celled acting w.level.range) x rest w.memory) e

  walk-step-more : (standing : Standing Left) (w : Walking) → w.run.standing ≡ standing → Covers w.run (walk_by acting left family standing w).run
  walk-step-more Going w e = walk-items-more w w.level.items e
  walk-step-more (Over ending) w e = covers-refl w.run

  walk-step-stays : (standing : Standing Left) (w : Walking) → standing ≢ Going → walk_by acting left family standing w ≡ w
  walk-step-stays Going w over = absurd (over refl)
  walk-step-stays (Over ending) w over = refl

  pub walk-grows : {World : Type 0} (begun : World → Walking) → Grows {World = World} {Event = Event} {End = Ending Left} (record { step = walk_step acting left family; run = λ w. w.run; begun = begun })
  walk-grows begun = record { more = λ w. walk-step-more w.run.standing w refl; stays = λ w over. walk-step-stays w.run.standing w over }
