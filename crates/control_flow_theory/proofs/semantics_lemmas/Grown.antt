-- A step of a walk shows more, and a walk that is over stays.
use Rattle.std.proofs.Common.{◌≡◌, ℕ, List, [], ◌∷◌, ◌++◌, Option, Some, None, refl, sym, subst, append-nil}
use Rattle.control_flow_theory.specs.runs.Run.{Going, Over, Covers}
use Rattle.control_flow_theory.specs.runs.Machine.{Grows}
use Rattle.control_flow_theory.proofs.runs_lemmas.Ties.{covers-refl}
use Rattle.control_flow_theory.specs.semantics.Outcome.{Event, Trace, Ending, Standing, Tried, Got, Ends}
use Rattle.control_flow_theory.specs.semantics.Outcome as outcome
use Rattle.control_flow_theory.specs.language.Language.{Range}
use Rattle.control_flow_theory.specs.semantics.Doing.{Acting, Celled, celled}
use Rattle.control_flow_theory.specs.language.Items.{Item}
use Rattle.control_flow_theory.specs.semantics.Items.{Way, On, Halts, Into, To, ToEnd, item_way}
use Rattle.control_flow_theory.specs.semantics.Graph.{Tree, End, Pick, Jump, Return, Stop, Dead, Trees, Family}
use Rattle.control_flow_theory.specs.semantics.Walk.{Level, Walk, tree_at, walk_goes, picked, picks, returns, walk_end, walk_items, walk_by, walk_machine}

module _ {Memory Left : Type 0} (acting : Acting Memory) (left : Memory → Left) (family : Family) where
  abbrev At : Type 0
  At = Walk Memory Left

  shows-more : (trace more : Trace) (standing : Standing Left) → Covers (record { trace = trace; standing = Going }) (record { trace = trace ++ more; standing = standing })
  shows-more trace more standing = record { shows = (more, refl); ends = λ over. absurd (over refl) }

  shows-same : (trace : Trace) (standing : Standing Left) → Covers (record { trace = trace; standing = Going }) (record { trace = trace; standing = standing })
  shows-same trace standing = record { shows = ([], sym (append-nil trace)); ends = λ over. absurd (over refl) }

  abbrev going : At → At
  going walk = record walk { run = record { trace = walk.run.trace; standing = Going } }

  abbrev More : At → At → Type 0
  More walk next = Covers (record { trace = walk.run.trace; standing = Going }) next.run

  way-more : (walk : At) (way : Way (Celled Memory)) → More walk (walk_goes acting left family way (going walk))
  way-more walk (On trace memory items) = shows-more walk.run.trace trace Going
  way-more walk (Halts trace how memory) = shows-more walk.run.trace trace (Over (outcome.Stopped how (left memory.own)))
  way-more walk (Into entry exit items) = shows-same walk.run.trace Going
  way-more walk (To trace memory paragraph) = shows-same walk.run.trace (Over outcome.Lost)
  way-more walk (ToEnd trace memory paragraph) = shows-same walk.run.trace (Over outcome.Lost)

  picked-more : (walk : At) (trace : Trace) (memory : Celled Memory) (found : Option Tree) → More walk (picked acting left family found (record (going walk) { memory = memory; run = record { trace = walk.run.trace ++ trace; standing = Going } }))
  picked-more walk trace memory None = shows-more walk.run.trace trace (Over outcome.Lost)
  picked-more walk trace memory (Some t) = shows-more walk.run.trace trace Going

  picks-more : (walk : At) (arms : Trees) (tried : Tried (Celled Memory) ℕ) → More walk (picks acting left family arms tried (going walk))
  picks-more walk arms (Got trace k memory) = picked-more walk trace memory (tree_at arms k)
  picks-more walk arms (Ends trace kind memory) = shows-more walk.run.trace trace (Over (outcome.Stopped (outcome.Abend kind) (left memory.own)))

  returns-more : (walk : At) (callers : List Level) → More walk (returns acting left family callers (going walk))
  returns-more walk [] = shows-same walk.run.trace (Over (outcome.Returned (left walk.memory.own)))
  returns-more walk (top ∷ others) = shows-same walk.run.trace Going

  end-more : (walk : At) (end : End) → More walk (walk_end acting left family end (going walk))
  end-more walk (Pick picker arms) = picks-more walk arms ((celled acting walk.level.range).pick picker walk.memory)
  end-more walk (Jump to) = shows-same walk.run.trace Going
  end-more walk Return = returns-more walk walk.callers
  end-more walk Stop = shows-same walk.run.trace (Over (outcome.Stopped outcome.Normally (left walk.memory.own)))
  end-more walk Dead = shows-same walk.run.trace (Over outcome.Lost)

  items-more : (walk : At) (items : List Item) → More walk (walk_items acting left family items (going walk))
  items-more walk [] = end-more walk walk.level.end
  items-more walk (item ∷ rest) = way-more walk (item_way (celled acting walk.level.range) item rest walk.memory)

  step-more : (standing : Standing Left) (walk : At) → walk.run.standing ≡ standing → Covers walk.run (walk_by acting left family standing walk).run
  step-more Going walk is =
      subst (λ t. (let r : outcome.Run Left = record { trace = walk.run.trace; standing = t } in Covers r (walk_items acting left family walk.level.items (record walk { run = r })).run)) (sym is) (items-more walk walk.level.items)
  step-more (Over ending) walk is = covers-refl walk.run

  step-stays : (standing : Standing Left) (walk : At) → (standing ≡ Going → ⊥) → walk_by acting left family standing walk ≡ walk
  step-stays Going walk over = absurd (over refl)
  step-stays (Over ending) walk over = refl

  pub walks-grow : (range : Range) → Grows (walk_machine acting left family range)
  walks-grow range = record { more = λ w. step-more w.run.standing w refl; stays = λ w over. step-stays w.run.standing w over }
