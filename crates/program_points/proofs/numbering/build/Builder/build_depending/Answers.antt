use Rattle.std.proofs.Common.{◌≡◌, ◌∙◌, ◌++◌, ◌∷◌, [], List, Bool, ℕ, Option, Some, map, get_or, ap, sym, subst, length}
use Rattle.control_flow_theory.specs.language.Language.{Chooser, also, none, GoDepending}
use Rattle.program_points.specs.declared.point_table.table.ProgramPoint.TheVariants.{Chooses}
use Rattle.program_points.specs.point_table.Table.{AllBelow}
use Rattle.program_points.specs.numbering.Build.{Builds}
use Rattle.program_points.proofs.numbering_lemmas.Growing.{if-added, names-taken, names-all, one-below}
use Rattle.program_points.proofs.numbering_lemmas.Steps.{build-depending}
use Rattle.program_points.proofs.numbering.build.Builder.build_depending.Goals as goal

pub loop-name-preserved : goal.loop-name-preserved
loop-name-preserved c =
    let names = c.args.names.now in
    let i = c.loop-name.name-index in
    let name = get_or names i 0 in
    record {
      told = c.in_ok-push.ensures.ok ∙ ap (λ (ws : List (Option ℕ)). ws ++ Some name ∷ []) c.loop-name.invariant.told ∙ sym (names-taken names i c.loop-name-test.true);
      below = subst (λ (ws : List (Option ℕ)). AllBelow c.args.self.now.count ws) (sym c.in_ok-push.ensures.ok) (one-below c.args.self.now.count c.loop-name.ways name c.loop-name.invariant.below c.if-name-self.false);
    }

pub returns-clause-builds : goal.returns-clause-builds
returns-clause-builds c =
    let old = c.args.self.now in
    let names = c.args.names.now in
    let all = map (λ (n : ℕ). Some n) names in
    let told : c.loop-name.ways ≡ all = c.loop-name.invariant.told ∙ names-all names c.loop-name.name-index c.loop-name-test.false in
    let ways = c.push-2.new.self in
    let ways_are : ways ≡ all ++ Some c.args.exits.after ∷ [] = c.in_ok-push-2.ensures.ok ∙ ap (λ (ws : List (Option ℕ)). ws ++ Some c.args.exits.after ∷ []) told in
    let below : AllBelow old.count all = subst (λ (ws : List (Option ℕ)). AllBelow old.count ws) told c.loop-name.invariant.below in
    if-added c.add.result old.places.items c.add.new.self.places.items (Chooses ways) old.ranges.items c.add.new.self.ranges.items
    (λ ps rs n. (never_first : Chooser → Bool) (chooser : Chooser) → Builds never_first old.count c.args.here.number old.places.items ps old.ranges.items rs (also (GoDepending names chooser) none) c.args.exits n)
    (λ never_first chooser. subst (λ (ws : List (Option ℕ)). Builds never_first old.count c.args.here.number old.places.items (old.places.items ++ Chooses ws ∷ []) old.ranges.items old.ranges.items (also (GoDepending names chooser) none) c.args.exits (length old.places.items)) (sym ways_are)
    (build-depending never_first old.count c.args.here.number old.places.items old.ranges.items names chooser c.args.exits below))
    c.add.ensures.ranges c.add.ensures.added
