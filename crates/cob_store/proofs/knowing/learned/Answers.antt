use Rattle.std.proofs.Common.{rules, ◌≡◌, ◌∙◌, Some, slice_get, sym}
use Rattle.cob_tree.specs.declared.place.Place.{out-Place}
use Rattle.cob_store.specs.ConstantPlace.{IsOf}
use Rattle.cob_store.specs.Place.{memory_of, spot_of}
use Rattle.cob_store.proofs.KnownLemmas.{learned_of}
use Rattle.cob_store.proofs.knowing.learned.Goals as goal

pub returns : goal.returns
returns c =
    let lies : slice_get c.args.areas.now (out-Place c.args.place.now).item ≡ Some c.in_ok-area.area.now = search rules in
    let same : IsOf c.in_ok-known.known (spot_of c.in_ok-area.area.now c.in_ok-area.area.now.start) c.args.place.now = search rules in
    learned_of c.args.place.now c.in_ok-area.area.now (memory_of c.args.areas.now c.args.store.now) c.in_ok-known.known c.in-Ok.reached lies same (sym c.reached.ensures ∙ c.in-Ok.is)
