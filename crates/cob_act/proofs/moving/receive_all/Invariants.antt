use Rattle.std.proofs.Common.{◌≡◌, drop}
use Rattle.cob_tree.specs.declared.place.Place.{out-Place}
use Rattle.cob_store.specs.Place.{reached}
use Rattle.meanings.specs.statements.Moving.{receive}
use Rattle.meanings.specs.statements.Outcome.{each}
use Rattle.cob_act.specs.Moving.{seen_sender}
use Rattle.cob_act.proofs.moving.receive_all.Given as goal

abbrev pub invariant-loop-place : goal.invariant-loop-place
invariant-loop-place l = each (λ now place. receive l.areas (seen_sender l.sender) now (out-Place place).item (reached place)) l.store (drop l.place-index l.places) ≡ each (λ now place. receive l.areas (seen_sender l.sender) now (out-Place place).item (reached place)) l.initial.store l.places
