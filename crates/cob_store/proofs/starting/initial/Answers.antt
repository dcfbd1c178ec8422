use Rattle.std.proofs.Common.{◌-◌, List, arith, ap, sym, ◌∙◌, refl, slice_get}
use Rattle.std.proofs.lemmas.Option.{slice_get_read}
use Rattle.cob_store.specs.declared.area.Area.{Area}
use Rattle.cob_store.proofs.Overlaid.{one_more, none_more}
use Rattle.cob_store.proofs.starting.initial.Goals as goal

pub loop-at-preserved-in-Some : goal.loop-at-preserved-in-Some
loop-at-preserved-in-Some c =
    record {
      within = omega arith;
      same =
          one_more c.args.entries.now c.args.areas.now.items (c.loop-at.at - 1) c.loop-at.at c.index-entries-at.result c.in-Some.area.now _ c.loop-at.store _
          (omega arith)
          (slice_get_read c.args.entries.now _ (c.loop-at.at - 1) c.index-entries-at.result refl (omega arith) c.index-entries-at.is)
          (ap (λ (areas : List Area). slice_get areas (c.loop-at.at - 1)) (sym c.as_slice-in-loop-at.ensures) ∙ sym c.in-Some.ensures)
          c.loop-at.invariant.same c.start_item.ensures;
    }

pub loop-at-preserved : goal.loop-at-preserved
loop-at-preserved c =
    record {
      within = omega arith;
      same =
          none_more c.args.entries.now c.args.areas.now.items (c.loop-at.at - 1) c.loop-at.at _ c.loop-at.store (omega arith)
          (ap (λ (areas : List Area). slice_get areas (c.loop-at.at - 1)) (sym c.as_slice-in-loop-at.ensures) ∙ sym c.in_default.ensures)
          c.loop-at.invariant.same;
    }
