use Rattle.std.proofs.Common.{◌≡◌, ◌<◌, length, ap, subst, sym, ◌∙◌, arith}
use Rattle.std.specs.Prelude.{All}
use Rattle.std.proofs.lemmas.List.Elements.{AllWithin-more_set}
use Rattle.std.proofs.lemmas.Grind.{common_steps}
use Rattle.std.proofs.Math.Seq.{map-set_same}
use Rattle.branch_tree.specs.Tree.{seen_tree, trees_of}
use Rattle.tree_rules.specs.Rooms.{HasRoom}
use Rattle.tree_rules.proofs.RoomRows.{room_by_pick, written_back}
use Rattle.tree_rules.proofs.joining.+room.Goals as goal

pub make_room-returns-in_ok-reserve-in-Pick-clause-room : goal.make_room-returns-in_ok-reserve-in-Pick-clause-room
make_room-returns-in_ok-reserve-in-Pick-clause-room t c =
    let room = c.in_ok-reserve-in-Pick.ensures.ok in
    let kept = c.make_room_in-made.auto.arms in
    let same : c.from_vec-arms.result ≡ c.make_room_in-made.new.arms =
    written_back c.make_room_in-made.new.arms c.into_vec-arms.result.items c.from_vec-arms.result
    c.into_vec-arms.result.len c.from_vec-arms.ensures
    (omega (arith, kept, c.as_mut_slice.ensures.len)) in
    room_by_pick _ c.in-Pick.by c.from_vec-arms.result c.end_by.ensures.end (omega (arith, room))
    (subst (All HasRoom) (sym same) c.in_ok-made-in-Pick.ensures.room)

pub make_room_in-loop-at-preserved : goal.make_room_in-loop-at-preserved
make_room_in-loop-at-preserved t c =
    let arms = c.loop-at.arms in
    let at = c.loop-at.at in
    let new = c.make_room.new.tree in
    let within : at < length arms = grind (arith, common_steps) in
    record {
      same =
          map-set_same seen_tree arms at new c.index-arms-at.result c.make_room.ensures.same
          ∙ c.loop-at.invariant.same;
      room =
          AllWithin-more_set arms at new within HasRoom c.loop-at.invariant.room
          c.in_ok-make_room.ensures.room;
      unvisited = (grind (arith, common_steps), λ k d le. grind (arith, common_steps, c.loop-at.invariant.unvisited.1 k d));
    }

pub make_room_in-returns-in_err-make_room-clause-same : goal.make_room_in-returns-in_err-make_room-clause-same
make_room_in-returns-in_err-make_room-clause-same t c =
    ap trees_of
    (map-set_same seen_tree c.loop-at.arms c.loop-at.at c.make_room.new.tree c.index-arms-at.result
    c.make_room.ensures.same ∙ c.loop-at.invariant.same)
