use Rattle.std.proofs.Common.{arith}
use Rattle.round_trip.proofs.spelling_lemmas.Room as room
use Rattle.round_trip.proofs.spelling.laws.terms_have_room.Goals as goal

pub returns : goal.returns
returns c = record {
  place = λ place few. room.place_room 0 place (omega (arith, few));
  operand = λ operand few. room.operand_room 1 operand (omega (arith, few));
  turns = λ operand few. room.operand_room 0 operand (omega (arith, few));
}
