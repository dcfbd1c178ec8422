-- Senders as the code holds them, and outcomes as it answers them.
use Rattle.std.specs.Prelude.{Ok, Err}
use Rattle.cob_store.specs.Answer.{Answer}
use Rattle.cob_store.specs.Store.{Roots}
use Rattle.meanings.specs.statements.Outcome.{Outcome}
use Rattle.meanings.specs.statements.Moving as moves
use Rattle.cob_act.specs.declared.moving.Sender.{Sender}
use Rattle.cob_act.specs.declared.moving.Sender.TheVariants.{Figured, Grouped, Spelled, Written, Counted}

-- a sender, as the meaning has it
abbrev pub seen_sender : Sender → moves.Sender
seen_sender (Figured figure) = moves.Figured figure
seen_sender (Grouped bytes) = moves.Grouped bytes.now
seen_sender (Spelled bytes) = moves.Spelled bytes.now
seen_sender (Written number) = moves.Written number.now
seen_sender (Counted bytes digits number) = moves.Counted bytes.now digits number

-- a sender, or the end of the run, as the meaning has it
abbrev pub seen_sent : Answer Sender → Answer moves.Sender
seen_sent (Ok sender) = Ok (seen_sender sender)
seen_sent (Err abend) = Err abend

-- the store that is left, and the answer
abbrev pub outcome_of : {A : Type 0} → Roots → Answer A → Outcome A
outcome_of store answer = record { store = store; answer = answer }
