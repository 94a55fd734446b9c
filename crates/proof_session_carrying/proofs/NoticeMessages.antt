-- The message of a notice is read, and its note stands for the notice.
use Rattle.std.proofs.Common.{◌≡◌, ℕ, Option, Some, None, Result, Ok, Err, ap, subst, ◌∙◌}
use Rattle.collective_messages.specs.Arrivals.{ArrivalGives}
use Rattle.collective_messages.specs.Messages.{says}
use Rattle.collective_messages.specs.declared.message.CollectiveMessage.{CollectiveMessage}
use Rattle.collective_messages.specs.declared.note.Note.{Note}
use Rattle.collective_messages.specs.declared.refusal.CollectiveRefusal.{CollectiveRefusal}
use Rattle.collective_messages.specs.declared.refusal.CollectiveRefusal.TheVariants as refusals
use Rattle.payload.specs.ByteMeanings.{payload_of}
use Rattle.proof_collective_steps.proofs.Messages.{messages_arrive}
use Rattle.proof_collective_steps.specs.Counterparts.{IsSaid}
use Rattle.proof_collective_steps.specs.MessageNotes.{IsReadable}
use Rattle.proof_group_network.specs.Notices.{Notice}
use Rattle.proof_session_carrying.specs.CarryLaws.{ArrivesAs, MessagesArrive, NoticesArrive}
use Rattle.vocabulary.specs.declared.endpoint.Endpoint.{Endpoint}

-- a message that can be read becomes a note, or memory is lacking
sent_arrives : (s d : Endpoint) (sent : CollectiveMessage) (x : Notice) → s.incarnation ≡ d.incarnation →
    IsSaid s sent (d, x) → IsReadable sent.entered sent.given → (result : Result (Option Note) CollectiveRefusal) →
    ArrivalGives s sent.context sent.number (says sent) result → ArrivesAs s d x result
sent_arrives s d sent x alike said can (Ok (Some n)) gives =
    messages_arrive s d sent (d, x) n alike said can.within gives
sent_arrives s d sent x alike said can (Ok None) gives = gives.1 can.once
sent_arrives s d sent x alike said can (Err refusals.OutOfMemory) gives = tt
sent_arrives s d sent x alike said can (Err refusals.BadFrame) gives = gives can.fits
sent_arrives s d sent x alike said can (Err refusals.Blocked) gives = gives
sent_arrives s d sent x alike said can (Err refusals.NoCommunicator) gives = gives
sent_arrives s d sent x alike said can (Err refusals.Limit) gives = gives

pub brought_arrives : MessagesArrive
brought_arrives s d m x b = (b.spelled, λ result gives. sent_arrives s d m x b.alike b.said b.readable result gives)

pub notices_arrive : NoticesArrive
notices_arrive s d t m x i b = (
  i.plane,
  (
    says m,
    ap payload_of i.elements ∙ b.spelled,
    λ result gives. (brought_arrives s d m x b).1 result
        (subst (λ (c : ℕ). ArrivalGives s c m.number (says m) result) i.context
        (subst (λ (k : ℕ). ArrivalGives s t.context k (says m) result) i.number gives)),
  ),
)
