-- What the core of a rank is asked, and what it answers: the words in which contracts speak of all its calls at once.
use Rattle.std.specs.Prelude.{List, Option}
use Rattle.point_to_point_calls.specs.declared.call.RoutedProbe.{RoutedProbe}
use Rattle.point_to_point_calls.specs.declared.call.RoutedReceive.{RoutedReceive}
use Rattle.point_to_point_calls.specs.declared.call.RoutedSend.{RoutedSend}
use Rattle.point_to_point_calls.specs.declared.refusal.Refusal.{Refusal}
use Rattle.requests.specs.declared.answer.Answer.{Answer}
use Rattle.requests.specs.declared.region.Region.{Region}
use Rattle.requests.specs.declared.table.Request.{Request}
use Rattle.vocabulary.specs.declared.envelope.Status.{Status}

-- What a core is asked by a call of point to point, or on requests. Where a request is named, none is the null request
pub data RoutedCall : Type 0 where
  -- starts a send, or a receive
  Isend : RoutedSend → RoutedCall
  Irecv : RoutedReceive → RoutedCall
  -- waits until the request is finished, and ends it; or ends it, if it is (MPI 3.1, 3.7.3)
  Wait : Option Request → RoutedCall
  Test : Option Request → RoutedCall
  -- waits until one request of the list is finished, and ends the first that is; or until each is, and ends all (3.7.5)
  Waitany : List (Option Request) → RoutedCall
  Waitall : List (Option Request) → RoutedCall
  -- ends a receive that waits as cancelled; one that was matched goes on (3.8.4)
  Cancel : Option Request → RoutedCall
  -- takes a message out of matching that such a receive would take, if there is one (3.8.2)
  Improbe : RoutedProbe → RoutedCall
  -- receives a message that was taken out; none is that of the null process (3.8.3)
  Mrecv : Option Request → Region → RoutedCall

-- What it answers
pub data CoreReply : Type 0 where
  -- the operation is started under this request
  Started : Request → CoreReply
  -- what was asked for is finished, and ended so
  Done : Answer → CoreReply
  -- the request of a test is unfinished
  Pending : CoreReply
  -- the cancel was taken
  Accepted : CoreReply
  -- what a matching probe found: the message, or that of the null process, which is none, with its status (3.8.2)
  Matched : Option (Option Request × Status) → CoreReply
  -- the answer is not ready: it is handed out once, as the completion of the event in which it is
  Blocked : CoreReply
  -- the call broke this rule, or met a limit or want of memory: it is handed back, and nothing changed
  Refused : Refusal → RoutedCall → CoreReply
