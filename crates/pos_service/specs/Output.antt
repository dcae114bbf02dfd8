-- The output that a control has still to do (common chapter, asynchronous output and error handling).
use Rattle.std.specs.Prelude.{ℕ, ◌+◌, Bool, true, false, List, [], ◌∷◌, ◌++◌, Option, Some, None, drop, length, nat_lt}
use Rattle.std.specs.Prelude.{slice_get, if◌then◌else◌}
use Rattle.pos_service.specs.declared.event.ErrorReply.{ErrorReply}
use Rattle.pos_service.specs.declared.event.ErrorReply.TheVariants as reply
use Rattle.pos_service.specs.declared.event.Event.{Event}
use Rattle.pos_service.specs.declared.event.Event.TheVariants as event
use Rattle.pos_service.specs.declared.event.Locus.TheVariants as locus
use Rattle.pos_service.specs.declared.order.Order.{Order}

-- the requests with their OutputIDs, oldest first; whether the first of them has failed; and the OutputID of the next
pub record Output : Type 0 where
  pub requests : List (ℕ × Order)
  pub is_failed : Bool
  pub next : ℕ

-- no OutputID is left: this number is never given
abbrev pub last_output_id : ℕ
last_output_id = 18446744073709551615

-- there is output that is still to do
abbrev pub is_outstanding : Output → Bool
is_outstanding output = nat_lt 0 (length output.requests)

-- no output, with the OutputID that the first request gets
abbrev pub no_output : ℕ → Output
no_output next = record { requests = []; is_failed = false; next = next }

-- with a new request behind the others
abbrev pub with_request : Order → Output → Output
with_request order output =
    record output { requests = output.requests ++ (output.next, order) ∷ []; next = output.next + 1 }

-- the request that is to be done now: the first, while it has not failed
abbrev pub request_to_do : Output → Option (ℕ × Order)
request_to_do output = if output.is_failed then None else slice_get output.requests 0

-- the first request is done
abbrev pub request_done : Output → Output
request_done output = record output { requests = drop 1 output.requests }

-- the first request has failed: it stays the first
abbrev pub request_failed : Output → Output
request_failed output = record output { is_failed = true }

-- the first request is to be tried again
abbrev pub request_retried : Output → Output
request_retried output = record output { is_failed = false }

-- all requests are deleted, and the error ends. OutputIDs go on.
abbrev pub output_deleted : Output → Output
output_deleted output = record output { requests = []; is_failed = false }

-- What the application's reply does to output, when this event has been delivered: of an ErrorEvent of output the error
-- ends, and ER_CLEAR deletes all requests; with every other reply the request that has failed is to be tried again.
abbrev pub output_after : Option Event → ErrorReply → Output → Output
output_after (Some (event.Error code extended locus.Output)) reply.Clear output = output_deleted output
output_after (Some (event.Error code extended locus.Output)) other output = request_retried output
output_after delivered other output = output
