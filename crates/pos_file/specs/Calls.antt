-- What a file was asked, and what it answered.
use Rattle.std.specs.Prelude.{ℕ, List, [], Bool, false, ◌==◌, Option, Some, None, Result, Ok, Err}
use Rattle.std.specs.declared.fs.locks.TryLockError.{TryLockError}
use Rattle.std.specs.declared.fs.locks.TryLockError.TheVariants as lock
use Rattle.pos_file.specs.declared.history.CallKind.{CallKind}
use Rattle.pos_file.specs.declared.history.CallKind.TheVariants.{Lock, Share, Measure, Read, Write, Sync}

-- One call of a file.
pub record Call : Type 0 where
  pub kind : CallKind
  -- the place of a read or a write, and else 0
  pub at : ℕ
  -- the bytes of a write, those that the buffer of a read holds after it, and else none
  pub bytes : List ℕ
  -- how many bytes a read or a write moved, how long the file is, how many locks were given (1 or 0), and else 0;
  -- none if the call failed
  pub answer : Option ℕ

-- the call with these parts
abbrev pub call_of : CallKind → ℕ → List ℕ → Option ℕ → Call
call_of kind at bytes answer = record { kind = kind; at = at; bytes = bytes; answer = answer }

-- what a call for a lock answers: 1 if it is given, 0 if another program has it, none if the call failed
abbrev pub locks_of : Result (Unit {0}) TryLockError → Option ℕ
locks_of (Ok u) = Some 1
locks_of (Err lock.WouldBlock) = Some 0
locks_of (Err (lock.Error cause)) = None

-- the number that a call answers, none if it failed
abbrev pub number_of : {E : Type 0} → Result ℕ E → Option ℕ
number_of (Ok n) = Some n
number_of (Err cause) = None

-- 0 for a call that answers no number, none if it failed
abbrev pub done_of : {E : Type 0} → Result (Unit {0}) E → Option ℕ
done_of (Ok u) = Some 0
done_of (Err cause) = None

-- the file is asked for its lock
abbrev pub lock_call : Option ℕ → Call
lock_call answer = call_of Lock 0 [] answer

-- the file is asked for a lock for reading
abbrev pub share_call : Option ℕ → Call
share_call answer = call_of Share 0 [] answer

-- the file is asked for its length
abbrev pub measure_call : Option ℕ → Call
measure_call answer = call_of Measure 0 [] answer

-- bytes are read from a place on, and the buffer holds these then
abbrev pub read_call : ℕ → List ℕ → Option ℕ → Call
read_call at bytes answer = call_of Read at bytes answer

-- bytes are written from a place on
abbrev pub write_call : ℕ → List ℕ → Option ℕ → Call
write_call at bytes answer = call_of Write at bytes answer

-- the file is asked for a sync
abbrev pub sync_call : Option ℕ → Call
sync_call answer = call_of Sync 0 [] answer

-- as many bytes were moved as were asked for
abbrev pub is_whole : ℕ → Option ℕ → Bool
is_whole asked (Some n) = n == asked
is_whole asked None = false
