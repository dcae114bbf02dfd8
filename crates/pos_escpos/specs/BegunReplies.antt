-- How a reader keeps a reply that has begun.
use Rattle.std.specs.Prelude.{ℕ, Bool, true, false, not, List, [], ◌∷◌}
use Rattle.pos_escpos.specs.declared.begun.BegunReply.{BegunReply}
use Rattle.pos_escpos.specs.declared.begun.BegunReply.TheVariants as begun
use Rattle.pos_escpos.specs.declared.begun.ByteResult.{ByteResult}
use Rattle.pos_escpos.specs.declared.begun.ByteResult.TheVariants as next
use Rattle.pos_escpos.specs.Replies.{Reader, Step, begins_status, reads_none, reads_reply, skips_all}

-- the bytes that have come
abbrev pub bytes_begun : BegunReply → List ℕ
bytes_begun begun.Nothing = []
bytes_begun (begun.Status1 a) = a ∷ []
bytes_begun (begun.Status2 a b) = a ∷ b ∷ []
bytes_begun (begun.Status3 a b c) = a ∷ b ∷ c ∷ []
bytes_begun begun.Job1 = 55 ∷ []
bytes_begun begun.Job2 = 55 ∷ 34 ∷ []
bytes_begun (begun.Job3 a) = 55 ∷ 34 ∷ a ∷ []
bytes_begun (begun.Job4 a b) = 55 ∷ 34 ∷ a ∷ b ∷ []
bytes_begun (begun.Job5 a b c) = 55 ∷ 34 ∷ a ∷ b ∷ c ∷ []
bytes_begun (begun.Job6 a b c d) = 55 ∷ 34 ∷ a ∷ b ∷ c ∷ d ∷ []

-- an automatic status has begun with its first byte
abbrev pub is_begun : BegunReply → Bool
is_begun (begun.Status1 a) = begins_status a
is_begun (begun.Status2 a b) = begins_status a
is_begun (begun.Status3 a b c) = begins_status a
is_begun other = true

-- an automatic status has begun, or an acknowledgement
abbrev pub is_status_begun : BegunReply → Bool
is_status_begun (begun.Status1 a) = true
is_status_begun (begun.Status2 a b) = true
is_status_begun (begun.Status3 a b c) = true
is_status_begun other = false

abbrev pub is_job_begun : BegunReply → Bool
is_job_begun begun.Nothing = false
is_job_begun other = not (is_status_begun other)

-- it is kept so after the byte
abbrev pub is_begun_next : ByteResult → Bool
is_begun_next (next.More begun) = is_begun begun
is_begun_next other = true

-- what comes of a byte behind these bytes
abbrev pub step_by : List ℕ → ByteResult → Reader → Step
step_by begun (next.Whole told) reader = reads_reply 0 told reader
step_by begun (next.More more) reader = reads_none 0 (bytes_begun more) reader
step_by begun next.Broken reader = skips_all begun reader
