-- How a stream of replies is read.
use Rattle.std.proofs.Common.{◌≡◌, ℕ, ◌+◌, ◌/◌, ◌%◌, ◌<◌, true, false, List, [], ◌∷◌, length, refl, ap, sym, ◌∙◌, arith}
use Rattle.std.proofs.Common.{subst, Some, None, bit_and}
use Rattle.std.proofs.lemmas.Bool.{ne_eqb, eqb-true, le-leb}
use Rattle.std.proofs.lemmas.Nat.{and_assoc}
use Rattle.std.proofs.lemmas.Nat.Bits.{and_pow}
use Rattle.pos_escpos.specs.declared.printer_commands.NowStatus.{NowStatus}
use Rattle.pos_escpos.specs.declared.printer_commands.OrderStatus.{OrderStatus}
use Rattle.pos_escpos.specs.declared.statuses.PrinterReply.{PrinterReply}
use Rattle.pos_escpos.specs.declared.statuses.PrinterReply.TheVariants as reply
use Rattle.pos_escpos.specs.Replies.{Reader, ReadsOne, Step, after_step, answers_now, automatic_status, begins_job}
use Rattle.pos_escpos.specs.Replies.{begins_status, byte_received, is_first, is_job_character, is_plain, job_number}
use Rattle.pos_escpos.specs.Replies.{job_reply, now_status, order_status, reading_of, reads_none, reads_reply}

-- the same bit 4, seen through a mask that has it
seen_through : (mask value b : ℕ) → bit_and mask 16 ≡ 16 → bit_and b mask ≡ value → bit_and b 16 ≡ bit_and value 16
seen_through mask value b has is = sym (ap (bit_and b) has) ∙ sym (and_assoc 16 b mask) ∙ ap (λ v. bit_and v 16) is

pub status_is_first : (b : ℕ) → begins_status b ≡ true → is_first b ≡ true
status_is_first b begins = rw (seen_through 147 16 b refl (eqb-true (bit_and b 147) 16 begins)) refl

pub now_is_first : (b : ℕ) → answers_now b ≡ true → is_first b ≡ true
now_is_first b answers = rw (seen_through 147 18 b refl (eqb-true (bit_and b 147) 18 answers)) refl

pub plain_not_first : (b : ℕ) → is_plain b ≡ true → is_first b ≡ false
plain_not_first b plain = rw (seen_through 144 0 b refl (eqb-true (bit_and b 144) 0 plain)) refl

-- no byte begins two replies
pub status_not_job : (b : ℕ) → begins_status b ≡ true → begins_job b ≡ false
status_not_job b begins = ne_eqb b 55 (λ e.
    let bad : bit_and 55 147 ≡ 16 = subst (λ (n : ℕ). bit_and n 147 ≡ 16) e (eqb-true (bit_and b 147) 16 begins) in
    omega arith)

now_not_job : (b : ℕ) → answers_now b ≡ true → begins_job b ≡ false
now_not_job b answers = ne_eqb b 55 (λ e.
    let bad : bit_and 55 147 ≡ 18 = subst (λ (n : ℕ). bit_and n 147 ≡ 18) e (eqb-true (bit_and b 147) 18 answers) in
    omega arith)

now_not_status : (b : ℕ) → answers_now b ≡ true → begins_status b ≡ false
now_not_status b answers = ne_eqb (bit_and b 147) 16 (λ e.
    let other : bit_and b 147 ≡ 18 = eqb-true (bit_and b 147) 18 answers in
    omega arith)

-- a reading by its first step
pub first_step : (reader : Reader) (b : ℕ) (bytes : List ℕ) (step : Step) → byte_received reader b ≡ step
    → reading_of reader (b ∷ bytes) ≡ after_step step (reading_of step.reader bytes)
first_step reader b bytes step is = ap (λ (s : Step). after_step s (reading_of s.reader bytes)) is

-- a reader with these bytes begun
abbrev pub with_begun : List ℕ → Reader → Reader
with_begun begun reader = record reader { begun = begun }

pub status_begins : (reader : Reader) (a : ℕ) → begins_status a ≡ true
    → byte_received reader a ≡ reads_none (length reader.begun) (a ∷ []) reader
status_begins reader a begins = rw (status_is_first a begins, begins) refl

status_second : (reader : Reader) (a b : ℕ) → begins_status a ≡ true → is_plain b ≡ true
    → byte_received (with_begun (a ∷ []) reader) b ≡ reads_none 0 (a ∷ b ∷ []) reader
status_second reader a b begins plain = rw (plain_not_first b plain, status_not_job a begins, plain) refl

status_third : (reader : Reader) (a b c : ℕ) → begins_status a ≡ true → is_plain c ≡ true
    → byte_received (with_begun (a ∷ b ∷ []) reader) c ≡ reads_none 0 (a ∷ b ∷ c ∷ []) reader
status_third reader a b c begins plain = rw (plain_not_first c plain, status_not_job a begins, plain) refl

status_fourth : (reader : Reader) (a b c d : ℕ) → begins_status a ≡ true → is_plain d ≡ true
    → byte_received (with_begun (a ∷ b ∷ c ∷ []) reader) d ≡ reads_reply 0
    (reply.Automatic (automatic_status a b c)) reader
status_fourth reader a b c d begins plain = rw (plain_not_first d plain, status_not_job a begins, plain) refl

-- one reply behind so many bytes that were none
one_reply : (reader next : Reader) (told : PrinterReply) {skipped : ℕ} → skipped ≡ length reader.begun
    → ReadsOne reader told next (record { replies = told ∷ []; skipped = skipped; reader = with_begun [] next })
one_reply reader next told {skipped} is =
    ap (λ k. record { replies = told ∷ []; skipped = k; reader = with_begun [] next }) is

-- a whole automatic status is read
pub reads_automatic : (reader : Reader) (a b c d : ℕ) → begins_status a ≡ true → is_plain b ≡ true → is_plain c ≡ true
    → is_plain d ≡ true
    → ReadsOne reader (reply.Automatic (automatic_status a b c)) reader (reading_of reader (a ∷ b ∷ c ∷ d ∷ []))
reads_automatic reader a b c d begins second third fourth =
    let told = reply.Automatic (automatic_status a b c) in
    let one = reads_none (length reader.begun) (a ∷ []) reader in
    let two = reads_none 0 (a ∷ b ∷ []) reader in
    let three = reads_none 0 (a ∷ b ∷ c ∷ []) reader in
    first_step reader a (b ∷ c ∷ d ∷ []) one (status_begins reader a begins) ∙ ap (after_step one)
    (first_step (with_begun (a ∷ []) reader) b (c ∷ d ∷ []) two (status_second reader a b begins second) ∙ ap
    (after_step two) (first_step (with_begun (a ∷ b ∷ []) reader) c (d ∷ []) three
    (status_third reader a b c begins third) ∙ ap (after_step three) (first_step (with_begun (a ∷ b ∷ c ∷ []) reader) d
    [] (reads_reply 0 told reader) (status_fourth reader a b c d begins fourth)))) ∙ one_reply reader reader told
    (omega arith)

-- a reply to DLE EOT is read, where one was asked for
pub reads_now : (reader : Reader) (asked : NowStatus) (b : ℕ) → reader.asked_now ≡ Some asked → answers_now b ≡ true
    → ReadsOne reader (reply.Now asked (now_status asked b)) (record reader { asked_now = None })
    (reading_of reader (b ∷ []))
reads_now reader asked b is answers =
    let told = reply.Now asked (now_status asked b) in
    let next = record reader { asked_now = None } in
    first_step reader b [] (reads_reply (length reader.begun) told next)
    (rw (now_is_first b answers, now_not_status b answers, now_not_job b answers, answers, is) refl)
    ∙ one_reply reader next told (omega arith)

-- a reply to GS r is read, where one was asked for
pub reads_in_order : (reader : Reader) (asked : OrderStatus) (b : ℕ) → reader.asked_in_order ≡ Some asked
    → reader.begun ≡ [] → is_plain b ≡ true → ReadsOne reader (reply.InOrder asked (order_status asked b))
    (record reader { asked_in_order = None }) (reading_of reader (b ∷ []))
reads_in_order reader asked b is none plain =
    let told = reply.InOrder asked (order_status asked b) in
    let next = record reader { asked_in_order = None } in
    first_step reader b [] (reads_reply 0 told next) (rw (plain_not_first b plain, none, is, plain) refl)
    ∙ one_reply reader next told (rw none refl)

-- a character of a job's number: it begins no reply
unfoldable pub IsCharacter : ℕ → Type 0
IsCharacter b = (is_first b ≡ false) × (is_job_character b ≡ true)

pub job_character : (x : ℕ) → x < 16 → IsCharacter (64 + x)
unfolding IsCharacter
job_character x less =
    let no_bit : bit_and (64 + x) 16 ≡ 0 = and_pow (64 + x) 4 ∙ omega arith in
    (rw no_bit refl, rw (le-leb 64 (64 + x) (omega arith), le-leb (64 + x) 79 (omega arith)) refl)

-- a whole acknowledgement is read
reads_characters : (reader : Reader) (a b c d : ℕ) → IsCharacter a → IsCharacter b → IsCharacter c → IsCharacter d
    → ReadsOne reader (reply.JobDone (job_number a b c d)) reader (reading_of reader (55 ∷ 34 ∷ a ∷ b ∷ c ∷ d ∷ 0 ∷ []))
unfolding IsCharacter
reads_characters reader a b c d first second third fourth =
    let told = reply.JobDone (job_number a b c d) in
    let one = reads_none (length reader.begun) (55 ∷ []) reader in
    let two = reads_none 0 (55 ∷ 34 ∷ []) reader in
    let three = reads_none 0 (55 ∷ 34 ∷ a ∷ []) reader in
    let four = reads_none 0 (55 ∷ 34 ∷ a ∷ b ∷ []) reader in
    let five = reads_none 0 (55 ∷ 34 ∷ a ∷ b ∷ c ∷ []) reader in
    let six = reads_none 0 (55 ∷ 34 ∷ a ∷ b ∷ c ∷ d ∷ []) reader in
    ap (after_step one) (ap (after_step two) (first_step (with_begun (55 ∷ 34 ∷ []) reader) a (b ∷ c ∷ d ∷ 0 ∷ []) three
    (rw (first.0, first.1) refl) ∙ ap (after_step three) (first_step (with_begun (55 ∷ 34 ∷ a ∷ []) reader) b
    (c ∷ d ∷ 0 ∷ []) four (rw (second.0, second.1) refl) ∙ ap (after_step four)
    (first_step (with_begun (55 ∷ 34 ∷ a ∷ b ∷ []) reader) c (d ∷ 0 ∷ []) five (rw (third.0, third.1) refl) ∙ ap
    (after_step five) (first_step (with_begun (55 ∷ 34 ∷ a ∷ b ∷ c ∷ []) reader) d (0 ∷ []) six
    (rw (fourth.0, fourth.1) refl)))))) ∙ one_reply reader reader told (omega arith)

pub reads_job : (reader : Reader) (number : ℕ) → number < 65536
    → ReadsOne reader (reply.JobDone number) reader (reading_of reader (job_reply number))
reads_job reader number less =
    let same : job_number (64 + number / 4096) (64 + number / 256 % 16) (64 + number / 16 % 16) (64 + number % 16)
    ≡ number = omega arith in
    reads_characters reader (64 + number / 4096) (64 + number / 256 % 16) (64 + number / 16 % 16) (64 + number % 16)
    (job_character (number / 4096) (omega arith)) (job_character (number / 256 % 16) (omega arith))
    (job_character (number / 16 % 16) (omega arith)) (job_character (number % 16) (omega arith)) ∙ ap
    (λ n. record { replies = reply.JobDone n ∷ []; skipped = length reader.begun; reader = with_begun [] reader }) same
