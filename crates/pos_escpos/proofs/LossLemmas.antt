-- Pieces of a stream of replies, the count of its bytes, and bytes that were lost.
use Rattle.std.proofs.Common.{◌≡◌, ◌≢◌, ℕ, ◌+◌, ◌<◌, ◌≤◌, ◌/◌, ◌%◌, Bool, true, false, not, List, [], ◌∷◌, ◌++◌, length}
use Rattle.std.proofs.Common.{refl, ap, sym, ◌∙◌, length-append, arith, cond, Option, Some, None, ◌==◌, ◌||◌, ◌&&◌}
use Rattle.std.proofs.Common.{⊎_elim}
use Rattle.std.proofs.lemmas.Bool.{ne_eqb, and_parts, eqb-true, cases_Bool}
use Rattle.std.specs.List.{list_all}
use Rattle.pos_escpos.specs.declared.printer_commands.OrderStatus.{OrderStatus}
use Rattle.pos_escpos.specs.declared.printer_commands.NowStatus.{NowStatus}
use Rattle.pos_escpos.specs.declared.statuses.PrinterReply.{PrinterReply}
use Rattle.pos_escpos.specs.declared.statuses.PrinterReply.TheVariants as reply
use Rattle.pos_escpos.specs.Replies.{Reader, Reading, Step, after_step, answers_now, begins_job, begins_status}
use Rattle.pos_escpos.specs.Replies.{byte_received, bytes_of_replies, bytes_told, continued, first_received, goes_on}
use Rattle.pos_escpos.specs.Replies.{is_first, is_long_reply, is_plain, job_reply, joined, kept, later_received}
use Rattle.pos_escpos.specs.Replies.{lone_received, now_received, reading_of, reads_none, reads_reply, replies_before}
use Rattle.pos_escpos.specs.Replies.{reply_size, order_status, skips_all, whole_reply}
use Rattle.pos_escpos.proofs.ReplyLemmas.{first_step, job_character, plain_not_first, status_is_first, status_not_job}
use Rattle.pos_escpos.proofs.ReplyLemmas.{with_begun, IsCharacter}

-- a reply before two lists of replies
before_append : (told : Option PrinterReply) (xs ys : List PrinterReply)
    → replies_before told (xs ++ ys) ≡ replies_before told xs ++ ys
before_append None xs ys = refl
before_append (Some one) xs ys = refl

-- a step before two readings
after_joined : (step : Step) (x y : Reading) → after_step step (joined x y) ≡ joined (after_step step x) y
after_joined step x y = ap (λ replies. record {
  replies = replies;
  skipped = step.received.skipped + (x.skipped + y.skipped);
  reader = y.reader;
}) (before_append step.received.reply x.replies y.replies) ∙ ap (λ k. record {
  replies = replies_before step.received.reply x.replies ++ y.replies;
  skipped = k;
  reader = y.reader;
}) (omega arith)

-- a stream may come in any pieces
pub reads_pieces : (reader : Reader) (first next : List ℕ) → reading_of reader
    (first ++ next) ≡ joined (reading_of reader first) (reading_of (reading_of reader first).reader next)
reads_pieces reader [] next =
    let rest = reading_of reader next in
    ap (λ k. record { replies = rest.replies; skipped = k; reader = rest.reader }) (omega arith)
reads_pieces reader (b ∷ first) next =
    let step = byte_received reader b in
    ap (after_step step) (reads_pieces step.reader first next)
    ∙ after_joined step (reading_of step.reader first) (reading_of (reading_of step.reader first).reader next)

-- the bytes of a step behind so many: those that were none, those of its reply, and those of one that has begun
abbrev pub Accounts : ℕ → Step → Type 0
Accounts n step = step.received.skipped + bytes_told step.received.reply + length step.reader.begun ≡ n + 1

now_accounts : (asked : Option NowStatus) (begun : List ℕ) (b : ℕ) (reader : Reader)
    → Accounts (length begun) (now_received asked begun b reader)
now_accounts None begun b reader = omega arith
now_accounts (Some status) begun b reader = omega arith

first_accounts : (begun : List ℕ) (b : ℕ) (reader : Reader) → Accounts (length begun) (first_received begun b reader)
first_accounts begun b reader = elim (begins_status b || begins_job b) as
    (λ starts. Accounts (length begun) (cond starts (reads_none (length begun) (b ∷ []) reader)
    (cond (answers_now b) (now_received reader.asked_now begun b reader) (skips_all begun reader)))) [
      | true ↦ omega arith
      | false ↦ elim (answers_now b) as (λ answers. Accounts (length begun)
          (cond answers (now_received reader.asked_now begun b reader) (skips_all begun reader))) [
            | true ↦ now_accounts reader.asked_now begun b reader
            | false ↦ omega arith
          ]
    ]

-- four bytes are a whole reply of four, seven one of seven
four_told : (bytes : List ℕ) → length bytes ≡ 4 → bytes_told (whole_reply bytes) ≡ 4
four_told [] is = omega arith
four_told (a ∷ []) is = omega arith
four_told (a ∷ b ∷ []) is = omega arith
four_told (a ∷ b ∷ c ∷ []) is = omega arith
four_told (a ∷ b ∷ c ∷ d ∷ []) is = refl
four_told (a ∷ b ∷ c ∷ d ∷ e ∷ more) is = let bad : ⊥ = omega arith in absurd bad

seven_told : (bytes : List ℕ) → length bytes ≡ 7 → bytes_told (whole_reply bytes) ≡ 7
seven_told [] is = omega arith
seven_told (a ∷ []) is = omega arith
seven_told (a ∷ b ∷ []) is = omega arith
seven_told (a ∷ b ∷ c ∷ []) is = omega arith
seven_told (a ∷ b ∷ c ∷ d ∷ []) is = let bad : ⊥ = omega arith in absurd bad
seven_told (a ∷ b ∷ c ∷ d ∷ e ∷ []) is = omega arith
seven_told (a ∷ b ∷ c ∷ d ∷ e ∷ f ∷ []) is = omega arith
seven_told (a ∷ b ∷ c ∷ d ∷ e ∷ f ∷ g ∷ []) is = refl
seven_told (a ∷ b ∷ c ∷ d ∷ e ∷ f ∷ g ∷ h ∷ more) is = let bad : ⊥ = omega arith in absurd bad

size_told : (first : ℕ) (bytes : List ℕ) → length bytes ≡ reply_size first
    → bytes_told (whole_reply bytes) ≡ length bytes
size_told first bytes = elim (begins_job first) as
    (λ is_job. length bytes ≡ cond is_job 7 4 → bytes_told (whole_reply bytes) ≡ length bytes) [
      | true ↦ (λ is. seven_told bytes is ∙ sym is)
      | false ↦ (λ is. four_told bytes is ∙ sym is)
    ]

continued_accounts : (begun : List ℕ) (first b : ℕ) (reader : Reader)
    → Accounts (length begun) (continued begun first b reader)
continued_accounts begun first b reader = ⊎_elim (λ (whole : (length begun + 1 == reply_size first) ≡ true).
    let size =
    size_told first (begun ++ b ∷ []) (simp length-append (eqb-true (length begun + 1) (reply_size first) whole)) in
    rw whole (omega (arith, size, length-append begun (b ∷ []))))
    (λ (more : (length begun + 1 == reply_size first) ≡ false). rw more (omega (arith, length-append begun (b ∷ []))))
    (cases_Bool (length begun + 1 == reply_size first))

lone_accounts : (asked : Option OrderStatus) (b : ℕ) (reader : Reader) → Accounts 0 (lone_received asked b reader)
lone_accounts None b reader = refl
lone_accounts (Some status) b reader = elim (is_plain b) as (λ plain. Accounts 0 (cond plain (reads_reply 0
    (reply.InOrder status (order_status status b)) (record reader { asked_in_order = None })) (skips_all [] reader))) [
      | true ↦ refl
      | false ↦ refl
    ]

later_accounts : (begun : List ℕ) (b : ℕ) (reader : Reader) → Accounts (length begun) (later_received begun b reader)
later_accounts [] b reader = lone_accounts reader.asked_in_order b reader
later_accounts (first ∷ more) b reader =
    elim (goes_on first (length (first ∷ more)) b) as (λ goes. Accounts (length (first ∷ more))
    (cond goes (continued (first ∷ more) first b reader) (skips_all (first ∷ more) reader))) [
      | true ↦ continued_accounts (first ∷ more) first b reader
      | false ↦ omega arith
    ]

-- each byte is of a reply, or of none, or of one that has begun
pub byte_accounts : (reader : Reader) (b : ℕ) → Accounts (length reader.begun) (byte_received reader b)
byte_accounts reader b = elim (is_first b) as (λ first. Accounts (length reader.begun)
    (cond first (first_received reader.begun b reader) (later_received reader.begun b reader))) [
      | true ↦ first_accounts reader.begun b reader
      | false ↦ later_accounts reader.begun b reader
    ]

before_bytes : (told : Option PrinterReply) (replies : List PrinterReply)
    → bytes_of_replies (replies_before told replies) ≡ bytes_told told + bytes_of_replies replies
before_bytes None replies = omega arith
before_bytes (Some one) replies = refl

pub counts_all : (reader : Reader) (bytes : List ℕ)
    → (reading_of reader bytes).skipped + bytes_of_replies (reading_of reader bytes).replies
    + length (reading_of reader bytes).reader.begun ≡ length reader.begun + length bytes
counts_all reader [] = omega arith
counts_all reader (b ∷ bytes) =
    let step = byte_received reader b in
    omega (
      arith,
      byte_accounts reader b,
      counts_all step.reader bytes,
      before_bytes step.received.reply (reading_of step.reader bytes).replies,
    )

-- Bytes that were lost.

-- bytes that begin no reply
abbrev pub none_first : List ℕ → Bool
none_first bytes = list_all (λ b. not (is_first b)) bytes

-- too few bytes to end what has begun
abbrev pub IsShort : List ℕ → List ℕ → Type 0
IsShort [] bytes = Unit {0}
IsShort (first ∷ more) bytes = length (first ∷ more) + length bytes < reply_size first

not_first : (b : ℕ) → not (is_first b) ≡ true → is_first b ≡ false
not_first b h = elim (is_first b) as (λ t. not t ≡ true → t ≡ false) [ true ↦ (λ bad. sym bad) | false ↦ (λ _. refl) ] h

-- no reply comes of bytes that begin none and are too few to end what has begun
no_reply : (begun : List ℕ) (reader : Reader) (bytes : List ℕ) → reader.asked_in_order ≡ None → none_first bytes ≡ true
    → IsShort begun bytes → (reading_of (with_begun begun reader) bytes).replies ≡ []
no_reply begun reader [] none firsts short = refl
no_reply [] reader (b ∷ bytes) none firsts short =
    let parts = and_parts (not (is_first b)) (none_first bytes) firsts in
    ap (λ r. r.replies) (first_step (with_begun [] reader) b bytes (reads_none 1 [] reader)
    (rw (not_first b parts.0, none) refl)) ∙ no_reply [] reader bytes none parts.1 tt
no_reply (first ∷ more) reader (b ∷ bytes) none firsts short =
    let parts = and_parts (not (is_first b)) (none_first bytes) firsts in
    let begun = first ∷ more in
    ⊎_elim
    (λ (goes : goes_on first (length begun) b ≡ true). ap (λ r. r.replies) (first_step (with_begun begun reader) b bytes
    (reads_none 0 (begun ++ b ∷ []) reader) (rw (
      not_first b parts.0,
      goes,
      ne_eqb (length begun + 1) (reply_size first) (λ e. omega arith),
    ) refl)) ∙ no_reply (begun ++ b ∷ []) reader bytes none parts.1 (omega (arith, length-append more (b ∷ []))))
    (λ (ends : goes_on first (length begun) b ≡ false). ap (λ r. r.replies)
    (first_step (with_begun begun reader) b bytes (reads_none (length begun + 1) [] reader)
    (rw (not_first b parts.0, ends) refl)) ∙ no_reply [] reader bytes none parts.1 tt)
    (cases_Bool (goes_on first (length begun) b))

-- what comes of bytes is no more than they are
kept_le : (which : List Bool) (bytes : List ℕ) → length (kept which bytes) ≤ length bytes
kept_le [] bytes = omega arith
kept_le (here ∷ which) [] = omega arith
kept_le (true ∷ which) (b ∷ bytes) = omega (arith, kept_le which bytes)
kept_le (false ∷ which) (b ∷ bytes) = omega (arith, kept_le which bytes)

kept_none_first : (which : List Bool) (bytes : List ℕ) → none_first bytes ≡ true → none_first (kept which bytes) ≡ true
kept_none_first [] bytes h = refl
kept_none_first (here ∷ which) [] h = refl
kept_none_first (true ∷ which) (b ∷ bytes) h =
    let parts = and_parts (not (is_first b)) (none_first bytes) h in
    rw (parts.0, kept_none_first which bytes parts.1) refl
kept_none_first (false ∷ which) (b ∷ bytes) h =
    kept_none_first which bytes (and_parts (not (is_first b)) (none_first bytes) h).1

-- what begins a long reply is a first byte
long_first : (b : ℕ) → (begins_status b || begins_job b) ≡ true → is_first b ≡ true
long_first b h = ⊎_elim (λ (status : begins_status b ≡ true). status_is_first b status)
    (λ (other : begins_status b ≡ false).
    let job : begins_job b ≡ true = rw other at h in
    let is : b ≡ 55 = eqb-true b 55 job in
    rw is refl) (cases_Bool (begins_status b))

-- no reply comes of a long reply of which bytes were lost, but not its first, whatever had begun before it
pub begun_gives_none : (reader : Reader) (sent : List ℕ) (which : List Bool) → reader.asked_in_order ≡ None
    → is_long_reply sent ≡ true → length (kept (true ∷ which) sent) ≢ length sent
    → (reading_of reader (kept (true ∷ which) sent)).replies ≡ []
begun_gives_none reader [] which none long lost = refl
begun_gives_none reader (first ∷ more) which none long lost =
    let parts = and_parts ((begins_status first || begins_job first) && length more + 1 == reply_size first)
    (none_first more) long in
    let ends = and_parts (begins_status first || begins_job first) (length more + 1 == reply_size first) parts.0 in
    let size = eqb-true (length more + 1) (reply_size first) ends.1 in
    ap (λ r. r.replies) (first_step reader first (kept which more) (reads_none (length reader.begun) (first ∷ [])
    reader) (rw (long_first first ends.0, ends.0) refl)) ∙ no_reply (first ∷ []) reader (kept which more) none
    (kept_none_first which more parts.1) (omega (arith, kept_le which more))

-- no reply comes of a long reply of which bytes were lost
pub lost_gives_none : (reader : Reader) (sent : List ℕ) (which : List Bool) → reader.asked_in_order ≡ None
    → reader.begun ≡ [] → is_long_reply sent ≡ true → length (kept which sent) ≢ length sent
    → (reading_of reader (kept which sent)).replies ≡ []
lost_gives_none reader [] [] none idle long lost = refl
lost_gives_none reader [] (here ∷ which) none idle long lost = refl
lost_gives_none reader (first ∷ more) [] none idle long lost = refl
lost_gives_none reader (first ∷ more) (true ∷ which) none idle long lost =
    begun_gives_none reader (first ∷ more) which none long lost
lost_gives_none reader (first ∷ more) (false ∷ which) none idle long lost =
    let parts = and_parts ((begins_status first || begins_job first) && length more + 1 == reply_size first)
    (none_first more) long in
    ap (λ begun. (reading_of (with_begun begun reader) (kept which more)).replies) idle
    ∙ no_reply [] reader (kept which more) none (kept_none_first which more parts.1) tt

-- the bytes of an acknowledgement and of an automatic status are such
pub job_is_long : (number : ℕ) → number < 65536 → is_long_reply (job_reply number) ≡ true
unfolding IsCharacter
job_is_long number less = rw (
  (job_character (number / 4096) (omega arith)).0,
  (job_character (number / 256 % 16) (omega arith)).0,
  (job_character (number / 16 % 16) (omega arith)).0,
  (job_character (number % 16) (omega arith)).0,
) refl

pub status_is_long : (a b c d : ℕ) → begins_status a ≡ true → is_plain b ≡ true → is_plain c ≡ true → is_plain d ≡ true
    → is_long_reply (a ∷ b ∷ c ∷ d ∷ []) ≡ true
status_is_long a b c d begins second third fourth = rw (
  begins,
  status_not_job a begins,
  plain_not_first b second,
  plain_not_first c third,
  plain_not_first d fourth,
) refl
