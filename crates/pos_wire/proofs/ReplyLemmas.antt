-- How the first reply is read.
use Rattle.std.proofs.Common.{◌≡◌, ℕ, ◌+◌, ◌<◌, true, false, List, [], ◌∷◌, ◌++◌, length, take, drop, get_or, refl, ap}
use Rattle.std.proofs.Common.{sym, ◌∙◌, length-append, arith, subst, Option, Some, None, ◌||◌, ◌==◌, inl, inr, ⊎_elim}
use Rattle.std.proofs.Common.{◌⊎◌}
use Rattle.std.proofs.lemmas.Bool.{cases_Bool}
use Rattle.std.proofs.lemmas.List.{drop-append-le, drop-drop, drop_all, length-take-le, take-append-drop, take-take}
use Rattle.std.proofs.lemmas.List.{take_more}
use Rattle.std.proofs.Math.Seq.{drop-append_seam}
use Rattle.pos_escpos.specs.declared.printer_commands.NowStatus.{NowStatus}
use Rattle.pos_escpos.specs.declared.printer_commands.OrderStatus.{OrderStatus}
use Rattle.pos_escpos.specs.declared.statuses.PrinterReply.{PrinterReply}
use Rattle.pos_escpos.specs.declared.statuses.PrinterReply.TheVariants as reply
use Rattle.pos_escpos.specs.declared.statuses.Received.{Received}
use Rattle.pos_escpos.specs.Replies.{Reader, Reading, Step, after_step, answers_now, begins_job, begins_status}
use Rattle.pos_escpos.specs.Replies.{byte_received, bytes_told, continued, first_received, goes_on, idle, is_first}
use Rattle.pos_escpos.specs.Replies.{is_plain, joined, later_received, lone_received, now_received, order_status}
use Rattle.pos_escpos.specs.Replies.{reading_of, reads_none, reads_reply, replies_before, reply_size, skips_all}
use Rattle.pos_escpos.specs.Replies.{step_of, whole_reply}
use Rattle.pos_wire.specs.declared.replies.AwaitedReply.{AwaitedReply}
use Rattle.pos_wire.specs.declared.replies.AwaitedReply.TheVariants as asked
use Rattle.pos_wire.specs.declared.replies.ReplyRead.{ReplyRead}
use Rattle.pos_wire.specs.Replies.{EndsWith, reader_of}

-- a reading with no reply
abbrev pub quiet : ℕ → Reader → Reading
quiet skipped reader = record { replies = []; skipped = skipped; reader = reader }

-- a stream may come in any pieces
abbrev pub Pieces : Type 0
Pieces = (reader : Reader) (first next : List ℕ) → reading_of reader (first ++ next)
    ≡ joined (reading_of reader first) (reading_of (reading_of reader first).reader next)

-- what comes of a byte behind what has begun: a reply, with none begun behind it; or all is none; or the byte begins a
-- reply, and what had begun is none; or it goes on what has begun
abbrev Comes : List ℕ → Reader → ℕ → Step → Type 0
Comes begun reader b step = ((step.received.reply ≡ None → ⊥) × (step.reader.begun ≡ []))
    ⊎ ((step ≡ skips_all begun reader) ⊎ (((step ≡ reads_none (length begun) (b ∷ []) reader)
    × (byte_received (idle reader) b ≡ reads_none 0 (b ∷ []) reader)) ⊎ (step ≡ reads_none 0 (begun ++ b ∷ []) reader)))

-- the bytes of a step are counted
abbrev pub Counts : List ℕ → Step → Type 0
Counts begun step = step.received.skipped + bytes_told step.received.reply + length step.reader.begun ≡ length begun + 1

some_reply : {told : PrinterReply} → Some told ≡ None → ⊥
some_reply is = grind arith

now_comes : (asked : Option NowStatus) (begun : List ℕ) (b : ℕ) (reader : Reader)
    → Comes begun reader b (now_received asked begun b reader)
now_comes None begun b reader = inr (inl refl)
now_comes (Some status) begun b reader = inl ((λ none. some_reply none), refl)

lone_comes : (asked : Option OrderStatus) (b : ℕ) (reader : Reader) → Comes [] reader b (lone_received asked b reader)
lone_comes None b reader = inr (inl refl)
lone_comes (Some status) b reader = ⊎_elim (λ (plain : is_plain b ≡ true).
    let is : lone_received (Some status) b reader ≡ reads_reply 0 (reply.InOrder status (order_status status b))
    (record reader { asked_in_order = None }) = rw plain refl in
    subst (λ (step : Step). Comes [] reader b step) (sym is) (inl ((λ none. some_reply none), refl)))
    (λ (other : is_plain b ≡ false).
    let is : lone_received (Some status) b reader ≡ skips_all [] reader = rw other refl in
    subst (λ (step : Step). Comes [] reader b step) (sym is) (inr (inl refl))) (cases_Bool (is_plain b))

continued_comes : (begun : List ℕ) (first : ℕ) {b : ℕ} (reader : Reader) → Counts begun (continued begun first b reader)
    → Comes begun reader b (continued begun first b reader)
continued_comes begun first {b} reader count = ⊎_elim (λ (whole : (length begun + 1 == reply_size first) ≡ true).
    let told = whole_reply (begun ++ b ∷ []) in
    let end = step_of (record { skipped = 0; reply = told }) (idle reader) in
    let is : continued begun first b reader ≡ end = rw whole refl in
    let counted : Counts begun end = subst (λ (step : Step). Counts begun step) is count in
    let ends : Comes begun reader b end =
    inl ((λ none. let zero : bytes_told told ≡ 0 = ap bytes_told none in omega (arith, counted, zero)), refl) in
    subst (λ (step : Step). Comes begun reader b step) (sym is) ends)
    (λ (more : (length begun + 1 == reply_size first) ≡ false).
    let is : continued begun first b reader ≡ reads_none 0 (begun ++ b ∷ []) reader = rw more refl in
    inr (inr (inr is))) (cases_Bool (length begun + 1 == reply_size first))

later_comes : (begun : List ℕ) {b : ℕ} (reader : Reader) → Counts begun (later_received begun b reader)
    → Comes begun reader b (later_received begun b reader)
later_comes [] {b} reader count = lone_comes reader.asked_in_order b reader
later_comes (first ∷ more) {b} reader count = ⊎_elim (λ (goes : goes_on first (length (first ∷ more)) b ≡ true).
    let is : later_received (first ∷ more) b reader ≡ continued (first ∷ more) first b reader = rw goes refl in
    let counted : Counts (first ∷ more) (continued (first ∷ more) first b reader) =
    subst (λ (step : Step). Counts (first ∷ more) step) is count in
    subst (λ (step : Step). Comes (first ∷ more) reader b step) (sym is)
    (continued_comes (first ∷ more) first reader counted))
    (λ (stops : goes_on first (length (first ∷ more)) b ≡ false).
    let is : later_received (first ∷ more) b reader ≡ skips_all (first ∷ more) reader = rw stops refl in
    inr (inl is)) (cases_Bool (goes_on first (length (first ∷ more)) b))

-- a byte that begins a reply
begins : {b : ℕ} (reader : Reader) → is_first b ≡ true → (begins_status b || begins_job b) ≡ true
    → byte_received (idle reader) b ≡ reads_none 0 (b ∷ []) reader
begins reader first starts = rw (first, starts) refl

first_comes : {b : ℕ} (reader : Reader) → is_first b ≡ true
    → Comes reader.begun reader b (first_received reader.begun b reader)
first_comes {b} reader first = ⊎_elim (λ (starts : (begins_status b || begins_job b) ≡ true).
    let is : first_received reader.begun b reader ≡ reads_none (length reader.begun) (b ∷ []) reader = rw starts refl in
    inr (inr (inl (is, begins reader first starts))))
    (λ (other : (begins_status b || begins_job b) ≡ false). ⊎_elim
    (λ (answers : answers_now b ≡ true).
    let is : first_received reader.begun b reader ≡ now_received reader.asked_now reader.begun b reader =
    rw (other, answers) refl in
    subst (λ (step : Step). Comes reader.begun reader b step) (sym is)
    (now_comes reader.asked_now reader.begun b reader))
    (λ (none : answers_now b ≡ false).
    let is : first_received reader.begun b reader ≡ skips_all reader.begun reader = rw (other, none) refl in
    inr (inl is)) (cases_Bool (answers_now b))) (cases_Bool (begins_status b || begins_job b))

byte_comes : (reader : Reader) {b : ℕ} → Counts reader.begun (byte_received reader b)
    → Comes reader.begun reader b (byte_received reader b)
byte_comes reader {b} count = ⊎_elim (λ (first : is_first b ≡ true).
    let is : byte_received reader b ≡ first_received reader.begun b reader = rw first refl in
    subst (λ (step : Step). Comes reader.begun reader b step) (sym is) (first_comes reader first))
    (λ (other : is_first b ≡ false).
    let is : byte_received reader b ≡ later_received reader.begun b reader = rw other refl in
    let counted : Counts reader.begun (later_received reader.begun b reader) =
    subst (λ (step : Step). Counts reader.begun step) is count in
    subst (λ (step : Step). Comes reader.begun reader b step) (sym is) (later_comes reader.begun reader counted))
    (cases_Bool (is_first b))

-- Where no reply has come: what has begun is read again, and it is what was not skipped.
record After (reader : Reader) (b : ℕ) (step : Step) : Type 0 where
  same : idle step.reader ≡ idle reader
  again : reading_of (idle step.reader) step.reader.begun ≡ quiet 0 step.reader
  rest : drop step.received.skipped (reader.begun ++ b ∷ []) ≡ step.reader.begun

after_byte : Pieces → {reader : Reader} {b : ℕ} {step : Step} → reading_of (idle reader) reader.begun ≡ quiet 0 reader
    → byte_received reader b ≡ step → Comes reader.begun reader b step → step.received.reply ≡ None
    → After reader b step
after_byte pieces {reader} {b} {step} again is comes none =
    let begun = reader.begun in
    let skips : step ≡ skips_all begun reader → After reader b step = λ e.
    let all : drop (length begun + 1) (begun ++ b ∷ []) ≡ [] =
    drop_all (length begun + 1) (begun ++ b ∷ []) (omega (arith, length-append begun (b ∷ []))) in
    let there : After reader b (skips_all begun reader) = record { same = refl; again = refl; rest = all } in
    subst (λ (s : Step). After reader b s) (sym e) there in
    let begins_one : (step ≡ reads_none (length begun) (b ∷ []) reader)
    × (byte_received (idle reader) b ≡ reads_none 0 (b ∷ []) reader) → After reader b step = λ e.
    let there : After reader b (reads_none (length begun) (b ∷ []) reader) = record {
      same = refl;
      again = ap (λ (s : Step). after_step s (reading_of s.reader [])) e.1;
      rest = drop-append_seam begun (b ∷ []);
    } in
    subst (λ (s : Step). After reader b s) (sym e.0) there in
    let goes : step ≡ reads_none 0 (begun ++ b ∷ []) reader → After reader b step = λ e.
    let there : After reader b (reads_none 0 (begun ++ b ∷ []) reader) = record {
      same = refl;
      again = pieces (idle reader) begun (b ∷ []) ∙ ap (λ (r : Reading). joined r (reading_of r.reader (b ∷ []))) again
          ∙ ap (λ (s : Step). joined (quiet 0 reader) (after_step s (reading_of s.reader []))) (is ∙ e);
      rest = refl;
    } in
    subst (λ (s : Step). After reader b s) (sym e) there in
    ⊎_elim (λ (told : (step.received.reply ≡ None → ⊥) × (step.reader.begun ≡ [])). absurd (told.0 none))
    (⊎_elim skips (⊎_elim begins_one goes)) comes

-- Behind so many bytes no reply has come.
pub record At (start reader : Reader) (bytes : List ℕ) (place none : ℕ) : Type 0 where
  pub read : reading_of start (take place bytes) ≡ quiet none reader
  pub same : start ≡ idle reader
  pub again : reading_of (idle reader) reader.begun ≡ quiet 0 reader
  pub rest : drop none (take place bytes) ≡ reader.begun
  pub count : none + length reader.begun ≡ place

pub at_start : (asked : AwaitedReply) (bytes : List ℕ) → At (reader_of asked) (reader_of asked) bytes 0 0
at_start asked.Nothing bytes = record { read = refl; same = refl; again = refl; rest = refl; count = refl }
at_start (asked.Now status) bytes = record { read = refl; same = refl; again = refl; rest = refl; count = refl }
at_start (asked.InOrder status) bytes = record { read = refl; same = refl; again = refl; rest = refl; count = refl }

-- one byte more
read_more : Pieces → {start reader next : Reader} {bytes : List ℕ} {place none : ℕ} (b : ℕ) {received : Received}
    → At start reader bytes place none → take (place + 1) bytes ≡ take place bytes ++ b ∷ []
    → step_of received next ≡ byte_received reader b → reading_of start (take (place + 1) bytes)
    ≡ record { replies = replies_before received.reply []; skipped = none + received.skipped; reader = next }
read_more pieces {start} {reader} {next} {bytes} {place} {none} b {received} at more is =
    let count : received.skipped + 0 ≡ received.skipped = omega arith in
    ap (reading_of start) more ∙ pieces start (take place bytes) (b ∷ []) ∙ ap
    (λ (r : Reading). joined r (reading_of r.reader (b ∷ []))) at.read ∙ ap
    (λ (s : Step). joined (quiet none reader) (after_step s (reading_of s.reader []))) (sym is) ∙ ap
    (λ (k : ℕ). record { replies = replies_before received.reply []; skipped = none + k; reader = next }) count

byte_taken : (bytes : List ℕ) {place b : ℕ} → place < length bytes → get_or bytes place 0 ≡ b
    → take (place + 1) bytes ≡ take place bytes ++ b ∷ []
byte_taken bytes {place} within here = take_more bytes place 0 within ∙ ap (λ (k : ℕ). take place bytes ++ k ∷ []) here

pub goes_past : Pieces → {start reader next : Reader} {bytes : List ℕ} {place none b : ℕ} {received : Received}
    → At start reader bytes place none → place < length bytes → get_or bytes place 0 ≡ b
    → step_of received next ≡ byte_received reader b → Counts reader.begun (step_of received next)
    → received.reply ≡ None → At start next bytes (place + 1) (none + received.skipped)
goes_past pieces {reader} {next} {bytes} {place} {none} {b} {received} at within here is count told =
    let prefix = take place bytes in
    let more : take (place + 1) bytes ≡ prefix ++ b ∷ [] = byte_taken bytes within here in
    let counted : Counts reader.begun (byte_received reader b) = subst (λ (s : Step). Counts reader.begun s) is count in
    let comes : Comes reader.begun reader b (step_of received next) =
    subst (λ (s : Step). Comes reader.begun reader b s) (sym is) (byte_comes reader counted) in
    let after = after_byte pieces at.again (sym is) comes told in
    let zero : bytes_told received.reply ≡ 0 = ap bytes_told told in
    let long : length prefix ≡ place = length-take-le place bytes (omega arith) in
    record {
      read = read_more pieces b at more is ∙ ap (λ (r : Option PrinterReply).
          record { replies = replies_before r []; skipped = none + received.skipped; reader = next }) told;
      same = at.same ∙ sym after.same;
      again = after.again;
      rest = ap (drop (none + received.skipped)) more ∙ sym (drop-drop received.skipped none (prefix ++ b ∷ []))
          ∙ ap (drop received.skipped) (drop-append-le none prefix (b ∷ []) (omega (arith, at.count)))
          ∙ ap (λ (xs : List ℕ). drop received.skipped (xs ++ b ∷ [])) at.rest ∙ after.rest;
      count = omega (arith, at.count, count, zero);
    }

-- where two lists joined are empty, the first is
first_is_empty : (first next : List PrinterReply) → first ++ next ≡ [] → first ≡ []
first_is_empty [] next none = refl
first_is_empty (told ∷ more) next none = grind arith

-- where no reply has come of a front of the bytes, none has come of a shorter one
none_before : Pieces → {start reader : Reader} {bytes : List ℕ} {place none : ℕ} → At start reader bytes place none
    → (count : ℕ) → count < place + 1 → (reading_of start (take count bytes)).replies ≡ []
none_before pieces {start} {reader} {bytes} {place} {none} at count fewer =
    let all = take place bytes in
    let front = take count all in
    let rest = drop count all in
    let same : front ≡ take count bytes = take-take count place bytes (omega arith) in
    let whole : joined (reading_of start front) (reading_of (reading_of start front).reader rest) ≡ quiet none reader =
    sym (pieces start front rest) ∙ ap (reading_of start) (take-append-drop count all) ∙ at.read in
    ap (λ (xs : List ℕ). (reading_of start xs).replies) (sym same)
    ∙ first_is_empty (reading_of start front).replies (reading_of (reading_of start front).reader rest).replies
    (ap (λ (r : Reading). r.replies) whole)

-- none has begun behind a reply
none_begun : (begun : List ℕ) (reader : Reader) {b : ℕ} {step : Step} {told : PrinterReply}
    → step.received.reply ≡ Some told → Comes begun reader b step → step.reader.begun ≡ []
none_begun begun reader {b}
    {step} is = ⊎_elim (λ (ends : (step.received.reply ≡ None → ⊥) × (step.reader.begun ≡ [])). ends.1) (⊎_elim
    (λ (e : step ≡ skips_all begun reader). absurd (some_reply (sym is ∙ ap (λ (s : Step). s.received.reply) e)))
    (⊎_elim (λ (e : (step ≡ reads_none (length begun) (b ∷ []) reader) × (byte_received (idle reader) b ≡ reads_none 0
    (b ∷ []) reader)). absurd (some_reply (sym is ∙ ap (λ (s : Step). s.received.reply) e.0))) (λ (e : step
    ≡ reads_none 0 (begun ++ b ∷ []) reader). absurd (some_reply (sym is ∙ ap (λ (s : Step). s.received.reply) e)))))

pub one_ends : Pieces → {start reader next : Reader} {bytes : List ℕ} {place none b : ℕ} {received : Received}
    {told : PrinterReply} {read : ReplyRead} → At start reader bytes place none → place < length bytes
    → get_or bytes place 0 ≡ b → step_of received next ≡ byte_received reader b
    → Counts reader.begun (step_of received next) → received.reply ≡ Some told → read.used ≡ place + 1
    → read.skipped ≡ none + received.skipped → EndsWith start bytes read told
one_ends pieces {start} {reader} {next} {bytes} {place} {none} {b} {received}
    {told} at within here is count ends used skipped =
    let more : take (place + 1) bytes ≡ take place bytes ++ b ∷ [] = byte_taken bytes within here in
    let counted : Counts reader.begun (byte_received reader b) = subst (λ (s : Step). Counts reader.begun s) is count in
    let comes : Comes reader.begun reader b (step_of received next) =
    subst (λ (s : Step). Comes reader.begun reader b s) (sym is) (byte_comes reader counted) in
    record {
      left = next;
      one = ap (λ (k : ℕ). reading_of start (take k bytes)) used ∙ read_more pieces b at more is
          ∙ ap (λ (r : Option PrinterReply). record {
            replies = replies_before r [];
            skipped = none + received.skipped;
            reader = next;
          }) ends ∙ ap (λ (k : ℕ). record { replies = told ∷ []; skipped = k; reader = next }) (sym skipped);
      whole = none_begun reader.begun reader ends comes;
      first = λ count fewer. none_before pieces at count (subst (λ (k : ℕ). count < k) used fewer);
    }
