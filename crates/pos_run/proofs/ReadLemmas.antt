-- What a read of a script found.
use Rattle.pos_run.proofs.Common.{Bool, Ended, Err, Failed, List, Ok, Open, ReadState, Reading, ReadsScript}
use Rattle.pos_run.proofs.Common.{ReadsToFault, [], ap, arith, complete_lines, end_after, false, false≢true, inl, inr}
use Rattle.pos_run.proofs.Common.{lines_read, may_read, most_reads, refl, suc, sym, take, taken_after, taken_twice}
use Rattle.pos_run.proofs.Common.{true, zero, ℕ, ◌++◌, ◌∙◌, ◌≡◌, ◌≤◌, ◌⊎◌}
use Rattle.std.proofs.lemmas.Bool.Decides.{nat_tests}
use Rattle.pos_streams.proofs.StreamLemmas.{found_end, found_more}
use Rattle.pos_streams.specs.Streams.{IsWhole}
use Rattle.pos_streams.specs.declared.source.ReadFault.{ReadFault}

-- a script that was read successfully could be read
could : (old new : Reading) (buffer : List ℕ) (count : ℕ) (may : Bool) → may_read old.state old.reads ≡ may
    → ReadsScript old buffer (Ok count) new → may ≡ true
could old new buffer count true is reads = refl
could old new buffer count false is reads = absurd (false≢true (rw is at reads).0)

-- a script may be read no more if a read failed, or there were as many as may be
no_more : (state : ReadState) {reads : ℕ} → may_read state reads ≡ false → (state ≡ Failed) ⊎ (most_reads ≤ reads)
no_more Open is = inr (grind (arith, nat_tests, is))
no_more Ended is = inr (grind (arith, nat_tests, is))
no_more Failed is = inl refl

module _ (first old new : Reading) (input buffer : List ℕ) (so_far : old.taken ≡ taken_after first.taken input) where
  -- a read that gave nothing found the end
  pub ends : {count : ℕ} → count ≡ 0 → ReadsScript old buffer (Ok count) new
      → (new.state ≡ Ended) × (new.taken ≡ end_after (taken_after first.taken input)) × IsWhole new.taken
  ends {count} none reads =
      let (takes, counted, state) = rw (could old new buffer count _ refl reads) at reads in
      let (end, whole) = found_end old.taken buffer count new.taken none takes in
      (rw none at state, rw so_far at end, rw end whole)

  -- and one that gave bytes took them
  pub goes_on : (count : ℕ) → (count ≡ 0 → ⊥) → ReadsScript old buffer (Ok count) new
      → (new.state ≡ Open) × (new.taken ≡ taken_after first.taken (input ++ take count buffer))
  goes_on zero some reads = absurd (some refl)
  goes_on (suc n) some reads =
      let (takes, counted, state) = rw (could old new buffer (suc n) _ refl reads) at reads in
      let (fits, took) = found_more old.taken buffer (suc n) new.taken some takes in (
        state,
        took ∙ ap (λ taken. taken_after taken (take (suc n) buffer)) so_far
            ∙ taken_twice first.taken input (take (suc n) buffer),
      )

  -- one that failed asked the source, or the script may be read no more
  pub fails : {fault : ReadFault} (may : Bool) → may_read old.state old.reads ≡ may
      → (old.state ≡ Failed → (old ≡ first) × (input ≡ [])) → ReadsScript old buffer (Err fault) new
      → ReadsToFault input first new
  fails true is failed reads =
      let (took, counted, state) = rw is at reads in (rw state refl, inl (rw so_far at took))
  fails false is failed reads =
      let same = (rw is at reads).1 in (
        rw same is,
        elim (no_more old.state is) [
          | inl broken ↦ let (untouched, none) = failed broken in
              inr (inr (ap (λ r. r.state) (sym untouched) ∙ broken, none, same ∙ untouched))
          | inr reached ↦ inr (inl (ap (λ r. r.taken) same ∙ so_far, rw same reached))
        ],
      )

  -- after it the lines that were read are the same
  pub same_lines : (fault : ReadFault) (may : Bool) → may_read old.state old.reads ≡ may
      → ReadsScript old buffer (Err fault) new → lines_read old.state input ≡ complete_lines input
      → lines_read new.state input ≡ complete_lines input
  same_lines fault true is reads are = let (took, counted, state) = rw is at reads in rw state refl
  same_lines fault false is reads are = let same = (rw is at reads).1 in rw same are
