use Rattle.std.proofs.Common.{ℕ, List, map, Vec, Global, ap, ◌∙◌, arith}
use Rattle.std.proofs.lemmas.List.{length-map}
use Rattle.std.proofs.lemmas.Result.{err_from_is_err_and}
use Rattle.pos_image.specs.Layout.{layout_of}
use Rattle.pos_image.specs.Standing.{OneImage}
use Rattle.pos_image.specs.declared.slot.Slot.{Slot}
use Rattle.pos_image.proofs.LogLemmas.{image_here}
use Rattle.pos_log.specs.Logs.{room_of}
use Rattle.pos_survey.specs.Damages.{log_begins}
use Rattle.pos_survey.proofs.DamageLemmas.{no_files, long_record, bad_record}
use Rattle.pos_survey.proofs.survey.Survey.of.Goals as goal

pub returns-in_err-directory-clause-broken : goal.returns-in_err-directory-clause-broken
returns-in_err-directory-clause-broken c =
    let p = err_from_is_err_and c.from_residual-in_err-directory.result c.from_residual-in_err-directory.ensures.1 in
    rw (p.1, p.2) (no_files c.in_err-directory.field-0.0 c.in_ok-images.ensures.current
    c.in_err-directory.ensures.broken)

pub returns-in_err-log-clause-broken : goal.returns-in_err-log-clause-broken
returns-in_err-log-clause-broken c =
    let p = err_from_is_err_and c.from_residual-in_err-log.result c.from_residual-in_err-log.ensures.1 in
    let images = c.in_ok-images.images in
    let read = c.in_ok-directory.ensures in
    rw (p.1, p.2) (long_record c.args.bytes.now images.body images.slot c.in_ok-directory.directory.files
    images.sequence c.in_ok-images.ensures.current read.directory read.spelled c.in_err-log.field-0.0
    c.in_err-log.ensures.broken)

pub returns-in_err-apply_texts-clause-broken : goal.returns-in_err-apply_texts-clause-broken
returns-in_err-apply_texts-clause-broken c =
    let p = err_from_is_err_and c.from_residual-in_err-apply_texts.result c.from_residual-in_err-apply_texts.ensures.1
    in
    let images = c.in_ok-images.images in
    let base = c.in_ok-directory.directory.files in
    let read = c.in_ok-directory.ensures in
    let fault = c.in_err-apply_texts.field-0.0 in
    let first = log_begins images.slot in
    let texts = map (λ (t : Vec ℕ Global). t.items) c.in_ok-log.texts.items in
    let found = c.log_begins.ensures ∙ ap log_begins c.slot-slot.ensures in
    rw (p.1, p.2) (bad_record c.args.bytes.now images.body images.slot base images.sequence
    c.in_ok-images.ensures.current read.directory read.spelled texts c.in_ok-log.ensures.records fault
    (rw (read.limits, found, c.deref.ensures.value) at c.in_err-apply_texts.ensures.broken))

pub returns-clause-told : goal.returns-clause-told
returns-clause-told c =
    let images = c.in_ok-images.images in
    let bytes = c.args.bytes.now in
    let layout = layout_of images.slot in
    let base = c.in_ok-directory.directory.files in
    let read = c.in_ok-directory.ensures in
    let texts = map (λ (t : Vec ℕ Global). t.items) c.in_ok-log.texts.items in
    let files = c.apply_texts.new.directory.files in
    let log = c.in_ok-log.ensures in
    let size = length-map c.in_ok-log.texts.items (λ (t : Vec ℕ Global). t.items) in
    rw (c.slot-slot.ensures, c.sequence-sequence.ensures) record {
      stands = record {
        base = base;
        texts = texts;
        directory = read.directory;
        shows = (image_here c.in_ok-images.ensures.current).image
            ∙ ap (λ (b : List ℕ). OneImage layout b images.sequence) read.spelled;
        log = log.records;
        applies = rw (read.limits, c.deref.ensures.value) at c.in_ok-apply_texts.ensures.ok;
      };
      limits = c.apply_texts.ensures.limits ∙ read.limits;
      body = images.body;
      current = c.in_ok-images.ensures.current;
      log = record {
        texts = texts;
        held = log.records;
        count = omega (arith, c.len.ensures, size);
        room_is = c.room.ensures ∙ ap (λ (s : Slot). room_of (layout_of s) c.in_ok-log.log.tail) log.slot
            ∙ ap (room_of layout) log.tail;
      };
    }
