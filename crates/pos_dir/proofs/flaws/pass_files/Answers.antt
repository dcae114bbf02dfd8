use Rattle.pos_dir.proofs.Common.{[], add-one, arith, file_at, items_at, length, length-append, nat_tests, refl}
use Rattle.pos_dir.proofs.Common.{sum_by_push, sym, ◌++◌, ◌∷◌}
use Rattle.pos_dir.specs.Texts.{file_of}
use Rattle.pos_dir.proofs.ItemLemmas.{items_push}
use Rattle.pos_dir.proofs.ChangeLemmas.{are_distinct-append}
use Rattle.pos_dir.proofs.flaws.pass_files.Goals as goal

pub loop-i-init : goal.loop-i-init
unfolding items_at
loop-i-init c = record { files = []; count = refl; read = refl; room = omega arith; distinct = refl }

pub returns-in_default-clause-stopped : goal.returns-in_default-clause-stopped
returns-in_default-clause-stopped c =
    let read = c.loop-i.invariant in
    record {
      files = read.files;
      read = read.read;
      fewer = omega (arith, read.count, c.loop-i-test.true);
      fits = omega (arith, read.room);
      distinct = read.distinct;
      why = c.file_flaw.ensures c.args.room read.files (sym c.in_default.ensures);
    }

pub loop-i-preserved : goal.loop-i-preserved
loop-i-preserved c =
    let read = c.loop-i.invariant in
    let file = file_of c.in-Some.file in
    record {
      files = read.files ++ file ∷ [];
      count = omega (arith, length-append read.files (file ∷ []), read.count);
      read = rw (length-append, add-one) (items_push file_at _ c.args.text.now read.read (sym c.in-Some.ensures));
      room = omega (arith, sum_by_push (λ f. length f.bytes) read.files file, read.room, c.if-file-left.false);
      distinct = are_distinct-append read.files file read.distinct (grind (arith, nat_tests, read.read, read.count));
    }
