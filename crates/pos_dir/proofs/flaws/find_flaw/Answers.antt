use Rattle.pos_dir.proofs.Common.{File, Limits, List, Some, [], ap, arith, directory_at, drop, eqb-false, file_at}
use Rattle.pos_dir.proofs.Common.{file_spelling, flat_map, inr, items_at, length, length-append, length-drop, nat_tests}
use Rattle.pos_dir.proofs.Common.{nil_from_length, subst, sym, ℕ, ◌+◌, ◌∙◌, ◌≡◌, ◌≤◌}
use Rattle.pos_dir.proofs.DirectoryLemmas.{directory_takes, file_reads}
use Rattle.pos_dir.proofs.ItemLemmas.{items_take}
use Rattle.pos_dir.proofs.FieldLemmas.{IsBytes, IsBytes-drop}
use Rattle.pos_dir.specs.Flaws.{HasFileFlaw, HasFlaw, end_of_files}
use Rattle.pos_dir.specs.declared.flaw.Flaw.{Flaw}
use Rattle.pos_dir.specs.declared.flaw.Flaw.TheVariants as flaw
use Rattle.pos_dir.proofs.flaws.find_flaw.Goals.{In-Some}
use Rattle.pos_dir.proofs.flaws.find_flaw.Goals as goal

-- where the bytes behind files stand
ends : (c : In-Some) (files : List File) (rest : List ℕ)
    → items_at file_at (length files) c.in-Some.text.now ≡ Some (files, rest)
    → length c.args.bytes.now ≡ end_of_files files + length rest
ends c files rest read =
    let bytes = c.args.bytes.now in
    let counted = c.in-Some.ensures in
    let cut : drop 2 bytes ≡ c.in-Some.text.now = grind (arith, nat_tests) in
    let whole : 2 ≤ length bytes = grind (arith, nat_tests) in
    let fits = subst IsBytes cut (IsBytes-drop 2 bytes (λ i. omega (arith, c.type_inv.bytes i))) in
    let parts = (items_take file_reads (length files) c.in-Some.text.now files rest fits read).0 in
    omega (
      arith,
      whole,
      ap length parts,
      length-append (flat_map file_spelling files) rest,
      length-drop 2 bytes,
      ap length cut,
    )

-- a flaw of a file is one of the bytes
file_flaw : {limits : Limits} {bytes : List ℕ} {at : ℕ} (broken : Flaw) → HasFileFlaw limits bytes at broken
    → HasFlaw limits bytes at broken
file_flaw flaw.TooManyFiles has = absurd has.why
file_flaw flaw.BytesMissing has = inr has
file_flaw flaw.BytesLeft has = absurd has.why
file_flaw other has = has

pub overflow_sub-result : goal.overflow_sub-result
overflow_sub-result c = omega (arith, ends (goal.at.overflow_sub-result c).In-Some _ _ c.in-Err.ensures.stopped.read)

pub unreachable-requires : goal.unreachable-requires
unfolding directory_at
unreachable-requires c =
    let passes = c.in-Ok.ensures.passed in
    let none : c.in-Ok.rest.now ≡ [] = nil_from_length c.in-Ok.rest.now (grind (arith, nat_tests)) in
    let takes = directory_takes c.args.limits c.args.bytes.now passes.files
    (λ i. omega (arith, c.type_inv.bytes i)) (grind (arith, nat_tests, passes)) in
    c.requires (passes.files, takes.0, takes.1)

pub overflow_sub-result-in-Ok : goal.overflow_sub-result-in-Ok
overflow_sub-result-in-Ok c = omega (
  arith,
  ends (goal.at.overflow_sub-result-in-Ok c).In-Some _ _ c.in-Ok.ensures.passed.read,
)

pub returns-else-is_empty-clause-flaw : goal.returns-else-is_empty-clause-flaw
returns-else-is_empty-clause-flaw c =
    let passes = c.in-Ok.ensures.passed in
    record {
      files = passes.files;
      rest = c.in-Ok.rest.now;
      begin = record { text = c.in-Some.text.now; counted = grind (arith, passes.count_is); read = passes.read };
      before = record {
        few = grind (arith, nat_tests, passes.count_is);
        fits = passes.fits;
        distinct = passes.distinct;
      };
      some = λ none. eqb-false _ _ (sym c.is_empty.ensures ∙ c.if-is_empty.false) (ap (λ (r : List ℕ). length r) none);
      place_is = omega (arith, ends (goal.at.returns-else-is_empty-clause-flaw c).In-Some _ _ passes.read);
    }

pub returns-in-Err-clause-flaw : goal.returns-in-Err-clause-flaw
returns-in-Err-clause-flaw c =
    let stops = c.in-Err.ensures.stopped in
    file_flaw c.in-Err.flaw (record {
      count = c.in-Some.count;
      files = stops.files;
      rest = c.in-Err.rest.now;
      begin = record { text = c.in-Some.text.now; counted = sym c.in-Some.ensures; read = stops.read };
      before = record { few = grind (arith, nat_tests); fits = stops.fits; distinct = stops.distinct };
      fewer = stops.fewer;
      place_is = omega (arith, ends (goal.at.returns-in-Err-clause-flaw c).In-Some _ _ stops.read);
      why = stops.why;
    })
