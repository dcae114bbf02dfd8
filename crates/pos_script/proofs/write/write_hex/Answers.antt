use Rattle.std.proofs.Common.{◌≡◌, ◌++◌, [], ap, append_assoc, refl, sym, take-append-drop, ◌∙◌}
use Rattle.hex.specs.Hex.{encode_lower}
use Rattle.pos_streams.proofs.StreamLemmas.{Appends-nil, Appends-trans}
use Rattle.pos_script.proofs.HexLemmas.{encodes_nothing, encodes_on}
use Rattle.pos_script.proofs.WriteLemmas.{failed_between}
use Rattle.pos_script.proofs.write.write_hex.Goals as goal

pub loop-rest-init : goal.loop-rest-init
loop-rest-init g c = ([], refl, rw encodes_nothing (Appends-nil _))

pub returns-in_err-write_hex_chunk : goal.returns-in_err-write_hex_chunk
returns-in_err-write_hex_chunk g c =
    let (done, split, appended) = c.loop-rest.invariant in
    let chunk = c.split_at.result.0.now in
    let left = c.split_at.result.1.now in
    let rest : c.loop-rest.rest.now ≡ chunk ++ left =
    rw (c.split_at.ensures.front, c.split_at.ensures.back, take-append-drop) refl in
    let text : encode_lower c.args.bytes.now ≡ encode_lower done ++ (encode_lower chunk ++ encode_lower left) =
    ap encode_lower (split ∙ ap (λ xs. done ++ xs) rest) ∙ encodes_on done (chunk ++ left)
    ∙ ap (λ xs. encode_lower done ++ xs) (encodes_on chunk left) in
    rw text (failed_between _ _ _ _ _ c.from_residual.ensures.1 appended c.in_err-write_hex_chunk.ensures)

pub loop-rest-preserved : goal.loop-rest-preserved
loop-rest-preserved g c =
    let (done, split, appended) = c.loop-rest.invariant in
    let chunk = c.split_at.result.0.now in
    let left = c.split_at.result.1.now in
    let rest : c.loop-rest.rest.now ≡ chunk ++ left =
    rw (c.split_at.ensures.front, c.split_at.ensures.back, take-append-drop) refl in (
      done ++ chunk,
      split ∙ ap (λ xs. done ++ xs) rest ∙ sym (append_assoc done chunk left),
      rw (encodes_on done chunk) (Appends-trans _ _ _ _ _ appended c.in_ok-write_hex_chunk.ensures),
    )
