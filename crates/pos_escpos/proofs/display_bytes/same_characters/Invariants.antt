use Rattle.std.proofs.Common.{◌≡◌, bytes_eq, drop}
use Rattle.pos_escpos.specs.DisplayBytes.{characters_of}
use Rattle.pos_escpos.proofs.display_bytes.same_characters.Given as goal

-- all are the same if those are that are left
abbrev pub invariant-loop-place : goal.invariant-loop-place
invariant-loop-place l = bytes_eq (characters_of (drop l.place l.before)) (characters_of (drop l.place l.after))
    ≡ bytes_eq (characters_of l.before) (characters_of l.after)
