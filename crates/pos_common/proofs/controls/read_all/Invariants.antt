use Rattle.pos_common.proofs.Common.{AreCopies, Scan, all_listening, controls_of, length, read, ℕ, ◌≡◌}
use Rattle.pos_common.proofs.CopyLemmas.{Reads}
use Rattle.std.specs.Vec.Iter.{into_iter_items, into_iter_len}
use Rattle.pos_common.proofs.controls.read_all.Given as goal

-- the copies that are left can be read, and then each control that listens has read the scan
abbrev pub invariant-loop-control : goal.invariant-loop-control
invariant-loop-control l =
    let left = into_iter_items l.control-iterator in
    record {
      count : into_iter_len l.control-iterator ≡ length left;
      reads : (place : ℕ) (scan : Scan) → AreCopies scan place l.fn.controls l.fn.copies.items
          → Reads (all_listening place (read scan) (controls_of l.fn.controls)) left l.controls;
    }
