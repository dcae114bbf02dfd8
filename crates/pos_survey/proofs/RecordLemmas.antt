-- The records behind the current image.
use Rattle.std.proofs.Common.{◌≡◌, ℕ, List, ◌∙◌}
use Rattle.pos_image.specs.declared.layout.Layout.{Layout}
use Rattle.pos_log.specs.Records.{HoldsRecords, tail_of}
use Rattle.pos_log.proofs.UniquenessLemmas.{one_log}

-- the records of one span end at one place
pub one_tail : {layout by : Layout} (groups texts : List (List ℕ)) {now span : List ℕ} {tail : ℕ}
    → HoldsRecords groups now → now ≡ span → HoldsRecords texts span → tail ≡ tail_of by groups → by ≡ layout
    → tail ≡ tail_of layout texts
one_tail groups texts {span} holds same also is layout_is =
    is ∙ rw (layout_is, one_log groups texts span (rw same at holds) also)
