-- What the totals keep besides the files of the disk.
use Rattle.std.specs.Prelude.{ℕ, Bool, List, Option, None, nat_eq, if◌then◌else◌}
use Rattle.pos_service.specs.Claims.{is_own}
use Rattle.pos_totals.specs.declared.handles.FileTag.{FileTag}
use Rattle.pos_totals.specs.declared.handles.ClaimScope.{ClaimScope}
use Rattle.pos_totals.specs.declared.handles.ClaimScope.TheVariants as whose

-- the tags of the files in index order, and the handle that the next new file gets
pub record HandleTable : Type 0 where
  pub given : List FileTag
  pub next : ℕ

-- the claim of a tag is meant: that of the file with a handle, or one that a control has made
abbrev pub is_meant : ClaimScope → FileTag → Bool
is_meant (whose.File handle) tag = nat_eq tag.handle handle
is_meant (whose.Control control) tag = is_own control tag.claim

-- the tag, with another claim if it is meant
abbrev pub reclaimed : ClaimScope → Option ℕ → FileTag → FileTag
reclaimed whose claim tag = if is_meant whose tag then record tag { claim = claim } else tag

-- the tag of a new file: nobody has claimed it
abbrev pub new_tag : ℕ → FileTag
new_tag handle = record { handle = handle; claim = None }
