-- What contracts see of the totals.
use Rattle.std.specs.Prelude.{◌≡◌, ℕ, ◌<◌, false, List, [], ◌∷◌, length, map, Option, IfSome, ⊤}
use Rattle.std.specs.List.{AllByRecursion}
use Rattle.pos_disk.specs.State.{DiskState}
use Rattle.pos_dir.specs.Files.{IsDirectory}
use Rattle.pos_dir.specs.declared.file.File.{File as PlainFile}
use Rattle.pos_image.specs.declared.layout.Layout.{Layout}
use Rattle.pos_service.specs.Claims.{is_foreign}
use Rattle.pos_totals.specs.HardTotals.{File, Mode, Off, Ready, Totals, files_of}
use Rattle.pos_totals.specs.TotalsClaims.{is_foreign_claim}
use Rattle.pos_store.specs.Layouts.{limits_of}
use Rattle.pos_store.specs.StoreViews.{StoreState as State, LeavesItsFiles, Off as StoreOff, Ready as StoreReady}
use Rattle.pos_store.specs.StoreViews.{StoreView}
use Rattle.pos_totals.specs.Buffers.{HaveBuffers}
use Rattle.pos_totals.specs.declared.handles.FileTag.{FileTag}
use Rattle.pos_totals.specs.declared.totals.Holdings.{Holdings}

-- The disk, and what the totals have of it.
pub record TotalsView (D : Type 0) : Type 0 where
  pub disk : D
  pub totals : Totals

-- a file without its handle and its claim, and with these
abbrev pub plain_file : File → PlainFile
plain_file file = record { name = file.name; bytes = file.bytes }

abbrev pub called : FileTag → PlainFile → File
called tag file = record { handle = tag.handle; name = file.name; bytes = file.bytes; claim = tag.claim }

-- the files without their handles and claims, as a disk has them
abbrev pub plain : List File → List PlainFile
plain files = map plain_file files

-- their handles
abbrev pub handles_of : List File → List ℕ
handles_of files = map (λ file. file.handle) files

-- their handles with their claims
abbrev pub tag_of : File → FileTag
tag_of file = record { handle = file.handle; claim = file.claim }

abbrev pub tags_of : List File → List FileTag
tags_of files = map tag_of files

-- the handles of tags
abbrev pub numbers_of : List FileTag → List ℕ
numbers_of tags = map (λ tag. tag.handle) tags

-- what a store has of the totals
abbrev pub stored : Mode → State
stored Off = StoreOff
stored (Ready files sequence) = StoreReady (plain files) sequence

-- P, if the totals are off
abbrev pub WhenOff : Mode → Type 0 → Type 0
WhenOff Off P = P
WhenOff (Ready files sequence) P = ⊤

-- P, if they are ready
abbrev pub WhenReady : Mode → Type 0 → Type 0
WhenReady Off P = ⊤
WhenReady (Ready files sequence) P = P

-- they are ready
abbrev pub IsReady : Mode → Type 0
IsReady Off = ⊥
IsReady (Ready files sequence) = ⊤

-- they were ready, and are off
abbrev pub TurnsOff : Mode → Mode → Type 0
TurnsOff old Off = IsReady old
TurnsOff old (Ready files sequence) = ⊥

-- if they are ready, a crash at this moment leaves exactly their files
abbrev pub LeavesTheirFiles : Layout → Mode → DiskState → Type 0
LeavesTheirFiles layout mode disk = LeavesItsFiles layout (stored mode) disk

-- files and their tags in one list
abbrev pub with_tags : List FileTag → List PlainFile → List File
with_tags [] files = []
with_tags (tag ∷ tags) [] = []
with_tags (tag ∷ tags) (file ∷ files) = called tag file ∷ with_tags tags files

-- what a store's state and the tags mean
abbrev pub mode_of : List FileTag → State → Mode
mode_of tags StoreOff = Off
mode_of tags (StoreReady files sequence) = Ready (with_tags tags files) sequence

-- the place after the records of a store's disk, if it is ready, and else 0
abbrev pub tail_of : State → ℕ → ℕ
tail_of StoreOff tail = 0
tail_of (StoreReady files sequence) tail = tail

-- what a store's state, the place after its records, and the holdings mean
abbrev pub totals_at : State → ℕ → Holdings → Totals
totals_at state tail holdings = record {
  layout = holdings.layout;
  mode = mode_of holdings.handles.given state;
  tail = tail_of state tail;
  next = holdings.handles.next;
  area = holdings.area;
  transactions = holdings.transactions;
}

-- what a store and the holdings mean
abbrev pub totals_of : {D : Type 0} → StoreView D → Holdings → Totals
totals_of store holdings = totals_at store.state store.tail holdings

abbrev pub view_of : {D : Type 0} → StoreView D → Holdings → TotalsView D
view_of store holdings = record { disk = store.disk; totals = totals_of store holdings }

-- no two handles are the same
abbrev pub AreDistinct : List ℕ → Type 0
AreDistinct [] = ⊤
AreDistinct (handle ∷ handles) = AllByRecursion (λ other. ¬ (other ≡ handle)) handles × AreDistinct handles

-- Each file has a handle of its own, below the next one.
pub record AreHandles (tags : List FileTag) (files : List PlainFile) (next : ℕ) : Type 0 where
  pub count : length tags ≡ length files
  pub distinct : AreDistinct (numbers_of tags)
  pub below : AllByRecursion (λ handle. handle < next) (numbers_of tags)

-- if a store is ready, its files have their handles
abbrev pub HasHandles : State → List FileTag → ℕ → Type 0
HasHandles StoreOff tags next = ⊤
HasHandles (StoreReady files sequence) tags next = AreHandles tags files next

-- if a store is ready, and a control has claimed the area, no other has claimed a file
abbrev pub AreApart : State → Option ℕ → List FileTag → Type 0
AreApart StoreOff area tags = ⊤
AreApart (StoreReady files sequence) area tags =
    IfSome area (λ holder. AllByRecursion (λ tag. is_foreign holder tag.claim ≡ false) tags)

-- if a store is ready, its layout is the one that was found
abbrev pub HasLayout : Layout → State → Layout → Type 0
HasLayout layout StoreOff found = ⊤
HasLayout layout (StoreReady files sequence) found = layout ≡ found

-- If a store is ready, its layout is the one that was found, its files have their handles, and buffered changes fit
-- their files; and if a control has claimed the area, no other has claimed a file. If it is off, nothing is buffered.
pub record IsSound (layout : Layout) (state : State) (holdings : Holdings) : Type 0 where
  pub found : HasLayout layout state holdings.layout
  pub handles : HasHandles state holdings.handles.given holdings.handles.next
  pub buffers : HaveBuffers (mode_of holdings.handles.given state) holdings.handles.next holdings.transactions
  pub apart : AreApart state holdings.area holdings.handles.given

-- if a store is ready, its files are those of a directory within the limits of a layout
abbrev pub HasDirectory : Layout → State → Type 0
HasDirectory layout StoreOff = ⊤
HasDirectory layout (StoreReady files sequence) = IsDirectory (limits_of layout) files

-- No two files have one handle, and each handle is below the next one; without their handles the files are a directory
-- within the limits of the layout.
pub record AreTheirFiles (layout : Layout) (files : List File) (next : ℕ) : Type 0 where
  pub distinct : AreDistinct (handles_of files)
  pub below : AllByRecursion (λ handle. handle < next) (handles_of files)
  pub directory : IsDirectory (limits_of layout) (plain files)

-- If the totals are ready, so are their files, and what is buffered fits them; if they are off, nothing is buffered. If
-- a control has claimed the area, no other has claimed a file.
pub record HasItsFiles (totals : Totals) : Type 0 where
  pub files : WhenReady totals.mode (AreTheirFiles totals.layout (files_of totals.mode) totals.next)
  pub buffers : HaveBuffers totals.mode totals.next totals.transactions
  pub apart : IfSome totals.area
      (λ holder. AllByRecursion (λ file. is_foreign_claim holder file ≡ false) (files_of totals.mode))
