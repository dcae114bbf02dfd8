-- The status events of a change (common chapter, device power reporting, and chapters Cash Drawer and POS Printer).
use Rattle.std.specs.Prelude.{ℕ, Bool, true, false, nat_eq, List, [], ◌∷◌, ◌++◌, if◌then◌else◌}
use Rattle.pos_service.specs.declared.signs.PaperLevel.{PaperLevel}
use Rattle.pos_service.specs.declared.signs.PaperLevel.TheVariants as paper
use Rattle.pos_service.specs.declared.signs.Signs.{Signs}
use Rattle.pos_service.specs.Controls.{Control, heard, is_notified}
use Rattle.pos_service.specs.Events.{Enqueued, Status}

-- CASH_SUE_DRAWERCLOSED and CASH_SUE_DRAWEROPEN
abbrev pub drawer_status : Bool → ℕ
drawer_status false = 0
drawer_status true = 1

-- PTR_SUE_COVER_OPEN and PTR_SUE_COVER_OK
abbrev pub cover_status : Bool → ℕ
cover_status true = 11
cover_status false = 12

-- PTR_SUE_REC_EMPTY, PTR_SUE_REC_NEAREMPTY and PTR_SUE_REC_PAPEROK
abbrev pub paper_status : PaperLevel → ℕ
paper_status paper.Empty = 24
paper_status paper.NearEnd = 25
paper_status paper.Good = 26

-- SUE_POWER_ONLINE and SUE_POWER_OFF_OFFLINE, which are also PS_ONLINE and PS_OFF_OFFLINE
abbrev pub power_status : Bool → ℕ
power_status true = 2001
power_status false = 2004

-- the event of a status that has changed
abbrev pub changed_status : ℕ → ℕ → List Enqueued
changed_status old new = if nat_eq old new then [] else Status new ∷ []

-- the events of the signs that differ, in the order drawer, cover, paper
abbrev pub status_events : Signs → Signs → List Enqueued
status_events old new =
    changed_status (drawer_status old.drawer_open) (drawer_status new.drawer_open)
    ++ changed_status (cover_status old.cover_open) (cover_status new.cover_open)
    ++ changed_status (paper_status old.paper) (paper_status new.paper)

-- the event of the device's power, where that differs and the control is notified of it
abbrev pub power_events : Bool → Signs → Signs → List Enqueued
power_events notified old new =
    if notified then changed_status (power_status old.powered) (power_status new.powered) else []

-- the control, once the signs of its device have changed: it hears those that differ, the power last
abbrev pub heard_signs : Signs → Signs → Control → Control
heard_signs old new control = heard (status_events old new ++ power_events (is_notified control) old new) control
