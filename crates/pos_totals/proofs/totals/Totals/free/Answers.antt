use Rattle.pos_totals.proofs.Common.{List, Some, ap, ◌≡◌}
use Rattle.pos_totals.specs.Checks.{IsSeen}
use Rattle.pos_totals.specs.HardTotals.{File, Mode, Off, Ready, files_of, totals_limits}
use Rattle.pos_totals.specs.TotalsFiles.{free_data}
use Rattle.pos_totals.specs.Views.{IsReady}
use Rattle.pos_totals.proofs.totals.Totals.free.Goals as goal

-- what is seen of totals that are ready are their files
seen_files : (mode : Mode) {seen : List File} → IsReady mode → IsSeen mode (Some seen) → seen ≡ files_of mode
seen_files Off ready is = absurd ready
seen_files (Ready files sequence) ready is = is

pub returns : goal.returns
returns g c =
    let ready = rw (← c.self.view_is) at c.requires in
    rw (← c.self.view_is, c.measure_free.ensures, c.in-Some.ensures.layout)
    (ap (free_data (totals_limits c.self.inside.holdings.layout)) (seen_files _ ready c.in-Some.ensures.seen))
