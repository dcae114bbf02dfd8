-- How a peripheral stands to its host, and what becomes of that.
use Rattle.std.specs.Prelude.{◌≡◌, ◌≢◌, ◌⊎◌, Bool, Option, Some, None, Result, Ok, Err}
use Rattle.pos_service.specs.declared.faults.NoMemory.{NoMemory}
use Rattle.pos_service.specs.declared.order.Order.{Order}
use Rattle.pos_service.specs.declared.order.Reply.{Reply}
use Rattle.pos_drive.specs.declared.courses.Course.{Course}
use Rattle.pos_drive.specs.declared.courses.Course.TheVariants.{Free, Ready, Waits, HandedOut, Reported}
use Rattle.pos_drive.specs.declared.courses.Progress.{Progress}
use Rattle.pos_drive.specs.declared.courses.Progress.TheVariants as progress

-- how far the host is with its order
abbrev pub progress_of : Course → Progress
progress_of Free = progress.Free
progress_of Ready = progress.Ready
progress_of (Waits asked) = progress.Waits
progress_of (HandedOut asked) = progress.HandedOut
progress_of (Reported asked is_done) = progress.Reported

-- the order that waits, whether the host has it or not
abbrev pub order_in : Course → Option Order
order_in Free = None
order_in Ready = None
order_in (Waits asked) = Some asked
order_in (HandedOut asked) = Some asked
order_in (Reported asked is_done) = None

-- each order waits for the host from now on
abbrev pub driven_course : Course → Course
driven_course Free = Ready
driven_course course = course

-- the host gets the order that it doesn't have yet
abbrev pub handed_out_course : Course → Course
handed_out_course (Waits asked) = HandedOut asked
handed_out_course course = course

-- the host reports whether the order that it has is done
abbrev pub reported_course : Bool → Course → Course
reported_course is_done (HandedOut asked) = Reported asked is_done
reported_course is_done course = course

-- no order waits, and no report is left
abbrev pub settled_course : Course → Course
settled_course Free = Free
settled_course course = Ready

-- an answer settles the order that was given; otherwise nothing has changed, or the order waits from now on, unless the
-- host has reported what became of it
abbrev pub MovesOn : Course → Order → Result Reply NoMemory → Course → Type 0
MovesOn old asked (Ok said) new = new ≡ settled_course old
MovesOn old asked (Err want) new =
    (new ≡ old) ⊎ ((new ≡ Waits asked) × ((is_done : Bool) → old ≢ Reported asked is_done))
