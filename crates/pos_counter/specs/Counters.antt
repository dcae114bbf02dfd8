-- The machine that a counter over peripherals and a disk stands for.
use Rattle.std.specs.Prelude.{◌≡◌, ◌⊎◌, ℕ, List, [], ◌∷◌, None, length, replicate}
use Rattle.pos_disk.specs.State.{LeavesOnly}
use Rattle.pos_disk.specs.declared.device.Disk.{Ghosts as DiskGhosts}
use Rattle.pos_service.specs.declared.peripheral.Peripheral.{Ghosts}
use Rattle.pos_totals.specs.HardTotals.{Off}
use Rattle.pos_store.specs.Standing.{Standing, StandsForOneOf}
use Rattle.pos_totals.specs.Views.{IsReady}
use Rattle.pos_disk.specs.Keeps.{KeepsDisk}
use Rattle.pos_counter.specs.declared.counter.Counter.{Counter}
use Rattle.pos_counter.specs.Machine.{Machine, machine_with}
use Rattle.pos_counter.specs.KeptDevices.{devices_in, profile_devices, totals_name, AreDevicesSound}
use Rattle.pos_counter.specs.Orders.{OrdersOfStep, orders_in}
use Rattle.pos_counter.specs.Leaving.{part_of, part_with, IsSettled, Leaves, Spared, Stepped}
use Rattle.pos_counter.specs.DiskUse.{ChangesTotalsAlone, IsUndone, SparesDisk}
use Rattle.pos_image.specs.declared.layout.Layout.TheVariants.{Layout1}
use Rattle.pos_profile.specs.declared.entry.Entry.{Entry}
use Rattle.pos_counter.specs.Steps.{Request, Response, IsSound, Step, Run}
use Rattle.pos_counter.specs.Sparing.{AllSpare, RunSparing}
use Rattle.pos_counter.specs.Totals.{TotalsPart}

-- the machine that a counter stands for, by what its totals are
abbrev pub machine : {D P : Type 0} → Ghosts P → Counter D P → TotalsPart → Machine
machine peripherals counter part =
    machine_with counter.controls.items counter.claims (devices_in peripherals counter.devices) counter.totals_name part

-- A counter as it begins over the devices of a profile and a disk: no control, each device vacant and held by nobody,
-- totals that are off and have the layout of a new disk.
pub record Begins {D P : Type 0} (peripherals : Ghosts P)
    (entries : List Entry) (disk : D) (counter : Counter D P) : Type 0 where
  pub machine : (part : TotalsPart) → machine peripherals counter part
      ≡ machine_with [] (replicate (length (profile_devices entries)) None) (profile_devices entries)
      (totals_name entries) part
  pub totals : counter.totals
      ≡ record {
        disk = disk;
        totals = record { layout = Layout1; mode = Off; tail = 0; next = 1; area = None; transactions = [] };
      }
  pub tally : counter.tally ≡ record { driven = 0; given = 0; done = 0; not_done = 0; forgotten = 0 }

-- how many orders each peripheral was given from an old counter to a new one, by the request and its response
abbrev pub GivesOrders : {D P : Type 0} → Ghosts P → Counter D P → Request → Response → Counter D P → Type 0
GivesOrders peripherals old request response new = (part : TotalsPart)
    → OrdersOfStep (machine peripherals old part) request response
    (orders_in peripherals old.devices) (orders_in peripherals new.devices)

-- From an old counter to a new one, a step in which the totals have no part: the request gets this response.
pub record IsStepBeside {D P : Type 0} (peripherals : Ghosts P) (old : Counter D P)
    (request : Request) (response : Response) (new : Counter D P) : Type 0 where
  pub step : (part : TotalsPart) → Step (machine peripherals old part) request response (machine peripherals new part)
  pub totals : new.totals ≡ old.totals
  pub orders : GivesOrders peripherals old request response new
  pub tally : new.tally ≡ old.tally

-- From an old counter to a new one, a step, for all that the disk may leave before it: the request gets this response.
pub record IsStep {D P : Type 0} (bound : DiskGhosts D) (peripherals : Ghosts P)
    (old : Counter D P) (request : Request) (response : Response) (new : Counter D P) : Type 0 where
  pub steps : (left : List Standing) → Leaves bound old.totals left
      → Stepped bound left (machine peripherals old) old.totals request response (machine peripherals new) new.totals
  -- a request that spares the disk is a step whatever the disk is, and doesn't touch it
  pub spared : (left : List Standing) (failures : ℕ)
      → SparesDisk (machine peripherals old (part_with old.totals.totals left failures)) request
      → Spared left failures (machine peripherals old) old.totals request response (machine peripherals new) new.totals
  -- a call that isn't done touches the disk only in a fault, which turns the totals off, or in a recovery, which finds
  -- them off
  pub unchanged : IsUndone response → IsReady old.totals.totals.mode → IsReady new.totals.totals.mode
      → new.totals.disk ≡ old.totals.disk
  -- a request that doesn't spare it is such a step too, or a call at Hard Totals that changes nothing else
  pub otherwise : (left : List Standing) (failures : ℕ)
      → Spared left failures (machine peripherals old) old.totals request response (machine peripherals new) new.totals
      ⊎ ChangesTotalsAlone (machine peripherals old (part_with old.totals.totals left failures)) request
      (machine peripherals new (part_with new.totals.totals left failures))
  pub kept : KeepsDisk bound old.totals.disk new.totals.disk
  -- a peripheral is given an order exactly once, also if nothing is to do
  pub orders : GivesOrders peripherals old request response new
  -- a host gets no order in it and reports nothing, and nothing is forgotten of what it has reported
  pub tally : new.tally ≡ old.tally

-- the bytes stand for what a crash leaves before a run, between two of its steps, or after it
abbrev pub IsLeftDuring : (old : Machine) (steps : List (Request × Response)) (new : Machine)
    → Run old steps new → List ℕ → Type 0
IsLeftDuring old [] new run bytes = StandsForOneOf old.totals.left bytes
IsLeftDuring old (step ∷ steps) new run bytes =
    StandsForOneOf old.totals.left bytes ⊎ IsLeftDuring run.0 steps new run.2 bytes

-- A run of the machine, by what the disk may leave before it: a crash at any moment leaves what may be left before or
-- after one of its steps, and a crash now what may be left after the last.
pub record RunsFrom {D P : Type 0} (bound : DiskGhosts D) (peripherals : Ghosts P)
    (left : List Standing) (old : Counter D P) (steps : List (Request × Response)) (new : Counter D P)
    : Type 0 where
  pub after : List Standing
  pub leaves : Leaves bound new.totals after
  pub run : Run (machine peripherals old (part_of bound old.totals left)) steps
      (machine peripherals new (part_of bound new.totals after))
  pub any_moment : LeavesOnly (bound.state old.totals.disk) (bound.state new.totals.disk)
      (IsLeftDuring (machine peripherals old (part_of bound old.totals left)) steps
      (machine peripherals new (part_of bound new.totals after)) run)

-- from an old counter to a new one, a run: each request gets its response in a step of its own, one after another
abbrev pub IsRun : {D P : Type 0} → DiskGhosts D → Ghosts P
    → Counter D P → List (Request × Response) → Counter D P → Type 0
IsRun {D = D} {P = P} bound peripherals old [] new = new ≡ old
IsRun {D = D} {P = P} bound peripherals old (step ∷ steps) new =
    (mid : Counter D P) × IsStep bound peripherals old step.0 step.1 mid × IsRun bound peripherals mid steps new

-- What a run does whatever the disk is, honest or not. Each request that spares it is a step, by whatever the machine
-- has of the disk. Any other changes nothing but the totals. If all of them spare the disk, it is as it was.
pub record RunsAnyhow {D P : Type 0} (peripherals : Ghosts P) (left : List Standing) (failures : ℕ)
    (old : Counter D P) (steps : List (Request × Response)) (new : Counter D P) : Type 0 where
  pub after : List Standing
  pub is_settled : IsSettled new.totals.totals after
  pub run : RunSparing (machine peripherals old (part_with old.totals.totals left failures)) steps
      (machine peripherals new (part_with new.totals.totals after failures))
  pub spared : AllSpare (machine peripherals old (part_with old.totals.totals left failures)) steps
      (machine peripherals new (part_with new.totals.totals after failures)) run
      → (new.totals.disk ≡ old.totals.disk) × (after ≡ left)

-- The machine is the same, and the totals and their disk are.
pub record Stays {D P : Type 0} (peripherals : Ghosts P) (old new : Counter D P) : Type 0 where
  pub machine : (part : TotalsPart) → machine peripherals new part ≡ machine peripherals old part
  pub totals : new.totals ≡ old.totals

-- What is true of every counter: its machine is sound, and its devices are.
pub record IsCounterSound {D P : Type 0} (peripherals : Ghosts P) (counter : Counter D P) : Type 0 where
  pub machine : (part : TotalsPart) → IsSound (machine peripherals counter part)
  pub devices : AreDevicesSound peripherals counter.devices

-- From a sound counter to a new one, a step: the request gets this response, and the new counter is sound.
pub record Serves {D P : Type 0} (bound : DiskGhosts D) (peripherals : Ghosts P)
    (old : Counter D P) (request : Request) (response : Response) (new : Counter D P) : Type 0 where
  pub step : IsStep bound peripherals old request response new
  pub sound : IsCounterSound peripherals new
