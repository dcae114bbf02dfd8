-- An example of a run, and of its history: the disk fails in a group.
use Rattle.std.specs.Prelude.{◌≡◌, pos, Bool, false, true, List, [], ◌∷◌, ◌++◌, Some, None}
use Rattle.pos_dir.specs.declared.change.Change.TheVariants as file
use Rattle.pos_dir.specs.declared.file.File.{File as PlainFile}
use Rattle.pos_service.specs.declared.answer.Answer.TheVariants as answer
use Rattle.pos_service.specs.declared.answer.Value.TheVariants as value
use Rattle.pos_service.specs.declared.call.Call.TheVariants as call
use Rattle.pos_service.specs.declared.category.Category.TheVariants as category
use Rattle.pos_service.specs.declared.code.Code.TheVariants as code
use Rattle.pos_service.specs.declared.property.Property.TheVariants as property
use Rattle.pos_image.specs.declared.layout.Layout.{Layout}
use Rattle.pos_image.specs.declared.layout.Layout.TheVariants.{Layout1}
use Rattle.pos_totals.specs.HardTotals.{Off}
use Rattle.pos_store.specs.Standing.{Stands}
use Rattle.pos_counter.specs.History.{Group, History, history_of}
use Rattle.pos_counter.specs.Machine.{Machine, machine_with}
use Rattle.pos_counter.specs.Steps.{Request, NewControl, CallOf, Response, Made, Answered, Run}

-- From a machine whose disk stands for these files by a layout, these steps may be run through so that they have this
-- history.
pub record MayHave (first : Machine) (layout : Layout) (start : List PlainFile)
    (steps : List (Request × Response)) (history : History) : Type 0 where
  pub last : Machine
  pub run : Run first steps last
  pub is : history_of layout start first steps last run ≡ history

-- a machine as it begins, with the Hard Totals t1 alone, over a disk that stands for no files by layout 1
abbrev pub new_machine : Machine
new_machine = machine_with [] [] [] (Some (116 ∷ 49 ∷ [])) (record {
  totals = record { layout = Layout1; mode = Off; tail = 0; next = 1; area = None; transactions = [] };
  left = Stands Layout1 [] 1 ∷ [];
  failures = 0;
})

-- the first control sets DeviceEnabled, which is done
abbrev pub sets_enabled : Bool → Request × Response
sets_enabled enabled =
    (CallOf 0 (call.Set property.DeviceEnabled (value.Truth enabled)), Answered (answer.Done value.Empty))

-- a control of Hard Totals is made, opened and enabled, and asks for a file of one byte, in which the disk fails
abbrev pub steps_into_doubt : List (Request × Response)
steps_into_doubt =
    (NewControl tt category.HardTotals, Made 0)
    ∷ (CallOf 0 (call.Open (116 ∷ 49 ∷ [])), Answered (answer.Done value.Empty))
    ∷ sets_enabled true
    ∷ (CallOf 0 (call.Create (97 ∷ []) (pos 1) false), Answered (answer.Refused code.Failure 0))
    ∷ []

-- and it is disabled and enabled again
abbrev pub steps_through_doubt : List (Request × Response)
steps_through_doubt = steps_into_doubt ++ sets_enabled false ∷ sets_enabled true ∷ []

-- the group that makes the file
abbrev pub a_group : Group
a_group = file.Create (97 ∷ []) 1 ∷ []
