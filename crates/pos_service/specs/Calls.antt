-- The methods and their calls, what is known of each call beforehand, and the refusals of open and close.
use Rattle.std.specs.Prelude.{ℕ, ℤ, Bool, true, false, List, [], ◌∷◌, Option, Some, None, is_some, is_none, codes}
use Rattle.pos_service.specs.declared.category.Category.{Category}
use Rattle.pos_service.specs.declared.category.Category.TheVariants as category
use Rattle.pos_service.specs.declared.call.Call.{Call}
use Rattle.pos_service.specs.declared.call.Call.TheVariants as call
use Rattle.pos_service.specs.declared.call.CallRow.{CallRow}
use Rattle.pos_service.specs.declared.code.Code.TheVariants as code
use Rattle.pos_service.specs.declared.needs.ClaimNeed.{ClaimNeed}
use Rattle.pos_service.specs.declared.needs.ClaimNeed.TheVariants as claim_need
use Rattle.pos_service.specs.declared.needs.Needs.{Needs}
use Rattle.pos_service.specs.declared.context.OpenDevice.{OpenDevice}
use Rattle.pos_service.specs.declared.context.OpenTarget.{OpenTarget}
use Rattle.pos_service.specs.declared.context.OpenTarget.TheVariants as finding
use Rattle.pos_service.specs.Categories.{is_category}
use Rattle.pos_service.specs.Controls.{Control}
use Rattle.pos_service.specs.Refusals.{Row, when}

-- the kinds of arguments
pub data ArgumentKind : Type 0 where
  Number Truth Bytes : ArgumentKind

-- an argument of a kind
abbrev pub argument_of : ArgumentKind → Type 0
argument_of Number = ℤ
argument_of Truth = Bool
argument_of Bytes = List ℕ

-- the kinds of a method's arguments, and the call that is made of them
pub data Signature : Type 0 where
  OfNone : Call → Signature
  OfOne : (a : ArgumentKind) → (argument_of a → Call) → Signature
  OfTwo : (a b : ArgumentKind) → (argument_of a → argument_of b → Call) → Signature
  OfThree : (a b c : ArgumentKind) → (argument_of a → argument_of b → argument_of c → Call) → Signature
  OfFour : (a b c d : ArgumentKind) → (argument_of a → argument_of b → argument_of c → argument_of d → Call)
      → Signature

-- the methods that belong to a category: the standard's word of each, and its signature
abbrev pub methods : List (List ℕ × Signature)
methods =
    (codes "openDrawer", OfNone call.OpenDrawer)
    ∷ (codes "clearInput", OfNone call.ClearInput)
    ∷ (codes "clearInputProperties", OfNone call.ClearInputProperties)
    ∷ (codes "displayText", OfTwo Bytes Number call.DisplayText)
    ∷ (codes "displayTextAt", OfFour Number Number Bytes Number call.DisplayTextAt)
    ∷ (codes "clearText", OfNone call.ClearText)
    ∷ (codes "scrollText", OfTwo Number Number call.ScrollText)
    ∷ (codes "printNormal", OfTwo Number Bytes call.PrintNormal)
    ∷ (codes "printImmediate", OfTwo Number Bytes call.PrintImmediate)
    ∷ (codes "cutPaper", OfOne Number call.CutPaper)
    ∷ (codes "clearOutput", OfNone call.ClearOutput)
    ∷ (codes "create", OfThree Bytes Number Truth call.Create)
    ∷ (codes "delete", OfOne Bytes call.Delete)
    ∷ (codes "find", OfOne Bytes call.Find)
    ∷ (codes "findByIndex", OfOne Number call.FindByIndex)
    ∷ (codes "read", OfThree Number Number Number call.Read)
    ∷ (codes "write", OfThree Number Number Bytes call.Write)
    ∷ (codes "setAll", OfTwo Number Number call.SetAll)
    ∷ (codes "rename", OfTwo Number Bytes call.Rename)
    ∷ (codes "claimFile", OfTwo Number Number call.ClaimFile)
    ∷ (codes "releaseFile", OfOne Number call.ReleaseFile)
    ∷ (codes "beginTrans", OfNone call.BeginTrans)
    ∷ (codes "commitTrans", OfNone call.CommitTrans)
    ∷ (codes "rollback", OfNone call.Rollback) ∷ []

-- what is known of a call that every category has
abbrev pub common_row : CallRow
common_row = record { category = None; claim = claim_need.Any; is_enabled = false; takes_memory = false }

-- what is known of a category's call
abbrev pub own_row : Category → ClaimNeed → Bool → Bool → CallRow
own_row category claim is_enabled takes_memory =
    record { category = Some category; claim = claim; is_enabled = is_enabled; takes_memory = takes_memory }

-- What is known of each call beforehand: the category that has it (none where each has it), what it asks of the claim,
-- whether the device has to be enabled, and whether it may want memory. Whether a call that every category has may want
-- memory depends on the control: pos_counter says it.
abbrev pub row_of : Call → CallRow
row_of (call.Open name) = common_row
row_of call.Close = common_row
row_of (call.Claim timeout) = common_row
row_of call.Release = common_row
row_of (call.Set p v) = common_row
row_of (call.Get p) = common_row
row_of call.OpenDrawer = own_row category.CashDrawer claim_need.NoOther true true
row_of call.ClearInput = own_row category.Scanner claim_need.Own false false
row_of call.ClearInputProperties = own_row category.Scanner claim_need.Own false false
row_of (call.DisplayText text attribute) = own_row category.LineDisplay claim_need.Own true true
row_of (call.DisplayTextAt row column text attribute) = own_row category.LineDisplay claim_need.Own true true
row_of call.ClearText = own_row category.LineDisplay claim_need.Own true true
row_of (call.ScrollText direction units) = own_row category.LineDisplay claim_need.Own true true
row_of (call.PrintNormal station text) = own_row category.PosPrinter claim_need.Own true true
row_of (call.PrintImmediate station text) = own_row category.PosPrinter claim_need.Own true true
row_of (call.CutPaper percentage) = own_row category.PosPrinter claim_need.Own true true
row_of call.ClearOutput = own_row category.PosPrinter claim_need.Own false false
row_of (call.Create name size detection) = own_row category.HardTotals claim_need.NoOther true true
row_of (call.Delete name) = own_row category.HardTotals claim_need.NoOther true true
row_of (call.Find name) = own_row category.HardTotals claim_need.NoOther true false
row_of (call.FindByIndex index) = own_row category.HardTotals claim_need.NoOther true true
row_of (call.Read handle offset count) = own_row category.HardTotals claim_need.NoOther true true
row_of (call.Write handle offset bytes) = own_row category.HardTotals claim_need.NoOther true true
row_of (call.SetAll handle n) = own_row category.HardTotals claim_need.NoOther true true
row_of (call.Rename handle name) = own_row category.HardTotals claim_need.NoOther true true
row_of (call.ClaimFile handle timeout) = own_row category.HardTotals claim_need.Any true false
row_of (call.ReleaseFile handle) = own_row category.HardTotals claim_need.Any true false
row_of call.BeginTrans = own_row category.HardTotals claim_need.Any true false
row_of call.CommitTrans = own_row category.HardTotals claim_need.NoOther true true
row_of call.Rollback = own_row category.HardTotals claim_need.Any true false

-- a call that every category has
abbrev pub is_common : Call → Bool
is_common asked = is_none (row_of asked).category

-- the call is one of the category's own, besides those that every category has
abbrev pub has_call : Category → Call → Bool
has_call c asked = is_category (row_of asked).category c

-- what a call of a category's own asks of a control before anything else
abbrev pub needs_of : Category → Call → Needs
needs_of c asked = record {
  is_open = true;
  is_there = has_call c asked;
  claim = (row_of asked).claim;
  is_enabled = (row_of asked).is_enabled;
}

-- the call is one of the category's own that may want memory
abbrev pub takes_memory : Call → Bool
takes_memory asked = (row_of asked).takes_memory

-- nothing of the name is there for the control's category
abbrev pub is_not_there : OpenTarget → Bool
is_not_there finding.NotThere = true
is_not_there finding.Vacant = false
is_not_there (finding.There device) = false

-- the device has no peripheral
abbrev pub is_vacant : OpenTarget → Bool
is_vacant finding.NotThere = false
is_vacant finding.Vacant = true
is_vacant (finding.There device) = false

-- the device that can be opened
abbrev pub device_found : OpenTarget → Option OpenDevice
device_found finding.NotThere = None
device_found finding.Vacant = None
device_found (finding.There device) = Some device

-- open, by what is found under the name
abbrev pub open_rows : Control → OpenTarget → List Row
open_rows control found =
    when (is_some control.device) code.Illegal
    ∷ when (is_not_there found) code.NoExist
    ∷ when (is_vacant found) code.NoService ∷ []

abbrev pub close_rows : Control → List Row
close_rows control = when (is_none control.device) code.Closed ∷ []
