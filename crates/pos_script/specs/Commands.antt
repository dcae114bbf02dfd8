-- What a line of a script asks (docs/reference/console.md, "Lines").
use Rattle.std.specs.Prelude.{ℕ, Bool, true, false, List, [], ◌∷◌, Option, Some, None, bytes_eq, codes, if◌then◌else◌}
use Rattle.std.specs.Map.{lookup}
use Rattle.pos_service.specs.declared.call.Call.{Call}
use Rattle.pos_service.specs.declared.call.Call.TheVariants as call
use Rattle.pos_service.specs.declared.input.Input.{Input}
use Rattle.pos_service.specs.declared.input.Input.TheVariants as input
use Rattle.pos_service.specs.declared.event.ErrorReply.{ErrorReply}
use Rattle.pos_service.specs.declared.event.ErrorReply.TheVariants as reply
use Rattle.pos_service.specs.declared.request.Request.{Request}
use Rattle.pos_service.specs.declared.request.Request.TheVariants as request
use Rattle.pos_script.specs.Lines.{words_of, is_well_spelled}
use Rattle.pos_script.specs.declared.command.CallVerb.{CallVerb}
use Rattle.pos_script.specs.declared.command.CallVerb.TheVariants as call_verb
use Rattle.pos_script.specs.declared.command.DeviceVerb.{DeviceVerb}
use Rattle.pos_script.specs.declared.command.DeviceVerb.TheVariants as device_verb
use Rattle.pos_script.specs.declared.command.Verb.{Verb}
use Rattle.pos_script.specs.declared.command.Verb.TheVariants as verb
use Rattle.pos_script.specs.Arguments.{Reading, misshapen, become, one, from_none, from_one, from_two, from_three}
use Rattle.pos_service.specs.Names.{is_device_name}
use Rattle.pos_script.specs.Words.{bytes_shape, category_shape, count_shape, device_shape, number_shape, property_shape}
use Rattle.pos_script.specs.Words.{value_shape, error_reply_shape}
use Rattle.pos_script.specs.Methods.{call_of}

-- what a line asks: controls by their names, and the spare that is to serve a device by its number
abbrev pub LineRequest : Type 0
LineRequest = Request (List ℕ) (List ℕ) ℕ

-- a method of `call CONTROL METHOD`, and its arguments
abbrev pub method_of : List (List ℕ) → Reading Call
method_of [] = misshapen
method_of (method ∷ words) = call_of method words

-- a call of a verb, by the words behind the control's name
abbrev pub called : CallVerb → List (List ℕ) → Reading Call
called call_verb.Open words = from_one device_shape (λ device. call.Open device.name) words
called call_verb.Close words = from_none call.Close words
called call_verb.Claim words = from_one number_shape call.Claim words
called call_verb.Release words = from_none call.Release words
called call_verb.Set words = from_two property_shape value_shape call.Set words
called call_verb.Get words = from_one property_shape call.Get words
called call_verb.Method words = method_of words

-- the last word of a line, which is one of two: whether it is the first of them
abbrev pub choice_of : List ℕ → List ℕ → List (List ℕ) → Reading Bool
choice_of first second [] = misshapen
choice_of first second (word ∷ words) =
    if bytes_eq word first then from_none true words
    else (if bytes_eq word second then from_none false words else misshapen)

-- what happens at a printer, by its word and the words behind it
abbrev pub printer_input_of : List ℕ → List (List ℕ) → Reading Input
printer_input_of word words =
    if bytes_eq word (codes "cover") then become input.CoverMoved (choice_of (codes "open") (codes "closed") words)
    else (if bytes_eq word (codes "paper") then from_one count_shape input.PaperLoaded words else misshapen)

-- what happens at a device, by its word and the words behind it
abbrev pub input_of : List ℕ → List (List ℕ) → Reading Input
input_of word words =
    if bytes_eq word (codes "open") then from_none (input.DrawerMoved true) words
    else (if bytes_eq word (codes "closed") then from_none (input.DrawerMoved false) words
    else (if bytes_eq word (codes "scan") then from_three count_shape bytes_shape bytes_shape input.Scan words
    else (if bytes_eq word (codes "fault") then from_none input.ScanFault words
    else (if bytes_eq word (codes "power") then become input.PowerMoved (choice_of (codes "on") (codes "off") words)
    else printer_input_of word words))))

-- what happens at a device
abbrev pub happening : List (List ℕ) → Reading Input
happening [] = misshapen
happening (word ∷ words) = input_of word words

-- the answer to an ErrorEvent, which is the default one where no word gives it
abbrev pub reply_of : List (List ℕ) → Reading ErrorReply
reply_of [] = from_none reply.Default []
reply_of (word ∷ words) = one error_reply_shape (word ∷ words)

-- what a verb asks of a device
abbrev pub asked_of : DeviceVerb → List ℕ → LineRequest
asked_of device_verb.Show name = request.Snapshot name
asked_of device_verb.Work name = request.WorkOn name
asked_of device_verb.Detach name = request.Detach name

-- a line of a verb, by the name of a control or a device and the words behind it
abbrev pub line_of : Verb → List ℕ → List (List ℕ) → Reading LineRequest
line_of verb.New name words = become (λ category. request.NewControl name category) (one category_shape words)
line_of (verb.Call by) name words = become (λ call. request.CallOf name call) (called by words)
line_of verb.Input name words = become (λ input. request.InputTo name input) (happening words)
line_of verb.Deliver name words = become (λ reply. request.Deliver name reply) (reply_of words)
line_of verb.Attach name words = become (λ spare. request.Attach name spare) (one count_shape words)
line_of (verb.Device by) name words = become (λ by. asked_of by name) (from_none by words)

-- the verbs, and their words
abbrev pub verbs : List (List ℕ × Verb)
verbs =
    (codes "call", verb.Call call_verb.Method)
    ∷ (codes "get", verb.Call call_verb.Get)
    ∷ (codes "set", verb.Call call_verb.Set)
    ∷ (codes "deliver", verb.Deliver)
    ∷ (codes "input", verb.Input)
    ∷ (codes "open", verb.Call call_verb.Open)
    ∷ (codes "claim", verb.Call call_verb.Claim)
    ∷ (codes "release", verb.Call call_verb.Release)
    ∷ (codes "close", verb.Call call_verb.Close)
    ∷ (codes "new", verb.New)
    ∷ (codes "show", verb.Device device_verb.Show)
    ∷ (codes "work", verb.Device device_verb.Work)
    ∷ (codes "attach", verb.Attach)
    ∷ (codes "detach", verb.Device device_verb.Detach)
    ∷ []

-- the verb of this word
abbrev pub verb_named : List ℕ → Option Verb
verb_named word = lookup (bytes_eq word) verbs

-- a line, by its verb
abbrev pub line_by : Option Verb → List ℕ → List (List ℕ) → Reading LineRequest
line_by None name words = misshapen
line_by (Some is) name words = line_of is name words

-- what the words of a line ask: the second is the name of a control or a device
abbrev pub request_of_words : List (List ℕ) → Reading LineRequest
request_of_words [] = misshapen
request_of_words (verb ∷ []) = misshapen
request_of_words (verb ∷ name ∷ words) = if is_device_name name then line_by (verb_named verb) name words else misshapen

-- what a line that isn't quiet asks
abbrev pub asked_by : List ℕ → Reading LineRequest
asked_by line = if is_well_spelled line then request_of_words (words_of line) else misshapen
