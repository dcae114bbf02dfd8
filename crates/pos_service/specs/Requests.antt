-- Requests to a counter and its responses, by what is told of the peripherals in them.
use Rattle.pos_service.specs.declared.request.Request.{Request}
use Rattle.pos_service.specs.declared.request.Request.TheVariants as request
use Rattle.pos_service.specs.declared.request.Response.{Response}
use Rattle.pos_service.specs.declared.request.Response.TheVariants as response

-- the request, by what is told of the peripheral that is to be attached
abbrev pub request_by : {N C P Q : Type 0} → (P → Q) → Request N C P → Request N C Q
request_by tell (request.NewControl name category) = request.NewControl name category
request_by tell (request.CallOf control call) = request.CallOf control call
request_by tell (request.InputTo device input) = request.InputTo device input
request_by tell (request.WorkOn device) = request.WorkOn device
request_by tell (request.Deliver control reply) = request.Deliver control reply
request_by tell (request.Snapshot device) = request.Snapshot device
request_by tell (request.Attach device peripheral) = request.Attach device (tell peripheral)
request_by tell (request.Detach device) = request.Detach device

-- the response, by what is told of the peripheral that it hands out
abbrev pub response_by : {P Q : Type 0} → (P → Q) → Response P → Response Q
response_by tell (response.Made number) = response.Made number
response_by tell response.Full = response.Full
response_by tell (response.Answered answer) = response.Answered answer
response_by tell response.TakenIn = response.TakenIn
response_by tell response.NoDevice = response.NoDevice
response_by tell response.WrongInput = response.WrongInput
response_by tell (response.Worked result) = response.Worked result
response_by tell (response.Delivered event) = response.Delivered event
response_by tell (response.Shown snapshot) = response.Shown snapshot
response_by tell response.Attached = response.Attached
response_by tell (response.NotAttached fault peripheral) = response.NotAttached fault (tell peripheral)
response_by tell (response.Detached peripheral) = response.Detached (tell peripheral)
response_by tell (response.NotDetached fault) = response.NotDetached fault
response_by tell response.OutOfMemory = response.OutOfMemory
