-- The numbers of the standard's names (common chapter).
use Rattle.std.specs.Prelude.{ℕ}
use Rattle.pos_service.specs.declared.code.Code.{Code}
use Rattle.pos_service.specs.declared.code.Code.TheVariants as code
use Rattle.pos_service.specs.declared.order.Reply.{Reply}
use Rattle.pos_service.specs.declared.order.Reply.TheVariants as reply
use Rattle.pos_service.specs.declared.event.Locus.{Locus}
use Rattle.pos_service.specs.declared.event.Locus.TheVariants as locus

-- the number of a result code
abbrev pub number_of : Code → ℕ
number_of code.Success = 0
number_of code.Closed = 101
number_of code.Claimed = 102
number_of code.NotClaimed = 103
number_of code.NoService = 104
number_of code.Disabled = 105
number_of code.Illegal = 106
number_of code.NoHardware = 107
number_of code.Offline = 108
number_of code.NoExist = 109
number_of code.Exists = 110
number_of code.Failure = 111
number_of code.Timeout = 112
number_of code.Busy = 113
number_of code.Extended = 114

-- E_EXTENDED ETOT_NOROOM: there is no room for what is asked (chapter Hard Totals)
abbrev pub etot_noroom : ℕ
etot_noroom = 201

-- E_EXTENDED EPTR_COVER_OPEN: the cover is open (chapter POS Printer)
abbrev pub eptr_cover_open : ℕ
eptr_cover_open = 201

-- E_EXTENDED EPTR_REC_EMPTY: the receipt's paper doesn't suffice (chapter POS Printer)
abbrev pub eptr_rec_empty : ℕ
eptr_rec_empty = 203

-- the result code where a peripheral has said this to an order
abbrev pub code_by : Reply → Code
code_by reply.Done = code.Success
code_by reply.CoverOpen = code.Extended
code_by reply.PaperEnd = code.Extended
code_by reply.LineFault = code.Failure
code_by reply.Offline = code.Offline

-- the extended code with it: EPTR_COVER_OPEN and EPTR_REC_EMPTY with E_EXTENDED
abbrev pub extended_by : Reply → ℕ
extended_by reply.Done = 0
extended_by reply.CoverOpen = eptr_cover_open
extended_by reply.PaperEnd = eptr_rec_empty
extended_by reply.LineFault = 0
extended_by reply.Offline = 0

-- the number of an error's locus
abbrev pub locus_number_of : Locus → ℕ
locus_number_of locus.Output = 1
locus_number_of locus.Input = 2
locus_number_of locus.InputData = 3
