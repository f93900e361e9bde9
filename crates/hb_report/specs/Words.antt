-- The words of a report for stops, and for what is wrong in a body.
use Rattle.std.specs.Prelude.{ℕ, List, codes}
use Rattle.hb_deriv.specs.declared.ill.Reason.{Reason}
use Rattle.hb_deriv.specs.declared.ill.Reason.TheVariants as reason
use Rattle.hb_eval.specs.declared.stop.Stop.{Stop}
use Rattle.hb_eval.specs.declared.stop.Stop.TheVariants as stop

abbrev pub stop_word : Stop → List ℕ
stop_word stop.NilValue = codes "NilValue"
stop_word stop.NoBody = codes "NoBody"
stop_word (stop.IllTyped ill) = codes "IllTyped"
stop_word stop.Overflow = codes "Overflow"
stop_word stop.LongText = codes "LongText"
stop_word stop.OutputFull = codes "OutputFull"
stop_word stop.Busy = codes "Busy"
stop_word stop.BadName = codes "BadName"
stop_word stop.Deep = codes "Deep"
stop_word stop.Full = codes "Full"
stop_word stop.Worn = codes "Worn"
stop_word stop.Steps = codes "Steps"
stop_word stop.NoType = codes "NoType"
stop_word stop.BadArgs = codes "BadArgs"
stop_word stop.BadOperand = codes "BadOperand"
stop_word stop.Unbound = codes "Unbound"
stop_word stop.NoSelf = codes "NoSelf"

abbrev pub reason_word : Reason → List ℕ
reason_word reason.Unbound = codes "Unbound"
reason_word reason.NoType = codes "NoType"
reason_word reason.Receiver = codes "Receiver"
reason_word reason.Count = codes "Count"
reason_word reason.Argument = codes "Argument"
reason_word reason.Operand = codes "Operand"
reason_word reason.Loop = codes "Loop"
reason_word reason.Result = codes "Result"
