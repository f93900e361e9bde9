-- Why a call was not decided.
use Rattle.hb_check.specs.declared.lookup.LookFail.{LookFail}
use Rattle.hb_check.specs.declared.lookup.LookFail.TheVariants as look
use Rattle.hb_names.specs.declared.names.NameFail.{NameFail}
use Rattle.hb_names.specs.declared.names.NameFail.TheVariants as name
use Rattle.hb_call.specs.declared.frame.CallFail.{CallFail}
use Rattle.hb_call.specs.declared.frame.CallFail.TheVariants as call

abbrev pub name_cause : NameFail → CallFail
name_cause name.Full = call.Full
name_cause name.NoMemory = call.NoMemory

abbrev pub look_cause : LookFail → CallFail
look_cause look.Full = call.Full
look_cause look.NoMemory = call.NoMemory
