-- Why no more frames are forwarded, and what that means for a frame that can't be kept.
use Rattle.std.specs.Prelude.{Bool, true, false, Result, Ok, Err}
use Rattle.sg_device.specs.declared.fault.SendRefusal.{SendRefusal}
use Rattle.sg_device.specs.declared.fault.SendRefusal.TheVariants.{Fault as SendFault, Later as SendLater, NoMemory as SendNoMemory}
use Rattle.sg_overflow.specs.declared.step.Stop.{Stop}
use Rattle.sg_overflow.specs.declared.step.Stop.TheVariants.{Open, Outlet, Later, Store, NoMemory}

abbrev pub is_open : Stop → Bool
is_open Open = true
is_open Outlet = false
is_open Later = false
is_open Store = false
is_open NoMemory = false

abbrev pub is_store : Stop → Bool
is_store Open = false
is_store Outlet = false
is_store Later = false
is_store Store = true
is_store NoMemory = false

-- the outlet failed, or it was too early for it
abbrev pub is_refused : Stop → Bool
is_refused Open = false
is_refused Outlet = true
is_refused Later = true
is_refused Store = false
is_refused NoMemory = false

abbrev pub stop_of : Result Unit SendRefusal → Stop
stop_of (Ok done) = Open
stop_of (Err SendFault) = Outlet
stop_of (Err SendLater) = Later
stop_of (Err SendNoMemory) = NoMemory

abbrev pub refusal_of : Stop → SendRefusal
refusal_of Open = SendNoMemory
refusal_of Outlet = SendFault
refusal_of Later = SendLater
refusal_of Store = SendFault
refusal_of NoMemory = SendNoMemory
