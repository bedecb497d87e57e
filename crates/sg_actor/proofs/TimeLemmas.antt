-- The moments of what was pulled.
use Rattle.std.proofs.Common.{ℕ, List, [], take}
use Rattle.sg_device.specs.declared.inlet.Pull.{Pull}
use Rattle.sg_device.specs.declared.inlet.Pull.TheVariants.{Bytes, Next, Idle, End}
use Rattle.sg_actor.specs.Reading.{bytes_pulled, IsUnfed}
use Rattle.sg_frame.specs.Timely.{AreTimely}
use Rattle.sg_frame.proofs.TimelyLemmas.{timely-stamped}

pub timely-pulled : (room : ℕ) (buffer : List ℕ) (pull : Pull) → IsUnfed room pull → AreTimely (bytes_pulled pull buffer)
timely-pulled room buffer (Bytes len at) h = timely-stamped (take len buffer) at h.1
timely-pulled room buffer Next h = tt
timely-pulled room buffer Idle h = tt
timely-pulled room buffer End h = tt
