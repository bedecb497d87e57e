-- The moments of what was pulled.
use Rattle.std.proofs.Common.{◌-◌, [], subst, sym}
use Rattle.sg_frame.specs.Items.{Item}
use Rattle.sg_frame.specs.Framing.{Framing, GivesItem}
use Rattle.sg_frame.specs.Timely.{AreTimely}
use Rattle.sg_frame.proofs.TimelyLemmas.{timely-drop}

-- and what is left behind it came at moments of pulls
pub gives-left : (f f' : Framing) (item : Item) → AreTimely f.held → GivesItem f f' item → AreTimely f'.held
gives-left f f' item h gives = subst (λ (x : Framing). AreTimely x.held) (sym gives.rest) (timely-drop (item.end - f.place) f.held h)
