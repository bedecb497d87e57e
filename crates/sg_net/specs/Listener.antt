-- A listener that slots share.
use Rattle.std.specs.Prelude.{◌≡◌, ℕ, List}
use Rattle.sg_net.specs.declared.listener.Listener.{Listener}

-- it was bound to this address and port
abbrev pub IsBoundTo : List ℕ → ℕ → Listener → Type 0
IsBoundTo ip port listener = (listener.ip ≡ ip) × (listener.port ≡ port)
