-- Disk-buffers of a setup.
use Rattle.sg_machine.specs.declared.setup.BufferSetup.{BufferSetup}
use Rattle.std.proofs.Common.{Some, subst, ℕ, ◌≡◌, ◌≤◌}

pub within-some : (n most s : ℕ) (buffer : BufferSetup) → Some (record { store = s; capacity = n }) ≡ Some buffer → n ≤ most → buffer.capacity ≤ most
within-some n most s buffer h le =
    let is : record { store = s; capacity = n } ≡ buffer = cc in
    subst (λ (x : BufferSetup). x.capacity ≤ most) is le
