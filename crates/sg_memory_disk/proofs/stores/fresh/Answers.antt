use Rattle.std.proofs.Common.{◌≡◌, List, ℕ, replicate, subst, rules}
use Rattle.std.specs.Prelude.{IfOk}
use Rattle.sg_memory_disk.specs.MemoryDisk.{disk_of, fresh_disk}
use Rattle.sg_memory_disk.proofs.stores.fresh.Goals as goal

pub returns : goal.returns
returns c =
    let zeros : c.in_ok-vec.field-0.items ≡ replicate {A = ℕ} 128 0 = search rules in
    subst (λ (l : List ℕ). IfOk c.new.result (λ disk. disk_of disk ≡ fresh_disk l)) zeros c.new.ensures.made
