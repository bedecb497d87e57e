use Rattle.std.proofs.Common.{◌∙◌, ap, List, []}
use Rattle.sg_memory_disk.specs.DiskChange.{events_of}
use Rattle.sg_memory_disk.specs.declared.disk_change.DiskChange.{DiskChange}
use Rattle.sg_memory_disk.proofs.Changes.{events_of-push}
use Rattle.sg_memory_disk.proofs.disk.add.Goals as goal

pub returns : goal.returns
returns c = ap (λ (l : List DiskChange). events_of [] l) c.in_ok-push.ensures.items ∙ events_of-push [] c.args.changes.now.items c.args.change
