use Rattle.std.proofs.Common.{List, map, sym, subst}
use Rattle.sg_buffer.specs.declared.found.BufferEntries.{BufferEntries}
use Rattle.sg_stores.specs.Looking.{AreOpening}
use Rattle.sg_stores.proofs.OpenLemmas.{all-ready}
use Rattle.sg_stores.proofs.stores.Stores.open.Goals as goal

pub renew_all-requires-clause-ready : goal.renew_all-requires-clause-ready
renew_all-requires-clause-ready g c = all-ready c.args.kinds.now (map g.D.Disk.state c.args.disks.items) c.in_ok-stores.found.items c.in_ok-stores.stores c.in_ok-stores.ensures.looked

pub returns-in-Err-clause-refused : goal.returns-in-Err-clause-refused
returns-in-Err-clause-refused g c =
    let all = map g.D.Disk.state c.args.disks.items in
    let looked = subst (λ (founds : List BufferEntries). AreOpening 0 c.args.kinds.now all founds c.in_ok-stores.stores) (sym c.deref.ensures.value) c.in_ok-stores.ensures.looked in
    rw c.into_disks.ensures (c.in-Err.ensures.refused c.args.kinds.now all looked)
