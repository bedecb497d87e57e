use Rattle.std.proofs.Common.{subst}
use Rattle.sg_spool.specs.Ring.{Entries}
use Rattle.sg_buffer.specs.Entries.{AreStoredAs}
use Rattle.sg_buffer.proofs.Stored.{stored_one}
use Rattle.sg_buffer.proofs.laws.lists_are_one.Goals as goal

pub returns : goal.returns
returns c = λ a b bytes x y.
    let same = c.bytes_have_one_meaning.ensures.one x.payloads y.payloads bytes x.list y.list in
    stored_one c.spellings_are_read.ensures.one a b y.payloads (subst (λ (l : Entries). AreStoredAs a l) same x.stored) y.stored
