use Rattle.std.proofs.Common.{Vec, sym, ap, ◌∙◌}
use Rattle.std.specs.declared.alloc.Global.{Global}
use Rattle.sg_table.specs.declared.pipe.Test.{Test}
use Rattle.sg_table.specs.declared.pipe.Pipe.TheVariants as pipe
use Rattle.sg_pipes.proofs.Kept.{with-same}
use Rattle.sg_pipes.proofs.pipe.choose.Goals as goal

pub returns-in-If-clause-stays : goal.returns-in-If-clause-stays
returns-in-If-clause-stays c =
    let same = with-same c.in-If.tests c.first_of.new.tests (c.first_of.ensures.stays ∙ c.deref_mut.ensures.value) in
    ap (λ (x : Vec Test Global). pipe.If x c.in-If.other c.in-If.next) same ∙ sym c.in-If.is
