use Rattle.sg_loaded.proofs.Loads.{loads-both, text-loads, text-faulty, text-unread}
use Rattle.sg_expand.proofs.Sizes.{few-tokens}
use Rattle.sg_loaded.proofs.loading.load_text.Goals as goal

pub load_expanded-requires : goal.load_expanded-requires
load_expanded-requires g c =
    let (last, (runs, made)) = c.in-Ok-expand.ensures.exact in
    few-tokens c.expansions_stay_within.ensures c.in-Ok.name c.args.text.now (g.W.Machine.state c.args.world.now) (g.W.Machine.state c.expand.new.files) last c.in-Ok-expand.expanded.tokens runs made.0

pub returns-in-Ok-expand-clause-loads : goal.returns-in-Ok-expand-clause-loads
returns-in-Ok-expand-clause-loads g c = λ first reads is.
    let w = g.W.Machine.state c.args.world.now in
    let read = g.W.Machine.state c.expand.new.files in
    let new = g.W.Machine.state c.load_expanded.new.world in
    let (last, (runs, made)) = c.in-Ok-expand.ensures.exact in
    text-loads first w read new c.args.file.now c.in-Ok.name c.args.text.now c.in-Ok-expand.expanded.tokens c.in-Ok-expand.expanded.names last c.load_expanded.result
    reads c.in-Ok-expand.ensures.reads is c.in-Ok.ensures runs made.0 made.1 c.load_expanded.ensures.loads

pub returns-in-Ok-expand-clause-only : goal.returns-in-Ok-expand-clause-only
returns-in-Ok-expand-clause-only g c =
    loads-both (g.W.Machine.state c.args.world.now) (g.W.Machine.state c.expand.new.files) (g.W.Machine.state c.load_expanded.new.world) c.in-Ok-expand.ensures.reads c.load_expanded.ensures.only

pub returns-in-Err-Bad-clause-loads : goal.returns-in-Err-Bad-clause-loads
returns-in-Err-Bad-clause-loads g c = rw c.in-Err-Bad.field-0-is (λ first reads is.
    let w = g.W.Machine.state c.args.world.now in
    let new = g.W.Machine.state c.expand.new.files in
    let exact = rw c.in-Err-Bad.field-0-is at c.in-Err-Bad.ensures.exact in
    text-faulty first w new c.args.file.now c.in-Ok.name c.args.text.now c.in-Err-Bad.fault c.in-Err-Bad.names reads is c.in-Ok.ensures exact)

pub returns-in-Err-ReadFault-clause-loads : goal.returns-in-Err-ReadFault-clause-loads
returns-in-Err-ReadFault-clause-loads g c = rw c.in-Err-ReadFault.field-0-is (λ first reads is.
    let w = g.W.Machine.state c.args.world.now in
    let new = g.W.Machine.state c.expand.new.files in
    let exact = rw c.in-Err-ReadFault.field-0-is at c.in-Err-ReadFault.ensures.exact in
    let (names, (runs, (rose, unread))) = exact in
    text-unread first w new c.args.file.now c.in-Ok.name c.args.text.now c.in-Err-ReadFault.name names reads is c.in-Ok.ensures runs rose unread)
