use Rattle.std.proofs.Common.{◌≡◌, ◌∙◌, ◌+◌, ◌∷◌, ◌++◌, [], sym, ap, arith, length, take, drop}
use Rattle.std.proofs.lemmas.List.{drop_more, take_more}
use Rattle.sg_offers.specs.Payloads.{buffers_of}
use Rattle.sg_offers.specs.Rooms.{seen_in}
use Rattle.sg_core.proofs.AppendSteps.{staged-all-start, marks-start, more-taken, more-skip}
use Rattle.sg_core.proofs.appends.stage_all.Goals as goal
use Rattle.sg_core.proofs.appends.stage_all.Goals.{then-payload, else-payload}

pub loop-payload-init : goal.loop-payload-init
loop-payload-init g c = record {
  to = c.requires.to;
  len = c.requires.flags;
  all = staged-all-start c.args.stores.now (buffers_of (seen_in c.args.sinks.now));
  marked = marks-start c.args.staged.now;
}

pub loop-payload-preserved : goal.loop-payload-preserved
loop-payload-preserved g c =
    let k = c.loop-payload.payload-index in
    let ps = c.args.payloads.now in
    let p = c.payload-item.result in
    let buffers = buffers_of (seen_in c.args.sinks.now) in
    let parts : drop k ps ≡ p ∷ drop (k + 1) ps = drop_more ps k p (omega arith) ∙ ap (λ x. x ∷ drop (k + 1) ps) (sym c.payload-item.is) in
    let front : take (k + 1) ps ≡ take k ps ++ p ∷ [] = take_more ps k p (omega arith) ∙ ap (λ x. take k ps ++ x ∷ []) (sym c.payload-item.is) in
    let all = rw parts at c.loop-payload.invariant in
    elim c.if-payload.branch [
      | then-payload w ↦ more-taken c.args.stores.now c.loop-payload.stores c.if-payload.stores buffers (length c.args.sinks.now) c.args.staged.now c.loop-payload.staged c.if-payload.staged (take k ps) (take (k + 1) ps) (drop (k + 1) ps) p
          all front w.if-payload.true (rw w.stores-is w.stage_one.ensures) w.staged-is
      | else-payload w ↦ rw (w.stores-is, w.staged-is) (more-skip c.args.stores.now c.loop-payload.stores buffers (length c.args.sinks.now) c.args.staged.now c.loop-payload.staged (take k ps) (take (k + 1) ps) (drop (k + 1) ps) p
          all front w.if-payload.false)
    ]
