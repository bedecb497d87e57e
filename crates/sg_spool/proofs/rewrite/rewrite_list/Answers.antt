use Rattle.std.proofs.Common.{◌-◌, ℕ, map, subst, sym, refl, arith, None}
use Rattle.std.proofs.lemmas.Result.{err_from_is_err_and}
use Rattle.sg_device.specs.Disk.{EachNow, IsImage}
use Rattle.sg_spool.specs.Rewriting.{past}
use Rattle.sg_spool.specs.Steps.{RingAt, Stems}
use Rattle.sg_device.proofs.DiskCalls.{sync_preserves, sync_rests, sync_durable}
use Rattle.sg_spool.proofs.Gathering.{beyond_cells, join_beyond, still_beyond}
use Rattle.sg_spool.proofs.RewriteCalls.{rewriting, rewriting_on, unchanged_ring, rewritten, new_ring, where_no_memory}
use Rattle.sg_spool.proofs.rewrite.rewrite_list.Goals as goal

pub returns-in_err-end-clause-within : goal.returns-in_err-end-clause-within
returns-in_err-end-clause-within g c = λ es long start. rewriting c.args.cell.now c.args.places es (g.M.Recode.meaning c.args.recode.now) c.args.count c.requires.ordered (g.D.Disk.state c.args.disk.now) (g.D.Disk.state c.write_anew.new.disk) start c.write_anew.ensures.images

pub returns-in_err-sync-clause-within : goal.returns-in_err-sync-clause-within
returns-in_err-sync-clause-within g c = λ es long start. rewriting_on c.args.cell.now c.args.places es (g.M.Recode.meaning c.args.recode.now) c.args.count c.requires.ordered (g.D.Disk.state c.args.disk.now) (g.D.Disk.state c.write_anew.new.disk) start c.write_anew.ensures.images (g.D.Disk.state c.sync.new.self) (sync_rests (g.D.Disk.state c.write_anew.new.disk) (g.D.Disk.state c.sync.new.self) c.sync.result c.sync.ensures.told).still

pub returns-in_err-put-clause-within : goal.returns-in_err-put-clause-within
returns-in_err-put-clause-within g c = λ es long start. rewritten c.args.cell.now c.args.places es (g.M.Recode.meaning c.args.recode.now) c.args.count c.requires.ordered (g.D.Disk.state c.args.disk.now) (g.D.Disk.state c.write_anew.new.disk) start c.write_anew.ensures.images (g.D.Disk.state c.sync.new.self) (sync_preserves (g.D.Disk.state c.write_anew.new.disk) (g.D.Disk.state c.sync.new.self) c.in_ok-sync.ensures.told) c.in_ok-end.end long c.in_ok-end.ensures.after c.in_ok-end.ensures.spelled (sync_durable (g.D.Disk.state c.write_anew.new.disk) (g.D.Disk.state c.sync.new.self) c.in_ok-sync.ensures.told) (c.past-head.result - 64) (omega (arith, c.past-head.ensures.past, c.past-head.ensures.high)) (g.D.Disk.state c.put.new.disk) (c.put.ensures.within c.requires.cell_open)

pub returns-clause-within : goal.returns-clause-within
returns-clause-within g c = λ es long start. rewritten c.args.cell.now c.args.places es (g.M.Recode.meaning c.args.recode.now) c.args.count c.requires.ordered (g.D.Disk.state c.args.disk.now) (g.D.Disk.state c.write_anew.new.disk) start c.write_anew.ensures.images (g.D.Disk.state c.sync.new.self) (sync_preserves (g.D.Disk.state c.write_anew.new.disk) (g.D.Disk.state c.sync.new.self) c.in_ok-sync.ensures.told) c.in_ok-end.end long c.in_ok-end.ensures.after c.in_ok-end.ensures.spelled (sync_durable (g.D.Disk.state c.write_anew.new.disk) (g.D.Disk.state c.sync.new.self) c.in_ok-sync.ensures.told) (c.past-head.result - 64) (omega (arith, c.past-head.ensures.past, c.past-head.ensures.high)) (g.D.Disk.state c.put.new.disk) (c.put.ensures.within c.requires.cell_open)

pub returns-clause-ring : goal.returns-clause-ring
returns-clause-ring g c = λ es long start. subst (λ (k : ℕ). EachNow (g.D.Disk.state c.put.new.disk) (Stems (IsImage (g.D.Disk.state c.args.disk.now)) (RingAt c.put.new.self None k c.in_ok-end.end (map (g.M.Recode.meaning c.args.recode.now) es)))) (sym c.past-head.ensures.past) (new_ring c.args.cell.now c.args.places es (g.M.Recode.meaning c.args.recode.now) c.args.count c.requires.ordered (g.D.Disk.state c.args.disk.now) (g.D.Disk.state c.write_anew.new.disk) start c.write_anew.ensures.images (g.D.Disk.state c.sync.new.self) (sync_preserves (g.D.Disk.state c.write_anew.new.disk) (g.D.Disk.state c.sync.new.self) c.in_ok-sync.ensures.told) c.in_ok-end.end long c.in_ok-end.ensures.after c.in_ok-end.ensures.spelled (sync_durable (g.D.Disk.state c.write_anew.new.disk) (g.D.Disk.state c.sync.new.self) c.in_ok-sync.ensures.told) (c.past-head.result - 64) (omega (arith, c.past-head.ensures.past, c.past-head.ensures.high)) (g.D.Disk.state c.put.new.disk) (c.put.ensures.within c.requires.cell_open) c.put.new.self c.in_ok-put.ensures.answer.ok (c.put.ensures.cell c.in_ok-put.ensures.answer.closed))

pub put-requires : goal.put-requires
put-requires g c = λ open_. beyond_cells c.args.cell.now.selector c.args.cell.now.value (past c.args.places) (g.D.Disk.state c.args.disk.now) (g.D.Disk.state c.sync.new.self) (let high = c.past-head.ensures.high in omega (arith, high, c.past-head.ensures.past)) c.requires.has_cell (join_beyond (past c.args.places) (g.D.Disk.state c.args.disk.now) (g.D.Disk.state c.write_anew.new.disk) (g.D.Disk.state c.sync.new.self) c.write_anew.ensures.images (still_beyond (past c.args.places) (g.D.Disk.state c.write_anew.new.disk) (g.D.Disk.state c.sync.new.self) (sync_preserves (g.D.Disk.state c.write_anew.new.disk) (g.D.Disk.state c.sync.new.self) c.in_ok-sync.ensures.told).still))

pub returns-in_err-end-clause-no_memory : goal.returns-in_err-end-clause-no_memory
returns-in_err-end-clause-no_memory g c =
    let p = err_from_is_err_and c.from_residual.result c.from_residual.ensures.1 in
    rw p.1 (where_no_memory _ p.0 (record {
      ring = λ es start. unchanged_ring c.args.cell.now c.args.places es (g.M.Recode.meaning c.args.recode.now) c.args.count c.requires.ordered (g.D.Disk.state c.args.disk.now) (g.D.Disk.state c.write_anew.new.disk) start c.write_anew.ensures.images;
      cell = refl;
    }))
