use Rattle.std.proofs.Common.{◌∙◌, ◌<◌, length, refl, ap, arith}
use Rattle.std.proofs.lemmas.Option.{slice_get_read}
use Rattle.sg_list.proofs.ListLemmas.{length-change}
use Rattle.sg_stores.proofs.OpenLemmas.{renewing-more, renewing-refused, renewing-done, ready-more}
use Rattle.sg_stores.proofs.opening.renew_all.Goals as goal

pub overflow_cast-s : goal.overflow_cast-s
overflow_cast-s g c = (let n = c.loop-s.invariant.count in let m = c.len-s-end.ensures in omega (arith, c.loop-s-test.true, n, m, c.requires.few))

pub returns-in-Err-clause-refused : goal.returns-in-Err-clause-refused
returns-in-Err-clause-refused g c = λ kinds disks opening.
    let low : c.loop-s.s < length c.args.found.now = let m = c.len-s-end.ensures in omega (arith, c.loop-s-test.true, m, c.requires.count) in
    let there = slice_get_read c.args.found.now (length c.args.found.now) c.loop-s.s c.index-found-s.result refl low c.index-found-s.is in
    let back = renewing-refused c.loop-s.s kinds disks c.args.found.now c.loop-s.stores c.renew.new.self c.index-found-s.result (c.loop-s.invariant.so_far kinds disks opening) there c.in-Err.refusal c.in-Err.ensures in
    rw c.refusal_at.ensures back

pub loop-s-preserved : goal.loop-s-preserved
loop-s-preserved g c =
    let low : c.loop-s.s < length c.args.found.now = let m = c.len-s-end.ensures in omega (arith, c.loop-s-test.true, m, c.requires.count) in
    let there = slice_get_read c.args.found.now (length c.args.found.now) c.loop-s.s c.index-found-s.result refl low c.index-found-s.is in
    let inv = c.loop-s.invariant in
    record {
      count = ap length c.renew.ensures.others ∙ length-change c.loop-s.stores c.loop-s.s (λ _. c.renew.ensures.new) ∙ inv.count;
      ready = ready-more c.loop-s.s c.index-found-s.result c.in_default.field-0 c.loop-s.stores c.renew.new.self c.in_default.ensures inv.ready;
      so_far = λ kinds disks opening. renewing-more c.loop-s.s kinds disks c.args.found.now c.loop-s.stores c.renew.new.self c.index-found-s.result (inv.so_far kinds disks opening) there c.in_default.field-0 c.in_default.ensures;
    }

pub returns-clause-opened : goal.returns-clause-opened
returns-clause-opened g c = λ kinds disks opening.
    let inv = c.loop-s.invariant in
    renewing-done c.loop-s.s kinds disks c.args.found.now c.loop-s.stores (let n = inv.count in let m = c.len-s-end.ensures in omega (arith, c.loop-s-test.false, n, m)) (inv.so_far kinds disks opening)
