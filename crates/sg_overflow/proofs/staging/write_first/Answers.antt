use Rattle.std.proofs.Common.{◌≡◌, ◌∙◌, true, false, sym, subst}
use Rattle.sg_spool.proofs.Calls.{lasts_trans}
use Rattle.sg_overflow.specs.Staging.{StageStop}
use Rattle.sg_overflow.specs.Stops.{is_store}
use Rattle.sg_overflow.specs.declared.step.Stop.{Stop}
use Rattle.sg_overflow.proofs.Stagings.{images_committed, written_first, stage_works, write_as, stage_failed, store_is}
use Rattle.sg_overflow.proofs.staging.write_first.Goals as goal

pub returns-then-is_store-clause-written : goal.returns-then-is_store-clause-written
returns-then-is_store-clause-written g c =
    let s = c.stage_first-staged in
    let is : is_store s.result.1 ≡ true = sym c.is_store.ensures ∙ c.if-is_store.true in
    stage_failed g.D.Disk.state c.args.spool.now s.new.spool c.args.memory.now s.result.0 s.result.1 is s.ensures.staged

pub returns-then-is_store-clause-stop : goal.returns-then-is_store-clause-stop
returns-then-is_store-clause-stop g c =
    let s = c.stage_first-staged in
    let is : is_store s.result.1 ≡ true = sym c.is_store.ensures ∙ c.if-is_store.true in
    subst (λ (stop : Stop). StageStop c.args.n s.result.0 stop) (store_is s.result.1 is) s.ensures.stop

pub returns-in-Ok-clause-lasts : goal.returns-in-Ok-clause-lasts
returns-in-Ok-clause-lasts g c =
    let s = c.stage_first-staged in
    lasts_trans g.D.Disk.state c.args.spool.now s.new.spool c.commit.new.self s.ensures.lasts c.commit.ensures.lasts

pub returns-in-Ok-clause-images : goal.returns-in-Ok-clause-images
returns-in-Ok-clause-images g c = λ list ring.
    let s = c.stage_first-staged in
    let is : is_store s.result.1 ≡ false = sym c.is_store.ensures ∙ c.if-is_store.false in
    let staged = stage_works g.D.Disk.state c.args.spool.now s.new.spool c.args.memory.now s.result.0 s.result.1 is s.ensures.staged in
    images_committed g.D.Disk.state c.args.spool.now s.new.spool c.commit.new.self c.args.memory.now s.result.0 staged c.commit.ensures.leaves list ring (s.ensures.images list ring)

pub returns-in-Err-clause-lasts : goal.returns-in-Err-clause-lasts
returns-in-Err-clause-lasts g c =
    let s = c.stage_first-staged in
    lasts_trans g.D.Disk.state c.args.spool.now s.new.spool c.commit.new.self s.ensures.lasts c.commit.ensures.lasts

pub returns-in-Err-clause-images : goal.returns-in-Err-clause-images
returns-in-Err-clause-images g c = λ list ring.
    let s = c.stage_first-staged in
    let is : is_store s.result.1 ≡ false = sym c.is_store.ensures ∙ c.if-is_store.false in
    let staged = stage_works g.D.Disk.state c.args.spool.now s.new.spool c.args.memory.now s.result.0 s.result.1 is s.ensures.staged in
    images_committed g.D.Disk.state c.args.spool.now s.new.spool c.commit.new.self c.args.memory.now s.result.0 staged c.commit.ensures.leaves list ring (s.ensures.images list ring)

pub returns-in-Ok-clause-written : goal.returns-in-Ok-clause-written
returns-in-Ok-clause-written g c =
    let s = c.stage_first-staged in
    let is : is_store s.result.1 ≡ false = sym c.is_store.ensures ∙ c.if-is_store.false in
    let staged = stage_works g.D.Disk.state c.args.spool.now s.new.spool c.args.memory.now s.result.0 s.result.1 is s.ensures.staged in
    let answer = c.in-Ok.ensures.answer in
    write_as g.D.Disk.state c.args.spool.now s.new.spool c.commit.new.self c.args.memory.now s.result.0 s.result.1 is s.ensures.staged
    (written_first g.D.Disk.state c.args.spool.now s.new.spool c.commit.new.self c.args.memory.now s.result.0 staged c.commit.ensures.leaves answer.1 answer.2 answer.3)

pub returns-in-Err-clause-written : goal.returns-in-Err-clause-written
returns-in-Err-clause-written g c =
    let answer = c.in-Err.ensures.answer in
    (answer.1, answer.2)
