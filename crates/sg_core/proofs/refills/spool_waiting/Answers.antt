use Rattle.std.proofs.Common.{◌≡◌, ◌∙◌, Some, None, length, sym, refl, ap, subst, arith}
use Rattle.std.specs.Option.{option_copied}
use Rattle.sg_list.proofs.ListLemmas.{slice_get-some, length-change}
use Rattle.sg_sinks.specs.Moving.{block_at}
use Rattle.sg_core.proofs.RefillParts.{IsStaging, staging-begins, staging-some, staging-none, staging-commits}
use Rattle.sg_core.proofs.refills.spool_waiting.Goals as goal
use Rattle.sg_core.proofs.refills.spool_waiting.Goals.{in-Some, in_default}

pub loop-k-init : goal.loop-k-init
loop-k-init g c =
    let old = slice_get-some c.args.stores.now c.args.store c.requires in
    record { count = refl; staging = staging-begins c.args.stores.now c.args.store old.0 c.args.sink.now.seen.blocks old.1 }

pub loop-k-preserved : goal.loop-k-preserved
loop-k-preserved g c =
    let inv = c.loop-k.invariant in
    let blocks = c.args.sink.now.seen.blocks in
    elim c.match-block.branch [
      | in-Some w ↦
          let at : block_at blocks c.loop-k.k ≡ Some w.in-Some.block.now = sym c.block.ensures ∙ ap option_copied w.in-Some.is in
          let stages = w.stage.ensures in
          rw w.stores-is (record {
            count = ap length stages.others ∙ length-change c.loop-k.stores c.args.store (λ _. stages.new) ∙ inv.count;
            staging = staging-some c.args.stores.now c.loop-k.stores w.stage.new.self c.args.store blocks c.loop-k.k w.in-Some.block.now w.stage.result inv.staging at stages;
          })
      | in_default w ↦
          let at : block_at blocks c.loop-k.k ≡ None = sym c.block.ensures ∙ ap option_copied w.in_default.is in
          rw w.stores-is (record { count = inv.count; staging = staging-none c.args.stores.now c.loop-k.stores c.args.store blocks c.loop-k.k inv.staging at })
    ]

pub returns : goal.returns
returns g c =
    let inv = c.loop-k.invariant in
    let all : c.loop-k.k ≡ c.args.n = omega (arith, c.loop-k-test.false, c.loop-k.auto.k-end) in
    let staging = subst (λ k. IsStaging c.args.stores.now c.loop-k.stores c.args.store c.args.sink.now.seen.blocks k) all inv.staging in
    staging-commits c.args.stores.now c.loop-k.stores c.commit.new.self c.args.store c.args.sink.now.seen.blocks c.args.n c.commit.result staging c.commit.ensures
