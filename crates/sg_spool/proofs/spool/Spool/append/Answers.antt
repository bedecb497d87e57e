use Rattle.std.proofs.Common.{◌≡◌, inr, ⊎_elim, ◌∙◌, ◌∷◌, [], ap, sym, arith}
use Rattle.std.specs.Prelude.{true, false}
use Rattle.sg_spool.specs.Places.{live}
use Rattle.sg_spool.specs.declared.rows.Rows.{Rows}
use Rattle.sg_spool.proofs.Calls.{append_failed, append_held, append_both, appended_rows}
use Rattle.sg_spool.proofs.spool.Spool.append.Goals as goal

pub returns-in-DiskFailed-clause-leaves : goal.returns-in-DiskFailed-clause-leaves
returns-in-DiskFailed-clause-leaves g c = append_failed g.D.Disk.state c.args.self.now c.stage.new.self c.args.block.now c.requires c.stage.ensures.leaves

pub returns-in-Ok-clause-leaves : goal.returns-in-Ok-clause-leaves
returns-in-Ok-clause-leaves g c = append_both g.D.Disk.state c.args.self.now c.stage.new.self c.args.block.now c.requires c.stage.ensures.leaves c.commit.new.self c.stage.ensures.lasts.capacity _ _ c.in-Done.ensures.answer.5 c.commit.ensures.leaves

pub returns-in-Err-clause-leaves : goal.returns-in-Err-clause-leaves
returns-in-Err-clause-leaves g c = append_both g.D.Disk.state c.args.self.now c.stage.new.self c.args.block.now c.requires c.stage.ensures.leaves c.commit.new.self c.stage.ensures.lasts.capacity _ _ c.in-Done.ensures.answer.5 c.commit.ensures.leaves

pub returns-in-Ok-clause-answer : goal.returns-in-Ok-clause-answer
returns-in-Ok-clause-answer g c =
    let a = c.in-Done.ensures.answer in
    let b = c.in-Ok.ensures.answer in (
      a.0,
      a.1,
      b.1,
      ap (λ (r : Rows). live r.list) b.2 ∙ a.3,
      appended_rows c.args.self.now.rows c.stage.new.self.rows c.commit.new.self.rows c.requires a.4 b.2,
      λ list holds. b.3 list (c.args.block.now ∷ []) (append_held g.D.Disk.state c.args.self.now c.stage.new.self c.args.block.now c.requires c.stage.ensures.leaves c.commit.new.self c.stage.ensures.lasts.capacity _ _ a.5 list [] holds),
    )

pub returns-in-Err-clause-answer : goal.returns-in-Err-clause-answer
returns-in-Err-clause-answer g c =
    let a = c.in-Done.ensures.answer in
    let b = c.in-Err.ensures.answer in (
      inr (a.1, ⊎_elim (λ shut. absurd (let no : false ≡ true = sym a.2 ∙ shut in cc)) (λ rose. let later = c.stage.ensures.lasts.later in omega (arith, rose, later)) b.0),
      b.1,
      b.2,
    )
