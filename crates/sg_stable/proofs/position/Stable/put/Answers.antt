use Rattle.std.proofs.Common.{rules, inl, inr, ⊎_elim, ◌∙◌, List, ℕ}
use Rattle.sg_device.proofs.Disks.{within_as, within_now, either_way}
use Rattle.sg_stable.proofs.Cells.{value_of}
use Rattle.sg_stable.proofs.Positions.{either_of, puts_position, shape_of}
use Rattle.sg_stable.proofs.position.Stable.put.Goals as goal

pub invariant_of-self : goal.invariant_of-self
invariant_of-self g c =
    let m = c.args.self.now in
    let now = within_now (g.D.Disk.state m.disk) (g.D.Disk.state c.put.new.disk) _ (c.put.ensures.within c.if-self.false) in
    let position = λ (b : List ℕ) (left : _). puts_position _ m.cell.value c.args.value (λ d from. (m.stands d from).shape) b (now b left) in
    record {
      whole = c.put.ensures.cell;
      stands = λ b left. either_of m.cell.value c.args.value c.put.new.self.value b (position b left)
          (⊎_elim (λ done. inr (value_of c.put.new.self.selector c.put.new.self.value b (c.put.ensures.cell (c.put.ensures.answer.closed ∙ done.0) b left))) (λ failed. inl failed.1)
          (either_way c.put.result c.put.ensures.answer.ok c.put.ensures.answer.err));
    }

pub returns-in_err-put-clause-leaves : goal.returns-in_err-put-clause-leaves
returns-in_err-put-clause-leaves g c =
    let m = c.args.self.now in
    record {
      within = λ at_open. within_as (g.D.Disk.state m.disk) (g.D.Disk.state c.put.new.disk) _ _ (c.put.ensures.within at_open) (puts_position _ m.cell.value c.args.value (λ d from. (m.stands d from).shape));
      position = search rules;
    }

pub returns-clause-leaves : goal.returns-clause-leaves
returns-clause-leaves g c =
    let m = c.args.self.now in
    record {
      within = λ at_open. within_as (g.D.Disk.state m.disk) (g.D.Disk.state c.put.new.disk) _ _ (c.put.ensures.within at_open) (puts_position _ m.cell.value c.args.value (λ d from. (m.stands d from).shape));
      position = λ b left.
          let now = within_now (g.D.Disk.state m.disk) (g.D.Disk.state c.put.new.disk) _ (c.put.ensures.within c.if-self.false) b left in
          let stands = value_of c.put.new.self.selector c.put.new.self.value b (c.put.ensures.cell c.in_ok-put.ensures.answer.closed b left) in
          record { shape = shape_of m.cell.value c.args.value b (puts_position _ m.cell.value c.args.value (λ d from. (m.stands d from).shape) b now); holds = stands ∙ c.in_ok-put.ensures.answer.ok };
    }
