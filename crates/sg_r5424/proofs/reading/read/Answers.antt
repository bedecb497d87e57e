use Rattle.std.proofs.Common.{◌≡◌, ◌-◌, ℕ, ℤ, List, length, arith, w64, subst, sym, ap, ◌∙◌}
use Rattle.std.specs.List.{suffix_len}
use Rattle.std.proofs.lemmas.Int.{to_z-of_z}
use Rattle.std.proofs.lemmas.List.{length-take}
use Rattle.sg_time.specs.declared.stamp.Stamp.{Stamp}
use Rattle.sg_r3164.specs.Options.{received_at}
use Rattle.sg_r5424.specs.Is5424.{is_end_byte, without_end, ReadsSyslogMsg}
use Rattle.sg_r5424.proofs.reading.read.Goals as goal

pub returns : goal.returns
returns c =
    let item = c.args.item in
    let text : c.drop_end.new.text ≡ without_end item = c.drop_end.ensures in
    let never = rw c.in-None.is at c.in_ok-message.ensures in
    let at = to_z-of_z w64 c.args.at c.ranges.at in
    let received : c.received-received.result ≡ received_at c.args.at c.args.opts.now = c.received-received.ensures.value ∙ ap (λ (z : ℤ). received_at z c.args.opts.now) at in (
      omega (arith, c.len-len.ensures.value, ap length text, length-take (length item - suffix_len is_end_byte item) item),
      λ content h. never.0 content
          (subst (λ (x : List ℕ). ReadsSyslogMsg c.received-received.result c.args.peer.now c.args.opts.now x content) (sym text)
          (subst (λ (x : Stamp). ReadsSyslogMsg x c.args.peer.now c.args.opts.now (without_end item) content) (sym received) h)),
    )
