use Rattle.std.proofs.Common.{◌≡◌, ◌<◌, length, Some, IfSome, refl, subst}
use Rattle.sg_block.specs.Forms.{Next, next_argument}
use Rattle.sg_block.proofs.form.take_argument.Goals as goal

pub returns-in_ok-push-in-Some : goal.returns-in_ok-push-in-Some
returns-in_ok-push-in-Some c =
    let next : Next = (c.in-Some.argument, c.in-Some.behind) in
    let was : c.in_ok-argument.field-0 ≡ Some next = cc in
    let is : Some next ≡ next_argument c.args.rest.now = cc (c.in_ok-argument.ensures.value) in
    let shorter : length c.in-Some.behind < length c.args.rest.now = subst (λ o. IfSome o (λ (n : Next). length n.1 < length c.args.rest.now)) was c.in_ok-argument.ensures.shorter in
    (next, (is, (c.in_ok-push-in-Some.ensures, (refl, shorter))))
