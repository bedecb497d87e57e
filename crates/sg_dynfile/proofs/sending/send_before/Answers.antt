use Rattle.std.proofs.Common.{◌∙◌, ℕ, List, [], sym, subst}
use Rattle.std.specs.Prelude.{Err}
use Rattle.sg_dynfile.specs.Sending.{IsUnderWay}
use Rattle.sg_dynfile.proofs.Going.{filled, none-of, none-places, some-there, goes-on, ends}
use Rattle.sg_dynfile.proofs.sending.send_before.Goals as goal

pub returns-then-is_empty-clause-none : goal.returns-then-is_empty-clause-none
returns-then-is_empty-clause-none g c =
    let none = none-of c.args.waiting.now.texts (sym c.is_empty.ensures ∙ c.if-is_empty.true) in
    (none-places c.args.waiting.now.places.items c.args.waiting.now.texts c.requires.ready.many none, none)

pub send_waiting-requires-clause-some : goal.send_waiting-requires-clause-some
send_waiting-requires-clause-some g c = filled c.args.waiting.now.texts (some-there c.args.waiting.now.texts (sym c.is_empty.ensures ∙ c.if-is_empty.false))

pub returns-in-Ok-clause-follows : goal.returns-in-Ok-clause-follows
returns-in-Ok-clause-follows g c = λ first frames h.
    let texts = c.args.waiting.now.texts in
    let new = g.P.Opener.state c.send_waiting.new.opener in
    subst (λ (l : List ℕ). IsUnderWay first new frames l c.clear.new.self.texts) (sym c.clear.ensures.places)
    (subst (λ (l : List (List ℕ)). IsUnderWay first new frames [] l) (sym c.clear.ensures.texts)
    (goes-on first (g.P.Opener.state c.args.opener.now) new frames c.args.waiting.now.places.items texts tt (some-there texts (sym c.is_empty.ensures ∙ c.if-is_empty.false)) c.requires.ready c.in-Ok.ensures.sends h))

pub returns-in-Err-clause-follows : goal.returns-in-Err-clause-follows
returns-in-Err-clause-follows g c = λ first frames h.
    ends first (g.P.Opener.state c.args.opener.now) (g.P.Opener.state c.send_waiting.new.opener) frames c.args.waiting.now.places.items c.args.waiting.now.texts (Err c.in-Err.refusal) c.requires.ready c.in-Err.ensures.sends h
