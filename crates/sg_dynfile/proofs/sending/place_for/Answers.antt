use Rattle.std.proofs.Common.{◌∙◌, ℕ, List, sym, subst}
use Rattle.std.specs.List.{Contains}
use Rattle.sg_dynfile.specs.Tracks.{StandsAt}
use Rattle.sg_dynfile.proofs.Going.{opens-behind, ready-behind, stands-behind, ends-early}
use Rattle.std.specs.Prelude.{[], ◌∷◌}
use Rattle.sg_dynfile.proofs.sending.place_for.Goals as goal

pub returns-in-Some-clause-finds : goal.returns-in-Some-clause-finds
returns-in-Some-clause-finds g c = λ first frames frame h.
    (h, subst (λ (l : List (List ℕ)). StandsAt c.args.path.now l c.in-Some.place) (sym c.requires.tracks.opened) c.in-Some.ensures.place)

pub returns-in-Some-clause-stands : goal.returns-in-Some-clause-stands
returns-in-Some-clause-stands g c = subst (λ (l : List (List ℕ)). StandsAt c.args.path.now l c.in-Some.place) (sym c.requires.tracks.opened) c.in-Some.ensures.place

pub open_new-requires-clause-other : goal.open_new-requires-clause-other
open_new-requires-clause-other g c = λ there.
    c.in_default.ensures.place (subst (λ (l : List (List ℕ)). Contains l c.args.path.now) (c.in-Ok.ensures.opened ∙ c.requires.tracks.opened) there)

pub returns-in-Ok-clause-ready : goal.returns-in-Ok-clause-ready
returns-in-Ok-clause-ready g c = ready-behind (g.P.Opener.state c.open_new.new.opener) c.send_before.new.waiting.places.items c.send_before.new.waiting.texts c.open_new.result c.in-Ok.ensures.none

pub returns-in-Ok-clause-finds : goal.returns-in-Ok-clause-finds
returns-in-Ok-clause-finds g c = λ first frames frame h.
    opens-behind first (g.P.Opener.state c.send_before.new.opener) (g.P.Opener.state c.open_new.new.opener) frames frame c.args.path.now c.send_before.new.waiting.places.items c.send_before.new.waiting.texts c.open_new.result c.in-Ok.ensures.none c.open_new.ensures.opened
    (c.in-Ok.ensures.follows first frames h)

pub returns-in-Ok-clause-stands : goal.returns-in-Ok-clause-stands
returns-in-Ok-clause-stands g c = stands-behind (g.P.Opener.state c.send_before.new.opener) (g.P.Opener.state c.open_new.new.opener) c.args.path.now c.open_new.result c.open_new.ensures.opened

pub returns-in-Err-clause-finds : goal.returns-in-Err-clause-finds
returns-in-Err-clause-finds g c = λ first frames frame h.
    ends-early first (g.P.Opener.state c.send_before.new.opener) frames (frame ∷ []) c.in-Err.refusal (c.in-Err.ensures.follows first frames h)
