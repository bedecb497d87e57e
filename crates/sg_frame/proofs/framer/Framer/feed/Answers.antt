use Rattle.std.proofs.Common.{◌+◌, ◌<◌, ◌^◌, [], length, sym, ap, arith, refl, subst, w64}
use Rattle.std.proofs.lemmas.Int.{to_z-of_z, ints}
use mir.Val.{SFits}
use Rattle.sg_device.specs.Inlet.{stamped}
use Rattle.sg_frame.specs.Framing.{Framing, fed, GoesOnFraming}
use Rattle.sg_frame.proofs.FramingLemmas.{held-feed, kept-feed, goes-feed, length-held, framing_of}
use Rattle.sg_frame.proofs.framer.Framer.feed.Goals as goal

pub invariant_of-self-in_default : goal.invariant_of-self-in_default
invariant_of-self-in_default c =
    let inside = c.self.inside in
    let room : fed (framing_of inside.kind inside.limit inside.place inside.kept inside.runs.items) + length c.args.piece.now < 2 ^ 63 =
    subst (λ (f : Framing). fed f + length c.args.piece.now < 2 ^ 63) (sym c.self.view_is) c.requires in
    let many = length-held inside.place inside.kept inside.runs.items c.self.invariant.covers in
    rw (c.in_default.ensures.ok, c.in_ok-push_back.ensures.items, c.len.ensures.value)
    (kept-feed inside.limit inside.place inside.scanned inside.kept inside.runs.items c.args.piece.now _ _ c.self.invariant refl (omega arith))

pub returns-clause-fed : goal.returns-clause-fed
returns-clause-fed c =
    let inside = c.self.inside in
    let fits : SFits w64 c.args.at = omega (arith, ints) in
    rw (c.in_default.ensures.ok, c.in_ok-push_back.ensures.items, c.len.ensures.value, ← c.self.view_is, to_z-of_z w64 c.args.at fits)
    (ap (λ held. record (framing_of inside.kind inside.limit inside.place inside.kept inside.runs.items) { held = held })
    (held-feed inside.place inside.kept inside.runs.items c.args.piece.now _ c.args.at c.self.invariant.covers refl))

pub returns-clause-history : goal.returns-clause-history
returns-clause-history c =
    let P : Framing → Type 0 = λ f. GoesOnFraming c.args.self.now f (stamped c.args.piece.now c.args.at) [] in
    subst P (sym (returns-clause-fed c)) (goes-feed c.args.self.now (stamped c.args.piece.now c.args.at))
