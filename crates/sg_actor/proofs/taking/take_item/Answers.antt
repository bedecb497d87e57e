use Rattle.std.proofs.Common.{refl, ◌≡◌, ◌≤◌, ◌<◌, List, ap, sym, subst, arith, w64, length, ◌∷◌, [], ◌++◌, length-append}
use Rattle.std.proofs.lemmas.Int.{to_z-of_z, ints}
use Rattle.std.specs.Prelude.{FitsSigned as SFits}
use Rattle.sg_msg.specs.declared.offer.Offer.{Offer}
use Rattle.sg_machine.specs.declared.event.Admission.{Admission}
use Rattle.sg_route.specs.Offers.{record_at}
use Rattle.sg_frame.specs.declared.framer.Framed.TheVariants.{More}
use Rattle.sg_actor.specs.Sources.{source, IsFramedAhead}
use Rattle.sg_actor.specs.Steps.{KeepsRecords}
use Rattle.sg_actor.proofs.KeepLemmas.{keeps-none, keeps-of, keeps-then, keeps-taken, rests-looked, looked-more, looked-rest, held-looked}
use Rattle.sg_msg.specs.Offers.{AllWithin}
use Rattle.sg_actor.proofs.taking.take_item.Goals as goal

pub returns-in_err-look-clause-keeps : goal.returns-in_err-look-clause-keeps
returns-in_err-look-clause-keeps g c = λ buffer ready.
    let feed = g.I.Inlet.state c.args.inlet.now in
    let offers = g.R.Router.offers c.args.router.now in
    let dests = g.R.Router.dests c.args.router.now in
    subst (λ r. KeepsRecords offers dests c.args.spec.now (source feed c.args.reader.now buffer) (source feed r buffer)) (sym c.in_err-look.ensures)
    (keeps-none offers dests c.args.spec.now (source feed c.args.reader.now buffer) ready)

pub returns-in_default-clause-keeps : goal.returns-in_default-clause-keeps
returns-in_default-clause-keeps g c = λ buffer ready.
    let feed = g.I.Inlet.state c.args.inlet.now in
    keeps-of (g.R.Router.offers c.args.router.now) (g.R.Router.dests c.args.router.now) c.args.spec.now (source feed c.args.reader.now buffer) (source feed c.look.new.reader buffer)
    (rests-looked (g.R.Router.dests c.args.router.now) c.args.spec.now feed buffer c.args.reader.now c.look.new.reader c.args.reader.now.ahead refl c.in_ok-look.ensures ready)

pub returns-in_default-clause-takes : goal.returns-in_default-clause-takes
returns-in_default-clause-takes g c = (
  held-looked c.args.reader.now c.look.new.reader c.args.reader.now.ahead c.in_ok-look.ensures,
  looked-rest c.look.new.reader.framer c.look.new.reader.ahead c.in_default.not-Item (looked-more c.args.reader.now c.look.new.reader c.args.reader.now.ahead refl c.in_ok-look.ensures),
)

pub returns-in_err-clone-clause-keeps : goal.returns-in_err-clone-clause-keeps
returns-in_err-clone-clause-keeps g c = λ buffer ready.
    let feed = g.I.Inlet.state c.args.inlet.now in
    keeps-of (g.R.Router.offers c.args.router.now) (g.R.Router.dests c.args.router.now) c.args.spec.now (source feed c.args.reader.now buffer) (source feed c.look.new.reader buffer)
    (rests-looked (g.R.Router.dests c.args.router.now) c.args.spec.now feed buffer c.args.reader.now c.look.new.reader c.args.reader.now.ahead refl c.in_ok-look.ensures ready)

pub returns-in_err-offers-clause-keeps : goal.returns-in_err-offers-clause-keeps
returns-in_err-offers-clause-keeps g c = λ buffer ready.
    let feed = g.I.Inlet.state c.args.inlet.now in
    keeps-of (g.R.Router.offers c.args.router.now) (g.R.Router.dests c.args.router.now) c.args.spec.now (source feed c.args.reader.now buffer) (source feed c.look.new.reader buffer)
    (rests-looked (g.R.Router.dests c.args.router.now) c.args.spec.now feed buffer c.args.reader.now c.look.new.reader c.args.reader.now.ahead refl c.in_ok-look.ensures ready)

pub route-requires-clause-moment : goal.route-requires-clause-moment
route-requires-clause-moment g c =
    let feed = g.I.Inlet.state c.args.inlet.now in
    let buffer = c.requires.ready.0 in
    let looked = rests-looked (g.R.Router.dests c.args.router.now) c.args.spec.now feed buffer c.args.reader.now c.look.new.reader c.args.reader.now.ahead refl c.in_ok-look.ensures c.requires.ready.1 in
    let ahead = subst (λ a. IsFramedAhead c.look.new.reader.framer a) c.in-Item.is looked.ready.ahead in
    let timely = ahead.0 in
    let in_range : SFits w64 c.in-Item.at = omega (arith, ints, timely.0, timely.1) in
    rw (to_z-of_z w64 c.in-Item.at in_range) timely

pub returns-in_err-push-clause-keeps : goal.returns-in_err-push-clause-keeps
returns-in_err-push-clause-keeps g c = λ buffer ready.
    let feed = g.I.Inlet.state c.args.inlet.now in
    let offers = g.R.Router.offers c.args.router.now in
    let dests = g.R.Router.dests c.args.router.now in
    let r = c.look.new.reader in
    subst (λ held. KeepsRecords offers dests c.args.spec.now (source feed c.args.reader.now buffer) (source feed (record r { held = held }) buffer)) (sym c.in_err-push.ensures.err)
    (keeps-of offers dests c.args.spec.now (source feed c.args.reader.now buffer) (source feed r buffer)
    (rests-looked dests c.args.spec.now feed buffer c.args.reader.now r c.args.reader.now.ahead refl c.in_ok-look.ensures ready))

pub returns-clause-keeps : goal.returns-clause-keeps
returns-clause-keeps g c = λ buffer ready.
    let feed = g.I.Inlet.state c.args.inlet.now in
    let offers = g.R.Router.offers c.args.router.now in
    let dests = g.R.Router.dests c.args.router.now in
    let spec = c.args.spec.now in
    let old = c.args.reader.now in
    let r = c.look.new.reader in
    let looked = rests-looked dests spec feed buffer old r old.ahead refl c.in_ok-look.ensures ready in
    let ahead = subst (λ a. IsFramedAhead r.framer a) c.in-Item.is looked.ready.ahead in
    let timely = ahead.0 in
    let in_range : SFits w64 c.in-Item.at = omega (arith, ints, timely.0, timely.1) in
    let moment = to_z-of_z w64 c.in-Item.at in_range in
    let found = rw (c.peer.ensures, c.in_ok-clone.ensures.cases, moment) at c.in_ok-offers.ensures.offers in
    let few : length c.new.result ≤ 1024 = subst (λ (os : List Offer). length os ≤ 1024) (sym c.new.ensures) c.in_ok-offers.ensures.bound in
    let within = subst (λ (os : List Offer). AllWithin dests os) (sym c.new.ensures) c.in_ok-offers.ensures.within in
    let offered = subst (λ (os : List Offer). offers spec.inlet (record_at feed.peer c.in-Item.bytes c.in-Item.at) os) (sym c.new.ensures) found in
    let a : Admission = record { end = c.end_at-end.result; offers = c.new.result } in
    let room : length r.held < spec.fetch = (let same : r.held ≡ old.held = looked.held in rw same c.requires.room) in
    let taken = keeps-taken offers dests spec feed buffer r c.in-Item.bytes c.in-Item.end c.in-Item.at a c.in-Item.is c.end_at-end.ensures offered few within room looked.ready in
    let one = keeps-then offers dests spec (source feed old buffer) (source feed r buffer) (source feed (record r { held = r.held ++ a ∷ []; ahead = More }) buffer)
    (keeps-of offers dests spec (source feed old buffer) (source feed r buffer) looked) taken in
    subst (λ held. KeepsRecords offers dests spec (source feed old buffer) (source feed (record r { held = held; ahead = More }) buffer)) (sym c.in_ok-push.ensures.ok) one

pub returns-clause-takes : goal.returns-clause-takes
returns-clause-takes g c =
    let r = c.look.new.reader in
    let a : Admission = record { end = c.end_at-end.result; offers = c.new.result } in
    let same : length r.held ≡ length c.args.reader.now.held = ap length (held-looked c.args.reader.now r c.args.reader.now.ahead c.in_ok-look.ensures) in
    let push : length c.push.new.self ≡ length (r.held ++ a ∷ []) = ap length c.in_ok-push.ensures.ok in
    omega (arith, length-append r.held (a ∷ []))
