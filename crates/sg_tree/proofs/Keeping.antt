-- What holds of all deliveries of a walk, as it holds of those that each driver is given.
use Rattle.std.proofs.Common.{ℕ, Bool, true, false, List, [], ◌∷◌, ◌++◌, refl, sym, subst}
use Rattle.std.specs.Prelude.{◌&&◌, ◌||◌, cond}
use Rattle.sg_msg.specs.Message.{Content}
use Rattle.sg_msg.specs.declared.offer.Offer.{Offer}
use Rattle.sg_frame.specs.Records.{Record}
use Rattle.sg_filter.specs.Decisions.{decides}
use Rattle.sg_tree.specs.Rules.{rewritten_by}
use Rattle.sg_parsers.specs.Parsed.{rule_takes, rule_parsed}
use Rattle.sg_tree.specs.Walk.{WalkResult, Steps, Siblings, Choice, none_left, filter, rewrite, parse, deliver, junction, choose, embedded, no_siblings, sibling, otherwise, test, stopped, both, each, deliveries_to, counted, up_to_final, two_rounds, is_in_round, walk, round, chosen, branches}
use Rattle.sg_tree.specs.Readings.{InletReading}
use Rattle.sg_tree.specs.Offers.{TopStatement, Woods, is_offered, offered, is_skipped, AreOffersUnless}
use Rattle.sg_tree.specs.Laws.{AreDestNumbers, StaysWithin, AllStayWithin, EachStaysWithin, TopsStayWithin, AllFlow, OffersAreWithin, FlowIsInherited}
use Rattle.sg_msg.specs.Offers.{AllWithin}

module _ (Q : List Offer → Type 0) (none : Q []) (join : (a b : List Offer) → Q a → Q b → Q (a ++ b)) where
  pub each-keeps : (rest : Content → WalkResult) → ((n : Content) → Q (rest n).deliveries) → (ms : List Content) → Q (each rest ms).deliveries
  each-keeps rest h [] = none
  each-keeps rest h (m ∷ ms) = join (rest m).deliveries (each rest ms).deliveries (h m) (each-keeps rest h ms)

  pub pick-keeps : (b : Bool) (x y : WalkResult) → Q x.deliveries → Q y.deliveries → Q (cond b x y).deliveries
  pick-keeps true x y hx hy = hx
  pick-keeps false x y hx hy = hy

  pub two-keeps : (a b : WalkResult) → Q a.deliveries → Q b.deliveries → Q (two_rounds a b).deliveries
  two-keeps a b ha hb = pick-keeps a.processed a (both a b) ha (join a.deliveries b.deliveries ha hb)

  pub final-keeps : (is_final : Bool) (mine more : WalkResult) → Q mine.deliveries → Q more.deliveries → Q (up_to_final is_final mine more).deliveries
  final-keeps is_final mine more h hs = pick-keeps (mine.processed && is_final) mine (both mine more) h (join mine.deliveries more.deliveries h hs)

within-join : (d : ℕ) (a b : List Offer) → AllWithin d a → AllWithin d b → AllWithin d (a ++ b)
within-join d [] b ha hb = hb
within-join d (o ∷ os) b ha hb = (ha.0, within-join d os b ha.1 hb)

within-made : (d : ℕ) (ds : List ℕ) (m : Content) (f : Bool) → AreDestNumbers d ds → AllWithin d (deliveries_to ds m f)
within-made d [] m f h = tt
within-made d (x ∷ xs) m f h = (h.0, within-made d xs m f h.1)

mutual
  within-walk : (d : ℕ) (s : Steps) (m : Content) (f : Bool) → StaysWithin d s → AllWithin d (walk s m f).deliveries
  within-walk d none_left m f h = tt
  within-walk d (filter e rest) m f h = pick-keeps (AllWithin d) tt (within-join d) (decides e m) (walk rest m f) stopped (within-walk d rest m f h) tt
  within-walk d (rewrite r rest) m f h = within-walk d rest (rewritten_by r m) f h
  within-walk d (parse r rest) m f h = pick-keeps (AllWithin d) tt (within-join d) (rule_takes r m) (walk rest (rule_parsed r m) f) stopped (within-walk d rest (rule_parsed r m) f h) tt
  within-walk d (deliver ds rest) m f h = within-join d (deliveries_to ds m f) (walk rest m f).deliveries (within-made d ds m f h.0) (within-walk d rest m f h.1)
  within-walk d (junction cs rest) m f h =
      within-join d (branches cs m f).deliveries (each (λ n. walk rest n f) (branches cs m f).out).deliveries
      (two-keeps (AllWithin d) tt (within-join d) (round cs false m f) (round cs true m f) (within-round d cs false m f h.0) (within-round d cs true m f h.0))
      (each-keeps (AllWithin d) tt (within-join d) (λ n. walk rest n f) (λ n. within-walk d rest n f h.1) (branches cs m f).out)
  within-walk d (choose c rest) m f h =
      within-join d (chosen c m f).deliveries (each (λ n. walk rest n f) (chosen c m f).out).deliveries
      (within-chosen d c m f h.0)
      (each-keeps (AllWithin d) tt (within-join d) (λ n. walk rest n f) (λ n. within-walk d rest n f h.1) (chosen c m f).out)
  within-walk d (embedded logs) m f h =
      two-keeps (AllWithin d) tt (within-join d) (round logs false m f) (round logs true m f) (within-round d logs false m f h) (within-round d logs true m f h)

  within-round : (d : ℕ) (s : Siblings) (late : Bool) (m : Content) (f : Bool) → AllStayWithin d s → AllWithin d (round s late m f).deliveries
  within-round d no_siblings late m f h = tt
  within-round d (sibling mark steps more) late m f h =
      let mine = counted mark (walk steps m (f || mark.flow)) in
      let later = round more late m f in
      pick-keeps (AllWithin d) tt (within-join d) (is_in_round late mark) (up_to_final mark.is_final mine later) later
      (final-keeps (AllWithin d) tt (within-join d) mark.is_final mine later (within-walk d steps m (f || mark.flow) h.0) (within-round d more late m f h.1))
      (within-round d more late m f h.1)

  within-chosen : (d : ℕ) (c : Choice) (m : Content) (f : Bool) → EachStaysWithin d c → AllWithin d (chosen c m f).deliveries
  within-chosen d (otherwise steps) m f h = within-walk d steps m f h
  within-chosen d (test e steps more) m f h =
      pick-keeps (AllWithin d) tt (within-join d) (decides e m) (walk steps m f) (chosen more m f) (within-walk d steps m f h.0) (within-chosen d more m f h.1)

either-stays : (d : ℕ) (b : Bool) (x y : Siblings) → AllStayWithin d x → AllStayWithin d y → AllStayWithin d (cond b x y)
either-stays d true x y hx hy = hx
either-stays d false x y hx hy = hy

offered-stay : (d i : ℕ) (tops : List TopStatement) → TopsStayWithin d tops → AllStayWithin d (offered i tops)
offered-stay d i [] h = tt
offered-stay d i (top ∷ tops) h =
    either-stays d (is_offered i top) (sibling top.marks top.steps (offered i tops)) (offered i tops) (h.0, offered-stay d i tops h.1) (offered-stay d i tops h.1)

within-unless : (b : Bool) (woods : Woods) (inlet : InletReading) (i : ℕ) (of_record : Record) (offers : List Offer)
    → TopsStayWithin woods.dests woods.tops → AreOffersUnless b woods inlet i of_record offers → AllWithin woods.dests offers
within-unless true woods inlet i of_record offers h e = subst (AllWithin woods.dests) (sym e) tt
within-unless false woods inlet i of_record offers h u =
    let d = woods.dests in
    let siblings = offered i woods.tops in
    let stay = offered-stay d i woods.tops h in
    subst (AllWithin d) (sym u.1.1)
    (two-keeps (AllWithin d) tt (within-join d) (round siblings false u.0 false) (round siblings true u.0 false) (within-round d siblings false u.0 false stay) (within-round d siblings true u.0 false stay))

pub are-within : OffersAreWithin
are-within woods i of_record offers h are =
    within-unless (is_skipped are.0 of_record.item.text) woods are.0 i of_record offers h are.1.1

flow-join : (a b : List Offer) → AllFlow a → AllFlow b → AllFlow (a ++ b)
flow-join [] b ha hb = hb
flow-join (o ∷ os) b ha hb = (ha.0, flow-join os b ha.1 hb)

flow-made : (ds : List ℕ) (m : Content) → AllFlow (deliveries_to ds m true)
flow-made [] m = tt
flow-made (x ∷ xs) m = (refl, flow-made xs m)

mutual
  flow-walk : (s : Steps) (m : Content) → AllFlow (walk s m true).deliveries
  flow-walk none_left m = tt
  flow-walk (filter e rest) m = pick-keeps AllFlow tt flow-join (decides e m) (walk rest m true) stopped (flow-walk rest m) tt
  flow-walk (rewrite r rest) m = flow-walk rest (rewritten_by r m)
  flow-walk (parse r rest) m = pick-keeps AllFlow tt flow-join (rule_takes r m) (walk rest (rule_parsed r m) true) stopped (flow-walk rest (rule_parsed r m)) tt
  flow-walk (deliver ds rest) m = flow-join (deliveries_to ds m true) (walk rest m true).deliveries (flow-made ds m) (flow-walk rest m)
  flow-walk (junction cs rest) m =
      flow-join (branches cs m true).deliveries (each (λ n. walk rest n true) (branches cs m true).out).deliveries
      (two-keeps AllFlow tt flow-join (round cs false m true) (round cs true m true) (flow-round cs false m) (flow-round cs true m))
      (each-keeps AllFlow tt flow-join (λ n. walk rest n true) (λ n. flow-walk rest n) (branches cs m true).out)
  flow-walk (choose c rest) m =
      flow-join (chosen c m true).deliveries (each (λ n. walk rest n true) (chosen c m true).out).deliveries
      (flow-chosen c m)
      (each-keeps AllFlow tt flow-join (λ n. walk rest n true) (λ n. flow-walk rest n) (chosen c m true).out)
  flow-walk (embedded logs) m = two-keeps AllFlow tt flow-join (round logs false m true) (round logs true m true) (flow-round logs false m) (flow-round logs true m)

  flow-round : (s : Siblings) (late : Bool) (m : Content) → AllFlow (round s late m true).deliveries
  flow-round no_siblings late m = tt
  flow-round (sibling mark steps more) late m =
      let mine = counted mark (walk steps m true) in
      let later = round more late m true in
      pick-keeps AllFlow tt flow-join (is_in_round late mark) (up_to_final mark.is_final mine later) later
      (final-keeps AllFlow tt flow-join mark.is_final mine later (flow-walk steps m) (flow-round more late m))
      (flow-round more late m)

  flow-chosen : (c : Choice) (m : Content) → AllFlow (chosen c m true).deliveries
  flow-chosen (otherwise steps) m = flow-walk steps m
  flow-chosen (test e steps more) m = pick-keeps AllFlow tt flow-join (decides e m) (walk steps m true) (chosen more m true) (flow-walk steps m) (flow-chosen more m)

pub is-inherited : FlowIsInherited
is-inherited siblings m = two-keeps AllFlow tt flow-join (round siblings false m true) (round siblings true m true) (flow-round siblings false m) (flow-round siblings true m)
