-- One turn of each loop of the walk.
use Rattle.std.proofs.Common.{◌≡◌, ℕ, Bool, true, false, List, [], ◌∷◌, ◌++◌, Option, Vec, Result, refl, sym, ap, ◌∙◌, subst, ◌<◌, arith}
use Rattle.std.specs.Prelude.{◌&&◌, ◌||◌, cond, IfOk}
use Rattle.std.proofs.lemmas.List.{append_assoc, append-nil}
use Rattle.std.proofs.lemmas.Result.{IfOk-weaker}
use Rattle.std.specs.declared.alloc.Global.{Global}
use Rattle.sg_msg.specs.Message.{Content}
use Rattle.sg_filter.specs.declared.expr.Expr.{Expr}
use Rattle.sg_parsers.specs.declared.rule.ParserRule.{ParserRule}
use Rattle.sg_parsers.specs.Parsed.{rule_takes, rule_parsed}
use Rattle.sg_tree.specs.declared.sound.RewriteRule.{RewriteRule}
use Rattle.sg_msg.specs.declared.offer.Offer.{Offer}
use Rattle.sg_tree.specs.declared.tree.Element.{Element, Filter, Rewrite, Parse, Deliver, Junction, If}
use Rattle.sg_tree.specs.declared.tree.Path.{Path}
use Rattle.sg_filter.specs.Decisions.{Decision, decides, decision_of}
use Rattle.sg_tree.specs.Rules.{Rule, rule_of, rewritten_by}
use Rattle.sg_tree.specs.Walk.{WalkResult, Steps, Siblings, filter, rewrite, parse, deliver, junction, choose, sibling, walk, round, both, each, then_each, deliveries_to, counted, up_to_final, is_in_round, stopped, size, siblings_size}
use Rattle.sg_tree.specs.Plain.{element_view, steps_view, siblings_view, choice_view, marks, own_steps}
use Rattle.test_paths.specs.declared.gone.RoutedMessages.{RoutedMessages}
use Rattle.test_paths.specs.Gives.{GivesWalked}
use Rattle.test_paths.proofs.Going.{BehindElements, left, behind-at, behind-more, behind-gives}
use Rattle.sg_tree.proofs.Views.{view-Filter, view-Rewrite, view-Parse, view-Deliver, view-Junction, view-If, view-Path}

-- the steps of a list that begins with a known element
module _ (named : List Expr) (els rest : List Element) (logs : List Path) (e : Element) (h : els ≡ e ∷ rest) where
  front : steps_view named els logs ≡ element_view named e (steps_view named rest logs)
  front = ap (λ (x : List Element). steps_view named x logs) h

  here : (e' : Element) → e ≡ e' → steps_view named els logs ≡ element_view named e' (steps_view named rest logs)
  here e' is = front ∙ ap (λ (x : Element). element_view named x (steps_view named rest logs)) is

  pub at-Filter : (expr : Expr) → e ≡ Filter expr → steps_view named els logs ≡ filter (decision_of named expr) (steps_view named rest logs)
  at-Filter expr is = here (Filter expr) is ∙ view-Filter named expr (steps_view named rest logs)

  pub at-Rewrite : (rule : RewriteRule) → e ≡ Rewrite rule → steps_view named els logs ≡ rewrite (rule_of named rule) (steps_view named rest logs)
  at-Rewrite rule is = here (Rewrite rule) is ∙ view-Rewrite named rule (steps_view named rest logs)

  pub at-Parse : (rule : ParserRule) → e ≡ Parse rule → steps_view named els logs ≡ parse rule (steps_view named rest logs)
  at-Parse rule is = here (Parse rule) is ∙ view-Parse named rule (steps_view named rest logs)

  pub at-Deliver : (drivers : Vec ℕ Global) → e ≡ Deliver drivers → steps_view named els logs ≡ deliver drivers.items (steps_view named rest logs)
  at-Deliver drivers is = here (Deliver drivers) is ∙ view-Deliver named drivers (steps_view named rest logs)

  pub at-Junction : (channels : Vec Path Global) → e ≡ Junction channels → steps_view named els logs ≡ junction (siblings_view named channels.items) (steps_view named rest logs)
  at-Junction channels is = here (Junction channels) is ∙ view-Junction named channels (steps_view named rest logs)

  pub at-If : (tests : Vec (Expr × Vec Element Global) Global) (other : Option (Vec Element Global)) → e ≡ If tests other
      → steps_view named els logs ≡ choose (choice_view named tests.items other) (steps_view named rest logs)
  at-If tests other is = here (If tests other) is ∙ view-If named tests other (steps_view named rest logs)

pub at-Path : (named : List Expr) (ps more : List Path) (p : Path) → ps ≡ p ∷ more → siblings_view named ps ≡ sibling (marks p) (own_steps named p) (siblings_view named more)
at-Path named ps more p h = ap (siblings_view named) h ∙ view-Path named p (siblings_view named more)

-- the elements that go on
module _ (old new : List Offer) (whole : WalkResult) (steps rest : Steps) (m : Content) (f : Bool) (b : BehindElements old new whole (walk steps m f)) where
  pub filter-on : (decision : Decision) → steps ≡ filter decision rest → decides decision m ≡ true → BehindElements old new whole (walk rest m f)
  filter-on decision is on =
      behind-at old new whole _ _ (ap (λ (s : Steps). walk s m f) is ∙ ap (λ (y : Bool). cond y (walk rest m f) stopped) on) b

  pub rewrite-on : (rule : Rule) (m' : Content) → steps ≡ rewrite rule rest → m' ≡ rewritten_by rule m → BehindElements old new whole (walk rest m' f)
  rewrite-on rule m' is e =
      behind-at old new whole _ _ (ap (λ (s : Steps). walk s m f) is ∙ ap (λ (x : Content). walk rest x f) (sym e)) b

  pub parse-on : (rule : ParserRule) (m' : Content) → steps ≡ parse rule rest → rule_takes rule m ≡ true → m' ≡ rule_parsed rule m → BehindElements old new whole (walk rest m' f)
  parse-on rule m' is on e =
      behind-at old new whole _ _
      (ap (λ (s : Steps). walk s m f) is ∙ ap (λ (y : Bool). cond y (walk rest (rule_parsed rule m) f) stopped) on ∙ ap (λ (x : Content). walk rest x f) (sym e)) b

  pub parse-off : (rule : ParserRule) → steps ≡ parse rule rest → rule_takes rule m ≡ false → BehindElements old new whole stopped
  parse-off rule is off =
      behind-at old new whole _ _ (ap (λ (s : Steps). walk s m f) is ∙ ap (λ (y : Bool). cond y (walk rest (rule_parsed rule m) f) stopped) off) b

  pub deliver-on : (drivers : List ℕ) (new' : List Offer) → steps ≡ deliver drivers rest → new' ≡ new ++ deliveries_to drivers m f → BehindElements old new' whole (walk rest m f)
  deliver-on drivers new' is e =
      behind-more old new new' (deliveries_to drivers m f) whole (walk rest m f) (behind-at old new whole _ _ (ap (λ (s : Steps). walk s m f) is) b) e

-- a message that is stopped
pub stops : (old new : List Offer) (whole : WalkResult) (gone : RoutedMessages) → BehindElements old new whole stopped → gone.out.items ≡ [] → gone.processed ≡ false → GivesWalked old new gone whole
stops old new whole gone b none unprocessed = behind-gives old new new gone whole stopped b (record { offers = sym (append-nil new); out = none; processed = unprocessed })

-- the rest behind what came out
pub then-gives : (a b c : List Offer) (first gone : RoutedMessages) (w : WalkResult) (rest : Content → WalkResult)
    → GivesWalked a b first w → GivesWalked b c gone (then_each (left [] first) rest) → GivesWalked a c gone (then_each w rest)
then-gives a b c first gone w rest g h =
    let later = each rest first.out.items in
    let same : later ≡ each rest w.out = ap (each rest) g.out in
    record {
      offers = h.offers ∙ ap (λ x. x ++ later.deliveries) g.offers ∙ append_assoc a w.deliveries later.deliveries ∙ ap (λ (x : WalkResult). a ++ (w.deliveries ++ x.deliveries)) same;
      out = h.out ∙ ap (λ (x : WalkResult). x.out) same;
      processed = h.processed ∙ ap (λ p. p && later.processed) g.processed ∙ ap (λ (x : WalkResult). w.processed && x.processed) same;
    }

pub then-ok : {E : Type 0} (r : Result RoutedMessages E) (a b c : List Offer) (first : RoutedMessages) (w : WalkResult) (rest : Content → WalkResult)
    → GivesWalked a b first w → IfOk r (λ gone. GivesWalked b c gone (then_each (left [] first) rest)) → IfOk r (λ gone. GivesWalked a c gone (then_each w rest))
then-ok r a b c first w rest g = IfOk-weaker r _ _ (λ gone h. then-gives a b c first gone w rest g h)

-- what comes later is given, by the same walk
pub behind-ok : {E : Type 0} (r : Result RoutedMessages E) (old a c : List Offer) (whole before w : WalkResult)
    → BehindElements old a whole before → before ≡ w → IfOk r (λ gone. GivesWalked a c gone w) → IfOk r (λ gone. GivesWalked old c gone whole)
behind-ok r old a c whole before w behind is =
    IfOk-weaker r _ _ (λ gone h. behind-gives old a c gone whole w (behind-at old a whole before w is behind) h)

pub ok-at : {E : Type 0} (r : Result RoutedMessages E) (old old' new : List Offer) (w w' : WalkResult) → old ≡ old' → w ≡ w'
    → IfOk r (λ gone. GivesWalked old new gone w) → IfOk r (λ gone. GivesWalked old' new gone w')
ok-at r old old' new w w' eo ew h =
    subst (λ (x : WalkResult). IfOk r (λ gone. GivesWalked old' new gone x)) ew (subst (λ (x : List Offer). IfOk r (λ gone. GivesWalked x new gone w)) eo h)

module _ (named : List Expr) (ps more : List Path) (p : Path) (h : ps ≡ p ∷ more) (late : Bool) (m : Content) (f : Bool) where
  abbrev pub mine : WalkResult
  mine = counted (marks p) (walk (own_steps named p) m (f || (marks p).flow))

  abbrev pub later : WalkResult
  later = round (siblings_view named more) late m f

  pub round-skips : is_in_round late (marks p) ≡ false → round (siblings_view named ps) late m f ≡ later
  round-skips no-turn = ap (λ (s : Siblings). round s late m f) (at-Path named ps more p h) ∙ ap (λ (x : Bool). cond x (up_to_final (marks p).is_final mine later) later) no-turn

  round-takes : is_in_round late (marks p) ≡ true → round (siblings_view named ps) late m f ≡ up_to_final (marks p).is_final mine later
  round-takes turn = ap (λ (s : Siblings). round s late m f) (at-Path named ps more p h) ∙ ap (λ (x : Bool). cond x (up_to_final (marks p).is_final mine later) later) turn

  pub round-ends : is_in_round late (marks p) ≡ true → (mine.processed && (marks p).is_final) ≡ true → round (siblings_view named ps) late m f ≡ mine
  round-ends turn last = round-takes turn ∙ ap (λ (x : Bool). cond x mine (both mine later)) last

  pub round-goes-on : is_in_round late (marks p) ≡ true → (mine.processed && (marks p).is_final) ≡ false → round (siblings_view named ps) late m f ≡ both mine later
  round-goes-on turn last = round-takes turn ∙ ap (λ (x : Bool). cond x mine (both mine later)) last

pub behind-size : (named : List Expr) (logs : List Path) → siblings_size (siblings_view named logs) < size (steps_view named [] logs)
behind-size named [] = omega arith
behind-size named (log ∷ logs) = omega arith

-- the same with these deliveries and this message
pub moved : (old a a' : List Offer) (whole : WalkResult) (rest : Steps) (m m' : Content) (f : Bool) → a' ≡ a → m' ≡ m → BehindElements old a whole (walk rest m f) → BehindElements old a' whole (walk rest m' f)
moved old a a' whole rest m m' f ea em b =
    behind-at old a' whole (walk rest m f) (walk rest m' f) (ap (λ (x : Content). walk rest x f) (sym em)) (subst (λ (x : List Offer). BehindElements old x whole (walk rest m f)) (sym ea) b)
