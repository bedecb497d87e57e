-- What is walked one after another.
use Rattle.std.proofs.Common.{◌≡◌, Bool, true, false, List, refl}
use Rattle.std.specs.Prelude.{◌||◌, ◌&&◌}
use Rattle.std.proofs.lemmas.List.{append_assoc, append-nil}
use Rattle.sg_msg.specs.Message.{Content}
use Rattle.sg_msg.specs.declared.offer.Offer.{Offer}
use Rattle.sg_tree.specs.Walk.{WalkResult, stopped, both}

abbrev pub walked : List Offer → List Content → Bool → WalkResult
walked deliveries out processed = record { deliveries = deliveries; out = out; processed = processed }

pub or-assoc : (a b c : Bool) → ((a || b) || c) ≡ (a || (b || c))
or-assoc true b c = refl
or-assoc false b c = refl

pub or-false : (a : Bool) → (a || false) ≡ a
or-false true = refl
or-false false = refl

pub same-walked : (d d' : List Offer) (o o' : List Content) (p p' : Bool) → d ≡ d' → o ≡ o' → p ≡ p' → walked d o p ≡ walked d' o' p'
same-walked d d' o o' p p' a b c = λ i. walked (a i) (b i) (c i)

pub both-assoc : (a b c : WalkResult) → both (both a b) c ≡ both a (both b c)
both-assoc a b c =
    same-walked _ _ _ _ _ _ (append_assoc a.deliveries b.deliveries c.deliveries) (append_assoc a.out b.out c.out) (or-assoc a.processed b.processed c.processed)

pub both-stopped : (a : WalkResult) → both a stopped ≡ a
both-stopped a = same-walked _ _ _ _ _ _ (append-nil a.deliveries) (append-nil a.out) (or-false a.processed)

pub and-left : (a b : Bool) → (a && b) ≡ true → a ≡ true
and-left true b e = refl
and-left false b e = e
