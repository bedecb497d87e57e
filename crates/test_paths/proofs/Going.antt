-- What a walk has left so far.
use Rattle.std.proofs.Common.{◌≡◌, false, List, [], ◌++◌, refl, sym, ap, ◌∙◌, subst}
use Rattle.std.specs.Prelude.{◌||◌}
use Rattle.std.proofs.lemmas.List.{append_assoc, append-nil}
use Rattle.sg_msg.specs.Message.{Content}
use Rattle.sg_msg.specs.declared.offer.Offer.{Offer}
use Rattle.sg_tree.specs.Walk.{WalkResult, stopped, both, after_deliveries}
use Rattle.sg_tree.proofs.Going.{walked, same-walked, both-assoc, both-stopped}
use Rattle.test_paths.specs.declared.gone.RoutedMessages.{RoutedMessages}
use Rattle.test_paths.specs.Gives.{GivesWalked}

abbrev pub left : List Offer → RoutedMessages → WalkResult
left done gone = walked done gone.out.items gone.processed

-- the whole is what was left so far, and what comes later
pub record Sofar (old new : List Offer) (gone : RoutedMessages) (whole later : WalkResult) : Type 0 where
  pub done : List Offer
  pub offers : new ≡ old ++ done
  pub whole_is : whole ≡ both (left done gone) later

-- the whole is what comes later, behind these deliveries
pub record BehindElements (old new : List Offer) (whole later : WalkResult) : Type 0 where
  pub done : List Offer
  pub offers : new ≡ old ++ done
  pub whole_is : whole ≡ after_deliveries done later

-- two left one after the other
left-both : (done more : List Offer) (gone next after : RoutedMessages) (mine : WalkResult)
    → after.out.items ≡ gone.out.items ++ next.out.items → after.processed ≡ (gone.processed || next.processed)
    → more ≡ mine.deliveries → next.out.items ≡ mine.out → next.processed ≡ mine.processed
    → both (left done gone) mine ≡ left (done ++ more) after
left-both done more gone next after mine o p d nout nproc =
    same-walked _ _ _ _ _ _ (ap (λ x. done ++ x) (sym d)) (ap (λ x. gone.out.items ++ x) (sym nout) ∙ sym o) (ap (λ x. gone.processed || x) (sym nproc) ∙ sym p)

pub begins : (old : List Offer) (gone : RoutedMessages) (whole : WalkResult) → gone.out.items ≡ [] → gone.processed ≡ false → Sofar old old gone whole whole
begins old gone whole o p = record {
  done = [];
  offers = sym (append-nil old);
  whole_is = ap (λ x. both x whole) (sym (same-walked [] [] _ _ _ _ refl o p));
}

-- one more
pub goes-on : (old mid new : List Offer) (gone next after : RoutedMessages) (whole mine later : WalkResult)
    → Sofar old mid gone whole (both mine later) → GivesWalked mid new next mine
    → after.out.items ≡ gone.out.items ++ next.out.items → after.processed ≡ (gone.processed || next.processed)
    → Sofar old new after whole later
goes-on old mid new gone next after whole mine later s g o p = record {
  done = s.done ++ mine.deliveries;
  offers = g.offers ∙ ap (λ x. x ++ mine.deliveries) s.offers ∙ append_assoc old s.done mine.deliveries;
  whole_is = s.whole_is ∙ sym (both-assoc (left s.done gone) mine later) ∙ ap (λ x. both x later) (left-both s.done mine.deliveries gone next after mine o p refl g.out g.processed);
}

pub ends : (old new : List Offer) (gone : RoutedMessages) (whole : WalkResult) → Sofar old new gone whole stopped → GivesWalked old new gone whole
ends old new gone whole s =
    let is = s.whole_is ∙ both-stopped (left s.done gone) in
    record {
      offers = s.offers ∙ ap (λ (w : WalkResult). old ++ w.deliveries) (sym is);
      out = ap (λ (w : WalkResult). w.out) (sym is);
      processed = ap (λ (w : WalkResult). w.processed) (sym is);
    }

-- the last one
pub ends-with : (old mid new : List Offer) (gone next after : RoutedMessages) (whole mine : WalkResult)
    → Sofar old mid gone whole mine → GivesWalked mid new next mine
    → after.out.items ≡ gone.out.items ++ next.out.items → after.processed ≡ (gone.processed || next.processed)
    → GivesWalked old new after whole
ends-with old mid new gone next after whole mine s g o p =
    ends old new after whole (goes-on old mid new gone next after whole mine stopped (record { done = s.done; offers = s.offers; whole_is = s.whole_is ∙ ap (both (left s.done gone)) (sym (both-stopped mine)) }) g o p)

-- a result of the same walk
pub gives-at : (old new : List Offer) (gone : RoutedMessages) (w w' : WalkResult) → w ≡ w' → GivesWalked old new gone w → GivesWalked old new gone w'
gives-at old new gone w w' e g = subst (GivesWalked old new gone) e g

-- what comes later is given
pub behind-gives : (old mid new : List Offer) (gone : RoutedMessages) (whole later : WalkResult) → BehindElements old mid whole later → GivesWalked mid new gone later → GivesWalked old new gone whole
behind-gives old mid new gone whole later b g = record {
  offers = g.offers ∙ ap (λ x. x ++ later.deliveries) b.offers ∙ append_assoc old b.done later.deliveries ∙ ap (λ (w : WalkResult). old ++ w.deliveries) (sym b.whole_is);
  out = g.out ∙ ap (λ (w : WalkResult). w.out) (sym b.whole_is);
  processed = g.processed ∙ ap (λ (w : WalkResult). w.processed) (sym b.whole_is);
}

pub behind-begins : (old : List Offer) (whole : WalkResult) → BehindElements old old whole whole
behind-begins old whole = record { done = []; offers = sym (append-nil old); whole_is = refl }

-- more deliveries
pub behind-more : (old mid new more : List Offer) (whole later : WalkResult) → BehindElements old mid whole (after_deliveries more later) → new ≡ mid ++ more → BehindElements old new whole later
behind-more old mid new more whole later b e = record {
  done = b.done ++ more;
  offers = e ∙ ap (λ x. x ++ more) b.offers ∙ append_assoc old b.done more;
  whole_is = b.whole_is ∙ same-walked _ _ _ _ _ _ (sym (append_assoc b.done more later.deliveries)) refl refl;
}

pub behind-at : (old new : List Offer) (whole later later' : WalkResult) → later ≡ later' → BehindElements old new whole later → BehindElements old new whole later'
behind-at old new whole later later' e b = subst (BehindElements old new whole) e b

pub sofar-at : (old new new' : List Offer) (gone gone' : RoutedMessages) (whole later later' : WalkResult) → new' ≡ new → gone' ≡ gone → later ≡ later' → Sofar old new gone whole later → Sofar old new' gone' whole later'
sofar-at old new new' gone gone' whole later later' en eg el s =
    subst (Sofar old new' gone' whole) el (subst (λ (g : RoutedMessages). Sofar old new' g whole later) (sym eg) (subst (λ (x : List Offer). Sofar old x gone whole later) (sym en) s))
