-- Drivers read one after another.
use Rattle.std.specs.declared.alloc.Global.{Global}
use Rattle.std.proofs.Common.{◌≡◌, ◌∙◌, ℕ, ◌+◌, ◌<◌, ◌≤◌, List, [], ◌∷◌, ◌++◌, length, get_or, take, map, Vec, refl, sym, ap, subst}
use Rattle.std.specs.List.{flat_map}
use Rattle.std.proofs.lemmas.List.{take_more, take_all, append-nil, append_assoc, map-append}
use Rattle.sg_parse_expr.specs.declared.tree.Call.{Call}
use Rattle.sg_parse_obj.specs.declared.driver.Side.{Side}
use Rattle.sg_plan.specs.declared.owner.Owner.{Owner}
use Rattle.sg_visit.specs.Leaves.{Leaves}
use Rattle.sg_visit.specs.Visits.{Visits}
use Rattle.sg_visit.proofs.Visiting.{visits-joined}
use Rattle.sg_plan.specs.declared.globals.Globals.{Globals}
use Rattle.sg_plan.specs.declared.driver.OwnedDriver.{OwnedDriver}
use Rattle.sg_plan.specs.Owned.{Owned, leaf_owned}
use Rattle.sg_plan.specs.Reading.{AreDriversRead, ReadsDrivers}

pub are-read-append : (globals : Globals) (ws vs : Owned) (ds es : List OwnedDriver) → AreDriversRead globals ws ds → AreDriversRead globals vs es → AreDriversRead globals (ws ++ vs) (ds ++ es)
are-read-append globals [] vs [] es a b = b
are-read-append globals [] vs (d ∷ ds) es a b = absurd a
are-read-append globals (w ∷ ws) vs [] es a b = absurd a
are-read-append globals (w ∷ ws) vs (d ∷ ds) es a b = (a.0, a.1, are-read-append globals ws vs ds es a.2 b)

pub reads-none : (globals : Globals) (xs : List OwnedDriver) → ReadsDrivers globals [] xs xs
reads-none globals xs = record { more = []; added = sym (append-nil xs); read = tt }

-- two parts, one behind the other
pub reads-join : (globals : Globals) (a b c : List OwnedDriver) (ws vs zs : Owned) → ReadsDrivers globals ws a b → ReadsDrivers globals vs b c → ws ++ vs ≡ zs → ReadsDrivers globals zs a c
reads-join globals a b c ws vs zs p q whole = record {
  more = p.more ++ q.more;
  added = q.added ∙ ap (λ xs. xs ++ q.more) p.added ∙ append_assoc a p.more q.more;
  read = subst (λ os. AreDriversRead globals os (p.more ++ q.more)) whole (are-read-append globals ws vs p.more q.more p.read q.read);
}

-- one more of several things that each are one
pub reads-one : {X : Type 0} (globals : Globals) (one : X → Owner × (Side × Call)) (a b c : List OwnedDriver) (xs : List X) (i : ℕ) (x : X) → i < length xs → x ≡ get_or xs i x
    → ReadsDrivers globals (map one (take i xs)) a b → ReadsDrivers globals (one x ∷ []) b c → ReadsDrivers globals (map one (take (i + 1) xs)) a c
reads-one globals one a b c xs i x within item before here =
    reads-join globals a b c (map one (take i xs)) (one x ∷ []) (map one (take (i + 1) xs)) before here
    (ap (λ y. map one (take i xs) ++ one y ∷ []) item ∙ sym (map-append one (take i xs) (get_or xs i x ∷ [])) ∙ ap (map one) (sym (take_more xs i x within)))

pub reads-ones : {X : Type 0} (globals : Globals) (one : X → Owner × (Side × Call)) (a b : List OwnedDriver) (xs : List X) (i : ℕ) → length xs ≤ i → ReadsDrivers globals (map one (take i xs)) a b → ReadsDrivers globals (map one xs) a b
reads-ones globals one a b xs i past before = subst (λ ys. ReadsDrivers globals (map one ys) a b) (take_all i xs past) before

-- leaves that each have some
pub reads-visited : (globals : Globals) (leaves : Leaves) (a b : Vec OwnedDriver Global) → Visits (λ old leaf new. ReadsDrivers globals (leaf_owned leaf) old.items new.items) leaves a b → ReadsDrivers globals (flat_map leaf_owned leaves) a.items b.items
reads-visited globals leaves a b visits =
    visits-joined leaf_owned (λ (ws : Owned) (old new : Vec OwnedDriver Global). ReadsDrivers globals ws old.items new.items) (λ x. reads-none globals x.items)
    (λ ws vs x y z first second. reads-join globals x.items y.items z.items ws vs (ws ++ vs) first second refl) leaves a b visits
