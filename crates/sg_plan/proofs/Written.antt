-- Drivers without their statements.
use Rattle.std.proofs.Common.{◌≡◌, Bool, true, List, [], ◌∷◌, ◌++◌, map, refl, sym, ap, ◌∙◌}
use Rattle.std.specs.List.{flat_map}
use Rattle.std.proofs.lemmas.List.{map-append}
use Rattle.sg_parse_base.specs.declared.spot.Spot.{Spot}
use Rattle.sg_parse_expr.specs.declared.tree.Call.{Call}
use Rattle.sg_parse_obj.specs.declared.driver.Side.{Side}
use Rattle.sg_parse_obj.specs.declared.driver.Side.TheVariants as side
use Rattle.sg_parse_obj.specs.declared.object.Object.{Object}
use Rattle.sg_parse_obj.specs.declared.object.Object.TheVariants as object
use Rattle.sg_parse_path.specs.declared.tree.RawRef.{RawRef}
use Rattle.sg_parse_path.specs.declared.tree.RawRef.TheVariants as ref
use Rattle.sg_plan.specs.declared.owner.Owner.{Owner}
use Rattle.sg_resolve.specs.Ends.{Drivers, object_drivers, reference_drivers}
use Rattle.sg_plan.specs.Owned.{Owned, calls_at, object_owned, reference_owned}

abbrev pub written : Owned → List (Side × Call)
written owned = map (λ (o : Owner × (Side × Call)). o.1) owned

pub calls-joined : (inline : Bool) (name : Spot) (of : Side) (calls : List Call) → map (λ call. (of, call)) calls ≡ written (calls_at inline name of calls)
calls-joined inline name of [] = refl
calls-joined inline name of (c ∷ cs) = ap (λ ds. (of, c) ∷ ds) (calls-joined inline name of cs)

pub object-joined : (inline : Bool) (o : Object) → object_drivers o ≡ written (object_owned inline o)
object-joined inline (object.Options calls) = refl
object-joined inline (object.Source name calls) = calls-joined inline name side.Source calls
object-joined inline (object.Destination name calls) = calls-joined inline name side.Destination calls
object-joined inline (object.Filter name expr) = refl
object-joined inline (object.Rewrite name calls) = refl
object-joined inline (object.Parser name calls) = refl
object-joined inline (object.Template name text) = refl

pub reference-joined : (r : RawRef) → reference_drivers r ≡ written (reference_owned r)
reference-joined (ref.Named spot) = refl
reference-joined (ref.Inline o) = object-joined true o

pub all-joined : {X : Type 0} (f : X → Drivers) (g : X → Owned) → ((x : X) → f x ≡ written (g x)) → (xs : List X) → flat_map f xs ≡ written (flat_map g xs)
all-joined f g h [] = refl
all-joined f g h (x ∷ xs) = (λ i. h x i ++ all-joined f g h xs i) ∙ sym (map-append (λ (o : Owner × (Side × Call)). o.1) (g x) (flat_map g xs))
