-- What stands under which path: the texts that an opener took are those of the frames that its outlet took, and these are the frames of the
-- entries that were settled.
use Rattle.std.proofs.Common.{◌≡◌, ℕ, suc, zero, List, [], ◌∷◌, ◌++◌, map, drop, length, slice_get, Option, Some, None, IfSome, refl, sym, ap, ◌∙◌, subst, pred}
use Rattle.std.specs.Option.{option_map}
use Rattle.sg_device.specs.Outlet.{OutletState, IsUnusedOutlet}
use Rattle.sg_device.specs.Paths.{PathsState, PathText}
use Rattle.sg_msg.specs.Message.{Content}
use Rattle.sg_macro.specs.declared.part.TemplatePart.{TemplatePart}
use Rattle.sg_template.specs.declared.env.Env.{Env}
use Rattle.sg_machine.specs.declared.event.Event.{Event}
use Rattle.sg_machine.specs.declared.state.DestEntry.{DestEntry}
use Rattle.sg_machine.specs.declared.state.State.{State}
use Rattle.sg_outfmt.specs.Frame.{frame_of}
use Rattle.sg_outfmt.specs.declared.shape.Shape.{Shape}
use Rattle.sg_outfmt.specs.declared.shape.Shape.TheVariants.{ByPath}
use Rattle.sg_dynfile.specs.ByPath.{frame_by_path, texts_with_path}
use Rattle.sg_dynfile.specs.Texts.{parted, texts_under}
use Rattle.sg_dynfile.specs.View.{LieUnderPaths}
use Rattle.sg_list.proofs.ListLemmas.{some-same, slice_get-map}
use Rattle.sg_run_plan.specs.declared.outlet.OutletPlan.{OutletPlan}
use Rattle.sg_run_plan.specs.declared.plan.RunPlan.{RunPlan}
use Rattle.sg_serve.specs.Devices.{AllAreNew}
use Rattle.sg_serve.specs.Exits.{Out, LieIn, AllLie, AreFreshOuts, outlets_in}
use Rattle.sg_serve.specs.Overflows.{IsWayWhole, AreWaysWhole}
use Rattle.sg_serve.specs.Run.{CoreRun, Reached}
use Rattle.sg_laws.specs.ByPath.{AreByPath, TakesByPath}
use Rattle.sg_laws.specs.Headline.{TakesThese, frame_planned}

-- the law of frames by path
abbrev pub StandUnder : Type 0
StandUnder =
    (path text : List TemplatePart) (env : Env) (name : List ℕ) (messages : List Content) → texts_under name (map parted (map (frame_by_path path text env) messages)) ≡ texts_with_path path text env name messages

-- what is told of all that was closed holds of each
lie-at : (outs : List Out) (d : ℕ) (out : Out) → AllLie outs → slice_get outs d ≡ Some out → LieIn out
lie-at [] d out lie at = absurd (let wrong : None ≡ Some out = at in cc)
lie-at (o ∷ os) zero out lie at = subst LieIn (some-same o out at) lie.0
lie-at (o ∷ os) (suc d) out lie at = lie-at os d out lie.1 at

whole-at : (outs : List Out) (d : ℕ) (out : Out) → AreWaysWhole outs → slice_get outs d ≡ Some out → IsWayWhole out
whole-at [] d out whole at = absurd (let wrong : None ≡ Some out = at in cc)
whole-at (o ∷ os) zero out whole at = subst IsWayWhole (some-same o out at) whole.0
whole-at (o ∷ os) (suc d) out whole at = whole-at os d out whole.1 at

-- where no frames are held back, the texts of an opener are those of the frames that its outlet took
lies-under : (out : Out) (opener : PathsState) → LieIn out → IsWayWhole out → out.held ≡ None → out.opener ≡ Some opener → LieUnderPaths out.outlet.taken opener.taken
lies-under out opener lie whole none has =
    let here : LieUnderPaths out.inner.taken opener.taken = subst (λ (o : Option PathsState). IfSome o (λ (p : PathsState). LieUnderPaths out.inner.taken p.taken)) has lie in
    subst (λ (o : OutletState). LieUnderPaths o.taken opener.taken) (whole.direct none) here

-- those that are fresh have taken nothing
pub fresh-new : (outs : List Out) → AreFreshOuts outs → AllAreNew (outlets_in outs)
fresh-new [] fresh = tt
fresh-new (o ∷ os) fresh = ((fresh.0).0, fresh-new os fresh.1)

-- there is one in a list of as many
new-at : (opened closed : List OutletState) (d : ℕ) (last : OutletState) → AllAreNew opened → length closed ≡ length opened → slice_get closed d ≡ Some last → (first : OutletState) × (slice_get opened d ≡ Some first) × IsUnusedOutlet first
new-at [] [] d last new same at = absurd (let wrong : None ≡ Some last = at in cc)
new-at [] (c ∷ cs) d last new same at = absurd (let wrong : suc (length cs) ≡ zero = same in cc)
new-at (o ∷ os) [] d last new same at = absurd (let wrong : zero ≡ suc (length os) = same in cc)
new-at (o ∷ os) (c ∷ cs) zero last new same at = (o, refl, new.0)
new-at (o ∷ os) (c ∷ cs) (suc d) last new same at = new-at os cs d last new.1 (ap (λ (n : ℕ). pred n) same) at

-- texts that are those of these frames are those of the messages with their path
texts-are : StandUnder → (plan : OutletPlan) (messages : List Content) (frames : List (List ℕ)) → frames ≡ map (λ m. frame_of plan.shape m plan.env) messages → AreByPath plan messages (map parted frames)
texts-are stand plan messages frames are path text name shape =
    let by : frames ≡ map (frame_by_path path text plan.env) messages = subst (λ (s : Shape). frames ≡ map (λ m. frame_of s m plan.env) messages) shape are in
    ap (λ (fs : List (List ℕ)). texts_under name (map parted fs)) by ∙ stand path text plan.env name messages

-- an outlet that was new took these frames
told : StandUnder → (plan : OutletPlan) (messages : List Content) (first last : Option (List (List ℕ))) (texts : Option (List PathText)) → IfSome first (λ frames. frames ≡ [])
    → last ≡ option_map (λ before. before ++ map (λ m. frame_of plan.shape m plan.env) messages) first → texts ≡ option_map (map parted) last → IfSome texts (AreByPath plan messages)
told stand plan messages None last texts new takes lie =
    let none : texts ≡ None = lie ∙ ap (λ (l : Option (List (List ℕ))). option_map (map parted) l) takes in
    subst (λ (t : Option (List PathText)). IfSome t (AreByPath plan messages)) (sym none) tt
told stand plan messages (Some before) last texts new takes lie =
    let frames = before ++ map (λ m. frame_of plan.shape m plan.env) messages in
    let are : frames ≡ map (λ m. frame_of plan.shape m plan.env) messages = ap (λ (l : List (List ℕ)). l ++ map (λ m. frame_of plan.shape m plan.env) messages) new in
    let some : texts ≡ Some (map parted frames) = lie ∙ ap (λ (l : Option (List (List ℕ))). option_map (map parted) l) takes in
    subst (λ (t : Option (List PathText)). IfSome t (AreByPath plan messages)) (sym some) (texts-are stand plan messages frames are)

-- The outlets of a run were new, each of them was closed, and each opener lies under the one that it stands behind.
pub record OutletsLie (reached : Reached) : Type 0 where
  pub lie : AllLie reached.outs_closed
  pub whole : AreWaysWhole reached.outs_closed
  pub closed_are : reached.outlets_closed ≡ outlets_in reached.outs_closed
  pub are_new : AllAreNew reached.outlets
  pub as_many : length reached.outlets_closed ≡ length reached.outlets

-- first what an entry holds, then what that gives
map-both : {A B C : Type 0} (f : B → C) (g : A → B) (xs : List A) → map (λ x. f (g x)) xs ≡ map f (map g xs)
map-both f g [] = refl
map-both f g (x ∷ xs) = ap (λ ys. f (g x) ∷ ys) (map-both f g xs)

-- what each outlet took stands under the paths of its opener
pub takes-by-path : StandUnder → (plan : RunPlan) (reached : Reached) (run : CoreRun) (start : State) (events : List Event) → OutletsLie reached → TakesThese plan reached run start events → TakesByPath plan reached run start events
takes-by-path stand plan reached run start events outlets takes d outlet out opener first last at_plan at_out direct has is told_first =
    let closed : slice_get reached.outlets_closed d ≡ Some out.outlet =
    ap (λ (os : List OutletState). slice_get os d) outlets.closed_are ∙ slice_get-map (λ (o : Out). o.outlet) reached.outs_closed d out at_out in
    let lie = lies-under out opener (lie-at reached.outs_closed d out outlets.lie at_out) (whole-at reached.outs_closed d out outlets.whole at_out) direct has in
    let new = new-at reached.outlets reached.outlets_closed d out.outlet outlets.are_new outlets.as_many closed in
    let these = takes d new.0 out.outlet first last new.1 closed is in
    let entries = drop (length first.settled) last.settled in
    let frame : Content → List ℕ = λ m. frame_of outlet.shape m outlet.env in
    let framed : (out.outlet).taken ≡ option_map (λ before. before ++ map (λ e. frame e.message) entries) (new.0).taken =
    these.told told_first ∙ ap (λ (o : Option OutletPlan). option_map (λ before. before ++ map (λ e. frame_planned o e.message) entries) (new.0).taken) at_plan in
    let apart : (out.outlet).taken ≡ option_map (λ before. before ++ map frame (map (λ e. e.message) entries)) (new.0).taken =
    framed ∙ ap (λ (fs : List (List ℕ)). option_map (λ before. before ++ fs) (new.0).taken) (map-both frame (λ (e : DestEntry). e.message) entries) in
    told stand outlet (map (λ e. e.message) entries) (new.0).taken (out.outlet).taken opener.taken (new.2).taken apart lie
