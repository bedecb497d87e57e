-- What a run leaves covered, by the laws on a plan's run.
use Rattle.std.proofs.Common.{◌≡◌, ℕ, Some, None, List, map, slice_get, sym, ap, ◌∙◌, subst}
use Rattle.sg_list.proofs.ListLemmas.{slice_get-map}
use Rattle.sg_device.specs.Inlet.{InletState}
use Rattle.sg_device.specs.Outlet.{OutletState}
use Rattle.sg_outside.specs.World.{WorldState}
use Rattle.sg_msg.specs.declared.offer.Offer.{Offer}
use Rattle.sg_frame.specs.Records.{Record}
use Rattle.sg_route.specs.Offers.{record_at}
use Rattle.sg_tree.specs.Offers.{Woods, AreOffers}
use Rattle.sg_pipes.specs.declared.pipes.Pipes.{Pipes}
use Rattle.sg_config.specs.declared.config.Config.{Config}
use Rattle.sg_serve.specs.Plan.{IsRunnable}
use Rattle.sg_serve.specs.Run.{CoreRun, Reached, RunsWith}
use Rattle.sg_serve.specs.declared.ending.PlanEnded.{PlanEnded}
use Rattle.sg_serve.specs.declared.ending.PlanEnded.TheVariants.{Before, Ran}
use Rattle.sg_run_plan.specs.declared.plan.RunPlan.{RunPlan}
use Rattle.sg_turns.specs.declared.ended.Ended.TheVariants.{Quiet, RoundsSpent as Spent, NoMemory}
use Rattle.sg_laws.proofs.PreludeLemmas.{get-back}
use Rattle.sg_laws.specs.Covered.{Pass, Delivery, Covered}
use Rattle.sg_laws.specs.Adding.{offers_in}
use Rattle.sg_laws.specs.Happened.{AllTell, AreOfFiles, TellFiles, EachChoice, files_of, PlanRunsHappen, PlanRunsCover}
use Rattle.sg_laws.specs.Clean.{AreFilesByLines, PlanRunsEndClean}
use Rattle.sg_laws.specs.Rest.{PlanRunsRest}
use Rattle.sg_laws.proofs.HappenedLemmas.{happened-too}
use Rattle.sg_run.specs.Covering.{CleanSo, Covers}
use Rattle.sg_run.specs.Meaning.{paths_of, AreRouters}
use Rattle.sg_run.specs.Run.{offers_by}

-- routers of one configuration give the same
pub same-offers : (config : Config) (routers by : List Pipes) → AreRouters config routers → AreRouters config by → (pass : Pass) (given : List Offer) → offers_in offers_by routers pass given → offers_in offers_by by pass given
same-offers config routers by are others pass given (router, (at, says)) =
    let all : map paths_of by ≡ map paths_of routers = others ∙ sym are in
    let there : slice_get (map paths_of by) pass.inlet ≡ Some (paths_of router) = ap (λ (ws : List Woods). slice_get ws pass.inlet) all ∙ slice_get-map paths_of routers pass.inlet router at in
    let other = get-back paths_of by pass.inlet (paths_of router) there in
    let P : Woods → Type 0 = λ woods. AreOffers woods pass.inlet (record_at pass.peer pass.text pass.at) given in
    (other.0, (other.1.0, subst P (sym other.1.1) says))

module _ {R I O : Type 0} (feed : I → InletState) (drain : O → OutletState) (offers : R → ℕ → Record → List Offer → Type 0) (inlets dests : R → ℕ) (old new : WorldState) (plan : RunPlan) (routers by : List R) (rounds : ℕ) (reached : Reached) (can : IsRunnable plan)
    (of_files : AreOfFiles plan) (lines : AreFilesByLines plan) (same : (pass : Pass) (given : List Offer) → offers_in offers routers pass given → offers_in offers by pass given) (happen : PlanRunsHappen feed drain offers inlets dests)
    (cover : PlanRunsCover feed drain offers inlets dests) (clean : PlanRunsEndClean feed drain offers inlets dests) (rest : PlanRunsRest feed drain offers inlets dests) where
  clean-by : (ending : PlanEnded) (run : CoreRun) (bytes : ℕ → List ℕ) (taken : List Delivery) (passes : List Pass) (places : ℕ → ℕ) → RunsWith feed drain offers inlets dests old new plan routers rounds ending reached → reached.core ≡ Some run → AllTell reached.stores
      → TellFiles old.files plan reached.inlets bytes → EachChoice plan.setup reached.stores (Covered plan.setup (offers_in offers by) (files_of plan.inlets.items bytes) taken passes places) → CleanSo plan reached ending bytes
  clean-by (Before early) run bytes taken passes places runs core told tell before = tt
  clean-by (Ran Quiet None) run bytes taken passes places runs core told tell before = tt
  clean-by (Ran Quiet (Some counts)) run bytes taken passes places runs core told tell before =
      λ none. clean old new plan routers by rounds counts reached run bytes taken passes places can of_files lines runs core none told tell before
  clean-by (Ran Spent counts) run bytes taken passes places runs core told tell before = tt
  clean-by (Ran NoMemory counts) run bytes taken passes places runs core told tell before = tt

  pub covers-by : (ending : PlanEnded) → RunsWith feed drain offers inlets dests old new plan routers rounds ending reached → Covers offers old.files plan by reached ending
  covers-by ending runs = record {
    unopened = λ bytes taken passes places none before. rest old new plan routers by rounds ending reached bytes taken passes places can runs none before;
    happened = λ run core. happened-too (offers_in offers routers) (offers_in offers by) same old.files plan reached run (happen old new plan routers rounds ending reached run can of_files runs core);
    opened = λ run had bytes taken passes places core told tell before. record {
      leaves = cover old new plan routers by rounds ending reached run had bytes taken passes places can runs core told tell before;
      clean = clean-by ending run bytes taken passes places runs core told tell before;
    };
  }
