-- INPUT is traced to its end, where the machine tells its files and nothing fails.
use Rattle.std.proofs.Common.{◌≡◌, ◌∙◌, ℕ, List, Option, Some, None, Result, Ok, Err, sym, ap, subst}
use Rattle.sg_device.specs.Faults.{Rose}
use Rattle.sg_outside.specs.World.{Files, WorldState}
use Rattle.sg_expand.specs.One.{AreAlikeOutcomes as OutcomesAreAlike}
use Rattle.sg_run_plan.specs.declared.inlet.InletPlan.{InletPlan}
use Rattle.sg_config.specs.Alike.{AreAlikeConfigs}
use Rattle.sg_config.specs.Means.{Means}
use Rattle.sg_config.specs.declared.config.Config.{Config}
use Rattle.sg_loaded.specs.Loading.{OnlyLoads, Configures, IsConfigured}
use Rattle.sg_loaded.specs.declared.loaded.Loaded.{Loaded}
use Rattle.sg_trace.specs.Traces.{Feed, spec_of, read_inlets, TracesUntroubled as IsTracedUntroubled, WasTraced as IsTraced}
use Rattle.sg_trace.specs.declared.untraced.Untraced.{Untraced}
use Rattle.sg_trace.specs.declared.unshown.Unshown.{Unshown}
use Rattle.sg_trace.specs.Tracing.{first_of, shown, TracesInlet, TracesSource}
use Rattle.sg_trace.specs.Completeness.{ShowsUntroubled, WasShown}
use Rattle.sg_loaded.proofs.Complete.{ExpansionsAreOne, MeansOne, same-tokens}

-- ---- a file is one configuration

same-inlets : ExpansionsAreOne → MeansOne → (world : WorldState) (file : List ℕ) (files : Files) (a b : Config) → world.files ≡ Some files → Configures world file a → Configures world file b
    → a.inlets.items ≡ b.inlets.items
same-inlets law one world file files a b told is is' =
    let same : is'.tokens ≡ is.tokens = same-tokens law world is.read is'.read file files is.tokens is'.tokens is.names is'.names told is.expands is'.expands in
    let alike : AreAlikeConfigs a b = one is.tokens a b is.means (subst (λ t. Means t b) same is'.means) in
    alike.inlets

-- ---- nothing fails

calm-trace : (old loaded new : WorldState) (input : List ℕ) (limit : ℕ) (feed : Option Feed) → OnlyLoads old loaded → ShowsUntroubled old new input
    → new.inlets ≡ read_inlets loaded.inlets (spec_of input limit) feed → IsTracedUntroubled loaded new feed
calm-trace old loaded new input limit None only calm is = record {
  opening = subst (λ n. ¬ Rose n new.inlet_faults) (sym (ap (λ (w : WorldState). w.inlet_faults) only.0)) calm.opening;
  say = subst (λ n. ¬ Rose n new.say_faults) (sym (ap (λ (w : WorldState). w.say_faults) only.0)) calm.say;
  inlet = tt;
}
calm-trace old loaded new input limit (Some feed) only calm is = record {
  opening = subst (λ n. ¬ Rose n new.inlet_faults) (sym (ap (λ (w : WorldState). w.inlet_faults) only.0)) calm.opening;
  say = subst (λ n. ¬ Rose n new.say_faults) (sym (ap (λ (w : WorldState). w.say_faults) only.0)) calm.say;
  inlet = calm.inlet limit feed (is ∙ ap (λ (w : WorldState). read_inlets w.inlets (spec_of input limit) (Some feed)) only.0);
}

shown-complete : (traced : Result Unit Untraced) → IsTraced traced → WasShown (shown traced)
shown-complete (Ok done) complete = tt
shown-complete (Err wrong) complete = complete

inlet-complete : (config : Config) (i : ℕ) (old loaded new : WorldState) (input : List ℕ) (result : Result Unit Unshown) → OnlyLoads old loaded → ShowsUntroubled old new input
    → TracesInlet config i loaded new input result → WasShown result
inlet-complete config i old loaded new input result only calm found =
    let (feed, (rows, by)) = found.traces in
    let calm' = calm-trace old loaded new input found.inlet.limit feed only calm (ap (λ (w : WorldState). w.inlets) by.state) in
    subst WasShown (sym found.ends) (shown-complete found.traced (by.complete calm'))

pub complete : ExpansionsAreOne → MeansOne → (old loaded new : WorldState) (file source input : List ℕ) (of_file : Loaded) (result : Result Unit Unshown) → OnlyLoads old loaded → IsConfigured old file of_file
    → TracesSource of_file.config file (first_of 0 source of_file.config.inlets.items) loaded new input result
    → (files : Files) (config : Config) (i : ℕ) → old.files ≡ Some files → Configures old file config → first_of 0 source config.inlets.items ≡ Some i → ShowsUntroubled old new input → WasShown result
complete law one old loaded new file source input of_file result only configured traces files config i told is first calm =
    let same : of_file.config.inlets.items ≡ config.inlets.items = same-inlets law one old file files of_file.config config told configured.configures is in
    let found : first_of 0 source of_file.config.inlets.items ≡ Some i = ap (λ (inlets : List InletPlan). first_of 0 source inlets) same ∙ first in
    inlet-complete of_file.config i old loaded new input result only calm (subst (λ (n : Option ℕ). TracesSource of_file.config file n loaded new input result) found traces)
