-- Lemmas on `trace`.
use Rattle.std.proofs.Common.{◌≡◌, ℕ, List, refl, sym, ap, ◌∙◌, subst, Some, Result, Ok, Err}
use Rattle.sg_device.specs.Faults.{Rose}
use Rattle.sg_outside.specs.World.{WorldState, Files}
use Rattle.sg_config.specs.declared.config.Config.{Config}
use Rattle.sg_loaded.specs.Compiling.{CanBeCompiled}
use Rattle.sg_loaded.specs.Loading.{Configures}
use Rattle.sg_loaded.specs.declared.loaded.Unloaded.{Unloaded}
use Rattle.sg_loaded.specs.declared.loaded.Unloaded.TheVariants.{Bad, Unread, NoMemory as Unfed}
use Rattle.sg_trace.specs.Traces.{WasTraced as IsTraced}
use Rattle.sg_trace.specs.declared.untraced.Untraced.{Untraced}
use Rattle.sg_trace.specs.declared.untraced.Untraced.TheVariants.{NotOpened, InletFault, RoundsSpent, SayFault, NoMemory}
use Rattle.sg_trace.specs.Tracing.{first_of, TracesFile}
use Rattle.sg_trace.specs.Completeness.{ShowsUntroubled, WasShown as IsShown}
use Rattle.sg_trace.specs.declared.unshown.Unshown.{Unshown}
use Rattle.sg_trace.specs.declared.unshown.Unshown.TheVariants as unshown
use Rattle.sg_run.specs.declared.end.End.TheVariants.{Clean}
use Rattle.sg_daemon.specs.Loading.{TellsUnloaded}
use Rattle.sg_daemon.specs.Tracing.{status_untraced, IsComplete, TracesCommand}
use Rattle.sg_daemon.specs.declared.status.Status.{Status}
use Rattle.sg_daemon.specs.declared.status.Status.TheVariants.{Ended}
use Rattle.sg_output.proofs.Sayings.{rose-on}
use Rattle.sg_daemon.proofs.SaidLemmas.{OnlyTells, tells-of}

-- INPUT is traced to its end, where no trouble comes
abbrev pub IsWhole : WorldState → WorldState → List ℕ → List ℕ → List ℕ → Result Unit Unshown → Type 0
IsWhole old shown file source input result =
    (files : Files) (config : Config) (i : ℕ) → old.files ≡ Some files → Configures old file config → CanBeCompiled config → first_of 0 source config.inlets.items ≡ Some i → ShowsUntroubled old shown input → IsShown result

pub traces-ok : (old new : WorldState) (file source input : List ℕ) → TracesFile old new file source input (Ok tt) → TracesCommand old new file source input (Ended Clean)
traces-ok old new file source input traces = (new, (Ok tt, record { traces = traces; ends = (refl, refl); complete = λ files config i f c k n u. tt }))

whole-status : (untraced : Untraced) → IsTraced (Err untraced) → IsComplete (status_untraced untraced)
whole-status NotOpened is = absurd is
whole-status InletFault is = absurd is
whole-status RoundsSpent is = absurd is
whole-status SayFault is = absurd is
whole-status NoMemory is = tt

pub traces-ended : (old new : WorldState) (file source input : List ℕ) (untraced : Untraced) → TracesFile old new file source input (Err (unshown.Untraced untraced)) → IsWhole old new file source input (Err (unshown.Untraced untraced))
    → TracesCommand old new file source input (status_untraced untraced)
traces-ended old new file source input untraced traces whole =
    (new, (Err (unshown.Untraced untraced), record { traces = traces; ends = (refl, refl); complete = λ files config i f c k n u. whole-status untraced (whole files config i f c k n u) }))

-- no trouble came before what was told last
before : (old shown new : WorldState) (input : List ℕ) → OnlyTells shown new → ShowsUntroubled old new input → ShowsUntroubled old shown input
before old shown new input tells u = record {
  load = record {
    read = λ rose. (u.load).read (rose-on old.read_faults shown.read_faults new.read_faults rose tells.read);
    build = λ rose. (u.load).build (subst (λ (n : ℕ). Rose old.build_faults n) (sym (ap (λ (w : WorldState). w.build_faults) tells.state)) rose);
  };
  opening = λ rose. u.opening (subst (λ (n : ℕ). Rose old.inlet_faults n) (sym (ap (λ (w : WorldState). w.inlet_faults) tells.state)) rose);
  say = λ rose. u.say (rose-on old.say_faults shown.say_faults new.say_faults rose tells.say);
  inlet = λ limit feed is. u.inlet limit feed (ap (λ (w : WorldState). w.inlets) tells.state ∙ is);
}

whole-unloaded : (shown new : WorldState) (why : Unloaded) (status : Status) → TellsUnloaded shown new why status → IsShown (Err (unshown.Unloaded why)) → IsComplete status
whole-unloaded shown new (Bad fault names) status tells is = absurd is
whole-unloaded shown new (Unread name) status tells is = absurd is
whole-unloaded shown new Unfed status tells is = subst IsComplete (sym tells.1) tt

pub traces-refused : (old shown new : WorldState) (file source input : List ℕ) (why : Unloaded) (status : Status) → TracesFile old shown file source input (Err (unshown.Unloaded why))
    → IsWhole old shown file source input (Err (unshown.Unloaded why)) → TellsUnloaded shown new why status → TracesCommand old new file source input status
traces-refused old shown new file source input why status traces whole tells = (
  shown,
  (
    Err (unshown.Unloaded why),
    record {
      traces = traces;
      ends = tells;
      complete = λ files config i f c k n u. whole-unloaded shown new why status tells (whole files config i f c k n (before old shown new input (tells-of shown new why status tells) u));
    },
  ),
)
