-- Lemmas on `check`.
use Rattle.std.proofs.Common.{◌≡◌, ℕ, List, refl, sym, ap, subst, Some, Result, Ok, Err}
use Rattle.sg_device.specs.Faults.{Rose}
use Rattle.sg_outside.specs.World.{WorldState, Files}
use Rattle.sg_config.specs.declared.config.Config.{Config}
use Rattle.sg_loaded.specs.Compiling.{CanBeCompiled}
use Rattle.sg_loaded.specs.Loading.{Configures}
use Rattle.sg_daemon.specs.Checked.{Checks, OnlyChecks, ChecksUntroubled}
use Rattle.sg_daemon.specs.Checked as checked
use Rattle.sg_daemon.specs.declared.unchecked.Unchecked.{Unchecked}
use Rattle.sg_daemon.specs.declared.unchecked.Unchecked.TheVariants.{SayFault as Unsaid, NoMemory as Starved}
use Rattle.sg_run.specs.declared.end.End.TheVariants.{Clean}
use Rattle.sg_daemon.specs.Checking.{EndsCheck, ChecksFile}
use Rattle.sg_daemon.specs.declared.status.Status.{Status}
use Rattle.sg_daemon.specs.declared.status.Status.TheVariants.{Ended, SayFault, NoMemory}
use Rattle.sg_output.proofs.Sayings.{rose-on}
use Rattle.sg_daemon.proofs.SaidLemmas.{OnlyTells}

-- a configuration is checked whole, where no trouble comes
abbrev pub IsWhole : WorldState → WorldState → List ℕ → Result Unit Unchecked → Type 0
IsWhole old mid file result =
    (files : Files) (config : Config) → old.files ≡ Some files → Configures old file config → CanBeCompiled config → ChecksUntroubled old mid → checked.WasChecked result

pub checks-ok : (old new : WorldState) (file : List ℕ) → OnlyChecks old new → Checks old new file (Ok tt) → ChecksFile old new file (Ended Clean)
checks-ok old new file only is = (new, (Ok tt, record { checks = is; only = only; ends = (refl, refl); complete = λ files config f c k u. tt }))

pub checks-unsaid : (old new : WorldState) (file : List ℕ) → OnlyChecks old new → Checks old new file (Err Unsaid) → IsWhole old new file (Err Unsaid) → ChecksFile old new file SayFault
checks-unsaid old new file only is whole =
    (new, (Err Unsaid, record { checks = is; only = only; ends = (refl, refl); complete = λ files config f c k u. whole files config f c k u }))

pub checks-starved : (old new : WorldState) (file : List ℕ) → OnlyChecks old new → ChecksFile old new file NoMemory
checks-starved old new file only = (new, (Err Starved, record { checks = tt; only = only; ends = (refl, refl); complete = λ files config f c k u. tt }))

-- no trouble came before what was told last
before : (old mid new : WorldState) → OnlyTells mid new → ChecksUntroubled old new → ChecksUntroubled old mid
before old mid new tells u = record {
  read = λ rose. u.read (rose-on old.read_faults mid.read_faults new.read_faults rose tells.read);
  build = λ rose. u.build (subst (λ (n : ℕ). Rose old.build_faults n) (sym (ap (λ (w : WorldState). w.build_faults) tells.state)) rose);
  say = λ rose. u.say (rose-on old.say_faults mid.say_faults new.say_faults rose tells.say);
}

pub checks-refused : (old mid new : WorldState) (file : List ℕ) (why : Unchecked) (status : Status) → OnlyChecks old mid → Checks old mid file (Err why)
    → ((files : Files) (config : Config) → old.files ≡ Some files → Configures old file config → CanBeCompiled config → ChecksUntroubled old mid → ⊥) → OnlyTells mid new → EndsCheck mid new (Err why) status
    → ChecksFile old new file status
checks-refused old mid new file why status only is whole tells ends =
    (mid, (Err why, record { checks = is; only = only; ends = ends; complete = λ files config f c k u. absurd (whole files config f c k (before old mid new tells u)) }))
