-- Lemmas on what is said.
use Rattle.std.proofs.Common.{◌≡◌, ◌≤◌, ℕ, List, refl, sym, subst, inr, arith}
use Rattle.sg_outside.specs.World.{WorldState, OnlyReads}
use Rattle.sg_output.specs.Saying.{OnlySays}
use Rattle.sg_output.proofs.Sayings.{only-says-none}
use Rattle.sg_loaded.specs.declared.loaded.Unloaded.{Unloaded}
use Rattle.sg_loaded.specs.declared.loaded.Unloaded.TheVariants.{Bad, Unread, NoMemory as Unfed}
use Rattle.sg_daemon.specs.Loading.{TellsUnloaded}
use Rattle.sg_daemon.specs.Said.{ConcludesCommand}
use Rattle.sg_daemon.specs.declared.status.Status.{Status}
use Rattle.sg_daemon.specs.declared.status.Status.TheVariants.{NoMemory}

-- without memory nothing was said
pub starved : (world : WorldState) (status : Status) (text : List ℕ) → ConcludesCommand world world status text NoMemory
starved world status text = record { says = only-says-none world; said = inr (inr refl) }

-- text was said and files were read, and nothing else
pub record OnlyTells (old new : WorldState) : Type 0 where
  pub state : new ≡ record old { read_faults = new.read_faults; unread = new.unread; say_faults = new.say_faults; said = new.said }
  pub read : old.read_faults ≤ new.read_faults
  pub say : old.say_faults ≤ new.say_faults

pub says-tells : (old new : WorldState) → OnlySays old new → OnlyTells old new
says-tells old new says =
    let state = says.same in
    let later = says.later in
    record { state = grind arith; read = grind arith; say = later }

pub reads-tells : (old said new : WorldState) → OnlySays old said → OnlyReads said new → OnlyTells old new
reads-tells old said new says reads =
    let state = says.same in
    let later = says.later in
    let (is, read) = reads in
    record { state = grind arith; read = grind arith; say = grind arith }

pub tells-of : (loaded new : WorldState) (why : Unloaded) (status : Status) → TellsUnloaded loaded new why status → OnlyTells loaded new
tells-of loaded new (Bad fault names) status tells = reads-tells loaded tells.0 new (tells.1.0).says tells.1.1
tells-of loaded new (Unread name) status tells = reads-tells loaded tells.0 new (tells.1.0).says tells.1.1
tells-of loaded new Unfed status tells = subst (λ (w : WorldState). OnlyTells loaded w) (sym tells.0) (says-tells loaded loaded (only-says-none loaded))
