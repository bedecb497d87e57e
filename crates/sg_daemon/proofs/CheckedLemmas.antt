-- Lemmas on whether a file is a configuration.
use Rattle.std.proofs.Common.{◌≡◌, ◌∙◌, ℕ, ◌++◌, List, Result, Ok, Err, ap, subst, sym, arith}
use Rattle.std.specs.Option.{option_map}
use Rattle.sg_device.specs.Faults.{Rose}
use Rattle.sg_lex.specs.declared.fault.ConfigFault.{ConfigFault}
use Rattle.sg_outside.specs.World.{WorldState, OnlyReads}
use Rattle.sg_loaded.specs.declared.loaded.Loaded.{Loaded}
use Rattle.sg_loaded.specs.Completeness.{LoadsUntroubled as LoadIsUntroubled}
use Rattle.sg_loaded.specs.Loading.{OnlyLoads, IsConfigured, IsFaultOf, IsUnread}
use Rattle.sg_daemon.specs.declared.unchecked.Unchecked.{Unchecked}
use Rattle.sg_daemon.specs.declared.unchecked.Unchecked.TheVariants.{Bad, Unread, SayFault, NoMemory}
use Rattle.sg_daemon.specs.Checked.{ok_line, HasSaid, OnlyChecks, Checks, ChecksUntroubled, WasChecked}
use Rattle.sg_output.specs.Saying.{OnlySays}

same-said : (old new : WorldState) → OnlyLoads old new → new.said ≡ old.said
same-said old new loads = ap (λ w. w.said) loads.0

same-say : (old new : WorldState) → OnlyLoads old new → new.say_faults ≡ old.say_faults
same-say old new loads = ap (λ w. w.say_faults) loads.0

-- what was said stays said where files are read behind it
pub said-read : (w said new : WorldState) (file : List ℕ) (result : Result Unit Unchecked) → HasSaid w said file result → OnlyReads said new → HasSaid w new file result
said-read w said new file (Ok done) has reads = ap (λ (s : WorldState). s.said) reads.0 ∙ has
said-read w said new file (Err (Bad fault names)) has reads = has
said-read w said new file (Err (Unread name)) has reads = has
said-read w said new file (Err SayFault) has reads = subst (λ n. Rose w.say_faults n) (sym (ap (λ (s : WorldState). s.say_faults) reads.0)) has
said-read w said new file (Err NoMemory) has reads = tt

pub ok-checks : (old w new : WorldState) (file : List ℕ) (loaded : Loaded) (result : Result Unit Unchecked) → IsConfigured old file loaded → OnlyLoads old w → HasSaid w new file result → Checks old new file result
ok-checks old w new file loaded (Ok done) configured loads says =
    ((loaded, configured), says ∙ ap (option_map (λ said. said ++ ok_line file)) (same-said old w loads))
ok-checks old w new file loaded (Err (Bad fault names)) configured loads says = absurd says
ok-checks old w new file loaded (Err (Unread name)) configured loads says = absurd says
ok-checks old w new file loaded (Err SayFault) configured loads says = subst (λ n. Rose n new.say_faults) (same-say old w loads) says
ok-checks old w new file loaded (Err NoMemory) configured loads says = tt

pub ok-only : (old w said new : WorldState) → OnlyLoads old w → OnlySays w said → OnlyReads said new → OnlyChecks old new
ok-only old w said new loads says reads =
    let (is, read, build) = loads in
    let state = says.same in
    let later = says.later in
    let (same, more) = reads in
    record { state = grind arith; read = grind arith; build = grind arith; say = grind arith }

pub ok-complete : (old w new : WorldState) (file : List ℕ) (result : Result Unit Unchecked) → OnlyLoads old w → HasSaid w new file result → ChecksUntroubled old new → WasChecked result
ok-complete old w new file (Ok done) loads says calm = tt
ok-complete old w new file (Err (Bad fault names)) loads says calm = says
ok-complete old w new file (Err (Unread name)) loads says calm = says
ok-complete old w new file (Err SayFault) loads says calm = calm.say (subst (λ n. Rose n new.say_faults) (same-say old w loads) says)
ok-complete old w new file (Err NoMemory) loads says calm = tt

pub loads-only : (old new : WorldState) → OnlyLoads old new → OnlyChecks old new
loads-only old new loads =
    let (is, read, build) = loads in
    record { state = grind arith; read = read; build = build; say = grind arith }

pub bad-checks : (old new : WorldState) (file : List ℕ) (fault : ConfigFault) (names : List (List ℕ)) → IsFaultOf old new file fault names → OnlyLoads old new → Checks old new file (Err (Bad fault names))
bad-checks old new file fault names is loads = (is, same-said old new loads)

pub unread-checks : (old new : WorldState) (file name : List ℕ) → IsUnread old new file name → OnlyLoads old new → Checks old new file (Err (Unread name))
unread-checks old new file name is loads = (is, same-said old new loads)

pub calm-load : (old new : WorldState) → ChecksUntroubled old new → LoadIsUntroubled old new
calm-load old new calm = record { read = calm.read; build = calm.build }
