-- A file of a configuration is loaded, where its machine tells its files and nothing fails.
use Rattle.std.proofs.Common.{◌≡◌, ◌∙◌, ◌≤◌, inl, inr, ℕ, Bool, true, false, nat_le, if◌then◌else◌, List, length, Option, Some, None, Result, Ok, Err, sym, ap, subst, refl, arith}
use Rattle.std.proofs.lemmas.Bool.Decides.{nat_tests}
use Rattle.sg_device.specs.Faults.{Rose}
use Rattle.sg_outside.specs.World.{Files, WorldState, OnlyReads, IsContent, IsBeyond}
use Rattle.sg_lex.specs.declared.fault.ConfigFault.{ConfigFault}
use Rattle.sg_lex.specs.declared.fault.ConfigKind.TheVariants.{TooLong}
use Rattle.sg_lex.specs.Tokens.{tokens_of}
use Rattle.sg_lex.specs.declared.token.Token.{Token}
use Rattle.sg_expand.specs.Expansion.{ExpansionState, ExpansionOutcome, Goes, Stops, Faulty, RunsTokens, RunsMain, first_state, lexed, versioned}
use Rattle.sg_expand.specs.One.{AreAlikeOutcomes as OutcomesAreAlike}
use Rattle.sg_config.specs.Alike.{AreAlikeConfigs}
use Rattle.sg_config.specs.Means.{Means, IsFaultOfTokens}
use Rattle.sg_config.specs.declared.config.Config.{Config}
use Rattle.sg_loaded.specs.declared.loaded.Loaded.{Loaded}
use Rattle.sg_loaded.specs.declared.loaded.Unloaded.{Unloaded}
use Rattle.sg_loaded.specs.declared.loaded.Unloaded.TheVariants.{Bad, Unread, NoMemory}
use Rattle.sg_loaded.specs.Compiling.{CanBeCompiled}
use Rattle.sg_loaded.specs.Completeness.{LoadsUntroubled, WasLoaded}
use Rattle.sg_loaded.specs.Loading.{Configures, IsFaultOf, LoadsFile}
use Rattle.sg_loaded.specs.Reading.{FileComesTo, Expands}
use Rattle.sg_loaded.proofs.Refusing.{not-refused}

-- what lower crates say
abbrev pub ExpansionsAreOne : Type 0
ExpansionsAreOne =
    (name text : List ℕ) (files : Files) (world again : WorldState) (one other : ExpansionOutcome)
    → world.files ≡ Some files → again.files ≡ Some files → RunsMain name text world one → RunsMain name text again other → OutcomesAreAlike one other

abbrev pub MeansOne : Type 0
MeansOne = (tokens : List Token) (a b : Config) → Means tokens a → Means tokens b → AreAlikeConfigs a b

abbrev pub MeansNoFault : Type 0
MeansNoFault = (tokens : List Token) (a : Config) (fault : ConfigFault) → Means tokens a → IsFaultOfTokens tokens fault → ⊥

-- ---- one outcome

pub same-text : (told : Option Files) (files : Files) (file text other : List ℕ) → told ≡ Some files → IsContent told file text → IsContent told file other → other ≡ text
same-text None files file text other told is is' = absurd (let wrong : None ≡ Some files = told in cc)
same-text (Some own) files file text other told is is' = (let e : Some other ≡ Some text = sym is' ∙ is in cc)

pub told-on : (world start : WorldState) (files : Files) → OnlyReads world start → world.files ≡ Some files → start.files ≡ Some files
told-on world start files reads told = ap (λ w. w.files) reads.0 ∙ told

pub comes-one : ExpansionsAreOne → (world : WorldState) (file : List ℕ) (files : Files) (one other : ExpansionOutcome) → world.files ≡ Some files → FileComesTo world file one → FileComesTo world file other → OutcomesAreAlike one other
comes-one law world file files one other told (text, (is, (start, (reads, runs)))) (text', (is', (start', (reads', runs')))) =
    let same = same-text world.files files file text text' told is is' in
    law file text files start start' one other (told-on world start files reads told) (told-on world start' files reads' told) runs (subst (λ t. RunsMain file t start' other) same runs')

pub same-tokens : ExpansionsAreOne → (world read read' : WorldState) (file : List ℕ) (files : Files) (tokens tokens' : List Token) (names names' : List (List ℕ)) → world.files ≡ Some files
    → Expands world file tokens names read → Expands world file tokens' names' read' → tokens' ≡ tokens
same-tokens law world read read' file files tokens tokens' names names' told a b =
    let same : b.last ≡ a.last = comes-one law world file files (Goes a.last read) (Goes b.last read') told a.comes b.comes in
    b.out ∙ ap (λ s. s.out) same ∙ sym a.out

-- ---- a text that is expanded isn't too long

fits-if : (short : Bool) (found : Result (List Token) ConfigFault) (state last : ExpansionState) (world read : WorldState)
    → RunsTokens (if short then found else Err (record { kind = TooLong; file = 0; line = 1 })) state world (Goes last read) → short ≡ true
fits-if true found state last world read runs = refl
fits-if false found state last world read runs = (let wrong : Goes last read ≡ Stops (Faulty (record { kind = TooLong; file = 0; line = 1 })) state.names world = runs in cc)

fits : (file text : List ℕ) (world read : WorldState) (last : ExpansionState) → RunsMain file text world (Goes last read) → length text ≤ 1048576
fits file text world read last runs =
    let short : nat_le (length text) 1048576 ≡ true = fits-if (nat_le (length text) 1048576) (versioned (lexed 0 text (tokens_of 0 text))) (first_state file) last world read runs in
    grind (arith, nat_tests)

not-beyond : (told : Option Files) (files : Files) (file text : List ℕ) → told ≡ Some files → IsContent told file text → length text ≤ 1048576 → IsBeyond told file 1048576 → ⊥
not-beyond None files file text told is short beyond = (let wrong : None ≡ Some files = told in cc)
not-beyond (Some own) files file text told is short (bytes, (held, long)) =
    let e : Some text ≡ Some bytes = sym is ∙ held in
    let same : text ≡ bytes = cc in
    let size : length text ≡ length bytes = ap length same in
    omega arith

short-file : (world read : WorldState) (file : List ℕ) (files : Files) (last : ExpansionState) → world.files ≡ Some files → FileComesTo world file (Goes last read) → IsBeyond world.files file 1048576 → ⊥
short-file world read file files last told (text, (is, (start, (reads, runs)))) beyond =
    not-beyond world.files files file text told is (fits file text start read last runs) beyond

-- ---- no fault

calm-on : (old read new : WorldState) → OnlyReads old read → ¬ Rose old.build_faults new.build_faults → ¬ Rose read.build_faults new.build_faults
calm-on old read new reads calm rose =
    let same : read.build_faults ≡ old.build_faults = ap (λ w. w.build_faults) reads.0 in
    calm (subst (λ n. Rose n new.build_faults) same rose)

not-faulty : ExpansionsAreOne → MeansOne → MeansNoFault → (old new : WorldState) (file : List ℕ) (files : Files) (config : Config) (fault : ConfigFault) (names : List (List ℕ))
    → old.files ≡ Some files → Configures old file config → CanBeCompiled config → ¬ Rose old.build_faults new.build_faults → IsFaultOf old new file fault names → ⊥
not-faulty law one none old new file files config fault names told is can calm (inl long) = short-file old is.read file files is.expands.last told is.expands.comes long.0
not-faulty law one none old new file files config fault names told is can calm (inr (inl (read, comes))) =
    comes-one law old file files (Goes is.expands.last is.read) (Stops (Faulty fault) names read) told is.expands.comes comes
not-faulty law one none old new file files config fault names told is can calm (inr (inr (inl wrong))) =
    let same = same-tokens law old is.read wrong.read file files is.tokens wrong.tokens is.names names told is.expands wrong.expands in
    none is.tokens config fault is.means (subst (λ t. IsFaultOfTokens t fault) same wrong.is)
not-faulty law one none old new file files config fault names told is can calm (inr (inr (inr wrong))) =
    let same = same-tokens law old is.read wrong.read file files is.tokens wrong.tokens is.names names told is.expands wrong.expands in
    let alike = one is.tokens config wrong.config is.means (subst (λ t. Means t wrong.config) same wrong.means) in
    not-refused wrong.read new config wrong.config fault can alike (calm-on old wrong.read new wrong.expands.reads calm) wrong.is

pub complete : ExpansionsAreOne → MeansOne → MeansNoFault → (old new : WorldState) (file : List ℕ) (result : Result Loaded Unloaded) → LoadsFile old new file result
    → (files : Files) (config : Config) → old.files ≡ Some files → Configures old file config → CanBeCompiled config → LoadsUntroubled old new → WasLoaded result
complete law one none old new file (Ok loaded) loads files config told is can calm = tt
complete law one none old new file (Err (Bad fault names)) loads files config told is can calm = not-faulty law one none old new file files config fault names told is can calm.build loads
complete law one none old new file (Err (Unread name)) loads files config told is can calm = calm.read loads.0
complete law one none old new file (Err NoMemory) loads files config told is can calm = tt
