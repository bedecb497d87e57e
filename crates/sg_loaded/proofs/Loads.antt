-- What a file comes to, step by step.
use Rattle.std.proofs.Common.{◌≡◌, ◌∙◌, inl, inr, ℕ, List, Some, Result, Ok, Err, sym, ap, subst, arith}
use Rattle.sg_device.specs.Faults.{Rose}
use Rattle.sg_outside.specs.World.{WorldState, OnlyReads, OnlyBuilds, IsContent, IsBeyond}
use Rattle.sg_lex.specs.declared.fault.ConfigFault.{ConfigFault}
use Rattle.sg_lex.specs.declared.token.Token.{Token}
use Rattle.sg_expand.specs.Expansion.{ExpansionState, ExpansionOutcome, Goes, Stops, Faulty, Unread as UnreadFile, RunsMain}
use Rattle.sg_config.specs.declared.config.Config.{Config}
use Rattle.sg_config.specs.Means.{Means}
use Rattle.sg_loaded.specs.declared.loaded.Loaded.{Loaded}
use Rattle.sg_loaded.specs.declared.loaded.Unloaded.{Unloaded}
use Rattle.sg_loaded.specs.declared.loaded.Unloaded.TheVariants.{Bad, Unread, NoMemory}
use Rattle.sg_loaded.specs.Compiling.{Compiles, BuildsTable}
use Rattle.sg_loaded.specs.Loading.{OnlyLoads, LoadsTokens, LoadsFile, IsLeftTooLong, IsLeftUnread}
use Rattle.sg_loaded.specs.Reading.{FileComesTo, Expands}

-- ---- what changes

pub loads-reading : (old new : WorldState) → OnlyReads old new → OnlyLoads old new
loads-reading old new reads = let (is, later) = reads in (grind arith, later, grind arith)

pub loads-both : (old w new : WorldState) → OnlyReads old w → OnlyBuilds w new → OnlyLoads old new
loads-both old w new reads builds = let (is, later) = reads in let (is', later') = builds in (grind arith, grind arith, grind arith)

pub loads-on : (old w new : WorldState) → OnlyReads old w → OnlyLoads w new → OnlyLoads old new
loads-on old w new reads loads = let (is, later) = reads in let (is', low, high) = loads in (grind arith, grind arith, grind arith)

reads-on : (old w new : WorldState) → OnlyReads old w → OnlyReads w new → OnlyReads old new
reads-on old w new first more = (grind arith, grind arith)

-- ---- what the text comes to

comes-to : (old w : WorldState) (file name text : List ℕ) (outcome : ExpansionOutcome) → OnlyReads old w → IsContent old.files file text → name ≡ file → RunsMain name text w outcome → FileComesTo old file outcome
comes-to old w file name text outcome reads is named runs = (text, (is, (w, (reads, subst (λ n. RunsMain n text w outcome) named runs))))

expands : (old w read : WorldState) (file name text : List ℕ) (tokens : List Token) (names : List (List ℕ)) (last : ExpansionState)
    → OnlyReads old w → OnlyReads w read → IsContent old.files file text → name ≡ file → RunsMain name text w (Goes last read) → tokens ≡ last.out → names ≡ last.names
    → Expands old file tokens names read
expands old w read file name text tokens names last reads more is named runs out files = record {
  last = last;
  comes = comes-to old w file name text (Goes last read) reads is named runs;
  out = out;
  files = files;
  reads = reads-on old w read reads more;
}

-- the tokens' configuration is the file's
tokens-load : (old read new : WorldState) (file : List ℕ) (tokens : List Token) (names : List (List ℕ)) (result : Result Loaded Unloaded)
    → Expands old file tokens names read → LoadsTokens read new tokens names result → LoadsFile old new file result
tokens-load old read new file tokens names (Ok loaded) found loads =
    record { configures = record { tokens = tokens; names = names; read = read; expands = found; means = loads.0 }; compiles = loads.1 }
tokens-load old read new file tokens names (Err (Bad fault files)) found (same, inl wrong) =
    inr (inr (inl (record { tokens = tokens; read = read; expands = subst (λ n. Expands old file tokens n read) (sym same) found; is = wrong })))
tokens-load old read new file tokens names (Err (Bad fault files)) found (same, inr (config, means, wrong)) =
    inr (inr (inr (record { tokens = tokens; read = read; config = config; expands = subst (λ n. Expands old file tokens n read) (sym same) found; means = means; is = wrong })))
tokens-load old read new file tokens names (Err (Unread name)) found loads = absurd loads
tokens-load old read new file tokens names (Err NoMemory) found loads = tt

pub text-loads : (old w read new : WorldState) (file name text : List ℕ) (tokens : List Token) (names : List (List ℕ)) (last : ExpansionState) (result : Result Loaded Unloaded)
    → OnlyReads old w → OnlyReads w read → IsContent old.files file text → name ≡ file → RunsMain name text w (Goes last read) → tokens ≡ last.out → names ≡ last.names
    → LoadsTokens read new tokens names result → LoadsFile old new file result
text-loads old w read new file name text tokens names last result reads more is named runs out files loads =
    tokens-load old read new file tokens names result (expands old w read file name text tokens names last reads more is named runs out files) loads

pub text-faulty : (old w new : WorldState) (file name text : List ℕ) (fault : ConfigFault) (names : List (List ℕ)) → OnlyReads old w → IsContent old.files file text → name ≡ file
    → RunsMain name text w (Stops (Faulty fault) names new) → LoadsFile old new file (Err (Bad fault names))
text-faulty old w new file name text fault names reads is named runs =
    inr (inl (new, comes-to old w file name text (Stops (Faulty fault) names new) reads is named runs))

pub text-unread : (old w new : WorldState) (file name text asked : List ℕ) (names : List (List ℕ)) → OnlyReads old w → IsContent old.files file text → name ≡ file
    → RunsMain name text w (Stops (UnreadFile asked) names new) → Rose w.read_faults new.read_faults → new.unread ≡ Some asked → LoadsFile old new file (Err (Unread asked))
text-unread old w new file name text asked names reads is named runs rose unread =
    let low = reads.1 in
    let cause : Rose old.read_faults new.read_faults = omega arith in
    (cause, unread, inr (names, (new, comes-to old w file name text (Stops (UnreadFile asked) names new) reads is named runs)))

-- ---- the main file

pub main-too-long : (old new : WorldState) (file : List ℕ) (unloaded : Unloaded) → IsBeyond old.files file 1048576 → IsLeftTooLong file unloaded → LoadsFile old new file (Err unloaded)
main-too-long old new file (Bad fault names) long is = inl (long, is.0, is.1)
main-too-long old new file (Unread name) long is = absurd is
main-too-long old new file NoMemory long is = tt

pub main-unread : (old new : WorldState) (file : List ℕ) (unloaded : Unloaded) → Rose old.read_faults new.read_faults → new.unread ≡ Some file → IsLeftUnread file unloaded → LoadsFile old new file (Err unloaded)
main-unread old new file (Bad fault names) rose unread is = absurd is
main-unread old new file (Unread name) rose unread is = (rose, unread ∙ ap (λ n. Some n) (sym is), inl is)
main-unread old new file NoMemory rose unread is = tt

-- ---- the tokens

pub built-loads : (old new : WorldState) (tokens : List Token) (names : List (List ℕ)) (config : Config) (result : Result Loaded Unloaded)
    → Means tokens config → BuildsTable old new config names result → LoadsTokens old new tokens names result
built-loads old new tokens names config (Ok loaded) means (same, compiles) =
    (subst (λ c. Means tokens c) (sym same) means, subst (λ c. Compiles c loaded.table) (sym same) compiles)
built-loads old new tokens names config (Err (Bad fault files)) means (same, wrong) = (same, inr (config, means, wrong))
built-loads old new tokens names config (Err (Unread name)) means wrong = absurd wrong
built-loads old new tokens names config (Err NoMemory) means wrong = tt

-- a configuration is loaded as well where files were read again behind it
pub loads-read : (old loaded new : WorldState) → OnlyLoads old loaded → OnlyReads loaded new → OnlyLoads old new
loads-read old loaded new loads reads =
    let (is, read, build) = loads in
    let (same, more) = reads in
    (grind arith, grind arith, grind arith)
