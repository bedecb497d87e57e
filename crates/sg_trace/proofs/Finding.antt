-- The first inlet of a source.
use Rattle.std.proofs.Common.{◌≡◌, ◌∙◌, ◌<◌, ◌≤◌, ◌^◌, ℕ, ◌+◌, Bool, true, false, if◌then◌else◌, List, [], ◌∷◌, drop, length, get_or, Option, Some, None, Result, suc, sym, ap, subst, refl, arith}
use Rattle.std.proofs.lemmas.Option.{slice_get_read}
use Rattle.sg_list.proofs.ListLemmas.{drop-get}
use Rattle.sg_run_plan.specs.declared.inlet.InletPlan.{InletPlan}
use Rattle.sg_outside.specs.World.{WorldState}
use Rattle.sg_config.specs.Alike.{IsConfigWithin}
use Rattle.sg_config.specs.declared.config.Config.{Config}
use Rattle.sg_trace.specs.declared.unshown.Unshown.{Unshown}
use Rattle.sg_trace.specs.Tracing.{is_named, first_of, IsUnknown, TracesInlet, TracesSource}

-- the inlet at a place, in front of those behind it
turn : (number place : ℕ) (source : List ℕ) (inlets : List InletPlan) (inlet : InletPlan) → place < length inlets → inlet ≡ get_or inlets place inlet
    → first_of number source (drop place inlets) ≡ (if is_named source inlet.source then Some number else first_of (number + 1) source (drop (place + 1) inlets))
turn number place source inlets inlet inside is =
    ap (first_of number source) (drop-get inlets place inlet (slice_get_read inlets (length inlets) place inlet refl inside is))

pub found-here : (number place : ℕ) (source : List ℕ) (inlets : List InletPlan) (inlet : InletPlan) → place < length inlets → inlet ≡ get_or inlets place inlet
    → is_named source inlet.source ≡ true → first_of number source (drop place inlets) ≡ Some number
found-here number place source inlets inlet inside is named =
    turn number place source inlets inlet inside is ∙ ap (λ (test : Bool). if test then Some number else first_of (number + 1) source (drop (place + 1) inlets)) named

pub found-behind : (number place : ℕ) (source : List ℕ) (inlets : List InletPlan) (inlet : InletPlan) → place < length inlets → inlet ≡ get_or inlets place inlet
    → is_named source inlet.source ≡ false → first_of number source (drop place inlets) ≡ first_of (number + 1) source (drop (place + 1) inlets)
found-behind number place source inlets inlet inside is other =
    turn number place source inlets inlet inside is ∙ ap (λ (test : Bool). if test then Some number else first_of (number + 1) source (drop (place + 1) inlets)) other

-- it is one of the inlets
within-if : (test : Bool) (number count i : ℕ) (rest : Option ℕ) → (rest ≡ Some i → i < number + 1 + count) → (if test then Some number else rest) ≡ Some i → i < number + suc count
within-if true number count i rest more found = (let same : Some number ≡ Some i = found in let at : number ≡ i = cc in omega (arith, at))
within-if false number count i rest more found = (let below : i < number + 1 + count = more found in omega (arith, below))

first-within : (number : ℕ) (source : List ℕ) (inlets : List InletPlan) (i : ℕ) → first_of number source inlets ≡ Some i → i < number + length inlets
first-within number source [] i found = (let wrong : None ≡ Some i = found in cc)
first-within number source (inlet ∷ inlets) i found =
    within-if (is_named source inlet.source) number (length inlets) i (first_of (number + 1) source inlets) (first-within (number + 1) source inlets i) found

pub first-there : (source : List ℕ) (inlets all : List InletPlan) (i : ℕ) → inlets ≡ all → Some i ≡ first_of 0 source inlets → i < length all
first-there source inlets all i same found = (let inside : i < 0 + length all = first-within 0 source all i (sym (found ∙ ap (first_of 0 source) same)) in omega (arith, inside))

-- a configuration has few inlets
pub few-inlets : (config : Config) (inlets : List InletPlan) → IsConfigWithin config → inlets ≡ config.inlets.items → length inlets < 2 ^ 32
few-inlets config inlets within same =
    let few : length config.inlets.items ≤ 128 = within.inlets in
    let count : length inlets ≡ length config.inlets.items = ap length same in
    omega (arith, few, count)

-- the first inlet's trace is the source's
pub source-found : (config : Config) (inlets : List InletPlan) (file source input : List ℕ) (i : ℕ) (old new : WorldState) (result : Result Unit Unshown) → inlets ≡ config.inlets.items
    → Some i ≡ first_of 0 source inlets → TracesInlet config i old new input result → TracesSource config file (first_of 0 source config.inlets.items) old new input result
source-found config inlets file source input i old new result same found traces =
    subst (λ (n : Option ℕ). TracesSource config file n old new input result) (found ∙ ap (first_of 0 source) same) traces

pub source-missing : (config : Config) (inlets : List InletPlan) (file source input : List ℕ) (old : WorldState) (result : Result Unit Unshown) → inlets ≡ config.inlets.items
    → None ≡ first_of 0 source inlets → IsUnknown file result → TracesSource config file (first_of 0 source config.inlets.items) old old input result
source-missing config inlets file source input old result same missing unknown =
    subst (λ (n : Option ℕ). TracesSource config file n old old input result) (missing ∙ ap (first_of 0 source) same) (refl, unknown)
