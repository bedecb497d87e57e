-- What a table, the inlets and the destinations of a configuration have in common.
use Rattle.std.proofs.Common.{◌≡◌, ◌∙◌, ◌<◌, ◌≤◌, ℕ, List, [], map, length, None, Result, Err, refl, sym, ap, subst, arith}
use Rattle.std.proofs.lemmas.List.{length-map}
use Rattle.sg_outside.specs.World.{WorldState}
use Rattle.sg_run_plan.specs.declared.inlet.InletPlan.{InletPlan}
use Rattle.sg_tree.specs.Offers.{Woods, woods_of, AreOffers}
use Rattle.sg_tree.specs.Readings.{inlet_of}
use Rattle.sg_table.specs.Forest.{forest_of}
use Rattle.sg_table.specs.declared.table.Table.{Table}
use Rattle.sg_pipes.specs.Within.{AreWoodsWithin as StaysWithin}
use Rattle.sg_config.specs.Alike.{IsConfigWithin}
use Rattle.sg_config.specs.declared.config.Config.{Config}
use Rattle.sg_loaded.specs.Compiling.{Compiles}
use Rattle.sg_trace.specs.Traces.{Traces}
use Rattle.sg_trace.specs.declared.target.FileReading.{FileReading}
use Rattle.sg_trace.specs.declared.target.SentForm.{SentForm}
use Rattle.sg_trace.specs.declared.untraced.Untraced.{Untraced}
use Rattle.sg_trace.specs.declared.untraced.Untraced.TheVariants.{NoMemory}
use Rattle.sg_trace.specs.declared.unshown.Unshown.{Unshown}
use Rattle.sg_trace.specs.declared.unshown.Unshown.TheVariants as unshown
use Rattle.sg_trace.specs.Tracing.{target_of, IsReader, shown, TracesInlet}

pub paths-within : (config : Config) (table : Table) → IsConfigWithin config → Compiles config table → StaysWithin (forest_of table)
paths-within config table within compiles = subst StaysWithin (sym compiles.paths) (within.paths, compiles.can.bounded.0)

pub inlet-known : (config : Config) (table pipes : Table) (i n : ℕ) → IsConfigWithin config → Compiles config table → pipes ≡ table → n ≡ i → i < length config.inlets.items → n < length pipes.inlets.items
inlet-known config table pipes i n within compiles same number inside =
    let count : length table.inlets.items ≡ length config.inlets.items =
    sym (length-map table.inlets.items inlet_of) ∙ (ap (λ (woods : Woods). length woods.inlets) compiles.paths ∙ within.readings) in
    let kept : length pipes.inlets.items ≡ length table.inlets.items = ap (λ (t : Table). length t.inlets.items) same in
    omega (arith, count, kept, number, inside)

pub dests-known : (config : Config) (table pipes : Table) (targets : List SentForm) → IsConfigWithin config → Compiles config table → pipes ≡ table → targets ≡ map target_of config.outlets.items
    → length pipes.dests.items ≡ length targets
dests-known config table pipes targets within compiles same is =
    ap (λ (t : Table). length t.dests.items) same
    ∙ (ap (λ (woods : Woods). woods.dests) compiles.paths ∙ (within.dests ∙ (sym (length-map config.outlets.items target_of) ∙ sym (ap length is))))

pub limit-some : (config : Config) (i : ℕ) (reader : FileReading) → IsConfigWithin config → IsReader config.inlets.items i reader → 0 < reader.limit
limit-some config i reader within (plan, (at, is)) =
    let some : 1 ≤ plan.limit = (within.each i plan at).some_bytes in
    let same : reader.limit ≡ plan.limit = ap (λ (r : FileReading). r.limit) is in
    omega (arith, some, same)

-- the reader has that number
pub number-same : (inlets : List InletPlan) (i : ℕ) (reader : FileReading) → IsReader inlets i reader → reader.inlet ≡ i
number-same inlets i reader (plan, (at, is)) = ap (λ (r : FileReading). r.inlet) is

-- the table's offers are those of the log paths
pub by-paths : (config : Config) (table pipes : Table) (i : ℕ) (reader : FileReading) (targets : List SentForm) (old new : WorldState) (input : List ℕ) (traced : Result Unit Untraced) (result : Result Unit Unshown)
    → Compiles config table → pipes ≡ table → IsReader config.inlets.items i reader → targets ≡ map target_of config.outlets.items
    → Traces (AreOffers (forest_of pipes) reader.inlet) targets reader.kind reader.limit old new input traced → result ≡ shown traced → TracesInlet config i old new input result
by-paths config table pipes i reader targets old new input traced result compiles same (plan, (at, is)) sends traces ends =
    let paths : forest_of pipes ≡ woods_of config.forest = ap forest_of same ∙ compiles.paths in
    let by_reader : Traces (AreOffers (forest_of pipes) i) targets plan.kind plan.limit old new input traced =
    subst (λ (r : FileReading). Traces (AreOffers (forest_of pipes) r.inlet) targets r.kind r.limit old new input traced) is traces in
    let by_woods : Traces (AreOffers (woods_of config.forest) i) targets plan.kind plan.limit old new input traced =
    subst (λ (woods : Woods). Traces (AreOffers woods i) targets plan.kind plan.limit old new input traced) paths by_reader in
    record {
      inlet = plan;
      at = at;
      traced = traced;
      traces = subst (λ (ts : List SentForm). Traces (AreOffers (woods_of config.forest) i) ts plan.kind plan.limit old new input traced) sends by_woods;
      ends = ends;
    }

-- without memory nothing is traced
pub starved : (config : Config) (i : ℕ) (reader : FileReading) (old : WorldState) (input : List ℕ) → IsReader config.inlets.items i reader
    → TracesInlet config i old old input (Err (unshown.Untraced NoMemory))
starved config i reader old input (plan, (at, is)) = record {
  inlet = plan;
  at = at;
  traced = Err NoMemory;
  traces = (
    None,
    (
      [],
      record {
        state = refl;
        inlet_later = omega arith;
        say_later = omega arith;
        begun = tt;
        offered = tt;
        cause = tt;
        said = tt;
        complete = λ untroubled. tt;
      },
    ),
  );
  ends = refl;
}
