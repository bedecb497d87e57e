-- Inlets at their opening.
use Rattle.std.proofs.Common.{◌≡◌, ◌∙◌, ◌<◌, ◌^◌, ℕ, List, refl, sym, ap, arith}
use Rattle.std.specs.Prelude.{Option, Some, None, true, false, is_none}
use Rattle.sg_device.specs.Inlet.{InletState, IsFresh}
use Rattle.sg_outside.specs.World.{WorldState, LeavesFile, StandsIn, with_opened}
use Rattle.sg_outside.specs.declared.request.InletSpec.{InletSpec}
use Rattle.sg_outside.specs.declared.request.InletSpec.TheVariants.{File, Slot}
use Rattle.sg_memory.specs.Files.{file_of}
use Rattle.sg_memory.specs.Inlet.{file_start}
use Rattle.sg_memory.specs.World.{start_of, opened_state, lacks_file, IsFileRest, IsInletSource, with_inlet}
use Rattle.sg_memory.specs.declared.files.MemoryFile.{MemoryFile}
use Rattle.sg_memory.specs.declared.opening.MemoryOpenedInlet.{MemoryOpenedInlet}

leaves-file : (files : List MemoryFile) (path : List ℕ) (limit from : ℕ) (opened : MemoryOpenedInlet) (found : Option (List ℕ)) → file_of files path ≡ found → is_none found ≡ false → IsFileRest found limit from opened → LeavesFile (Some (file_of files)) path limit from (file_start opened.from opened.left.items)
leaves-file files path limit from opened None there some rest = let wrong : true ≡ false = some in cc
leaves-file files path limit from opened (Some bytes) there some rest = (bytes, (there, (rest.0, ap (λ (left : List ℕ). Some left) rest.1)))

-- the inlet stands where its file or its slot does
pub stands : (files : List MemoryFile) (spec : InletSpec) (from : ℕ) (opened : MemoryOpenedInlet) → lacks_file files spec ≡ false → IsInletSource files spec from opened → StandsIn (Some (file_of files)) spec from (start_of spec opened.from opened.left.items)
stands files (File path once limit) from opened there source = (leaves-file files path limit from opened (file_of files path) refl there source, refl, refl)
stands files (Slot ip port slot once) from opened there source = (refl, refl, refl)

pub starts_at : (files : List MemoryFile) (spec : InletSpec) (from : ℕ) (opened : MemoryOpenedInlet) → IsInletSource files spec from opened → (start_of spec opened.from opened.left.items).place ≡ opened.from
starts_at files (File path once limit) from opened source = refl
starts_at files (Slot ip port slot once) from opened source = sym source

pub starts_fresh : (spec : InletSpec) (from : ℕ) (left : List ℕ) → from < 2 ^ 63 → IsFresh (start_of spec from left)
starts_fresh (File path once limit) from left short = record { told = refl; one_part = omega arith; at_from = refl; in_range = short; pulls = refl; idles = refl; bytes = refl; ended = refl; hung = refl }
starts_fresh (Slot ip port slot once) from left short = record { told = refl; one_part = omega arith; at_from = refl; in_range = omega arith; pulls = refl; idles = refl; bytes = refl; ended = refl; hung = refl }

-- the machine with one inlet more
pub opens_world : (old new : WorldState) (opened : MemoryOpenedInlet) (spec : InletSpec) (feed : InletState) → new ≡ with_inlet old opened → opened.spec ≡ spec → feed ≡ opened_state opened → new ≡ record old { inlet_faults = new.inlet_faults; inlets = with_opened old.inlets spec feed }
opens_world old new opened spec feed goes same state =
    goes
    ∙ ap (λ (s : InletSpec). record old { inlets = with_opened old.inlets s (opened_state opened) }) same
    ∙ ap (λ (i : InletState). record old { inlets = with_opened old.inlets spec i }) (sym state)
    ∙ ap (λ (n : ℕ). record old { inlet_faults = n; inlets = with_opened old.inlets spec feed }) (sym (ap (λ (w : WorldState). w.inlet_faults) goes))
