-- The report of a run.
use Rattle.std.specs.Prelude.{◌≡◌, ℕ, ◌+◌, ◌-◌, ◌^◌, min, Bool, ◌==◌, if◌then◌else◌, Option, None, Some, unwrap_or, List, [], ◌∷◌, ◌++◌, length, codes}
use Rattle.std.specs.Fmt.{decimal}
use Rattle.sg_machine.specs.declared.tally.SourceTally.{SourceTally}
use Rattle.sg_machine.specs.declared.tally.DestTally.{DestTally}
use Rattle.sg_machine.specs.declared.tally.Tally.{Tally}
use Rattle.sg_report.specs.declared.line.SourceLine.{SourceLine}
use Rattle.sg_report.specs.declared.shown.Shown.{Shown}

-- there is one of each for each inlet
pub record HasAll (tally : Tally) (shown : Shown) : Type 0 where
  pub drivers : length shown.drivers ≡ length tally.sources
  pub files : length shown.files ≡ length tally.sources
  pub bad_frames : length shown.bad_frames ≡ length tally.sources

-- the stored position, of a file alone
abbrev pub position_of : Bool → Option ℕ → Option ℕ
position_of file stored = if file then Some (unwrap_or stored 0) else None

-- what is said of an inlet
abbrev pub line_of : ℕ → Bool → ℕ → SourceTally → SourceLine
line_of driver file bad_frames source = record {
  driver = driver;
  records = source.records;
  bad_frames = bad_frames;
  position = position_of file source.stored;
}

abbrev pub lines_of : List ℕ → List Bool → List ℕ → List SourceTally → List SourceLine
lines_of (d ∷ ds) (f ∷ fs) (b ∷ bs) (s ∷ ss) = line_of d f b s ∷ lines_of ds fs bs ss
lines_of _ _ _ _ = []

abbrev pub lines : Tally → Shown → List SourceLine
lines tally shown = lines_of shown.drivers shown.files shown.bad_frames tally.sources

-- sums stand still at 2 ^ 64 - 1
abbrev pub sum_of : ℕ → ℕ → ℕ
sum_of a b = min (a + b) (2 ^ 64 - 1)

abbrev pub joined : SourceLine → SourceLine → SourceLine
joined sum inlet = record sum {
  records = sum_of sum.records inlet.records;
  bad_frames = sum_of sum.bad_frames inlet.bad_frames;
}

abbrev pub position_text : Option ℕ → List ℕ
position_text None = []
position_text (Some position) = codes " position " ++ decimal position

abbrev pub line_text : SourceLine → List ℕ
line_text line =
    codes "source " ++ (decimal line.driver
    ++ (codes " records " ++ (decimal line.records
    ++ (codes " bad-frames " ++ (decimal line.bad_frames
    ++ (position_text line.position ++ codes "\n"))))))

-- a line for each driver: the inlets of one stand together, and `sum` is what came of its inlets so far
abbrev pub driver_lines : SourceLine → List SourceLine → List ℕ
driver_lines sum [] = line_text sum
driver_lines sum (inlet ∷ inlets) =
    if inlet.driver == sum.driver then driver_lines (joined sum inlet) inlets
    else line_text sum ++ driver_lines inlet inlets

abbrev pub source_lines : List SourceLine → List ℕ
source_lines [] = []
source_lines (inlet ∷ inlets) = driver_lines inlet inlets

abbrev pub dest_text : ℕ → DestTally → List ℕ
dest_text d dest =
    codes "destination " ++ (decimal d
    ++ (codes " taken " ++ (decimal dest.taken
    ++ (codes " dropped-full " ++ (decimal dest.dropped_full
    ++ (codes " dropped-disk " ++ (decimal dest.dropped_disk
    ++ (codes " left " ++ (decimal dest.left ++ codes "\n")))))))))

abbrev pub dest_lines : ℕ → List DestTally → List ℕ
dest_lines d [] = []
dest_lines d (dest ∷ dests) = dest_text d dest ++ dest_lines (d + 1) dests

-- the frames that a destination's buffer holds; where it holds none, nothing
abbrev pub held_line : (ℕ × ℕ) → List ℕ
held_line held =
    if held.1 == 0 then [] else codes "buffer "
    ++ (decimal held.0 ++ (codes " held " ++ (decimal held.1 ++ codes "\n")))

abbrev pub held_lines : List (ℕ × ℕ) → List ℕ
held_lines [] = []
held_lines (held ∷ more) = held_line held ++ held_lines more

abbrev pub fault_line : List ℕ → ℕ → List ℕ
fault_line kind number = codes "fault " ++ (kind ++ (codes " " ++ (decimal number ++ codes "\n")))

abbrev pub fault_lines : List ℕ → List ℕ → List ℕ
fault_lines kind [] = []
fault_lines kind (number ∷ numbers) = fault_line kind number ++ fault_lines kind numbers

abbrev pub status_line : ℕ → List ℕ
status_line status = codes "status " ++ (decimal status ++ codes "\n")

abbrev pub report_text : Tally → Shown → List ℕ
report_text tally shown =
    source_lines (lines tally shown)
    ++ (dest_lines 0 tally.dests
    ++ (held_lines shown.held
    ++ (fault_lines (codes "sink") shown.sinks
    ++ (fault_lines (codes "store") shown.stores
    ++ (fault_lines (codes "inlet") shown.inlets
    ++ status_line shown.status)))))
