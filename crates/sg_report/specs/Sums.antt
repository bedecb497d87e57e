-- The lines of source drivers, driver by driver.
use Rattle.std.specs.Prelude.{◌≡◌, ◌<◌, ◌⊎◌, ℕ, ◌+◌, ◌-◌, ◌^◌, min, zero, suc, ◌==◌, if◌then◌else◌, Option, None, List, [], ◌∷◌, ◌++◌}
use Rattle.std.specs.List.{sum_by}
use Rattle.sg_report.specs.declared.line.SourceLine.{SourceLine}
use Rattle.sg_report.specs.Report.{line_text, source_lines}

-- the inlets of a driver
abbrev pub inlets_of : ℕ → List SourceLine → List SourceLine
inlets_of driver [] = []
inlets_of driver (inlet ∷ inlets) =
    if inlet.driver == driver then inlet ∷ inlets_of driver inlets else inlets_of driver inlets

-- a sum over inlets, 2 ^ 64 - 1 where it is greater
abbrev pub total : (SourceLine → ℕ) → List SourceLine → ℕ
total count inlets = min (sum_by count inlets) (2 ^ 64 - 1)

-- a file's driver has that inlet alone
abbrev pub position_in : List SourceLine → Option ℕ
position_in [] = None
position_in (inlet ∷ inlets) = inlet.position

-- what is said of a driver with these inlets
abbrev pub summed : ℕ → List SourceLine → SourceLine
summed driver inlets = record {
  driver = driver;
  records = total (λ inlet. inlet.records) inlets;
  bad_frames = total (λ inlet. inlet.bad_frames) inlets;
  position = position_in inlets;
}

-- a line for each of so many drivers, from this one on
abbrev pub driver_texts : (driver count : ℕ) → List SourceLine → List ℕ
driver_texts driver zero inlets = []
driver_texts driver (suc n) inlets = line_text (summed driver (inlets_of driver inlets))
    ++ driver_texts (driver + 1) n inlets

-- the inlets ascend by their drivers: behind those of this one stand those of so many more, one inlet of each at least
abbrev pub Ascend : (driver more : ℕ) → List SourceLine → Type 0
Ascend driver zero [] = Unit {0}
Ascend driver (suc n) [] = ⊥
Ascend driver zero (inlet ∷ inlets) = (inlet.driver ≡ driver) × Ascend driver zero inlets
Ascend driver (suc n) (inlet ∷ inlets) =
    ((inlet.driver ≡ driver) × Ascend driver (suc n) inlets)
    ⊎ ((inlet.driver ≡ driver + 1) × Ascend (driver + 1) n inlets)

abbrev pub AreCounts : List SourceLine → Type 0
AreCounts [] = Unit {0}
AreCounts (inlet ∷ inlets) = (inlet.records < 2 ^ 64) × (inlet.bad_frames < 2 ^ 64)
    × AreCounts inlets

-- each driver has one line, with the sums over its inlets
abbrev pub SumsUp : Type 0
SumsUp =
    (more : ℕ) (inlet : SourceLine) (inlets : List SourceLine) → inlet.driver ≡ 0
    → Ascend 0 more inlets
    → AreCounts (inlet ∷ inlets)
    → source_lines (inlet ∷ inlets) ≡ driver_texts 0 (suc more) (inlet ∷ inlets)
