-- How much memory the records that wait can take (syslog-ng's administration guide, log-fifo-size(), log-iw-size() and log-msg-size()).
use Rattle.std.specs.Prelude.{ℕ, ◌+◌, ◌-◌, ◌*◌, ◌/◌, ◌^◌, min, max, nat_le, if◌then◌else◌, List, [], ◌∷◌, ◌++◌, codes, Option, Some, None}
use Rattle.std.specs.Fmt.{decimal}
use Rattle.sg_machine.specs.declared.setup.SourceSetup.{SourceSetup}
use Rattle.sg_machine.specs.declared.setup.BufferSetup.{BufferSetup}
use Rattle.sg_machine.specs.declared.setup.DestSetup.{DestSetup}
use Rattle.sg_run_plan.specs.declared.inlet.InletPlan.{InletPlan}
use Rattle.sg_run_plan.specs.declared.outlet.OutletPlan.{OutletPlan}
use Rattle.sg_run_plan.specs.declared.overflow.OverflowPlan.{OverflowPlan}
use Rattle.sg_daemon.specs.declared.held.MostHeld.{MostHeld}

-- counts stand still at the end of 64 bits
abbrev pub cut : ℕ → ℕ
cut n = min n (2 ^ 64 - 1)

-- how many entries a queue in memory holds; a disk-buffer stands in its place
abbrev pub queue_size : ℕ → Option BufferSetup → ℕ
queue_size fifo None = fifo
queue_size fifo (Some buffer) = 0

abbrev pub in_queues : ℕ → List DestSetup → ℕ
in_queues sum [] = sum
in_queues sum (dest ∷ dests) = in_queues (cut (sum + queue_size dest.fifo dest.buffer)) dests

-- and how many are outstanding, which are those with flow-control
abbrev pub in_windows : ℕ → List SourceSetup → ℕ
in_windows sum [] = sum
in_windows sum (source ∷ sources) = in_windows (cut (sum + source.window)) sources

-- and how many a disk-buffer that isn't reliable holds back there
abbrev pub memory_size : Option OverflowPlan → ℕ
memory_size None = 0
memory_size (Some overflow) = overflow.memory

abbrev pub held_back : ℕ → List OutletPlan → ℕ
held_back sum [] = sum
held_back sum (outlet ∷ outlets) = held_back (cut (sum + memory_size outlet.overflow)) outlets

abbrev pub largest : ℕ → List InletPlan → ℕ
largest most [] = most
largest most (inlet ∷ inlets) = largest (max most inlet.limit) inlets

abbrev pub held_by : List SourceSetup → List DestSetup → List InletPlan → List OutletPlan
    → MostHeld
held_by sources dests inlets outlets = record {
  records = cut (cut (in_queues 0 dests + in_windows 0 sources) + held_back 0 outlets);
  size = largest 0 inlets;
}

abbrev pub bytes_of : MostHeld → ℕ
bytes_of held = cut (held.records * held.size)

-- a part of a MiB counts as one
abbrev pub mebibytes_of : MostHeld → ℕ
mebibytes_of held = cut (bytes_of held + 1048575) / 1048576

abbrev pub numbers_text : (mebibytes records size : ℕ) → List ℕ
numbers_text mebibytes records size =
    codes ": records that wait take at most " ++ (decimal mebibytes
    ++ (codes " MiB of memory: " ++ (decimal records ++ (codes " of up to " ++ (decimal size ++
    codes " bytes (log-fifo-size of queues, log-iw-size, mem-buf-length; log-msg-size)\n")))))

abbrev pub held_text : List ℕ → MostHeld → List ℕ
held_text file held = file ++ numbers_text (mebibytes_of held) held.records held.size

-- it is told where it is more than 256 MiB
abbrev pub held_hint : List ℕ → MostHeld → Option (List ℕ)
held_hint file held = if nat_le (bytes_of held) 268435456 then None else Some (held_text file held)
