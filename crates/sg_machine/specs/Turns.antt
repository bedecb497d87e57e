-- What acts do to that which `replay` keeps.
use Rattle.std.specs.Prelude.{◌≡◌, ℕ, ◌+◌, ◌-◌, ◌==◌, nat_lt, nat_le, max, Bool, true, false, ◌&&◌, ◌||◌, not, if◌then◌else◌, Option, Some, None, option_and_then, List, [], ◌∷◌, ◌++◌, length, take, drop, slice_get, zero, suc}
use Rattle.std.specs.Option.{option_map, option_map_or}
use Rattle.sg_list.specs.Lists.{change}
use Rattle.sg_msg.specs.Message.{Content}
use Rattle.sg_msg.specs.Length.{encoded_len}
use Rattle.sg_msg.specs.declared.offer.Offer.{Offer}
use Rattle.sg_window.specs.Window.{mark_from, one_less}
use Rattle.sg_machine.specs.declared.event.Admission.{Admission}
use Rattle.sg_machine.specs.declared.event.Verdict.{Verdict}
use Rattle.sg_machine.specs.declared.event.Verdict.TheVariants.{Queued, Spooled, Waits, DroppedFull, DroppedDisk}
use Rattle.sg_machine.specs.declared.setup.BufferSetup.{BufferSetup}
use Rattle.sg_machine.specs.declared.running.Slip.{Slip}
use Rattle.sg_machine.specs.declared.running.SourceRun.{SourceRun}
use Rattle.sg_machine.specs.declared.running.DestRun.{DestRun}
use Rattle.sg_machine.specs.declared.running.Run.{Run}
use Rattle.sg_machine.specs.Verdicts.{is_listed, same_verdict}
use Rattle.sg_machine.specs.Running.{acked_in}

-- Sources.

-- with the records counted that have been acknowledged since
abbrev pub trimmed : SourceRun → SourceRun
trimmed source = record source {
  acked = source.acked + acked_in (drop source.acked source.records);
  mark = mark_from source.mark (drop source.acked source.records);
}

-- one acknowledgement less is needed by the record of that number
abbrev pub acked_one : ℕ → SourceRun → SourceRun
acked_one n source = trimmed (record source { records = change source.records n one_less })

abbrev pub begun_one : ℕ → ℕ → SourceRun → SourceRun
begun_one end left source = trimmed
    (record source { records = source.records ++ record { end = end; left = left } ∷ [] })

-- an entry that its record waited for is settled or spooled
abbrev pub acks : Slip → List SourceRun → List SourceRun
acks slip sources = if slip.flow
    then option_map_or (λ n. change sources slip.inlet (acked_one n)) slip.number sources
    else sources

abbrev pub stored_run : ℕ → SourceRun → SourceRun
stored_run w source = record source { stored = w }

abbrev pub rewound_run : SourceRun → SourceRun
rewound_run source = record source { stored = 0; mark = 0 }

-- Entries that are settled or moved.

-- what the entry takes of a disk-buffer
abbrev pub size_of : Slip → ℕ
size_of slip = 5 + encoded_len slip.message

-- the first entry left is settled, which is this
abbrev pub settled_slip : DestRun → Slip → DestRun
settled_slip dest slip = record dest {
  taken = dest.taken + 1;
  moved = max dest.moved (dest.taken + 1);
  unflowed = if slip.flow then dest.unflowed else dest.unflowed - 1;
  used = if nat_lt dest.taken dest.moved then dest.used - size_of slip else dest.used;
}

abbrev pub settled_run : DestRun → DestRun
settled_run dest = option_map_or (settled_slip dest) (slice_get dest.kept dest.taken) dest

-- where it waited, its record waits for one less
abbrev pub settle_acks : List SourceRun → DestRun → List SourceRun
settle_acks sources dest = if nat_lt dest.taken dest.moved then sources
    else option_map_or (λ slip. acks slip sources) (slice_get dest.kept dest.taken) sources

abbrev pub settle_turn : ℕ → Run → Run
settle_turn d run = record run {
  sources = option_map_or (settle_acks run.sources) (slice_get run.dests d) run.sources;
  dests = change run.dests d settled_run;
}

abbrev pub settle_turns : ℕ → ℕ → Run → Run
settle_turns zero d run = run
settle_turns (suc n) d run = settle_turns n d (settle_turn d run)

-- the first entry that waits is spooled, which is this
abbrev pub moved_slip : DestRun → Slip → DestRun
moved_slip dest slip = record dest { moved = dest.moved + 1; used = dest.used + size_of slip }

abbrev pub moved_run : DestRun → DestRun
moved_run dest = option_map_or (moved_slip dest) (slice_get dest.kept dest.moved) dest

abbrev pub move_acks : List SourceRun → DestRun → List SourceRun
move_acks sources dest = option_map_or (λ slip. acks slip sources) (slice_get dest.kept dest.moved)
    sources

abbrev pub move_turn : ℕ → Run → Run
move_turn d run = record run {
  sources = option_map_or (move_acks run.sources) (slice_get run.dests d) run.sources;
  dests = change run.dests d moved_run;
}

-- one more entry fits
abbrev pub has_space : ℕ → DestRun → Content → Bool
has_space capacity dest message = nat_le (dest.used + (5 + encoded_len message + 1)) capacity

-- an entry waits, and fits
abbrev pub can_move : ℕ → DestRun → Bool
can_move capacity dest = option_map_or (λ (slip : Slip). has_space capacity dest slip.message)
    (slice_get dest.kept dest.moved) false

-- so many of them, each after the ones before; None where one doesn't fit
abbrev pub move_turns : ℕ → ℕ → ℕ → Run → Option Run
move_turns zero capacity d run = Some run
move_turns (suc n) capacity d run =
    if option_map_or (can_move capacity) (slice_get run.dests d) false
    then move_turns n capacity d (move_turn d run) else None

-- Offers.

abbrev pub queue_turn : DestRun → Offer → Verdict
queue_turn dest offer = if offer.flow || nat_lt dest.unflowed dest.setup.fifo then Queued
    else DroppedFull

abbrev pub disk_turn : BufferSetup → DestRun → Bool → Offer → Verdict
disk_turn buffer dest broken offer =
    if broken then (if offer.flow then Waits else DroppedDisk)
    else if nat_lt dest.moved (length dest.kept)
    || not (has_space buffer.capacity dest offer.message) then
    (if offer.flow then Waits else DroppedFull)
    else Spooled

abbrev pub fails_turn : BufferSetup → DestRun → List ℕ → List ℕ → Offer → Bool
fails_turn buffer dest failing failed offer = is_listed buffer.store failing
    && same_verdict Spooled (disk_turn buffer dest (is_listed buffer.store failed) offer)

-- the stores that have failed once this offer has this verdict, None where it is wrong
abbrev pub judged_turn : Option BufferSetup → DestRun → List ℕ → List ℕ → Offer → Verdict
    → Option (List ℕ)
judged_turn None dest failing failed offer verdict =
    if same_verdict verdict (queue_turn dest offer) then Some failed else None
judged_turn (Some buffer) dest failing failed offer verdict =
    if fails_turn buffer dest failing failed offer
    then (if same_verdict verdict (disk_turn buffer dest true offer) then Some
    (failed ++ buffer.store ∷ []) else None)
    else (if same_verdict verdict (disk_turn buffer dest (is_listed buffer.store failed) offer) then
    Some failed else None)

abbrev pub judged_run : Option DestRun → List ℕ → List ℕ → Offer → Verdict → Option (List ℕ)
judged_run None failing failed offer verdict = None
judged_run (Some dest) failing failed offer verdict = judged_turn dest.setup.buffer dest failing
    failed offer verdict

abbrev pub slip_from : ℕ → ℕ → Offer → Slip
slip_from i number offer = record {
  inlet = i;
  number = Some number;
  flow = offer.flow;
  message = offer.message;
}

abbrev pub kept_run : ℕ → ℕ → Offer → DestRun → DestRun
kept_run i number offer dest = record dest {
  kept = dest.kept ++ slip_from i number offer ∷ [];
  unflowed = if offer.flow then dest.unflowed else dest.unflowed + 1;
}

abbrev pub spooled_run : ℕ → ℕ → Offer → DestRun → DestRun
spooled_run i number offer dest = record (kept_run i number offer dest) {
  moved = dest.moved + 1;
  used = dest.used + (5 + encoded_len offer.message);
}

-- a destination after an offer of that record with this verdict
abbrev pub offered_run : ℕ → ℕ → Offer → Verdict → DestRun → DestRun
offered_run i number offer Queued dest = kept_run i number offer dest
offered_run i number offer Spooled dest = spooled_run i number offer dest
offered_run i number offer Waits dest = kept_run i number offer dest
offered_run i number offer DroppedFull dest = record dest { dropped_full = dest.dropped_full + 1 }
offered_run i number offer DroppedDisk dest = record dest { dropped_disk = dest.dropped_disk + 1 }

abbrev pub offered_runs : ℕ → ℕ → List DestRun → List Offer → List Verdict → List DestRun
offered_runs i number dests (o ∷ os) (v ∷ vs) = offered_runs i number
    (change dests o.dest (offered_run i number o v)) os vs
offered_runs i number dests [] vs = dests
offered_runs i number dests (o ∷ os) [] = dests

abbrev pub judged_runs : ℕ → ℕ → List ℕ → List DestRun → List ℕ → List Offer → List Verdict
    → Option (List ℕ)
judged_runs i number failing dests failed [] [] = Some failed
judged_runs i number failing dests failed (o ∷ os) (v ∷ vs) =
    option_and_then (λ failed_then. judged_runs i number failing
    (change dests o.dest (offered_run i number o v)) failed_then os vs)
    (judged_run (slice_get dests o.dest) failing failed o v)
judged_runs i number failing dests failed [] (v ∷ vs) = None
judged_runs i number failing dests failed (o ∷ os) [] = None

-- an offer with this verdict needs an acknowledgement
abbrev pub owes_by : Bool → Verdict → Bool
owes_by flow Queued = flow
owes_by flow Spooled = false
owes_by flow Waits = flow
owes_by flow DroppedFull = false
owes_by flow DroppedDisk = false

abbrev pub owing : List Offer → List Verdict → ℕ
owing [] vs = 0
owing (o ∷ os) [] = 0
owing (o ∷ os) (v ∷ vs) = (if owes_by o.flow v then 1 else 0) + owing os vs

-- Records.

abbrev pub begun_in : List SourceRun → ℕ → ℕ
begun_in sources i = option_map_or (λ (source : SourceRun). length source.records)
    (slice_get sources i) 0

-- the record is begun, and its offers, of which these have failed stores, are taken
abbrev pub record_taken : ℕ → Run → Admission → List Verdict → List ℕ → Run
record_taken i run r vs failed = record {
  sources = change run.sources i (begun_one r.end (owing r.offers vs));
  dests = offered_runs i (begun_in run.sources i) run.dests r.offers vs;
  failed = failed;
}

abbrev pub record_turn : ℕ → List ℕ → Run → Admission → List Verdict → Option Run
record_turn i failing run r vs = option_map (record_taken i run r vs)
    (judged_runs i (begun_in run.sources i) failing run.dests run.failed r.offers vs)

-- records in order, each with the verdicts of its offers; None where one is wrong, or their number
abbrev pub record_turns : ℕ → List ℕ → Run → List Admission → List Verdict → Option Run
record_turns i failing run [] vs = if length vs == 0 then Some run else None
record_turns i failing run (r ∷ rs) vs =
    option_and_then (λ run_then. record_turns i failing run_then rs (drop (length r.offers) vs))
    (record_turn i failing run r (take (length r.offers) vs))

-- The greatest number of dropped offers that a destination counts.
abbrev pub most_run : List DestRun → ℕ
most_run [] = 0
most_run (d ∷ ds) = max (max d.dropped_full d.dropped_disk) (most_run ds)

-- where the verdict is Spooled there is a disk-buffer, and the entry fits
abbrev pub HasSpace : Option BufferSetup → DestRun → Offer → Type 0
HasSpace None dest offer = ⊥
HasSpace (Some buffer) dest offer = has_space buffer.capacity dest offer.message ≡ true

abbrev pub IsSpooledRight : DestRun → Offer → Verdict → Type 0
IsSpooledRight dest offer Queued = Unit {0}
IsSpooledRight dest offer Spooled = HasSpace dest.setup.buffer dest offer
IsSpooledRight dest offer Waits = Unit {0}
IsSpooledRight dest offer DroppedFull = Unit {0}
IsSpooledRight dest offer DroppedDisk = Unit {0}
