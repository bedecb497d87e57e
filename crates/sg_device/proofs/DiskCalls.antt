-- What each call of a disk does to its bytes and to what a crash may leave.
use Rattle.std.proofs.Common.{◌≡◌, inl, inr, ⊎_elim, ℕ, suc, ◌-◌, ◌≤◌, List, [], ◌∷◌, length, take, drop, refl, sym, ap, subst, arith, Some, None, Option, length-take}
use Rattle.std.specs.Prelude.{Result, Ok, Err, is_some}
use Rattle.std.specs.Option.{option_map}
use Rattle.sg_device.specs.DiskBytes.{overwritten, Torn, Written, Same}
use Rattle.sg_device.specs.Disk.{DiskEvent, Wrote, Tore, Synced, Lost, DiskLog, DiskState, with_event, bytes_after, IsLeftByCrash, content, IsImage, Changes, Elapses, Preserves, Rests, Durable, Writes, Syncs, Moves}
use Rattle.sg_device.specs.declared.fault.DiskFault.{DiskFault}
use Rattle.sg_device.proofs.Parts.{written_by, torn_of_written, torn_refl}
use Rattle.sg_device.proofs.Disks.{changed, preserves_refl}

-- a longer range may be torn too
pub torn_wider : (at m n : ℕ) (c d : List ℕ) → m ≤ n → Torn at m c d → Torn at n c d
torn_wider at m n c d le torn = record {
  before = torn.before;
  after = λ k low high. torn.after k (omega (arith, low, le)) high;
  no_shorter = torn.no_shorter;
  no_longer = omega (arith, torn.no_longer, le);
}

-- a write of which so many bytes were to be written
pub torn_by : (at n : ℕ) (bytes c : List ℕ) → Torn at n c (overwritten at (take n bytes) c)
torn_by at n bytes c = torn_wider at (length (take n bytes)) n c _ (omega (arith, length-take n bytes)) (torn_of_written at (take n bytes) c _ (written_by at (take n bytes) c))

-- what a read gives is an image
pub left_as_read : (first : List ℕ) (events : List DiskEvent) → IsLeftByCrash first events (bytes_after first events)
left_as_read first [] = refl
left_as_read first (Wrote at bytes ∷ earlier) = (bytes_after first earlier, left_as_read first earlier, torn_of_written at bytes _ _ (written_by at bytes (bytes_after first earlier)))
left_as_read first (Tore at n bytes ∷ earlier) = (bytes_after first earlier, left_as_read first earlier, torn_by at n bytes (bytes_after first earlier))
left_as_read first (Synced ∷ earlier) = refl
left_as_read first (Lost left ∷ earlier) = inr refl

-- all events, at their number or later
all_events : (t : ℕ) (events : List DiskEvent) → length events ≤ t → drop (length events - t) events ≡ events
all_events t events le = ap (λ (n : ℕ). drop n events) (let e : length events - t ≡ 0 = omega arith in e)

-- an earlier moment has the same events, whatever came after
past_events : (t : ℕ) (event : DiskEvent) (events : List DiskEvent) → t ≤ length events → drop (length (event ∷ events) - t) (event ∷ events) ≡ drop (length events - t) events
past_events t event events le = ap (λ (n : ℕ). drop n (event ∷ events)) (let e : length (event ∷ events) - t ≡ suc (length events - t) = omega arith in e)

told_as_image : (told : Option DiskLog) (f : ℕ) (b : List ℕ) → content (record { told = told; faults = f }) ≡ Some b → IsImage (record { told = told; faults = f }) b
told_as_image None f b is = absurd (let e : None ≡ Some b = is in cc)
told_as_image (Some log) f b is =
    let same : bytes_after log.first log.events ≡ b = cc in
    subst (λ (l : List DiskEvent). IsLeftByCrash log.first l b) (sym (all_events (length log.events) log.events (omega arith))) (subst (λ (l : List ℕ). IsLeftByCrash log.first log.events l) same (left_as_read log.first log.events))

-- the disk as it reads is one of its images
pub reads_as_image : (disk : DiskState) (b : List ℕ) → content disk ≡ Some b → IsImage disk b
reads_as_image disk b is = told_as_image disk.told disk.faults b is

-- what is left after all events is an image
pub image_now : (log : DiskLog) (f : ℕ) (c : List ℕ) → IsLeftByCrash log.first log.events c → IsImage (record { told = Some log; faults = f }) c
image_now log f c left = subst (λ (l : List DiskEvent). IsLeftByCrash log.first l c) (sym (all_events (length log.events) log.events (omega arith))) left

-- one event more leads each image on by a step
module _ (step : List ℕ → List ℕ → Type 0) (event : DiskEvent) (goes : (first : List ℕ) (earlier : List DiskEvent) (c : List ℕ) → IsLeftByCrash first (event ∷ earlier) c → (d : List ℕ) × IsLeftByCrash first earlier d × step d c) where
  event_elapses : (f g : ℕ) (told : Option DiskLog) → Elapses step (record { told = told; faults = f }) (record { told = option_map (with_event event) told; faults = g })
  event_elapses f g None = record { later = omega arith; past = λ t c le left. left; kept = λ t c le left. left; since = λ t c lt le left. absurd left }
  event_elapses f g (Some log) = record {
    later = omega arith;
    past = λ t c le left. subst (λ (l : List DiskEvent). IsLeftByCrash log.first l c) (past_events t event log.events le) left;
    kept = λ t c le left. subst (λ (l : List DiskEvent). IsLeftByCrash log.first l c) (sym (past_events t event log.events le)) left;
    since = λ t c lt le left.
        let now : IsLeftByCrash log.first (event ∷ log.events) c = subst (λ (l : List DiskEvent). IsLeftByCrash log.first l c) (all_events t (event ∷ log.events) (omega (arith, lt))) left in
        let from = goes log.first log.events c now in
        (from.0, subst (λ (l : List DiskEvent). IsLeftByCrash log.first l from.0) (sym (all_events (length log.events) log.events (omega arith))) from.1, from.2);
  }

  pub elapses_by : (old new : DiskState) → new.told ≡ option_map (with_event event) old.told → Elapses step old new
  elapses_by old new is = subst (λ (told : Option DiskLog). Elapses step old (record { told = told; faults = new.faults })) (sym is) (event_elapses old.faults new.faults old.told)

-- and leads the bytes on by a step
module _ (step : List ℕ → List ℕ → Type 0) (event : DiskEvent) (goes : (first : List ℕ) (earlier : List DiskEvent) → step (bytes_after first earlier) (bytes_after first (event ∷ earlier))) where
  event_changes : (f g : ℕ) (told : Option DiskLog) → Changes step (content (record { told = told; faults = f })) (content (record { told = option_map (with_event event) told; faults = g }))
  event_changes f g None = record { back = λ b is. absurd (let e : None ≡ Some b = is in cc); tells = refl }
  event_changes f g (Some log) = changed step (bytes_after log.first log.events) (bytes_after log.first (event ∷ log.events)) (goes log.first log.events)

  pub changes_by : (old new : DiskState) → new.told ≡ option_map (with_event event) old.told → Changes step (content old) (content new)
  changes_by old new is = subst (λ (told : Option DiskLog). Changes step (content old) (content (record { told = told; faults = new.faults }))) (sym is) (event_changes old.faults new.faults old.told)

-- a call that adds no event
pub unchanged : (old new : DiskState) → new.told ≡ old.told → Preserves old new
unchanged old new is = subst (λ (told : Option DiskLog). Preserves old (record { told = told; faults = new.faults })) (sym is) (let same : Preserves old (record { told = old.told; faults = new.faults }) = record { told = (preserves_refl old).told; still = record { later = omega arith; past = λ t c le left. left; kept = λ t c le left. left; since = λ t c lt le left. absurd (omega (arith, lt, le)) } } in same)

still_elapses : (step : List ℕ → List ℕ → Type 0) (old new : DiskState) → new.told ≡ old.told → Elapses step old new
still_elapses step old new is = subst (λ (told : Option DiskLog). Elapses step old (record { told = told; faults = new.faults })) (sym is) (let same : Elapses step old (record { told = old.told; faults = new.faults }) = record { later = omega arith; past = λ t c le left. left; kept = λ t c le left. left; since = λ t c lt le left. absurd (omega (arith, lt, le)) } in same)

-- a write, whatever it answers
pub write_elapses : (old new : DiskState) (at : ℕ) (bytes : List ℕ) (result : Result Unit DiskFault) → Writes old new at bytes result → Elapses (Torn at (length bytes)) old new
write_elapses old new at bytes (Ok done) is = elapses_by (Torn at (length bytes)) (Wrote at bytes) (λ first earlier c left. left) old new is
write_elapses old new at bytes (Err e) (inl is) = still_elapses (Torn at (length bytes)) old new is
write_elapses old new at bytes (Err e) (inr torn) = elapses_by (Torn at (length bytes)) (Tore at (length bytes) torn.0) (λ first earlier c left. left) old new torn.1

pub write_changes : (old new : DiskState) (at : ℕ) (bytes : List ℕ) (result : Result Unit DiskFault) → Writes old new at bytes result → Changes (Torn at (length bytes)) (content old) (content new)
write_changes old new at bytes (Ok done) is = changes_by (Torn at (length bytes)) (Wrote at bytes) (λ first earlier. torn_of_written at bytes _ _ (written_by at bytes (bytes_after first earlier))) old new is
write_changes old new at bytes (Err e) (inl is) =
    let same = (unchanged old new is).told in
    record { back = λ b told. let from = same.back b told in (from.0, from.1, subst (λ (l : List ℕ). Torn at (length bytes) from.0 l) (sym from.2) (torn_refl at (length bytes) from.0)); tells = same.tells }
write_changes old new at bytes (Err e) (inr torn) = changes_by (Torn at (length bytes)) (Tore at (length bytes) torn.0) (λ first earlier. torn_by at (length bytes) torn.0 (bytes_after first earlier)) old new torn.1

-- a write that succeeds
pub write_written : (old new : DiskState) (at : ℕ) (bytes : List ℕ) → new.told ≡ option_map (with_event (Wrote at bytes)) old.told → Changes (Written at bytes) (content old) (content new)
write_written old new at bytes is = changes_by (Written at bytes) (Wrote at bytes) (λ first earlier. written_by at bytes (bytes_after first earlier)) old new is

-- a call after which bytes are told exactly where they were told before
pub tells_same : (old new : DiskState) → Preserves old new → Rests old new
tells_same old new keeps = record { tells = keeps.told.tells; still = keeps.still }

-- a sync that succeeds
pub sync_preserves : (old new : DiskState) → new.told ≡ option_map (with_event Synced) old.told → Preserves old new
sync_preserves old new is = record {
  told = changes_by Same Synced (λ first earlier. refl) old new is;
  still = elapses_by Same Synced (λ first earlier c left. (bytes_after first earlier, left_as_read first earlier, left)) old new is;
}

-- one that fails, and of which a read gives this image since
lost_elapses : (f g : ℕ) (told : Option DiskLog) (lost : List ℕ) → IsImage (record { told = told; faults = f }) lost → Elapses Same (record { told = told; faults = f }) (record { told = option_map (with_event (Lost lost)) told; faults = g })
lost_elapses f g None lost is = absurd is
lost_elapses f g (Some log) lost is = record {
  later = omega arith;
  past = λ t c le left. subst (λ (l : List DiskEvent). IsLeftByCrash log.first l c) (past_events t (Lost lost) log.events le) left;
  kept = λ t c le left. subst (λ (l : List DiskEvent). IsLeftByCrash log.first l c) (sym (past_events t (Lost lost) log.events le)) left;
  since = λ t c lt le left.
      let now : IsLeftByCrash log.first (Lost lost ∷ log.events) c = subst (λ (l : List DiskEvent). IsLeftByCrash log.first l c) (all_events t (Lost lost ∷ log.events) (omega (arith, lt))) left in
      ⊎_elim (λ (before : IsLeftByCrash log.first log.events c). (c, image_now log f c before, refl)) (λ (same : c ≡ lost). (lost, is, same)) now;
}

told_lost : (f : ℕ) (told : Option DiskLog) (lost : List ℕ) → is_some (content (record { told = option_map (with_event (Lost lost)) told; faults = f })) ≡ is_some (content (record { told = told; faults = f }))
told_lost f None lost = refl
told_lost f (Some log) lost = refl

-- a sync, whatever it answers
pub sync_rests : (old new : DiskState) (result : Result Unit DiskFault) → Syncs old new result → Rests old new
sync_rests old new (Ok done) is = tells_same old new (sync_preserves old new is)
sync_rests old new (Err e) (inl is) = tells_same old new (unchanged old new is)
sync_rests old new (Err e) (inr lost) = subst (λ (told : Option DiskLog). Rests old (record { told = told; faults = new.faults })) (sym lost.2) (let after : Rests old (record { told = option_map (with_event (Lost lost.0)) old.told; faults = new.faults }) = record { tells = told_lost 0 old.told lost.0; still = lost_elapses old.faults new.faults old.told lost.0 lost.1 } in after)

event_durable : (g : ℕ) (told : Option DiskLog) → Durable (record { told = option_map (with_event Synced) told; faults = g })
event_durable g None c left = absurd left
event_durable g (Some log) c left =
    let now : IsLeftByCrash log.first (Synced ∷ log.events) c = subst (λ (l : List DiskEvent). IsLeftByCrash log.first l c) (all_events (length (Synced ∷ log.events)) (Synced ∷ log.events) (omega arith)) left in
    ap (λ (l : List ℕ). Some l) (sym now)

-- a sync that succeeds
pub sync_durable : (old new : DiskState) → new.told ≡ option_map (with_event Synced) old.told → Durable new
sync_durable old new is = subst (λ (told : Option DiskLog). Durable (record { told = told; faults = new.faults })) (sym is) (event_durable new.faults old.told)

-- whatever a call does, it leaves the past
pub elapses_moves : {step : List ℕ → List ℕ → Type 0} (old new : DiskState) → Elapses step old new → Moves old new
elapses_moves old new time = record { later = time.later; past = time.past; kept = time.kept }

pub moves_trans : (old mid new : DiskState) → Moves old mid → Moves mid new → Moves old new
moves_trans old mid new one two = record {
  later = omega (arith, one.later, two.later);
  past = λ t c le left. one.past t c le (two.past t c (omega (arith, le, one.later)) left);
  kept = λ t c le left. two.kept t c (omega (arith, le, one.later)) (one.kept t c le left);
}

-- what is told, and what is durable, depends on the log alone
pub content_same : (old new : DiskState) → new.told ≡ old.told → content new ≡ content old
content_same old new is = ap (λ (told : Option DiskLog). content (record { told = told; faults = 0 })) is

pub durable_same : (old new : DiskState) → new.told ≡ old.told → Durable old → Durable new
durable_same old new is durable = subst (λ (told : Option DiskLog). Durable (record { told = told; faults = new.faults })) (sym is) durable
