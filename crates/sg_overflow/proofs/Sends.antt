-- Frames that go to the outlet inside.
use Rattle.std.proofs.Common.{◌≡◌, ◌≤◌, ℕ, zero, suc, ◌+◌, List, [], ◌++◌, length, take, drop, refl, sym, ◌∙◌, ap, subst, append_assoc, arith, Option, Some, None, Bool, true, false, Ok, Err}
use Rattle.std.proofs.lemmas.List.{append-nil, take-take, length-take, take-append-drop, take-append-le, drop-append-le, drop_all, length-append}
use Rattle.std.proofs.lemmas.Grind.{common_steps}
use Rattle.std.specs.Prelude.{◌==◌, is_some, IfSome, Result}
use Rattle.std.specs.Option.{option_map}
use Rattle.sg_device.specs.Disk.{DiskState, Within}
use Rattle.sg_device.specs.Outlet.{OutletState, Sends, Reopens}
use Rattle.sg_device.specs.declared.fault.SendRefusal.{SendRefusal}
use Rattle.sg_device.specs.declared.fault.SendRefusal.TheVariants.{Fault as SendFault, Later as SendLater, NoMemory as SendNoMemory}
use Rattle.sg_device.specs.declared.fault.OutletFault.{OutletFault}
use Rattle.sg_device.specs.declared.outlet.Reopened.{Reopened}
use Rattle.sg_device.specs.declared.outlet.Reopened.TheVariants.{Ready, Later as ReopenLater}
use Rattle.sg_device.proofs.Disks.{within_as}
use Rattle.sg_spool.proofs.Calls.{lasts_trans}
use Rattle.sg_overflow.specs.Held.{HeldStop, ReadsHeld, Shows, DropsHeld, StandsStill, StopCause}
use Rattle.sg_overflow.specs.Line.{IsCovered, MovesLine, ForwardsBy}
use Rattle.sg_overflow.specs.Sending.{IsSent, IsSentAs}
use Rattle.sg_overflow.specs.Stops.{stop_of, is_open}
use Rattle.sg_overflow.specs.View.{Held, OverflowView, held_of, both, line_of, loaded_of, taken_of}
use Rattle.sg_overflow.specs.declared.step.Stop.{Stop}
use Rattle.sg_overflow.specs.declared.step.Stop.TheVariants.{Open, Outlet, Later, Store, NoMemory}
use Rattle.sg_overflow.proofs.Told.{map_some}
use Rattle.sg_overflow.proofs.Moving.{images_then, covers_front, moves_then}

abbrev pub Texts : Type 0
Texts = List (List ℕ)

-- ---- a send

pub sent_as : (old new : OutletState) (frames : Texts) (count before : ℕ) (answer : Result Unit SendRefusal) → Sends old new frames answer → count + before ≡ new.count → before ≡ old.count → IsSent old new frames count (stop_of answer)
sent_as old new frames count before (Ok done) (takes, failing) sum was =
    let all : count ≡ length frames = omega (arith, sum, was, takes.count) in
    record {
      takes = record {
        taken = takes.taken ∙ ap (λ (k : ℕ). option_map (λ (b : Texts). b ++ take k frames) old.taken) (sym all);
        count = omega (arith, sum, was);
        laters = refl;
        faults = takes.faults;
      };
      laters = omega (arith, takes.laters);
      answer = all;
    }
sent_as old new frames count before (Err SendFault) ((k, less, takes, failing), rose) sum was =
    let all : count ≡ k = omega (arith, sum, was, takes.count) in
    record {
      takes = record {
        taken = takes.taken ∙ ap (λ (k' : ℕ). option_map (λ (b : Texts). b ++ take k' frames) old.taken) (sym all);
        count = omega (arith, sum, was);
        laters = refl;
        faults = takes.faults;
      };
      laters = omega (arith, takes.laters);
      answer = (omega (arith, all, less), rose);
    }
sent_as old new frames count before (Err SendLater) (k, less, takes, same, failing) sum was =
    let all : count ≡ k = omega (arith, sum, was, takes.count) in
    record {
      takes = record {
        taken = takes.taken ∙ ap (λ (k' : ℕ). option_map (λ (b : Texts). b ++ take k' frames) old.taken) (sym all);
        count = omega (arith, sum, was);
        laters = refl;
        faults = takes.faults;
      };
      laters = omega (arith, takes.laters);
      answer = (omega (arith, all, less), omega (arith, takes.laters));
    }
sent_as old new frames count before (Err SendNoMemory) (k, less, takes, failing) sum was =
    let all : count ≡ k = omega (arith, sum, was, takes.count) in
    record {
      takes = record {
        taken = takes.taken ∙ ap (λ (k' : ℕ). option_map (λ (b : Texts). b ++ take k' frames) old.taken) (sym all);
        count = omega (arith, sum, was);
        laters = refl;
        faults = takes.faults;
      };
      laters = omega (arith, takes.laters);
      answer = omega (arith, all, less);
    }

pub sends_more : (old new : OutletState) (frames : Texts) (answer : Result Unit SendRefusal) → Sends old new frames answer → (old.count ≤ new.count) × (new.count ≤ old.count + length frames)
sends_more old new frames (Ok done) (takes, failing) = (omega (arith, takes.count), omega (arith, takes.count))
sends_more old new frames (Err SendFault) ((k, less, takes, failing), rose) = (omega (arith, takes.count), omega (arith, takes.count, less))
sends_more old new frames (Err SendLater) (k, less, takes, same, failing) = (omega (arith, takes.count), omega (arith, takes.count, less))
sends_more old new frames (Err SendNoMemory) (k, less, takes, failing) = (omega (arith, takes.count), omega (arith, takes.count, less))

pub sent_few : (old new : OutletState) (frames : Texts) (count : ℕ) (stop : Stop) → IsSentAs old new frames count stop → count ≤ length frames
sent_few old new frames count Open is = omega (arith, is)
sent_few old new frames count Outlet (less, rose) = omega (arith, less)
sent_few old new frames count Later (less, later) = omega (arith, less)
sent_few old new frames count Store is = absurd is
sent_few old new frames count NoMemory less = omega (arith, less)

pub sent_all : (old new : OutletState) (frames : Texts) (count : ℕ) (stop : Stop) → IsSentAs old new frames count stop → stop ≡ Open → count ≡ length frames
sent_all old new frames count stop is open' = subst (λ (s : Stop). IsSentAs old new frames count s) open' is

pub sent_cause : (old new : OutletState) (frames : Texts) (count : ℕ) (closed : Bool) (stop : Stop) → IsSentAs old new frames count stop → StopCause old new closed stop
sent_cause old new frames count closed Open is = tt
sent_cause old new frames count closed Outlet (less, rose) = rose
sent_cause old new frames count closed Later (less, later) = later
sent_cause old new frames count closed Store is = absurd is
sent_cause old new frames count closed NoMemory less = tt

-- where no frames were shown
pub held_cause : (i j : OutletState) (closed : Bool) (stop : Stop) → HeldStop closed stop → StopCause i j closed stop
held_cause i j closed Open is = absurd is
held_cause i j closed Outlet is = absurd is
held_cause i j closed Later is = absurd is
held_cause i j closed Store is = is
held_cause i j closed NoMemory is = tt

pub held_open : {A : Type 0} (closed : Bool) (stop : Stop) → HeldStop closed stop → stop ≡ Open → A
held_open closed stop is open' = absurd (subst (λ (s : Stop). HeldStop closed s) open' is)

pub nothing_open : {A : Type 0} → Store ≡ Open → A
nothing_open is = absurd (let differ : false ≡ true = ap (λ (s : Stop). is_open s) is in cc)

pub some_length : (n : ℕ) → (n == 0) ≡ false → 1 ≤ n
some_length zero is = grind (arith, common_steps, is)
some_length (suc n) is = omega arith

pub none_length : (n : ℕ) → (n == 0) ≡ true → n ≡ 0
none_length zero is = refl
none_length (suc n) is = grind (arith, common_steps, is)

-- ---- of frames that are held

pub moves_sent : {D : Type 0} (disk : D → DiskState) (frames : Texts) (n : ℕ) (stop : Stop) (inner inner' : OutletState) (old mid new : Held D)
    → ReadsHeld disk old mid → Shows disk old mid frames → IsSent inner inner' frames n stop → DropsHeld disk n mid new → MovesLine disk [] 0 n inner inner' old new
moves_sent disk frames n stop inner inner' old mid new reads shows sent drops = record {
  limits = drops.limits ∙ m.limits;
  lasts = lasts_trans disk old.store mid.store new.store m.lasts drops.lasts;
  tells = drops.tells ∙ m.tells;
  inner_tells = ap (λ (o : Option Texts). is_some o) sent.takes.taken ∙ map_some (λ (b : Texts). b ++ take n frames) inner.taken;
  faults = sent.takes.faults;
  laters = sent.laters;
  few = omega arith;
  number = omega (arith, m.number, drops.number);
  memory = omega (arith, m.memory, drops.memory);
  some = λ held is. omega (arith, few, within held is);
  forwards = λ held is.
      sent.takes.taken
      ∙ ap (λ (f : Texts). option_map (λ (b : Texts). b ++ f) inner.taken)
      (ap (take n) (shows.first held is) ∙ take-take n (length frames) held few ∙ ap (take n) (sym (append-nil held)));
  holds = λ held is. drops.holds held (mid_is held is) ∙ ap (λ (l : Texts). Some (drop n l)) (sym (append-nil held));
  stays = omega (arith, m.stays, drops.stays);
  images = λ works held is.
      subst (λ (k : ℕ). Within (disk old.store.disk) (disk new.store.disk) (IsCovered (held ++ []) k old.stored)) (zero_plus n)
      (images_then disk held [] 0 n old mid new mid.store.closed (omega arith) m.stays refl drops.lasts.untouched (m.images works held is)
      (λ open'. subst (λ (l : Texts). Within (disk mid.store.disk) (disk new.store.disk) (IsCovered l n mid.stored))
      (sym (append-nil (held ++ []) ∙ append-nil held)) (drops.images open' held (mid_is held is))));
}
  where
    m : MovesLine disk [] 0 0 inner inner old mid
    m = reads.moves inner

    few : n ≤ length frames
    few = sent_few inner inner' frames n stop sent.answer

    within : (held : Texts) → held_of disk old ≡ Some held → length frames ≤ length held
    within held is = omega (arith, ap length (shows.first held is), length-take (length frames) held)

    mid_is : (held : Texts) → held_of disk old ≡ Some held → held_of disk mid ≡ Some held
    mid_is held is = m.holds held is ∙ ap Some (append-nil held)

    zero_plus : (k : ℕ) → 0 + k ≡ k
    zero_plus k = omega arith

-- ---- what stands still

-- with new frames given
pub moves_given : {D : Type 0} (disk : D → DiskState) (given : Texts) (n : ℕ) (i j : OutletState) (old new : Held D) → MovesLine disk [] 0 n i j old new → MovesLine disk given 0 n i j old new
moves_given disk given n i j old new m = record {
  limits = m.limits;
  lasts = m.lasts;
  tells = m.tells;
  inner_tells = m.inner_tells;
  faults = m.faults;
  laters = m.laters;
  few = omega arith;
  number = m.number;
  memory = m.memory;
  some = m.some;
  forwards = m.forwards;
  holds = m.holds;
  stays = m.stays;
  images = λ works held is.
      subst (λ (k : ℕ). Within (disk old.store.disk) (disk new.store.disk) (IsCovered (held ++ given) k old.stored)) (plus_zero n)
      (within_as (disk old.store.disk) (disk new.store.disk) (IsCovered (held ++ []) n old.stored) (IsCovered (held ++ given) (n + 0) old.stored) (m.images works held is)
      (λ c covered. covers_front held given n 0 old.stored c (let few = m.some held is in omega (arith, few)) covered));
}
  where
    plus_zero : (k : ℕ) → k + 0 ≡ k
    plus_zero k = omega arith

map_same : (told : Option Texts) → told ≡ option_map (λ (before : Texts). before ++ []) told
map_same None = refl
map_same (Some t) = ap Some (sym (append-nil t))

-- the outlet inside took nothing, and counts no less
pub moves_still : {D : Type 0} (disk : D → DiskState) (held : Held D) (i j : OutletState) → StandsStill disk held → j.taken ≡ option_map (λ (b : Texts). b ++ []) i.taken → i.faults ≤ j.faults → i.laters ≤ j.laters
    → MovesLine disk [] 0 0 i j held held
moves_still disk held i j still taken faults laters =
    let m = still i in
    record {
      limits = m.limits;
      lasts = m.lasts;
      tells = m.tells;
      inner_tells = ap (λ (o : Option Texts). is_some o) taken ∙ map_some (λ (b : Texts). b ++ []) i.taken;
      faults = faults;
      laters = laters;
      few = m.few;
      number = m.number;
      memory = m.memory;
      some = m.some;
      forwards = λ frames is. taken;
      holds = m.holds;
      stays = m.stays;
      images = m.images;
    }

pub moves_reopened : {D : Type 0} (disk : D → DiskState) (held : Held D) (i j : OutletState) (result : Result Reopened OutletFault) → StandsStill disk held → Reopens i j result → MovesLine disk [] 0 0 i j held held
moves_reopened disk held i j (Ok Ready) still (takes, failing) = moves_still disk held i j still takes.taken takes.faults (omega (arith, takes.laters))
moves_reopened disk held i j (Ok ReopenLater) still is =
    moves_still disk held i j still (ap (λ (o : OutletState). o.taken) is ∙ map_same i.taken) (let same = ap (λ (o : OutletState). o.faults) is in omega (arith, same)) (let more = ap (λ (o : OutletState). o.laters) is in omega (arith, more))
moves_reopened disk held i j (Err e) still (takes, failing, rose) = moves_still disk held i j still takes.taken takes.faults (omega (arith, takes.laters))

-- new frames go straight to the outlet inside, where none is held
pub moves_direct : {D : Type 0} (disk : D → DiskState) (frames : Texts) (k : ℕ) (stop : Stop) (i j : OutletState) (held : Held D) → StandsStill disk held → ((all : Texts) → held_of disk held ≡ Some all → all ≡ []) → IsSent i j frames k stop
    → MovesLine disk frames k k i j held held
moves_direct disk frames k stop i j held still none sent =
    let m = still i in
    record {
      limits = m.limits;
      lasts = m.lasts;
      tells = m.tells;
      inner_tells = ap (λ (o : Option Texts). is_some o) sent.takes.taken ∙ map_some (λ (b : Texts). b ++ take k frames) i.taken;
      faults = sent.takes.faults;
      laters = sent.laters;
      few = sent_few i j frames k stop sent.answer;
      number = refl;
      memory = omega arith;
      some = λ all is. omega arith;
      forwards = λ all is.
          sent.takes.taken
          ∙ ap (λ (f : Texts). option_map (λ (b : Texts). b ++ f) i.taken)
          (sym (ap (λ (l : Texts). take k (l ++ take k frames)) (none all is) ∙ take-take k k frames (le_same k)));
      holds = λ all is.
          is ∙ ap Some (none all is ∙ sym (ap (λ (l : Texts). drop k (l ++ take k frames)) (none all is)
          ∙ drop_all k (take k frames) (omega (arith, length-take k frames))));
      stays = omega arith;
      images = λ works all is.
          within_as (disk held.store.disk) (disk held.store.disk) (IsCovered (all ++ []) 0 held.stored) (IsCovered (all ++ frames) k held.stored) (m.images works all is)
          (λ c covered. subst (λ (n : ℕ). IsCovered (all ++ frames) n held.stored c) (zero_plus k) (covers_front all frames 0 k held.stored c (omega arith) covered));
    }
  where
    le_same : (n : ℕ) → n ≤ n
    le_same n = omega arith

    zero_plus : (n : ℕ) → 0 + n ≡ n
    zero_plus n = omega arith

-- none is held
pub none_held : {D : Type 0} (disk : D → DiskState) (held : Held D) → IfSome (held_of disk held) (λ frames. frames ≡ []) → (all : Texts) → held_of disk held ≡ Some all → all ≡ []
none_held disk held none all told = subst (λ (o : Option Texts). IfSome o (λ frames. frames ≡ [])) told none

-- ---- several calls

pub forwards_then : {D : Type 0} (disk : D → DiskState) (i j k : OutletState) (old mid new : Held D) → ForwardsBy disk i j old mid → ForwardsBy disk j k mid new → ForwardsBy disk i k old new
forwards_then disk i j k old mid new (n, one) (m, two) = (n + m, moves_then disk [] 0 n m i j k old mid new one two)

-- ---- the line

line_on : (a a' h h' : Option Texts) (n t : ℕ) (given : Texts) → is_some a' ≡ is_some a → is_some h' ≡ is_some h
    → ((held : Texts) → h ≡ Some held → a' ≡ option_map (λ (b : Texts). b ++ take n (held ++ take t given)) a)
    → ((held : Texts) → h ≡ Some held → h' ≡ Some (drop n (held ++ take t given)))
    → both (λ (forwarded held : Texts). forwarded ++ held) a' h' ≡ option_map (λ (l : Texts). l ++ take t given) (both (λ (forwarded held : Texts). forwarded ++ held) a h)
line_on None None h h' n t given sa sh fs hs = refl
line_on None (Some f) h h' n t given sa sh fs hs = absurd (let no : true ≡ false = sa in cc)
line_on (Some f) None h h' n t given sa sh fs hs = absurd (let no : false ≡ true = sa in cc)
line_on (Some f) (Some f') None None n t given sa sh fs hs = refl
line_on (Some f) (Some f') None (Some x) n t given sa sh fs hs = absurd (let no : true ≡ false = sh in cc)
line_on (Some f) (Some f') (Some held) h' n t given sa sh fs hs =
    let all = held ++ take t given in
    (λ i. both (λ (forwarded rest : Texts). forwarded ++ rest) (fs held refl i) (hs held refl i))
    ∙ ap Some (append_assoc f (take n all) (drop n all) ∙ ap (λ (l : Texts). f ++ l) (take-append-drop n all) ∙ sym (append_assoc f held (take t given)))

module _ {O D : Type 0} (outlet : O → OutletState) (disk : D → DiskState) (given : Texts) (t n : ℕ) (old new : OverflowView O D) (m : MovesLine disk given t n (outlet old.inner) (outlet new.inner) old.held new.held) where
  pub line_moves : line_of outlet disk new ≡ option_map (λ (l : Texts). l ++ take t given) (line_of outlet disk old)
  line_moves = line_on (outlet old.inner).taken (outlet new.inner).taken (held_of disk old.held) (held_of disk new.held) n t given m.inner_tells m.tells m.forwards m.holds

  module _ (same : new.tally.loaded ≡ old.tally.loaded) (enough : IfSome (line_of outlet disk old) (λ line. old.tally.loaded ≤ length line)) where
    taken_on : (line : Option Texts) → IfSome line (λ l. old.tally.loaded ≤ length l) → option_map (drop old.tally.loaded) (option_map (λ (l : Texts). l ++ take t given) line) ≡ option_map (λ (b : Texts). b ++ take t given) (option_map (drop old.tally.loaded) line)
    taken_on None few = refl
    taken_on (Some l) few = ap Some (drop-append-le old.tally.loaded l (take t given) few)

    loaded_on : (line : Option Texts) → IfSome line (λ l. old.tally.loaded ≤ length l) → option_map (take old.tally.loaded) (option_map (λ (l : Texts). l ++ take t given) line) ≡ option_map (take old.tally.loaded) line
    loaded_on None few = refl
    loaded_on (Some l) few = ap Some (take-append-le old.tally.loaded l (take t given) few)

    enough_on : (line : Option Texts) → IfSome line (λ l. old.tally.loaded ≤ length l) → IfSome (option_map (λ (l : Texts). l ++ take t given) line) (λ l. old.tally.loaded ≤ length l)
    enough_on None few = tt
    enough_on (Some l) few = omega (arith, few, length-append l (take t given))

    pub taken_moves : taken_of outlet disk new ≡ option_map (λ (b : Texts). b ++ take t given) (taken_of outlet disk old)
    taken_moves = (λ i. option_map (drop (same i)) (line_moves i)) ∙ taken_on (line_of outlet disk old) enough

    pub loaded_moves : loaded_of outlet disk new ≡ loaded_of outlet disk old
    loaded_moves = (λ i. option_map (take (same i)) (line_moves i)) ∙ loaded_on (line_of outlet disk old) enough

    pub enough_moves : IfSome (line_of outlet disk new) (λ line. new.tally.loaded ≤ length line)
    enough_moves = subst (λ (k : ℕ). IfSome (line_of outlet disk new) (λ line. k ≤ length line)) (sym same)
        (subst (λ (o : Option Texts). IfSome o (λ line. old.tally.loaded ≤ length line)) (sym line_moves) (enough_on (line_of outlet disk old) enough))
