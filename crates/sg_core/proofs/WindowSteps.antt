-- The sources of a core, once an entry that its records wait for is settled or stands on the disk.
use Rattle.std.proofs.Common.{◌≡◌, ◌≢◌, ℕ, ◌+◌, ◌-◌, ◌<◌, ◌≤◌, List, [], ◌∷◌, length, Some, None, Option, Bool, true, false, ◌&&◌, refl, sym, ap, ◌∙◌, arith, suc, zero, slice_get}
use Rattle.std.specs.Prelude.{◌==◌, is_some, unwrap_or}
use Rattle.sg_list.specs.Lists.{change}
use Rattle.sg_list.proofs.ListLemmas.{length-change}
use Rattle.sg_window.specs.Window.{window_of, outstanding, after_ack, first_waiting, left_at, one_less, WindowStandsFor}
use Rattle.sg_window.proofs.WindowLemmas.{outstanding-length, stands-ack}
use Rattle.sg_window.specs.declared.tracker.BegunRecord.{BegunRecord}
use Rattle.sg_machine.specs.declared.state.InletRecords.{InletRecords}
use Rattle.sg_machine.specs.declared.state.Dest.{Dest}
use Rattle.sg_machine.specs.declared.state.DestEntry.{DestEntry}
use Rattle.sg_machine.specs.declared.state.State.{State}
use Rattle.sg_machine.specs.Marks.{is_owed_to}
use Rattle.sg_machine.specs.Running.{IsSoundReplay as IsReplayed, owed, records_from, ends_at}
use Rattle.sg_machine.proofs.OwedLemmas.{one_if, Lessens, owed-change, records-same, records-less, records-length, records-get, admitted-owed}
use Rattle.sg_sinks.specs.Standing.{waiting_at}
use Rattle.sg_standing.specs.Sources.{CanAck, acked_at, acks}
use Rattle.sg_standing.specs.Standing.{sources_from}

-- a record that something is owed to is outstanding
outstanding-owed : (rs : List BegunRecord) (n : ℕ) → 0 < left_at rs n
    → (length rs - length (outstanding rs) ≤ n) × (left_at (outstanding rs) (n - (length rs - length (outstanding rs))) ≡ left_at rs n)
outstanding-owed [] n h = absurd (omega arith)
outstanding-owed (r ∷ rs) zero h = grind arith
outstanding-owed (r ∷ rs) (suc n) h = grind (arith, outstanding-length rs, outstanding-owed rs n)

-- the window of an inlet when one less is owed to a record
window-less : (ds fs : List Dest) (i n limit from : ℕ) (ends : List ℕ) → n < length ends → 0 < owed ds i n
    → ((j : ℕ) → j ≢ n → owed fs i j ≡ owed ds i j) → owed fs i n ≡ owed ds i n - 1
    → window_of limit (length ends) from (records_from fs i 0 ends) ≡ after_ack (window_of limit (length ends) from (records_from ds i 0 ends)) n
window-less ds fs i n limit from ends l h others less =
    let rs = records_from ds i 0 ends in
    let w = window_of limit (length ends) from rs in
    let len = records-length ds i 0 ends in
    let r = records-less ds fs i 0 n n ends (omega arith) others less in
    let got = records-get ds i 0 n ends l in
    let zero_n : 0 + n ≡ n = omega arith in
    let owing : 0 < left_at rs n = rw (got, zero_n) h in
    let o = outstanding-owed rs n owing in
    let f : first_waiting w ≤ n = rw (← len) o.0 in
    let stands : WindowStandsFor w from rs = rw len refl in
    let s = stands-ack w n from rs f stands in
    let len2 = length-change rs n one_less in
    rw r (sym (s ∙ ap (λ k. window_of limit k from (change rs n one_less)) (len2 ∙ len)))

pub sources-same : (ds fs : List Dest) (i : ℕ) (inlets : List InletRecords) → ((j n : ℕ) → owed fs j n ≡ owed ds j n) → sources_from fs i inlets ≡ sources_from ds i inlets
sources-same ds fs i [] h = refl
sources-same ds fs i (x ∷ inlets) h = rw (records-same ds fs i 0 x.ends (λ j l. h i j), sources-same ds fs (i + 1) inlets h) refl

-- the sources above that inlet stay
pub sources-above : (ds fs : List Dest) (i : ℕ) (inlets : List InletRecords) → ((j n : ℕ) → i ≤ j → owed fs j n ≡ owed ds j n) → sources_from fs i inlets ≡ sources_from ds i inlets
sources-above ds fs i [] h = refl
sources-above ds fs i (x ∷ inlets) h = rw (records-same ds fs i 0 x.ends (λ j l. h i j (omega arith)), sources-above ds fs (i + 1) inlets (λ j n l. h j n (omega arith))) refl

sources-less : (ds fs : List Dest) (i k m n : ℕ) (inlets : List InletRecords) → i + k ≡ m → n < length (ends_at inlets k) → 0 < owed ds m n
    → ((j o : ℕ) → j ≢ m → owed fs j o ≡ owed ds j o) → ((o : ℕ) → o ≢ n → owed fs m o ≡ owed ds m o) → owed fs m n ≡ owed ds m n - 1
    → sources_from fs i inlets ≡ change (sources_from ds i inlets) k (acked_at n)
sources-less ds fs i k m n [] at l h apart others less = refl
sources-less ds fs i zero m n (x ∷ inlets) at l h apart others less =
    let same : i ≡ m = omega arith in
    let w = window-less ds fs i n x.setup.window 0 x.ends l (rw same h) (rw same others) (rw same less) in
    let rest = sources-above ds fs (i + 1) inlets (λ j o g. apart j o (omega arith)) in
    rw (w, rest) refl
sources-less ds fs i (suc k) m n (x ∷ inlets) at l h apart others less =
    let ne : i ≢ m = omega arith in
    let here = records-same ds fs i 0 x.ends (λ j g. apart i j ne) in
    let rest = sources-less ds fs (i + 1) k m n inlets (omega arith) l h apart others less in
    rw (here, rest) refl

can-ack-from : (ds : List Dest) (i k m n : ℕ) (inlets : List InletRecords) → i + k ≡ m → n < length (ends_at inlets k) → 0 < owed ds m n → CanAck (slice_get (sources_from ds i inlets) k) n
can-ack-from ds i k m n [] at l h = absurd (omega arith)
can-ack-from ds i zero m n (x ∷ inlets) at l h =
    let same : i ≡ m = omega arith in
    let rs = records_from ds i 0 x.ends in
    let len = records-length ds i 0 x.ends in
    let got = records-get ds i 0 n x.ends l in
    let zero_n : 0 + n ≡ n = omega arith in
    let owing : 0 < left_at rs n = rw (got, zero_n, same) h in
    let o = outstanding-owed rs n owing in
    (rw (← len) o.0, rw (← len, o.1) owing)
can-ack-from ds i (suc k) m n (x ∷ inlets) at l h = can-ack-from ds (i + 1) k m n inlets (omega arith) l h

-- One entry.

number-some : (o : Option ℕ) → is_some o ≡ true → o ≡ Some (unwrap_or o 0)
number-some None h = let wrong : false ≡ true = h in cc
number-some (Some n) h = refl

not_owing : (e : DestEntry) (i n : ℕ) → e.flow ≡ false → is_owed_to i n e ≡ false
not_owing e i n h = grind arith

owing_to : (e : DestEntry) (m i n : ℕ) → e.number ≡ Some m → e.spooled ≡ false → e.flow ≡ true → is_owed_to i n e ≡ ((e.inlet == i) && (m == n))
owing_to e m i n number memory flow = grind arith

spooled_owes : (e : DestEntry) (i n : ℕ) → e.spooled ≡ true → is_owed_to i n e ≡ false
spooled_owes e i n h = grind arith

-- so much less is owed once the destination is so
pub lessens-by : (ds : List Dest) (d : ℕ) (f : Dest → Dest) (dest : Dest) (e : DestEntry) → slice_get ds d ≡ Some dest → Lessens dest (f dest) e → (i n : ℕ) (b : Bool) → is_owed_to i n e ≡ b
    → owed ds i n ≡ one_if b + owed (change ds d f) i n
lessens-by ds d f dest e g h i n b q = rw (← q) (owed-change ds d f dest (one_if (is_owed_to i n e)) i n g (h i n))

-- the record of an entry with flow-control is acknowledged, and could be
pub record Acks (s : State) (ds : List Dest) (k : ℕ) (e : DestEntry) : Type 0 where
  pub can : e.flow ≡ true → CanAck (slice_get (sources_from s.dests 0 s.inlets) e.inlet) (unwrap_or e.number 0)
  pub after : sources_from ds 0 s.inlets ≡ acks (sources_from s.dests 0 s.inlets) (waiting_at k e)

acks-flow : (s : State) (d k m : ℕ) (f : Dest → Dest) (dest : Dest) (e : DestEntry) → IsReplayed s → slice_get s.dests d ≡ Some dest → e.number ≡ Some m → unwrap_or e.number 0 ≡ m → e.spooled ≡ false → Lessens dest (f dest) e
    → (b : Bool) → e.flow ≡ b → Acks s (change s.dests d f) k e
acks-flow s d k m f dest e sound g number value memory h false flow = record {
  can = λ y. let wrong : false ≡ true = sym flow ∙ y in cc;
  after =
      let same = sources-same s.dests (change s.dests d f) 0 s.inlets (λ j n. let a = lessens-by s.dests d f dest e g h j n false (not_owing e j n flow) in omega arith) in
      rw flow same;
}
acks-flow s d k m f dest e sound g number value memory h true flow =
    let hit : is_owed_to e.inlet m e ≡ true = owing_to e m e.inlet m number memory flow ∙ grind arith in
    let a = lessens-by s.dests d f dest e g h e.inlet m true hit in
    let l = admitted-owed s e.inlet m sound (omega arith) in
    record {
      can = λ y. rw value (can-ack-from s.dests 0 e.inlet e.inlet m s.inlets (omega arith) l (omega arith));
      after =
          let less = sources-less s.dests (change s.dests d f) 0 e.inlet e.inlet m s.inlets (omega arith) l (omega arith)
          (λ j n ne. let b : is_owed_to j n e ≡ false = owing_to e m j n number memory flow ∙ grind arith in let z = lessens-by s.dests d f dest e g h j n false b in omega arith)
          (λ n ne. let b : is_owed_to e.inlet n e ≡ false = owing_to e m e.inlet n number memory flow ∙ grind arith in let z = lessens-by s.dests d f dest e g h e.inlet n false b in omega arith)
          (omega arith) in
          rw (flow, value) less;
    }

pub acks-one : (s : State) (d k : ℕ) (f : Dest → Dest) (dest : Dest) (e : DestEntry) → IsReplayed s → slice_get s.dests d ≡ Some dest → is_some e.number ≡ true → e.spooled ≡ false → Lessens dest (f dest) e → Acks s (change s.dests d f) k e
acks-one s d k f dest e sound g number memory h = acks-flow s d k (unwrap_or e.number 0) f dest e sound g (number-some e.number number) refl memory h e.flow refl

-- a spooled one is waited for by none
pub acks-none : (s : State) (d : ℕ) (f : Dest → Dest) (dest : Dest) (e : DestEntry) → slice_get s.dests d ≡ Some dest → e.spooled ≡ true → Lessens dest (f dest) e → sources_from (change s.dests d f) 0 s.inlets ≡ sources_from s.dests 0 s.inlets
acks-none s d f dest e g spooled h = sources-same s.dests (change s.dests d f) 0 s.inlets (λ j n. let a = lessens-by s.dests d f dest e g h j n false (spooled_owes e j n spooled) in omega arith)
