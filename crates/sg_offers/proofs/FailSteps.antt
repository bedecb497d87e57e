-- The stores that fail within a call are those of the destinations for which it is said.
use Rattle.std.proofs.Common.{◌≡◌, ℕ, ◌+◌, ◌<◌, List, [], ◌∷◌, length, Option, Some, None, Bool, true, false, ◌&&◌, ◌||◌, refl, sym, ap, ◌∙◌, arith, suc, zero, map, slice_get, subst, if◌then◌else◌, inl, inr}
use Rattle.std.specs.Prelude.{◌==◌}
use Rattle.std.specs.Option.{option_map_or}
use Rattle.std.proofs.lemmas.Bool.{cases_eq, cases_Bool, and_parts, and_from, or_cases, or_from, or_left, or_right, false_from_ne_true}
use Rattle.sg_list.proofs.ListLemmas.{get-change-same, get-change-other, slice_get-map, some-same}
use Rattle.sg_msg.specs.Length.{encoded_len}
use Rattle.sg_msg.specs.declared.offer.Offer.{Offer}
use Rattle.sg_machine.specs.declared.event.Verdict.{Verdict}
use Rattle.sg_machine.specs.declared.setup.BufferSetup.{BufferSetup}
use Rattle.sg_machine.specs.declared.setup.DestSetup.{DestSetup}
use Rattle.sg_machine.specs.declared.state.Dest.{Dest}
use Rattle.sg_machine.specs.Runs.{BufferedEntry}
use Rattle.sg_machine.specs.Safe.{kept_from}
use Rattle.sg_machine.specs.Verdicts.{Claim, is_listed}
use Rattle.sg_sinks.specs.States.{SinkState}
use Rattle.sg_sinks.specs.Blocks.{block_of_offer}
use Rattle.sg_sinks.specs.Offers.{would_spool, broken_then, verdict_by, verdict_of, disk_verdict, takes, offered}
use Rattle.sg_sinks.specs.Standing.{sink_of}
use Rattle.sg_sinks.specs.Trials.{trial_of, takes_in, tried}
use Rattle.sg_sinks.specs.declared.trial.Trial.{Trial}
use Rattle.sg_sinks.specs.Laws.{is_listed_in}
use Rattle.sg_sinks.proofs.TrialSteps.{trying}
use Rattle.sg_offers.specs.Payloads.{buffers_of, buffer_at, trial_by, trial_in, trial_at}
use Rattle.sg_offers.specs.Answering.{fails_at, offered_by, sinks_then, failing_by, failing_at, failing_in, verdicts_from, AreClaimsWithin}
use Rattle.sg_offers.specs.Batches.{sinks_at, AreSplit, buffer_in, AreBuffersApart, WouldFail}
use Rattle.sg_offers.specs.Laws.{Judged}
use Rattle.sg_offers.proofs.SinkLemmas.{offered-setup, buffers-then}
use Rattle.sg_offers.proofs.ItemLemmas.{buffer-there}
use Rattle.sg_offers.proofs.TrySteps.{takes_all, taken-takes}
use Rattle.sg_offers.proofs.JudgeSteps.{listed-append, Agree, judged-rest}

-- Only stores of those destinations fail.

-- the store of the disk-buffer of a destination for which it is said
record SaidFails (fails : List Bool) (buffers : List (Option BufferSetup)) (s : ℕ) : Type 0 where
  dest : ℕ
  buffer : BufferSetup
  has : buffer_at buffers dest ≡ Some buffer
  store : buffer.store ≡ s
  said : fails_at fails dest ≡ true

one-listed : (s t : ℕ) → is_listed s (t ∷ []) ≡ true → t ≡ s
one-listed s t h =
    elim (cases_eq t s) [
      | inl e ↦ e
      | inr ne ↦ (let miss : is_listed s (t ∷ []) ≡ false = grind arith in absurd (let wrong : false ≡ true = sym miss ∙ h in cc))
    ]

said-if : (fails : List Bool) (buffers : List (Option BufferSetup)) (d s : ℕ) (b : BufferSetup) (w p : Bool) → buffer_at buffers d ≡ Some b → (fails_at fails d && w) ≡ p → is_listed s (failing_by (Some b) p) ≡ true → SaidFails fails buffers s
said-if fails buffers d s b w true at e h = record { dest = d; buffer = b; has = at; store = one-listed s b.store h; said = (and_parts (fails_at fails d) w e).0 }
said-if fails buffers d s b w false at e h = absurd (let wrong : false ≡ true = h in cc)

said-by : (fails : List Bool) (buffers : List (Option BufferSetup)) (d s : ℕ) (b : Option BufferSetup) (w : Bool) → buffer_at buffers d ≡ b → is_listed s (failing_by b (fails_at fails d && w)) ≡ true → SaidFails fails buffers s
said-by fails buffers d s None w at h = absurd (let wrong : false ≡ true = h in cc)
said-by fails buffers d s (Some b) w at h = said-if fails buffers d s b w (fails_at fails d && w) at refl h

said-at : (fails : List Bool) (sinks : List SinkState) (o : Offer) (s : ℕ) (k : Option SinkState) → slice_get sinks o.dest ≡ k
    → is_listed s (option_map_or (λ sink. failing_by sink.setup.buffer (fails_at fails o.dest && would_spool sink o)) k []) ≡ true → SaidFails fails (buffers_of sinks) s
said-at fails sinks o s None e h = absurd (let wrong : false ≡ true = h in cc)
said-at fails sinks o s (Some k) e h = said-by fails (buffers_of sinks) o.dest s k.setup.buffer (would_spool k o) (buffer-there sinks o.dest k e) h

said-in : (fails : List Bool) (i next : ℕ) (sinks : List SinkState) (cs : List Claim) (s : ℕ) → is_listed s (failing_in fails i next sinks cs) ≡ true → SaidFails fails (buffers_of sinks) s
said-in fails i next sinks [] s h = absurd (let wrong : false ≡ true = h in cc)
said-in fails i next sinks (c ∷ cs) s h =
    let now = failing_at fails sinks c.offer in
    let later = failing_in fails i next (sinks_then fails i next sinks c) cs in
    let either : (is_listed s now || is_listed s later) ≡ true = sym (listed-append s now later) ∙ h in
    elim (or_cases (is_listed s now) (is_listed s later) either) [
      | inl p ↦ said-at fails sinks c.offer s (slice_get sinks c.offer.dest) refl p
      | inr p ↦ subst (λ (bs : List (Option BufferSetup)). SaidFails fails bs s) (buffers-then fails i next sinks c) (said-in fails i next (sinks_then fails i next sinks c) cs s p)
    ]

-- Each of them fails.

-- the first offer that isn't spooled leaves the same whether the store fails or not
record Unspooled (fail : Bool) (buffer : BufferSetup) (sink : SinkState) (i number : ℕ) (o : Offer) (block : Option (List ℕ)) : Type 0 where
  works : (offered fail i number o block (verdict_of fail sink o) sink).broken ≡ false
  trial : trial_of buffer (offered fail i number o block (verdict_of fail sink o) sink) ≡ tried o.flow (encoded_len o.message) (trial_of buffer sink)

broken-not : (fail : Bool) (sink : SinkState) (o : Offer) → sink.broken ≡ false → would_spool sink o ≡ false → broken_then fail sink o ≡ false
broken-not true sink o b w = or_from sink.broken (would_spool sink o) b w
broken-not false sink o b w = or_from sink.broken false b refl

verdict-same : (buffer : Option BufferSetup) (fail : Bool) (sink : SinkState) (o : Offer) → broken_then fail sink o ≡ false → broken_then false sink o ≡ false → verdict_by buffer fail sink o ≡ verdict_by buffer false sink o
verdict-same None fail sink o h g = refl
verdict-same (Some b) fail sink o h g = ap (λ (x : Bool). disk_verdict x sink o) (h ∙ sym g)

unspooled : (fail : Bool) (buffer : BufferSetup) (sink : SinkState) (i number : ℕ) (o : Offer) (block : Option (List ℕ)) → sink.setup.buffer ≡ Some buffer → sink.broken ≡ false → would_spool sink o ≡ false → Unspooled fail buffer sink i number o block
unspooled fail buffer sink i number o block e b w =
    let now = broken-not fail sink o b w in
    let verdict : verdict_of fail sink o ≡ verdict_of false sink o = verdict-same sink.setup.buffer fail sink o now (broken-not false sink o b w) in
    let trial = trying buffer sink i number o block e b in
    record { works = now; trial = ap (λ (v : Verdict). trial_of buffer (takes i number o block v sink)) verdict ∙ trial.after }

-- the store fails at an offer that it would spool
failing-now : (fails : List Bool) (sinks : List SinkState) (o : Offer) (sink : SinkState) (buffer : BufferSetup) → fails_at fails o.dest ≡ true → slice_get sinks o.dest ≡ Some sink → sink.setup.buffer ≡ Some buffer → would_spool sink o ≡ true
    → is_listed buffer.store (failing_at fails sinks o) ≡ true
failing-now fails sinks o sink buffer f there e w =
    let both = and_from (fails_at fails o.dest) (would_spool sink o) f w in
    let is : failing_at fails sinks o ≡ failing_by sink.setup.buffer (fails_at fails o.dest && would_spool sink o) = rw there refl in
    let one : is_listed buffer.store (buffer.store ∷ []) ≡ true = grind arith in
    ap (is_listed buffer.store) (is ∙ ap (failing_by sink.setup.buffer) both ∙ ap (λ b. failing_by b true) e) ∙ one

some-if : (p q : Bool) (k : BufferedEntry) (ks ls : List BufferedEntry) → p ≡ true → q ≡ false → 0 < length (if p then (if q then k ∷ ks else ks) else ls) → 0 < length ks
some-if p q k ks ls h g l = rw (h, g) at l

some-else : (p : Bool) (ks ls : List BufferedEntry) → p ≡ false → 0 < length (if p then ks else ls) → 0 < length ls
some-else p ks ls h l = rw h at l

fails-in : (fails : List Bool) (i next d : ℕ) (buffer : BufferSetup) (sink : SinkState) (sinks : List SinkState) (cs : List Claim) → fails_at fails d ≡ true → slice_get sinks d ≡ Some sink → sink.setup.buffer ≡ Some buffer → sink.broken ≡ false
    → 0 < length (takes_all d i (trial_of buffer sink) cs) → is_listed buffer.store (failing_in fails i next sinks cs) ≡ true
fails-in fails i next d buffer sink sinks [] f there e b some = absurd (omega arith)
fails-in fails i next d buffer sink sinks (c ∷ cs) f there e b some =
    let o = c.offer in
    let n = encoded_len o.message in
    let t = trial_of buffer sink in
    let fail = fails_at fails o.dest in
    let later = takes_all d i (tried o.flow n t) cs in
    let now = failing_at fails sinks o in
    let rest = failing_in fails i next (sinks_then fails i next sinks c) cs in
    let both = listed-append buffer.store now rest in
    elim (cases_eq o.dest d) [
      | inl q ↦ (
          let hit : (o.dest == d) ≡ true = grind arith in
          let at : slice_get sinks o.dest ≡ Some sink = rw q there in
          let trial = trying buffer sink i (next + c.place) o None e b in
          elim (cases_Bool (would_spool sink o)) [
            | inl w ↦ both ∙ or_left (is_listed buffer.store now) (is_listed buffer.store rest) (failing-now fails sinks o sink buffer (rw q f) at e w)
            | inr w ↦ (
                let un = unspooled fail buffer sink i (next + c.place) o (block_of_offer sink.setup.buffer i c.end o) e b w in
                let sink_then = offered_by fails i next c sink in
                let there_then : slice_get (sinks_then fails i next sinks c) d ≡ Some sink_then = rw (← q) (get-change-same sinks o.dest (offered_by fails i next c) sink at) in
                let buffer_then : sink_then.setup.buffer ≡ Some buffer = ap (λ (x : DestSetup). x.buffer) (offered-setup fails i next c sink) ∙ e in
                let more : 0 < length later = some-if (o.dest == d) (takes_in n t) (kept_from i c) later (takes_all d i t cs) hit (trial.takes ∙ w) some in
                let some_then : 0 < length (takes_all d i (trial_of buffer sink_then) cs) = subst (λ (u : Trial). 0 < length (takes_all d i u cs)) (sym un.trial) more in
                both ∙ or_right (is_listed buffer.store now) (is_listed buffer.store rest) (fails-in fails i next d buffer sink_then (sinks_then fails i next sinks c) cs f there_then buffer_then un.works some_then))
          ])
      | inr ne ↦ (
          let miss : (o.dest == d) ≡ false = grind arith in
          let there_then : slice_get (sinks_then fails i next sinks c) d ≡ Some sink = get-change-other sinks o.dest d (offered_by fails i next c) (λ q. ne (sym q)) ∙ there in
          let more = some-else (o.dest == d) (if takes_in n t then kept_from i c ∷ later else later) (takes_all d i t cs) miss some in
          both ∙ or_right (is_listed buffer.store now) (is_listed buffer.store rest) (fails-in fails i next d buffer sink (sinks_then fails i next sinks c) cs f there_then e b more))
    ]

-- What is said of the destinations is what fails.

buffers-in : (failed : List ℕ) (dests : List Dest) (e : ℕ) (y : BufferSetup) → buffer_at (buffers_of (sinks_at failed dests)) e ≡ Some y → buffer_in dests e ≡ Some y.store
buffers-in failed [] e y h = let wrong : None ≡ Some y = h in cc
buffers-in failed (x ∷ dests) zero y h = rw h refl
buffers-in failed (x ∷ dests) (suc e) y h = buffers-in failed dests e y h

trial-works : (b : Option BufferSetup) (buffer : BufferSetup) (sink : SinkState) → b ≡ Some buffer → sink.broken ≡ false → trial_by b sink ≡ Some (trial_of buffer sink)
trial-works b buffer sink e w = rw (e, w) refl

would-trial : (i : ℕ) (sinks : List SinkState) (cs : List Claim) (d : ℕ) (w : WouldFail i sinks cs d) → 0 < length (takes_all d i (trial_of w.buffer w.sink) cs)
would-trial i sinks cs d w =
    let found = slice_get-map trial_in sinks d w.sink w.there in
    let trial : trial_in w.sink ≡ Some (trial_of w.buffer w.sink) = trial-works w.sink.setup.buffer w.buffer w.sink w.has w.works in
    let at : trial_at (map trial_in sinks) d ≡ Some (trial_of w.buffer w.sink) = rw found trial in
    subst (λ (ks : List BufferedEntry). 0 < length ks) (taken-takes d i (buffers_of sinks) (map trial_in sinks) (trial_of w.buffer w.sink) cs at) w.some

unlisted-by : (fails : List Bool) (i next : ℕ) (dests : List Dest) (failed : List ℕ) (cs : List Claim) (d : ℕ) (dest : Dest) (b : Option BufferSetup) → AreBuffersApart dests → slice_get dests d ≡ Some dest → dest.setup.buffer ≡ b
    → fails_at fails d ≡ false → is_listed_in b (failing_in fails i next (sinks_at failed dests) cs) ≡ true → ⊥
unlisted-by fails i next dests failed cs d dest None apart there e f l = let wrong : false ≡ true = l in cc
unlisted-by fails i next dests failed cs d dest (Some x) apart there e f l =
    let said = said-in fails i next (sinks_at failed dests) cs x.store l in
    let other : buffer_in dests said.dest ≡ Some x.store = buffers-in failed dests said.dest said.buffer said.has ∙ ap Some said.store in
    let here : buffer_in dests d ≡ Some x.store = rw (there, e) refl in
    let same : said.dest ≡ d = apart said.dest d x.store other here in
    let wrong : true ≡ false = sym said.said ∙ ap (fails_at fails) same ∙ f in
    cc

agree-new : (fails : List Bool) (i next : ℕ) (dests : List Dest) (failed : List ℕ) (cs : List Claim) → AreBuffersApart dests → ((d : ℕ) → fails_at fails d ≡ true → WouldFail i (sinks_at failed dests) cs d)
    → Agree (failing_in fails i next (sinks_at failed dests) cs) fails dests
agree-new fails i next dests failed cs apart would = λ d dest there.
    let sinks = sinks_at failed dests in
    let newly = failing_in fails i next sinks cs in
    elim (cases_Bool (fails_at fails d)) [
      | inl f ↦ (
          let w = would d f in
          let sink = slice_get-map (λ (x : Dest). sink_of (is_listed_in x.setup.buffer failed) x) dests d dest there in
          let same : w.sink ≡ sink_of (is_listed_in dest.setup.buffer failed) dest = some-same w.sink (sink_of (is_listed_in dest.setup.buffer failed) dest) (sym w.there ∙ sink) in
          let buffer : dest.setup.buffer ≡ Some w.buffer = ap (λ (k : SinkState). k.setup.buffer) (sym same) ∙ w.has in
          let listed = fails-in fails i next d w.buffer w.sink sinks cs f w.there w.has w.works (would-trial i sinks cs d w) in
          ap (λ b. is_listed_in b newly) buffer ∙ listed ∙ sym f)
      | inr f ↦ false_from_ne_true (is_listed_in dest.setup.buffer newly) (unlisted-by fails i next dests failed cs d dest dest.setup.buffer apart there refl f) ∙ sym f
    ]

pub judged-all : (fails : List Bool) (i next : ℕ) (dests : List Dest) (failed : List ℕ) (cs : List Claim) → AreSplit dests → AreBuffersApart dests → AreClaimsWithin (length dests) cs
    → ((d : ℕ) → fails_at fails d ≡ true → WouldFail i (sinks_at failed dests) cs d)
    → Judged fails i next dests failed cs (verdicts_from fails i next (sinks_at failed dests) cs) (failing_in fails i next (sinks_at failed dests) cs)
judged-all fails i next dests failed cs split apart within would =
    let sinks = sinks_at failed dests in
    let newly = failing_in fails i next sinks cs in
    let agree = agree-new fails i next dests failed cs apart would in
    let all = judged-rest fails i next newly dests failed sinks cs refl split apart within agree in
    record {
      right = all.right;
      seen = all.seen;
      split = all.split;
      listed = λ d dest buffer there e. ap (λ b. is_listed_in b newly) (sym e) ∙ agree d dest there;
      only = λ s l.
          let said = said-in fails i next sinks cs s l in
          (said.dest, buffers-in failed dests said.dest said.buffer said.has ∙ ap Some said.store, said.said);
    }
