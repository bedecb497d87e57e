-- What the steps that bring nothing to the core leave of a source that is ready.
use Rattle.std.proofs.Common.{arith, ◌≡◌, ◌≤◌, ◌<◌, ◌+◌, ◌-◌, ◌^◌, ℕ, Bool, true, false, List, [], ◌∷◌, ◌++◌, length, take, max, refl, ap, sym, ◌∙◌, subst, length-append}
use Rattle.std.specs.Prelude.{ℤ, Ok}
use Rattle.sg_device.specs.Inlet.{Stamped, InletState, stamped, PullMoves, PullCounts, PullIsWhole}
use Rattle.sg_device.specs.declared.inlet.Pull.TheVariants.{Bytes, Next, Idle}
use Rattle.sg_machine.specs.declared.event.Admission.{Admission}
use Rattle.sg_frame.specs.declared.framer.Framed.{Framed}
use Rattle.sg_frame.specs.declared.framer.Framed.TheVariants.{Item as Given, More, BadFrame}
use Rattle.sg_frame.specs.Items.{Item, Bad, items, open_after, beginning}
use Rattle.sg_frame.specs.Framing.{Framing, GivesItem, NextTells, fresh, fed, with_bytes as with_fed}
use Rattle.sg_frame.proofs.ItemLemmas.{items-append, open_after-append, items-bad, open_after-bad}
use Rattle.sg_counter.specs.Bringing.{MayEnter, AllMayEnter}
use Rattle.sg_actor.specs.Reading.{bytes_pulled, IsUnfed}
use Rattle.sg_actor.specs.Sources.{SourceState, source, IsFramedAhead, IsBadFrame, HasNothingLeft, IsReady}
use Rattle.sg_actor.specs.Steps.{IsFed, HasFed, HasAsked}
use Rattle.sg_actor.specs.declared.reader.Reader.{Reader}
use Rattle.sg_actor.specs.declared.settings.SourceSpec.{SourceSpec}
use Rattle.sg_actor.proofs.FeedLemmas.{fed-none, stamped-len}
use Rattle.sg_actor.proofs.TimeLemmas.{timely-pulled}
use Rattle.sg_frame.specs.Timely.{AreTimely}
use Rattle.sg_frame.proofs.TimelyLemmas.{timely-append, timely-drop, gives-timely}

not-so : {A : Type 0} {b : Bool} → b ≡ false → b ≡ true → A
not-so is so = absurd (let wrong : true ≡ false = sym so ∙ is in cc)

-- Of what was fed nothing changes: what is ahead, what is held, and whether the present part is given up.
ready-with : (dests : ℕ) (spec : SourceSpec) (feed : InletState) (buffer : List ℕ) (reader : Reader) (ahead : Framed) (held : List Admission) (end : ℕ) (up hung : Bool)
    → IsFramedAhead reader.framer ahead → AllMayEnter dests held → length held ≤ spec.fetch → (up ≡ true → IsBadFrame ahead × (held ≡ [])) → hung ≡ up
    → (reader.ended ≡ true → (feed.ended ≡ true) × (up ≡ false → HasNothingLeft feed)) → IsReady dests spec (source feed reader buffer)
    → IsReady dests spec (source (record feed { hung = hung }) (record reader { ahead = ahead; held = held; end = end; given_up = up }) buffer)
ready-with dests spec feed buffer reader ahead held end up hung is may few bad same over h = record {
  room = h.room;
  kind = h.kind;
  limit = h.limit;
  from = h.from;
  place = h.place;
  in_range = h.in_range;
  timely = h.timely;
  unfed = h.unfed;
  ahead = is;
  held = may;
  few = few;
  begun = h.begun;
  bad = bad;
  hung = same;
  over = over;
}

-- bytes behind a bad count change nothing
bad-items : (limit place bad : ℕ) (form : _) (xs ys : List Stamped) → items limit place form xs ≡ [] → open_after limit place form xs ≡ Bad bad
    → (items limit place form (xs ++ ys) ≡ []) × (open_after limit place form (xs ++ ys) ≡ Bad bad)
bad-items limit place bad form xs ys none is = (
  items-append limit place form xs ys
      ∙ ap (λ i. i ++ items limit (place + length xs) (open_after limit place form xs) ys) none
      ∙ ap (λ f. items limit (place + length xs) f ys) is
      ∙ items-bad limit (place + length xs) bad ys,
  open_after-append limit place form xs ys ∙ ap (λ f. open_after limit (place + length xs) f ys) is ∙ open_after-bad limit (place + length xs) bad ys,
)

ahead-fed : (f : Framing) (xs : List Stamped) (ahead : Framed) → IsFramedAhead f ahead → IsFramedAhead (with_fed f xs) ahead
ahead-fed f xs (Given text end at) h = (h.0, (let more : length (f.held ++ xs) ≡ length f.held + length xs = length-append f.held xs in let old : end ≤ f.place + length f.held = h.1 in omega arith))
ahead-fed f xs More h = tt
ahead-fed f xs (BadFrame place) h = bad-items f.limit f.place place (beginning f.kind) f.held xs h.0 h.1

ready-explicit : (dests : ℕ) (spec : SourceSpec) (feed : InletState) (buffer : List ℕ) (old : Reader) → IsReady dests spec (source feed old buffer)
    → IsReady dests spec (source feed (record old { framer = with_fed old.framer (bytes_pulled old.pulled buffer); pulled = Idle }) buffer)
ready-explicit dests spec feed buffer old h =
    let xs : List Stamped = bytes_pulled old.pulled buffer in
    let more : length (old.framer.held ++ xs) ≡ length old.framer.held + length xs = length-append old.framer.held xs in
    record {
      room = h.room;
      kind = h.kind;
      limit = h.limit;
      from = h.from;
      place = (let before : feed.from + (old.framer.place + length old.framer.held + length xs) ≡ feed.place = h.place in omega arith);
      in_range = h.in_range;
      timely = timely-append old.framer.held xs h.timely (timely-pulled (length buffer) buffer old.pulled h.unfed);
      unfed = tt;
      ahead = ahead-fed old.framer xs old.ahead h.ahead;
      held = h.held;
      few = h.few;
      begun = (λ some. h.begun (let before : 0 < length (old.framer.held ++ xs) + 0 = some in omega arith));
      bad = h.bad;
      hung = h.hung;
      over = h.over;
    }

pub ready-fed : (dests : ℕ) (spec : SourceSpec) (feed : InletState) (buffer : List ℕ) (old new : Reader) → HasFed buffer old new
    → IsReady dests spec (source feed old buffer) → IsReady dests spec (source feed new buffer)
ready-fed dests spec feed buffer old new has h =
    subst (λ r. IsReady dests spec (source feed r buffer)) (sym (has.rest ∙ ap (λ f. record old { framer = f; pulled = Idle }) has.framer))
    (ready-explicit dests spec feed buffer old h)

-- the framer was asked
ahead-given : (f f' : Framing) (item : Item) → AreTimely f.held → GivesItem f f' item → IsFramedAhead f' (Given item.text item.end item.at)
ahead-given f f' item timely gives = (
  gives-timely f f' item timely gives,
  (let place : f'.place ≡ item.end = ap (λ x. x.place) gives.rest in omega arith),
)

asked-item : (dests : ℕ) (spec : SourceSpec) (feed : InletState) (buffer : List ℕ) (old : Reader) (f : Framing) (item : Item) → old.given_up ≡ false
    → GivesItem old.framer f item → IsReady dests spec (source feed old buffer)
    → IsReady dests spec (source feed (record old { framer = f; ahead = Given item.text item.end item.at }) buffer)
asked-item dests spec feed buffer old f item going gives h = record {
  room = h.room;
  kind = ap (λ x. x.kind) gives.rest ∙ h.kind;
  limit = ap (λ x. x.limit) gives.rest ∙ h.limit;
  from = h.from;
  place = (let before : feed.from + (fed old.framer + length (bytes_pulled old.pulled buffer)) ≡ feed.place = h.place in let same : fed f ≡ fed old.framer = gives.all_fed in omega arith);
  in_range = h.in_range;
  timely = (let P : List Stamped → Type 0 = λ bytes. AreTimely bytes in
      subst P (sym (ap (λ x. x.held) gives.rest)) (timely-drop (item.end - old.framer.place) old.framer.held h.timely));
  unfed = h.unfed;
  ahead = ahead-given old.framer f item h.timely gives;
  held = h.held;
  few = h.few;
  begun = (λ some. h.begun (let shorter = gives.shorter in let now : 0 < length f.held + length (bytes_pulled old.pulled buffer) = some in omega arith));
  bad = not-so going;
  hung = h.hung;
  over = h.over;
}

not-bad : (up : Bool) (ahead : Framed) (A : Type 0) → ahead ≡ More → (up ≡ true → IsBadFrame ahead × A) → up ≡ false
not-bad true ahead A none h = absurd (subst IsBadFrame none (h refl).0)
not-bad false ahead A none h = refl

-- without a bad count the present part isn't given up
pub ready-going : (dests : ℕ) (spec : SourceSpec) (s : SourceState) → s.reader.ahead ≡ More → IsReady dests spec s → s.reader.given_up ≡ false
ready-going dests spec s none h = not-bad s.reader.given_up s.reader.ahead (s.reader.held ≡ []) none h.bad

asked-none : (dests : ℕ) (spec : SourceSpec) (feed : InletState) (buffer : List ℕ) (old : Reader) (ahead : Framed) → old.given_up ≡ false
    → IsFramedAhead old.framer ahead → IsReady dests spec (source feed old buffer)
    → IsReady dests spec (source feed (record old { ahead = ahead }) buffer)
asked-none dests spec feed buffer old ahead going is h =
    ready-with dests spec feed buffer old ahead old.held old.end old.given_up feed.hung is h.held h.few (not-so going) h.hung h.over h

asked-by : (dests : ℕ) (spec : SourceSpec) (feed : InletState) (buffer : List ℕ) (old : Reader) (f : Framing) (ahead : Framed) → old.given_up ≡ false
    → NextTells old.framer f (Ok ahead) → IsReady dests spec (source feed old buffer)
    → IsReady dests spec (source feed (record old { framer = f; ahead = ahead }) buffer)
asked-by dests spec feed buffer old f (Given text end at) going told h = asked-item dests spec feed buffer old f (record { text = text; at = at; end = end }) going told h
asked-by dests spec feed buffer old f More going told h =
    subst (λ g. IsReady dests spec (source feed (record old { framer = g; ahead = More }) buffer)) (sym told.0) (asked-none dests spec feed buffer old More going tt h)
asked-by dests spec feed buffer old f (BadFrame place) going told h =
    subst (λ g. IsReady dests spec (source feed (record old { framer = g; ahead = BadFrame place }) buffer)) (sym told.0)
    (asked-none dests spec feed buffer old (BadFrame place) going (told.1, told.2) h)

pub ready-asked : (dests : ℕ) (spec : SourceSpec) (feed : InletState) (buffer : List ℕ) (old new : Reader) → old.ahead ≡ More → HasAsked old new
    → IsReady dests spec (source feed old buffer) → IsReady dests spec (source feed new buffer)
ready-asked dests spec feed buffer old new none asked h =
    subst (λ r. IsReady dests spec (source feed r buffer)) (sym asked.rest)
    (asked-by dests spec feed buffer old new.framer new.ahead (ready-going dests spec (source feed old buffer) none h) asked.told h)

-- bytes were pulled
pub ready-pulled : (dests : ℕ) (spec : SourceSpec) (feed feed' : InletState) (buffer buffer' : List ℕ) (reader : Reader) (len : ℕ) (at : ℤ) → IsFed reader.pulled → reader.ended ≡ false
    → length buffer' ≡ length buffer → PullIsWhole (length buffer) (Ok (Bytes len at)) → PullMoves feed feed' (Ok (Bytes len at)) → PullCounts feed feed' (Ok (Bytes len at))
    → IsReady dests spec (source feed reader buffer) → IsReady dests spec (source feed' (record reader { pulled = Bytes len at }) buffer')
ready-pulled dests spec feed feed' buffer buffer' reader len at isfed going size whole moves counts h =
    let fits : len ≤ length buffer' = (let f : len ≤ length buffer = whole.1 in omega arith) in
    let count : length (stamped (take len buffer') at) ≡ len = stamped-len buffer' len at fits in
    let none : length (bytes_pulled reader.pulled buffer) ≡ 0 = ap length (fed-none reader.pulled buffer isfed) in
    let up : reader.given_up ≡ false = sym h.hung ∙ counts.6 in
    record {
      room = (let r : 0 < length buffer = h.room in omega arith);
      kind = h.kind;
      limit = h.limit;
      from = moves.0 ∙ h.from;
      place = (let before : feed.from + (fed reader.framer + length (bytes_pulled reader.pulled buffer)) ≡ feed.place = h.place in
          let from : feed'.from ≡ feed.from = moves.0 in let place : feed'.place ≡ feed.place + len = moves.1 in omega arith);
      in_range = moves.2;
      timely = h.timely;
      unfed = (fits, (whole.2, whole.3));
      ahead = h.ahead;
      held = h.held;
      few = h.few;
      begun = (λ some. (let parts : feed'.parts ≡ max feed.parts 1 = counts.3 in omega arith));
      bad = h.bad;
      hung = counts.7 ∙ sym up;
      over = not-so going;
    }

-- a part began
pub ready-part : (dests : ℕ) (spec : SourceSpec) (feed feed' : InletState) (buffer buffer' : List ℕ) (reader : Reader) → IsFed reader.pulled → reader.ended ≡ false
    → length buffer' ≡ length buffer → PullMoves feed feed' (Ok Next) → PullCounts feed feed' (Ok Next)
    → IsReady dests spec (source feed reader buffer)
    → IsReady dests spec (source feed' (record reader { framer = fresh reader.framer.kind reader.framer.limit; ahead = More; given_up = false }) buffer')
ready-part dests spec feed feed' buffer buffer' reader isfed going size moves counts h =
    let none : length (bytes_pulled reader.pulled buffer) ≡ 0 = ap length (fed-none reader.pulled buffer isfed) in
    let none' : length (bytes_pulled reader.pulled buffer') ≡ 0 = ap length (fed-none reader.pulled buffer' isfed) in
    let before : feed.from + (fed reader.framer + length (bytes_pulled reader.pulled buffer)) ≡ feed.place = h.place in
    let from : feed'.from ≡ feed.from = moves.0 in
    let place : feed'.place ≡ feed.from = moves.1 in
    record {
      room = (let r : 0 < length buffer = h.room in omega arith);
      kind = h.kind;
      limit = h.limit;
      from = moves.0 ∙ h.from;
      place = omega arith;
      in_range = (let r : feed.place < 2 ^ 63 = h.in_range in omega arith);
      timely = tt;
      unfed = subst (λ n. IsUnfed n reader.pulled) (sym size) h.unfed;
      ahead = tt;
      held = h.held;
      few = h.few;
      begun = (λ some. (let parts : feed'.parts ≡ feed.parts + 1 = counts.3 in omega arith));
      bad = not-so refl;
      hung = counts.6;
      over = not-so going;
    }

-- nothing was given
pub ready-same : (dests : ℕ) (spec : SourceSpec) (feed feed' : InletState) (buffer buffer' : List ℕ) (reader : Reader) (ended failed : Bool) → IsFed reader.pulled
    → length buffer' ≡ length buffer → feed'.from ≡ feed.from → feed'.place ≡ feed.place → feed'.parts ≡ feed.parts → feed'.hung ≡ feed.hung
    → (ended ≡ true → (feed'.ended ≡ true) × (reader.given_up ≡ false → HasNothingLeft feed'))
    → IsReady dests spec (source feed reader buffer) → IsReady dests spec (source feed' (record reader { ended = ended; failed = failed }) buffer')
ready-same dests spec feed feed' buffer buffer' reader ended failed isfed size from place parts hung over h =
    let none : bytes_pulled reader.pulled buffer ≡ [] = fed-none reader.pulled buffer isfed in
    let none' : bytes_pulled reader.pulled buffer' ≡ [] = fed-none reader.pulled buffer' isfed in
    let gone : length (bytes_pulled reader.pulled buffer) ≡ 0 = ap length none in
    let gone' : length (bytes_pulled reader.pulled buffer') ≡ 0 = ap length none' in
    let before : feed.from + (fed reader.framer + length (bytes_pulled reader.pulled buffer)) ≡ feed.place = h.place in
    record {
      room = (let r : 0 < length buffer = h.room in omega arith);
      kind = h.kind;
      limit = h.limit;
      from = from ∙ h.from;
      place = omega arith;
      in_range = (let r : feed.place < 2 ^ 63 = h.in_range in omega arith);
      timely = h.timely;
      unfed = subst (λ n. IsUnfed n reader.pulled) (sym size) h.unfed;
      ahead = h.ahead;
      held = h.held;
      few = h.few;
      begun = (λ some. (let old : 0 < feed.parts = h.begun (let s : 0 < length reader.framer.held + length (bytes_pulled reader.pulled buffer') = some in omega arith) in omega arith));
      bad = h.bad;
      hung = hung ∙ h.hung;
      over = over;
    }

-- the present part is given up and hung up
pub ready-up : (dests : ℕ) (spec : SourceSpec) (feed : InletState) (buffer : List ℕ) (reader : Reader) → IsBadFrame reader.ahead → reader.held ≡ []
    → IsReady dests spec (source feed reader buffer) → IsReady dests spec (source (record feed { hung = true }) (record reader { given_up = true }) buffer)
ready-up dests spec feed buffer reader bad none h =
    ready-with dests spec feed buffer reader reader.ahead reader.held reader.end true true h.ahead h.held h.few (λ e. (bad, none)) refl
    (λ e. ((h.over e).0, (λ up. absurd (let no : true ≡ false = up in cc)))) h

may-append : (dests : ℕ) (rs ss : List Admission) → AllMayEnter dests rs → AllMayEnter dests ss → AllMayEnter dests (rs ++ ss)
may-append dests [] ss h k = k
may-append dests (r ∷ rs) ss h k = (h.0, may-append dests rs ss h.1 k)

-- a record is held
pub ready-taken : (dests : ℕ) (spec : SourceSpec) (feed : InletState) (buffer : List ℕ) (reader : Reader) (a : Admission) → reader.given_up ≡ false
    → MayEnter dests a → length reader.held < spec.fetch → IsReady dests spec (source feed reader buffer)
    → IsReady dests spec (source feed (record reader { held = reader.held ++ a ∷ []; ahead = More }) buffer)
ready-taken dests spec feed buffer reader a going may room h =
    let more : length (reader.held ++ a ∷ []) ≡ length reader.held + 1 = length-append reader.held (a ∷ []) in
    ready-with dests spec feed buffer reader More (reader.held ++ a ∷ []) reader.end reader.given_up feed.hung tt
    (may-append dests reader.held (a ∷ []) h.held (may, tt)) (omega arith) (not-so going) h.hung h.over h

-- the records that were held are admitted
pub ready-admitted : (dests : ℕ) (spec : SourceSpec) (feed : InletState) (buffer : List ℕ) (reader : Reader) (end : ℕ) → IsReady dests spec (source feed reader buffer)
    → IsReady dests spec (source feed (record reader { held = []; end = end }) buffer)
ready-admitted dests spec feed buffer reader end h =
    ready-with dests spec feed buffer reader reader.ahead [] end reader.given_up feed.hung h.ahead tt (omega arith) (λ e. ((h.bad e).0, refl)) h.hung h.over h
