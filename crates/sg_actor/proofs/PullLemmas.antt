-- What one pull leaves.
use Rattle.std.proofs.Common.{arith, ◌≡◌, ◌≤◌, ◌<◌, ◌+◌, ℕ, Bool, true, false, List, [], length, refl, ap, sym, ◌∙◌, subst, Option, Some, None, max}
use Rattle.std.proofs.lemmas.Bool.Decides.{nat_tests}
use Rattle.std.specs.Prelude.{ℤ, Ok, Err, IfSome, nat_lt, ◌||◌}
use Rattle.std.specs.Option.{option_map}
use Rattle.sg_device.specs.Inlet.{InletState, PullIsWhole, PullTells, PullMoves, PullLeaves, PullCounts, PullFaults}
use Rattle.sg_device.specs.declared.inlet.Pull.TheVariants.{Bytes, Next, Idle, End}
use Rattle.sg_device.specs.declared.fault.InletFault.{InletFault}
use Rattle.sg_device.proofs.Inlets.{advances_pull}
use Rattle.sg_frame.specs.declared.framer.Framed.{Framed}
use Rattle.sg_frame.specs.declared.framer.Framed.TheVariants.{Item as Given, More, BadFrame}
use Rattle.sg_frame.specs.Items.{Form, Text, Count, Body, Bad, IsSoundForm}
use Rattle.sg_frame.specs.Framing.{Framing, items_left, open_left, fresh}
use Rattle.sg_actor.specs.Reading.{one_if, bad_forms, items_ahead}
use Rattle.sg_actor.specs.Sources.{source, IsFramedAhead, IsBadFrame, IsReady}
use Rattle.sg_actor.specs.Steps.{IsFrameDealt, IsSpent, parts_over, PullsOnce}
use Rattle.sg_actor.specs.declared.reader.Reader.{Reader}
use Rattle.sg_actor.specs.declared.settings.SourceSpec.{SourceSpec}
use Rattle.sg_actor.proofs.FailLemmas.{fails-same, fails-now}
use Rattle.sg_actor.proofs.FeedLemmas.{reads-pulled, reads-part, reads-same}
use Rattle.sg_actor.proofs.ReadyLemmas.{ready-pulled, ready-part, ready-same}

pub lt-yes : (a b : ℕ) → a < b → nat_lt a b ≡ true
lt-yes a b h = grind (arith, nat_tests)

pub lt-no : (a b : ℕ) → b ≤ a → nat_lt a b ≡ false
lt-no a b h = grind (arith, nat_tests)

sound-forms : (form : Form) → IsSoundForm form → bad_forms form ≡ 0
sound-forms (Text line) h = refl
sound-forms (Count value) h = refl
sound-forms (Body missing text) h = refl
sound-forms (Bad place) h = absurd h

-- what is dealt with holds no item, and is bad where the part is given up
pub dealt-items : (f : Framing) (up : Bool) (ahead : Framed) → IsFrameDealt f up ahead → IsFramedAhead f ahead → (items_ahead ahead ≡ []) × (items_left f ≡ [])
dealt-items f up (Given text end at) dealt is = absurd dealt
dealt-items f up More dealt is = (refl, dealt.0)
dealt-items f up (BadFrame place) dealt is = (refl, is.0)

dealt-more : (f : Framing) (up : Bool) → (up ≡ true → ⊥) → IsSoundForm (open_left f) → bad_forms (open_left f) ≡ one_if up
dealt-more f true going sound = absurd (going refl)
dealt-more f false going sound = sound-forms (open_left f) sound

pub dealt-forms : (f : Framing) (up : Bool) (ahead : Framed) (A : Type 0) → IsFrameDealt f up ahead → IsFramedAhead f ahead → (up ≡ true → IsBadFrame ahead × A) → bad_forms (open_left f) ≡ one_if up
dealt-forms f up (Given text end at) A dealt is bad = absurd dealt
dealt-forms f up More A dealt is bad = dealt-more f up (λ e. (bad e).0) dealt.1
dealt-forms f up (BadFrame place) A dealt is bad = ap bad_forms is.1 ∙ ap one_if (sym dealt)

over-more : (up : Bool) (parts parts' : ℕ) → parts ≤ parts' → parts_over up parts ≤ parts_over up parts'
over-more true parts parts' h = h
over-more false parts parts' h = omega arith

over-next : (up : Bool) (parts parts' : ℕ) → parts' ≡ parts + 1 → parts_over up parts ≤ parts_over false parts'
over-next true parts parts' h = omega arith
over-next false parts parts' h = omega arith

first-of : (a b c d : Bool) → a ≡ true → (a || b || c || d) ≡ true
first-of true b c d h = refl
first-of false b c d h = absurd (let no : false ≡ true = h in cc)

second-of : (a b c d : Bool) → b ≡ true → (a || b || c || d) ≡ true
second-of true b c d h = refl
second-of false true c d h = refl
second-of false false c d h = absurd (let no : false ≡ true = h in cc)

last-of : (a b c d : Bool) → a ≡ false → b ≡ false → (a || b || c || d) ≡ (c || d)
last-of true b c d h k = absurd (let no : true ≡ false = h in cc)
last-of false true c d h k = absurd (let no : true ≡ false = k in cc)
last-of false false c d h k = refl

pub pulls-bytes : (feed feed' : InletState) (buffer buffer' : List ℕ) (reader : Reader) (len : ℕ) (at : ℤ) → IsSpent reader → reader.ended ≡ false → length buffer' ≡ length buffer
    → PullIsWhole (length buffer) (Ok (Bytes len at)) → PullTells feed feed' buffer' (Ok (Bytes len at)) → PullMoves feed feed' (Ok (Bytes len at)) → PullLeaves feed feed' buffer' (Ok (Bytes len at))
    → PullCounts feed feed' (Ok (Bytes len at)) → PullFaults feed feed' (Ok (Bytes len at))
    → (dests : ℕ) (spec : SourceSpec) → IsReady dests spec (source feed reader buffer)
    → PullsOnce dests spec (source feed reader buffer) (source feed' (record reader { pulled = Bytes len at }) buffer') false
pulls-bytes feed feed' buffer buffer' reader len at spent going size whole tells moves leaves counts faults dests spec h =
    let fits : len ≤ length buffer' = (let f : len ≤ length buffer = whole.1 in omega arith) in
    let some : 0 < len = whole.0 in
    let bytes : feed'.bytes ≡ feed.bytes + len = counts.2 in
    let idles : feed'.idles ≡ feed.idles = counts.1 in
    let parts : feed'.parts ≡ max feed.parts 1 = counts.3 in
    let pulls : feed'.pulls ≡ feed.pulls + 1 = counts.0 in
    record {
      rests = record {
        ready = ready-pulled dests spec feed feed' buffer buffer' reader len at spent.fed going size whole moves counts h;
        reads = reads-pulled feed feed' buffer buffer' reader len at spent.fed fits tells moves.0 bytes;
        held = refl;
        end = refl;
        advances = advances_pull feed feed' buffer' (Ok (Bytes len at)) (subst (λ n. PullIsWhole n (Ok (Bytes len at))) (sym size) whole) tells moves leaves counts faults;
        parts = over-more reader.given_up feed.parts feed'.parts (omega arith);
      };
      pulls = omega arith;
      brought = first-of (nat_lt feed.bytes feed'.bytes) (nat_lt feed.parts feed'.parts) (nat_lt (one_if reader.ended) (one_if reader.ended)) (nat_lt (one_if reader.failed) (one_if reader.failed)) (lt-yes feed.bytes feed'.bytes (omega arith));
      idles = lt-no feed.idles feed'.idles (omega arith);
      failing = fails-same reader.failed reader.failed feed.faults feed'.faults refl;
    }

pub pulls-next : (feed feed' : InletState) (buffer buffer' : List ℕ) (reader : Reader) → IsSpent reader → reader.ended ≡ false → length buffer' ≡ length buffer
    → PullIsWhole (length buffer) (Ok Next) → PullTells feed feed' buffer' (Ok Next) → PullMoves feed feed' (Ok Next) → PullLeaves feed feed' buffer' (Ok Next)
    → PullCounts feed feed' (Ok Next) → PullFaults feed feed' (Ok Next)
    → (dests : ℕ) (spec : SourceSpec) → IsReady dests spec (source feed reader buffer)
    → PullsOnce dests spec (source feed reader buffer) (source feed' (record reader { framer = fresh reader.framer.kind reader.framer.limit; ahead = More; given_up = false }) buffer') false
pulls-next feed feed' buffer buffer' reader spent going size whole tells moves leaves counts faults dests spec h =
    let bytes : feed'.bytes ≡ feed.bytes = counts.2 in
    let idles : feed'.idles ≡ feed.idles = counts.1 in
    let parts : feed'.parts ≡ feed.parts + 1 = counts.3 in
    let pulls : feed'.pulls ≡ feed.pulls + 1 = counts.0 in
    let items = dealt-items reader.framer reader.given_up reader.ahead spent.ahead h.ahead in
    record {
      rests = record {
        ready = ready-part dests spec feed feed' buffer buffer' reader spent.fed going size moves counts h;
        reads = reads-part feed feed' buffer buffer' reader spent.fed items.0 items.1 (dealt-forms reader.framer reader.given_up reader.ahead (reader.held ≡ []) spent.ahead h.ahead h.bad) tells moves.0 bytes;
        held = refl;
        end = refl;
        advances = advances_pull feed feed' buffer' (Ok Next) (subst (λ n. PullIsWhole n (Ok Next)) (sym size) whole) tells moves leaves counts faults;
        parts = over-next reader.given_up feed.parts feed'.parts parts;
      };
      pulls = omega arith;
      brought = second-of (nat_lt feed.bytes feed'.bytes) (nat_lt feed.parts feed'.parts) (nat_lt (one_if reader.ended) (one_if reader.ended)) (nat_lt (one_if reader.failed) (one_if reader.failed)) (lt-yes feed.parts feed'.parts (omega arith));
      idles = lt-no feed.idles feed'.idles (omega arith);
      failing = fails-same reader.failed reader.failed feed.faults feed'.faults refl;
    }

pub pulls-idle : (feed feed' : InletState) (buffer buffer' : List ℕ) (reader : Reader) → IsSpent reader → reader.ended ≡ false → length buffer' ≡ length buffer
    → PullIsWhole (length buffer) (Ok Idle) → PullTells feed feed' buffer' (Ok Idle) → PullMoves feed feed' (Ok Idle) → PullLeaves feed feed' buffer' (Ok Idle)
    → PullCounts feed feed' (Ok Idle) → PullFaults feed feed' (Ok Idle)
    → (dests : ℕ) (spec : SourceSpec) → IsReady dests spec (source feed reader buffer) → PullsOnce dests spec (source feed reader buffer) (source feed' reader buffer') true
pulls-idle feed feed' buffer buffer' reader spent going size whole tells moves leaves counts faults dests spec h =
    let bytes : feed'.bytes ≡ feed.bytes = counts.2 in
    let idles : feed'.idles ≡ feed.idles + 1 = counts.1 in
    let parts : feed'.parts ≡ feed.parts = counts.3 in
    let pulls : feed'.pulls ≡ feed.pulls + 1 = counts.0 in
    record {
      rests = record {
        ready = ready-same dests spec feed feed' buffer buffer' reader reader.ended reader.failed spent.fed size moves.0 moves.1 parts counts.6 (λ e. absurd (let no : true ≡ false = sym e ∙ going in cc)) h;
        reads = reads-same feed feed' buffer buffer' reader reader.ended reader.failed spent.fed tells.0 tells.1 moves.0 bytes;
        held = refl;
        end = refl;
        advances = advances_pull feed feed' buffer' (Ok Idle) (subst (λ n. PullIsWhole n (Ok Idle)) (sym size) whole) tells moves leaves counts faults;
        parts = over-more reader.given_up feed.parts feed'.parts (omega arith);
      };
      pulls = omega arith;
      brought = last-of (nat_lt feed.bytes feed'.bytes) (nat_lt feed.parts feed'.parts) (nat_lt (one_if reader.ended) (one_if reader.ended)) (nat_lt (one_if reader.failed) (one_if reader.failed)) (lt-no feed.bytes feed'.bytes (omega arith)) (lt-no feed.parts feed'.parts (omega arith))
          ∙ ap (λ a. a || nat_lt (one_if reader.failed) (one_if reader.failed)) (lt-no (one_if reader.ended) (one_if reader.ended) (omega arith)) ∙ lt-no (one_if reader.failed) (one_if reader.failed) (omega arith);
      idles = lt-yes feed.idles feed'.idles (omega arith);
      failing = fails-same reader.failed reader.failed feed.faults feed'.faults refl;
    }

nothing_left : (left left' : Option (List ℕ)) → left' ≡ option_map (λ rest. []) left → IfSome left' (λ rest. rest ≡ [])
nothing_left None left' is = rw is tt
nothing_left (Some rest) left' is = rw is refl

pub pulls-end : (feed feed' : InletState) (buffer buffer' : List ℕ) (reader : Reader) → IsSpent reader → reader.ended ≡ false → length buffer' ≡ length buffer
    → PullIsWhole (length buffer) (Ok End) → PullTells feed feed' buffer' (Ok End) → PullMoves feed feed' (Ok End) → PullLeaves feed feed' buffer' (Ok End)
    → PullCounts feed feed' (Ok End) → PullFaults feed feed' (Ok End)
    → (dests : ℕ) (spec : SourceSpec) → IsReady dests spec (source feed reader buffer)
    → PullsOnce dests spec (source feed reader buffer) (source feed' (record reader { ended = true }) buffer') false
pulls-end feed feed' buffer buffer' reader spent going size whole tells moves leaves counts faults dests spec h =
    let bytes : feed'.bytes ≡ feed.bytes = counts.2 in
    let idles : feed'.idles ≡ feed.idles = counts.1 in
    let parts : feed'.parts ≡ feed.parts = counts.3 in
    let pulls : feed'.pulls ≡ feed.pulls + 1 = counts.0 in
    let rise : nat_lt (one_if reader.ended) 1 ≡ true = rw going refl in
    record {
      rests = record {
        ready = ready-same dests spec feed feed' buffer buffer' reader true reader.failed spent.fed size moves.0 moves.1 parts counts.5 (λ e. (counts.4, (λ up. nothing_left feed.left feed'.left (leaves.1 (h.hung ∙ up))))) h;
        reads = reads-same feed feed' buffer buffer' reader true reader.failed spent.fed tells.0 tells.1 moves.0 bytes;
        held = refl;
        end = refl;
        advances = advances_pull feed feed' buffer' (Ok End) (subst (λ n. PullIsWhole n (Ok End)) (sym size) whole) tells moves leaves counts faults;
        parts = over-more reader.given_up feed.parts feed'.parts (omega arith);
      };
      pulls = omega arith;
      brought = last-of (nat_lt feed.bytes feed'.bytes) (nat_lt feed.parts feed'.parts) (nat_lt (one_if reader.ended) 1) (nat_lt (one_if reader.failed) (one_if reader.failed)) (lt-no feed.bytes feed'.bytes (omega arith)) (lt-no feed.parts feed'.parts (omega arith))
          ∙ ap (λ a. a || nat_lt (one_if reader.failed) (one_if reader.failed)) rise;
      idles = lt-no feed.idles feed'.idles (omega arith);
      failing = fails-same reader.failed reader.failed feed.faults feed'.faults refl;
    }

or-second : (a b : Bool) → a ≡ false → b ≡ true → (a || b) ≡ true
or-second true b h k = refl
or-second false b h k = k

pub pulls-fault : (feed feed' : InletState) (buffer buffer' : List ℕ) (reader : Reader) (e : InletFault) → IsSpent reader → reader.ended ≡ false → reader.failed ≡ false → length buffer' ≡ length buffer
    → PullIsWhole (length buffer) (Err e) → PullTells feed feed' buffer' (Err e) → PullMoves feed feed' (Err e) → PullLeaves feed feed' buffer' (Err e)
    → PullCounts feed feed' (Err e) → PullFaults feed feed' (Err e)
    → (dests : ℕ) (spec : SourceSpec) → IsReady dests spec (source feed reader buffer)
    → PullsOnce dests spec (source feed reader buffer) (source feed' (record reader { failed = true }) buffer') false
pulls-fault feed feed' buffer buffer' reader e spent going works size whole tells moves leaves counts faults dests spec h =
    let bytes : feed'.bytes ≡ feed.bytes = counts.2 in
    let idles : feed'.idles ≡ feed.idles = counts.1 in
    let parts : feed'.parts ≡ feed.parts = counts.3 in
    let pulls : feed'.pulls ≡ feed.pulls = counts.0 in
    let rise : nat_lt (one_if reader.failed) 1 ≡ true = rw works refl in
    record {
      rests = record {
        ready = ready-same dests spec feed feed' buffer buffer' reader reader.ended true spent.fed size moves.0 moves.1 parts counts.5 (λ e. absurd (let no : true ≡ false = sym e ∙ going in cc)) h;
        reads = reads-same feed feed' buffer buffer' reader reader.ended true spent.fed tells.0 tells.1 moves.0 bytes;
        held = refl;
        end = refl;
        advances = advances_pull feed feed' buffer' (Err e) (subst (λ n. PullIsWhole n (Err e)) (sym size) whole) tells moves leaves counts faults;
        parts = over-more reader.given_up feed.parts feed'.parts (omega arith);
      };
      pulls = omega arith;
      brought = last-of (nat_lt feed.bytes feed'.bytes) (nat_lt feed.parts feed'.parts) (nat_lt (one_if reader.ended) (one_if reader.ended)) (nat_lt (one_if reader.failed) 1) (lt-no feed.bytes feed'.bytes (omega arith)) (lt-no feed.parts feed'.parts (omega arith))
          ∙ or-second (nat_lt (one_if reader.ended) (one_if reader.ended)) (nat_lt (one_if reader.failed) 1) (lt-no (one_if reader.ended) (one_if reader.ended) (omega arith)) rise;
      idles = lt-no feed.idles feed'.idles (omega arith);
      failing = fails-now reader.failed feed.faults feed'.faults faults.1;
    }
