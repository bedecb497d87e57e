-- A record says one message.
use Rattle.std.proofs.Common.{◌≡◌, ℕ, ◌≤◌, List, [], ◌∷◌, length, sym, ap, ◌∙◌, subst, arith}
use Rattle.std.specs.declared.option.Option.{Option}
use Rattle.std.specs.declared.option.Option.TheVariants.{None, Some}
use Rattle.std.specs.declared.result.Result.{Result}
use Rattle.std.specs.declared.result.Result.TheVariants.{Ok, Err}
use Rattle.std.specs.declared.alloc.AllocError.{AllocError}
use Rattle.sg_time.specs.declared.stamp.Stamp.{Stamp}
use Rattle.sg_msg.specs.Message.{NameValue, Content}
use Rattle.sg_msg.specs.Build.{Build}
use Rattle.sg_r3164.specs.declared.opts.ReadOpts.{ReadOpts}
use Rattle.sg_r5424.specs.declared.header.HeaderFront.{HeaderFront}
use Rattle.sg_r5424.specs.Grammar.{HeaderNames}
use Rattle.sg_r5424.specs.Grammar.{IsHeaderFront, IsNames, IsMsgPart}
use Rattle.sg_r5424.specs.Data.{IsData}
use Rattle.sg_r5424.specs.Is5424.{header_build, whole_content, Behind, ReadsSyslogMsg, TryReads}
use Rattle.sg_r5424.proofs.HeaderLemmas.{front_once, names_once}
use Rattle.sg_r5424.proofs.ElementLemmas.{data_once}

message_once : (text a b : List ℕ) → IsMsgPart text a → IsMsgPart text b → a ≡ b
message_once [] a b p q = p ∙ sym q
message_once (x ∷ text) a b p q = p.1 ∙ sym q.1

pub behind_once : (build : Build) (text : List ℕ) (a b : Content) → Behind build text a → Behind build text b → a ≡ b
behind_once build text a b p q =
    let parts = data_once text p.pairs q.pairs p.rest q.rest p.is_data q.is_data in
    let said = message_once q.rest p.message q.message (subst (λ (x : List ℕ). IsMsgPart x p.message) parts.1 p.is_message) q.is_message in
    p.is_content ∙ (ap (λ x. whole_content build x p.message) parts.0 ∙ (ap (λ x. whole_content build q.pairs x) said ∙ sym q.is_content))

pub reads_once : (received : Stamp) (peer : List ℕ) (opts : ReadOpts) (item : List ℕ) (a b : Content) → ReadsSyslogMsg received peer opts item a → ReadsSyslogMsg received peer opts item b → a ≡ b
reads_once received peer opts item a b p q =
    let front = front_once item p.front q.front p.behind_front q.behind_front p.is_front q.is_front in
    let names = names_once q.behind_front p.names q.names p.behind_names q.behind_names (subst (λ (x : List ℕ). IsNames x p.names p.behind_names) front.1 p.are_names) q.are_names in
    let header : header_build received peer opts p.front p.names ≡ header_build received peer opts q.front q.names =
    ap (λ x. header_build received peer opts x p.names) front.0 ∙ ap (λ x. header_build received peer opts q.front x) names.0 in
    let there = subst (λ (x : Build). Behind x p.behind_names a) header p.behind in
    behind_once (header_build received peer opts q.front q.names) q.behind_names a b (subst (λ (x : List ℕ). Behind (header_build received peer opts q.front q.names) x a) names.1 there) q.behind

-- where a record can't be read
pub no_names : (received : Stamp) (peer : List ℕ) (opts : ReadOpts) (item : List ℕ) (front : HeaderFront) (behind : List ℕ) → IsHeaderFront item front behind → ((names : HeaderNames) (rest : List ℕ) → ¬ IsNames behind names rest) → (content : Content) → ¬ ReadsSyslogMsg received peer opts item content
no_names received peer opts item front behind is_front never content = λ h.
    let same = front_once item front h.front behind h.behind_front is_front h.is_front in
    never h.names h.behind_names (subst (λ (x : List ℕ). IsNames x h.names h.behind_names) (sym same.1) h.are_names)

pub reads_behind : (received : Stamp) (peer : List ℕ) (opts : ReadOpts) (item : List ℕ) (front : HeaderFront) (behind : List ℕ) (names : HeaderNames) (left : List ℕ) (content : Content) → IsHeaderFront item front behind → IsNames behind names left → ReadsSyslogMsg received peer opts item content → Behind (header_build received peer opts front names) left content
reads_behind received peer opts item front behind names left content is_front are_names h =
    let first = front_once item h.front front h.behind_front behind h.is_front is_front in
    let second = names_once behind h.names names h.behind_names left (subst (λ (x : List ℕ). IsNames x h.names h.behind_names) first.1 h.are_names) are_names in
    let header : header_build received peer opts h.front h.names ≡ header_build received peer opts front names =
    ap (λ x. header_build received peer opts x h.names) first.0 ∙ ap (λ x. header_build received peer opts front x) second.0 in
    let there = subst (λ (x : Build). Behind x h.behind_names content) header h.behind in
    subst (λ (x : List ℕ). Behind (header_build received peer opts front names) x content) second.1 there

pub no_message : (build : Build) (text : List ℕ) (pairs : List NameValue) (rest : List ℕ) → IsData text pairs rest → ((message : List ℕ) → ¬ IsMsgPart rest message) → (whole : Content) → ¬ Behind build text whole
no_message build text pairs rest is_data never whole = λ h.
    let same = data_once text h.pairs pairs h.rest rest h.is_data is_data in
    never h.message (subst (λ (x : List ℕ). IsMsgPart x h.message) same.1 h.is_message)

-- what was read behind the header
pub reads_tried : (received : Stamp) (peer : List ℕ) (opts : ReadOpts) (item : List ℕ) (front : HeaderFront) (behind : List ℕ) (names : HeaderNames) (left new : List ℕ) (result : Result (Option Content) AllocError) → IsHeaderFront item front behind → IsNames behind names left → length left ≤ length item → TryReads (Behind (header_build received peer opts front names) left) left new result → TryReads (ReadsSyslogMsg received peer opts item) item new result
reads_tried received peer opts item front behind names left new (Ok (Some content)) is_front are_names less p = record {
  front = front;
  names = names;
  behind_front = behind;
  behind_names = left;
  is_front = is_front;
  are_names = are_names;
  behind = p;
}
reads_tried received peer opts item front behind names left new (Ok None) is_front are_names less p =
    (λ content h. p.0 content (reads_behind received peer opts item front behind names left content is_front are_names h), let l = p.1 in omega arith)
reads_tried received peer opts item front behind names left new (Err wrong) is_front are_names less p = tt
