-- What is left behind a part of a record is still what its item ends with.
use Rattle.std.proofs.Common.{◌≡◌, ℕ, zero, suc, inl, inr, Option, Some, None, List, [], ◌∷◌, ◌++◌, length, drop, codes, ◌-◌, Result, Ok, Err, refl, sym, ap, subst, ◌∙◌, append_assoc, arith}
use Rattle.sg_time.specs.declared.stamp.Stamp.{Stamp}
use Rattle.std.specs.declared.alloc.AllocError.{AllocError}
use Rattle.sg_msg.specs.Message.{NameValue, Content}
use Rattle.sg_msg.specs.Build.{Build}
use Rattle.sg_r5424.specs.Is5424.{Behind, TryReads}
use Rattle.sg_r5424.specs.declared.header.HeaderFront.{HeaderFront}
use Rattle.sg_r5424.specs.Grammar.{HeaderNames, IsStamp, IsHeaderFront, IsNames}
use Rattle.sg_r5424.specs.Data.{Param, IsParam, Params, IsElement, Elements, IsData}
use Rattle.sg_r5424.specs.Data.Params.{closed, more}
use Rattle.sg_r5424.specs.Data.Elements.{none, more as another}
use Rattle.sg_r5424.specs.Spans.{EndsItem}
use Rattle.sg_r5424.proofs.SpanLemmas.{ends-front, ends-field}

ends-byte : (item : List ℕ) (b : ℕ) (rest : List ℕ) → EndsItem item (b ∷ rest) → EndsItem item rest
ends-byte item b rest ends = ends-front item (b ∷ rest) (b ∷ []) rest refl ends

ends-drop : (item : List ℕ) (n : ℕ) (text : List ℕ) → EndsItem item text → EndsItem item (drop n text)
ends-drop item zero text ends = ends
ends-drop item (suc n) [] ends = ends
ends-drop item (suc n) (b ∷ text) ends = ends-drop item n text (ends-byte item b text ends)

ends-stamp : (item text : List ℕ) (stamp : Option Stamp) (rest : List ℕ) → IsStamp text stamp rest → EndsItem item text → EndsItem item rest
ends-stamp item text None rest is ends = ends-front item text (codes "- ") rest is ends
ends-stamp item text (Some stamp) rest is ends = ends-byte item 32 rest (subst (EndsItem item) is.1.1 (ends-drop item is.0 text ends))

pub ends-header : (item text : List ℕ) (front : HeaderFront) (rest : List ℕ) → IsHeaderFront text front rest → EndsItem item text → EndsItem item rest
ends-header item text front rest is ends =
    let version = subst (EndsItem item) is.start.is_version (ends-drop item is.start.len text ends) in
    let behind = ends-front item (codes "1 " ++ is.behind) (codes "1 ") is.behind refl version in
    ends-stamp item is.behind front.stamp rest is.stamp behind

pub ends-names : (item text : List ℕ) (names : HeaderNames) (rest : List ℕ) → IsNames text names rest → EndsItem item text → EndsItem item rest
ends-names item text names rest is ends =
    let host = ends-field item text 255 names.host is.behind_host is.host ends in
    let program = ends-field item is.behind_host 48 names.program is.behind_program is.program host in
    let pid = ends-field item is.behind_program 128 names.pid is.behind_pid is.pid program in
    ends-field item is.behind_pid 32 names.msgid rest is.msgid pid

pub ends-param : (item text : List ℕ) (param : Param) (rest : List ℕ) → IsParam text param rest → EndsItem item text → EndsItem item rest
ends-param item text param rest is ends =
    let space = ends-front item text (32 ∷ []) is.behind is.space ends in
    let name = ends-front item is.behind param.name (61 ∷ 34 ∷ is.quoted) is.name.is_text space in
    let quote = ends-front item (61 ∷ 34 ∷ is.quoted) (61 ∷ 34 ∷ []) is.quoted refl name in
    let spelled = is.value.spelled in
    ends-front item is.quoted (spelled ++ 34 ∷ []) rest (is.value.is_text ∙ sym (append_assoc spelled (34 ∷ []) rest)) quote

pub ends-params : (item text : List ℕ) (params : List Param) (rest : List ℕ) → Params text params rest → EndsItem item text → EndsItem item rest
ends-params item _ _ _ (closed rest) ends = ends-byte item 93 rest ends
ends-params item _ _ _ (more text middle rest param params first behind) ends = ends-params item middle params rest behind (ends-param item text param middle first ends)

pub ends-element : (item text : List ℕ) (pairs : List NameValue) (rest : List ℕ) → IsElement text pairs rest → EndsItem item text → EndsItem item rest
ends-element item text pairs rest is ends =
    let opens = ends-front item text (91 ∷ []) is.behind is.opens ends in
    let id = ends-front item is.behind is.id is.behind_id is.is_id.is_text opens in
    ends-params item is.behind_id is.params rest is.are_params id

ends-elements : (item text : List ℕ) (pairs : List NameValue) (rest : List ℕ) → Elements text pairs rest → EndsItem item text → EndsItem item rest
ends-elements item _ _ _ (none text stops) ends = ends
ends-elements item _ _ _ (another text middle rest first pairs one others) ends = ends-elements item middle pairs rest others (ends-element item text first middle one ends)

pub ends-data : (item text : List ℕ) (pairs : List NameValue) (rest : List ℕ) → IsData text pairs rest → EndsItem item text → EndsItem item rest
ends-data item [] pairs rest is ends = absurd is
ends-data item (b ∷ text) pairs rest (inl is) ends = subst (EndsItem item) (sym is.2) (ends-byte item b text ends)
ends-data item (b ∷ text) pairs rest (inr is) ends = ends-elements item (b ∷ text) pairs rest is.1 ends

-- an item ends with itself
pub ends-whole : (item : List ℕ) → EndsItem item item
ends-whole item =
    let none_off : 0 ≡ length item - length item = omega arith in
    record { shorter = omega arith; rest = ap (λ (n : ℕ). drop n item) none_off }

-- which item a builder has is no matter for what a text says
behind-of : (build : Build) (item text : List ℕ) (content : Content) → Behind (record build { item = item }) text content → Behind build text content
behind-of build item text content h = record { pairs = h.pairs; message = h.message; rest = h.rest; is_data = h.is_data; is_message = h.is_message; is_content = h.is_content }

behind-in : (build : Build) (item text : List ℕ) (content : Content) → Behind build text content → Behind (record build { item = item }) text content
behind-in build item text content h = record { pairs = h.pairs; message = h.message; rest = h.rest; is_data = h.is_data; is_message = h.is_message; is_content = h.is_content }

pub tried-of : (build : Build) (item text new : List ℕ) (result : Result (Option Content) AllocError) → TryReads (Behind (record build { item = item }) text) text new result → TryReads (Behind build text) text new result
tried-of build item text new (Ok (Some content)) h = behind-of build item text content h
tried-of build item text new (Ok None) h = (λ content b. h.0 content (behind-in build item text content b), h.1)
tried-of build item text new (Err wrong) h = tt
