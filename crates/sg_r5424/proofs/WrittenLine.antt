-- A line is a record.
use Rattle.std.proofs.Common.{◌≡◌, ℕ, Some, List, [], ◌∷◌, ◌++◌, codes, refl, sym, ap, ◌∙◌, subst, append_assoc}
use Rattle.sg_time.specs.declared.stamp.Stamp.{Stamp}
use Rattle.sg_time.specs.Local.{local_time}
use Rattle.sg_time.specs.Text.{iso_stamp_text, iso_local_text}
use Rattle.sg_msg.specs.Message.{NameValue, Content}
use Rattle.sg_msg.specs.Message.{IsMessage as IsContent}
use Rattle.sg_r3164.specs.declared.opts.ReadOpts.{ReadOpts}
use Rattle.sg_template.specs.declared.env.Env.{Env}
use Rattle.sg_template.specs.Texts.{text_of}
use Rattle.std.specs.List.{filter_map}
use Rattle.sg_template.specs.Elements.{item_of, sdata_text}
use Rattle.sg_template.specs.Zone.{shown_stamp}
use Rattle.sg_r5424.specs.Grammar.{HeaderNames}
use Rattle.sg_r5424.specs.Is5424.{header_build, whole_content, without_end, ReadsSyslogMsg}
use Rattle.sg_r5424.specs.Write.{field_text, message_text, pri_text, line_text, HasYear}
use Rattle.sg_time.proofs.Dates.{shows}
use Rattle.sg_r5424.proofs.StampLemmas.{stamp_read, shown_valid}
use Rattle.sg_r5424.proofs.WrittenHeader.{pri_read, names_read}
use Rattle.sg_r5424.proofs.WrittenData.{written_pairs, ended_text, said_text, data_read, message_read, message_stops, line_ended}

-- the parts of a line, each with what follows
nested : (pri stamp host program pid msgid elements message : List ℕ) →
    pri ++ stamp ++ (codes " " ++ host ++ codes " " ++ program ++ codes " " ++ pid ++ codes " " ++ msgid) ++ codes " " ++ elements ++ message
    ≡ pri ++ (stamp ++ 32 ∷ (host ++ 32 ∷ (program ++ 32 ∷ (pid ++ 32 ∷ (msgid ++ 32 ∷ (elements ++ message))))))
nested pri stamp host program pid msgid elements message = simp append_assoc

-- and with all but the last in front
in_front : (pri stamp host program pid msgid rest : List ℕ) →
    pri ++ (stamp ++ 32 ∷ (host ++ 32 ∷ (program ++ 32 ∷ (pid ++ 32 ∷ (msgid ++ 32 ∷ rest)))))
    ≡ (pri ++ (stamp ++ 32 ∷ (host ++ 32 ∷ (program ++ 32 ∷ (pid ++ 32 ∷ (msgid ++ 32 ∷ [])))))) ++ rest
in_front pri stamp host program pid msgid rest = simp append_assoc

-- the names of a line
abbrev pub names_of : List NameValue → HeaderNames
names_of pairs = record {
  host = field_text 255 (text_of (codes "HOST") pairs);
  program = field_text 48 (text_of (codes "PROGRAM") pairs);
  pid = field_text 128 (text_of (codes "PID") pairs);
  msgid = field_text 32 (text_of (codes "MSGID") pairs);
}

-- what a line says, read with this stamp
abbrev pub said_by : Stamp → List ℕ → ReadOpts → Stamp → Content → Content
said_by received peer opts stamp content =
    whole_content (header_build received peer opts (record { pri = content.pri; stamp = Some stamp }) (names_of content.pairs))
    (written_pairs (filter_map item_of content.pairs)) (said_text (text_of (codes "MESSAGE") content.pairs))

pub line_read : (content : Content) (env : Env) → IsContent content → HasYear content env → (received : Stamp) (peer : List ℕ) (opts : ReadOpts) → (stamp : Stamp) × ReadsSyslogMsg received peer opts (without_end (line_text content env)) (said_by received peer opts stamp content)
unfolding line_text iso_stamp_text
line_read content env is year received peer opts =
    let shown : Stamp = shown_stamp env.zone content.sent in
    let valid = shown_valid env.zone content.sent env.zone_in_range is.sent in
    let host : List ℕ = text_of (codes "HOST") content.pairs in
    let program : List ℕ = text_of (codes "PROGRAM") content.pairs in
    let pid : List ℕ = text_of (codes "PID") content.pairs in
    let msgid : List ℕ = text_of (codes "MSGID") content.pairs in
    let text : List ℕ = text_of (codes "MESSAGE") content.pairs in
    let names : List ℕ = field_text 255 host ++ 32 ∷ (field_text 48 program ++ 32 ∷ (field_text 128 pid ++ 32 ∷ (field_text 32 msgid ++ 32 ∷ []))) in
    let elements : List ℕ = sdata_text content.pairs in
    let ended : List ℕ = elements ++ ended_text text in
    let behind_stamp : List ℕ = field_text 255 host ++ 32 ∷ (field_text 48 program ++ 32 ∷ (field_text 128 pid ++ 32 ∷ (field_text 32 msgid ++ 32 ∷ ended))) in
    let stamp_text : List ℕ = iso_local_text (local_time shown) shown.offset env.digits in
    let stamp = stamp_read (local_time shown) shown.offset env.digits behind_stamp (shows shown valid) year.0 year.1 valid.east valid.west env.at_most_six in
    let header : List ℕ = pri_text content.pri ++ (stamp_text ++ 32 ∷ names) in
    let is_line : line_text content env ≡ header ++ (elements ++ message_text text) =
    nested (pri_text content.pri) stamp_text (field_text 255 host) (field_text 48 program) (field_text 128 pid) (field_text 32 msgid) elements (message_text text)
    ∙ in_front (pri_text content.pri) stamp_text (field_text 255 host) (field_text 48 program) (field_text 128 pid) (field_text 32 msgid) (elements ++ message_text text) in
    let whole : without_end (line_text content env) ≡ pri_text content.pri ++ (stamp_text ++ 32 ∷ behind_stamp) =
    ap without_end is_line
    ∙ (line_ended header content.pairs text
    ∙ sym (in_front (pri_text content.pri) stamp_text (field_text 255 host) (field_text 48 program) (field_text 128 pid) (field_text 32 msgid) ended)) in
    let read : ReadsSyslogMsg received peer opts (pri_text content.pri ++ (stamp_text ++ 32 ∷ behind_stamp)) (said_by received peer opts stamp.0 content) = record {
      front = record { pri = content.pri; stamp = Some stamp.0 };
      names = names_of content.pairs;
      behind_front = behind_stamp;
      behind_names = ended;
      is_front = record { behind = stamp_text ++ 32 ∷ behind_stamp; start = pri_read content.pri (stamp_text ++ 32 ∷ behind_stamp) is.pri; stamp = stamp.1 };
      are_names = names_read host program pid msgid ended;
      behind = record {
        pairs = written_pairs (filter_map item_of content.pairs);
        message = said_text text;
        rest = ended_text text;
        is_data = data_read content.pairs (ended_text text) (message_stops text);
        is_message = message_read text;
        is_content = refl;
      };
    } in
    (stamp.0, subst (λ (x : List ℕ). ReadsSyslogMsg received peer opts x (said_by received peer opts stamp.0 content)) (sym whole) read)
