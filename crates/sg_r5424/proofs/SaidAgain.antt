-- What a line says again.
use Rattle.std.proofs.Common.{◌≡◌, ℕ, Bool, true, false, cond, Option, Some, None, List, [], ◌∷◌, ◌++◌, take, codes, map, bytes_eq, unwrap_or, refl, ap, ◌∙◌, append-nil, arith}
use Rattle.std.specs.List.{AllPass, filter_map}
use Rattle.std.proofs.lemmas.List.{take_all}
use Rattle.std.proofs.lemmas.List.Elements.{All-head, All-tail}
use Rattle.sg_time.specs.declared.stamp.Stamp.{Stamp}
use Rattle.sg_msg.specs.Message.{NameValue, Content, value_of, with_all, IsAscending}
use Rattle.sg_msg.specs.Message.{IsMessage as IsContent}
use Rattle.sg_msg.specs.Build.{some_pair}
use Rattle.sg_msg.specs.Sets.{is_print}
use Rattle.sg_msg.proofs.ManyPairs.{all-ascending}
use Rattle.sg_r3164.specs.declared.opts.ReadOpts.{ReadOpts}
use Rattle.sg_r3164.specs.Options.{host_of}
use Rattle.sg_template.specs.Texts.{text_of}
use Rattle.sg_template.specs.Elements.{item_of}
use Rattle.sg_r5424.specs.Grammar.{unless_nil, without_bom}
use Rattle.sg_r5424.specs.Is5424.{message_pair}
use Rattle.sg_r5424.specs.Write.{printed, field_text}
use Rattle.sg_r5424.specs.Again.{IsFieldText, HasFieldForm, IsWholeText, data_pairs, SaysAgain}
use Rattle.sg_r5424.proofs.WrittenHeader.{some_field}
use Rattle.sg_r5424.proofs.WrittenData.{written_pairs, said_text}
use Rattle.sg_r5424.proofs.NamedValues.{last_value, value_last, last_append, AreData, last_data, data_ascending, data_all, data_append, data_itself}
use Rattle.sg_r5424.proofs.DataAgain.{written_data, data_again}
use Rattle.sg_r5424.proofs.WrittenLine.{names_of, said_by}

-- fields
print_kept : (b : ℕ) → is_print b ≡ true → printed b ≡ b
print_kept b e = rw e refl

all_kept : (value : List ℕ) → AllPass is_print value → map printed value ≡ value
all_kept [] all = refl
all_kept (b ∷ value) all =
    ap (λ (x : ℕ). x ∷ map printed value) (print_kept b (All-head (λ x. is_print x ≡ true) b value all))
    ∙ ap (λ (t : List ℕ). b ∷ t) (all_kept value (All-tail (λ x. is_print x ≡ true) b value all))

field_kept : (limit : ℕ) (value : List ℕ) → IsFieldText limit value → field_text limit value ≡ value
field_kept limit [] form = absurd (omega (arith, form.some))
field_kept limit (b ∷ value) form =
    some_field limit b value ∙ (ap (map printed) (take_all limit (b ∷ value) form.most) ∙ all_kept (b ∷ value) form.print)

unless_kept : (value : List ℕ) → bytes_eq value (codes "-") ≡ false → unless_nil value ≡ Some value
unless_kept value e = rw e refl

field_again : (limit : ℕ) (found : Option (List ℕ)) → HasFieldForm limit found → unless_nil (field_text limit (unwrap_or found [])) ≡ found
field_again limit None form = refl
field_again limit (Some value) form = ap unless_nil (field_kept limit value form) ∙ unless_kept value form.named

-- the last value of a name, part after part
parts_last : (name : List ℕ) (host : NameValue) (program pid msgid «data» : List NameValue) (message : NameValue) (others : Option (List ℕ))
    → last_value name msgid (last_value name pid (last_value name program (last_value name (host ∷ []) None))) ≡ others
    → bytes_eq (take 7 name) (codes ".SDATA.") ≡ false → AreData «data»
    → last_value name (host ∷ [] ++ program ++ pid ++ msgid ++ «data» ++ message ∷ []) None ≡ last_value name (message ∷ []) others
parts_last name host program pid msgid «data» message others e other are =
    last_append name (host ∷ [] ++ program ++ pid ++ msgid ++ «data») (message ∷ []) None
    ∙ ap (last_value name (message ∷ []))
    (last_append name (host ∷ [] ++ program ++ pid ++ msgid) «data» None
    ∙ (ap (last_value name «data»)
    (last_append name (host ∷ [] ++ program ++ pid) msgid None
    ∙ (ap (last_value name msgid)
    (last_append name (host ∷ [] ++ program) pid None
    ∙ ap (last_value name pid) (last_append name (host ∷ []) program None))
    ∙ e))
    ∙ last_data name «data» others other are))

other_one : (name other : List ℕ) (value : Option (List ℕ)) (found : Option (List ℕ)) → bytes_eq other name ≡ false → last_value name (some_pair other value) found ≡ found
other_one name other None found e = refl
other_one name other (Some value) found e = ap (λ (t : Bool). cond t (Some value) found) e

program_one : (value : Option (List ℕ)) → last_value (codes "PROGRAM") (some_pair (codes "PROGRAM") value) None ≡ value
program_one None = refl
program_one (Some value) = refl

pid_one : (value : Option (List ℕ)) → last_value (codes "PID") (some_pair (codes "PID") value) None ≡ value
pid_one None = refl
pid_one (Some value) = refl

msgid_one : (value : Option (List ℕ)) → last_value (codes "MSGID") (some_pair (codes "MSGID") value) None ≡ value
msgid_one None = refl
msgid_one (Some value) = refl

abbrev put_by : List ℕ → Option (List ℕ) → Option (List ℕ) → Option (List ℕ) → List NameValue → List ℕ → List NameValue
put_by host program pid msgid «data» text =
    (record { name = codes "HOST"; value = host }) ∷ [] ++ some_pair (codes "PROGRAM") program ++ some_pair (codes "PID") pid
    ++ some_pair (codes "MSGID") msgid ++ «data» ++ message_pair text ∷ []

module _ (host : List ℕ) (program pid msgid : Option (List ℕ)) («data» : List NameValue) (text : List ℕ) (are : AreData «data») where
  host_said : value_of (codes "HOST") (with_all (put_by host program pid msgid «data» text) []) ≡ Some host
  host_said =
      value_last (codes "HOST") (put_by host program pid msgid «data» text) []
      ∙ parts_last (codes "HOST") (record { name = codes "HOST"; value = host }) (some_pair (codes "PROGRAM") program) (some_pair (codes "PID") pid) (some_pair (codes "MSGID") msgid) «data» (message_pair text) (Some host)
      (other_one (codes "HOST") (codes "MSGID") msgid (last_value (codes "HOST") (some_pair (codes "PID") pid) (last_value (codes "HOST") (some_pair (codes "PROGRAM") program) (Some host))) refl
      ∙ (other_one (codes "HOST") (codes "PID") pid (last_value (codes "HOST") (some_pair (codes "PROGRAM") program) (Some host)) refl
      ∙ other_one (codes "HOST") (codes "PROGRAM") program (Some host) refl)) refl are

  program_said : value_of (codes "PROGRAM") (with_all (put_by host program pid msgid «data» text) []) ≡ program
  program_said =
      value_last (codes "PROGRAM") (put_by host program pid msgid «data» text) []
      ∙ parts_last (codes "PROGRAM") (record { name = codes "HOST"; value = host }) (some_pair (codes "PROGRAM") program) (some_pair (codes "PID") pid) (some_pair (codes "MSGID") msgid) «data» (message_pair text) program
      (other_one (codes "PROGRAM") (codes "MSGID") msgid (last_value (codes "PROGRAM") (some_pair (codes "PID") pid) (last_value (codes "PROGRAM") (some_pair (codes "PROGRAM") program) None)) refl
      ∙ (other_one (codes "PROGRAM") (codes "PID") pid (last_value (codes "PROGRAM") (some_pair (codes "PROGRAM") program) None) refl
      ∙ program_one program)) refl are

  pid_said : value_of (codes "PID") (with_all (put_by host program pid msgid «data» text) []) ≡ pid
  pid_said =
      value_last (codes "PID") (put_by host program pid msgid «data» text) []
      ∙ parts_last (codes "PID") (record { name = codes "HOST"; value = host }) (some_pair (codes "PROGRAM") program) (some_pair (codes "PID") pid) (some_pair (codes "MSGID") msgid) «data» (message_pair text) pid
      (other_one (codes "PID") (codes "MSGID") msgid (last_value (codes "PID") (some_pair (codes "PID") pid) (last_value (codes "PID") (some_pair (codes "PROGRAM") program) None)) refl
      ∙ (ap (last_value (codes "PID") (some_pair (codes "PID") pid)) (other_one (codes "PID") (codes "PROGRAM") program None refl)
      ∙ pid_one pid)) refl are

  msgid_said : value_of (codes "MSGID") (with_all (put_by host program pid msgid «data» text) []) ≡ msgid
  msgid_said =
      value_last (codes "MSGID") (put_by host program pid msgid «data» text) []
      ∙ parts_last (codes "MSGID") (record { name = codes "HOST"; value = host }) (some_pair (codes "PROGRAM") program) (some_pair (codes "PID") pid) (some_pair (codes "MSGID") msgid) «data» (message_pair text) msgid
      (ap (last_value (codes "MSGID") (some_pair (codes "MSGID") msgid))
      (other_one (codes "MSGID") (codes "PID") pid (last_value (codes "MSGID") (some_pair (codes "PROGRAM") program) None) refl
      ∙ other_one (codes "MSGID") (codes "PROGRAM") program None refl)
      ∙ msgid_one msgid) refl are

  text_said : value_of (codes "MESSAGE") (with_all (put_by host program pid msgid «data» text) []) ≡ Some text
  text_said =
      value_last (codes "MESSAGE") (put_by host program pid msgid «data» text) []
      ∙ last_append (codes "MESSAGE") ((record { name = codes "HOST"; value = host }) ∷ [] ++ some_pair (codes "PROGRAM") program ++ some_pair (codes "PID") pid ++ some_pair (codes "MSGID") msgid ++ «data») (message_pair text ∷ []) None

-- structured data
no_data : (name : List ℕ) (value : Option (List ℕ)) → bytes_eq (take 7 name) (codes ".SDATA.") ≡ false → data_pairs (some_pair name value) ≡ []
no_data name None e = refl
no_data name (Some value) e = rw e refl

only_data : (host : List ℕ) (program pid msgid : Option (List ℕ)) («data» : List NameValue) (text : List ℕ) → AreData «data» → data_pairs (put_by host program pid msgid «data» text) ≡ «data»
only_data host program pid msgid «data» text are =
    let first : List NameValue = (record { name = codes "HOST"; value = host }) ∷ [] in
    let p : List NameValue = some_pair (codes "PROGRAM") program in
    let i : List NameValue = some_pair (codes "PID") pid in
    let g : List NameValue = some_pair (codes "MSGID") msgid in
    let names : data_pairs (first ++ p ++ i ++ g) ≡ [] =
    data_append (first ++ p ++ i) g
    ∙ (ap (λ (l : List NameValue). l ++ data_pairs g)
    (data_append (first ++ p) i
    ∙ (ap (λ (l : List NameValue). l ++ data_pairs i) (data_append first p ∙ no_data (codes "PROGRAM") program refl)
    ∙ no_data (codes "PID") pid refl))
    ∙ no_data (codes "MSGID") msgid refl) in
    data_append (first ++ p ++ i ++ g ++ «data») (message_pair text ∷ [])
    ∙ (append-nil (data_pairs (first ++ p ++ i ++ g ++ «data»))
    ∙ (data_append (first ++ p ++ i ++ g) «data»
    ∙ (ap (λ (l : List NameValue). l ++ data_pairs «data») names ∙ data_itself «data» are)))

data_said : (host : List ℕ) (program pid msgid : Option (List ℕ)) («data» pairs : List NameValue) (text : List ℕ) → AreData «data» → IsAscending pairs → «data» ≡ data_pairs pairs
    → data_pairs (with_all (put_by host program pid msgid «data» text) []) ≡ data_pairs pairs
data_said host program pid msgid «data» pairs text are up same =
    data_all (put_by host program pid msgid «data» text) [] tt
    ∙ (ap (λ (l : List NameValue). with_all l []) (only_data host program pid msgid «data» text are ∙ same)
    ∙ all-ascending (data_pairs pairs) (data_ascending pairs up))

-- HOST
host_kept : (opts : ReadOpts) (peer value : List ℕ) → opts.keep_hostname ≡ true → host_of opts (Some value) peer ≡ value
host_kept opts peer value keep = rw keep refl

-- MESSAGE
text_kept : (text : List ℕ) → IsWholeText text → said_text text ≡ text
text_kept [] whole = refl
text_kept (b ∷ text) whole = ap without_bom whole.end ∙ whole.front

pub says_again : (content : Content) → IsContent content → (received : Stamp) (peer : List ℕ) (opts : ReadOpts) (stamp : Stamp) → SaysAgain opts content (said_by received peer opts stamp content)
says_again content is received peer opts stamp =
    let names = names_of content.pairs in
    let host : List ℕ = host_of opts (unless_nil names.host) peer in
    let program : Option (List ℕ) = unless_nil names.program in
    let pid : Option (List ℕ) = unless_nil names.pid in
    let msgid : Option (List ℕ) = unless_nil names.msgid in
    let «data» : List NameValue = written_pairs (filter_map item_of content.pairs) in
    let text : List ℕ = said_text (text_of (codes "MESSAGE") content.pairs) in
    let are = written_data (filter_map item_of content.pairs) in
    record {
      pri = refl;
      host = λ keep value found form.
          host_said host program pid msgid «data» text are
          ∙ ap (λ (v : List ℕ). Some v)
          (ap (λ (o : Option (List ℕ)). host_of opts (unless_nil (field_text 255 (unwrap_or o []))) peer) found
          ∙ (ap (λ (o : Option (List ℕ)). host_of opts o peer) (field_again 255 (Some value) form) ∙ host_kept opts peer value keep));
      program = λ form. program_said host program pid msgid «data» text are ∙ field_again 48 (value_of (codes "PROGRAM") content.pairs) form;
      pid = λ form. pid_said host program pid msgid «data» text are ∙ field_again 128 (value_of (codes "PID") content.pairs) form;
      msgid = λ form. msgid_said host program pid msgid «data» text are ∙ field_again 32 (value_of (codes "MSGID") content.pairs) form;
      text = λ whole. text_said host program pid msgid «data» text are ∙ ap (λ (v : List ℕ). Some v) (text_kept (text_of (codes "MESSAGE") content.pairs) whole);
      structured = λ keeps. data_said host program pid msgid «data» content.pairs text are is.ascending (data_again content.pairs keeps);
    }
