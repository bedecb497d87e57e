-- The message of a record whose parts were found by their places.
use Rattle.std.proofs.Common.{◌≡◌, ◌+◌, ◌-◌, ℕ, Bool, true, List, [], length, take, drop, Option, option_map, is_some, Result, Ok, Err, IfOk, sym, ap, subst, ◌∙◌}
use Rattle.std.proofs.lemmas.List.{drop-drop, take_rest}
use Rattle.sg_time.specs.declared.stamp.Stamp.{Stamp}
use Rattle.sg_msg.specs.Message.{NameValue, Content, with_all}
use Rattle.sg_msg.specs.Priority.{priority}
use Rattle.sg_r3164.specs.declared.opts.ReadOpts.{ReadOpts}
use Rattle.sg_r3164.specs.Options.{sent_of, host_of}
use Rattle.sg_r3164.specs.Parts.{tag, program_of, pid_of, behind_tag}
use Rattle.sg_r3164.specs.Places.{part_at}
use Rattle.sg_r3164.specs.Read3164.{FindsStamp, ReadsAs, pri_of, behind_pri, behind_stamp, host_behind, behind_host, parts, pairs_behind_stamp}

-- what follows from what a call that succeeds says
pub if-ok : {T E : Type 0} {P Q : T → Type 0} (r : Result T E) → ((x : T) → P x → Q x) → IfOk r P → IfOk r Q
if-ok (Ok x) f h = f x h
if-ok (Err e) f h = tt

abbrev pub content_of : ℕ → Stamp → Stamp → List NameValue → Content
content_of pri sent received put = record { pri = pri; sent = sent; received = received; pairs = with_all put []; tags = [] }

abbrev pub parts_at : ReadOpts → List ℕ → List ℕ → Option (ℕ × ℕ) → Option (ℕ × ℕ) → Option (ℕ × ℕ) → ℕ → List NameValue
parts_at opts peer text host program pid said = parts (host_of opts (part_at text host) peer) (part_at text program) (part_at text pid) (drop said text)

module _ (opts : ReadOpts) (received : Stamp) (peer text : List ℕ) (found : Option (Stamp × ℕ)) (a b behind said : ℕ) (stamped : Bool) (host program pid : Option (ℕ × ℕ))
    (at_pri : drop a text ≡ behind_pri (priority text) text)
    (is_stamped : stamped ≡ is_some found)
    (at_stamp : drop b (take (length text - a) (drop a text)) ≡ behind_stamp found (take (length text - a) (drop a text)))
    (has_host : part_at text host ≡ option_map (λ len. take len (drop (a + b) text)) (host_behind stamped (drop (a + b) text)))
    (at_host : drop behind text ≡ behind_host (host_behind stamped (drop (a + b) text)) (drop (a + b) text))
    (has_program : part_at text program ≡ program_of (tag (drop behind text)) (drop behind text))
    (has_pid : part_at text pid ≡ pid_of (tag (drop behind text)) (drop behind text))
    (at_tag : drop said text ≡ behind_tag (tag (drop behind text)) (drop behind text))
  where
    abbrev front : List ℕ
    front = behind_pri (priority text) text

    abbrev later : List ℕ
    later = behind_stamp found front

    pub slice-is : take (length text - a) (drop a text) ≡ front
    slice-is = take_rest text a ∙ at_pri

    later-is : drop (a + b) text ≡ later
    later-is =
        sym (drop-drop b a text) ∙ ap (λ (t : List ℕ). drop b t) at_pri
        ∙ subst (λ (t : List ℕ). drop b t ≡ behind_stamp found t) slice-is at_stamp

    abbrev tagged : List ℕ
    tagged = behind_host (host_behind stamped later) later

    tagged-is : drop behind text ≡ tagged
    tagged-is = subst (λ (t : List ℕ). drop behind text ≡ behind_host (host_behind stamped t) t) later-is at_host

    host-is : part_at text host ≡ option_map (λ len. take len later) (host_behind stamped later)
    host-is = subst (λ (t : List ℕ). part_at text host ≡ option_map (λ len. take len t) (host_behind stamped t)) later-is has_host

    pub pairs-are : parts_at opts peer text host program pid said ≡ pairs_behind_stamp opts peer (is_some found) later
    pairs-are =
        let kept : List ℕ = host_of opts (option_map (λ len. take len later) (host_behind stamped later)) peer in
        ap (λ (h : Option (List ℕ)). parts (host_of opts h peer) (part_at text program) (part_at text pid) (drop said text)) host-is
        ∙ ap (λ (p : Option (List ℕ)). parts kept p (part_at text pid) (drop said text)) (subst (λ (t : List ℕ). part_at text program ≡ program_of (tag t) t) tagged-is has_program)
        ∙ ap (λ (p : Option (List ℕ)). parts kept (program_of (tag tagged) tagged) p (drop said text)) (subst (λ (t : List ℕ). part_at text pid ≡ pid_of (tag t) t) tagged-is has_pid)
        ∙ ap (λ (t : List ℕ). parts kept (program_of (tag tagged) tagged) (pid_of (tag tagged) tagged) t) (subst (λ (t : List ℕ). drop said text ≡ behind_tag (tag t) t) tagged-is at_tag)
        ∙ ap (λ (s : Bool). pairs_behind_stamp opts peer s later) is_stamped

    pub parsed-is : (pri : ℕ) (sent : Stamp) (content : Content) → pri ≡ pri_of (priority text) opts.pri → sent ≡ sent_of opts (option_map (λ stamp. stamp.0) found) received
        → FindsStamp (take (length text - a) (drop a text)) received found → content ≡ content_of pri sent received (parts_at opts peer text host program pid said) → ReadsAs true opts received peer text content
    parsed-is pri sent content has_pri has_sent finds is = (
      found,
      (
        subst (λ (t : List ℕ). FindsStamp t received found) slice-is finds,
        is
            ∙ ap (λ (p : ℕ). content_of p sent received (parts_at opts peer text host program pid said)) has_pri
            ∙ ap (λ (s : Stamp). content_of (pri_of (priority text) opts.pri) s received (parts_at opts peer text host program pid said)) has_sent
            ∙ ap (λ (ps : List NameValue). content_of (pri_of (priority text) opts.pri) (sent_of opts (option_map (λ stamp. stamp.0) found) received) received ps) pairs-are,
      ),
    )
