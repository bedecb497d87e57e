use Rattle.std.proofs.Common.{◌≡◌, ◌+◌, ◌-◌, ℕ, List, ◌++◌, length, drop, ap, subst, sym, ◌∙◌, arith}
use Rattle.std.proofs.lemmas.List.{drop-drop}
use Rattle.sg_msg.specs.Build.{Build, built}
use Rattle.sg_msg.specs.Message.{NameValue}
use Rattle.sg_r5424.specs.Is5424.{name_pairs, put_in_order}
use Rattle.sg_r5424.specs.Spans.{names_said, AreNamesWithin}
use Rattle.sg_r5424.specs.Grammar.{IsMsgPart}
use Rattle.sg_r5424.proofs.ReadingLemmas.{no_message}
use Rattle.sg_r5424.proofs.EndLemmas.{ends-data}
use Rattle.sg_r5424.proofs.PairOrder.{in_order_same}
use Rattle.sg_r5424.proofs.reading.read_behind.Goals as goal

pub returns-in_default : goal.returns-in_default
returns-in_default c =
    let «data» = rw c.if-not-branch.false at c.in_ok-take_data.ensures in
    let shorter = «data».1.2 in (
      no_message (record c.args.builder { put = name_pairs c.args.opts.now c.args.peer.now (names_said c.args.builder.item c.args.names) }) c.args.text.now «data».0 c.take_data.new.text «data».1.0
          (λ message h. c.in_default.ensures.said message (subst (λ (x : List ℕ). IsMsgPart x message) (sym c.as_slice.ensures) h)),
      shorter,
    )

pub returns : goal.returns
returns c =
    let «data» = rw c.if-not-branch.false at c.in_ok-take_data.ensures in
    let before = c.args.builder in
    let item = before.item in
    let new = c.take_data.new.text in
    let at = c.in-Some.at in
    let opts = c.args.opts.now in
    let peer = c.args.peer.now in
    let names = names_said item c.args.names in
    let ends = ends-data item c.args.text.now «data».0 new «data».1.0 c.requires.ends.0 in
    let place : (c.args.end - c.len.result) + at ≡ (length item - length new) + at = omega (arith, c.requires.ends.1, c.len.ensures.value) in
    let said : drop ((c.args.end - c.len.result) + at) item ≡ drop at new =
    ap (λ (n : ℕ). drop n item) place ∙ sym (drop-drop at (length item - length new) item) ∙ ap (λ (t : List ℕ). drop at t) (sym ends.rest) in
    let from = (c.args.end - c.len.result) + at in
    record {
      pairs = «data».0;
      message = drop at new;
      rest = new;
      is_data = «data».1.0;
      is_message = subst (λ (x : List ℕ). IsMsgPart x (drop at x)) c.as_slice.ensures c.in-Some.ensures.said;
      is_content =
          c.in_ok-message.ensures
          ∙ ap built c.in_ok-put_names.ensures
          ∙ ap (λ (x : Build). built (record x { put = put_in_order opts peer (names_said x.item c.args.names) (drop from x.item) x.put })) «data».1.1
          ∙ ap (λ (put : List NameValue). built (record before { put = put_in_order opts peer names (drop from item) (put ++ «data».0) })) c.requires.none
          ∙ ap (λ (t : List ℕ). built (record before { put = put_in_order opts peer names t «data».0 })) said
          ∙ ap (λ (all : List NameValue). record (built before) { pairs = all }) (sym (in_order_same opts peer names (drop at new) c.args.text.now «data».0 new «data».1.0));
    }

pub put_names-requires-clause-names : goal.put_names-requires-clause-names
put_names-requires-clause-names c =
    let «data» = rw c.if-not-branch.false at c.in_ok-take_data.ensures in
    let same = ap (λ (b : Build). b.item) «data».1.1 in
    subst (λ (n : ℕ). AreNamesWithin n c.args.names) (sym c.requires.ends.1 ∙ sym (ap length same)) c.requires.names

pub put_names-requires-clause-from : goal.put_names-requires-clause-from
put_names-requires-clause-from c =
    let «data» = rw c.if-not-branch.false at c.in_ok-take_data.ensures in
    let same = ap (λ (b : Build). b.item) «data».1.1 in
    let shorter = c.requires.ends.0.shorter in
    let less = «data».1.2 in
    (omega (arith, c.requires.ends.1, c.len.ensures.value, c.in-Some.ensures.within, ap length c.as_slice.ensures, shorter, less), sym (ap length same ∙ c.requires.ends.1))
