use Rattle.std.proofs.Common.{ℕ, List, length, sym, ap, ◌∙◌, arith, subst}
use Rattle.sg_msg.specs.Build.{Build}
use Rattle.sg_r5424.specs.Is5424.{header_build, name_pairs, Behind, TryReads}
use Rattle.sg_r5424.specs.Spans.{names_said, EndsItem}
use Rattle.sg_r5424.proofs.ReadingLemmas.{no_names, reads_tried}
use Rattle.sg_r5424.proofs.EndLemmas.{ends-whole, ends-header, ends-names, tried-of}
use Rattle.sg_r5424.proofs.reading.read_record.Goals as goal

pub returns-in_default : goal.returns-in_default
returns-in_default c = (
  λ content h. c.in_default.ensures.front.0 h.front h.behind_front h.is_front,
  c.in_default.ensures.front.1,
)

pub returns-in_default-take_names : goal.returns-in_default-take_names
returns-in_default-take_names c =
    let text = c.args.text.now in
    let front = c.in-Some.ensures.front in
    let ends = ends-header text text c.in-Some.front c.take_front.new.text front.0 (ends-whole text) in
    let whole = sym (c.len-end.ensures.value ∙ ap length c.in_ok-item.ensures.cases) in
    let never = c.in_default-take_names.ensures.names text whole ends in
    let left = never.1 in
    let shorter = front.1 in (
      no_names c.args.received c.args.peer.now c.args.opts.now text c.in-Some.front c.take_front.new.text front.0 never.0,
      omega (arith, left, shorter),
    )

pub returns : goal.returns
returns c =
    let text = c.args.text.now in
    let front = c.in-Some.ensures.front in
    let ends = ends-header text text c.in-Some.front c.take_front.new.text front.0 (ends-whole text) in
    let whole = sym (c.len-end.ensures.value ∙ ap length c.in_ok-item.ensures.cases) in
    let said = names_said text c.in-Some-take_names.names in
    let names = c.in-Some-take_names.ensures.names text whole ends in
    let shorter = front.1 in
    let left = names.1 in
    let behind = c.take_names.new.text in
    let header = header_build c.args.received c.args.peer.now c.args.opts.now c.in-Some.front in
    let spans = c.in-Some-take_names.names in
    let built =
    ap (λ (b : Build). record b { put = name_pairs c.args.opts.now c.args.peer.now (names_said b.item spans) }) c.in_ok-builder.ensures
    ∙ ap (λ (i : List ℕ). record (header (names_said i spans)) { item = i }) c.in_ok-item.ensures.cases in
    reads_tried c.args.received c.args.peer.now c.args.opts.now text c.in-Some.front c.take_front.new.text said behind c.read_behind.new.text c.read_behind.result front.0 names.0 (omega (arith, shorter, left))
    (tried-of (header said) text behind c.read_behind.new.text c.read_behind.result
    (subst (λ (x : Build). TryReads (Behind x behind) behind c.read_behind.new.text c.read_behind.result) built c.read_behind.ensures))

pub take_names-requires : goal.take_names-requires
take_names-requires c =
    let shorter = c.in-Some.ensures.front.1 in
    omega (arith, shorter, c.len-end.ensures.value, ap length c.in_ok-item.ensures.cases)

pub read_behind-requires-clause-ends : goal.read_behind-requires-clause-ends
read_behind-requires-clause-ends c =
    let text = c.args.text.now in
    let front = c.in-Some.ensures.front in
    let ends = ends-header text text c.in-Some.front c.take_front.new.text front.0 (ends-whole text) in
    let same = c.in_ok-item.ensures.cases in
    let whole = sym (c.len-end.ensures.value ∙ ap length same) in
    let said = names_said text c.in-Some-take_names.names in
    let names = c.in-Some-take_names.ensures.names text whole ends in
    let left = ends-names text c.take_front.new.text said c.take_names.new.text names.0 ends in
    let item = ap (λ (b : Build). b.item) c.in_ok-builder.ensures in
    (subst (λ (i : List ℕ). EndsItem i c.take_names.new.text) (sym (item ∙ same)) left, ap length item ∙ sym c.len-end.ensures.value)

pub read_behind-requires-clause-none : goal.read_behind-requires-clause-none
read_behind-requires-clause-none c = ap (λ (b : Build). b.put) c.in_ok-builder.ensures

pub read_behind-requires-clause-names : goal.read_behind-requires-clause-names
read_behind-requires-clause-names c = c.in-Some-take_names.ensures.within
