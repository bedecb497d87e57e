use Rattle.std.proofs.Common.{List, ℕ, true, sym, ap, subst, ◌∙◌}
use Rattle.sg_msg.specs.Build.{Build, built}
use Rattle.sg_r3164.specs.Read3164.{ReadsAs}
use Rattle.sg_r3164.proofs.Wholes.{if-ok, content_of, parts_at, parsed-is}
use Rattle.sg_r3164.proofs.reading.read_parsed.Goals as goal

pub returns : goal.returns
returns c =
    let opts = c.args.opts.now in
    let peer = c.args.peer.now in
    let received = c.args.received in
    let text = c.as_slice-text.result.now in
    let same = c.as_slice-text.ensures in
    let pri = c.find_pri-pri.result.0 in
    let sent = c.sent-sent.result in
    let host = c.find_host-host.result.0 in
    let behind = c.find_host-host.result.1 in
    let tagged = c.find_tagged-tagged.result in
    if-ok c.message.result
    (λ message e.
    subst (λ (t : List ℕ). ReadsAs true opts received peer t message) same
    (parsed-is opts received peer text c.find_stamp-found.result c.find_pri-pri.result.1 c.stamp_len.result behind tagged.said c.is_some.result host tagged.program tagged.pid
    c.find_pri-pri.ensures.rest c.is_some.ensures c.stamp_len.ensures.rest c.find_host-host.ensures.host c.find_host-host.ensures.rest c.find_tagged-tagged.ensures.program c.find_tagged-tagged.ensures.pid c.find_tagged-tagged.ensures.rest
    pri sent message c.find_pri-pri.ensures.value c.sent-sent.ensures.value c.find_stamp-found.ensures.found
    (e ∙ ap built c.in_ok-put_parts.ensures
    ∙ ap (λ (b : Build). built (record b { put = parts_at opts peer b.item host tagged.program tagged.pid tagged.said })) c.of_record-builder.ensures
    ∙ ap (λ (t : List ℕ). content_of pri sent received (parts_at opts peer t host tagged.program tagged.pid tagged.said)) (sym same))))
    c.message.ensures
