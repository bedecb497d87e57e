use Rattle.std.proofs.Common.{arith}
use Rattle.sg_r5424.specs.Spans.{span_text}
use Rattle.sg_r5424.proofs.HeaderLemmas.{no_program, no_pid, no_msgid}
use Rattle.sg_r5424.proofs.SpanLemmas.{ends-field}
use Rattle.sg_r5424.proofs.header.take_names.Goals as goal

pub returns-in_default-clause-names : goal.returns-in_default-clause-names
returns-in_default-clause-names c = λ item whole ends.
    let never = c.in_default.ensures.field item whole ends in
    (λ names rest h. never.0 names.host h.behind_host h.host, never.1)

pub returns-in_default-take_field-clause-names : goal.returns-in_default-take_field-clause-names
returns-in_default-take_field-clause-names c = λ item whole ends.
    let text = c.args.text.now in
    let first = c.take_field.new.text in
    let host_text = span_text item c.in-Some.host in
    let host = c.in-Some.ensures.field item whole ends in
    let behind_host = ends-field item text 255 host_text first host.0 ends in
    let never = c.in_default-take_field.ensures.field item whole behind_host in
    let shorter = host.1 in
    let left = never.1 in
    (no_program text host_text first host.0 never.0, omega (arith, shorter, left))

pub returns-in_default-take_field-2-clause-names : goal.returns-in_default-take_field-2-clause-names
returns-in_default-take_field-2-clause-names c = λ item whole ends.
    let text = c.args.text.now in
    let first = c.take_field.new.text in
    let host_text = span_text item c.in-Some.host in
    let host = c.in-Some.ensures.field item whole ends in
    let behind_host = ends-field item text 255 host_text first host.0 ends in
    let second = c.take_field-2.new.text in
    let program_text = span_text item c.in-Some-take_field.program in
    let program = c.in-Some-take_field.ensures.field item whole behind_host in
    let behind_program = ends-field item first 48 program_text second program.0 behind_host in
    let never = c.in_default-take_field-2.ensures.field item whole behind_program in
    let shorter = host.1 in
    let shorter_yet = program.1 in
    let left = never.1 in
    (no_pid text host_text first program_text second host.0 program.0 never.0, omega (arith, shorter, shorter_yet, left))

pub returns-in_default-take_field-3-clause-names : goal.returns-in_default-take_field-3-clause-names
returns-in_default-take_field-3-clause-names c = λ item whole ends.
    let text = c.args.text.now in
    let first = c.take_field.new.text in
    let host_text = span_text item c.in-Some.host in
    let host = c.in-Some.ensures.field item whole ends in
    let behind_host = ends-field item text 255 host_text first host.0 ends in
    let second = c.take_field-2.new.text in
    let program_text = span_text item c.in-Some-take_field.program in
    let program = c.in-Some-take_field.ensures.field item whole behind_host in
    let behind_program = ends-field item first 48 program_text second program.0 behind_host in
    let third = c.take_field-3.new.text in
    let pid_text = span_text item c.in-Some-take_field-2.pid in
    let pid = c.in-Some-take_field-2.ensures.field item whole behind_program in
    let behind_pid = ends-field item second 128 pid_text third pid.0 behind_program in
    let never = c.in_default-take_field-3.ensures.field item whole behind_pid in
    let shorter = host.1 in
    let shorter_yet = program.1 in
    let shortest = pid.1 in
    let left = never.1 in (
      no_msgid text host_text first program_text second pid_text third host.0 program.0 pid.0 never.0,
      omega (arith, shorter, shorter_yet, shortest, left),
    )

pub returns-clause-names : goal.returns-clause-names
returns-clause-names c = λ item whole ends.
    let text = c.args.text.now in
    let first = c.take_field.new.text in
    let host_text = span_text item c.in-Some.host in
    let host = c.in-Some.ensures.field item whole ends in
    let behind_host = ends-field item text 255 host_text first host.0 ends in
    let second = c.take_field-2.new.text in
    let program_text = span_text item c.in-Some-take_field.program in
    let program = c.in-Some-take_field.ensures.field item whole behind_host in
    let behind_program = ends-field item first 48 program_text second program.0 behind_host in
    let third = c.take_field-3.new.text in
    let pid_text = span_text item c.in-Some-take_field-2.pid in
    let pid = c.in-Some-take_field-2.ensures.field item whole behind_program in
    let behind_pid = ends-field item second 128 pid_text third pid.0 behind_program in
    let msgid = c.in-Some-take_field-3.ensures.field item whole behind_pid in
    let shorter = host.1 in
    let shorter_yet = program.1 in
    let shortest = pid.1 in
    let left = msgid.1 in (
      record { behind_host = first; behind_program = second; behind_pid = third; host = host.0; program = program.0; pid = pid.0; msgid = msgid.0 },
      omega (arith, shorter, shorter_yet, shortest, left),
    )

pub take_field-requires-2 : goal.take_field-requires-2
take_field-requires-2 c = omega (arith, c.requires, c.take_field.ensures.shorter)

pub take_field-requires-3 : goal.take_field-requires-3
take_field-requires-3 c = omega (arith, c.requires, c.take_field.ensures.shorter, c.take_field-2.ensures.shorter)

pub take_field-requires-4 : goal.take_field-requires-4
take_field-requires-4 c = omega (arith, c.requires, c.take_field.ensures.shorter, c.take_field-2.ensures.shorter, c.take_field-3.ensures.shorter)
