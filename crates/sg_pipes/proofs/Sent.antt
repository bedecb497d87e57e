-- A table of log paths may go to another thread.
use denote.Param.Send.{IsSend, sendable, struct_send, enum_send, recorded_send}
use denote.Struct.Declared.{shape}
use denote.Enum.Declared as choice
use Rattle.std.proofs.Crossing as heap
use Rattle.sg_filter.proofs.Sent.{filter}
use Rattle.sg_rewrite.proofs.Sent.{rewrite}
use Rattle.sg_parsers.proofs.Sent.{rule}
use Rattle.sg_table.specs.contracts.pipe.Test as Test
use Rattle.sg_r5424.proofs.names.SdNames.TheSendSync as names
use Rattle.sg_pipes.proofs.peer.Peer.TheSendSync as peer
use Rattle.sg_pipes.proofs.work.WalkWork.TheSendSync as work
use Rattle.sg_table.specs.contracts.pipe.Pipe as Pipe
use Rattle.sg_table.specs.contracts.table.Table as Table
use Rattle.sg_pipes.specs.contracts.pipes.Pipes as Pipes

ruleset parts = (heap.crosses, sendable, filter, rewrite, rule)

tests : IsSend Test.the_row
tests = search parts depth 30 fits 20000

pipe : IsSend Pipe.the_field.row
pipe = enum_send (choice.shape Pipe.the_type) (
  tt,
  (
    (filter, (search parts depth 30 fits 20000, tt)),
    (
      (search parts depth 30 fits 20000, (rewrite, (search parts depth 30 fits 20000, tt))),
      (
        (rule, (search parts depth 30 fits 20000, tt)),
        (
          (search parts depth 30 fits 20000, (search parts depth 30 fits 20000, tt)),
          ((search parts depth 30 fits 20000, (search parts depth 30 fits 20000, tt)), ((search (tests, parts) depth 30 fits 20000, (search parts depth 30 fits 20000, (search parts depth 30 fits 20000, tt))), ((search parts depth 30 fits 20000, tt), tt))),
        ),
      ),
    ),
  ),
)

table : IsSend Table.the_field.row
table = search (pipe, parts) depth 40 fits 40000

pub pipes : IsSend Pipes.the_row
pipes = recorded_send Pipes.the_field.row _ _ Pipes.the_type.to_one (struct_send (shape Pipes.the_type) (table, (work.the_field_send, (peer.the_field_send, (names.the_field_send, tt)))))
