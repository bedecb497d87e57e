-- A rewrite may go to another thread.
use denote.Param.Send.{IsSend, sendable, struct_send, enum_send, recorded_send}
use denote.Struct.Declared.{shape}
use denote.Enum.Declared as choice
use Rattle.sg_device.proofs.name.Name.TheSendSync as name
use Rattle.sg_device.specs.contracts.name.Name as Name
use Rattle.sg_list.proofs.seq.Seq.TheSendSync as seq
use Rattle.sg_list.specs.contracts.seq.Seq as Seq
use Rattle.std.proofs.Crossing as heap
use Rattle.bytes.proofs.shared.Bytes.TheSendSync as bytes
use Rattle.sg_rewrite.proofs.text.RewriteText.TheSendSync as text
use Rattle.sg_rewrite.proofs.rewrite.Buffers.TheSendSync as buffers
use Rattle.sg_rewrite.specs.contracts.change.Substitution as Search
use Rattle.sg_rewrite.specs.contracts.change.Change as Change
use Rattle.sg_rewrite.specs.contracts.rewrite.Rewrite as Rewrite
use Rattle.sg_rewrite.specs.contracts.rewrite.Rewrite.TheInside as inside
use Rattle.sg_pattern.proofs.SentHere.{matcher}

ruleset parts = (heap.crosses, sendable, name.the_send, bytes.the_send, seq.the_send, text.the_send, buffers.the_send, buffers.the_field_send)

names : IsSend (Seq.the_row Name.the_row)
names = search parts depth 30 fits 20000

search_parts : IsSend Search.the_field.row
search_parts = struct_send (shape Search.the_type) (search parts depth 30 fits 20000, (matcher, (text.the_send, tt)))

change : IsSend Change.the_field.row
change = enum_send (choice.shape Change.the_type)
    ((search parts depth 30 fits 20000, (text.the_send, tt)), ((name.the_send, tt), ((search_parts, tt), ((names, (text.the_send, tt)), ((names, tt), ((name.the_send, tt), ((name.the_send, tt), tt)))))))

fields : IsSend inside.the_row
fields = recorded_send inside.the_field.row _ _ inside.the_type.to_one
    (struct_send (shape inside.the_type) (change, (search parts depth 30 fits 20000, tt)))

pub rewrite : IsSend Rewrite.the_row
rewrite = search (fields, sendable) depth 30 fits 20000
