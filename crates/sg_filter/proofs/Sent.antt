-- A filter may go to another thread.
use denote.Param.Send.{IsSend, sendable, struct_send, enum_send, recorded_send}
use denote.Struct.Declared.{shape}
use denote.Enum.Declared as choice
use Rattle.std.proofs.Crossing as heap
use Rattle.sg_device.proofs.name.Name.TheSendSync as name
use Rattle.sg_template.proofs.template.Template.TheSendSync as template
use Rattle.sqlite_items.proofs.items.Items.TheSendSync as items
use Rattle.sg_pattern.proofs.SentHere.{matcher}
use Rattle.sg_filter.proofs.check.TextRoom.TheSendSync as room
use Rattle.sg_filter.specs.contracts.check.FieldSearch as Search
use Rattle.sg_filter.specs.contracts.check.Predicate as Check
use Rattle.sg_filter.specs.contracts.node.Node as Node
use Rattle.sg_filter.specs.contracts.filter.Filter as Filter
use Rattle.sg_filter.specs.contracts.filter.Filter.TheInside as inside

ruleset parts = (heap.crosses, sendable, name.the_send, items.the_send, room.the_send, room.the_field_send)

found : IsSend Search.the_field.row
found = struct_send (shape Search.the_type) (name.the_send, (matcher, tt))

check : IsSend Check.the_field.row
check = enum_send (choice.shape Check.the_type)
    ((search parts depth 30 fits 20000, tt), ((search parts depth 30 fits 20000, tt), ((found, tt), ((search parts depth 30 fits 20000, tt), ((template.the_send, (search parts depth 30 fits 20000, (template.the_send, tt))), tt)))))

node : IsSend Node.the_field.row
node = struct_send (shape Node.the_type) (check, (search parts depth 30 fits 20000, (search parts depth 30 fits 20000, tt)))

node_row : IsSend Node.the_row
node_row = recorded_send Node.the_field.row _ _ Node.the_type.to_one node

fields : IsSend inside.the_row
fields = recorded_send inside.the_field.row _ _ inside.the_type.to_one
    (struct_send (shape inside.the_type) (search (node_row, node, parts) depth 30 fits 20000, (search parts depth 30 fits 20000, (search parts depth 30 fits 20000, tt))))

pub filter : IsSend Filter.the_row
filter = search (fields, sendable) depth 30 fits 20000
