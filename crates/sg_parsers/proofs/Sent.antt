-- A parser may go to another thread.
use denote.Param.Send.{IsSend, sendable, struct_send, enum_send}
use denote.Struct.Declared.{shape}
use denote.Enum.Declared as choice
use Rattle.sg_device.proofs.name.Name.TheSendSync as name
use Rattle.sg_list.proofs.seq.Seq.TheSendSync as seq
use Rattle.sg_list.specs.contracts.seq.Seq as Seq
use Rattle.sg_template.proofs.template.Template.TheSendSync as template
use Rattle.std.proofs.Crossing as heap
use Rattle.sg_parsers.proofs.key.Key.TheSendSync as key
use Rattle.sg_parsers.specs.contracts.key.Key as Key
use Rattle.sg_parsers.specs.contracts.csv.Csv as Csv
use Rattle.sg_parsers.specs.contracts.kv.Kv as Kv
use Rattle.sg_parsers.specs.contracts.parser.MessageParser as Parser
use Rattle.sg_parsers.specs.contracts.rule.ParserRule as ParserRule

ruleset parts = (heap.crosses, sendable, name.the_send, seq.the_send, key.the_send)

names : IsSend (Seq.the_row Key.the_row)
names = search parts depth 30 fits 20000

csv : IsSend Csv.the_field.row
csv = struct_send (shape Csv.the_type) (names, (name.the_send, (search parts depth 30 fits 20000, (search parts depth 30 fits 20000, tt))))

kv : IsSend Kv.the_field.row
kv = struct_send (shape Kv.the_type) (name.the_send, (name.the_send, (search parts depth 30 fits 20000, tt)))

parser : IsSend Parser.the_field.row
parser = enum_send (choice.shape Parser.the_type) ((csv, tt), ((kv, tt), tt))

pub rule : IsSend ParserRule.the_field.row
rule = struct_send (shape ParserRule.the_type) (template.the_send, (parser, tt))
