-- Messages that came out, as a list.
use Rattle.std.specs.Prelude.{List, [], ◌∷◌}
use Rattle.sg_msg.specs.Message.{Content}
use Rattle.sg_pipes.specs.declared.messages.Messages.{Messages}
use Rattle.sg_pipes.specs.declared.messages.Messages.TheVariants.{Empty, One, Many}

abbrev pub messages_of : Messages → List Content
messages_of Empty = []
messages_of (One message) = message ∷ []
messages_of (Many messages) = messages.items
