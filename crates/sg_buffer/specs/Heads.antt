-- Entries without their messages.
use Rattle.sg_msg.specs.Length.{encoded_len}
use Rattle.sg_codec.specs.declared.kept.Kept.{Kept}
use Rattle.sg_buffer.specs.declared.found.EntryHead.{EntryHead}

abbrev pub head_of : Kept → EntryHead
head_of kept = record {
  source = kept.source;
  end = kept.end;
  flow = kept.flow;
  length = encoded_len kept.message;
}
