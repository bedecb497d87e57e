-- A message that is being changed, and the text of which its values may be parts.
use Rattle.std.specs.Prelude.{ℕ, List}
use Rattle.sg_msg.specs.Message.{Content}

pub record Drafted : Type 0 where
  pub message : Content
  -- the text of which values may be parts
  pub text : List ℕ
