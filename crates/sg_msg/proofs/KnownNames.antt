-- Known names are names that a pair may have.
use Rattle.std.proofs.Common.{refl, arith}
use Rattle.sg_msg.specs.Macros.{is_hard, date_macros, other_macros}
use Rattle.sg_msg.specs.Message.{IsPairName}
use Rattle.sg_msg.specs.Build.{name_of, MayName}
use Rattle.sg_msg.specs.declared.builder.PairName.{PairName}
use Rattle.sg_msg.specs.declared.builder.PairName.TheVariants.{Host, Program, Pid, MessageId, Message, Other}

pub named : (name : PairName) → MayName name → IsPairName (name_of name)
unfolding is_hard date_macros other_macros
named Host may = (omega arith, omega arith, refl)
named Program may = (omega arith, omega arith, refl)
named Pid may = (omega arith, omega arith, refl)
named MessageId may = (omega arith, omega arith, refl)
named Message may = (omega arith, omega arith, refl)
named (Other name) may = may
