use Rattle.sg_expand.proofs.Lexing.{lexed-within}
use Rattle.sg_expand.proofs.expander.lex.Goals as goal

pub fault_in-requires-clause-place : goal.fault_in-requires-clause-place
fault_in-requires-clause-place c = lexed-within c.args.file c.args.text.now c.in-Err.fault c.in-Err.ensures
