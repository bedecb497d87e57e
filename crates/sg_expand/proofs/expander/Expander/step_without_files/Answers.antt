use Rattle.std.proofs.lemmas.Result.{err_from_is_err_and}
use Rattle.sg_expand.specs.Expansion.{front}
use Rattle.sg_expand.specs.Machine.{state_of}
use Rattle.sg_expand.proofs.Including.{does-free}
use Rattle.sg_expand.proofs.expander.Expander.step_without_files.Goals as goal

pub returns-in_err-defined : goal.returns-in_err-defined
returns-in_err-defined c =
    let p = err_from_is_err_and c.from_residual.result c.from_residual.ensures.1 in
    rw (p.1, p.2) (does-free (front c.args.rest.context c.args.rest.fresh c.args.rest.tokens (state_of c.args.self.now)) c.args.rest.context c.args.self.now c.args.self.now)
