use Rattle.std.proofs.Common.{drop}
use Rattle.std.proofs.lemmas.Result.{err_from_is_err_and}
use Rattle.sg_block.specs.Tokens.{line_at}
use Rattle.sg_expand.proofs.Including.{include-taken}
use Rattle.sg_expand.proofs.expander.Expander.include.Goals as goal

pub returns-in_err-take_file-clause-does : goal.returns-in_err-take_file-clause-does
returns-in_err-take_file-clause-does g c =
    let p = err_from_is_err_and c.from_residual-in_err-take_file.result c.from_residual-in_err-take_file.ensures.1 in
    rw (p.1, p.2) (include-taken _ c.args.rest.context c.args.rest.fresh (line_at c.args.rest.tokens 0) c.in_ok-name.name (drop 2 c.args.rest.tokens)
    c.args.self.now (g.F.Machine.state c.args.files.now) c.file_name.new.self c.take_file.new.self (g.F.Machine.state c.read.new.self) c.bytes.result.now c.in-Ok.text c.deref.result.now c.line-line.result _
    c.in_ok-name.ensures.value c.bytes.ensures c.in-Ok.ensures c.deref.ensures.value c.line-line.ensures c.in_err-take_file.ensures)

pub returns-clause-does : goal.returns-clause-does
returns-clause-does g c =
    include-taken _ c.args.rest.context c.args.rest.fresh (line_at c.args.rest.tokens 0) c.in_ok-name.name (drop 2 c.args.rest.tokens)
    c.args.self.now (g.F.Machine.state c.args.files.now) c.file_name.new.self c.take_file.new.self (g.F.Machine.state c.read.new.self) c.bytes.result.now c.in-Ok.text c.deref.result.now c.line-line.result _
    c.in_ok-name.ensures.value c.bytes.ensures c.in-Ok.ensures c.deref.ensures.value c.line-line.ensures c.in_ok-take_file.ensures
