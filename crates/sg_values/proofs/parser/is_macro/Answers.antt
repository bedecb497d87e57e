use Rattle.std.proofs.Common.{◌<◌, ◌++◌, length, sym, arith}
use Rattle.sg_values.proofs.MacroNames.{long-name}
use Rattle.sg_values.proofs.parser.is_macro.Goals as goal

pub returns-then-end-gt-MACRO_LIMIT : goal.returns-then-end-gt-MACRO_LIMIT
returns-then-end-gt-MACRO_LIMIT c =
    let name = c.args.prefix.now ++ c.args.name.now in
    let long : 16 < length name = omega (arith, c.name_len-end.ensures.joined) in
    sym (long-name name long)
