use Rattle.std.proofs.Common.{false, ap, ◌∙◌}
use Rattle.regex.specs.Views.{builder_config, builder_source}
use Rattle.regex.specs.declared.builder.RegexBuilder.{RegexBuilder}
use Rattle.regex_syntax.specs.declared.Config.{Config}
use Rattle.sg_pattern.proofs.making.options.Goals as goal

pub returns-clause-config : goal.returns-clause-config
returns-clause-config c =
    ap (λ (b : RegexBuilder). record (builder_config b) { utf8 = false }) c.size_limit.ensures
    ∙ ap (λ (b : RegexBuilder). record (builder_config b) { utf8 = false }) c.unicode.ensures
    ∙ ap (λ (b : RegexBuilder). let d = builder_config b in record d { flags = record d.flags { unicode = c.args.unicode }; utf8 = false }) c.case_insensitive.ensures
    ∙ ap (λ (d : Config). record d { flags = record d.flags { case_insensitive = c.args.ignore_case; unicode = c.args.unicode }; utf8 = false }) c.new.ensures.config

pub returns-clause-source : goal.returns-clause-source
returns-clause-source c =
    ap builder_source c.size_limit.ensures ∙ ap builder_source c.unicode.ensures ∙ ap builder_source c.case_insensitive.ensures ∙ c.new.ensures.source
