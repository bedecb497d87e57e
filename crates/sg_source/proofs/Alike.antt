-- The options of a driver make one driver.
use Rattle.std.proofs.Common.{◌≡◌, ◌≤◌, ◌≤ℤ◌, pos, negsuc, sym, ◌∙◌}
use denote.Struct.Props.{props}
use mathlib.Core.HLevel.{is_prop→PathP}
use Rattle.sg_parse_expr.specs.declared.tree.Call.{Call}
use Rattle.sg_r3164.specs.declared.opts.ReadOpts.{ReadOpts}
use Rattle.sg_driver.specs.declared.defaults.Defaults.{Defaults}
use Rattle.sg_source.specs.declared.inlet.SourceDriver.{SourceDriver}
use Rattle.sg_source.specs.Inlets.{HasOpts, IsSourceDriver}

same_opts : (a b : ReadOpts) → a.pri ≡ b.pri → a.zone ≡ b.zone → a.keep_hostname ≡ b.keep_hostname → a.keep_timestamp ≡ b.keep_timestamp → a.parse ≡ b.parse → a ≡ b
same_opts a b pri zone host stamp parse = λ i. record {
  pri = pri i;
  zone = zone i;
  keep_hostname = host i;
  keep_timestamp = stamp i;
  parse = parse i;
  pri_in_range = is_prop→PathP (λ j. pri j ≤ 191) (λ j. hlevel props) a.pri_in_range b.pri_in_range i;
  zone_from = is_prop→PathP (λ j. negsuc 1438 ≤ℤ zone j) (λ j. hlevel props) a.zone_from b.zone_from i;
  zone_to = is_prop→PathP (λ j. zone j ≤ℤ pos 1439) (λ j. hlevel props) a.zone_to b.zone_to i;
}

opts_are_one : (defaults : Defaults) (call : Call) (a b : ReadOpts) → HasOpts defaults call a → HasOpts defaults call b → a ≡ b
opts_are_one defaults call a b p q =
    same_opts a b (p.pri ∙ sym q.pri) (p.zone ∙ sym q.zone) (p.keep_hostname ∙ sym q.keep_hostname) (p.keep_timestamp ∙ sym q.keep_timestamp) (p.parse ∙ sym q.parse)

same_source : (a b : SourceDriver) → a.place ≡ b.place → a.kind ≡ b.kind → a.limit ≡ b.limit → a.fetch ≡ b.fetch → a.window ≡ b.window → a.opts ≡ b.opts
    → a.rfc5424 ≡ b.rfc5424 → a.empty_lines ≡ b.empty_lines → a.one_line ≡ b.one_line → a.tags ≡ b.tags → a ≡ b
same_source a b place kind limit fetch window opts rfc5424 empty_lines one_line tags = λ i. record {
  place = place i;
  kind = kind i;
  limit = limit i;
  fetch = fetch i;
  window = window i;
  opts = opts i;
  rfc5424 = rfc5424 i;
  empty_lines = empty_lines i;
  one_line = one_line i;
  tags = tags i;
}

pub sources_are_one : (defaults : Defaults) (call : Call) (a b : SourceDriver) → IsSourceDriver defaults call a → IsSourceDriver defaults call b → a ≡ b
sources_are_one defaults call a b p q =
    same_source a b (p.place ∙ sym q.place) (p.kind ∙ sym q.kind) (p.limit ∙ sym q.limit) (p.fetch ∙ sym q.fetch) (p.window ∙ sym q.window)
    (opts_are_one defaults call a.opts b.opts p.opts q.opts) (p.rfc5424 ∙ sym q.rfc5424) (p.empty_lines ∙ sym q.empty_lines) (p.one_line ∙ sym q.one_line) (p.tags ∙ sym q.tags)
