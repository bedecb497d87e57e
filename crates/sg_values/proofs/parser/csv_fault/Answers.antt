use Rattle.std.proofs.Common.{◌≡◌, ◌∙◌, ℕ, List, [], ◌∷◌, ◌++◌, Option, codes, sym, ap, ap₂}
use Rattle.std.specs.Option.{option_copied}
use Rattle.sg_fault.specs.Faults.{earlier, least}
use Rattle.sg_fault.proofs.Least.{least_append}
use Rattle.sg_parse_base.specs.declared.spot.Spot.{Spot}
use Rattle.sg_parse_expr.specs.declared.tree.Arg.{Arg}
use Rattle.sg_parse_expr.specs.declared.tree.Call.{Call, out-Call}
use Rattle.sg_options.specs.Settings.{args_of, calls_of, last_option, last_value}
use Rattle.sg_options.specs.Values.{text_of}
use Rattle.sg_values.specs.Parsers.{delimiter_faults, wanted_faults, columns_faults}
use Rattle.sg_values.proofs.parser.csv_fault.Goals as goal

pub returns : goal.returns
returns c =
    let call : Call = c.args.call.now in
    let word : Spot = (out-Call call).word in
    let delimiters : Option Spot = last_value (codes "delimiters" ∷ []) (calls_of (args_of call)) in
    let prefix : List ℕ = text_of (last_value (codes "prefix" ∷ []) (calls_of (args_of call))) in
    let columns : Option Call = last_option (codes "columns" ∷ []) (calls_of (args_of call)) in
    let has_delimiters : option_copied c.last_argument_value.result ≡ delimiters = c.last_argument_value.ensures ∙ ap (λ (args : List Arg). last_value (codes "delimiters" ∷ []) (calls_of args)) c.args_of-args.ensures in
    let has_prefix : c.prefix_of.result.now ≡ prefix = c.prefix_of.ensures ∙ ap (λ (args : List Arg). text_of (last_value (codes "prefix" ∷ []) (calls_of args))) c.args_of-args.ensures in
    let has_columns : option_copied c.last_argument-columns.result ≡ columns = c.last_argument-columns.ensures ∙ ap (λ (args : List Arg). last_option (codes "columns" ∷ []) (calls_of args)) c.args_of-args.ensures in
    let first : c.earlier-wanted.result ≡ least (wanted_faults call ++ delimiter_faults delimiters) =
    c.earlier-wanted.ensures
    ∙ ap₂ earlier c.wanted_fault.ensures (c.delimiter_fault-delimiters.ensures ∙ ap (λ (value : Option Spot). least (delimiter_faults value)) has_delimiters)
    ∙ sym (least_append (wanted_faults call) (delimiter_faults delimiters)) in
    let last : c.columns_fault.result ≡ least (columns_faults word prefix columns) = c.columns_fault.ensures ∙ (λ i. least (columns_faults word (has_prefix i) (has_columns i))) in
    c.earlier.ensures ∙ ap₂ earlier first last ∙ sym (least_append (wanted_faults call ++ delimiter_faults delimiters) (columns_faults word prefix columns))
