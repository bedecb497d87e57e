use Rattle.std.proofs.Common.{◌≡◌, [], ◌∷◌, length, get_or, sym, ap, ◌∙◌, rules}
use Rattle.sg_time.specs.Text.{month_name, day_text}
use Rattle.sg_time.proofs.Texts.{two, three, length-month_name, length-day_text}
use Rattle.sg_time.proofs.text.bsd_whole.Goals as goal

pub returns : goal.returns
returns c =
    let month : month_name c.args.local.month ≡ get_or c.month_abbrev.result 0 0 ∷ get_or c.month_abbrev.result 1 0 ∷ get_or c.month_abbrev.result 2 0 ∷ [] =
    sym c.month_abbrev.ensures ∙ three c.month_abbrev.result (ap length c.month_abbrev.ensures ∙ length-month_name c.args.local.month c.requires.date.1) in
    let day : day_text c.args.local.day ≡ get_or c.padded_day.result 0 0 ∷ get_or c.padded_day.result 1 0 ∷ [] =
    sym c.padded_day.ensures ∙ two c.padded_day.result (ap length c.padded_day.ensures ∙ length-day_text c.args.local.day) in
    rw (month, day) (search rules)
