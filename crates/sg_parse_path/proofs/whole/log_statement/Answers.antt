use Rattle.std.proofs.Common.{◌≡◌, ◌-◌, length, Ok, Err, sym, ap, subst, ◌∙◌, arith, List, ℕ}
use Rattle.sg_parse_base.specs.declared.spot.Spot.{Spot}
use Rattle.sg_parse_obj.specs.Objects.{spots_at}
use Rattle.sg_parse_path.specs.Paths.{log_in}
use Rattle.sg_parse_path.specs.Grammar.{IsLog}
use Rattle.sg_parse_base.proofs.Steps.{gives}
use Rattle.sg_parse_path.proofs.PathLaws.{log-sound, log-leaves, nothing-stands}
use Rattle.sg_parse_obj.proofs.Places.{place-behind, rest-fits}
use Rattle.sg_parse_path.proofs.whole.log_statement.Goals as goal

pub overflow_sub-result : goal.overflow_sub-result
unfolding spots_at
overflow_sub-result c =
    let t = c.args.tokens.now in
    let s = spots_at t c.args.at in
    let r = c.log.new.cursor in
    let read : log_in 64 s ≡ Ok (c.in-Ok.found, r) = ap (log_in 64) (sym c.new-cursor.ensures) ∙ c.in-Ok.ensures {u = tt} in
    let fits = rest-fits t c.args.at r (log-leaves 64 s r c.in-Ok.found (log-sound 64 s (c.in-Ok.found, r) read)) in
    omega (arith, fits, c.left.ensures)

pub returns-in-Ok-clause-found : goal.returns-in-Ok-clause-found
unfolding spots_at
returns-in-Ok-clause-found c =
    let t = c.args.tokens.now in
    let s = spots_at t c.args.at in
    let r = c.log.new.cursor in
    let read : log_in 64 s ≡ Ok (c.in-Ok.found, r) = ap (log_in 64) (sym c.new-cursor.ensures) ∙ c.in-Ok.ensures {u = tt} in
    let sound = log-sound 64 s (c.in-Ok.found, r) read in
    let place = place-behind t c.args.at r (omega (arith, c.requires.place)) (log-leaves 64 s r c.in-Ok.found sound) in
    subst (λ (k : List Spot). IsLog 64 s c.in-Ok.found k) (place ∙ ap (λ (n : ℕ). spots_at t (length t - n)) (sym c.left.ensures)) sound

pub returns-in-Ok-clause-exact : goal.returns-in-Ok-clause-exact
unfolding spots_at
returns-in-Ok-clause-exact c =
    let t = c.args.tokens.now in
    let s = spots_at t c.args.at in
    let r = c.log.new.cursor in
    let read : log_in 64 s ≡ Ok (c.in-Ok.found, r) = ap (log_in 64) (sym c.new-cursor.ensures) ∙ c.in-Ok.ensures {u = tt} in
    let sound = log-sound 64 s (c.in-Ok.found, r) read in
    let place = place-behind t c.args.at r (omega (arith, c.requires.place)) (log-leaves 64 s r c.in-Ok.found sound) in
    read ∙ ap (λ (k : List Spot). gives c.in-Ok.found k) (place ∙ ap (λ (n : ℕ). spots_at t (length t - n)) (sym c.left.ensures))

pub returns-in-Err-Bad-clause-none : goal.returns-in-Err-Bad-clause-none
unfolding spots_at
returns-in-Err-Bad-clause-none c = λ _ tree rest stands.
    let s = spots_at c.args.tokens.now c.args.at in
    let refused : log_in 64 s ≡ Err c.in-Err-Bad.fault = ap (log_in 64) (sym c.new-cursor.ensures) ∙ (rw c.in-Err-Bad.field-0-is at (c.in-Err-Bad.ensures {u = tt})) in
    nothing-stands 64 s rest tree c.in-Err-Bad.fault refused stands

pub returns-in-Err-Bad-clause-exact : goal.returns-in-Err-Bad-clause-exact
unfolding spots_at
returns-in-Err-Bad-clause-exact c =
    let s = spots_at c.args.tokens.now c.args.at in
    let refused : log_in 64 s ≡ Err c.in-Err-Bad.fault = ap (log_in 64) (sym c.new-cursor.ensures) ∙ (rw c.in-Err-Bad.field-0-is at (c.in-Err-Bad.ensures {u = tt})) in
    (c.in-Err-Bad.fault, c.token_at.result.now, refused, c.token_at.ensures, rw c.in-Err-Bad.fault-is at c.fault_of.ensures)
