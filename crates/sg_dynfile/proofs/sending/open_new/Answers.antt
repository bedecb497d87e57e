use Rattle.std.proofs.Common.{◌≡◌, ◌-◌, ◌++◌, [], ◌∷◌, List, ℕ, length, length-append, ap, arith, rules}
use Rattle.sg_dynfile.proofs.Opened.{makes-ok, makes-none, makes-err}
use Rattle.sg_dynfile.proofs.sending.open_new.Goals as goal

pub returns-then-is_err-clause-opened : goal.returns-then-is_err-clause-opened
returns-then-is_err-clause-opened g c = makes-none (g.P.Opener.state c.args.opener.now) (g.P.Opener.state c.make_room.new.opener) c.args.path.now c.make_room.ensures.same

pub returns-in-Ok-clause-opened : goal.returns-in-Ok-clause-opened
returns-in-Ok-clause-opened g c =
    let names = c.make_room.new.open_paths.names.items in
    let opened : length (g.P.Opener.state c.make_room.new.opener).opened ≡ length names = ap (λ (l : List (List ℕ)). length l) c.make_room.ensures.tracks.opened in
    let behind : c.push.new.self.names.items ≡ names ++ c.args.path.now ∷ [] = search rules in
    let pushed : length c.push.new.self.names.items ≡ length (names ++ c.args.path.now ∷ []) = ap (λ (l : List (List ℕ)). length l) behind in
    makes-ok (g.P.Opener.state c.args.opener.now) (g.P.Opener.state c.make_room.new.opener) (g.P.Opener.state c.open.new.self) c.args.path.now (c.len-last.result - 1) c.make_room.ensures.same c.in-Ok.ensures
    (omega (arith, opened, pushed, c.len-last.ensures, length-append names (c.args.path.now ∷ [])))

pub returns-in-Err-clause-opened : goal.returns-in-Err-clause-opened
returns-in-Err-clause-opened g c =
    makes-err (g.P.Opener.state c.args.opener.now) (g.P.Opener.state c.make_room.new.opener) (g.P.Opener.state c.open.new.self) c.args.path.now c.in-Err.refusal c.make_room.ensures.same c.in-Err.ensures.0 c.in-Err.ensures.1
