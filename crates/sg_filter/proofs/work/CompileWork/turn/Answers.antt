use Rattle.std.proofs.Common.{◌-◌, [], ◌∷◌, None, Some, refl, sym, ap, ◌∙◌}
use Rattle.sg_filter.specs.declared.check.Predicate.TheVariants as check
use Rattle.sg_filter.specs.declared.expr.Expr.TheVariants as e
use Rattle.sg_filter.specs.declared.work.CompileFrame.TheVariants as frame
use Rattle.sg_filter.specs.Decisions.{ask, forks}
use Rattle.sg_filter.specs.Patterns.{patterns_within}
use Rattle.sg_filter.specs.Work.{frame_patterns}
use Rattle.sg_filter.proofs.Equations.{deeper, forks-Facility, forks-Level, forks-Tags, forks-Compare, forks-Field, forks-deep, forks-named, patterns-Facility, patterns-Level, patterns-Tags, patterns-Compare, patterns-Field, patterns-deep, patterns-named}
use Rattle.sg_filter.proofs.Cases.{turns-as, turns-check, turns-none, turns-one, turns-not, turns-and, turns-or, turns-all-none, turns-any-none, turns-all, turns-any, refuses-one}
use Rattle.sg_filter.proofs.work.CompileWork.turn.Goals as goal

pub returns-in_ok-ask-in-Facility-clause-turns : goal.returns-in_ok-ask-in-Facility-clause-turns
returns-in_ok-ask-in-Facility-clause-turns g c =
    let named = c.args.named.now in
    let f = c.in-One in
    let done = c.in_ok-ask-in-Facility.ensures in
    turns-as named (frame.One f.expr f.depth f.yes f.no) c.args.frame c.args.self.now c.ask.new.self (sym f.is)
    (turns-check named f.expr f.depth f.yes f.no c.args.self.now c.ask.new.self (check.Facility c.in_ok-copied_ranges-in-Facility.field-0) []
    (ap (forks f.depth named) c.in-Facility.is ∙ forks-Facility f.depth named c.in-Facility.ranges ∙ ap (λ r. ask (check.Facility r)) (sym c.in_ok-copied_ranges-in-Facility.ensures))
    (ap (patterns_within f.depth named) c.in-Facility.is ∙ patterns-Facility f.depth named c.in-Facility.ranges) tt
    done.0 done.1 done.2)

pub returns-in_ok-ask-in-Level-clause-turns : goal.returns-in_ok-ask-in-Level-clause-turns
returns-in_ok-ask-in-Level-clause-turns g c =
    let named = c.args.named.now in
    let f = c.in-One in
    let done = c.in_ok-ask-in-Level.ensures in
    turns-as named (frame.One f.expr f.depth f.yes f.no) c.args.frame c.args.self.now c.ask-in-Level.new.self (sym f.is)
    (turns-check named f.expr f.depth f.yes f.no c.args.self.now c.ask-in-Level.new.self (check.Level c.in_ok-copied_ranges-in-Level.field-0) []
    (ap (forks f.depth named) c.in-Level.is ∙ forks-Level f.depth named c.in-Level.ranges ∙ ap (λ r. ask (check.Level r)) (sym c.in_ok-copied_ranges-in-Level.ensures))
    (ap (patterns_within f.depth named) c.in-Level.is ∙ patterns-Level f.depth named c.in-Level.ranges) tt
    done.0 done.1 done.2)

pub returns-in_ok-ask-in-Tags-clause-turns : goal.returns-in_ok-ask-in-Tags-clause-turns
returns-in_ok-ask-in-Tags-clause-turns g c =
    let named = c.args.named.now in
    let f = c.in-One in
    let done = c.in_ok-ask-in-Tags.ensures in
    turns-as named (frame.One f.expr f.depth f.yes f.no) c.args.frame c.args.self.now c.ask-in-Tags.new.self (sym f.is)
    (turns-check named f.expr f.depth f.yes f.no c.args.self.now c.ask-in-Tags.new.self (check.Tags c.in_ok-copied_names-in-Tags.field-0) []
    (ap (forks f.depth named) c.in-Tags.is ∙ forks-Tags f.depth named c.in-Tags.tags ∙ ap (λ r. ask (check.Tags r)) (sym c.in_ok-copied_names-in-Tags.ensures))
    (ap (patterns_within f.depth named) c.in-Tags.is ∙ patterns-Tags f.depth named c.in-Tags.tags) tt
    done.0 done.1 done.2)

pub returns-in_ok-ask-in-Compare-clause-turns : goal.returns-in_ok-ask-in-Compare-clause-turns
returns-in_ok-ask-in-Compare-clause-turns g c =
    let named = c.args.named.now in
    let f = c.in-One in
    let done = c.in_ok-ask-in-Compare.ensures in
    turns-as named (frame.One f.expr f.depth f.yes f.no) c.args.frame c.args.self.now c.ask-in-Compare.new.self (sym f.is)
    (turns-check named f.expr f.depth f.yes f.no c.args.self.now c.ask-in-Compare.new.self c.in_ok-check-in-Compare.check []
    (ap (forks f.depth named) c.in-Compare.is ∙ forks-Compare f.depth named c.in-Compare.left c.in-Compare.cmp c.in-Compare.right ∙ ap (λ x. ask x) (sym c.in_ok-check-in-Compare.ensures))
    (ap (patterns_within f.depth named) c.in-Compare.is ∙ patterns-Compare f.depth named c.in-Compare.left c.in-Compare.cmp c.in-Compare.right) tt
    done.0 done.1 done.2)

pub returns-in_ok-ask-in-Ok-clause-turns : goal.returns-in_ok-ask-in-Ok-clause-turns
returns-in_ok-ask-in-Ok-clause-turns g c =
    let named = c.args.named.now in
    let f = c.in-One in
    let name = c.in-Field.name in
    let pattern = c.in-Field.pattern in
    let done = c.in_ok-ask-in-Ok.ensures in
    let made = c.in-Ok.ensures in
    turns-as named (frame.One f.expr f.depth f.yes f.no) c.args.frame c.args.self.now c.ask-in-Ok.new.self (sym f.is)
    (turns-check named f.expr f.depth f.yes f.no c.args.self.now c.ask-in-Ok.new.self c.in-Ok.check (pattern ∷ [])
    (ap (forks f.depth named) c.in-Field.is ∙ forks-Field f.depth named name pattern ∙ ap (λ x. ask x) (sym made.ok))
    (ap (patterns_within f.depth named) c.in-Field.is ∙ patterns-Field f.depth named name pattern) (made.valid, tt)
    done.0 done.1 done.2)

pub returns-in-Err-clause-refused : goal.returns-in-Err-clause-refused
returns-in-Err-clause-refused g c =
    let named = c.args.named.now in
    let f = c.in-One in
    refuses-one _ _ c.in-Field.pattern (frame_patterns named c.args.frame) c.in-Err.refusal
    (ap (frame_patterns named) f.is ∙ ap (patterns_within f.depth named) c.in-Field.is ∙ patterns-Field f.depth named c.in-Field.name c.in-Field.pattern)
    c.in-Err.ensures.refused

pub returns-then-depth-eq0-clause-turns : goal.returns-then-depth-eq0-clause-turns
returns-then-depth-eq0-clause-turns g c =
    let named = c.args.named.now in
    let f = c.in-One in
    let zero-now = sym c.if-depth-eq0.true in
    turns-as named (frame.One f.expr f.depth f.yes f.no) c.args.frame c.args.self.now _ (sym f.is)
    (turns-none named f.expr f.depth f.yes f.no c.args.self.now (record c.args.self.now { last = f.no })
    (ap (forks f.depth named) c.in-Named.is ∙ forks-deep f.depth named c.in-Named.place zero-now)
    (ap (patterns_within f.depth named) c.in-Named.is ∙ patterns-deep f.depth named c.in-Named.place zero-now)
    refl refl refl)

pub returns-in-None-clause-turns : goal.returns-in-None-clause-turns
returns-in-None-clause-turns g c =
    let named = c.args.named.now in
    let f = c.in-One in
    let next = deeper f.depth c.if-depth-eq0.false in
    turns-as named (frame.One f.expr f.depth f.yes f.no) c.args.frame c.args.self.now _ (sym f.is)
    (turns-none named f.expr f.depth f.yes f.no c.args.self.now (record c.args.self.now { last = f.no })
    (ap (forks f.depth named) c.in-Named.is ∙ forks-named f.depth (f.depth - 1) named c.in-Named.place None next (sym c.in-None.ensures))
    (ap (patterns_within f.depth named) c.in-Named.is ∙ patterns-named f.depth (f.depth - 1) named c.in-Named.place None next (sym c.in-None.ensures))
    refl refl refl)

pub returns-in_ok-push-in-Some-clause-turns : goal.returns-in_ok-push-in-Some-clause-turns
returns-in_ok-push-in-Some-clause-turns g c =
    let named = c.args.named.now in
    let f = c.in-One in
    let x = c.in-Some.expr in
    let next = deeper f.depth c.if-depth-eq0.false in
    let done = c.in_ok-push-in-Some.ensures in
    turns-as named (frame.One f.expr f.depth f.yes f.no) c.args.frame c.args.self.now c.push.new.self (sym f.is)
    (turns-one named f.expr f.depth f.yes f.no c.args.self.now c.push.new.self x (f.depth - 1)
    (ap (forks f.depth named) c.in-Named.is ∙ forks-named f.depth (f.depth - 1) named c.in-Named.place (Some x.now) next (sym c.in-Some.ensures))
    (ap (patterns_within f.depth named) c.in-Named.is ∙ patterns-named f.depth (f.depth - 1) named c.in-Named.place (Some x.now) next (sym c.in-Some.ensures))
    done.1 done.2 done.0)

pub returns-in_ok-push-in-And-clause-turns : goal.returns-in_ok-push-in-And-clause-turns
returns-in_ok-push-in-And-clause-turns g c =
    let named = c.args.named.now in
    let f = c.in-One in
    let done = c.in_ok-push-in-And.ensures in
    turns-as named (frame.One f.expr f.depth f.yes f.no) c.args.frame c.args.self.now c.push-in-And.new.self (sym f.is)
    (turns-and named f.expr f.depth f.yes f.no c.args.self.now c.push-in-And.new.self c.as_slice.result (c.in-And.is ∙ ap e.And (sym c.as_slice.ensures)) done.1 done.2 done.0)

pub returns-in_ok-push-in-Or-clause-turns : goal.returns-in_ok-push-in-Or-clause-turns
returns-in_ok-push-in-Or-clause-turns g c =
    let named = c.args.named.now in
    let f = c.in-One in
    let done = c.in_ok-push-in-Or.ensures in
    turns-as named (frame.One f.expr f.depth f.yes f.no) c.args.frame c.args.self.now c.push-in-Or.new.self (sym f.is)
    (turns-or named f.expr f.depth f.yes f.no c.args.self.now c.push-in-Or.new.self c.as_slice-in-Or.result (c.in-Or.is ∙ ap e.Or (sym c.as_slice-in-Or.ensures)) done.1 done.2 done.0)

pub returns-in_ok-push-in-Not-clause-turns : goal.returns-in_ok-push-in-Not-clause-turns
returns-in_ok-push-in-Not-clause-turns g c =
    let named = c.args.named.now in
    let f = c.in-One in
    let done = c.in_ok-push-in-Not.ensures in
    turns-as named (frame.One f.expr f.depth f.yes f.no) c.args.frame c.args.self.now c.push-in-Not.new.self (sym f.is)
    (turns-not named f.expr f.depth f.yes f.no c.args.self.now c.push-in-Not.new.self c.get.result (c.in-Not.is ∙ ap e.Not (sym c.get.ensures)) done.1 done.2 done.0)

pub returns-in-None-last_of-clause-turns : goal.returns-in-None-last_of-clause-turns
returns-in-None-last_of-clause-turns g c =
    let named = c.args.named.now in
    let f = c.in-All in
    turns-as named (frame.All f.terms f.depth f.no) c.args.frame c.args.self.now _ (sym f.is)
    (turns-all-none named f.terms f.depth f.no c.args.self.now c.args.self.now c.in-None-last_of.ensures refl)

pub returns-in-None-last_of-2-clause-turns : goal.returns-in-None-last_of-2-clause-turns
returns-in-None-last_of-2-clause-turns g c =
    let named = c.args.named.now in
    let f = c.in-Any in
    turns-as named (frame.Any f.terms f.depth f.yes) c.args.frame c.args.self.now _ (sym f.is)
    (turns-any-none named f.terms f.depth f.yes c.args.self.now c.args.self.now c.in-None-last_of-2.ensures refl)

pub returns-in_ok-push_both-in-Some-last_of-clause-turns : goal.returns-in_ok-push_both-in-Some-last_of-clause-turns
returns-in_ok-push_both-in-Some-last_of-clause-turns g c =
    let named = c.args.named.now in
    let f = c.in-All in
    let done = c.in_ok-push_both-in-Some-last_of.ensures in
    turns-as named (frame.All f.terms f.depth f.no) c.args.frame c.args.self.now c.push_both.new.self (sym f.is)
    (turns-all named f.terms f.depth f.no c.args.self.now c.push_both.new.self c.in-Some-last_of.terms c.in-Some-last_of.expr c.in-Some-last_of.ensures done.1 done.2 done.0)

pub returns-in_ok-push_both-in-Some-last_of-2-clause-turns : goal.returns-in_ok-push_both-in-Some-last_of-2-clause-turns
returns-in_ok-push_both-in-Some-last_of-2-clause-turns g c =
    let named = c.args.named.now in
    let f = c.in-Any in
    let done = c.in_ok-push_both-in-Some-last_of-2.ensures in
    turns-as named (frame.Any f.terms f.depth f.yes) c.args.frame c.args.self.now c.push_both-in-Some-last_of-2.new.self (sym f.is)
    (turns-any named f.terms f.depth f.yes c.args.self.now c.push_both-in-Some-last_of-2.new.self c.in-Some-last_of-2.terms c.in-Some-last_of-2.expr c.in-Some-last_of-2.ensures done.1 done.2 done.0)
