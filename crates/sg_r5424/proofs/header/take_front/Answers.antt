use Rattle.std.proofs.Common.{◌≡◌, ℕ, List, Some, is_some, sym, ap, subst, arith}
use Rattle.std.proofs.lemmas.Bool.{false≢true}
use Rattle.sg_time.specs.Stamp.{IsValidStamp}
use Rattle.sg_r5424.specs.Grammar.{IsStamp}
use Rattle.sg_r5424.proofs.HeaderLemmas.{front_stuck}
use Rattle.sg_r5424.proofs.header.take_front.Goals as goal

pub returns-in_default-clause-front : goal.returns-in_default-clause-front
returns-in_default-clause-front c = (
  λ front rest h. c.in_default.ensures.start.0 front.pri h.behind h.start,
  c.in_default.ensures.start.1,
)

pub returns-then-take_text-clause-front : goal.returns-then-take_text-clause-front
returns-then-take_text-clause-front c = (
  record { behind = c.take_start.new.text; start = c.in-Some.ensures.start.0; stamp = c.if-take_text.ensures.taken },
  omega (arith, c.in-Some.ensures.start.1, c.take_text.ensures.shorter),
)

pub returns-then-take_text-clause-pri : goal.returns-then-take_text-clause-pri
returns-then-take_text-clause-pri c = c.in-Some.ensures.range

pub returns-then-take_text-clause-stamp : goal.returns-then-take_text-clause-stamp
returns-then-take_text-clause-stamp c = λ stamp e. absurd (false≢true (ap is_some e))

pub returns-in_default-take_iso-clause-front : goal.returns-in_default-take_iso-clause-front
returns-in_default-take_iso-clause-front c = (
  front_stuck c.args.text.now c.in-Some.pri c.take_start.new.text c.in-Some.ensures.start.0 c.if-take_text.ensures.taken
      (λ stamp rest h. c.in_default-take_iso.ensures.stamp.0 stamp rest (subst (λ (x : List ℕ). IsStamp x (Some stamp) rest) (sym c.if-take_text.ensures.kept) h)),
  omega (arith, c.in-Some.ensures.start.1, c.take_text.ensures.shorter, c.in_default-take_iso.ensures.stamp.1),
)

pub returns-clause-front : goal.returns-clause-front
returns-clause-front c = (
  record {
    behind = c.take_start.new.text;
    start = c.in-Some.ensures.start.0;
    stamp = subst (λ (x : List ℕ). IsStamp x (Some c.in-Some-take_iso.stamp) c.take_iso.new.text) c.if-take_text.ensures.kept c.in-Some-take_iso.ensures.stamp.0;
  },
  omega (arith, c.in-Some.ensures.start.1, c.take_text.ensures.shorter, c.in-Some-take_iso.ensures.stamp.1),
)

pub returns-clause-pri : goal.returns-clause-pri
returns-clause-pri c = c.in-Some.ensures.range

pub returns-clause-stamp : goal.returns-clause-stamp
returns-clause-stamp c = λ stamp e.
    let same : c.in-Some-take_iso.stamp ≡ stamp = cc in
    subst IsValidStamp same c.in-Some-take_iso.ensures.valid
