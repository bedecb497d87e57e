use Rattle.std.proofs.Common.{◌≡◌, ◌<◌, ◌≤◌, ◌+◌, length, get_or, sym, ap, ◌∙◌, subst, arith, inl, inr}
use Rattle.std.specs.Prelude.{◌⊎◌}
use Rattle.std.proofs.lemmas.Option.{slice_get_cases}
use Rattle.sg_tree.specs.Offers.{top_view}
use Rattle.sg_tree.specs.declared.tree.Path.{Path, out-Path}
use Rattle.sg_table.specs.Fans.{cut, fan}
use Rattle.sg_table.proofs.Bounded.{SofarBounded, same-steps, sofar-more, first-beyond, whole, over-either, over-neither}
use Rattle.sg_table.proofs.bound.check_tops.Goals as goal

pub returns-then-offers-fan : goal.returns-then-offers-fan
returns-then-offers-fan c = λ named steps e same.
    let ps = c.args.paths.now in
    let i = c.loop-i.i in
    let p = c.index-paths-i.result in
    let f = c.fan_at-fan.result in
    let less : i < length ps = omega arith in
    let within : i < length c.args.tops.now = omega (arith, c.requires) in
    let is : f ≡ fan (top_view named p).steps =
    c.fan_at-fan.ensures steps e ∙ ap fan (same-steps named steps c.args.tops.now ps i c.index-tops-i.result p within less same) ∙ ap (λ (x : Path). fan (top_view named x).steps) (sym c.index-paths-i.is) in
    first-beyond named ps i c.loop-i.offers p f (out-Path (get_or ps i p)).line (c.loop-i.invariant named steps e same) less c.index-paths-i.is is
    (ap (λ (x : Path). (out-Path x).line) c.index-paths-i.is)
    (subst (λ x. (1024 < x) ⊎ (1024 < f.most)) c.sum-offers.ensures (over-either c.sum-offers.result f.most c.if-offers-fan.true))

pub loop-i-preserved : goal.loop-i-preserved
loop-i-preserved c = λ named steps e same.
    let ps = c.args.paths.now in
    let i = c.loop-i.i in
    let f = c.fan_at-fan.result in
    let less : i < length ps = omega arith in
    let within : i < length c.args.tops.now = omega (arith, c.requires) in
    let few = over-neither c.sum-offers.result f.most c.if-offers-fan.false in
    let low : cut (c.loop-i.offers + f.offers) ≤ 1024 = subst (λ x. x ≤ 1024) c.sum-offers.ensures few.0 in
    elim (slice_get_cases ps i).1 [
      | inl h ↦
          let p = h.0 in
          let is : f ≡ fan (top_view named p).steps =
          c.fan_at-fan.ensures steps e ∙ ap fan (same-steps named steps c.args.tops.now ps i c.index-tops-i.result p within less same) ∙ ap (λ (x : Path). fan (top_view named x).steps) h.3 in
          subst (SofarBounded named ps (i + 1)) (sym c.sum-offers.ensures) (sofar-more named ps i c.loop-i.offers p f (c.loop-i.invariant named steps e same) less (sym h.3) is low few.1)
      | inr h ↦ absurd (omega (arith, h.0))
    ]

pub returns : goal.returns
returns c = λ named steps e same.
    whole named c.args.paths.now c.loop-i.i c.loop-i.offers (omega (arith, c.loop-i-test.false)) (c.loop-i.invariant named steps e same)
