use Rattle.std.proofs.Common.{◌≡◌, ◌∙◌, ap, sym}
use Rattle.sg_fault.specs.Faults.{earlier}
use Rattle.sg_names.specs.Registers.{names_of, repeated}
use Rattle.sg_names.proofs.names.names_of.Goals as goal

pub returns-clause-names : goal.returns-clause-names
unfolding names_of
returns-clause-names c =
    let a = c.in_ok-sources.ensures.names in
    let b = c.in_ok-destinations.ensures.names in
    let d = c.in_ok-filters.ensures.names in
    let e = c.in_ok-rewrites.ensures.names in
    let p = c.in_ok-parsers.ensures.names in
    let f = c.in_ok-templates.ensures.names in
    λ i. record { sources = a i; destinations = b i; filters = d i; rewrites = e i; parsers = p i; templates = f i }

pub returns-clause-repeated : goal.returns-clause-repeated
unfolding repeated
returns-clause-repeated c =
    let a = c.in_ok-sources.ensures.repeats in
    let b = c.in_ok-destinations.ensures.repeats in
    let d = c.in_ok-filters.ensures.repeats in
    let e = c.in_ok-rewrites.ensures.repeats in
    let p = c.in_ok-parsers.ensures.repeats in
    let f = c.in_ok-templates.ensures.repeats in
    c.earlier-2.ensures ∙ (λ i. earlier ((c.earlier.ensures ∙ (λ j. earlier ((c.earlier-ends.ensures ∙ (λ k. earlier (a k) (b k))) j) ((c.earlier-ways.ensures ∙ (λ k. earlier (d k) (e k))) j))) i) ((c.earlier-texts.ensures ∙ (λ k. earlier (p k) (f k))) i))
