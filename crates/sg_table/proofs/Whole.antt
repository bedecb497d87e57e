-- A forest's refusals.
use Rattle.std.proofs.Common.{◌≡◌, ◌≤◌, ◌++◌, [], ◌∷◌, Err, ◌∙◌, ap, subst, arith, inl, inr}
use Rattle.sg_device.specs.Faults.{Rose}
use Rattle.sg_lex.specs.declared.place.Line.{Line}
use Rattle.sg_pattern.specs.Builds.{BuilderCalls, RefusesNone, calls_by, machine_calls}
use Rattle.sg_filter.proofs.Turning.{only-more, only-none}
use Rattle.sg_outside.specs.World.{WorldState, OnlyBuilds}
use Rattle.sg_filter.specs.Patterns.{AreValid, IsLargeAt}
use Rattle.sg_tree.specs.declared.forest.Forest.{Forest}
use Rattle.sg_tree.specs.declared.refusal.PathRefusal.{PathRefusal}
use Rattle.sg_tree.specs.declared.refusal.PathRefusal.TheVariants.{BadPattern, PatternTooLarge, TooManyOffers, NoMemory}
use Rattle.sg_table.specs.Fans.{ChecksBounds}
use Rattle.sg_table.specs.Patterns.{PatternTexts, RefusesPatterns, filters_patterns, rules_patterns, siblings_patterns, patterns_in}
use Rattle.sg_table.specs.Refused.{IsFirstLarge, RefusesForest, RefusesSome, TriesForest}
use Rattle.sg_table.specs.Tried.{AreTried, IsRefusedIn, MakesEach, TriesPatterns}
use Rattle.sg_table.proofs.Patterned.{behind, refused-within}
use Rattle.sg_table.proofs.Tries.{among-order, each-machine, each-only, each-split, each-valid, machine-stays, not-valid, valid-among, valid-order}

refused-forest : (old new : WorldState) (forest : Forest) (why : PathRefusal) → RefusesPatterns old new (patterns_in forest) why → RefusesSome old new forest why
refused-forest old new forest (BadPattern line) r = r
refused-forest old new forest (PatternTooLarge line) r = r
refused-forest old new forest (TooManyOffers line) r = absurd r
refused-forest old new forest NoMemory r = tt

module _ (forest : Forest) where
  pub refused-path : (old new : WorldState) (why : PathRefusal) → RefusesPatterns old new (siblings_patterns forest.filters.items forest.paths.items) why → RefusesSome old new forest why
  refused-path old new why r =
      let named = forest.filters.items in
      let front = filters_patterns named named ++ rules_patterns named forest.rewrites.items in
      let last = siblings_patterns named forest.paths.items in
      refused-forest old new forest why (refused-within old old new last (patterns_in forest) why (λ p a. behind front last p a) (only-none old) r)

  pub refused-bound : (old new : WorldState) (why : PathRefusal) → RefusesNone old new → ChecksBounds forest.filters.items forest.paths.items (Err why) → RefusesSome old new forest why
  refused-bound old new (BadPattern line) n h = absurd h
  refused-bound old new (PatternTooLarge line) n h = absurd h
  refused-bound old new (TooManyOffers line) n h = (n, h)
  refused-bound old new NoMemory n h = tt

module _ {S : Type 0} (state : S → WorldState) (step : BuilderCalls S) where
  abbrev calls : BuilderCalls S
  calls = calls_by state step

  -- ---- refused when all were tried

  machine-refused : (order : PatternTexts) (line : Line) (old new : S) → IsRefusedIn state calls order line old new → IsRefusedIn (λ (w : WorldState). w) machine_calls order line (state old) (state new)
  machine-refused order line old new r = record {
    front = r.front;
    one = r.one;
    behind = r.behind;
    is = r.is;
    at = r.at;
    between = state r.between;
    made = each-machine state step old r.front r.between r.made;
    after = state r.after;
    refused = (r.refused.0, r.refused.1.1);
    rest = r.rest;
  }

  pub first-refused : (old new : S) (forest : Forest) (why : PathRefusal) → TriesForest state calls old new (patterns_in forest) (Err why) → RefusesForest (state old) (state new) forest why
  first-refused old new forest (BadPattern line) h = h
  first-refused old new forest (PatternTooLarge line) h = record { valid = h.0; order = h.1.order; sorted = h.1.sorted; refused = machine-refused h.1.order line old new h.1.refused }
  first-refused old new forest (TooManyOffers line) h = absurd h
  first-refused old new forest NoMemory h = tt

  pub first-tries : (A : Type 0) (old new : S) (patterns : PatternTexts) (why : PathRefusal) → TriesForest state calls old new patterns (Err why) → TriesPatterns state calls {A = A} old new patterns (Err why)
  first-tries A old new patterns (BadPattern line) h = tt
  first-tries A old new patterns (PatternTooLarge line) h = inl h.1
  first-tries A old new patterns (TooManyOffers line) h = absurd h
  first-tries A old new patterns NoMemory h = tt

  -- ---- refused when all had been made once

  module _ (old mid new : S) (forest : Forest) where
    abbrev all : PatternTexts
    all = patterns_in forest

    again : (line : Line) → AreTried state calls old mid all → OnlyBuilds (state mid) (state new) → IsLargeAt all line (state mid) (state new)
        → IsFirstLarge all line (state old) (state new)
    again line t o l =
        let there = among-order all t.order l.one t.sorted.same l.among in
        let parts = each-split state step old there.before (l.one ∷ there.after) t.reached (subst (λ (xs : PatternTexts). MakesEach calls old xs t.reached) there.is t.made) in
        let rest = each-only state step parts.mid (l.one ∷ there.after) t.reached parts.behind in
        let on : OnlyBuilds (state parts.mid) (state mid) = only-more _ _ _ rest t.rest in
        let whole : AreValid all = valid-order all t.order t.sorted (each-valid state step old t.order t.reached t.made) in
        record {
          valid = whole;
          order = t.order;
          sorted = t.sorted;
          refused = record {
            front = there.before;
            one = l.one;
            behind = there.after;
            is = there.is;
            at = l.at;
            between = state parts.mid;
            made = each-machine state step old there.before parts.mid parts.front;
            after = state new;
            refused = (l.is_regex, (only-more _ _ _ on o, omega (arith, on.1, l.rose), valid-among all l.one whole l.among l.is_regex));
            rest = only-none (state new);
          };
        }

    pub tried-valid : AreTried state calls old mid all → AreValid all
    tried-valid t = valid-order all t.order t.sorted (each-valid state step old t.order t.reached t.made)

    pub later-refused : (why : PathRefusal) → AreTried state calls old mid all × RefusesNone (state old) (state mid) → OnlyBuilds (state mid) (state new)
        → RefusesSome (state mid) (state new) forest why → RefusesForest (state old) (state new) forest why
    later-refused (BadPattern line) t o r =
        absurd (not-valid all line r (tried-valid t.0))
    later-refused (PatternTooLarge line) t o r = again line t.0 o r
    later-refused (TooManyOffers line) t o r = (tried-valid t.0, r.0 ∙ t.1, r.1)
    later-refused NoMemory t o r = tt

    tried-on : AreTried state calls old mid all → OnlyBuilds (state mid) (state new) → AreTried state calls old new all
    tried-on t o = record { order = t.order; sorted = t.sorted; reached = t.reached; made = t.made; rest = only-more _ _ _ t.rest o }

    pub later-tries : (A : Type 0) (why : PathRefusal) → AreTried state calls old mid all × RefusesNone (state old) (state mid) → OnlyBuilds (state mid) (state new)
        → RefusesSome (state mid) (state new) forest why → TriesPatterns state calls {A = A} old new all (Err why)
    later-tries A (BadPattern line) t o r = tt
    later-tries A (PatternTooLarge line) t o r = inr (record {
      order = t.0.order;
      sorted = t.0.sorted;
      reached = t.0.reached;
      made = t.0.made;
      large = record { one = r.one; among = r.among; at = r.at; is_regex = r.is_regex; rose = let low = t.0.rest.1 in omega (arith, low, r.rose) };
    })
    later-tries A (TooManyOffers line) t o r = tried-on t.0 o
    later-tries A NoMemory t o r = tt

    pub later-made : AreTried state calls old mid all × RefusesNone (state old) (state mid) → OnlyBuilds (state mid) (state new) → RefusesNone (state mid) (state new)
        → AreTried state calls old new all × RefusesNone (state old) (state new)
    later-made t o n = (tried-on t.0 o, n ∙ t.1)

-- what refused a pattern let the count rise
pub large-rose : (patterns : PatternTexts) (line : Line) (old new : WorldState) → IsFirstLarge patterns line old new → Rose old.build_faults new.build_faults
large-rose patterns line old new l =
    let r = l.refused in
    let stayed : r.between.build_faults ≡ old.build_faults = machine-stays old r.front r.between r.made in
    let rose : Rose r.between.build_faults r.after.build_faults = r.refused.1.1 in
    let low : r.after.build_faults ≤ new.build_faults = r.rest.1 in
    omega (arith, stayed, rose, low)
